use Rattle.calls.proofs.Framing.{counts}
use Rattle.calls.proofs.frame.frame_words.Goals as goal

pub returns : goal.returns
returns c = search counts
