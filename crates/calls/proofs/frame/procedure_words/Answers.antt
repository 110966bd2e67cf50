use Rattle.calls.proofs.Limits.{room_call}
use Rattle.calls.proofs.frame.procedure_words.Goals as goal

pub returns : goal.returns
returns c = search room_call
