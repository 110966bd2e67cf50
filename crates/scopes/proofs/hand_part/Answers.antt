use Rattle.scopes.proofs.Scoping.{parts}
use Rattle.scopes.proofs.hand_part.Goals as goal

pub loop-k-preserved : goal.loop-k-preserved
loop-k-preserved c = search parts
