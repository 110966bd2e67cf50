use Rattle.calls.proofs.Putting.{fills}
use Rattle.calls.proofs.arguments.put_fitted.Goals as goal

pub returns-then-want-k : goal.returns-then-want-k
returns-then-want-k c = search fills

pub returns : goal.returns
returns c = search fills
