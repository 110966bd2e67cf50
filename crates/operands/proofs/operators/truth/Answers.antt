use Rattle.std.proofs.Common.{rules}
use Rattle.operands.proofs.Applying.{applies}
use Rattle.operands.proofs.operators.truth.Goals as goal

pub returns : goal.returns
returns c = search (applies, rules)
