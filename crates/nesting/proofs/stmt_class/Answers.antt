use Rattle.nesting.proofs.Flat.{class_missing}
use Rattle.nesting.proofs.stmt_class.Goals as goal

pub returns : goal.returns
returns c = class_missing _ _ _ c.statements.ensures c.if-i-statements.false
