use Rattle.table.proofs.Shapes.{at_short}
use Rattle.table.proofs.field_at.Goals as goal

pub returns-then-f-n : goal.returns-then-f-n
returns-then-f-n c = at_short _ _ _ _ c.shorts_of-n.ensures.0 c.shorts_of-n.ensures.1 c.requires.0 c.if-f-n.true
