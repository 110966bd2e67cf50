use Rattle.operands.proofs.Indexes.{finding}
use Rattle.operands.proofs.places.index_of.Goals as goal

pub returns-then-x-offset_of : goal.returns-then-x-offset_of
returns-then-x-offset_of c = search finding
