use Rattle.types.proofs.Finding.{nodes}
use Rattle.types.proofs.node_type.Goals as goal

pub returns-in_default : goal.returns-in_default
returns-in_default c = search nodes
