use Rattle.nesting.proofs.Flat.{blocks_none}
use Rattle.nesting.proofs.all_nested.Goals as goal

pub loop-b-init : goal.loop-b-init
loop-b-init c = blocks_none _
