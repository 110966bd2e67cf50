use Rattle.values.proofs.Heading.{heading}
use Rattle.values.proofs.heads.head_of.Goals as goal

pub returns-else-x-heads : goal.returns-else-x-heads
returns-else-x-heads c = search heading
