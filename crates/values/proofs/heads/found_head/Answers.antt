use Rattle.values.proofs.Heading.{heading}
use Rattle.values.proofs.heads.found_head.Goals as goal

pub returns-in_default : goal.returns-in_default
returns-in_default c = search heading
