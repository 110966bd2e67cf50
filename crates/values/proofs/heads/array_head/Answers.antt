use Rattle.values.proofs.Heading.{arrayheads}
use Rattle.values.proofs.heads.array_head.Goals.{then-elements_of-eq1, else-elements_of-eq1}
use Rattle.values.proofs.heads.array_head.Goals as goal

pub returns-then-x-q : goal.returns-then-x-q
returns-then-x-q c = search arrayheads

pub returns-then-not-has_parts : goal.returns-then-not-has_parts
returns-then-not-has_parts c = elim c.if-elements_of-eq1.branch [
  | then-elements_of-eq1 w ↦ search arrayheads
  | else-elements_of-eq1 w ↦ search arrayheads
]

pub returns-else-not-has_parts : goal.returns-else-not-has_parts
returns-else-not-has_parts c = search arrayheads
