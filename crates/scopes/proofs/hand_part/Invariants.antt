use mathlib.Core.Path.{◌≡◌}
use Rattle.basics.specs.Marks.{gather}
use Rattle.scopes.specs.Handed.{with_block, part_node}
use Rattle.scopes.proofs.hand_part.Given as goal

abbrev pub invariant-loop-k : goal.invariant-loop-k
invariant-loop-k l = l.blocks ≡ with_block l.b (gather (part_node l.part l.w) l.k) l.initial.blocks
