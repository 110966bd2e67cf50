use mathlib.Core.Path.{◌≡◌}
use lib.ListN.{length}
use Rattle.code.specs.Code.{decoded}
use Rattle.scopes.proofs.Handing.{Downward}
use Rattle.scopes.proofs.nodes_scoped.Given as goal

abbrev pub invariant-loop-n : goal.invariant-loop-n
invariant-loop-n l = (length l.blocks ≡ length l.initial.blocks) × Downward (decoded l.c) l.n l.blocks
