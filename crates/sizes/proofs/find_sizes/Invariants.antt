use mathlib.Core.Path.{◌≡◌}
use lib.ListN.{length}
use Rattle.basics.specs.Holds.{Holds}
use Rattle.code.specs.Code.{decoded}
use Rattle.sizes.specs.Kept.{kept}
use Rattle.sizes.proofs.find_sizes.Given as goal

abbrev pub invariant-loop-n : goal.invariant-loop-n
invariant-loop-n l = (length l.sizes ≡ length l.initial.sizes) × Holds (kept (decoded l.c)) l.n l.sizes
