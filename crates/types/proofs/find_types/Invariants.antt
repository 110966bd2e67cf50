use mathlib.Core.Path.{◌≡◌}
use lib.ListN.{length}
use Rattle.basics.specs.Holds.{Holds}
use Rattle.code.specs.Code.{decoded}
use Rattle.types.specs.Types.{type_of}
use Rattle.types.proofs.find_types.Given as goal

abbrev pub invariant-loop-n : goal.invariant-loop-n
invariant-loop-n l = (length l.types ≡ length l.initial.types) × Holds (type_of (decoded l.c)) l.n l.types
