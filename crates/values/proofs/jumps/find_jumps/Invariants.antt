use mathlib.Core.Path.{◌≡◌}
use lib.ListN.{length}
use Rattle.code.specs.Code.{decoded}
use Rattle.values.specs.Jumps.{JumpsTo}
use Rattle.values.proofs.jumps.find_jumps.Given as goal

abbrev pub invariant-loop-x : goal.invariant-loop-x
invariant-loop-x l = (length l.jumps ≡ length l.initial.jumps) × JumpsTo (decoded l.c) l.x l.jumps
