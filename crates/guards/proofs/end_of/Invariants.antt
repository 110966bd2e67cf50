use Prim.Native.Nat.{◌-◌}
use Rattle.table.specs.Entries.{stmt_count}
use Rattle.code.specs.Code.{decoded}
use Rattle.guards.specs.Guards.{Linking}
use Rattle.guards.proofs.end_of.Given as goal

abbrev pub invariant-loop-j : goal.invariant-loop-j
invariant-loop-j l = Linking (decoded l.c) l.i l.j

abbrev pub decreases-loop-j : goal.decreases-loop-j
decreases-loop-j l = stmt_count (decoded l.c) - l.j
