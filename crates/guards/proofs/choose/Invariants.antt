use Prim.Native.Nat.{◌-◌}
use Rattle.table.specs.Entries.{stmt_count}
use Rattle.code.specs.Code.{decoded}
use Rattle.machine.specs.Memory.{memory_of}
use Rattle.operands.specs.Ready.{context_in}
use Rattle.guards.specs.Guards.{Choosing}
use Rattle.guards.proofs.choose.Given as goal

abbrev pub invariant-loop-x : goal.invariant-loop-x
invariant-loop-x l = Choosing (decoded l.c) l.k (memory_of l.state) (memory_of l.page) (context_in l.x) l.i l.j

abbrev pub decreases-loop-x : goal.decreases-loop-x
decreases-loop-x l = stmt_count (decoded l.c) - l.j
