use Prim.Native.Nat.{◌*◌}
use Rattle.machine.specs.Memory.{memory_of}
use Rattle.machine.specs.Lent.{Becomes}
use Rattle.machine.specs.Marks.{set_marks}
use Rattle.marks.proofs.set_whole.Given as goal

abbrev pub invariant-loop-k : goal.invariant-loop-k
invariant-loop-k l = Becomes l.s (set_marks (memory_of l.initial.s) (l.i * 16) (l.k * 16) l.v)
