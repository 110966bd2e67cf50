use Prim.Native.Nat.{◌-◌}
use Rattle.machine.specs.Memory.{memory_of, clear}
use Rattle.machine.specs.Lent.{Becomes}
use Rattle.frames.proofs.clear_words.Given as goal

abbrev pub invariant-loop-i : goal.invariant-loop-i
invariant-loop-i l = Becomes l.state (clear (memory_of l.initial.state) l.at (l.i - l.at))
