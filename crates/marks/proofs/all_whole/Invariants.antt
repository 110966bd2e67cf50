use Prim.Native.Nat.{◌*◌}
use mathlib.Core.Path.{◌≡◌}
use mathlib.Core.Bool.{true}
use Rattle.machine.specs.Memory.{memory_of}
use Rattle.machine.specs.Marks.{all_marked}
use Rattle.marks.proofs.all_whole.Given as goal

abbrev pub invariant-loop-k : goal.invariant-loop-k
invariant-loop-k l = all_marked (memory_of l.s) (l.i * 16) (l.k * 16) ≡ true
