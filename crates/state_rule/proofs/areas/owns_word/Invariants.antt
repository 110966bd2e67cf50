use Prim.Native.Nat.{◌-◌, ◌<◌}
use mathlib.Core.Path.{◌≡◌}
use Rattle.code.specs.Code.{decoded}
use Rattle.machine.specs.Memory.{memory_of}
use Rattle.machine.specs.Rule.{owns}
use Rattle.state_rule.proofs.areas.owns_word.Given as goal

abbrev pub invariant-loop-i : goal.invariant-loop-i
invariant-loop-i l = (l.g < 65536) × (owns (decoded l.c) (memory_of l.state) l.p (l.d - l._i) l.g l.y l.k ≡ owns (decoded l.c) (memory_of l.state) l.p l.d l.f l.y l.k)
