use Prim.Native.Nat.{◌-◌, ◌<◌}
use mathlib.Core.Path.{◌≡◌}
use Rattle.machine.specs.Memory.{memory_of}
use Rattle.machine.specs.Rule.{worked}
use Rattle.state_rule.proofs.working.has_worked.Given as goal

abbrev pub invariant-loop-i : goal.invariant-loop-i
invariant-loop-i l = (l.g < 65536) × (worked (memory_of l.state) l.p (l.d - l._i) l.g l.v l.r ≡ worked (memory_of l.state) l.p l.d l.f l.w l.r)
