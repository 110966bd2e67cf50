use Prim.Native.Nat.{◌<◌}
use Rattle.code.specs.Code.{decoded}
use Rattle.machine.specs.Memory.{memory_of}
use Rattle.state_rule.specs.Chains.{Left}
use Rattle.state_rule.proofs.chained.chain_ok.Given as goal

abbrev pub invariant-loop-n : goal.invariant-loop-n
invariant-loop-n l = (l.f < 65536) × ((l.w < 65536) × Left (decoded l.c) (memory_of l.state) l.p l.n l.f l.w l.i l.top)
