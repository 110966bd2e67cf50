use Rattle.code.specs.Code.{decoded}
use Rattle.values.specs.Jumps.{Leads}
use Rattle.values.proofs.jumps.lowest.Given as goal

abbrev pub invariant-loop-j : goal.invariant-loop-j
invariant-loop-j l = Leads (decoded l.c) l.y l.x l.z × Leads (decoded l.c) l.y l.z l.j

abbrev pub decreases-loop-j : goal.decreases-loop-j
decreases-loop-j l = l.z
