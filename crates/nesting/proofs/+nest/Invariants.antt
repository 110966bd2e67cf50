use Rattle.std.proofs.Common.{◌+◌, ◌-◌, ◌*◌}
use Rattle.code.specs.Code.{decoded}
use Rattle.table.specs.Entries.{stmt_count}
use Rattle.nesting.specs.Ends.{BodyRest, ArmsRest}
use Rattle.nesting.proofs.+nest.Given as goal

abbrev pub decreases-arm_end : goal.decreases-arm_end
decreases-arm_end l = 2 * (stmt_count (decoded l.c.now) - l.i)

abbrev pub decreases-arms_end : goal.decreases-arms_end
decreases-arms_end l = 2 * (stmt_count (decoded l.c.now) - l.i) + 1

abbrev pub decreases-body_end : goal.decreases-body_end
decreases-body_end l = 2 * (stmt_count (decoded l.c.now) - l.i) + 1

abbrev pub decreases-stmt_end : goal.decreases-stmt_end
decreases-stmt_end l = 2 * (stmt_count (decoded l.c.now) - l.i)

abbrev pub invariant-arms_end-loop-k : goal.invariant-arms_end-loop-k
invariant-arms_end-loop-k l = ArmsRest (decoded l.c) l.o l.i l.j

abbrev pub decreases-arms_end-loop-k : goal.decreases-arms_end-loop-k
decreases-arms_end-loop-k l = stmt_count (decoded l.c) - l.j

abbrev pub invariant-body_end-loop-k : goal.invariant-body_end-loop-k
invariant-body_end-loop-k l = BodyRest (decoded l.c) l.i l.j

abbrev pub decreases-body_end-loop-k : goal.decreases-body_end-loop-k
decreases-body_end-loop-k l = stmt_count (decoded l.c) - l.j
