use Rattle.nesting.proofs.Flat.{stmt_none, arm_not, body_stops, body_more, body_less, arms_more, arms_less}
use Rattle.nesting.proofs.+nest.Goals as goal

pub arm_end-returns-in_default : goal.arm_end-returns-in_default
arm_end-returns-in_default t c = arm_not _ _ _ c.stmt_class.ensures c.in_default.not-Arm

pub arms_end-loop-k-smaller : goal.arms_end-loop-k-smaller
arms_end-loop-k-smaller t c = arms_less _ _ _ c.in_ok-k.ensures

pub arms_end-loop-k-preserved : goal.arms_end-loop-k-preserved
arms_end-loop-k-preserved t c = arms_more _ _ _ _ c.loop-k.invariant _ c.in_ok-k.ensures _ c.stmt_class.ensures c.in_default.not-End

pub body_end-loop-k-smaller : goal.body_end-loop-k-smaller
body_end-loop-k-smaller t c = body_less _ _ _ c.in_ok-k.ensures

pub body_end-loop-k-preserved : goal.body_end-loop-k-preserved
body_end-loop-k-preserved t c = body_more _ _ _ c.loop-k.invariant _ c.in_ok-k.ensures _ c.stmt_class.ensures c.in-Simple.is

pub body_end-returns-in-Arm : goal.body_end-returns-in-Arm
body_end-returns-in-Arm t c = body_stops _ _ _ c.loop-k.invariant _ c.in_ok-k.ensures _ c.stmt_class.ensures c.in-Arm.is

pub stmt_end-returns-in_default : goal.stmt_end-returns-in_default
stmt_end-returns-in_default t c = stmt_none _ _ _ c.stmt_class.ensures c.in_default.not-Simple c.in_default.not-Opener
