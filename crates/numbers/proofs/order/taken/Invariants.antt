use Rattle.std.proofs.Common.{ℕ, Bool}
use Rattle.basics.specs.Chain.{step_take, test_take}
use Rattle.basics.specs.Loops.{Chain}
use Rattle.numbers.specs.Takes.{Takes}
use Rattle.numbers.proofs.order.taken.Given as goal

abbrev pub invariant-loop-i : goal.invariant-loop-i
invariant-loop-i g l =
    (takes : ℕ → Bool) (first count : ℕ → ℕ) → ((i : ℕ) (r : _) → goal.F-post g l.row i r → Takes takes first count i r)
    → Chain (step_take takes first count) (test_take takes first) l.i l.free
