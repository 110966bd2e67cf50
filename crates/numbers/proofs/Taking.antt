-- The loop over rows that take numbers: what it reads of a row is the row's test and step. Assumes nothing.
use Prim.Native.Nat.{ℕ, ◌+◌}
use mathlib.Core.Path.{◌≡◌, sym, ◌∙◌}
use mathlib.Core.Bool.{Bool, true, false}
use borrow.Author.Tests.{eq-eqb, ne_eqb}
use Rattle.std.proofs.Common.{Option, Some, None}
use Rattle.basics.specs.Chain.{step_take, test_take}
use Rattle.numbers.specs.Takes.{Takes}

module _ (takes : ℕ → Bool) (first count : ℕ → ℕ) (i j : ℕ) (r : Option (ℕ × ℕ)) (h : Takes takes first count i r) where
  module _ (p q : ℕ) (e : r ≡ Some (p, q)) where
    told : (takes i ≡ true) × (p ≡ first i) × (q ≡ count i)
    told = rw e at h

    pub row_ok : p ≡ j → test_take takes first i j ≡ true
    unfolding test_take
    row_ok d = rw told.0 (eq-eqb (first i) j (sym told.1 ∙ d))

    pub row_bad : (p ≡ j → ⊥) → test_take takes first i j ≡ false
    unfolding test_take
    row_bad d = rw told.0 (ne_eqb (first i) j (λ g. d (told.1 ∙ g)))

    pub row_step : p + q ≡ step_take takes first count i j
    unfolding step_take
    row_step = rw (told.0, told.1, told.2)

  module _ (e : r ≡ None) where
    untold : takes i ≡ false
    untold = rw e at h

    pub pass_ok : test_take takes first i j ≡ true
    unfolding test_take
    pass_ok = rw untold

    pub pass_step : j ≡ step_take takes first count i j
    unfolding step_take
    pass_step = rw untold
