-- A pass over the numbers below n: the laws that each such loop's proof is made of. Assumes nothing.
use Prim.Native.Nat.{ℕ, ◌+◌, ◌≤◌, ◌<◌}
use mathlib.Core.Path.{◌≡◌, refl, sym, ◌∙◌}
use mathlib.Core.Bool.{Bool, true, false}
use native.Mathlib.Numerals.{add-one}
use native.Mathlib.Omega.{arith}
use Rattle.basics.specs.Choice.{all_below}
use Rattle.basics.specs.Loops.{Passed}
use Rattle.basics.proofs.Bools.{both_i, all_fail}

module _ (f : ℕ → Bool) where
  pub passed_none : Passed f 0
  unfolding all_below
  passed_none = record { passed = refl }

  module _ (i : ℕ) (r : Bool) (l : r ≡ f i) where
    pub passed_more : Passed f i → r ≡ true → Passed f (i + 1)
    unfolding all_below
    passed_more g e = record { passed = rw (add-one i) (both_i _ _ (sym l ∙ e) g.passed) }

    pub passed_fail : (n : ℕ) → i < n → r ≡ false → false ≡ all_below n f
    passed_fail n h e = sym (all_fail n f i h (sym l ∙ e))

  pub passed_all : (i n : ℕ) → Passed f i → i ≤ n → n ≤ i → true ≡ all_below n f
  passed_all i n g h k = let e : i ≡ n = omega arith in rw (← e) (sym g.passed)

pub ruleset passes = (passed_none, passed_more, passed_fail, passed_all)

-- the same where a local n holds how many numbers there are
module _ (f : ℕ → Bool) (i n m : ℕ) (l : n ≡ m) where
  pub count_fail : (r : Bool) → r ≡ f i → i < n → r ≡ false → false ≡ all_below m f
  count_fail r g h e = passed_fail f i r g m (omega arith) e

  pub count_all : Passed f i → i ≤ n → n ≤ i → true ≡ all_below m f
  count_all g h k = passed_all f i m g (omega arith) (omega arith)

pub ruleset counts = (passed_none, passed_more, count_fail, count_all)
