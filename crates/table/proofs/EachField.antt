-- The fields of an entry, and the sections, in order. Assumes nothing.
use Prim.Native.Nat.{ℕ, zero, suc, ◌+◌, ◌-◌}
use mathlib.Core.Path.{◌≡◌, refl, ap, ◌∙◌}
use mathlib.Core.Bool.{Bool, true, false}
use native.Mathlib.Omega.{arith}
use borrow.Author.Tests.{le-ltb}
use Rattle.basics.specs.Choice.{both, all_below}
use Rattle.table.specs.Table.{Table}
use Rattle.table.specs.Entries.{declared}

-- a test that is followed by none
pub alone : (a : Bool) → both a true ≡ a
unfolding both
alone true = refl
alone false = refl

both_swap : (a b c : Bool) → both a (both b c) ≡ both b (both a c)
unfolding both
both_swap true true c = refl
both_swap true false c = refl
both_swap false true c = refl
both_swap false false c = refl

pub all_first : (n : ℕ) (f : ℕ → Bool) → all_below (suc n) f ≡ both (f 0) (all_below n (λ k. f (suc k)))
unfolding all_below
all_first zero f = refl
all_first (suc n) f = ap (both (f (suc n))) (all_first n f) ∙ both_swap (f (suc n)) (f 0) (all_below n (λ k. f (suc k)))

pub all_two : (f : ℕ → Bool) → all_below 2 f ≡ both (f 0) (both (f 1) true)
unfolding all_below
all_two f = all_first 1 f

pub all_three : (f : ℕ → Bool) → all_below 3 f ≡ both (f 0) (both (f 1) (both (f 2) true))
all_three f = all_first 2 f ∙ ap (both (f 0)) (all_two (λ k. f (suc k)))

pub all_four : (f : ℕ → Bool) → all_below 4 f ≡ both (f 0) (both (f 1) (both (f 2) (both (f 3) true)))
all_four f = all_first 3 f ∙ ap (both (f 0)) (all_three (λ k. f (suc k)))

pub all_five : (f : ℕ → Bool) → all_below 5 f ≡ both (f 0) (both (f 1) (both (f 2) (both (f 3) (both (f 4) true))))
all_five f = all_first 4 f ∙ ap (both (f 0)) (all_four (λ k. f (suc k)))

pub all_six : (f : ℕ → Bool) → all_below 6 f ≡ both (f 0) (both (f 1) (both (f 2) (both (f 3) (both (f 4) (both (f 5) true)))))
all_six f = all_first 5 f ∙ ap (both (f 0)) (all_five (λ k. f (suc k)))

pub all_seven : (f : ℕ → Bool) → all_below 7 f ≡ both (f 0) (both (f 1) (both (f 2) (both (f 3) (both (f 4) (both (f 5) (both (f 6) true))))))
all_seven f = all_first 6 f ∙ ap (both (f 0)) (all_six (λ k. f (suc k)))

-- all entries of a section
pub all_same : (n : ℕ) (f g : ℕ → Bool) → ((i : ℕ) → f i ≡ g i) → all_below n f ≡ all_below n g
unfolding all_below
all_same zero f g h = refl
all_same (suc n) f g h = rw (h n, all_same n f g h)

-- the fields of a declared type
pub declared_is : (T : Table) (i f : ℕ) → declared T (3 + i) f ≡ T.cell 0 i f
unfolding declared
declared_is T i f =
    let e : 3 + i - 3 ≡ i = omega arith in
    rw (le-ltb (3 + i) 3 (omega arith), e)
