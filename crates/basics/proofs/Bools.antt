-- Laws of choices, conjunction, disjunction and `all_below`. Assumes nothing.
use mathlib.Core.Path.{◌≡◌, refl, sym, ap, ◌∙◌, subst}
use mathlib.Core.Bool.{Bool, true, false}
use Prim.Native.Nat.{ℕ, zero, suc, ◌<◌, ◌≤◌}
use native.Mathlib.Omega.{arith}
use native.Mathlib.Nat.{not-suc-le-zero}
use lib.Dec.{T, eqb}
use borrow.Author.Tests.{eqb-true, eqb-false, leb-true}
use Rattle.basics.specs.Choice.{pick, both, either, between, all_below}
use Rattle.basics.specs.Cases.{cases}

pub no_true {ℓ} : {A : Type ℓ} → false ≡ true → A
no_true e = absurd (subst T (sym e) tt)

pub both_l : (a b : Bool) → both a b ≡ true → a ≡ true
unfolding both
both_l true b e = refl
both_l false b e = e

pub both_r : (a b : Bool) → both a b ≡ true → b ≡ true
unfolding both
both_r true b e = e
both_r false b e = cc

pub both_i : (a b : Bool) → a ≡ true → b ≡ true → both a b ≡ true
unfolding both
both_i a b p q = cc

pub both_false_l : (a b : Bool) → a ≡ false → both a b ≡ false
unfolding both
both_false_l a b p = cc

pub both_false_r : (a b : Bool) → b ≡ false → both a b ≡ false
unfolding both
both_false_r true b p = p
both_false_r false b p = refl

pub either_l : (a b : Bool) → a ≡ true → either a b ≡ true
unfolding either
either_l a b e = rw e

pub either_r : (a b : Bool) → b ≡ true → either a b ≡ true
unfolding either
either_r true b e = refl
either_r false b e = e

pub either_case {ℓ} : {A : Type ℓ} (a b : Bool) → either a b ≡ true → (a ≡ true → A) → (b ≡ true → A) → A
unfolding either
either_case true b e f g = f refl
either_case false b e f g = g e

pub between_true : (a b x : ℕ) → between a b x ≡ true → (a ≤ x) × (x ≤ b)
unfolding between
between_true a b x e = (leb-true a x (both_l _ _ e), leb-true x b (both_r _ _ e))

pub all-at : (k : ℕ) (f : ℕ → Bool) → all_below k f ≡ true → (i : ℕ) → i < k → f i ≡ true
unfolding all_below
all-at zero f e i h = absurd (not-suc-le-zero h)
all-at (suc k) f e i h =
    cases (eqb i k)
    (λ q. ap f (eqb-true i k q) ∙ both_l (f k) (all_below k f) e)
    (λ q. all-at k f (both_r (f k) (all_below k f) e) i (omega (arith, eqb-false i k q)))

pub all_i : (k : ℕ) (f : ℕ → Bool) → ((i : ℕ) → i < k → f i ≡ true) → all_below k f ≡ true
unfolding all_below
all_i zero f h = refl
all_i (suc k) f h = both_i (f k) (all_below k f) (h k (omega arith)) (all_i k f (λ i l. h i (omega arith)))

pub all_fail : (k : ℕ) (f : ℕ → Bool) (i : ℕ) → i < k → f i ≡ false → all_below k f ≡ false
all_fail k f i h e = cases (all_below k f) (λ q. no_true (sym e ∙ all-at k f q i h)) (λ q. q)

-- a choice that ends in 0 went by its test
pub zero_test : (c : Bool) (x k : ℕ) → (k ≡ 0 → ⊥) → pick c x k ≡ 0 → (c ≡ true) × (x ≡ 0)
zero_test true x k n e = (refl, e)
zero_test false x k n e = absurd (n e)
