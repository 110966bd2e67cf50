-- The law of recursion on all smaller numbers, and of induction on them. Assumes nothing.
use Prim.Native.Nat.{ℕ, zero, suc, ◌<◌, ◌≤◌}
use mathlib.Core.Bool.{Bool, true, false}
use mathlib.Core.Path.{◌≡◌, refl, ap, ◌∙◌}
use native.Mathlib.Omega.{arith}
use native.Mathlib.Nat.{not-suc-le-zero}
use lib.Dec.{ltb, eqb}
use borrow.Author.Tests.{lt-ltb, le-ltb, ltb-true, ltb-false, eqb-true, eqb-false}
use Rattle.basics.specs.Choice.{pick}
use Rattle.basics.specs.Course.{upto, course}

module _ {A : Type 0} (d : A) (F : ℕ → (ℕ → A) → A) where
  pub upto_is : (n p : ℕ) → upto d F n p ≡ pick (ltb p n) (course d F p) d
  unfolding upto course
  upto_is zero p = rw (le-ltb p 0 (omega arith))
  upto_is (suc k) p = go (upto_is k p) (eqb p k) refl (ltb p k) refl
    where
      go : upto d F k p ≡ pick (ltb p k) (course d F p) d → (b : Bool) → eqb p k ≡ b → (e : Bool) → ltb p k ≡ e → pick (eqb p k) (F k (upto d F k)) (upto d F k p) ≡ pick (ltb p (suc k)) (course d F p) d
      go ih true x e y = let q : p ≡ k = eqb-true p k x in rw (x, q, lt-ltb k (suc k) (omega arith))
      go ih false x true y = let h : p < k = ltb-true p k y in rw (x, ih, y, lt-ltb p (suc k) (omega arith))
      go ih false x false y = let h : k ≤ p = ltb-false p k y in let u : p ≡ k → ⊥ = eqb-false p k x in rw (x, ih, y, le-ltb p (suc k) (omega arith))

  pub upto_below : (n p : ℕ) → p < n → upto d F n p ≡ course d F p
  upto_below n p h = upto_is n p ∙ rw (lt-ltb p n h)

  pub upto_above : (n p : ℕ) → n ≤ p → upto d F n p ≡ d
  upto_above n p h = upto_is n p ∙ rw (le-ltb p n h)

  pub course_is : (n : ℕ) → course d F n ≡ F n (λ p. pick (ltb p n) (course d F p) d)
  unfolding course
  course_is n = ap (F n) (λ i p. upto_is n p i)

-- a number below which P always holds has P: so every number has it
module _ (P : ℕ → Type 0) (step : (n : ℕ) → ((k : ℕ) → k < n → P k) → P n) where
  all_lower : (n k : ℕ) → k < n → P k
  all_lower zero k l = absurd (not-suc-le-zero l)
  all_lower (suc n) k l = step k (λ j g. all_lower n j (omega arith))

  pub strong : (n : ℕ) → P n
  strong n = step n (all_lower n)
