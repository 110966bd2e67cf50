-- Sums of what a function gives, and numbers that are kept up to a limit. Assumes nothing.
use Prim.Native.Nat.{ℕ, zero, suc, ◌+◌, ◌*◌, ◌≤◌, ◌<◌, min}
use mathlib.Core.Path.{◌≡◌, refl}
use native.Mathlib.Numerals.{add-one}
use native.Mathlib.Nat.{not-suc-le-zero, mul-le-mul_right}
use native.Mathlib.Omega.{arith}
use lib.Dec.{eqb, leb}
use borrow.Author.Tests.{eqb-true, eqb-false, leb-true, leb-false}
use Rattle.basics.specs.Cases.{cases}
use Rattle.sizes.specs.Sizes.{sum_below}

pub sum_more : (f : ℕ → ℕ) (i : ℕ) → sum_below (i + 1) f ≡ sum_below i f + f i
unfolding sum_below
sum_more f i = rw (add-one i)

pub sum_same : (f g : ℕ → ℕ) (n : ℕ) → ((i : ℕ) → i < n → f i ≡ g i) → sum_below n f ≡ sum_below n g
unfolding sum_below
sum_same f g zero h = refl
sum_same f g (suc n) h = rw (sum_same f g n (λ i l. h i (omega arith)), h n (omega arith))

pub sum_up : (f : ℕ → ℕ) (i n : ℕ) → i ≤ n → sum_below i f ≤ sum_below n f
unfolding sum_below
sum_up f i zero l = let e : i ≡ 0 = omega arith in rw e (omega arith)
sum_up f i (suc n) l =
    cases (leb i n)
    (λ e. let x = sum_up f i n (leb-true i n e) in omega arith)
    (λ e. let x = leb-false i n e in let q : i ≡ suc n = omega arith in rw q (omega arith))

pub sum_least : (f g : ℕ → ℕ) (n : ℕ) → ((i : ℕ) → i < n → f i ≤ g i) → sum_below n f ≤ sum_below n g
unfolding sum_below
sum_least f g zero h = omega arith
sum_least f g (suc n) h = let x = sum_least f g n (λ i l. h i (omega arith)) in let y = h n (omega arith) in omega arith

-- one summand more
pub sum_joined : (f g : ℕ → ℕ) (n k v : ℕ) → k < n → ((i : ℕ) → (i ≡ k → ⊥) → g i ≡ f i) → g k ≡ f k + v → sum_below n g ≡ sum_below n f + v
unfolding sum_below
sum_joined f g zero k v l h e = absurd (not-suc-le-zero l)
sum_joined f g (suc n) k v l h e =
    cases (eqb k n)
    (λ q. let i = eqb-true k n q in let x = sum_same g f n (λ j b. h j (λ z. omega arith)) in let y : g n ≡ f n + v = rw i at e in omega arith)
    (λ q. let i = eqb-false k n q in let x = sum_joined f g n k v (omega arith) h e in let y = h n (λ z. omega arith) in omega arith)

-- a sum is at least each of its summands
pub sum_at : (f : ℕ → ℕ) (n k : ℕ) → k < n → f k ≤ sum_below n f
sum_at f n k l = let x = sum_up f (k + 1) n (omega arith) in let y = sum_more f k in omega arith

-- sums and products of kept numbers, kept, are those of the numbers
module _ (m a x : ℕ) (hx : x ≡ min a m) where
  pub cap_add : (b y r : ℕ) → y ≡ min b m → r ≡ min (x + y) m → r ≡ min (a + b) m
  cap_add b y r hy e = omega arith

  pub cap_mul : (c r : ℕ) → r ≡ min (c * x) m → r ≡ min (c * a) m
  cap_mul c r e =
      cases (leb a m)
      (λ g. let l = leb-true a m g in let q : x ≡ a = omega arith in rw q at e)
      (λ g. let l = leb-false a m g in let q : x ≡ m = omega arith in over c l (rw q at e))
    where
      over : (c : ℕ) → m < a → r ≡ min (c * m) m → r ≡ min (c * a) m
      over zero l e = omega arith
      over (suc c) l e =
          let x : 1 * m ≤ suc c * m = mul-le-mul_right m (omega arith) in
          let y : 1 * a ≤ suc c * a = mul-le-mul_right a (omega arith) in
          omega arith
