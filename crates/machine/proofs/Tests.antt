-- Laws of the tests `someBelow`, `between` and `isFailure`. Assumes nothing.
use Prim.Native.Nat.{ℕ, zero, suc, ◌≤◌, ◌<◌}
use mathlib.Core.Path.{◌≡◌, refl, sym, ap, ◌∙◌}
use mathlib.Core.Bool.{Bool, true}
use native.Mathlib.Omega.{arith}
use native.Mathlib.Nat.{not-suc-le-zero}
use lib.Dec.{eqb}
use borrow.Author.Tests.{eqb-true, eqb-false, eq-eqb, le-leb}
use Rattle.basics.specs.Choice.{between}
use Rattle.basics.specs.Cases.{cases}
use Rattle.basics.proofs.Bools.{no_true, between_true, both_i, either_l, either_r, either_case}
use Rattle.machine.specs.Values.{some_below}
use Rattle.machine.specs.Outcomes.{is_failure}

-- ---- a test that holds somewhere

pub some_i : (k : ℕ) (f : ℕ → Bool) (i : ℕ) → i < k → f i ≡ true → some_below k f ≡ true
unfolding some_below
some_i zero f i l e = absurd (not-suc-le-zero l)
some_i (suc k) f i l e =
    cases (eqb i k)
    (λ q. either_l (f k) (some_below k f) (ap f (sym (eqb-true i k q)) ∙ e))
    (λ q. either_r (f k) (some_below k f) (some_i k f i (omega (arith, eqb-false i k q)) e))

pub some_case {ℓ} : {A : Type ℓ} (k : ℕ) (f : ℕ → Bool) → some_below k f ≡ true → ((i : ℕ) → i < k → f i ≡ true → A) → A
unfolding some_below
some_case zero f e g = no_true e
some_case (suc k) f e g =
    either_case (f k) (some_below k f) e
    (λ q. g k (omega arith) q)
    (λ q. some_case k f q (λ i l r. g i (omega arith) r))

-- ---- a number between two

pub range_low : (l h n : ℕ) → between l h n ≡ true → l ≤ n
range_low l h n e = (between_true l h n e).0

pub range_high : (l h n : ℕ) → between l h n ≡ true → n ≤ h
range_high l h n e = (between_true l h n e).1

pub range_i : (l h n : ℕ) → l ≤ n → n ≤ h → between l h n ≡ true
unfolding between
range_i l h n a b = both_i _ _ (le-leb l n a) (le-leb n h b)

-- ---- the number of a failure

pub failure_i : (n : ℕ) → 16 ≤ n → n ≤ 24 → is_failure n ≡ true
unfolding is_failure
failure_i n a b = either_l _ _ (range_i 16 24 n a b)

pub failure_unset : is_failure 31 ≡ true
unfolding is_failure
failure_unset = either_r _ _ (eq-eqb 31 31 refl)

-- it is no other answer, and a byte
pub failure_low : (n : ℕ) → is_failure n ≡ true → 16 ≤ n
unfolding is_failure
failure_low n e = either_case (between 16 24 n) (eqb n 31) e (λ h. range_low _ _ n h) (λ h. let q = eqb-true n 31 h in omega arith)

pub failure_byte : (n : ℕ) → is_failure n ≡ true → n < 256
unfolding is_failure
failure_byte n e =
    either_case (between 16 24 n) (eqb n 31) e
    (λ h. let q = range_high _ _ n h in omega arith)
    (λ h. let q = eqb-true n 31 h in omega arith)
