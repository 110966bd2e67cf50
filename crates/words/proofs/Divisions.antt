-- Division by sign and magnitude is that of the integers. Assumes nothing.
use Prim.Native.Nat.{ℕ, zero, suc, ◌-◌, ◌/◌, ◌%◌, min, ◌<◌, ◌≤◌}
use mathlib.Core.Path.{◌≡◌, refl}
use mathlib.Core.Bool.{Bool, true, false, not, beq}
use native.Mathlib.Nat.{zero-div, zero-mod, div-zero, div-le_self, mod-le}
use native.Mathlib.Omega.{arith}
use borrow.Author.Tests.{lt-ltb, le-ltb, leb-true, leb-false, ne_eqb}
use lib.Dec.{leb}
use lib.IntN.{ℤ, negsuc, neg_ℤ, pos, nat_abs}
use lib.Signed.{quot_z, rem_z}
use mir.Syntax.{w16, w32}
use mir.Val.{Fits, SFits, to_z, of_z}
use mir.ValLaws.{to_z-of_z}
use Rattle.basics.specs.Cases.{cases}
use Rattle.words.specs.Numbers.{int_of}
use Rattle.words.specs.Magnitudes.{negative, magnitude_of, signed_z}
use Rattle.words.specs.Outcomes.{WordOutcome, fail}
use Rattle.words.specs.Operators.{ranged, div_w, mod_w}
use Rattle.words.proofs.Arithmetic.{fits_minus}

abbrev differ : Bool → Bool → Bool
differ s t = not (beq s t)

minus_of : (k : ℕ) → 32768 ≤ k → k < 65536 → negsuc (65536 - suc k) ≡ neg_ℤ (pos (65536 - k))
minus_of k h l = let e : 65536 - k ≡ suc (65536 - suc k) = omega arith in rw e

pub by_magnitude : (a : ℕ) → a < 65536 → int_of a ≡ signed_z (negative a) (magnitude_of a)
by_magnitude a h =
    cases (leb 32768 a)
    (λ e. let k = leb-true 32768 a e in let m : min a (65536 - a) ≡ 65536 - a = omega arith in rw (e, le-ltb a 32768 k, m) (minus_of a k h))
    (λ e. let k = leb-false 32768 a e in let m : min a (65536 - a) ≡ a = omega arith in rw (e, lt-ltb a 32768 k, m))

quot_sign : (s t : Bool) (m n : ℕ) → quot_z (signed_z s m) (signed_z t n) ≡ signed_z (differ s t) (m / n)
quot_sign false false m n = refl
quot_sign false true m zero = rw div-zero
quot_sign false true m (suc n) = refl
quot_sign true false zero n = rw zero-div
quot_sign true false (suc m) n = refl
quot_sign true true zero zero = refl
quot_sign true true zero (suc n) = rw zero-div
quot_sign true true (suc m) zero = rw div-zero
quot_sign true true (suc m) (suc n) = refl

abs_sign : (t : Bool) (n : ℕ) → nat_abs (signed_z t n) ≡ n
abs_sign true zero = refl
abs_sign true (suc n) = refl
abs_sign false n = refl

rem_sign : (s t : Bool) (m n : ℕ) → rem_z (signed_z s m) (signed_z t n) ≡ signed_z s (m % n)
rem_sign false t m n = rw (abs_sign t n)
rem_sign true t zero n = rw (abs_sign t n, zero-mod)
rem_sign true t (suc m) n = rw (abs_sign t n)

-- a result of sign and magnitude is a number of 32 bits
fits_signed : (s : Bool) (m : ℕ) → m ≤ 32768 → SFits w32 (signed_z s m)
fits_signed true m h = fits_minus m h
fits_signed false m h = omega arith

magnitude_le : (a : ℕ) → magnitude_of a ≤ 32768
magnitude_le a = omega arith

-- the code's locals: a sign s, magnitudes m and n, and z made of them
module _ (a b : ℕ) (fa : Fits w16 a) (fb : Fits w16 b) (nz : b ≡ 0 → ⊥) (r : WordOutcome) (z : ℤ) (m n : ℕ) (em : m ≡ magnitude_of a) (en : n ≡ magnitude_of b) where
  pub quotient_returns : (s t : Bool) (q : ℕ) → s ≡ negative a → t ≡ negative b → q ≡ m / n → z ≡ signed_z (differ s t) q → r ≡ ranged (to_z w32 (of_z w32 z)) → r ≡ div_w a b
  unfolding div_w
  quotient_returns s t q es et eq ez e =
      let h : q ≤ 32768 = omega (arith, div-le_self m n, magnitude_le a) in
      let x = rw (ez, to_z-of_z w32 _ (fits_signed (differ s t) q h), eq, es, et, em, en) at e in
      rw (ne_eqb b 0 nz, by_magnitude a fa.fits, by_magnitude b fb.fits, quot_sign (negative a) (negative b) (magnitude_of a) (magnitude_of b)) x

  pub remainder_returns : (s : Bool) → s ≡ negative a → z ≡ signed_z s (m % n) → r ≡ ranged (to_z w32 (of_z w32 z)) → r ≡ mod_w a b
  unfolding mod_w
  remainder_returns s es ez e =
      let h : m % n ≤ 32768 = omega (arith, mod-le m n, magnitude_le a) in
      let x = rw (ez, to_z-of_z w32 _ (fits_signed s (m % n) h), es, em, en) at e in
      rw (ne_eqb b 0 nz, by_magnitude a fa.fits, by_magnitude b fb.fits, rem_sign (negative a) (negative b) (magnitude_of a) (magnitude_of b)) x

pub quotient_le : (m n q : ℕ) → q ≡ m / n → m ≤ 32768 → q ≤ 32768
quotient_le m n q e h = omega (arith, div-le_self m n)

pub remainder_le : (m n : ℕ) → m ≤ 32768 → m % n ≤ 32768
remainder_le m n h = omega (arith, mod-le m n)

module _ (a b : ℕ) (z : b ≡ 0) where
  pub divisor_zero : fail 17 ≡ div_w a b
  unfolding div_w
  divisor_zero = rw z

  pub modulus_zero : fail 17 ≡ mod_w a b
  unfolding mod_w
  modulus_zero = rw z

pub ruleset divisions = (quotient_returns, remainder_returns, quotient_le, remainder_le, divisor_zero, modulus_zero)
