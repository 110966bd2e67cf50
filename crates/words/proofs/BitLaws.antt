-- not, and, or on integers are those of each bit; on booleans they give booleans. Assumes nothing.
use Prim.Native.Nat.{ℕ, zero, suc, ◌-◌, ◌/◌, ◌^◌, min, max, ◌<◌, ◌≤◌}
use mathlib.Core.Path.{◌≡◌, refl, ap}
use native.Mathlib.Nat.{pow-suc}
use native.Mathlib.Omega.{arith}
use borrow.Author.Tests.{lt-ltb, le-ltb, ltb-true, ltb-false}
use lib.Bits.{bit_and, bit_or, and_step, or_step, and_lt, or_lt}
use lib.Dec.{eqb, ltb}
use lib.IntN.{pos, negsuc, ◌-ℤ◌}
use Rattle.basics.specs.Cases.{cases}
use Rattle.words.specs.Numbers.{int_of}
use Rattle.words.specs.Operators.{bit, not_w, and_w, or_w, not_b, and_b, or_b}

pub and_bit : (k a b : ℕ) → bit k (and_w a b) ≡ min (bit k a) (bit k b)
unfolding bit
and_bit zero a b = omega (arith, and_step a b)
and_bit (suc k) a b = let h : bit_and a b / 2 ≡ bit_and (a / 2) (b / 2) = omega (arith, and_step a b) in rw h (and_bit k (a / 2) (b / 2))

pub or_bit : (k a b : ℕ) → bit k (or_w a b) ≡ max (bit k a) (bit k b)
unfolding bit
or_bit zero a b = omega (arith, or_step a b)
or_bit (suc k) a b = let h : bit_or a b / 2 ≡ bit_or (a / 2) (b / 2) = omega (arith, or_step a b) in rw h (or_bit k (a / 2) (b / 2))

-- for any width n
pub not_bit : (k n a : ℕ) → k < n → a < 2 ^ n → bit k (2 ^ n - 1 - a) ≡ 1 - bit k a
unfolding bit
not_bit k zero a h l = absurd (omega arith)
not_bit zero (suc n) a h l = let p = pow-suc 2 n in omega arith
not_bit (suc k) (suc n) a h l =
    let p = pow-suc 2 n in
    let e : (2 ^ suc n - 1 - a) / 2 ≡ 2 ^ n - 1 - a / 2 = omega arith in
    rw e (not_bit k n (a / 2) (omega arith) (omega arith))

pub not_word_bit : (k a : ℕ) → k < 16 → a < 65536 → bit k (not_w a) ≡ 1 - bit k a
not_word_bit k a h l = not_bit k 16 a h l

-- not x is -1 - x
pub not_int : (a : ℕ) → a < 65536 → int_of (not_w a) ≡ negsuc 0 -ℤ int_of a
not_int a k =
    cases (ltb a 32768)
    (λ e. let h = ltb-true a 32768 e in rw (e, le-ltb (65535 - a) 32768 (omega arith)) (low a (omega arith)))
    (λ e. let h = ltb-false a 32768 e in rw (e, lt-ltb (65535 - a) 32768 (omega arith)) (high (65535 - a) (65536 - suc a) (omega arith)))
  where
    low : (n : ℕ) → n < 65536 → negsuc (65536 - suc (65535 - n)) ≡ negsuc 0 -ℤ pos n
    low zero l = refl
    low (suc n) l = ap negsuc (omega arith)

    high : (m n : ℕ) → m ≡ n → pos m ≡ negsuc 0 -ℤ negsuc n
    high m n e = rw (le-ltb (suc n) 1 (omega arith)) (ap pos (omega arith))

-- ---- results are words, and booleans
pub and_word : (a b : ℕ) → a < 65536 → b < 65536 → and_w a b < 65536
and_word a b h k = and_lt 16 a b h k

pub or_word : (a b : ℕ) → a < 65536 → b < 65536 → or_w a b < 65536
or_word a b h k = or_lt 16 a b h k

pub not_boolean : (x : ℕ) → not_b x ≤ 1
unfolding not_b
not_boolean x = cases (eqb x 0) (λ e. rw e (omega arith)) (λ e. rw e (omega arith))

module _ (x y : ℕ) (h : x ≤ 1) where
  pub and_boolean : and_b x y ≤ 1
  unfolding and_b
  and_boolean = cases (eqb y 0) (λ e. rw e (omega arith)) (λ e. rw e h)

  pub or_boolean : or_b x y ≤ 1
  unfolding or_b
  or_boolean = cases (eqb y 0) (λ e. rw e h) (λ e. rw e (omega arith))
