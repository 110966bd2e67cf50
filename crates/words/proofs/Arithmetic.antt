-- What the code's operations in 32 bits come to: conversions, the test of a range, sums, differences, products. Assumes nothing.
use Prim.Native.Nat.{ℕ, zero, suc, ◌+◌, ◌*◌, ◌-◌, ◌<◌, ◌≤◌}
use mathlib.Core.Path.{◌≡◌, sym, ap, ◌∙◌}
use mathlib.Core.Bool.{Bool, true, false, cond}
use native.Mathlib.Omega.{arith}
use native.Mathlib.Nat.{mul-le-mul, le_trans}
use lib.Bits.{bit_and, and_mask}
use lib.Dec.{T, ltb}
use lib.IntN.{ℤ, pos, negsuc, neg_ℤ, nat_abs, ◌+ℤ◌, ◌-ℤ◌, ◌*ℤ◌, sub_ℕ, +ℤ_idl}
use lib.Signed.{mag, non_neg, lt_z, le_z}
use mir.Syntax.{w16, w32}
use mir.Val.{Fits, SFits, to_z, of_z}
use mir.Facts.{sfits_widen}
use mir.ValLaws.{to_z-of_z, to_z_pos, to_z-Fits}
use Rattle.std.proofs.lemmas.Int.{ints}
use Rattle.std.specs.Ordering.{partial_le}
use Rattle.std.specs.Range.{range_inclusive_contains, range_inclusive_start, range_inclusive_end, range_inclusive_exhausted}
use Rattle.std.specs.declared.ops.RangeInclusive.{RangeInclusive}
use Rattle.std.specs.contracts.prelude.I32PartialOrd.TheImpl as order
use Rattle.basics.specs.Cases.{cases}
use Rattle.basics.specs.Choice.{both}
use Rattle.words.specs.Numbers.{int_of, word_of_z, between_z}
use Rattle.words.specs.Outcomes.{WordOutcome, word, fail}
use Rattle.words.specs.Operators.{ranged, add_w, sub_w, neg_w, mul_w, lt_w, le_w}
use Rattle.words.proofs.Integers.{word_lt, in_range_mag}

-- ---- from a word to a number of 32 bits
fits_int : (w : ℕ) → Fits w16 w → SFits w32 (int_of w)
fits_int w f = sfits_widen tt (to_z-Fits w16 w f)

pub back : {w : ℕ} {z : ℤ} → z ≡ int_of w → Fits w16 w → to_z w32 (of_z w32 z) ≡ int_of w
back {w} e f = rw e (to_z-of_z w32 (int_of w) (fits_int w f))

-- ---- of a sign and a magnitude
mag_minus : (n : ℕ) → mag (neg_ℤ (pos n)) ≤ n
mag_minus zero = omega arith
mag_minus (suc n) = omega arith

pub fits_minus : (m : ℕ) → m ≤ 32768 → SFits w32 (neg_ℤ (pos m))
fits_minus m h = omega (arith, mag_minus m)

-- ---- a range, as `contains` tests it
le_is : (a b : ℤ) → partial_le (order.partial_cmp-value).it a b ≡ le_z a b
le_is a b = grind (arith, ints)

module _ (b : Bool) (low high z : ℤ) (s : RangeInclusive ℤ) where
  pub contained : b ≡ range_inclusive_contains (order.partial_cmp-value).it s z → range_inclusive_start s ≡ low → range_inclusive_end s ≡ high → range_inclusive_exhausted s ≡ false → b ≡ between_z low high z
  unfolding between_z both
  contained e l h x = e ∙ rw (l, h, x, le_is low z, le_is z high) (cases (le_z low z) (λ t. rw t) (λ t. rw t))

-- the low 16 bits of an integer
low_bits : (z : ℤ) → mag z < 32768 → bit_and (of_z w32 z) 65535 ≡ word_of_z z
low_bits (pos n) h = and_mask n 16 ∙ omega arith
low_bits (negsuc n) h = and_mask (4294967296 - suc n) 16 ∙ omega arith

module _ (z : ℤ) (f : SFits w32 z) (b : Bool) (e : b ≡ between_z (negsuc 32767) (pos 32767) (to_z w32 (of_z w32 z))) where
  tested : b ≡ between_z (negsuc 32767) (pos 32767) z
  tested = rw (to_z-of_z w32 z f) at e

  module _ (t : b ≡ true) where
    small : mag z < 32768
    small = in_range_mag z (sym tested ∙ t)

    cast : to_z w32 (bit_and (of_z w32 z) 65535) ≡ pos (word_of_z z)
    cast = let k = word_lt z small in rw (low_bits z small) (to_z_pos w32 (word_of_z z) (omega arith))

    pub cast_sign : T (non_neg (to_z w32 (bit_and (of_z w32 z) 65535)))
    cast_sign = rw cast tt

    pub cast_fits : Fits w16 (nat_abs (to_z w32 (bit_and (of_z w32 z) 65535)))
    cast_fits = rw cast (record { fits = word_lt z small })

    pub word_returns : word (nat_abs (to_z w32 (bit_and (of_z w32 z) 65535))) ≡ ranged z
    unfolding ranged
    word_returns = rw (cast, ← tested, t)

  pub fail_returns : b ≡ false → fail 16 ≡ ranged z
  unfolding ranged
  fail_returns t = rw (← tested, t)

pub ruleset conversions = (contained, cast_sign, cast_fits, word_returns, fail_returns)

-- ---- how large a result is
mag_sub : (a b : ℕ) → mag (sub_ℕ a b) ≤ a + b
mag_sub a b = by_test (ltb a b)
  where
    by_test : (t : Bool) → mag (cond t (negsuc (b - suc a)) (pos (a - b))) ≤ a + b
    by_test true = omega arith
    by_test false = omega arith

mag_add : (a b : ℤ) → mag (a +ℤ b) ≤ mag a + mag b + 1
mag_add (pos a) (pos b) = omega arith
mag_add (pos a) (negsuc b) = omega (arith, mag_sub a (suc b))
mag_add (negsuc a) (pos b) = omega (arith, mag_sub b (suc a))
mag_add (negsuc a) (negsuc b) = omega arith

mag-neg : (a : ℤ) → mag (neg_ℤ a) ≤ mag a + 1
mag-neg (pos zero) = omega arith
mag-neg (pos (suc n)) = omega arith
mag-neg (negsuc n) = omega arith

product : {a b : ℕ} → a ≤ 32768 → b ≤ 32768 → a * b ≤ 1073741824
product h k = mul-le-mul h k

mag_mul : (a b : ℤ) → mag a < 32768 → mag b < 32768 → mag (a *ℤ b) ≤ 1073741824
mag_mul (pos a) (pos b) h k = product (omega arith) (omega arith)
mag_mul (pos a) (negsuc b) h k = le_trans (mag_minus (a * suc b)) (product (omega arith) k)
mag_mul (negsuc a) (pos b) h k = le_trans (mag_minus (suc a * b)) (product h (omega arith))
mag_mul (negsuc a) (negsuc b) h k = product h k

module _ {a b : ℕ} (fa : Fits w16 a) (fb : Fits w16 b) where
  fits_add : SFits w32 (int_of a +ℤ int_of b)
  fits_add = omega (arith, mag_add (int_of a) (int_of b), to_z-Fits w16 a fa, to_z-Fits w16 b fb)

  fits_sub : SFits w32 (int_of a -ℤ int_of b)
  fits_sub = omega (arith, mag_add (int_of a) (neg_ℤ (int_of b)), mag-neg (int_of b), to_z-Fits w16 a fa, to_z-Fits w16 b fb)

  fits_mul : SFits w32 (int_of a *ℤ int_of b)
  fits_mul = omega (arith, mag_mul (int_of a) (int_of b) (to_z-Fits w16 a fa).sfits (to_z-Fits w16 b fb).sfits)

-- ---- operations on two locals that hold integers of words
module _ (a b : ℕ) (fa : Fits w16 a) (fb : Fits w16 b) (x y : ℤ) (ea : x ≡ int_of a) (eb : y ≡ int_of b) where
  reads : {X : Type 0} (op : ℤ → ℤ → X) → op (to_z w32 (of_z w32 x)) (to_z w32 (of_z w32 y)) ≡ op (int_of a) (int_of b)
  reads op = rw (back ea fa, back eb fb)

  gives : (op : ℤ → ℤ → ℤ) → SFits w32 (op (int_of a) (int_of b)) → to_z w32 (of_z w32 (op (to_z w32 (of_z w32 x)) (to_z w32 (of_z w32 y)))) ≡ op (int_of a) (int_of b)
  gives op h = rw (reads op) (to_z-of_z w32 (op (int_of a) (int_of b)) h)

  pub add-fits : SFits w32 (to_z w32 (of_z w32 x) +ℤ to_z w32 (of_z w32 y))
  add-fits = rw (reads ◌+ℤ◌) (fits_add fa fb)

  pub sub-fits : SFits w32 (to_z w32 (of_z w32 x) -ℤ to_z w32 (of_z w32 y))
  sub-fits = rw (reads ◌-ℤ◌) (fits_sub fa fb)

  pub mul-fits : SFits w32 (to_z w32 (of_z w32 x) *ℤ to_z w32 (of_z w32 y))
  mul-fits = rw (reads ◌*ℤ◌) (fits_mul fa fb)

  module _ (r : WordOutcome) where
    pub add_returns : r ≡ ranged (to_z w32 (of_z w32 (to_z w32 (of_z w32 x) +ℤ to_z w32 (of_z w32 y)))) → r ≡ add_w a b
    unfolding add_w
    add_returns e = e ∙ ap ranged (gives ◌+ℤ◌ (fits_add fa fb))

    pub sub_returns : r ≡ ranged (to_z w32 (of_z w32 (to_z w32 (of_z w32 x) -ℤ to_z w32 (of_z w32 y)))) → r ≡ sub_w a b
    unfolding sub_w
    sub_returns e = e ∙ ap ranged (gives ◌-ℤ◌ (fits_sub fa fb))

    pub mul_returns : r ≡ ranged (to_z w32 (of_z w32 (to_z w32 (of_z w32 x) *ℤ to_z w32 (of_z w32 y)))) → r ≡ mul_w a b
    unfolding mul_w
    mul_returns e = e ∙ ap ranged (gives ◌*ℤ◌ (fits_mul fa fb))

  pub less_returns : lt_z (to_z w32 (of_z w32 x)) (to_z w32 (of_z w32 y)) ≡ lt_w a b
  unfolding lt_w
  less_returns = reads lt_z

  pub not_greater_returns : le_z (to_z w32 (of_z w32 x)) (to_z w32 (of_z w32 y)) ≡ le_w a b
  unfolding le_w
  not_greater_returns = reads le_z

pub neg_returns : (a : ℕ) (r : WordOutcome) → r ≡ sub_w 0 a → r ≡ neg_w a
unfolding sub_w neg_w
neg_returns a r e = e ∙ ap ranged (+ℤ_idl (neg_ℤ (int_of a)))

pub ruleset arithmetic = (add-fits, sub-fits, mul-fits, add_returns, sub_returns, mul_returns, less_returns, not_greater_returns, neg_returns)
