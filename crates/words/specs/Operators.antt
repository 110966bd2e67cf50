-- Trusted: public promises are said with these definitions.
-- The operators on words: relations (10.1), integer operators (10.2), boolean operators (10.3). Assumes nothing.
use Rattle.std.specs.Prelude.{ℕ, zero, suc, ◌-◌, ◌/◌, ◌%◌, Bool, eqb, ℤ, pos, negsuc, neg_ℤ, ◌+ℤ◌, ◌-ℤ◌, ◌*ℤ◌}
use Rattle.std.specs.Int.Bits.{bit_and, bit_or}
use Rattle.std.specs.Int.Signed.{lt_z, le_z, quot_z, rem_z}
use Rattle.basics.specs.Choice.{pick}
use Rattle.words.specs.Numbers.{int_of, word_of_z, between_z}
use Rattle.words.specs.Outcomes.{WordOutcome, word, fail}

-- 10.2: a result outside the range of integers fails, with 16
unfoldable pub ranged : ℤ → WordOutcome
ranged z = pick (between_z (negsuc 32767) (pos 32767) z) (word (word_of_z z)) (fail 16)

unfoldable pub add_w : ℕ → ℕ → WordOutcome
add_w a b = ranged (int_of a +ℤ int_of b)

unfoldable pub sub_w : ℕ → ℕ → WordOutcome
sub_w a b = ranged (int_of a -ℤ int_of b)

-- sign inversion
unfoldable pub neg_w : ℕ → WordOutcome
neg_w a = ranged (neg_ℤ (int_of a))

unfoldable pub mul_w : ℕ → ℕ → WordOutcome
mul_w a b = ranged (int_of a *ℤ int_of b)

-- 01: rounds towards zero (`quot_z` does); 17 for divisor 0
unfoldable pub div_w : ℕ → ℕ → WordOutcome
div_w a b = pick (eqb b 0) (fail 17) (ranged (quot_z (int_of a) (int_of b)))

-- 01: has the dividend's sign (`rem_z` does)
unfoldable pub mod_w : ℕ → ℕ → WordOutcome
mod_w a b = pick (eqb b 0) (fail 17) (ranged (rem_z (int_of a) (int_of b)))

unfoldable pub lt_w : ℕ → ℕ → Bool
lt_w a b = lt_z (int_of a) (int_of b)

unfoldable pub le_w : ℕ → ℕ → Bool
le_w a b = le_z (int_of a) (int_of b)

-- bit k of a word, counted from the lowest
unfoldable pub bit : ℕ → ℕ → ℕ
bit zero w = w % 2
bit (suc k) w = bit k (w / 2)

-- 10.2: on all bits. `bit_and` and `bit_or` go through the binary digits; proofs/BitLaws has each of the three bit by bit
abbrev pub not_w : ℕ → ℕ
not_w a = 65535 - a

abbrev pub and_w : ℕ → ℕ → ℕ
and_w a b = bit_and a b

abbrev pub or_w : ℕ → ℕ → ℕ
or_w a b = bit_or a b

-- 5.1.2, 9.2: false is 0 and true is 1
abbrev pub bool_word : Bool → ℕ
bool_word b = pick b 1 0

-- 10.3: not false = true, not true = false
unfoldable pub not_b : ℕ → ℕ
not_b x = pick (eqb x 0) 1 0

-- x and false = false, x and true = x
unfoldable pub and_b : ℕ → ℕ → ℕ
and_b x y = pick (eqb y 0) 0 x

-- x or false = x, x or true = true
unfoldable pub or_b : ℕ → ℕ → ℕ
or_b x y = pick (eqb y 0) x 1
