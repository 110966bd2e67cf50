-- Trusted: public promises are said with these definitions.
-- The standard types (5.1), 0 integer, 1 boolean, 2 character, and type transfers (9.2). Assumes nothing.
use Rattle.std.specs.Prelude.{ℕ, Bool, eqb, ltb, ℤ, pos, negsuc}
use Rattle.basics.specs.Choice.{pick, both}
use Rattle.words.specs.Numbers.{int_of, between_z}
use Rattle.words.specs.Outcomes.{WordOutcome, word, fail}

-- -32768 for integers; false and the first character have ordinal value 0
unfoldable pub lowest : ℕ → ℤ
lowest τ = pick (eqb τ 0) (negsuc 32767) (pos 0)

unfoldable pub highest : ℕ → ℤ
highest τ = pick (eqb τ 0) (pos 32767) (pick (eqb τ 1) (pos 1) (pos 127))

-- w is a value of the standard type τ
unfoldable pub in_type : ℕ → ℕ → Bool
in_type τ w = both (ltb τ 3) (between_z (lowest τ) (highest τ) (int_of w))

-- 9.2: the same ordinal value; 01: 23 where the type has none
unfoldable pub transfer_w : ℕ → ℕ → WordOutcome
transfer_w τ w = pick (in_type τ w) (word w) (fail 23)
