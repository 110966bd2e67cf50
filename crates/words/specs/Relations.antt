-- Inner: for code and proofs only; no public promise is said with these definitions.
-- The relations that the code tests besides less and not greater. Assumes nothing.
use Rattle.std.specs.Prelude.{ℕ, Bool, not, eqb}
use Rattle.words.specs.Operators.{le_w, lt_w}

-- 10.1: as words, which are equal where the integers are (proofs/Integers, int-same)
abbrev pub eq_w : ℕ → ℕ → Bool
eq_w a b = eqb a b

abbrev pub ne_w : ℕ → ℕ → Bool
ne_w a b = not (eqb a b)

abbrev pub gt_w : ℕ → ℕ → Bool
gt_w a b = lt_w b a

abbrev pub ge_w : ℕ → ℕ → Bool
ge_w a b = le_w b a
