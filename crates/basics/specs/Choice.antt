-- Trusted: public promises are said with these definitions.
-- Choices by a test, conjunction, and a test of all numbers below a number. Assumes nothing.
use Rattle.std.specs.Prelude.{Bool, true, false, ℕ, zero, suc, leb}

-- the first where the test holds, else the second
abbrev pub pick {ℓ} : {A : Type ℓ} → Bool → A → A → A
pick true a b = a
pick false a b = b

unfoldable pub both : Bool → Bool → Bool
both a b = pick a b false

unfoldable pub either : Bool → Bool → Bool
either true b = true
either false b = b

-- x is from a to b
unfoldable pub between : ℕ → ℕ → ℕ → Bool
between a b x = both (leb a x) (leb x b)

-- f holds at every number below k
unfoldable pub all_below : ℕ → (ℕ → Bool) → Bool
all_below zero f = true
all_below (suc k) f = both (f k) (all_below k f)
