-- Trusted: public promises are said with these definitions.
-- Items that take numbers one after the other: each begins at the next free number, and in the end none is left. Assumes nothing.
use Rattle.std.specs.Prelude.{Bool, true, ℕ, zero, suc, ◌+◌, eqb}
use Rattle.basics.specs.Choice.{pick, both, all_below}

-- the number that is free when the items below i have taken theirs; after i, where j is free, it is `step i j`
unfoldable pub free : (ℕ → ℕ → ℕ) → ℕ → ℕ
free step zero = 0
free step (suc i) = step i (free step i)

-- each of m items passes its test, at what the items before it have led to
unfoldable pub carried : (ℕ → ℕ → ℕ) → (ℕ → ℕ → Bool) → ℕ → Bool
carried step test m = all_below m (λ i. test i (free step i))

-- each of m items passes its test at the number that is free, and in the end `total` is
unfoldable pub chained : (ℕ → ℕ → ℕ) → (ℕ → ℕ → Bool) → ℕ → ℕ → Bool
chained step test m total = both (carried step test m) (eqb (free step m) total)

-- items that take `count i` numbers from `first i` on, where they take any
unfoldable pub step_take : (ℕ → Bool) → (ℕ → ℕ) → (ℕ → ℕ) → ℕ → ℕ → ℕ
step_take takes first count i j = pick (takes i) (first i + count i) j

unfoldable pub test_take : (ℕ → Bool) → (ℕ → ℕ) → ℕ → ℕ → Bool
test_take takes first i j = pick (takes i) (eqb (first i) j) true

-- m items take all of `total`, in order, consecutively, with none left
unfoldable pub taken : (ℕ → Bool) → (ℕ → ℕ) → (ℕ → ℕ) → ℕ → ℕ → Bool
taken takes first count m total = chained (step_take takes first count) (test_take takes first) m total

unfoldable pub always : ℕ → Bool
always i = true
