-- Inner: for code and proofs only; no public promise is said with these definitions.
-- What loops have done so far. Assumes nothing.
use Rattle.std.specs.Prelude.{◌≡◌, Bool, true, ℕ, ◌+◌, ◌<◌, min, List, length, get_or, set, ltb}
use Rattle.basics.specs.Choice.{all_below, pick}
use Rattle.basics.specs.Chain.{free}
use Rattle.basics.specs.Marks.{occurs}

-- what a pass over the numbers has found so far
pub record Passed (f : ℕ → Bool) (i : ℕ) : Type 0 where
  pub passed : all_below i f ≡ true

-- what a loop over the items has found so far
pub record Chain (step : ℕ → ℕ → ℕ) (test : ℕ → ℕ → Bool) (i j : ℕ) : Type 0 where
  pub is : j ≡ free step i
  pub passed : all_below i (λ k. test k (free step k)) ≡ true

-- the marks when x is noted: one more at x, up to 2
unfoldable pub with_mark : ℕ → List ℕ → List ℕ
with_mark x seen = pick (ltb x (length seen)) (pick (ltb (get_or seen x 0) 2) (set seen x (get_or seen x 0 + 1)) seen) seen

-- the marks of the numbers of a list
pub record MarksOf (l : List ℕ) (seen : List ℕ) : Type 0 where
  pub marks : (j : ℕ) → j < length seen → get_or seen j 0 ≡ min (occurs j l) 2
