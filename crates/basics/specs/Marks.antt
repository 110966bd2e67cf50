-- Trusted: public promises are said with these definitions.
-- How often numbers occur, counted in an array up to two. Assumes nothing.
use Rattle.std.specs.Prelude.{ℕ, zero, suc, ◌+◌, List, [], ◌∷◌, ◌++◌, eqb}
use Rattle.basics.specs.Choice.{pick}

-- how often j occurs in a list
unfoldable pub occurs : ℕ → List ℕ → ℕ
occurs j [] = 0
occurs j (x ∷ xs) = pick (eqb x j) (occurs j xs + 1) (occurs j xs)

-- what the items below i name, the last item's first
unfoldable pub gather : (ℕ → List ℕ) → ℕ → List ℕ
gather f zero = []
gather f (suc i) = f i ++ gather f i
