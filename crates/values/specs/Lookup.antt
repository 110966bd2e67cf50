-- Inner: for code and proofs only; no public promise is said with these definitions.
-- A lookup: a list with, for each number below n, one that stands in a relation to it. Assumes nothing.
use Rattle.std.specs.Prelude.{ℕ, ◌≤◌, ◌<◌, List, length, get_or}

pub record Lookup (R : ℕ → ℕ → Type 0) (n : ℕ) (l : List ℕ) : Type 0 where
  pub long : n ≤ length l
  pub is : (j : ℕ) → j < n → R j (get_or l j 0)
