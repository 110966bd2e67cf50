-- Inner: for code and proofs only; no public promise is said with these definitions.
-- A list that holds what a function gives, for the numbers below n: arrays that are filled once and then read. Assumes nothing.
use Rattle.std.specs.Prelude.{ℕ, ◌≤◌, ◌<◌, ◌≡◌, List, length, get_or}

pub record Holds (f : ℕ → ℕ) (n : ℕ) (l : List ℕ) : Type 0 where
  pub long : n ≤ length l
  pub is : (j : ℕ) → j < n → get_or l j 0 ≡ f j
