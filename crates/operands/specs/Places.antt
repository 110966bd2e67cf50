-- Inner: for code and proofs only; no public promise is said with these definitions.
-- The index of an element in its array (8.5), and words that are compared. Assumes nothing.
use Rattle.std.specs.Prelude.{ℕ, ◌+◌, ◌-◌, ◌≤◌, ◌≡◌, List, length}
use Rattle.basics.specs.Choice.{pick}
use Rattle.types.specs.Match.{offset}
use Rattle.machine.specs.Memory.{Memory, words_at}
use Rattle.machine.specs.Operands.{outside, same}
use Rattle.machine.specs.Layout.{state_size, locations}

-- how many elements lie before the one with index value i, of index values from low to high (8.5); 65,536 where i is outside
pub record IndexIs (low high i r : ℕ) : Type 0 where
  pub is : r ≡ pick (outside low high i) 65536 (offset i - offset low)
  pub most : r ≤ 65536

-- the n words at locations a and b lie in areas
pub record WordsInAreas (s : List ℕ) (a b n : ℕ) : Type 0 where
  pub state : length s ≡ state_size
  pub first : a + n ≤ locations
  pub second : b + n ≤ locations

-- the first i of n words from a on and from b on are the same
pub record Matched (f g : Memory) (a b n i : ℕ) : Type 0 where
  pub upto : i ≤ n
  pub rest : same (words_at f (a + i) (n - i)) (words_at g (b + i) (n - i)) ≡ same (words_at f a n) (words_at g b n)
