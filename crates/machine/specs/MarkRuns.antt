-- Inner: for code and proofs only; no public promise is said with these definitions.
-- Runs of bits in one word: what the code computes with masks. Assumes nothing.
use Rattle.std.specs.Prelude.{ℕ, ◌+◌, ◌-◌, ◌*◌, ◌%◌, ◌^◌, ◌≤◌, ◌<◌, ◌≡◌, Bool, eqb}
use Rattle.std.specs.Int.Bits.{bit_and}
use Rattle.machine.specs.Marks.{bit_number}

-- bits k .. k + c - 1 are set
unfoldable pub mask_of : ℕ → ℕ → ℕ
mask_of k c = (2 ^ c - 1) * 2 ^ k

-- the word with bits k .. k + c - 1 made v
unfoldable pub put_run : ℕ → ℕ → ℕ → Bool → ℕ
put_run w k c v = w - bit_and w (mask_of k c) + bit_number v * mask_of k c

unfoldable pub full_run : ℕ → ℕ → ℕ → Bool
full_run w k c = eqb (bit_and w (mask_of k c)) (mask_of k c)

-- r of the `left` locations from a on, at least one, have their marks in one word with a; all of them that do
pub record MarkRun (a left r : ℕ) : Type 0 where
  pub one : 1 ≤ r
  pub upto : r ≤ left
  pub room : a % 16 + r ≤ 16
  pub ends : r < left → a % 16 + r ≡ 16
