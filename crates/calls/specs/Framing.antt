-- Inner: for code and proofs only; no public promise is said with these definitions.
-- The words of frames. Assumes nothing.
use Rattle.std.specs.Prelude.{ℕ, ◌≤◌, ◌<◌, min, ◌≡◌, true, List}
use Rattle.table.specs.Table.{Table}
use Rattle.table.specs.Entries.{block_count}
use Rattle.numbers.specs.Ranges.{in_range}
use Rattle.sizes.specs.Sizes.{sized}
use Rattle.machine.specs.Variables.{frame_words}
use Rattle.code.specs.Code.{decoded}
use Rattle.prepare.specs.Prepared.{Prepared}

-- what the words of block b's variables are found with
pub record Framing (t : List ℕ) (b : ℕ) : Type 0 where
  pub code : Prepared t
  pub ranged : in_range (decoded t) ≡ true
  pub sized : sized (decoded t) ≡ true
  pub there : b < block_count (decoded t)

-- r counts the words of block b's variables as far as an area goes: above 256 is above 256
pub record FrameCount (T : Table) (b r : ℕ) : Type 0 where
  pub is : min r 257 ≡ min (frame_words T b) 257
  pub small : r ≤ 457
