-- Trusted: public promises are said with these definitions.
-- The places that one step selects: any two of equally many words are the same or apart (02, d). Assumes nothing.
use Rattle.std.specs.Prelude.{ℕ, ◌+◌, ◌≤◌, ◌≡◌}
use Rattle.table.specs.Table.{Table}
use Rattle.sizes.specs.Sizes.{words_of}
use Rattle.machine.specs.Memory.{Memory}
use Rattle.machine.specs.Outcomes.{ok, place}
use Rattle.machine.specs.Context.{Context}
use Rattle.machine.specs.Operands.{operand}

-- n words from location a on and n words from location b on are the same words, or share none
pub data SameOrApart (a b n : ℕ) : Type 0 where
  same : a ≡ b → SameOrApart a b n
  before : a + n ≤ b → SameOrApart a b n
  after : b + n ≤ a → SameOrApart a b n

-- of any two nodes that select places in context x, of types with equally many words
pub record PlacesApart (T : Table) (m page : Memory) (x : Context) : Type 0 where
  pub apart : (n k a b τ σ : ℕ) → operand T m page x n ≡ ok (place a τ) → operand T m page x k ≡ ok (place b σ)
      → words_of T τ ≡ words_of T σ → SameOrApart a b (words_of T τ)
