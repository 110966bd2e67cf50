-- Inner: for code and proofs only; no public promise is said with these definitions.
-- Jumps down chains of only parts: records of one field, arrays of one element. Assumes nothing.
use Rattle.std.specs.Prelude.{ℕ, ◌%◌, ◌≤◌, ◌<◌, ◌≡◌, List, length}
use Rattle.table.specs.Table.{Table}
use Rattle.sizes.specs.Sizes.{words_of}
use Rattle.machine.specs.Values.{part}
use Rattle.values.specs.Lookup.{Lookup}
use Rattle.values.specs.Walks.{SmallSizes}

-- the chain of only parts leads from type σ to ρ: a variable of the one is a variable of the other, and has the same parts, those above ρ apart
pub record Jump (T : Table) (σ ρ : ℕ) : Type 0 where
  pub low : ρ ≤ σ
  pub words : words_of T σ ≡ words_of T ρ
  pub is : (τ k : ℕ) → τ ≤ ρ → k < words_of T σ → part T τ σ k ≡ part T τ ρ k

-- so for the parts of one type τ; and at one word k
pub record Leads (T : Table) (τ σ ρ : ℕ) : Type 0 where
  pub low : ρ ≤ σ
  pub words : words_of T σ ≡ words_of T ρ
  pub is : (k : ℕ) → k < words_of T σ → part T τ σ k ≡ part T τ ρ k

pub record LeadsAtWord (T : Table) (τ σ k ρ : ℕ) : Type 0 where
  pub low : ρ ≤ σ
  pub is : part T τ σ k ≡ part T τ ρ k

-- jumps as they are kept, each beside a number that only the choice of others goes by: the one of type σ; those of the types below n; those of
-- all that the list has room for
pub record JumpWord (T : Table) (σ v : ℕ) : Type 0 where
  pub small : v < 65536
  pub jump : Jump T σ (v % 512)

abbrev pub JumpsTo : Table → ℕ → List ℕ → Type 0
JumpsTo T = Lookup (JumpWord T)

abbrev pub Jumps : Table → List ℕ → Type 0
Jumps T l = JumpsTo T (length l) l

-- what a search for a part goes by: the words and jumps of the types
pub record PartSearch (T : Table) (ws js : List ℕ) : Type 0 where
  pub ready : SmallSizes T ws
  pub jumps : Jumps T js
