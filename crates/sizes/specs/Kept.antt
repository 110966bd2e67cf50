-- Inner: for code and proofs only; no public promise is said with these definitions.
-- The words of types, and as an array keeps them. Assumes nothing.
use Rattle.std.specs.Prelude.{ℕ, ◌+◌, ◌≤◌, min, ◌≡◌, List, length}
use Rattle.basics.specs.Holds.{Holds}
use Rattle.table.specs.Table.{Table}
use Rattle.table.specs.Entries.{type_count, type_kind}
use Rattle.types.specs.Types.{NodeType, numbered, string}
use Rattle.sizes.specs.Sizes.{words_of}

-- the words of a type, of a number or of a string constant
unfoldable pub words_in : Table → NodeType → ℕ
words_in T (numbered τ) = words_of T τ
words_in T (string n) = n

-- the words of a type as they are kept: all that is above 200 is 201
unfoldable pub kept : Table → ℕ → ℕ
kept T τ = min (words_of T τ) 201

-- the words of the types whose numbers are below the list's length
pub record Known (T : Table) (l : List ℕ) : Type 0 where
  pub holds : Holds (kept T) (length l) l

-- an array that has room for the words of all types, the standard ones too; one that holds them. A number beyond is of no type:
-- the slots of a decoded table do not say so of themselves, the bytes do
pub record SizeRoom (T : Table) (l : List ℕ) : Type 0 where
  pub room : 3 + type_count T ≤ length l
  pub beyond : (τ : ℕ) → 3 + type_count T ≤ τ → type_kind T τ ≡ 0

pub record Sizes (T : Table) (l : List ℕ) : Type 0 where
  pub holds : Holds (kept T) (3 + type_count T) l
  pub beyond : (τ : ℕ) → 3 + type_count T ≤ τ → type_kind T τ ≡ 0
