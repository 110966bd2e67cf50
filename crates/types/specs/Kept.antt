-- Inner: for code and proofs only; no public promise is said with these definitions.
-- The types of nodes as an array keeps them. Assumes nothing.
use Rattle.std.specs.Prelude.{ℕ, ◌≤◌, List, length}
use Rattle.basics.specs.Holds.{Holds}
use Rattle.table.specs.Table.{Table}
use Rattle.table.specs.Entries.{node_count}
use Rattle.types.specs.Types.{type_of}

-- an array that has room for the types of all nodes; one that holds them
pub record Room (T : Table) (l : List ℕ) : Type 0 where
  pub room : node_count T ≤ length l

pub record Types (T : Table) (l : List ℕ) : Type 0 where
  pub holds : Holds (type_of T) (node_count T) l
