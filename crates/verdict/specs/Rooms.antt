-- Inner: for code and proofs only; no public promise is said with these definitions.
-- The arrays that a verdict is found with: room for the types of nodes and the words of types; marks, all 0, for blocks and nodes; and room for
-- the blocks that nodes are used in. Assumes nothing.
use Rattle.std.specs.Prelude.{ℕ, ◌≤◌, List, length}
use Rattle.table.specs.Table.{Table}
use Rattle.table.specs.Entries.{node_count}
use Rattle.types.specs.Kept as nodes
use Rattle.sizes.specs.Kept as words
use Rattle.numbers.specs.Marking.{Clear}
use Rattle.uses.specs.Marked.{NoMarks}

pub record Rooms (T : Table) (types sizes marks seen blocks : List ℕ) : Type 0 where
  pub for_types : nodes.Room T types
  pub for_sizes : words.SizeRoom T sizes
  pub for_blocks : Clear T marks
  pub for_nodes : NoMarks (node_count T) seen
  pub for_scopes : node_count T ≤ length blocks
