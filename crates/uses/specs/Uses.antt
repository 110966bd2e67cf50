-- Trusted: public promises are said with these definitions.
-- The uses of nodes, and the rule that each node has exactly one (01, refusal 5). Assumes nothing.
use Rattle.std.specs.Prelude.{ℕ, Bool, List, [], ◌∷◌, eqb}
use Rattle.basics.specs.Choice.{pick, all_below}
use Rattle.basics.specs.Marks.{occurs, gather}
use Rattle.table.specs.Bytes.{sections, fields}
use Rattle.table.specs.Table.{Table}
use Rattle.table.specs.Entries.{node_count}
use Rattle.table.specs.Kinds.{names, held}

-- a field that holds a node is a use of it: an operand of a node, a node of a statement, or an argument
unfoldable pub field_uses : Table → ℕ → ℕ → ℕ → List ℕ
field_uses T s i f = pick (names 5 (held T s i f)) (T.cell s i f ∷ []) []

-- the uses in entry i of section s, in section s, in the table
unfoldable pub entry_uses : Table → ℕ → ℕ → List ℕ
entry_uses T s i = gather (field_uses T s i) (fields s)

unfoldable pub section_uses : Table → ℕ → List ℕ
section_uses T s = gather (entry_uses T s) (T.count s)

unfoldable pub uses : Table → List ℕ
uses T = gather (section_uses T) sections

-- x occurs exactly once
unfoldable pub once : List ℕ → ℕ → Bool
once l x = eqb (occurs x l) 1

-- THE RULE of refusal 5: each node has exactly one use
unfoldable pub used_once : Table → Bool
used_once T = all_below (node_count T) (once (uses T))
