-- Inner: for code and proofs only; no public promise is said with these definitions.
-- The fields of a statement that name nodes. Assumes nothing.
use Rattle.std.specs.Prelude.{ℕ, Bool, true, false}
use Rattle.basics.specs.Choice.{pick}
use Rattle.table.specs.Table.{Table}
use Rattle.table.specs.Entries.{stmt_a, stmt_b}
use Rattle.table.specs.Kinds.{names, held}
use Rattle.scopes.specs.Scopes.{node_scoped}

-- of the fields of statement i, a and b alone name nodes
unfoldable pub fields_scoped : Table → ℕ → ℕ → Bool
fields_scoped T i b =
    pick (names 5 (held T 6 i 1))
    (pick (node_scoped T b (stmt_a T i)) (pick (names 5 (held T 6 i 2)) (node_scoped T b (stmt_b T i)) true) false)
    true
