-- Inner: for code and proofs only; no public promise is said with these definitions.
-- The block of a statement handed to the nodes that it uses, and by each node to its operands: a list has the block of node n at n. Assumes nothing.
use Rattle.std.specs.Prelude.{ℕ, ◌+◌, ◌≤◌, ◌<◌, ◌≡◌, Bool, true, false, List, [], ◌∷◌, ◌++◌, length, get_or, set, eqb}
use Rattle.basics.specs.Choice.{pick}
use Rattle.basics.specs.Chain.{free, carried}
use Rattle.basics.specs.Marks.{occurs, gather}
use Rattle.nesting.specs.Nest.{block_step}
use Rattle.table.specs.Table.{Table}
use Rattle.table.specs.Entries.{arg_node, node_kind, node_p, node_count, stmt_c, stmt_d, stmt_count}
use Rattle.table.specs.Kinds.{is_call}
use Rattle.table.specs.Parts.{argument_in}
use Rattle.uses.specs.Uses.{entry_uses}
use Rattle.scopes.specs.Scopes.{in_scope, stays_in, scoped}

-- block b is handed to each node of a list, the last first
unfoldable pub with_block : ℕ → List ℕ → List ℕ → List ℕ
with_block b [] l = l
with_block b (x ∷ xs) l = set (with_block b xs l) x b

-- argument k of a call, in its part of the table and in the section, where the arguments of the call begin at c
unfoldable pub part_node : List ℕ → ℕ → ℕ → List ℕ
part_node part w k = argument_in part w k ∷ []

unfoldable pub called_node : Table → ℕ → ℕ → List ℕ
called_node T c k = arg_node T (c + k) ∷ []

unfoldable pub arg_nodes : Table → ℕ → List ℕ
arg_nodes T i = pick (is_call T i) (gather (called_node T (stmt_c T i)) (stmt_d T i)) []

-- the nodes that statement i uses: its arguments, and those of its fields
unfoldable pub roots : Table → ℕ → List ℕ
roots T i = arg_nodes T i ++ entry_uses T 6 i

-- node n itself, in block b: a whole variable is visible; the other kinds have their operands' variables
unfoldable pub node_visible : Table → ℕ → ℕ → Bool
node_visible T n b = pick (eqb (node_kind T n) 1) (in_scope T b (node_p T n)) true

-- node x is used in block b: by a statement of b, or by a node that is
pub data UsedIn (T : Table) : ℕ → ℕ → Type 0 where
  by_stmt : {x b : ℕ} (i : ℕ) → i < stmt_count T → 1 ≤ occurs x (roots T i) → b ≡ free (block_step T) i → UsedIn T x b
  by_node : {x b : ℕ} (n : ℕ) → n < node_count T → 1 ≤ occurs x (entry_uses T 5 n) → UsedIn T n b → UsedIn T x b

-- the nodes of the first i statements have their blocks
pub record RootsHanded (T : Table) (i : ℕ) (l : List ℕ) : Type 0 where
  pub long : node_count T ≤ length l
  pub has : (x j : ℕ) → x < node_count T → j < i → 1 ≤ occurs x (roots T j) → UsedIn T x (get_or l x 0)

-- what handing to the nodes of all statements has found: r says whether all local calls stay in their modules
pub record Stays (T : Table) (r : Bool) (l : List ℕ) : Type 0 where
  pub out : r ≡ false → scoped T ≡ false
  pub calls : r ≡ true → carried (block_step T) (stays_in T) (stmt_count T) ≡ true
  pub nodes : r ≡ true → RootsHanded T (stmt_count T) l
