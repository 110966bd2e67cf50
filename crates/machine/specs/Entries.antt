-- Trusted: public promises are said with these definitions.
-- The entries of a table as constructors (01, The table). An entry that does not exist, or of an unknown kind, is none. Assumes nothing.
use Rattle.std.specs.Prelude.{ℕ, Bool, true, false, [], ◌∷◌, get_or, eqb, ltb}
use Rattle.basics.specs.Choice.{pick}
use Rattle.table.specs.Table.{Table}
use Rattle.table.specs.Entries.{node_count, stmt_count, type_kind, type_p, type_q, type_low, type_high, node_kind, node_p, node_q, node_v, stmt_kind, stmt_a, stmt_b, stmt_c, stmt_d, stmt_link}

-- a record type has its first field and the number of fields, an array type its index type, element type and bounds,
-- a process type its module
pub data TypeEntry : Type 0 where
  integer boolean character : TypeEntry
  record_type : ℕ → ℕ → TypeEntry
  array_type : ℕ → ℕ → ℕ → ℕ → TypeEntry
  process_type : ℕ → TypeEntry
  no_type : TypeEntry

unfoldable pub type_at : Table → ℕ → TypeEntry
type_at T τ =
    pick (eqb τ 0) integer
    (pick (eqb τ 1) boolean
    (pick (eqb τ 2) character
    (pick (eqb (type_kind T τ) 1) (record_type (type_p T τ) (type_q T τ))
    (pick (eqb (type_kind T τ) 2) (array_type (type_p T τ) (type_q T τ) (type_low T τ) (type_high T τ))
    (pick (eqb (type_kind T τ) 3) (process_type (type_p T τ))
    no_type)))))

-- sign inversion, negation, and the value of a device location (10.2, 10.3)
pub data Unary : Type 0 where
  minus not val : Unary
  no_unary : Unary

unfoldable pub unary_at : ℕ → Unary
unary_at o = get_or (no_unary ∷ minus ∷ not ∷ val ∷ []) o no_unary

-- the relations (10.1), + - * / mod (10.2), and, or (10.2, 10.3)
pub data Binary : Type 0 where
  equal not_equal less not_greater greater not_less : Binary
  add subtract multiply divide modulus : Binary
  and or : Binary
  no_binary : Binary

unfoldable pub binary_at : ℕ → Binary
binary_at o =
    get_or
    (no_binary ∷ equal ∷ not_equal ∷ less ∷ not_greater ∷ greater ∷ not_less ∷ add ∷ subtract ∷ multiply ∷ divide ∷ modulus ∷ and ∷ or ∷ [])
    o no_binary

-- variables: whole (8.3), field (8.4), indexed (8.5). Expressions: constant (6), retrieval of a variable (8.7), operators (10), type transfer (9.2),
-- string constant (6; 02, b: its first character and its length)
pub data Node : Type 0 where
  constant : ℕ → ℕ → Node
  whole : ℕ → Node
  field : ℕ → ℕ → Node
  element : ℕ → ℕ → Node
  retrieve : ℕ → Node
  unary : Unary → ℕ → Node
  binary : Binary → ℕ → ℕ → Node
  transfer : ℕ → ℕ → Node
  string : ℕ → ℕ → Node
  no_node : Node

-- a node of kind k, with its fields p, q and v; the kinds are listed in order, from 0 on
unfoldable pub node_of : ℕ → ℕ → ℕ → ℕ → Node
node_of k p q v =
    get_or
    (constant p v ∷ whole p ∷ field p q ∷ element p q ∷ retrieve p ∷ unary (unary_at q) p ∷ binary (binary_at v) p q ∷ transfer p q ∷ string p q ∷ [])
    k no_node

unfoldable pub node_at : Table → ℕ → Node
node_at T n = pick (ltb n (node_count T)) (node_of (node_kind T n) (node_p T n) (node_q T n) (node_v T n)) no_node

-- the structured statements (11.7 to 11.10)
pub data Opener : Type 0 where
  if while when cycle : Opener

-- when no guard is true, a when or cycle is blocked
unfoldable pub waits : Opener → Bool
waits if = false
waits while = false
waits when = true
waits cycle = true

-- a while or cycle executes its conditional statements again
unfoldable pub repeats : Opener → Bool
repeats if = false
repeats while = true
repeats when = false
repeats cycle = true

-- the numbers c and d of a call or start are its first argument and their count; those of an arm are its guard and link
pub data Statement : Type 0 where
  skip : Statement
  assign : ℕ → ℕ → Statement
  local_call : ℕ → ℕ → ℕ → Statement
  process_call : ℕ → ℕ → ℕ → ℕ → Statement
  create : ℕ → Statement
  start : ℕ → ℕ → ℕ → Statement
  opener : Opener → Statement
  arm : ℕ → ℕ → Statement
  end_arms : ℕ → Statement
  write : ℕ → ℕ → Statement
  block_end : Statement
  no_statement : Statement

-- a statement of kind k; the kinds are listed in order, from 0 on
unfoldable pub statement_of : ℕ → ℕ → ℕ → ℕ → ℕ → ℕ → Statement
statement_of k a b c d link =
    get_or
    (skip ∷ assign a b ∷ local_call a c d ∷ process_call a b c d ∷ create a ∷ start a c d
    ∷ opener if ∷ opener while ∷ opener when ∷ opener cycle ∷ arm a link ∷ end_arms link ∷ write a b ∷ block_end ∷ [])
    k no_statement

unfoldable pub stmt_at : Table → ℕ → Statement
stmt_at T i =
    pick (ltb i (stmt_count T))
    (statement_of (stmt_kind T i) (stmt_a T i) (stmt_b T i) (stmt_c T i) (stmt_d T i) (stmt_link T i))
    no_statement
