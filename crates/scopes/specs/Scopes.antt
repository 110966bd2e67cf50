-- Trusted: public promises are said with these definitions.
-- THE RULE of refusal 8: a variable is the block's or its owner's, and a local call stays in its module (01, Verdicts; report 4.1, 11.3). Assumes nothing.
use Rattle.std.specs.Prelude.{ℕ, ◌+◌, Bool, true, false, eqb, leb, ltb}
use Rattle.basics.specs.Choice.{pick, both, all_below}
use Rattle.basics.specs.Chain.{carried}
use Rattle.basics.specs.Course.{course}
use Rattle.nesting.specs.Nest.{block_step}
use Rattle.table.specs.Table.{Table}
use Rattle.table.specs.Entries.{owner, first_var, vars, arg_node, stmt_kind, stmt_a, stmt_c, stmt_d, stmt_count}
use Rattle.table.specs.Kinds.{Content, names, is_call, each_field}

-- variable x is one of block b's
unfoldable pub of_block : Table → ℕ → ℕ → Bool
of_block T b x = pick (leb (first_var T b) x) (ltb x (first_var T b + vars T b)) false

-- or one of its owner's: a procedure's module, or block 0, else the block itself (report 4.1)
unfoldable pub in_scope : Table → ℕ → ℕ → Bool
in_scope T b x = pick (of_block T b x) true (of_block T (owner T b) x)

-- a field of an entry in block b, where r says which nodes are in scope: a node is one of these, a variable is visible
unfoldable pub field_scoped : Table → ℕ → (ℕ → Bool) → Content → ℕ → Bool
field_scoped T b r h x = pick (names 5 h) (r x) (pick (names 2 h) (in_scope T b x) true)

-- node n, where r says so of the nodes before it
unfoldable pub node_scope : Table → ℕ → ℕ → (ℕ → Bool) → Bool
node_scope T b n r = each_field (field_scoped T b r) T 5 n

-- the same of any node; an operand that does not stand before its node is out of scope
unfoldable pub node_scoped : Table → ℕ → ℕ → Bool
node_scoped T b n = course false (node_scope T b) n

-- argument k of a call whose arguments begin at c
unfoldable pub argument_scoped : Table → ℕ → ℕ → ℕ → Bool
argument_scoped T b c k = node_scoped T b (arg_node T (c + k))

-- the d arguments of a call from c on
unfoldable pub arguments_scoped : Table → ℕ → ℕ → ℕ → Bool
arguments_scoped T b c d = all_below d (argument_scoped T b c)

-- a local call (2) is of a procedure of the same owner: of the innermost module that contains the call (report 11.3)
unfoldable pub stays_in : Table → ℕ → ℕ → Bool
stays_in T i b = pick (eqb (stmt_kind T i) 2) (eqb (owner T (stmt_a T i)) (owner T b)) true

-- statement i of block b: its fields, and the arguments that it takes
unfoldable pub stmt_scoped : Table → ℕ → ℕ → Bool
stmt_scoped T i b =
    both (each_field (field_scoped T b (node_scoped T b)) T 6 i)
    (both (stays_in T i b) (pick (is_call T i) (arguments_scoped T b (stmt_c T i) (stmt_d T i)) true))

-- THE RULE: each statement is in the scope of its block, the number of block ends before it
unfoldable pub scoped : Table → Bool
scoped T = carried (block_step T) (stmt_scoped T) (stmt_count T)
