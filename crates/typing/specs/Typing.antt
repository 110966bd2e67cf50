-- Trusted: public promises are said with these definitions.
-- THE RULE of refusal 9: operands, guards, indexes, arguments and parameters have the types that their places ask (01, Verdicts).
-- The type of a node is read off the table, so each rule is a test of one row: by its number (`type_of`), which no rule finds of a string
-- constant, whose type has none; where types are matched, as it is (`type_of_node`). Assumes nothing.
use Rattle.std.specs.Prelude.{ℕ, ◌+◌, Bool, true, false, eqb, leb}
use Rattle.basics.specs.Choice.{pick, all_below}
use Rattle.table.specs.Table.{Table}
use Rattle.table.specs.Entries.{type_kind, type_p, var_mode, var_type, block_kind, owner, first_var, params, arg_node, node_kind, node_p, node_q, node_v, stmt_kind, stmt_a, stmt_b, stmt_c, stmt_d, node_count, stmt_count, block_count, char_count, character}
use Rattle.table.specs.Kinds.{variable_kind, expression_kind}
use Rattle.types.specs.Types.{type_of, type_of_node, numbered}
use Rattle.types.specs.Match.{matching, is_equal, is_fit, in_standard}

-- an element of a variable of type τ, its index of type σ: the index type of an array (report 8.5)
unfoldable pub element_typed : Table → ℕ → ℕ → Bool
element_typed T τ σ = pick (eqb (type_kind T τ) 2) (eqb σ (type_p T τ)) false

-- minus (1) and val (3) take an integer, not (2) an integer or a boolean (report 10.2, 10.3)
unfoldable pub unary_typed : ℕ → ℕ → Bool
unary_typed o τ = pick (eqb o 2) (leb τ 1) (eqb τ 0)

-- two operands of one type τ: < <= > >= (3..6) of a standard type, + - * / mod (7..11) integers,
-- and, or (12, 13) integers or booleans (report 10.1 to 10.3)
unfoldable pub alike_typed : ℕ → ℕ → Bool
alike_typed o τ = pick (leb o 6) (leb τ 2) (pick (leb o 11) (eqb τ 0) (leb τ 1))

-- = and <> (1, 2) take equal types, the others two of one type
unfoldable pub binary_typed : Table → ℕ → ℕ → ℕ → Bool
binary_typed T o p q =
    pick (leb o 2) (is_equal (matching T (type_of_node T p) (type_of_node T q)))
    (pick (eqb (type_of T p) (type_of T q)) (alike_typed o (type_of T p)) false)

-- a node, by its kind: constant 0, field 2 of a record, element 3, unary 5, binary 6, transfer 7 of a standard type (report 8.4, 8.5, 9.2, 10);
-- whole 1, value 4 and string 8 ask nothing
unfoldable pub node_typed : Table → ℕ → Bool
node_typed T n =
    pick (eqb (node_kind T n) 0) (in_standard (node_p T n) (node_v T n))
    (pick (eqb (node_kind T n) 2) (eqb (type_kind T (type_of T (node_p T n))) 1)
    (pick (eqb (node_kind T n) 3) (element_typed T (type_of T (node_p T n)) (type_of T (node_q T n)))
    (pick (eqb (node_kind T n) 5) (unary_typed (node_q T n) (type_of T (node_p T n)))
    (pick (eqb (node_kind T n) 6) (binary_typed T (node_v T n) (node_p T n) (node_q T n))
    (pick (eqb (node_kind T n) 7) (leb (type_of T (node_p T n)) 2)
    true)))))

-- the argument node n for the parameter x: for a var parameter (2) a variable of the same type, for another an expression of
-- an equal type, or of one that is fitted: a string is filled or cut (report 11.3, 12.1; 02, b)
unfoldable pub argument_typed : Table → ℕ → ℕ → Bool
argument_typed T x n =
    pick (eqb (var_mode T x) 2)
    (pick (variable_kind (node_kind T n)) (eqb (type_of T n) (var_type T x)) false)
    (pick (expression_kind (node_kind T n)) (is_fit (matching T (type_of_node T n) (numbered (var_type T x)))) false)

-- argument k of a call, whose arguments begin at c, is for parameter k, of those that begin at x
unfoldable pub parameter_typed : Table → ℕ → ℕ → ℕ → Bool
parameter_typed T x c k = argument_typed T (x + k) (arg_node T (c + k))

-- the d arguments from c on for a call of block b: as many as its parameters, each of its type
unfoldable pub arguments_typed : Table → ℕ → ℕ → ℕ → Bool
arguments_typed T b c d = pick (eqb d (params T b)) (all_below d (parameter_typed T (first_var T b) c)) false

-- a process call of block b through a variable of type τ: its module's procedure (report 11.3)
unfoldable pub process_call_typed : Table → ℕ → ℕ → ℕ → ℕ → Bool
process_call_typed T τ b c d =
    pick (eqb (type_kind T τ) 3) (pick (eqb (owner T b) (type_p T τ)) (arguments_typed T b c d) false) false

-- a start through a variable of type τ: the arguments are its module's (report 11.5)
unfoldable pub start_typed : Table → ℕ → ℕ → ℕ → Bool
start_typed T τ c d = pick (eqb (type_kind T τ) 3) (arguments_typed T (type_p T τ) c d) false

-- local call 2, process call 3, create 4, start 5; other kinds ask nothing (report 11.3 to 11.5)
unfoldable pub call_typed : Table → ℕ → Bool
call_typed T i =
    pick (eqb (stmt_kind T i) 2) (arguments_typed T (stmt_a T i) (stmt_c T i) (stmt_d T i))
    (pick (eqb (stmt_kind T i) 3) (process_call_typed T (type_of T (stmt_a T i)) (stmt_b T i) (stmt_c T i) (stmt_d T i))
    (pick (eqb (stmt_kind T i) 4) (eqb (type_kind T (type_of T (stmt_a T i))) 3)
    (pick (eqb (stmt_kind T i) 5) (start_typed T (type_of T (stmt_a T i)) (stmt_c T i) (stmt_d T i))
    true)))

-- write takes an address and a value, both integers (report 12.3)
unfoldable pub write_typed : ℕ → ℕ → Bool
write_typed τ σ = pick (eqb τ 0) (eqb σ 0) false

-- a statement: assign 1 to an equal type, guard 10 boolean, write 12, and calls (report 11.2, 11.6)
unfoldable pub stmt_typed : Table → ℕ → Bool
stmt_typed T i =
    pick (eqb (stmt_kind T i) 1) (is_equal (matching T (type_of_node T (stmt_a T i)) (type_of_node T (stmt_b T i))))
    (pick (eqb (stmt_kind T i) 10) (eqb (type_of T (stmt_a T i)) 1)
    (pick (eqb (stmt_kind T i) 12) (write_typed (type_of T (stmt_a T i)) (type_of T (stmt_b T i)))
    (call_typed T i)))

-- a simple type is a standard type or a process type (report 5)
unfoldable pub simple : Table → ℕ → Bool
simple T τ = pick (leb τ 2) true (eqb (type_kind T τ) 3)

-- parameter k, of those that begin at x, is a value parameter of a simple type
unfoldable pub param_simple : Table → ℕ → ℕ → Bool
param_simple T x k = pick (eqb (var_mode T (x + k)) 1) (simple T (var_type T (x + k))) false

-- process parameters are simple value parameters (report 13; 01, Verdicts)
unfoldable pub params_simple : Table → ℕ → Bool
params_simple T b = pick (eqb (block_kind T b) 1) (all_below (params T b) (param_simple T (first_var T b))) true

-- characters are 0..127 (02, b)
unfoldable pub character_typed : Table → ℕ → Bool
character_typed T i = in_standard 2 (character T i)

-- THE RULE
unfoldable pub typed : Table → Bool
typed T =
    pick (all_below (node_count T) (node_typed T))
    (pick (all_below (stmt_count T) (stmt_typed T))
    (pick (all_below (block_count T) (params_simple T)) (all_below (char_count T) (character_typed T)) false)
    false)
    false
