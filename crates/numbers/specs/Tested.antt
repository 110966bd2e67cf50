-- Inner: for code and proofs only; no public promise is said with these definitions.
-- Refusal 4 in types, nodes and statements as the code tests it, by kinds. The table of kinds says the same (proofs/Rows.antt). Assumes nothing.
use Rattle.std.specs.Prelude.{ℕ, ◌+◌, Bool, true, eqb, leb, ltb}
use Rattle.basics.specs.Choice.{pick, both, between}
use Rattle.table.specs.Table.{Table}
use Rattle.table.specs.Entries.{type_kind, type_p, type_q, block_kind, node_kind, node_p, node_q, stmt_kind, stmt_a, stmt_b, stmt_link, var_count, block_count, node_count, stmt_count}
use Rattle.table.specs.Kinds.{variable_kind, expression_kind}
use Rattle.types.specs.Types.{type_of}
use Rattle.numbers.specs.Declarations.{record_ranged}
use Rattle.numbers.specs.Operands.{place_ranged}

-- node n is below m, and a variable; and an expression
abbrev pub variable_below : Table → ℕ → ℕ → Bool
variable_below T m n = both (ltb n m) (variable_kind (node_kind T n))

abbrev pub expression_below : Table → ℕ → ℕ → Bool
expression_below T m n = both (ltb n m) (expression_kind (node_kind T n))

-- b is an existing block of kind k
abbrev pub is_block : Table → ℕ → ℕ → Bool
is_block T k b = both (ltb b (block_count T)) (eqb (block_kind T b) k)

-- '2 array: index type 0..2, element type'
abbrev pub array_ranged : Table → ℕ → Bool
array_ranged T τ = both (leb (type_p T τ) 2) (ltb (type_q T τ) τ)

-- '3 process: module'
abbrev pub type_tested : Table → ℕ → Bool
type_tested T i =
    pick (eqb (type_kind T (3 + i)) 1) (record_ranged T (3 + i))
    (pick (eqb (type_kind T (3 + i)) 2) (array_ranged T (3 + i))
    (pick (eqb (type_kind T (3 + i)) 3) (is_block T 1 (type_p T (3 + i))) true))

-- Node: 'A node stands after its operands'. p: 0 constant type 0..2; 1 whole a variable; 2 field, 3 element, 4 value a variable node;
-- 5 unary, 6 binary, 7 transfer an expression node; 8 string the next free character
abbrev pub p_ranged : Table → ℕ → Bool
p_ranged T n =
    pick (eqb (node_kind T n) 0) (leb (node_p T n) 2)
    (pick (eqb (node_kind T n) 1) (ltb (node_p T n) (var_count T))
    (pick (leb (node_kind T n) 4) (variable_below T n (node_p T n))
    (pick (leb (node_kind T n) 7) (expression_below T n (node_p T n)) true)))

-- q: 2 field 'place from 0'; 3 element, 6 binary an expression node; 7 transfer 'type 0..2'; 8 string 'length 1..255'
abbrev pub q_ranged : Table → ℕ → Bool
q_ranged T n =
    pick (eqb (node_kind T n) 2) (place_ranged T (type_of T (node_p T n)) (node_q T n))
    (pick (eqb (node_kind T n) 3) (expression_below T n (node_q T n))
    (pick (eqb (node_kind T n) 6) (expression_below T n (node_q T n))
    (pick (eqb (node_kind T n) 7) (leb (node_q T n) 2)
    (pick (eqb (node_kind T n) 8) (between 1 255 (node_q T n)) true))))

abbrev pub node_tested : Table → ℕ → Bool
node_tested T n = both (p_ranged T n) (q_ranged T n)

-- Statement. a: 1 assign, 3 process call, 4 create, 5 start a variable node; 10 arm, 12 write an expression node; 2 local call a procedure;
-- 13 block end a block
abbrev pub a_variable : ℕ → Bool
a_variable k = pick (eqb k 1) true (between 3 5 k)

abbrev pub a_expression : ℕ → Bool
a_expression k = pick (eqb k 10) true (eqb k 12)

abbrev pub a_block : Table → ℕ → Bool
a_block T i =
    pick (eqb (stmt_kind T i) 2) (is_block T 2 (stmt_a T i))
    (pick (eqb (stmt_kind T i) 13) (ltb (stmt_a T i) (block_count T)) true)

abbrev pub a_ranged : Table → ℕ → Bool
a_ranged T i =
    pick (a_variable (stmt_kind T i)) (variable_below T (node_count T) (stmt_a T i))
    (pick (a_expression (stmt_kind T i)) (expression_below T (node_count T) (stmt_a T i)) (a_block T i))

-- b: 1 assign, 12 write an expression node; 3 process call a procedure
abbrev pub b_expression : ℕ → Bool
b_expression k = pick (eqb k 1) true (eqb k 12)

abbrev pub b_ranged : Table → ℕ → Bool
b_ranged T i =
    pick (b_expression (stmt_kind T i)) (expression_below T (node_count T) (stmt_b T i))
    (pick (eqb (stmt_kind T i) 3) (is_block T 2 (stmt_b T i)) true)

-- link: 10 arm, 11 end a statement
abbrev pub link_ranged : Table → ℕ → Bool
link_ranged T i = pick (between 10 11 (stmt_kind T i)) (ltb (stmt_link T i) (stmt_count T)) true

abbrev pub stmt_tested : Table → ℕ → Bool
stmt_tested T i = both (a_ranged T i) (both (b_ranged T i) (link_ranged T i))
