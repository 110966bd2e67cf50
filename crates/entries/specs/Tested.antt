-- Inner: for code and proofs only; no public promise is said with these definitions.
-- Refusal 3 as the code tests it, section by section and field by field. The table of kinds says the same (proofs/Rows.antt). Assumes nothing.
use Rattle.std.specs.Prelude.{ℕ, ◌+◌, Bool, true, eqb, leb}
use Rattle.basics.specs.Choice.{pick, both, between, all_below}
use Rattle.table.specs.Table.{Table}
use Rattle.table.specs.Entries.{type_kind, type_q, type_low, type_high, var_mode, block_kind, node_kind, node_q, node_v, stmt_kind, stmt_a, stmt_b, stmt_c, stmt_d, stmt_link, type_count, var_count, block_count, node_count, stmt_count}

-- 'Unused fields are 0'
abbrev pub spare : Bool → ℕ → Bool
spare used x = pick used true (eqb x 0)

-- Type: 1 record (p, q), 2 array (p, q, low, high), 3 process (p)
abbrev pub type_known : Table → ℕ → Bool
type_known T i =
    both (between 1 3 (type_kind T (3 + i)))
    (both (spare (leb (type_kind T (3 + i)) 2) (type_q T (3 + i)))
    (both (spare (eqb (type_kind T (3 + i)) 2) (type_low T (3 + i)))
    (spare (eqb (type_kind T (3 + i)) 2) (type_high T (3 + i)))))

-- Variable: mode 0 local, 1 value parameter, 2 var parameter
abbrev pub var_known : Table → ℕ → Bool
var_known T i = leb (var_mode T i) 2

-- Block: kind 0 program, 1 process module, 2 procedure; no field is unused
abbrev pub block_known : Table → ℕ → Bool
block_known T i = leb (block_kind T i) 2

-- Node: q is used by 2 field, 3 element, 5 unary, 6 binary, 7 transfer and 8 string; v by 0 constant and 6 binary
abbrev pub uses_q : ℕ → Bool
uses_q k = pick (leb 5 k) true (between 2 3 k)

abbrev pub uses_v : ℕ → Bool
uses_v k = pick (eqb k 0) true (eqb k 6)

-- 'q 1 minus, 2 not, 3 val' in a unary node, 'v 1..13' in a binary one
abbrev pub operator_known : Table → ℕ → Bool
operator_known T i =
    pick (eqb (node_kind T i) 5) (between 1 3 (node_q T i))
    (pick (eqb (node_kind T i) 6) (between 1 13 (node_v T i)) true)

abbrev pub node_known : Table → ℕ → Bool
node_known T i =
    both (leb (node_kind T i) 8)
    (both (spare (uses_q (node_kind T i)) (node_q T i))
    (both (spare (uses_v (node_kind T i)) (node_v T i)) (operator_known T i)))

-- Statement: a is used by 1 assign, 2 local call, 3 process call, 4 create, 5 start, 10 arm, 12 write, 13 block end; b by 1, 3 and 12;
-- c and d by the calls 2, 3 and 5; link by 10 arm and 11 end
abbrev pub uses_a : ℕ → Bool
uses_a k = pick (between 1 5 k) true (pick (eqb k 10) true (between 12 13 k))

abbrev pub uses_b : ℕ → Bool
uses_b k = pick (eqb k 1) true (pick (eqb k 3) true (eqb k 12))

abbrev pub uses_args : ℕ → Bool
uses_args k = pick (between 2 3 k) true (eqb k 5)

abbrev pub uses_link : ℕ → Bool
uses_link k = between 10 11 k

abbrev pub operands_known : Table → ℕ → Bool
operands_known T i = both (spare (uses_a (stmt_kind T i)) (stmt_a T i)) (spare (uses_b (stmt_kind T i)) (stmt_b T i))

abbrev pub args_known : Table → ℕ → Bool
args_known T i = both (spare (uses_args (stmt_kind T i)) (stmt_c T i)) (spare (uses_args (stmt_kind T i)) (stmt_d T i))

abbrev pub stmt_known : Table → ℕ → Bool
stmt_known T i =
    both (leb (stmt_kind T i) 13)
    (both (operands_known T i)
    (both (args_known T i) (spare (uses_link (stmt_kind T i)) (stmt_link T i))))

abbrev pub declarations_known : Table → Bool
declarations_known T =
    both (all_below (type_count T) (type_known T))
    (both (all_below (var_count T) (var_known T)) (all_below (block_count T) (block_known T)))

-- fields, arguments and characters have neither kind nor unused field
abbrev pub tested : Table → Bool
tested T =
    both (declarations_known T)
    (both (all_below (node_count T) (node_known T)) (all_below (stmt_count T) (stmt_known T)))
