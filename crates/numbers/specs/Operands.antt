-- Trusted: public promises are said with these definitions.
-- Refusal 4 in nodes, and the order of arguments and characters (01, The table; 02, b). Assumes nothing.
use Rattle.std.specs.Prelude.{ℕ, Bool, true, eqb, ltb}
use Rattle.basics.specs.Choice.{pick, both, between}
use Rattle.basics.specs.Chain.{taken}
use Rattle.table.specs.Table.{Table}
use Rattle.table.specs.Entries.{type_kind, type_q, node_kind, node_p, node_q, stmt_c, stmt_d, arg_count, node_count, stmt_count, char_count}
use Rattle.table.specs.Kinds.{is_call}
use Rattle.types.specs.Types.{type_of}
use Rattle.numbers.specs.Sorts.{entry_ranged}

-- the place q of a field in a record; where the variable's type is no record, no range is given
unfoldable pub place_ranged : Table → ℕ → ℕ → Bool
place_ranged T τ q = pick (eqb (type_kind T τ) 1) (ltb q (type_q T τ)) true

-- Node 2 field: 'q place from 0', in a variable of the type of p. Node 8 string: 'q length 1..255' (02, b)
unfoldable pub node_ranged : Table → ℕ → Bool
node_ranged T n =
    both (entry_ranged T 5 n)
    (pick (eqb (node_kind T n) 2) (place_ranged T (type_of T (node_p T n)) (node_q T n))
    (pick (eqb (node_kind T n) 8) (between 1 255 (node_q T n)) true))

-- 'such nodes take characters in order with none left' (02, b)
unfoldable pub is_string_node : Table → ℕ → Bool
is_string_node T n = eqb (node_kind T n) 8

unfoldable pub string_first : Table → ℕ → ℕ
string_first T n = node_p T n

unfoldable pub string_count : Table → ℕ → ℕ
string_count T n = node_q T n

unfoldable pub characters_taken : Table → Bool
characters_taken T = taken (is_string_node T) (string_first T) (string_count T) (node_count T) (char_count T)

-- 'calls take arguments in order, consecutively, with none left': 'Kinds 2, 3 and 5 have c first argument, d count'
unfoldable pub call_first : Table → ℕ → ℕ
call_first T i = stmt_c T i

unfoldable pub call_count : Table → ℕ → ℕ
call_count T i = stmt_d T i

unfoldable pub arguments_taken : Table → Bool
arguments_taken T = taken (is_call T) (call_first T) (call_count T) (stmt_count T) (arg_count T)
