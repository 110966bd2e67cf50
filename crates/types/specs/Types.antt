-- Trusted: public promises are said with these definitions.
-- The type of a node, read off the table with no rule tested (report 5: every constant, variable or expression is of one and only one type). Assumes nothing.
use Rattle.std.specs.Prelude.{ℕ, ◌+◌, ◌%◌, eqb, leb, ltb}
use Rattle.basics.specs.Choice.{pick}
use Rattle.basics.specs.Course.{course}
use Rattle.table.specs.Table.{Table}
use Rattle.table.specs.Entries.{node_count, type_kind, type_p, type_q, field_type, var_type, node_kind, node_p, node_q, node_v}

-- no type has this number
abbrev pub no_type : ℕ
no_type = 65535

-- the type of field i of a record type, of the elements of an array type (report 8.4, 8.5)
unfoldable pub field_of : Table → ℕ → ℕ → ℕ
field_of T τ i =
    pick (eqb (type_kind T τ) 1) (pick (ltb i (type_q T τ)) (field_type T (type_p T τ + i)) no_type) no_type

unfoldable pub element_of : Table → ℕ → ℕ
element_of T τ = pick (eqb (type_kind T τ) 2) (type_q T τ) no_type

-- not (2) gives its operand's type, minus (1) and val (3) an integer (report 10.2, 10.3)
unfoldable pub unary_type : ℕ → ℕ → ℕ
unary_type o τ = pick (eqb o 2) τ 0

-- relations (1..6) give a boolean, + - * / mod (7..11) an integer, and, or (12, 13) their operand's type (report 10.1 to 10.3)
unfoldable pub binary_type : ℕ → ℕ → ℕ
binary_type o τ = pick (leb o 6) 1 (pick (leb o 11) 0 τ)

-- a node whose first operand has type τ: field 2, element 3, value 4, unary 5, binary 6
unfoldable pub operand_type : Table → ℕ → ℕ → ℕ
operand_type T n τ =
    pick (eqb (node_kind T n) 2) (field_of T τ (node_q T n))
    (pick (eqb (node_kind T n) 3) (element_of T τ)
    (pick (eqb (node_kind T n) 4) τ
    (pick (eqb (node_kind T n) 5) (unary_type (node_q T n) τ)
    (pick (eqb (node_kind T n) 6) (binary_type (node_v T n) τ) no_type))))

-- any node, where r gives the types of the nodes before it: constant 0, whole variable 1, transfer 7
unfoldable pub node_type : Table → ℕ → (ℕ → ℕ) → ℕ
node_type T n r =
    pick (ltb n (node_count T))
    (pick (eqb (node_kind T n) 0) (node_p T n)
    (pick (eqb (node_kind T n) 1) (var_type T (node_p T n))
    (pick (eqb (node_kind T n) 7) (node_q T n)
    (operand_type T n (r (node_p T n))))))
    no_type

-- the number of the type of node n; a string constant, and a node whose operand does not stand before it, has none
unfoldable pub type_of : Table → ℕ → ℕ
type_of T n = course no_type (node_type T) n

-- THE TYPE of a node: one of the table, by its number, or that of a string constant (node kind 8), a string of so many characters, which
-- stands in no table (02, b)
pub data NodeType : Type 0 where
  numbered : ℕ → NodeType
  string : ℕ → NodeType

-- its number, where it has one; else one that no rule asks for
unfoldable pub number_of : NodeType → ℕ
number_of (numbered τ) = τ
number_of (string n) = no_type

-- an odd string gains character 0
unfoldable pub evened : ℕ → ℕ
evened n = n + n % 2

unfoldable pub type_of_node : Table → ℕ → NodeType
type_of_node T n = pick (eqb (node_kind T n) 8) (string (evened (node_q T n))) (numbered (type_of T n))
