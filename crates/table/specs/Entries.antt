-- Trusted: public promises are said with these definitions.
-- The entries of a table by name (01, The table). Assumes nothing.
use Rattle.std.specs.Prelude.{ℕ, ◌+◌, ◌-◌, ltb}
use Rattle.basics.specs.Choice.{pick}
use Rattle.table.specs.Table.{Table}

abbrev pub type_count : Table → ℕ
type_count T = T.count 0

abbrev pub field_count : Table → ℕ
field_count T = T.count 1

abbrev pub var_count : Table → ℕ
var_count T = T.count 2

abbrev pub block_count : Table → ℕ
block_count T = T.count 3

abbrev pub arg_count : Table → ℕ
arg_count T = T.count 4

abbrev pub node_count : Table → ℕ
node_count T = T.count 5

abbrev pub stmt_count : Table → ℕ
stmt_count T = T.count 6

abbrev pub char_count : Table → ℕ
char_count T = T.count 7

-- declared types are numbered from 3; the standard types 0..2 and numbers that no type has give 0
unfoldable pub declared : Table → ℕ → ℕ → ℕ
declared T τ f = pick (ltb τ 3) 0 (T.cell 0 (τ - 3) f)

abbrev pub type_kind : Table → ℕ → ℕ
type_kind T τ = declared T τ 0

abbrev pub type_p : Table → ℕ → ℕ
type_p T τ = declared T τ 1

abbrev pub type_q : Table → ℕ → ℕ
type_q T τ = declared T τ 2

abbrev pub type_low : Table → ℕ → ℕ
type_low T τ = declared T τ 3

abbrev pub type_high : Table → ℕ → ℕ
type_high T τ = declared T τ 4

abbrev pub field_type : Table → ℕ → ℕ
field_type T i = T.cell 1 i 0

abbrev pub var_mode : Table → ℕ → ℕ
var_mode T x = T.cell 2 x 0

abbrev pub var_type : Table → ℕ → ℕ
var_type T x = T.cell 2 x 1

abbrev pub block_kind : Table → ℕ → ℕ
block_kind T b = T.cell 3 b 0

abbrev pub owner : Table → ℕ → ℕ
owner T b = T.cell 3 b 1

abbrev pub first_var : Table → ℕ → ℕ
first_var T b = T.cell 3 b 2

abbrev pub params : Table → ℕ → ℕ
params T b = T.cell 3 b 3

abbrev pub vars : Table → ℕ → ℕ
vars T b = T.cell 3 b 4

abbrev pub first_stmt : Table → ℕ → ℕ
first_stmt T b = T.cell 3 b 5

abbrev pub space : Table → ℕ → ℕ
space T b = T.cell 3 b 6

abbrev pub arg_node : Table → ℕ → ℕ
arg_node T i = T.cell 4 i 0

abbrev pub node_kind : Table → ℕ → ℕ
node_kind T n = T.cell 5 n 0

abbrev pub node_p : Table → ℕ → ℕ
node_p T n = T.cell 5 n 1

abbrev pub node_q : Table → ℕ → ℕ
node_q T n = T.cell 5 n 2

abbrev pub node_v : Table → ℕ → ℕ
node_v T n = T.cell 5 n 3

abbrev pub stmt_kind : Table → ℕ → ℕ
stmt_kind T i = T.cell 6 i 0

abbrev pub stmt_a : Table → ℕ → ℕ
stmt_a T i = T.cell 6 i 1

abbrev pub stmt_b : Table → ℕ → ℕ
stmt_b T i = T.cell 6 i 2

abbrev pub stmt_c : Table → ℕ → ℕ
stmt_c T i = T.cell 6 i 3

abbrev pub stmt_d : Table → ℕ → ℕ
stmt_d T i = T.cell 6 i 4

abbrev pub stmt_link : Table → ℕ → ℕ
stmt_link T i = T.cell 6 i 5

abbrev pub character : Table → ℕ → ℕ
character T i = T.cell 7 i 0

-- the number after the last statement of block b: they run to the next block's first, or to the end
unfoldable pub stmt_limit : Table → ℕ → ℕ
stmt_limit T b = pick (ltb (b + 1) (block_count T)) (first_stmt T (b + 1)) (stmt_count T)
