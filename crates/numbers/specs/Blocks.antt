-- Trusted: public promises are said with these definitions.
-- Refusal 4 in blocks, and in the modes of their variables (01, The table and Verdicts). Assumes nothing.
use Rattle.std.specs.Prelude.{ℕ, ◌+◌, ◌%◌, Bool, eqb, leb, ltb}
use Rattle.basics.specs.Choice.{pick, both, between, all_below}
use Rattle.basics.specs.Chain.{taken, always}
use Rattle.table.specs.Table.{Table}
use Rattle.table.specs.Entries.{var_mode, block_kind, owner, first_var, params, vars, first_stmt, space, var_count, block_count, stmt_count}

-- 'blocks take variables in order, consecutively, with none left'
unfoldable pub variables_taken : Table → Bool
variables_taken T = taken always (first_var T) (vars T) (block_count T) (var_count T)

-- 'Block 0 is the only program; it has no parameters'
unfoldable pub program_placed : Table → ℕ → Bool
program_placed T b =
    pick (eqb b 0) (both (eqb (block_kind T b) 0) (eqb (params T b) 0)) (leb 1 (block_kind T b))

-- 'owner (a procedure's module or block 0, else itself)'
unfoldable pub owner_ranged : Table → ℕ → Bool
owner_ranged T b =
    pick (eqb (block_kind T b) 2)
    (both (ltb (owner T b) (block_count T)) (leb (block_kind T (owner T b)) 1))
    (eqb (owner T b) b)

-- 'space (even word 0..510, 0 in a procedure ..)'
unfoldable pub space_ranged : Table → ℕ → Bool
space_ranged T b =
    pick (eqb (block_kind T b) 2) (eqb (space T b) 0)
    (both (leb (space T b) 510) (eqb (space T b % 2) 0))

-- 'parameters first and counted': variable j of block b has mode 1 or 2 among them, 0 after them
unfoldable pub mode_placed : Table → ℕ → ℕ → Bool
mode_placed T b j =
    pick (ltb j (params T b)) (between 1 2 (var_mode T (first_var T b + j))) (eqb (var_mode T (first_var T b + j)) 0)

unfoldable pub variables_placed : Table → ℕ → Bool
variables_placed T b = both (leb (params T b) (vars T b)) (all_below (vars T b) (mode_placed T b))

unfoldable pub block_placed : Table → ℕ → Bool
block_placed T b = both (program_placed T b) (owner_ranged T b)

unfoldable pub block_ranged : Table → ℕ → Bool
block_ranged T b =
    both (block_placed T b)
    (both (ltb (first_stmt T b) (stmt_count T)) (both (space_ranged T b) (variables_placed T b)))
