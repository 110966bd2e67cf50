-- Scopes, by example (01, Verdicts). Assumes nothing.
use Prim.Native.Nat.{ℕ}
use mathlib.Core.Path.{◌≡◌, refl}
use mathlib.Core.Bool.{true, false}
use mathlib.Core.List.{List, [], ◌∷◌}
use lib.ListN.{get_or}
use lib.Dec.{eqb}
use Rattle.basics.specs.Choice.{pick, both, all_below}
use Rattle.basics.specs.Course.{upto, course}
use Rattle.table.specs.Table.{Table}
use Rattle.table.specs.Kinds.{names, rows, row_of, held, each_field}
use Rattle.scopes.specs.Scopes.{of_block, in_scope, field_scoped, node_scope, node_scoped, stays_in}

-- the program 0 with variables 0, 1; the module 1 with variable 2; its procedure 2 with variable 3; a procedure 3 of the program, with none
sample_blocks : List (List ℕ)
sample_blocks =
    (0 ∷ 0 ∷ 0 ∷ 0 ∷ 2 ∷ []) ∷ (1 ∷ 1 ∷ 2 ∷ 0 ∷ 1 ∷ []) ∷ (2 ∷ 1 ∷ 3 ∷ 0 ∷ 1 ∷ []) ∷ (2 ∷ 0 ∷ 4 ∷ 0 ∷ 0 ∷ []) ∷ []

-- a local call of block 2, one of block 3
sample_calls : List (List ℕ)
sample_calls = (2 ∷ 2 ∷ []) ∷ (2 ∷ 3 ∷ []) ∷ []

-- a string from character 9 on; the value of variable node 9
sample_nodes : List (List ℕ)
sample_nodes = (8 ∷ 9 ∷ 2 ∷ 0 ∷ []) ∷ (4 ∷ 9 ∷ 0 ∷ 0 ∷ []) ∷ []

sample : Table
sample =
    record {
      count = λ k. 0;
      cell = λ k i f. pick (eqb k 3) (get_or (get_or sample_blocks i []) f 0) (pick (eqb k 5) (get_or (get_or sample_nodes i []) f 0) (pick (eqb k 6) (get_or (get_or sample_calls i []) f 0) 0));
    }

-- a procedure sees its own variables and its module's, not the program's; the module does not see its procedure's
visible_variables :
    (in_scope sample 2 3 ≡ true)
    × (in_scope sample 2 2 ≡ true)
    × (in_scope sample 2 1 ≡ false)
    × (in_scope sample 2 4 ≡ false)
    × (in_scope sample 1 3 ≡ false)
    × (in_scope sample 3 1 ≡ true)
unfolding sample sample_blocks sample_calls sample_nodes in_scope of_block
visible_variables = (refl, refl, refl, refl, refl, refl)

-- the module calls its procedure; a procedure of the program is called from the program, and from no module
local_calls : (stays_in sample 0 1 ≡ true) × (stays_in sample 0 2 ≡ true) × (stays_in sample 1 1 ≡ false) × (stays_in sample 1 0 ≡ true)
unfolding sample sample_blocks sample_calls sample_nodes stays_in
local_calls = (refl, refl, refl, refl)

-- the first character of a string is no operand
nodes : (node_scoped sample 2 0 ≡ true) × (node_scoped sample 2 1 ≡ false)
unfolding sample sample_blocks sample_calls sample_nodes node_scoped node_scope field_scoped names held row_of rows each_field all_below both course upto
nodes = (refl, refl)
