-- The rule of refusal 3 at small rows. Assumes nothing.
use mathlib.Core.Path.{◌≡◌, refl}
use mathlib.Core.Bool.{true, false}
use mathlib.Core.List.{List, [], ◌∷◌}
use Prim.Native.Nat.{ℕ}
use lib.ListN.{get_or}
use Rattle.basics.specs.Choice.{both, between, all_below}
use Rattle.table.specs.Table.{Table}
use Rattle.table.specs.Kinds.{rows, row_of, held, each_field}
use Rattle.entries.specs.Known.{field_known, entry_known}

-- a table that has the same row everywhere
abbrev row : List ℕ → Table
row r = record { count = λ k. 1; cell = λ k i f. get_or r f 0 }

-- binary nodes: or; an operator that is not there; a word whose low byte is 7. A whole variable with a q; a constant's word.
-- A string has a first character and a length; kind 9 is not there
nodes :
    (entry_known (row (6 ∷ 0 ∷ 0 ∷ 13 ∷ [])) 5 0 ≡ true) × (entry_known (row (6 ∷ 0 ∷ 0 ∷ 14 ∷ [])) 5 0 ≡ false) × (entry_known (row (6 ∷ 0 ∷ 0 ∷ 263 ∷ [])) 5 0 ≡ false)
    × (entry_known (row (1 ∷ 0 ∷ 1 ∷ 0 ∷ [])) 5 0 ≡ false) × (entry_known (row (0 ∷ 0 ∷ 0 ∷ 300 ∷ [])) 5 0 ≡ true)
    × (entry_known (row (8 ∷ 4 ∷ 3 ∷ 0 ∷ [])) 5 0 ≡ true) × (entry_known (row (8 ∷ 4 ∷ 3 ∷ 1 ∷ [])) 5 0 ≡ false) × (entry_known (row (9 ∷ 0 ∷ 0 ∷ 0 ∷ [])) 5 0 ≡ false)
unfolding entry_known each_field all_below held row_of rows field_known both between
nodes = (refl, refl, refl, refl, refl, refl, refl, refl)

-- a process call uses a, b, c, d; a start not b; an end its link alone; kind 14 is not there
statements :
    (entry_known (row (3 ∷ 1 ∷ 1 ∷ 1 ∷ 1 ∷ 0 ∷ [])) 6 0 ≡ true) × (entry_known (row (5 ∷ 1 ∷ 1 ∷ 1 ∷ 1 ∷ 0 ∷ [])) 6 0 ≡ false)
    × (entry_known (row (11 ∷ 0 ∷ 0 ∷ 0 ∷ 0 ∷ 1 ∷ [])) 6 0 ≡ true) × (entry_known (row (14 ∷ 0 ∷ 0 ∷ 0 ∷ 0 ∷ 0 ∷ [])) 6 0 ≡ false)
unfolding entry_known each_field all_below held row_of rows field_known both between
statements = (refl, refl, refl, refl)
