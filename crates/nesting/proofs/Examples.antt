-- The rule at small tables: one that is nested, and some that are not. Assumes nothing.
use mathlib.Core.Path.{◌≡◌, refl}
use mathlib.Core.Bool.{true, false}
use mathlib.Core.List.{List, [], ◌∷◌}
use Prim.Native.Nat.{ℕ}
use lib.Dec.{eqb}
use lib.ListN.{length, get_or}
use Rattle.basics.specs.Choice.{pick, both, all_below}
use Rattle.basics.specs.Chain.{free, carried, chained}
use Rattle.table.specs.Table.{Table}
use Rattle.nesting.specs.Nest.{class_of, class, stmt_end, body_from, arm_end, closed, arms_from, body_end, after_block, block_end, block_ok, nested}

-- a statement with its kind, a and link
abbrev stmt : ℕ → ℕ → ℕ → List ℕ
stmt k a l = k ∷ a ∷ 0 ∷ 0 ∷ 0 ∷ l ∷ []

-- blocks by their first statements, and statements
abbrev program : List ℕ → List (List ℕ) → Table
program firsts rows =
    record {
      count = λ k. pick (eqb k 3) (length firsts) (pick (eqb k 6) (length rows) 0);
      cell = λ k i f. pick (eqb k 3) (pick (eqb f 5) (get_or firsts i 0) 0) (pick (eqb k 6) (get_or (get_or rows i []) f 0) 0);
    }

-- skip; if arm skip arm skip end; block end: the first arm's link and the end's as given, then a block of skip and block end
abbrev two : ℕ → ℕ → ℕ → Table
two first l e =
    program (0 ∷ first ∷ [])
    (stmt 0 0 0 ∷ stmt 6 0 0 ∷ stmt 10 0 l ∷ stmt 0 0 0 ∷ stmt 10 0 6 ∷ stmt 0 0 0 ∷ stmt 11 0 e ∷ stmt 13 0 0 ∷ stmt 0 0 0 ∷ stmt 13 1 0 ∷ [])

-- a while whose arm has no statement
abbrev empty_arm : Table
empty_arm = program (0 ∷ []) (stmt 7 0 0 ∷ stmt 10 0 2 ∷ stmt 11 0 0 ∷ stmt 13 0 0 ∷ [])

-- a while with no end
abbrev no_end : Table
no_end = program (0 ∷ []) (stmt 7 0 0 ∷ stmt 10 0 3 ∷ stmt 0 0 0 ∷ stmt 13 0 0 ∷ [])

-- a block of its block end alone, and one of skip and the end of block b
abbrev bare : Table
bare = program (0 ∷ []) (stmt 13 0 0 ∷ [])

abbrev ended : ℕ → Table
ended b = program (0 ∷ []) (stmt 0 0 0 ∷ stmt 13 b 0 ∷ [])

-- nested; the first arm not linked to the second; the end not linked to its opener; a first statement that is not the next free one;
-- an arm with no statement; no end; a block with no statement; a block end of its own block; of another
examples :
    (nested (two 8 4 1) ≡ true) × (nested (two 8 6 1) ≡ false) × (nested (two 8 4 2) ≡ false) × (nested (two 7 4 1) ≡ false)
    × (nested empty_arm ≡ false) × (nested no_end ≡ false) × (nested bare ≡ false) × (nested (ended 0) ≡ true) × (nested (ended 1) ≡ false)
unfolding nested chained carried all_below both free block_end block_ok after_block body_end body_from stmt_end arm_end arms_from closed class class_of
examples = (refl, refl, refl, refl, refl, refl, refl, refl, refl)
