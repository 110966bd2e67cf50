-- The rule at small tables. Assumes nothing.
use mathlib.Core.Path.{◌≡◌, refl}
use mathlib.Core.Bool.{true, false}
use mathlib.Core.List.{List, [], ◌∷◌}
use Prim.Native.Nat.{ℕ}
use lib.Dec.{eqb}
use lib.ListN.{length, get_or}
use Rattle.basics.specs.Choice.{pick, both, all_below}
use Rattle.basics.specs.Marks.{occurs, gather}
use Rattle.table.specs.Table.{Table}
use Rattle.table.specs.Kinds.{rows, row_of, held, names}
use Rattle.uses.specs.Uses.{field_uses, entry_uses, section_uses, uses, once, used_once}

-- arguments, nodes (kind, p, q) and statements (kind, a, b)
abbrev program : List (List ℕ) → List (List ℕ) → List (List ℕ) → Table
program args nodes stmts =
    record {
      count = λ k. pick (eqb k 4) (length args) (pick (eqb k 5) (length nodes) (pick (eqb k 6) (length stmts) 0));
      cell = λ k i f. get_or (get_or (pick (eqb k 4) args (pick (eqb k 5) nodes (pick (eqb k 6) stmts []))) i []) f 0;
    }

-- x := x + 1, as nodes: whole x; whole x, its value, the constant 1, their sum
abbrev nodes : List (List ℕ)
nodes = (1 ∷ 0 ∷ 0 ∷ []) ∷ (1 ∷ 0 ∷ 0 ∷ []) ∷ (4 ∷ 1 ∷ 0 ∷ []) ∷ (0 ∷ 0 ∷ 0 ∷ []) ∷ (6 ∷ 2 ∷ 3 ∷ []) ∷ []

-- x := 'ab', as nodes: whole x; a string whose first character is 0
abbrev texts : List (List ℕ)
texts = (1 ∷ 0 ∷ 0 ∷ []) ∷ (8 ∷ 0 ∷ 2 ∷ []) ∷ []

-- each node is used once; the sum by two statements; the sum by none; by an argument; the second variable twice and the first not;
-- a string uses no node; a string that is not used
examples :
    (used_once (program [] nodes ((1 ∷ 0 ∷ 4 ∷ []) ∷ [])) ≡ true) × (used_once (program [] nodes ((1 ∷ 0 ∷ 4 ∷ []) ∷ (10 ∷ 4 ∷ 0 ∷ []) ∷ [])) ≡ false)
    × (used_once (program [] nodes ((4 ∷ 0 ∷ 0 ∷ []) ∷ [])) ≡ false) × (used_once (program ((4 ∷ []) ∷ []) nodes ((4 ∷ 0 ∷ 0 ∷ []) ∷ [])) ≡ true)
    × (used_once (program [] nodes ((1 ∷ 1 ∷ 4 ∷ []) ∷ [])) ≡ false) × (used_once (program [] texts ((1 ∷ 0 ∷ 1 ∷ []) ∷ [])) ≡ true)
    × (used_once (program [] texts ((4 ∷ 0 ∷ 0 ∷ []) ∷ [])) ≡ false)
unfolding used_once all_below both once uses section_uses entry_uses field_uses gather occurs names held row_of rows
examples = (refl, refl, refl, refl, refl, refl, refl)
