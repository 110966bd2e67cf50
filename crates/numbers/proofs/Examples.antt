-- The rule of refusal 4 at small tables. Assumes nothing.
use mathlib.Core.Path.{◌≡◌, refl}
use mathlib.Core.Bool.{true, false}
use mathlib.Core.List.{List, [], ◌∷◌}
use Prim.Native.Nat.{ℕ}
use lib.ListN.{length, get_or}
use Rattle.basics.specs.Choice.{both, between, all_below}
use Rattle.basics.specs.Chain.{free, carried, chained, step_take, test_take, taken, always}
use Rattle.basics.specs.Course.{upto, course}
use Rattle.basics.specs.Marks.{occurs, gather}
use Rattle.table.specs.Table.{Table}
use Rattle.table.specs.Entries.{declared}
use Rattle.types.specs.Types.{node_type, type_of}
use Rattle.table.specs.Kinds.{variable_kind, names, rows, row_of, held, each_field, is_call}
use Rattle.numbers.specs.Sorts.{nameable, limit, field_ranged, entry_ranged}
use Rattle.numbers.specs.Declarations.{is_record, record_first, record_count, fields_taken, field_below, record_ranged, type_ranged, module_of, named_modules, named_once, modules_once}
use Rattle.numbers.specs.Blocks.{variables_taken, program_placed, owner_ranged, space_ranged, mode_placed, variables_placed, block_placed, block_ranged}
use Rattle.numbers.specs.Operands.{place_ranged, node_ranged, arguments_taken, is_string_node, string_first, string_count, characters_taken}
use Rattle.numbers.specs.Ranges.{in_order, types_ranged, declarations_ranged, operands_ranged, in_range}

-- a table by its sections' rows
abbrev program : List (List (List ℕ)) → Table
program s = record { count = λ k. length (get_or s k []); cell = λ k i f. get_or (get_or (get_or s k []) i []) f 0 }

-- skip, and the end of block 0
abbrev body : List (List ℕ)
body = (0 ∷ 0 ∷ 0 ∷ 0 ∷ 0 ∷ 0 ∷ []) ∷ (13 ∷ 0 ∷ 0 ∷ 0 ∷ 0 ∷ 0 ∷ []) ∷ []

-- the least program, with a first statement and a space
abbrev least : ℕ → ℕ → Table
least first space = program ([] ∷ [] ∷ [] ∷ ((0 ∷ 0 ∷ 0 ∷ 0 ∷ 0 ∷ first ∷ space ∷ []) ∷ []) ∷ [] ∷ [] ∷ body ∷ [])

-- type 3 is a record of two fields, an integer and one of type σ; the field at place q of a variable of type τ is selected
abbrev selects : ℕ → ℕ → ℕ → Table
selects σ τ q =
    program
    (((1 ∷ 0 ∷ 2 ∷ 0 ∷ 0 ∷ []) ∷ []) ∷ ((0 ∷ []) ∷ (σ ∷ []) ∷ []) ∷ ((0 ∷ τ ∷ []) ∷ []) ∷ ((0 ∷ 0 ∷ 0 ∷ 0 ∷ 1 ∷ 0 ∷ 0 ∷ []) ∷ []) ∷ []
    ∷ ((1 ∷ 0 ∷ 0 ∷ 0 ∷ []) ∷ (2 ∷ 0 ∷ q ∷ 0 ∷ []) ∷ []) ∷ body ∷ [])

-- the characters a and b, and the string of `many` from `first` on
abbrev spells : ℕ → ℕ → Table
spells first many =
    program ([] ∷ [] ∷ [] ∷ ((0 ∷ 0 ∷ 0 ∷ 0 ∷ 0 ∷ 0 ∷ 0 ∷ []) ∷ []) ∷ [] ∷ ((8 ∷ first ∷ many ∷ 0 ∷ []) ∷ []) ∷ body ∷ ((97 ∷ []) ∷ (98 ∷ []) ∷ []) ∷ [])

-- a string of no character, where there is none
abbrev empty : Table
empty = program ([] ∷ [] ∷ [] ∷ ((0 ∷ 0 ∷ 0 ∷ 0 ∷ 0 ∷ 0 ∷ 0 ∷ []) ∷ []) ∷ [] ∷ ((8 ∷ 0 ∷ 0 ∷ 0 ∷ []) ∷ []) ∷ body ∷ [])

-- a first statement that is not there; an odd space, and one above 510; a place that the record has not, where a variable that is no record
-- gives no range; a field of its record's own type; a variable of a type that is not there;
-- a string that leaves a character after it, or before it; no length 0
examples :
    (in_range (least 0 0) ≡ true) × (in_range (least 1 510) ≡ true) × (in_range (least 2 0) ≡ false) × (in_range (least 0 511) ≡ false)
    × (in_range (least 0 512) ≡ false) × (in_range (selects 1 3 1) ≡ true) × (in_range (selects 1 3 2) ≡ false) × (in_range (selects 1 0 2) ≡ true)
    × (in_range (selects 3 3 1) ≡ false) × (in_range (selects 1 4 1) ≡ false) × (in_range (spells 0 2) ≡ true) × (in_range (spells 0 1) ≡ false) × (in_range (spells 1 1) ≡ false)
    × (in_range empty ≡ false)
unfolding in_range in_order types_ranged declarations_ranged operands_ranged both all_below fields_taken variables_taken arguments_taken characters_taken is_string_node string_first string_count taken chained carried free modules_once named_once named_modules gather occurs block_ranged block_placed program_placed owner_ranged space_ranged variables_placed entry_ranged each_field held row_of rows field_ranged limit nameable between is_call names step_take test_take always declared is_record record_first record_count record_ranged field_below type_ranged module_of mode_placed node_ranged place_ranged variable_kind type_of course upto node_type
examples = (refl, refl, refl, refl, refl, refl, refl, refl, refl, refl, refl, refl, refl, refl)
