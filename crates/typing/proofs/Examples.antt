-- Types that match, and tables that keep the rule of refusal 9 or break it, by example. Assumes nothing.
use Prim.Native.Nat.{ℕ}
use mathlib.Core.Path.{◌≡◌, refl}
use mathlib.Core.Bool.{true, false}
use mathlib.Core.List.{List, [], ◌∷◌}
use lib.ListN.{length, get_or}
use Rattle.basics.specs.Choice.{both, all_below, between}
use Rattle.basics.specs.Course.{upto, course}
use Rattle.table.specs.Table.{Table}
use Rattle.table.specs.Entries.{declared}
use Rattle.types.specs.Types.{unary_type, binary_type, operand_type, node_type, type_of, numbered, string, evened, type_of_node}
use Rattle.types.specs.Match.{offset, span, elements, is_string, is_text, characters, same_number, Match, equal, fitted, unfit, matching, is_equal, is_fit, in_standard}
use Rattle.table.specs.Kinds.{variable_kind, expression_kind}
use Rattle.typing.specs.Typing.{unary_typed, alike_typed, binary_typed, node_typed, argument_typed, parameter_typed, arguments_typed, call_typed, stmt_typed, params_simple, character_typed, typed}

-- the table of these rows, section by section
rows_table : List (List (List ℕ)) → Table
rows_table l = record { count = λ k. length (get_or l k []); cell = λ k i f. get_or (get_or (get_or l k []) i []) f 0 }

-- strings 1..4 and 3..6 with an integer index, a string false..true, two records of an integer, an array 1..4 of integers
sample_types : Table
sample_types =
    rows_table
    (((2 ∷ 0 ∷ 2 ∷ 1 ∷ 4 ∷ [])
    ∷ (2 ∷ 0 ∷ 2 ∷ 3 ∷ 6 ∷ [])
    ∷ (2 ∷ 1 ∷ 2 ∷ 0 ∷ 1 ∷ [])
    ∷ (1 ∷ 0 ∷ 1 ∷ 0 ∷ 0 ∷ [])
    ∷ (1 ∷ 1 ∷ 1 ∷ 0 ∷ 0 ∷ [])
    ∷ (2 ∷ 0 ∷ 0 ∷ 1 ∷ 4 ∷ [])
    ∷ [])
    ∷ [])

numbers : ℕ → ℕ → Match
numbers τ σ = matching sample_types (numbered τ) (numbered σ)

matching_numbers :
    (numbers 0 0 ≡ equal)
    × (numbers 0 1 ≡ unfit)
    × (numbers 6 6 ≡ equal)
    × (numbers 3 4 ≡ equal)
    × (numbers 4 3 ≡ equal)
    × (numbers 3 5 ≡ fitted)
    × (numbers 5 3 ≡ fitted)
    × (numbers 6 7 ≡ unfit)
    × (numbers 3 8 ≡ unfit)
    × (numbers 2 3 ≡ unfit)
unfolding numbers rows_table sample_types matching both same_number is_text characters is_string elements span offset declared
matching_numbers = (refl, refl, refl, refl, refl, refl, refl, refl, refl, refl)

-- the types of string constants
matching_constants :
    (matching sample_types (string 4) (numbered 3) ≡ equal)
    × (matching sample_types (numbered 3) (string 6) ≡ fitted)
    × (matching sample_types (string 4) (string 4) ≡ equal)
    × (matching sample_types (string 4) (string 2) ≡ fitted)
    × (matching sample_types (string 4) (numbered 8) ≡ unfit)
    × (matching sample_types (string 2) (numbered 2) ≡ unfit)
unfolding rows_table sample_types matching both same_number is_text characters is_string elements span offset declared
matching_constants = (refl, refl, refl, refl, refl, refl)

-- 127 is a character, 128 is none; booleans are ordered, a declared type is not
constants : (in_standard 2 127 ≡ true) × (in_standard 2 128 ≡ false) × (in_standard 1 2 ≡ false) × (in_standard 0 65535 ≡ true)
unfolding in_standard
constants = (refl, refl, refl, refl)

ordered : (alike_typed 3 1 ≡ true) × (alike_typed 3 3 ≡ false) × (alike_typed 12 1 ≡ true) × (alike_typed 12 2 ≡ false)
unfolding alike_typed
ordered = (refl, refl, refl, refl)

-- x := x o 1, then a call with x of a procedure whose parameter has mode m: x is variable 0, an integer
sample_program : ℕ → ℕ → Table
sample_program o m =
    rows_table
    ([]
    ∷ []
    ∷ ((0 ∷ 0 ∷ []) ∷ (m ∷ 0 ∷ []) ∷ [])
    ∷ ((0 ∷ 0 ∷ 0 ∷ 0 ∷ 1 ∷ 0 ∷ 0 ∷ []) ∷ (2 ∷ 0 ∷ 1 ∷ 1 ∷ 1 ∷ 3 ∷ 0 ∷ []) ∷ [])
    ∷ ((5 ∷ []) ∷ [])
    ∷ ((1 ∷ 0 ∷ 0 ∷ 0 ∷ []) ∷ (1 ∷ 0 ∷ 0 ∷ 0 ∷ []) ∷ (4 ∷ 1 ∷ 0 ∷ 0 ∷ []) ∷ (0 ∷ 0 ∷ 0 ∷ 1 ∷ []) ∷ (6 ∷ 2 ∷ 3 ∷ o ∷ []) ∷ (1 ∷ 0 ∷ 0 ∷ 0 ∷ []) ∷ [])
    ∷ ((1 ∷ 0 ∷ 4 ∷ 0 ∷ 0 ∷ 0 ∷ []) ∷ (2 ∷ 1 ∷ 0 ∷ 0 ∷ 1 ∷ 0 ∷ []) ∷ (13 ∷ 0 ∷ 0 ∷ 0 ∷ 0 ∷ 0 ∷ []) ∷ (0 ∷ 0 ∷ 0 ∷ 0 ∷ 0 ∷ 0 ∷ []) ∷ (13 ∷ 1 ∷ 0 ∷ 0 ∷ 0 ∷ 0 ∷ []) ∷ [])
    ∷ [])

-- + and `and` give an integer, = gives a boolean; a value parameter takes no variable
programs :
    (typed (sample_program 7 2) ≡ true)
    × (typed (sample_program 12 2) ≡ true)
    × (typed (sample_program 1 2) ≡ false)
    × (typed (sample_program 7 1) ≡ false)
unfolding rows_table sample_program typed all_below both node_typed stmt_typed params_simple in_standard unary_typed binary_typed alike_typed call_typed arguments_typed parameter_typed argument_typed variable_kind expression_kind between type_of course upto node_type operand_type binary_type unary_type type_of_node matching same_number is_text is_string is_equal is_fit declared
programs = (refl, refl, refl, refl)

-- x := a string of a characters, then a call with one of b for a value parameter; x and the parameter are strings of 4; v is the last character
sample_texts : ℕ → ℕ → ℕ → Table
sample_texts a b v =
    rows_table
    (((2 ∷ 0 ∷ 2 ∷ 1 ∷ 4 ∷ []) ∷ [])
    ∷ []
    ∷ ((0 ∷ 3 ∷ []) ∷ (1 ∷ 3 ∷ []) ∷ [])
    ∷ ((0 ∷ 0 ∷ 0 ∷ 0 ∷ 1 ∷ 0 ∷ 0 ∷ []) ∷ (2 ∷ 0 ∷ 1 ∷ 1 ∷ 1 ∷ 3 ∷ 0 ∷ []) ∷ [])
    ∷ ((2 ∷ []) ∷ [])
    ∷ ((1 ∷ 0 ∷ 0 ∷ 0 ∷ []) ∷ (8 ∷ 0 ∷ a ∷ 0 ∷ []) ∷ (8 ∷ 1 ∷ b ∷ 0 ∷ []) ∷ [])
    ∷ ((1 ∷ 0 ∷ 1 ∷ 0 ∷ 0 ∷ 0 ∷ []) ∷ (2 ∷ 1 ∷ 0 ∷ 0 ∷ 1 ∷ 0 ∷ []) ∷ (13 ∷ 0 ∷ 0 ∷ 0 ∷ 0 ∷ 0 ∷ []) ∷ (0 ∷ 0 ∷ 0 ∷ 0 ∷ 0 ∷ 0 ∷ []) ∷ (13 ∷ 1 ∷ 0 ∷ 0 ∷ 0 ∷ 0 ∷ []) ∷ [])
    ∷ ((65 ∷ []) ∷ (66 ∷ []) ∷ (v ∷ []) ∷ [])
    ∷ [])

-- an assignment takes an equal string, where an odd one gains a character; a value argument any string; a character is below 128
texts :
    (typed (sample_texts 4 4 127) ≡ true)
    × (typed (sample_texts 3 4 127) ≡ true)
    × (typed (sample_texts 2 4 127) ≡ false)
    × (typed (sample_texts 5 4 127) ≡ false)
    × (typed (sample_texts 4 1 127) ≡ true)
    × (typed (sample_texts 4 6 127) ≡ true)
    × (typed (sample_texts 4 4 128) ≡ false)
unfolding rows_table sample_texts typed all_below both node_typed stmt_typed params_simple character_typed in_standard call_typed arguments_typed parameter_typed argument_typed expression_kind between type_of course node_type type_of_node evened matching same_number is_text characters is_string elements span offset is_equal is_fit declared
texts = (refl, refl, refl, refl, refl, refl, refl)
