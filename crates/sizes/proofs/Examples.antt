-- The limits of refusal 7 on small tables (01, Edges: a type of 200 words passes, 201 returns 7). Assumes nothing.
use Prim.Native.Nat.{ℕ}
use mathlib.Core.Path.{◌≡◌, refl}
use mathlib.Core.Bool.{Bool, true, false}
use mathlib.Core.List.{List, [], ◌∷◌}
use lib.ListN.{length, get_or}
use lib.Dec.{eqb}
use Rattle.basics.specs.Choice.{pick, both, all_below}
use Rattle.basics.specs.Course.{upto, course}
use Rattle.table.specs.Table.{Table}
use Rattle.table.specs.Entries.{declared}
use Rattle.types.specs.Match.{offset, span, elements, is_string, in_standard}
use Rattle.sizes.specs.Sizes.{sum_below, fields_words, type_words, words_of, part_words, offset_in, bounds_ok, even_string, type_ok, type_sized, types_sized, var_offset, module_words, block_sized, blocks_sized, sized}

-- a table of types, fields and variables (their types), the variables all of block 0
abbrev table_with : List (List ℕ) → List ℕ → List ℕ → Table
table_with types fields variables =
    record {
      count = λ k. get_or (length types ∷ length fields ∷ length variables ∷ 1 ∷ []) k 0;
      cell = λ k i f.
          pick (eqb k 0) (get_or (get_or types i []) f 0)
          (pick (eqb k 1) (get_or fields i 0)
          (pick (eqb k 2) (get_or (0 ∷ get_or variables i 0 ∷ []) f 0)
          (pick (eqb k 3) (get_or (0 ∷ 0 ∷ 0 ∷ 0 ∷ length variables ∷ []) f 0) 0)));
    }

-- one array type: index type, element type, bounds
abbrev one_array : ℕ → ℕ → ℕ → ℕ → Bool
one_array ι σ low high = sized (table_with ((2 ∷ ι ∷ σ ∷ low ∷ high ∷ []) ∷ []) [] [])

pub arrays : (one_array 0 0 1 200 ≡ true) × (one_array 0 0 1 201 ≡ false)
    × (one_array 0 2 1 4 ≡ true) × (one_array 0 2 1 3 ≡ false) × (one_array 0 0 1 3 ≡ true)
    × (one_array 0 0 4 4 ≡ true) × (one_array 0 0 5 4 ≡ false)
    × (one_array 0 0 65535 0 ≡ true) × (one_array 0 0 0 65535 ≡ false) × (one_array 0 0 32767 32768 ≡ false)
    × (one_array 1 0 0 1 ≡ true) × (one_array 1 0 0 2 ≡ false) × (one_array 1 0 65535 0 ≡ false)
    × (one_array 2 0 0 127 ≡ true) × (one_array 2 0 0 128 ≡ false)
unfolding sized types_sized type_sized type_ok bounds_ok even_string blocks_sized block_sized module_words var_offset in_standard words_of course type_words fields_words sum_below upto all_below both declared elements span offset is_string
arrays = (refl, refl, refl, refl, refl, refl, refl, refl, refl, refl, refl, refl, refl, refl, refl)

-- an array of 128 words, a record of it and 72 more: 200 words; two such arrays are 256 words of variables
abbrev halves : List ℕ → List (List ℕ)
halves more = (2 ∷ 0 ∷ 0 ∷ 1 ∷ 128 ∷ []) ∷ (2 ∷ 0 ∷ 0 ∷ 1 ∷ 72 ∷ []) ∷ more ∷ []

pub sums : (sized (table_with (halves (1 ∷ 0 ∷ 2 ∷ [])) (3 ∷ 4 ∷ []) []) ≡ true)
    × (sized (table_with (halves (1 ∷ 0 ∷ 3 ∷ [])) (3 ∷ 4 ∷ 0 ∷ []) []) ≡ false)
    × (offset_in (table_with (halves (1 ∷ 0 ∷ 2 ∷ [])) (3 ∷ 4 ∷ []) []) 5 1 ≡ 128)
    × (sized (table_with (halves (3 ∷ [])) [] (3 ∷ 3 ∷ [])) ≡ true)
    × (sized (table_with (halves (3 ∷ [])) [] (3 ∷ 3 ∷ 0 ∷ [])) ≡ false)
unfolding sized types_sized type_sized type_ok bounds_ok even_string blocks_sized block_sized module_words var_offset in_standard words_of part_words offset_in course type_words fields_words sum_below upto all_below both declared elements span offset is_string
sums = (refl, refl, refl, refl, refl)

-- records of two fields of the type before: the words double
abbrev doubled : List (List ℕ) → Bool
doubled more = sized (table_with ((2 ∷ 0 ∷ 0 ∷ 1 ∷ 50 ∷ []) ∷ (1 ∷ 0 ∷ 2 ∷ []) ∷ (1 ∷ 2 ∷ 2 ∷ []) ∷ more) (3 ∷ 3 ∷ 4 ∷ 4 ∷ 5 ∷ 5 ∷ []) [])

pub doublings : (doubled [] ≡ true) × (doubled ((1 ∷ 4 ∷ 2 ∷ []) ∷ []) ≡ false)
unfolding sized types_sized type_sized type_ok bounds_ok even_string blocks_sized block_sized module_words var_offset in_standard words_of course type_words fields_words sum_below upto all_below both declared elements span offset is_string
doublings = (refl, refl)
