-- Trusted: public promises are said with these definitions.
-- Variables in areas: the words that they take, and where they begin (01, A step: 256 words). Assumes nothing.
use Rattle.std.specs.Prelude.{ℕ, ◌+◌, ◌-◌, ◌%◌, Bool, true, false, eqb, leb, ltb}
use Rattle.basics.specs.Choice.{pick, both, all_below}
use Rattle.basics.specs.Course.{course}
use Rattle.table.specs.Table.{Table}
use Rattle.table.specs.Entries.{field_count, var_count, block_count, field_type, var_mode, var_type, block_kind, first_var, vars}
use Rattle.machine.specs.Memory.{within}
use Rattle.machine.specs.Entries.{TypeEntry, integer, boolean, character, record_type, array_type, process_type, no_type, type_at}
use Rattle.machine.specs.Layout.{locations}
use Rattle.sizes.specs.Sizes.{sum_below, words_of}

-- a variable takes the words of its type, a var parameter one: the location that it is bound to
unfoldable pub var_words : Table → ℕ → ℕ
var_words T v = pick (eqb (var_mode T v) 2) 1 (words_of T (var_type T v))

-- the words of the first k variables of block b
unfoldable pub first_words : Table → ℕ → ℕ → ℕ
first_words T b k = sum_below k (λ i. var_words T (first_var T b + i))

-- the words of a procedure's variables in its frame
unfoldable pub frame_words : Table → ℕ → ℕ
frame_words T q = first_words T q (vars T q)

-- where variable v begins among those of its block b
unfoldable pub offset_of : Table → ℕ → ℕ → ℕ
offset_of T b v = first_words T b (v - first_var T b)

-- v is a variable of block b
unfoldable pub belongs : Table → ℕ → ℕ → Bool
belongs T b v = both (ltb v (var_count T)) (within (first_var T b) (vars T b) v)

-- block b is a process module; it is a procedure
unfoldable pub is_module : Table → ℕ → Bool
is_module T b = both (ltb b (block_count T)) (eqb (block_kind T b) 1)

unfoldable pub is_procedure : Table → ℕ → Bool
is_procedure T b = both (ltb b (block_count T)) (eqb (block_kind T b) 2)

-- a type of the table, where r says which types with lower numbers are: its fields, elements and module exist
unfoldable pub known_type : Table → (ℕ → Bool) → TypeEntry → Bool
known_type T r integer = true
known_type T r boolean = true
known_type T r character = true
known_type T r (record_type first count) =
    both (leb (first + count) (field_count T)) (all_below count (λ i. r (field_type T (first + i))))
known_type T r (array_type ι σ low high) = both (ltb ι 3) (r σ)
known_type T r (process_type μ) = is_module T μ
known_type T r no_type = false

unfoldable pub known_at : Table → ℕ → (ℕ → Bool) → Bool
known_at T τ r = known_type T r (type_at T τ)

unfoldable pub type_exists : Table → ℕ → Bool
type_exists T τ = course false (known_at T) τ

-- a value of type τ at location a lies in one area
unfoldable pub fits : Table → ℕ → ℕ → Bool
fits T a τ = both (ltb a locations) (leb (a % 256 + words_of T τ) 256)
