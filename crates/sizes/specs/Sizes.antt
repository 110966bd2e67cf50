-- Trusted: public promises are said with these definitions.
-- The words of types and of modules, and refusal 7 (01, The table, Verdicts; report 5.5, 7). Assumes nothing.
use Rattle.std.specs.Prelude.{ℕ, zero, suc, ◌+◌, ◌*◌, ◌%◌, Bool, true, false, eqb, leb}
use Rattle.basics.specs.Choice.{pick, all_below}
use Rattle.basics.specs.Course.{upto, course}
use Rattle.table.specs.Table.{Table}
use Rattle.table.specs.Entries.{type_count, block_count, type_kind, type_p, type_q, type_low, type_high, field_type, var_type, block_kind, first_var, vars}
use Rattle.types.specs.Match.{offset, elements, is_string, in_standard}

-- the sum of f at the numbers below n
unfoldable pub sum_below : ℕ → (ℕ → ℕ) → ℕ
sum_below zero f = 0
sum_below (suc n) f = sum_below n f + f n

-- the words of the first k fields of a record, where r gives the words of its parts
unfoldable pub fields_words : Table → ℕ → (ℕ → ℕ) → ℕ → ℕ
fields_words T τ r k = sum_below k (λ i. r (field_type T (type_p T τ + i)))

-- a type, where r gives the words of those with lower numbers: a record has those of its fields, an array those of its elements,
-- a simple value takes one word, each character of a string too
unfoldable pub type_words : Table → ℕ → (ℕ → ℕ) → ℕ
type_words T τ r =
    pick (eqb (type_kind T τ) 1) (fields_words T τ r (type_q T τ))
    (pick (eqb (type_kind T τ) 2) (elements T τ * r (type_q T τ))
    1)

-- THE WORDS of a type are found from lower-numbered types alone; a part with another number counts none
unfoldable pub words_of : Table → ℕ → ℕ
words_of T τ = course 0 (type_words T) τ

-- the words of σ as a part of τ
unfoldable pub part_words : Table → ℕ → ℕ → ℕ
part_words T τ σ = upto 0 (type_words T) τ σ

-- where field i of a record begins; a record ends where the field after its last would begin
unfoldable pub offset_in : Table → ℕ → ℕ → ℕ
offset_in T τ i = fields_words T τ (part_words T τ) i

-- low above high, bound outside its index type
unfoldable pub bounds_ok : Table → ℕ → Bool
bounds_ok T τ =
    pick (eqb (type_kind T τ) 2)
    (pick (leb (offset (type_low T τ)) (offset (type_high T τ)))
    (pick (in_standard (type_p T τ) (type_low T τ)) (in_standard (type_p T τ) (type_high T τ)) false)
    false)
    true

-- odd character array
unfoldable pub even_string : Table → ℕ → Bool
even_string T τ = pick (is_string T τ) (eqb (elements T τ % 2) 0) true

-- every declared type is judged, used or not: a type above 200 words
unfoldable pub type_ok : Table → ℕ → Bool
type_ok T τ = pick (bounds_ok T τ) (pick (even_string T τ) (leb (words_of T τ) 200) false) false

unfoldable pub type_sized : Table → ℕ → Bool
type_sized T i = type_ok T (3 + i)

unfoldable pub types_sized : Table → Bool
types_sized T = all_below (type_count T) (type_sized T)

-- where variable i of a block begins among its variables, counted with their types' words whatever their mode
unfoldable pub var_offset : Table → ℕ → ℕ → ℕ
var_offset T b i = sum_below i (λ k. words_of T (var_type T (first_var T b + k)))

-- the words of a block's variables
unfoldable pub module_words : Table → ℕ → ℕ
module_words T b = var_offset T b (vars T b)

-- a module's or block 0's variables above 256; procedures are not judged
unfoldable pub block_sized : Table → ℕ → Bool
block_sized T b = pick (leb (block_kind T b) 1) (leb (module_words T b) 256) true

unfoldable pub blocks_sized : Table → Bool
blocks_sized T = all_below (block_count T) (block_sized T)

-- THE RULE of refusal 7
unfoldable pub sized : Table → Bool
sized T = pick (types_sized T) (blocks_sized T) false
