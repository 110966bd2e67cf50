-- What a table that passes refusal 7 promises. Assumes nothing.
use Prim.Native.Nat.{ℕ, ◌+◌, ◌%◌, ◌≤◌, ◌<◌, min}
use mathlib.Core.Path.{◌≡◌, refl}
use mathlib.Core.Bool.{Bool, true, false}
use mathlib.Core.List.{List}
use lib.ListN.{get_or}
use lib.Dec.{leb}
use native.Mathlib.Omega.{arith}
use borrow.Author.Tests.{le-leb, leb-true, eqb-true}
use Rattle.basics.specs.Choice.{pick}
use Rattle.basics.proofs.Bools.{all-at, no_true}
use Rattle.table.specs.Table.{Table}
use Rattle.table.specs.Entries.{type_count, block_count, type_kind, type_p, type_q, type_low, type_high, block_kind, vars}
use Rattle.types.specs.Match.{offset, span, elements, is_string, in_standard}
use Rattle.types.proofs.Matching.{declared_from}
use Rattle.sizes.specs.Sizes.{words_of, offset_in, bounds_ok, even_string, types_sized, var_offset, module_words, block_sized, blocks_sized, sized}
use Rattle.sizes.specs.Kept.{kept, Sizes}
use Rattle.sizes.proofs.Counting.{offset-in}
use Rattle.sizes.proofs.Judging.{ok_bounds, ok_even, type_passes, words_small, any_small, var_offset_in}

-- a choice that ends in true and whose other answer is false went by its test
first : (a b : Bool) → pick a b false ≡ true → a ≡ true
first true b e = refl
first false b e = e

second : (a b : Bool) → pick a b false ≡ true → b ≡ true
second true b e = e
second false b e = no_true e

pub in_boolean : (v : ℕ) → in_standard 1 v ≡ true → v ≤ 1
unfolding in_standard
in_boolean v h = leb-true v 1 h

pub in_character : (v : ℕ) → in_standard 2 v ≡ true → v ≤ 127
unfolding in_standard
in_character v h = leb-true v 127 h

module _ (T : Table) (h : sized T ≡ true) where
  pub types_pass : types_sized T ≡ true
  unfolding sized
  types_pass = first (types_sized T) (blocks_sized T) h

  blocks_pass : blocks_sized T ≡ true
  unfolding sized
  blocks_pass = second (types_sized T) (blocks_sized T) h

  -- a type has at most 200 words
  pub words_most : (τ : ℕ) → τ < 3 + type_count T → words_of T τ ≤ 200
  words_most τ l = words_small T types_pass τ l

  -- an array's bounds
  module _ (τ : ℕ) (l : τ < 3 + type_count T) (k : type_kind T τ ≡ 2) where
    in-order : pick (leb (offset (type_low T τ)) (offset (type_high T τ))) (pick (in_standard (type_p T τ) (type_low T τ)) (in_standard (type_p T τ) (type_high T τ)) false) false ≡ true
    unfolding bounds_ok
    in-order = rw k at (ok_bounds T τ (type_passes T types_pass τ (declared_from T τ 2 k (omega arith)) l))

    in_type : pick (in_standard (type_p T τ) (type_low T τ)) (in_standard (type_p T τ) (type_high T τ)) false ≡ true
    in_type = second (leb (offset (type_low T τ)) (offset (type_high T τ))) _ in-order

    pub low_high : offset (type_low T τ) ≤ offset (type_high T τ)
    low_high = leb-true (offset (type_low T τ)) (offset (type_high T τ)) (first (leb (offset (type_low T τ)) (offset (type_high T τ))) _ in-order)

    pub low_in : in_standard (type_p T τ) (type_low T τ) ≡ true
    low_in = first (in_standard (type_p T τ) (type_low T τ)) _ in_type

    pub high_in : in_standard (type_p T τ) (type_high T τ) ≡ true
    high_in = second (in_standard (type_p T τ) (type_low T τ)) _ in_type

    pub elements_some : 1 ≤ elements T τ
    unfolding elements span
    elements_some = let q = low_high in omega arith

    pub string_even : type_q T τ ≡ 2 → elements T τ % 2 ≡ 0
    unfolding even_string is_string
    string_even e = eqb-true (elements T τ % 2) 0 (rw (k, e) at (ok_even T τ (type_passes T types_pass τ (declared_from T τ 2 k (omega arith)) l)))

  -- what is kept of a field's place is all of it
  pub offset_exact : (τ i r : ℕ) → τ < 3 + type_count T → type_kind T τ ≡ 1 → i ≤ type_q T τ → r ≡ min (offset_in T τ i) 201 → r ≡ offset_in T τ i
  offset_exact τ i r l k g e = let u = offset-in T τ k i g in let v = words_most τ l in omega arith

  -- the variables of a program or module
  module _ (b : ℕ) (l : b < block_count T) (k : block_kind T b ≤ 1) where
    pub module_most : module_words T b ≤ 256
    unfolding blocks_sized block_sized
    module_most =
        leb-true (module_words T b) 256
        (rw (le-leb (block_kind T b) 1 k) at (all-at (block_count T) (block_sized T) blocks_pass b l))

    pub var_exact : (i r : ℕ) → i ≤ vars T b → r ≡ min (var_offset T b i) 257 → r ≡ var_offset T b i
    var_exact i r g e = let u = var_offset_in T b i g in let v = module_most in omega arith

  -- the array of words then holds them as they are
  pub sizes_exact : (m : List ℕ) → Sizes T m → (τ : ℕ) → τ < 3 + type_count T → get_or m τ 0 ≡ words_of T τ
  unfolding kept
  sizes_exact m s τ l = let e = s.holds.is τ l in let u = words_most τ l in omega arith

  -- and so does what is read from it, for every number
  pub size_exact : (m : List ℕ) → Sizes T m → (τ r : ℕ) → r ≡ min (words_of T τ) 201 → r ≡ words_of T τ
  size_exact m s τ r e = let u = any_small T m s types_pass τ in omega arith
