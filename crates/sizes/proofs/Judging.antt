-- Judging types and blocks: the laws of each return. Assumes nothing.
use Prim.Native.Nat.{ℕ, ◌+◌, ◌-◌, ◌≤◌, ◌<◌, min}
use mathlib.Core.Path.{◌≡◌, refl}
use mathlib.Core.Bool.{Bool, true}
use mathlib.Core.List.{List}
use lib.Dec.{ltb}
use native.Mathlib.Omega.{arith}
use borrow.Author.Tests.{leb-true, ltb-true, ltb-false}
use Rattle.basics.specs.Cases.{cases}
use Rattle.basics.proofs.Bools.{all-at, no_true}
use Rattle.table.specs.Table.{Table}
use Rattle.table.specs.Entries.{type_count, var_type, first_var, vars}
use Rattle.sizes.specs.Sizes.{sum_below, words_of, bounds_ok, even_string, type_ok, type_sized, types_sized, var_offset, module_words}
use Rattle.sizes.specs.Kept.{Sizes}
use Rattle.sizes.proofs.Sums.{sum_more, sum_up, cap_add}
use Rattle.sizes.proofs.Counting.{words_far, words_standard}

pub type_row : (T : Table) (i : ℕ) (r : Bool) → r ≡ type_ok T (3 + i) → r ≡ type_sized T i
unfolding type_sized
type_row T i r e = e

-- a type that passes
module _ (T : Table) (τ : ℕ) (h : type_ok T τ ≡ true) where
  pub ok_bounds : bounds_ok T τ ≡ true
  unfolding type_ok
  ok_bounds = cases (bounds_ok T τ) (λ e. e) (λ e. no_true (rw e at h))

  pub ok_even : even_string T τ ≡ true
  unfolding type_ok
  ok_even = cases (even_string T τ) (λ e. e) (λ e. no_true (rw (ok_bounds, e) at h))

  pub ok_words : words_of T τ ≤ 200
  unfolding type_ok
  ok_words = leb-true (words_of T τ) 200 (rw (ok_bounds, ok_even) at h)

module _ (T : Table) (h : types_sized T ≡ true) where
  pub type_passes : (τ : ℕ) → 3 ≤ τ → τ < 3 + type_count T → type_ok T τ ≡ true
  unfolding types_sized type_sized
  type_passes τ l g =
      let e : 3 + (τ - 3) ≡ τ = omega arith in
      rw e at (all-at (type_count T) (λ i. type_ok T (3 + i)) h (τ - 3) (omega arith))

  pub words_small : (τ : ℕ) → τ < 3 + type_count T → words_of T τ ≤ 200
  words_small τ g =
      cases (ltb τ 3)
      (λ e. let q = words_standard T τ (ltb-true τ 3 e) in omega arith)
      (λ e. ok_words T τ (type_passes τ (ltb-false τ 3 e) g))

-- the variables of a block one after the other
pub var_none : (T : Table) (b : ℕ) → var_offset T b 0 ≡ 0
unfolding var_offset sum_below
var_none T b = refl

pub var_more : (T : Table) (b i : ℕ) → var_offset T b (i + 1) ≡ var_offset T b i + words_of T (var_type T (first_var T b + i))
unfolding var_offset
var_more T b i = sum_more (λ k. words_of T (var_type T (first_var T b + k))) i

pub var_offset_in : (T : Table) (b i : ℕ) → i ≤ vars T b → var_offset T b i ≤ module_words T b
unfolding module_words var_offset
var_offset_in T b i l = sum_up (λ n. words_of T (var_type T (first_var T b + n))) i (vars T b) l

-- a variable lies within those of its block
pub var_in : (T : Table) (b i : ℕ) → i < vars T b → var_offset T b i + words_of T (var_type T (first_var T b + i)) ≤ module_words T b
var_in T b i l = let e = var_more T b i in let u = var_offset_in T b (i + 1) (omega arith) in omega arith

module _ (T : Table) (l : List ℕ) (z : Sizes T l) (h : types_sized T ≡ true) where
  pub any_small : (τ : ℕ) → words_of T τ ≤ 200
  any_small τ =
      cases (ltb τ (3 + type_count T))
      (λ e. words_small T h τ (ltb-true τ (3 + type_count T) e))
      (λ e. let q = words_far T l z τ (ltb-false τ (3 + type_count T) e) in omega arith)

  pub v_more : (b p i sum x y r : ℕ) → p ≡ first_var T b → sum ≡ min (var_offset T b i) 257
      → x ≡ var_type T (p + i) → y ≡ min (words_of T x) 201 → r ≡ min (sum + y) 257
      → r ≡ min (var_offset T b (i + 1)) 257
  v_more b p i sum x y r hp hs hx hy e =
      let u = any_small x in
      rw (var_more T b i, ← hp, ← hx)
      (cap_add 257 (var_offset T b i) sum hs (words_of T x) y r (omega arith) e)

module _ (T : Table) (b : ℕ) where
  pub v_none : 0 ≡ min (var_offset T b 0) 257
  v_none = rw (var_none T b)

pub ruleset variables = (v_none, v_more)
