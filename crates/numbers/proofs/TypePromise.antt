-- What a table that escapes refusal 4 promises of types and of the types of variables. Assumes nothing.
use Prim.Native.Nat.{ℕ, ◌+◌, ◌-◌, ◌≤◌, ◌<◌}
use mathlib.Core.Path.{◌≡◌}
use mathlib.Core.Bool.{true}
use native.Mathlib.Omega.{arith}
use borrow.Author.Tests.{eq-eqb, eqb-true, leb-true, ltb-true}
use Rattle.basics.proofs.Bools.{both_l, both_r, all-at}
use Rattle.basics.proofs.Takes.{there, apart}
use Rattle.table.specs.Table.{Table}
use Rattle.table.specs.Entries.{type_kind, type_p, type_q, field_type, var_type, block_kind, type_count, field_count, var_count, block_count}
use Rattle.types.proofs.Matching.{declared_from}
use Rattle.numbers.specs.Declarations.{is_record, record_first, record_count, fields_taken, field_below, record_ranged}
use Rattle.numbers.specs.Tested.{is_block, array_ranged, type_tested}
use Rattle.numbers.specs.Ranges.{in_range}
use Rattle.numbers.proofs.Parts.{fields-taken, type_row, var_row}

pub block_there : (T : Table) (k b : ℕ) → is_block T k b ≡ true → (b < block_count T) × (block_kind T b ≡ k)
block_there T k b e = (ltb-true b (block_count T) (both_l _ _ e), eqb-true (block_kind T b) k (both_r _ _ e))

module _ (T : Table) (h : in_range T ≡ true) where
  pub var-type : (x : ℕ) → x < var_count T → var_type T x < 3 + type_count T
  var-type x l = var_row T h x l

  -- a declared type
  module _ (τ : ℕ) (l : τ < 3 + type_count T) where
    row_of : (k : ℕ) → type_kind T τ ≡ k → 1 ≤ k → type_tested T (τ - 3) ≡ true
    row_of k e p = let q = declared_from T τ k e p in type_row T h (τ - 3) (omega arith)

    number : (k : ℕ) → type_kind T τ ≡ k → 1 ≤ k → 3 + (τ - 3) ≡ τ
    number k e p = let q = declared_from T τ k e p in omega arith

    -- records
    module _ (e : type_kind T τ ≡ 1) where
      a_record : record_ranged T τ ≡ true
      a_record = let r : 3 + (τ - 3) ≡ τ = number 1 e (omega arith) in rw (r, e) at (row_of 1 e (omega arith))

      pub record_some : 1 ≤ type_q T τ
      unfolding record_ranged
      record_some = leb-true 1 (type_q T τ) (both_l _ _ a_record)

      pub field_lower : (j : ℕ) → j < type_q T τ → field_type T (type_p T τ + j) < τ
      unfolding record_ranged field_below
      field_lower j g = ltb-true (field_type T (type_p T τ + j)) τ (all-at (type_q T τ) (field_below T τ) (both_r _ _ a_record) j g)

      pub takes_fields : is_record T (τ - 3) ≡ true
      unfolding is_record
      takes_fields = let r : 3 + (τ - 3) ≡ τ = number 1 e (omega arith) in rw r (eq-eqb (type_kind T τ) 1 e)

      pub fields_there : type_p T τ + type_q T τ ≤ field_count T
      unfolding fields_taken record_first record_count
      fields_there =
          let r : 3 + (τ - 3) ≡ τ = number 1 e (omega arith) in
          let q = declared_from T τ 1 e (omega arith) in
          let g = there (is_record T) (record_first T) (record_count T) (type_count T) (field_count T) (fields-taken T h) (τ - 3) (omega arith) takes_fields in
          rw r at g

    -- arrays
    module _ (e : type_kind T τ ≡ 2) where
      an_array : array_ranged T τ ≡ true
      an_array = let r : 3 + (τ - 3) ≡ τ = number 2 e (omega arith) in rw (r, e) at (row_of 2 e (omega arith))

      pub array_index : type_p T τ ≤ 2
      array_index = leb-true (type_p T τ) 2 (both_l _ _ an_array)

      pub element_lower : type_q T τ < τ
      element_lower = ltb-true (type_q T τ) τ (both_r _ _ an_array)

    -- process types
    pub process_module : type_kind T τ ≡ 3 → (type_p T τ < block_count T) × (block_kind T (type_p T τ) ≡ 1)
    process_module e =
        let r : 3 + (τ - 3) ≡ τ = number 3 e (omega arith) in
        block_there T 1 (type_p T τ) (rw (r, e) at (row_of 3 e (omega arith)))

  -- no two records take the same field
  pub fields_apart : (τ σ : ℕ) → τ < σ → σ < 3 + type_count T → type_kind T τ ≡ 1 → type_kind T σ ≡ 1 → type_p T τ + type_q T τ ≤ type_p T σ
  unfolding fields_taken record_first record_count
  fields_apart τ σ l g e f =
      let k : τ < 3 + type_count T = omega arith in
      let a = declared_from T τ 1 e (omega arith) in
      let r : 3 + (τ - 3) ≡ τ = number τ k 1 e (omega arith) in
      let q : 3 + (σ - 3) ≡ σ = number σ g 1 f (omega arith) in
      let w =
      apart (is_record T) (record_first T) (record_count T) (type_count T) (field_count T) (fields-taken T h) (τ - 3) (σ - 3) (omega arith) (omega arith)
      (takes_fields τ k e) (takes_fields σ g f) in
      rw (r, q) at w
