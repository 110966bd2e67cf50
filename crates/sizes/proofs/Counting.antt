-- Counting the words of a type: what a type's words are, and the laws of each return. Assumes nothing.
use Prim.Native.Nat.{ℕ, suc, ◌+◌, ◌-◌, ◌*◌, ◌≤◌, ◌<◌, min}
use mathlib.Core.Path.{◌≡◌, refl, sym, ◌∙◌}
use mathlib.Core.List.{List}
use lib.ListN.{length, get_or, set, take}
use lib.Seq.{length-take-le}
use native.Mathlib.Omega.{arith}
use native.Mathlib.Nat.{suc-mul, mul-le-mul_right}
use borrow.Author.Tests.{ne_eqb, lt-ltb, le-ltb}
use Rattle.basics.specs.Course.{course}
use Rattle.basics.specs.Holds.{Holds}
use Rattle.basics.proofs.Courses.{upto_below, upto_above}
use Rattle.basics.proofs.Holding.{holds_more}
use Rattle.table.specs.Table.{Table, table_at, cell_at, count_at}
use Rattle.table.specs.Entries.{declared, type_count, type_kind, type_p, type_q, type_low, type_high, field_type}
use Rattle.types.specs.Match.{offset, span, elements}
use Rattle.sizes.specs.Sizes.{sum_below, fields_words, type_words, words_of, part_words, offset_in}
use Rattle.sizes.specs.Kept.{kept, Known, Sizes}
use Rattle.sizes.proofs.Sums.{sum_more, sum_up, cap_add, cap_mul}

-- the words of a type, by its kind
module _ (T : Table) (τ : ℕ) where
  pub words_record : type_kind T τ ≡ 1 → words_of T τ ≡ offset_in T τ (type_q T τ)
  unfolding words_of course type_words part_words offset_in
  words_record e = rw e

  pub words_array : type_kind T τ ≡ 2 → words_of T τ ≡ elements T τ * part_words T τ (type_q T τ)
  unfolding words_of course type_words part_words
  words_array e = rw e

  pub words_simple : (type_kind T τ ≡ 1 → ⊥) → (type_kind T τ ≡ 2 → ⊥) → words_of T τ ≡ 1
  unfolding words_of course type_words
  words_simple a b = rw (ne_eqb (type_kind T τ) 1 a, ne_eqb (type_kind T τ) 2 b)

  pub part_lower : (σ : ℕ) → σ < τ → part_words T τ σ ≡ words_of T σ
  unfolding part_words words_of
  part_lower σ l = upto_below 0 (type_words T) τ σ l

  pub part_none : (σ : ℕ) → τ ≤ σ → part_words T τ σ ≡ 0
  unfolding part_words
  part_none σ l = upto_above 0 (type_words T) τ σ l

  pub offset_none : offset_in T τ 0 ≡ 0
  unfolding offset_in fields_words sum_below
  offset_none = refl

  pub offset_more : (i : ℕ) → offset_in T τ (i + 1) ≡ offset_in T τ i + part_words T τ (field_type T (type_p T τ + i))
  unfolding offset_in fields_words
  offset_more i = sum_more (λ k. part_words T τ (field_type T (type_p T τ + k))) i

-- where the parts of a record or an array lie: within it, if they have lower numbers
module _ (T : Table) (τ : ℕ) where
  pub offset_up : (i k : ℕ) → i ≤ k → offset_in T τ i ≤ offset_in T τ k
  unfolding offset_in fields_words
  offset_up i k l = sum_up (λ n. part_words T τ (field_type T (type_p T τ + n))) i k l

  module _ (e : type_kind T τ ≡ 1) (i : ℕ) where
    pub offset-in : i ≤ type_q T τ → offset_in T τ i ≤ words_of T τ
    offset-in l = rw (words_record T τ e) (offset_up i (type_q T τ) l)

    pub field_in : i < type_q T τ → field_type T (type_p T τ + i) < τ → offset_in T τ i + words_of T (field_type T (type_p T τ + i)) ≤ words_of T τ
    field_in l g =
        let u : offset_in T τ (i + 1) ≡ offset_in T τ i + words_of T (field_type T (type_p T τ + i)) = offset_more T τ i ∙ rw (part_lower T τ (field_type T (type_p T τ + i)) g) in
        let v = offset_up (i + 1) (type_q T τ) (omega arith) in
        let x = words_record T τ e in
        omega arith

  -- the place of an index value between the bounds
  pub index_in : (v : ℕ) → offset (type_low T τ) ≤ offset v → offset v ≤ offset (type_high T τ) → offset v - offset (type_low T τ) < elements T τ
  unfolding elements span
  index_in v l g = omega arith

  pub element_in : (j : ℕ) → type_kind T τ ≡ 2 → type_q T τ < τ → j < elements T τ → j * words_of T (type_q T τ) + words_of T (type_q T τ) ≤ words_of T τ
  element_in j e g l =
      let u : words_of T τ ≡ elements T τ * words_of T (type_q T τ) = words_array T τ e ∙ rw (part_lower T τ (type_q T τ) g) in
      let v : suc j * words_of T (type_q T τ) ≤ elements T τ * words_of T (type_q T τ) = mul-le-mul_right (words_of T (type_q T τ)) l in
      let x = suc-mul j (words_of T (type_q T τ)) in
      omega arith

-- one type
module _ (T : Table) (n : ℕ) where
  pub known_at : (l : List ℕ) (r : ℕ) → Known T l → n < length l → r ≡ get_or l n 0 → r ≡ min (words_of T n) 201
  unfolding kept
  known_at l r h k e = e ∙ h.holds.is n k

  module _ (kind : ℕ) (hk : kind ≡ type_kind T n) where
    pub w_record : (q r : ℕ) → kind ≡ 1 → q ≡ type_q T n → r ≡ min (offset_in T n q) 201 → r ≡ min (words_of T n) 201
    w_record q r e hq h = rw (words_record T n (sym hk ∙ e), ← hq) h

    pub w_array : (q c w r : ℕ) → kind ≡ 2 → q ≡ type_q T n → q < n → c ≡ elements T n → w ≡ min (words_of T q) 201 → r ≡ min (c * w) 201 → r ≡ min (words_of T n) 201
    w_array q c w r e hq l hc hw h =
        rw (words_array T n (sym hk ∙ e), ← hq, part_lower T n q l, ← hc) (cap_mul 201 (words_of T q) w hw c r h)

    pub w_none : (q : ℕ) → kind ≡ 2 → q ≡ type_q T n → n ≤ q → 0 ≡ min (words_of T n) 201
    w_none q e hq l =
        let x : words_of T n ≡ elements T n * 0 = words_array T n (sym hk ∙ e) ∙ rw (← hq, part_none T n q l) in omega arith

    pub w_simple : (kind ≡ 1 → ⊥) → (kind ≡ 2 → ⊥) → 1 ≡ min (words_of T n) 201
    w_simple a b = let x = words_simple T n (λ e. a (hk ∙ e)) (λ e. b (hk ∙ e)) in omega arith

pub ruleset counts = (known_at, w_record, w_array, w_none, w_simple)

-- the fields of a record one after the other
module _ (T : Table) (n : ℕ) where
  pub o_none : 0 ≡ min (offset_in T n 0) 201
  o_none = rw (offset_none T n)

  module _ (p i sum f : ℕ) (hp : p ≡ type_p T n) (hs : sum ≡ min (offset_in T n i) 201) (hf : f ≡ field_type T (p + i)) where
    pub o_more : (w r : ℕ) → f < n → w ≡ min (words_of T f) 201 → r ≡ min (sum + w) 201 → r ≡ min (offset_in T n (i + 1)) 201
    o_more w r l hw h =
        rw (offset_more T n i, ← hp, ← hf, part_lower T n f l) (cap_add 201 (offset_in T n i) sum hs (words_of T f) w r hw h)

    pub o_skip : n ≤ f → sum ≡ min (offset_in T n (i + 1)) 201
    o_skip l =
        let x : offset_in T n (i + 1) ≡ offset_in T n i + 0 = offset_more T n i ∙ rw (← hp, ← hf, part_none T n f l) in omega arith

-- a part as long as it was asked for
pub part_long : (n : ℕ) (l : List ℕ) → n ≤ length l → n ≡ length (take n l)
part_long n l h = sym (length-take-le n l h)

-- numbers that no type has, and the standard types
pub kind_none : (w : ℕ) (t : List ℕ) (τ : ℕ) → 3 + type_count (table_at w t) ≤ τ → type_kind (table_at w t) τ ≡ 0
unfolding table_at cell_at declared
kind_none w t τ h = let g : count_at w t 0 ≤ τ - 3 = omega arith in rw (le-ltb τ 3 (omega arith), le-ltb (τ - 3) (count_at w t 0) g)

pub words_far : (T : Table) (l : List ℕ) → Sizes T l → (τ : ℕ) → 3 + type_count T ≤ τ → words_of T τ ≡ 1
words_far T l h τ g = let e = h.beyond τ g in words_simple T τ (λ q. omega arith) (λ q. omega arith)

pub words_standard : (T : Table) (τ : ℕ) → τ < 3 → words_of T τ ≡ 1
unfolding declared
words_standard T τ h =
    let e : type_kind T τ ≡ 0 = rw (lt-ltb τ 3 h) in words_simple T τ (λ q. omega arith) (λ q. omega arith)

-- all types
module _ (T : Table) (l : List ℕ) where
  pub sizes_more : (n w v : ℕ) → Holds (kept T) n l → n < length l → v ≡ w → w ≡ min (words_of T n) 201 → Holds (kept T) (n + 1) (set l n v)
  unfolding kept
  sizes_more n w v h k e f = holds_more (kept T) l n v h k (e ∙ f)

-- a number that no type has
pub size_none : (T : Table) (l : List ℕ) (c : ℕ) → c ≡ type_count T → Sizes T l → (n : ℕ) → 3 + c ≤ n → 1 ≡ min (words_of T n) 201
size_none T l c e h n k = let q = words_far T l h n (rw e at k) in omega arith
