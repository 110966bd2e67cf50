-- Values of types: the laws of each return of the walk over a value. Assumes nothing.
use Prim.Native.Nat.{ℕ, zero, suc, ◌+◌, ◌*◌, ◌≤◌, ◌<◌}
use mathlib.Core.Path.{◌≡◌, refl, sym, ap, ◌∙◌, fun_ext}
use mathlib.Core.Bool.{Bool, true, false}
use lib.Dec.{eqb, ltb}
use native.Mathlib.Omega.{arith}
use native.Mathlib.Numerals.{add-one}
use native.Mathlib.Nat.{add-zero, suc-mul}
use mir.Val.{Fits}
use mir.Syntax.{w64}
use borrow.Author.Tests.{ne_eqb, lt-ltb, le-ltb, ltb-false}
use Rattle.basics.specs.Choice.{pick, both, either, all_below}
use Rattle.basics.specs.Cases.{cases}
use Rattle.basics.proofs.Passes.{passed_none, passed_more, passed_fail, passed_all}
use Rattle.table.specs.Table.{Table}
use Rattle.table.specs.Entries.{declared, type_kind, type_p, type_q, type_low, type_high, field_type}
use Rattle.types.specs.Match.{elements}
use Rattle.sizes.specs.Sizes.{words_of, offset_in}
use Rattle.sizes.proofs.Counting.{offset_none, offset_more, part_lower, field_in, element_in}
use Rattle.machine.specs.Memory.{Memory}
use Rattle.machine.specs.Entries.{TypeEntry, integer, boolean, character, record_type, array_type, process_type, no_type, type_at}
use Rattle.machine.specs.Processes.{refers}
use Rattle.machine.specs.Values.{holds, type_holds, nowhere}
use Rattle.machine.proofs.Courses.{below, holds_is}
use Rattle.values.specs.Walks.{Near, simple_holds, reference_holds, part_holds, field_holds, fields_hold, element_holds, elements_hold, RecordAt, ArrayAt, FieldsTo, ElementsTo}

-- a type with a kind is no standard type
pub no_standard : (T : Table) (τ : ℕ) → 1 ≤ type_kind T τ → 3 ≤ τ
unfolding declared
no_standard T τ h = cases (ltb τ 3) (λ e. let q : 1 ≤ 0 = rw e at h in absurd (omega arith)) (λ e. ltb-false τ 3 e)

module _ (T : Table) (τ : ℕ) where
  pub type_record : type_kind T τ ≡ 1 → type_at T τ ≡ record_type (type_p T τ) (type_q T τ)
  unfolding type_at
  type_record e =
      let l = no_standard T τ (omega arith) in
      rw (ne_eqb τ 0 (omega arith), ne_eqb τ 1 (omega arith), ne_eqb τ 2 (omega arith), e)

  pub type_array : type_kind T τ ≡ 2 → type_at T τ ≡ array_type (type_p T τ) (type_q T τ) (type_low T τ) (type_high T τ)
  unfolding type_at
  type_array e =
      let l = no_standard T τ (omega arith) in
      rw (ne_eqb τ 0 (omega arith), ne_eqb τ 1 (omega arith), ne_eqb τ 2 (omega arith), e)

  pub type_process : type_kind T τ ≡ 3 → type_at T τ ≡ process_type (type_p T τ)
  unfolding type_at
  type_process e =
      let l = no_standard T τ (omega arith) in
      rw (ne_eqb τ 0 (omega arith), ne_eqb τ 1 (omega arith), ne_eqb τ 2 (omega arith), e)

  -- the others: standard types, and numbers that no type has
  unfoldable pub simple_at : TypeEntry
  simple_at = pick (eqb τ 0) integer (pick (eqb τ 1) boolean (pick (eqb τ 2) character no_type))

  pub type_simple : (type_kind T τ ≡ 1 → ⊥) → (type_kind T τ ≡ 2 → ⊥) → (type_kind T τ ≡ 3 → ⊥) → type_at T τ ≡ simple_at
  unfolding type_at simple_at
  type_simple a b c = rw (ne_eqb (type_kind T τ) 1 a, ne_eqb (type_kind T τ) 2 b, ne_eqb (type_kind T τ) 3 c)

-- a part of a lower type, or none
pub below_at : (τ : ℕ) (f : ℕ → ℕ → Bool) (σ k : ℕ) → below nowhere τ f σ k ≡ pick (ltb σ τ) (f σ k) false
unfolding nowhere
below_at τ f σ k = cases (ltb σ τ) (λ e. rw e) (λ e. rw e)

pub all_same : (n : ℕ) (f g : ℕ → Bool) → ((i : ℕ) → f i ≡ g i) → all_below n f ≡ all_below n g
all_same n f g h = ap (all_below n) (fun_ext h)

module _ (T : Table) (m : Memory) (τ a : ℕ) where
  at_type : holds T m τ a ≡ type_holds T m τ (below nowhere τ (holds T m)) (type_at T τ) a
  at_type = ap (λ (f : ℕ → Bool). f a) (holds_is T m τ)

  pub holds_record : type_kind T τ ≡ 1 → holds T m τ a ≡ fields_hold T m τ a
  unfolding type_holds fields_hold field_holds part_holds
  holds_record e =
      at_type
      ∙ ap (λ (x : TypeEntry). type_holds T m τ (below nowhere τ (holds T m)) x a) (type_record T τ e)
      ∙ all_same (type_q T τ) _ _ (λ i. below_at τ (holds T m) (field_type T (type_p T τ + i)) (a + offset_in T τ i))

  pub holds_array : type_kind T τ ≡ 2 → holds T m τ a ≡ elements_hold T m τ a
  unfolding type_holds elements_hold element_holds part_holds
  holds_array e =
      at_type
      ∙ ap (λ (x : TypeEntry). type_holds T m τ (below nowhere τ (holds T m)) x a) (type_array T τ e)
      ∙ all_same (elements T τ) _ _ (λ i. below_at τ (holds T m) (type_q T τ) (a + i * words_of T (type_q T τ)))

  either_pick : (b c : Bool) → either b c ≡ pick b true c
  unfolding either
  either_pick true c = refl
  either_pick false c = refl

  pub holds_process : type_kind T τ ≡ 3 → holds T m τ a ≡ reference_holds m (type_p T τ) a
  unfolding type_holds reference_holds
  holds_process e =
      at_type
      ∙ ap (λ (x : TypeEntry). type_holds T m τ (below nowhere τ (holds T m)) x a) (type_process T τ e)
      ∙ either_pick (eqb (m a) 0) (refers m (type_p T τ) (m a))

  simple_picks : type_holds T m τ (below nowhere τ (holds T m)) (simple_at T τ) a ≡ simple_holds m τ a
  unfolding type_holds simple_at simple_holds
  simple_picks =
      cases (eqb τ 0) (λ e. rw e)
      (λ e. cases (eqb τ 1) (λ f. rw (e, f)) (λ f. cases (eqb τ 2) (λ g. rw (e, f, g)) (λ g. rw (e, f, g))))

  pub holds_simple : (type_kind T τ ≡ 1 → ⊥) → (type_kind T τ ≡ 2 → ⊥) → (type_kind T τ ≡ 3 → ⊥) → holds T m τ a ≡ simple_holds m τ a
  holds_simple x y z =
      at_type
      ∙ ap (λ (x : TypeEntry). type_holds T m τ (below nowhere τ (holds T m)) x a) (type_simple T τ x y z)
      ∙ simple_picks

  -- the fields one after the other
  pub fields_none : FieldsTo T m τ a 0 a
  fields_none = record { is = rw (offset_none T τ) (sym (add-zero a)); passed = passed_none (field_holds T m τ a) }

  module _ (i k first f : ℕ) (h : FieldsTo T m τ a i k) (hp : first ≡ type_p T τ) (hf : f ≡ field_type T (first + i)) where
    field-type : f ≡ field_type T (type_p T τ + i)
    field-type = rw (← hp) hf

    field_is : (r : Bool) → f < τ → r ≡ holds T m f k → r ≡ field_holds T m τ a i
    unfolding field_holds part_holds
    field_is r l e = rw (← field-type, ← h.is, lt-ltb f τ l) e

    field_out : τ ≤ f → false ≡ field_holds T m τ a i
    unfolding field_holds part_holds
    field_out l = rw (← field-type, le-ltb f τ l)

    pub field_near : (q : ℕ) → RecordAt T m τ a → q ≡ type_q T τ → i < q → f < τ → Near T f k
    field_near q x e l g =
        let u = field_in T τ x.kind i (rw e at l) (rw field-type at g) in
        let v = x.near.near in
        let z = h.is in
        record { near = rw field-type (omega arith) }

    pub fields-more : (r : Bool) (w : ℕ) → f < τ → r ≡ holds T m f k → r ≡ true → w ≡ words_of T f → FieldsTo T m τ a (i + 1) (k + w)
    fields-more r w l e g hw =
        let u : offset_in T τ (i + 1) ≡ offset_in T τ i + words_of T f = offset_more T τ i ∙ rw (← field-type, part_lower T τ f l) in
        let v = h.is in
        record { is = omega arith; passed = passed_more (field_holds T m τ a) i r (field_is r l e) h.passed g }

    module _ (q : ℕ) (hq : q ≡ type_q T τ) (l : i < q) where
      pub fields_out : τ ≤ f → false ≡ fields_hold T m τ a
      unfolding fields_hold
      fields_out g = passed_fail (field_holds T m τ a) i false (field_out g) (type_q T τ) (rw hq at l) refl

      pub fields_fail : (r : Bool) → f < τ → r ≡ holds T m f k → r ≡ false → false ≡ fields_hold T m τ a
      unfolding fields_hold
      fields_fail r g e z = passed_fail (field_holds T m τ a) i r (field_is r g e) (type_q T τ) (rw hq at l) z

  pub fields_all : (i k q : ℕ) → FieldsTo T m τ a i k → q ≡ type_q T τ → i ≤ q → q ≤ i → true ≡ fields_hold T m τ a
  unfolding fields_hold
  fields_all i k q h e l g = passed_all (field_holds T m τ a) i (type_q T τ) h.passed (rw e at l) (rw e at g)

  -- the elements one after the other
  pub elements_none : ElementsTo T m τ a 0 a
  elements_none = record { is = omega arith; passed = passed_none (element_holds T m τ a) }

  module _ (i k q : ℕ) (h : ElementsTo T m τ a i k) (hq : q ≡ type_q T τ) where
    element_is : (r : Bool) → q < τ → r ≡ holds T m q k → r ≡ element_holds T m τ a i
    unfolding element_holds part_holds
    element_is r l e = rw (← hq, ← (rw (← hq) at h.is), lt-ltb q τ l) e

    element_out : τ ≤ q → false ≡ element_holds T m τ a i
    unfolding element_holds part_holds
    element_out l = rw (← hq, le-ltb q τ l)

    pub element_near : (n : ℕ) → ArrayAt T m τ a → n ≡ elements T τ → i < n → q < τ → Near T q k
    element_near n x e l g =
        let u = element_in T τ i x.kind (rw hq at g) (rw e at l) in
        let v = x.near.near in
        let z = h.is in
        record { near = rw hq (omega arith) }

    pub elements_more : (r : Bool) (w : ℕ) → q < τ → r ≡ holds T m q k → r ≡ true → w ≡ words_of T q → ElementsTo T m τ a (i + 1) (k + w)
    elements_more r w l e g hw =
        let z : k ≡ a + i * words_of T q = rw (← hq) at h.is in
        let u : (i + 1) * words_of T q ≡ i * words_of T q + words_of T q = rw (add-one i) (suc-mul i (words_of T q)) in
        record { is = rw (← hq) (omega arith); passed = passed_more (element_holds T m τ a) i r (element_is r l e) h.passed g }

    module _ (n : ℕ) (hn : n ≡ elements T τ) (l : i < n) where
      pub elements_out : τ ≤ q → false ≡ elements_hold T m τ a
      unfolding elements_hold
      elements_out g = passed_fail (element_holds T m τ a) i false (element_out g) (elements T τ) (rw hn at l) refl

      pub elements_fail : (r : Bool) → q < τ → r ≡ holds T m q k → r ≡ false → false ≡ elements_hold T m τ a
      unfolding elements_hold
      elements_fail r g e z = passed_fail (element_holds T m τ a) i r (element_is r g e) (elements T τ) (rw hn at l) z

  pub elements_all : (i k n : ℕ) → ElementsTo T m τ a i k → n ≡ elements T τ → i ≤ n → n ≤ i → true ≡ elements_hold T m τ a
  unfolding elements_hold
  elements_all i k n h e l g = passed_all (element_holds T m τ a) i (elements T τ) h.passed (rw e at l) (rw e at g)

-- a word holds an integer whatever it is
pub all_true : (n : ℕ) (f : ℕ → Bool) → ((i : ℕ) → f i ≡ true) → true ≡ all_below n f
unfolding all_below both
all_true zero f h = refl
all_true (suc n) f h = rw (h n) (all_true n f h)

pub integer_holds : (T : Table) (m : Memory) (a : ℕ) → holds T m 0 a ≡ true
unfolding simple_holds declared
integer_holds T m a = holds_simple T m 0 a (λ e. absurd (omega arith)) (λ e. absurd (omega arith)) (λ e. absurd (omega arith))

-- the next part's location is a number
pub walk_fits : (T : Table) (τ a w : ℕ) → Near T τ a → w ≡ words_of T τ → Fits w64 (a + w)
walk_fits T τ a w n e = let u = n.near in record { fits = omega arith }

pub ruleset fieldwalks = (fields_none, field_near, fields-more, fields_out, fields_fail, fields_all)

pub ruleset elementwalks = (elements_none, element_near, elements_more, elements_out, elements_fail, elements_all)
