-- The heads of types: the laws of each return. Assumes nothing.
use Prim.Native.Nat.{ℕ, zero, suc, ◌+◌, ◌*◌, ◌≤◌, ◌<◌}
use mathlib.Core.Path.{◌≡◌, refl, sym, ap, ◌∙◌}
use mathlib.Core.Bool.{Bool, true, false, not}
use mathlib.Core.List.{List, ◌∷◌}
use lib.ListN.{length, get_or}
use lib.Dec.{eqb, leb}
use native.Mathlib.Omega.{arith}
use native.Mathlib.Numerals.{add-one}
use native.Mathlib.Nat.{add-zero, suc-mul}
use borrow.Author.Tests.{eqb-true, ne_eqb, lt-ltb}
use Rattle.basics.specs.Choice.{both, all_below}
use Rattle.basics.specs.Cases.{cases}
use Rattle.basics.proofs.Bools.{no_true}
use Rattle.table.specs.Table.{Table}
use Rattle.table.specs.Entries.{declared, type_kind, type_p, type_q, field_type}
use Rattle.types.specs.Match.{elements}
use Rattle.sizes.specs.Sizes.{words_of, offset_in, part_words}
use Rattle.sizes.proofs.Counting.{words_record, words_array, words_simple, part_lower, offset_none, offset_more}
use Rattle.machine.specs.Memory.{Memory}
use Rattle.machine.specs.Values.{holds}
use Rattle.values.specs.Walks.{Near, WordCount, simple_holds, part_holds, field_holds, fields_hold, element_holds, elements_hold, RecordAt, ArrayAt}
use Rattle.values.specs.Heads.{has_parts, word_holds, words_hold, word_up_to, word_refers, head_holds, Head, HeadsTo, Heads, FieldsHave, PartHas, PartSaid, FieldsSaid, Tested}
use Rattle.values.proofs.Values.{all_same, all_true, integer_holds, holds_record, holds_array, holds_process, holds_simple}

-- ---- tests of numbers one after the other

both_assoc : (a b c : Bool) → both a (both b c) ≡ both (both a b) c
unfolding both
both_assoc true b c = refl
both_assoc false b c = refl

true_both : (a : Bool) → both true a ≡ a
unfolding both
true_both a = refl

both_true : (a : Bool) → both a true ≡ a
unfolding both
both_true true = refl
both_true false = refl

all_append : (n k : ℕ) (f : ℕ → Bool) → all_below (n + k) f ≡ both (all_below k (λ i. f (n + i))) (all_below n f)
unfolding all_below
all_append n zero f = rw (add-zero n) (let u : both true (all_below n f) ≡ all_below n f = true_both (all_below n f) in sym u)
all_append n (suc k) f =
    let u : n + suc k ≡ suc (n + k) = omega arith in
    rw (u, all_append n k f) (both_assoc (f (n + k)) (all_below k (λ i. f (n + i))) (all_below n f))

-- ---- words one after the other

module _ (T : Table) (m : Memory) (η a : ℕ) where
  words_append : (n k : ℕ) → words_hold T m η a (n + k) ≡ both (words_hold T m η (a + n) k) (words_hold T m η a n)
  unfolding words_hold word_holds
  words_append n k =
      all_append n k (word_holds T m η a)
      ∙ ap (λ (b : Bool). both b (words_hold T m η a n)) (all_same k _ _ (λ i. ap (holds T m η) (let u : a + (n + i) ≡ a + n + i = omega arith in u)))

  pub word_one : words_hold T m η a 1 ≡ holds T m η a
  unfolding words_hold word_holds all_below
  word_one = both_true (holds T m η (a + 0)) ∙ ap (holds T m η) (add-zero a)

  -- tests of parts, each of which is a test of its words, and which lie end to end
  module _ (off w : ℕ → ℕ) (test : ℕ → Bool) (z : off 0 ≡ 0) where
    parts_words : (n : ℕ) → ((i : ℕ) → i < n → off (suc i) ≡ off i + w i) → ((i : ℕ) → i < n → test i ≡ words_hold T m η (a + off i) (w i))
        → all_below n test ≡ words_hold T m η a (off n)
    unfolding all_below words_hold
    parts_words zero s t = rw z
    parts_words (suc n) s t =
        let p = parts_words n (λ i h. s i (omega arith)) (λ i h. t i (omega arith)) in
        rw (s n (omega arith), t n (omega arith), p) (sym (words_append (off n) (w n)))

-- ---- records and arrays, and what has no parts

module _ (T : Table) (τ : ℕ) where
  pub has_record : type_kind T τ ≡ 1 → has_parts T τ ≡ true
  unfolding has_parts
  has_record e = rw e

  pub has_array : type_kind T τ ≡ 2 → has_parts T τ ≡ true
  unfolding has_parts
  has_array e = rw e

  pub has_none : (type_kind T τ ≡ 1 → ⊥) → (type_kind T τ ≡ 2 → ⊥) → has_parts T τ ≡ false
  unfolding has_parts
  has_none a b = rw (ne_eqb (type_kind T τ) 1 a, ne_eqb (type_kind T τ) 2 b)

  module _ (h : has_parts T τ ≡ false) where
    no_record : type_kind T τ ≡ 1 → ⊥
    no_record e = no_true (sym h ∙ has_record e)

    no_array : type_kind T τ ≡ 2 → ⊥
    no_array e = no_true (sym h ∙ has_array e)

    words_one : words_of T τ ≡ 1
    words_one = words_simple T τ no_record no_array

  -- a type stands for itself
  pub head_self : Head T τ τ
  unfolding head_holds
  head_self =
      record {
        low = omega arith;
        fits = λ e. omega arith;
        is = λ m a.
            cases (has_parts T τ)
            (λ e. rw e)
            (λ e. rw (e, words_one e) (sym (word_one T m τ a)));
      }

  -- the head of an only part
  head_through : (σ η : ℕ) → σ ≤ τ → words_of T τ ≡ words_of T σ → ((m : Memory) (a : ℕ) → holds T m τ a ≡ holds T m σ a) → Head T σ η → Head T τ η
  unfolding head_holds
  head_through σ η l w g h =
      record {
        low = let u = h.low in omega arith;
        fits = λ e. let u = h.fits e in omega arith;
        is = λ m a. g m a ∙ h.is m a ∙ rw w;
      }

-- ---- a record

module _ (T : Table) (τ f : ℕ) (e : type_kind T τ ≡ 1) (l : f < τ) where
  module _ (hf : f ≡ field_type T (type_p T τ)) (one : type_q T τ ≡ 1) where
    pub first_field : field_type T (type_p T τ + 0) ≡ f
    first_field = rw (add-zero (type_p T τ)) (sym hf)

    pub only_words : words_of T τ ≡ words_of T f
    only_words =
        let u : offset_in T τ 1 ≡ offset_in T τ 0 + part_words T τ (field_type T (type_p T τ + 0)) = offset_more T τ 0 in
        let v : part_words T τ (field_type T (type_p T τ + 0)) ≡ words_of T f = rw (first_field, part_lower T τ f l) in
        let w = offset_none T τ in
        let x : words_of T τ ≡ offset_in T τ 1 = words_record T τ e ∙ rw one in
        omega arith

    only_holds : (m : Memory) (a : ℕ) → holds T m τ a ≡ holds T m f a
    unfolding fields_hold field_holds part_holds all_below
    only_holds m a =
        holds_record T m τ a e
        ∙ rw one (both_true _ ∙ rw (first_field, offset_none T τ, lt-ltb f τ l, add-zero a))

    pub record_only : (η : ℕ) → Head T f η → Head T τ η
    record_only η h = head_through T τ f η (omega arith) only_words only_holds h

-- every field of one simple head
module _ (T : Table) (τ η : ℕ) (e : type_kind T τ ≡ 1) (n : has_parts T η ≡ false) (h : FieldsHave T τ η (type_q T τ)) (low : η ≤ τ) where
  field_words : (m : Memory) (a i : ℕ) → i < type_q T τ → field_holds T m τ a i ≡ words_hold T m η (a + offset_in T τ i) (part_words T τ (field_type T (type_p T τ + i)))
  unfolding field_holds part_holds head_holds
  field_words m a i k =
      let p = h.is i k in
      rw (lt-ltb (field_type T (type_p T τ + i)) τ p.lower, part_lower T τ (field_type T (type_p T τ + i)) p.lower)
      (p.head.is m (a + offset_in T τ i) ∙ rw n)

  pub record_words : Head T τ η
  unfolding head_holds fields_hold
  record_words =
      record {
        low = low;
        fits = λ q. no_true (sym n ∙ q);
        is = λ m a.
            holds_record T m τ a e
            ∙ parts_words T m η a (offset_in T τ) (λ i. part_words T τ (field_type T (type_p T τ + i))) (field_holds T m τ a) (offset_none T τ) (type_q T τ)
            (λ i k. let u = offset_more T τ i in rw (add-one i) at u)
            (λ i k. field_words m a i k)
            ∙ rw (n, words_record T τ e);
      }

-- ---- an array

module _ (T : Table) (τ q : ℕ) (e : type_kind T τ ≡ 2) (l : q < τ) (hq : q ≡ type_q T τ) where
  pub array_size : words_of T τ ≡ elements T τ * words_of T q
  array_size = words_array T τ e ∙ rw (← hq, part_lower T τ q l)

  element_at : (m : Memory) (a i : ℕ) → element_holds T m τ a i ≡ holds T m q (a + i * words_of T q)
  unfolding element_holds part_holds
  element_at m a i = rw (← hq, lt-ltb q τ l)

  pub array_only : (η : ℕ) → elements T τ ≡ 1 → Head T q η → Head T τ η
  unfolding elements_hold all_below
  array_only η one h =
      head_through T τ q η (omega arith)
      (let u : words_of T τ ≡ 1 * words_of T q = array_size ∙ rw one in omega arith)
      (λ m a. holds_array T m τ a e ∙ rw one (both_true _ ∙ element_at m a 0 ∙ ap (holds T m q) (let u : a + 0 * words_of T q ≡ a = omega arith in u)))
      h

  pub array_words : (η : ℕ) → has_parts T η ≡ false → Head T q η → Head T τ η
  unfolding head_holds elements_hold
  array_words η n h =
      record {
        low = let u = h.low in omega arith;
        fits = λ x. no_true (sym n ∙ x);
        is = λ m a.
            holds_array T m τ a e
            ∙ parts_words T m η a (λ i. i * words_of T q) (λ i. words_of T q) (element_holds T m τ a) (omega arith) (elements T τ)
            (λ i k. suc-mul i (words_of T q))
            (λ i k. element_at m a i ∙ h.is m (a + i * words_of T q) ∙ rw n)
            ∙ rw (n, array_size);
      }

-- ---- the returns

module _ (T : Table) (τ : ℕ) where
  pub head_at : (l : List ℕ) (r : ℕ) → Heads T l → τ < length l → r ≡ get_or l τ 0 → Head T τ r
  head_at l r h k e = rw e (h.is τ k)

  module _ (kind : ℕ) (hk : kind ≡ type_kind T τ) where
    pub parts_record : kind ≡ 1 → true ≡ has_parts T τ
    parts_record e = sym (has_record T τ (sym hk ∙ e))

    pub parts_array : (kind ≡ 1 → ⊥) → eqb kind 2 ≡ has_parts T τ
    unfolding has_parts
    parts_array n = rw (← hk, ne_eqb kind 1 n)

    pub kind_record : kind ≡ 1 → type_kind T τ ≡ 1
    kind_record e = sym hk ∙ e

    pub kind_array : kind ≡ 2 → type_kind T τ ≡ 2
    kind_array e = sym hk ∙ e

pub ruleset heading = (head_at, head_self, parts_record, parts_array, kind_record, kind_array)

-- a part that shares a head
module _ (T : Table) (τ η σ : ℕ) where
  pub part_said : (g : ℕ) → σ < τ → Head T σ g → PartSaid T τ η σ (eqb g η)
  part_said g l h = record { said = λ e. record { lower = l; head = let q : g ≡ η = eqb-true g η e in rw q at h } }

  pub part_unsaid : PartSaid T τ η σ false
  part_unsaid = record { said = λ e. no_true e }

-- the fields that do
module _ (T : Table) (τ η : ℕ) where
  pub field_has : (first f x : ℕ) (r : Bool) → first ≡ type_p T τ → f ≡ field_type T (first + x) → PartSaid T τ η f r → true ≡ r → PartHas T τ η (field_type T (type_p T τ + x))
  field_has first f x r hp hf s e = rw (← hp, ← hf) (s.said (sym e))

  pub fields_have : (n : ℕ) (r : Bool) → n ≡ type_q T τ → (r ≡ true → (x : ℕ) → x < n → PartHas T τ η (field_type T (type_p T τ + x))) → FieldsSaid T τ η r
  fields_have n r e h = record { said = λ y. record { is = λ j k. h y j (rw e k) } }

pub ruleset having = (part_said, part_unsaid)

-- a record's head, an array's
module _ (T : Table) (τ : ℕ) where
  module _ (f p η : ℕ) (hp : p ≡ type_p T τ) (hf : f ≡ field_type T p) (l : f < τ) (e : type_kind T τ ≡ 1) (h : Head T f η) where
    pub r_only : (n : ℕ) → n ≡ type_q T τ → n ≡ 1 → Head T τ η
    r_only n hn one = record_only T τ f e l (rw hp at hf) (sym hn ∙ one) η h

    pub r_words : (b r : Bool) → b ≡ has_parts T η → b ≡ false → FieldsSaid T τ η r → r ≡ true → Head T τ η
    r_words b r hb z s y = record_words T τ η e (sym hb ∙ z) (s.said y) (let u = h.low in omega arith)

  module _ (q η : ℕ) (hq : q ≡ type_q T τ) (l : q < τ) (e : type_kind T τ ≡ 2) (h : Head T q η) where
    pub a_only : (n : ℕ) → n ≡ elements T τ → n ≡ 1 → Head T τ η
    a_only n hn one = array_only T τ q e l hq η (sym hn ∙ one) h

    pub a_words : (b : Bool) → b ≡ has_parts T η → b ≡ false → Head T τ η
    a_words b hb z = array_words T τ q e l hq η (sym hb ∙ z) h

    pub a_other : (b v : Bool) → b ≡ has_parts T η → v ≡ not b → v ≡ true → Head T τ η
    a_other true v hb e z = no_true (sym e ∙ z)
    a_other false v hb e z = a_words false hb refl

pub ruleset recordheads = (r_only, r_words, head_self)

pub ruleset arrayheads = (a_only, a_words, a_other, head_self)

-- all types
standard_head : (T : Table) (l : List ℕ) (j : ℕ) → j < 3 → Head T j (get_or (0 ∷ 1 ∷ 2 ∷ l) j 0)
standard_head T l zero h = head_self T 0
standard_head T l (suc zero) h = head_self T 1
standard_head T l (suc (suc zero)) h = head_self T 2
standard_head T l (suc (suc (suc j))) h = absurd (omega arith)

pub standard_heads : (T : Table) (l : List ℕ) → HeadsTo T 3 (0 ∷ 1 ∷ 2 ∷ l)
standard_heads T l = record { long = omega arith; is = standard_head T l }

pub head_small : (T : Table) (τ h n : ℕ) → Head T τ h → τ < n → n ≤ 65536 → h < 65536
head_small T τ h n e a b = let u = e.low in omega arith

-- ---- words of one sort

all_none : (n : ℕ) (f : ℕ → Bool) → ((i : ℕ) → f i ≡ false) → eqb n 0 ≡ all_below n f
unfolding all_below both
all_none zero f h = refl
all_none (suc n) f h = rw (h n) (ne_eqb (suc n) 0 (λ e. omega arith))

module _ (T : Table) (m : Memory) where
  truth : (a : ℕ) → holds T m 1 a ≡ leb (m a) 1
  unfolding simple_holds declared
  truth a = holds_simple T m 1 a (λ e. absurd (omega arith)) (λ e. absurd (omega arith)) (λ e. absurd (omega arith))

  sign : (a : ℕ) → holds T m 2 a ≡ leb (m a) 127
  unfolding simple_holds declared
  sign a = holds_simple T m 2 a (λ e. absurd (omega arith)) (λ e. absurd (omega arith)) (λ e. absurd (omega arith))

  module _ (h a n : ℕ) where
    pub sort_truth : (r : Bool) → h ≡ 1 → r ≡ all_below n (word_up_to m 1 a) → r ≡ words_hold T m h a n
    unfolding words_hold word_holds word_up_to
    sort_truth r e g = g ∙ rw e (all_same n _ _ (λ i. sym (truth (a + i))))

    pub sort_sign : (r : Bool) → h ≡ 2 → r ≡ all_below n (word_up_to m 127 a) → r ≡ words_hold T m h a n
    unfolding words_hold word_holds word_up_to
    sort_sign r e g = g ∙ rw e (all_same n _ _ (λ i. sym (sign (a + i))))

    module _ (kind : ℕ) (hk : kind ≡ type_kind T h) where
      pub sort_process : (p : ℕ) (r : Bool) → kind ≡ 3 → p ≡ type_p T h → r ≡ all_below n (word_refers m p a) → r ≡ words_hold T m h a n
      unfolding words_hold word_holds word_refers
      sort_process p r e hp g = g ∙ rw hp (all_same n _ _ (λ i. sym (holds_process T m h (a + i) (sym hk ∙ e))))

      pub sort_none : Tested T h → (h ≡ 1 → ⊥) → (h ≡ 2 → ⊥) → (kind ≡ 3 → ⊥) → eqb n 0 ≡ words_hold T m h a n
      unfolding words_hold word_holds simple_holds
      sort_none t x y z =
          all_none n (word_holds T m h a) λ i.
          holds_simple T m h (a + i) (no_record T h t.simple) (no_array T h t.simple) (λ e. z (hk ∙ e))
          ∙ (let l = t.some in rw (ne_eqb h 0 (omega arith), ne_eqb h 1 x, ne_eqb h 2 y))

pub ruleset sorts = (sort_truth, sort_sign, sort_process, sort_none)

-- ---- a value by the head of its type

standard_none : (T : Table) → has_parts T 0 ≡ false
unfolding has_parts declared
standard_none T = refl

module _ (T : Table) (m : Memory) (τ h a : ℕ) (d : Head T τ h) where
  pub v_free : h ≡ 0 → true ≡ holds T m τ a
  unfolding head_holds words_hold word_holds
  v_free e =
      let q : Head T τ 0 = rw e at d in
      sym (q.is m a ∙ rw (standard_none T) (sym (all_true (words_of T τ) (word_holds T m 0 a) (λ i. integer_holds T m (a + i)))))

  module _ (kind : ℕ) (hk : kind ≡ type_kind T h) where
    module _ (r : Bool) where
      pub v_record : kind ≡ 1 → r ≡ fields_hold T m h a → r ≡ holds T m τ a
      unfolding head_holds
      v_record e g = g ∙ sym (d.is m a ∙ rw (has_record T h (sym hk ∙ e)) (holds_record T m h a (sym hk ∙ e)))

      pub v_array : kind ≡ 2 → r ≡ elements_hold T m h a → r ≡ holds T m τ a
      unfolding head_holds
      v_array e g = g ∙ sym (d.is m a ∙ rw (has_array T h (sym hk ∙ e)) (holds_array T m h a (sym hk ∙ e)))

      pub v_words : (n : ℕ) → (kind ≡ 1 → ⊥) → (kind ≡ 2 → ⊥) → WordCount (words_of T τ) n → r ≡ words_hold T m h a n → r ≡ holds T m τ a
      unfolding head_holds
      v_words n x y w g =
          let u = w.is in
          g ∙ sym (d.is m a ∙ rw (has_none T h (λ e. x (hk ∙ e)) (λ e. y (hk ∙ e)), ← u))

    module _ (n : Near T τ a) where
      pub record_at : kind ≡ 1 → RecordAt T m h a
      record_at e =
          let u = d.fits (has_record T h (sym hk ∙ e)) in
          let v = n.near in
          record { kind = sym hk ∙ e; near = record { near = omega arith } }

      pub array_at : kind ≡ 2 → ArrayAt T m h a
      array_at e =
          let u = d.fits (has_array T h (sym hk ∙ e)) in
          let v = n.near in
          record { kind = sym hk ∙ e; near = record { near = omega arith } }

pub tested : (T : Table) (h kind : ℕ) → kind ≡ type_kind T h → (kind ≡ 1 → ⊥) → (kind ≡ 2 → ⊥) → (h ≡ 0 → ⊥) → Tested T h
tested T h kind hk x y z = record { simple = has_none T h (λ e. x (hk ∙ e)) (λ e. y (hk ∙ e)); some = omega arith }

pub ruleset values = (v_free, v_record, v_array, v_words, record_at, array_at)
