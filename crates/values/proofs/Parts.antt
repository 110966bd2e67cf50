-- Parts of variables: the laws of each return of the search for a part. Assumes nothing.
use Prim.Native.Nat.{ℕ, zero, suc, ◌+◌, ◌-◌, ◌/◌, ◌%◌, ◌≤◌, ◌<◌}
use mathlib.Core.Path.{◌≡◌, refl, sym, ap, ◌∙◌, fun_ext}
use mathlib.Core.Bool.{Bool, true, false}
use lib.Dec.{eqb, ltb}
use native.Mathlib.Omega.{arith}
use native.Mathlib.Numerals.{add-one}
use native.Mathlib.Nat.{not-suc-le-zero}
use borrow.Author.Tests.{eq-eqb, ne_eqb, le-leb, lt-leb, lt-ltb, le-ltb, eqb-true, eqb-false}
use Rattle.basics.specs.Choice.{pick, both, either}
use Rattle.basics.specs.Cases.{cases}
use Rattle.table.specs.Table.{Table}
use Rattle.table.specs.Entries.{type_kind, type_p, type_q, field_type, var_mode, var_type, first_var, vars}
use Rattle.types.specs.Match.{elements}
use Rattle.sizes.specs.Sizes.{sum_below, words_of, part_words, offset_in}
use Rattle.sizes.proofs.Sums.{sum_more}
use Rattle.sizes.proofs.Counting.{offset_none, offset_more, part_lower, part_none}
use Rattle.machine.specs.Memory.{within}
use Rattle.machine.specs.Entries.{TypeEntry, type_at}
use Rattle.machine.specs.Variables.{var_words, first_words, offset_of}
use Rattle.machine.specs.Values.{some_below, nowhere, part_in, part_at, part, part_of_variable, part_of_block}
use Rattle.machine.proofs.Courses.{below, part_is}
use Rattle.values.specs.Walks.{WordCount, Sought, field_begins, field_i_begins, fields_begin, element_begins, variable_begins, variable_i_begins}
use Rattle.values.proofs.Values.{type_record, type_array, type_process, type_simple, simple_at, below_at}

-- ---- searches

pub some_same : (n : ℕ) (f g : ℕ → Bool) → ((i : ℕ) → f i ≡ g i) → some_below n f ≡ some_below n g
some_same n f g h = ap (some_below n) (fun_ext h)

some_at : (n : ℕ) (f : ℕ → Bool) (i : ℕ) → i < n → f i ≡ true → some_below n f ≡ true
unfolding some_below either
some_at zero f i l e = absurd (not-suc-le-zero l)
some_at (suc n) f i l e =
    cases (eqb i n)
    (λ q. let p : i ≡ n = eqb-true i n q in rw (← p, e))
    (λ q. let d = eqb-false i n q in later (f n) (some_at n f i (omega arith) e))
  where
    later : (b : Bool) → some_below n f ≡ true → either b (some_below n f) ≡ true
    later true h = refl
    later false h = h

module _ (begin : ℕ → ℕ) (test : ℕ → Bool) where
  pub sought_none : begin 0 ≡ 0 → Sought begin test 0 0
  unfolding some_below
  sought_none e = record { is = sym e; small = omega arith; none = refl }

  module _ (i k : ℕ) (h : Sought begin test i k) (r : Bool) (e : r ≡ test i) where
    pub sought_more : (w : ℕ) → r ≡ false → w ≤ 200 → begin (i + 1) ≡ begin i + w → Sought begin test (i + 1) (k + w)
    unfolding some_below either
    sought_more w g l z =
        let u = h.is in
        let v = h.small in
        record { is = omega arith; small = omega arith; none = rw (add-one i, ← e, g) h.none }

    pub sought_found : (n : ℕ) → i < n → r ≡ true → true ≡ some_below n test
    sought_found n l g = sym (some_at n test i l (sym e ∙ g))

  pub sought_all : (i k n : ℕ) → Sought begin test i k → i ≤ n → n ≤ i → false ≡ some_below n test
  sought_all i k n h l g = let e : i ≡ n = omega arith in rw (← e) (sym h.none)

-- ---- where a word lies

module _ (a w k : ℕ) (z : Bool) where
  pub part_before : k < a → false ≡ both (within a w k) z
  unfolding both within
  part_before h = rw (lt-leb a k h)

  pub part_after : a ≤ k → a + w ≤ k → false ≡ both (within a w k) z
  unfolding both within
  part_after h g = rw (le-leb a k h, le-ltb k (a + w) g)

  pub part_within : (r : Bool) → a ≤ k → k < a + w → r ≡ z → r ≡ both (within a w k) z
  unfolding both within
  part_within r h g e = rw (le-leb a k h, lt-ltb k (a + w) g) e

-- ---- parts by the kind of a type

-- what is below a type, tested first
both_below : (c : Bool) (τ σ : ℕ) (f : ℕ → ℕ → Bool) (k : ℕ) → both c (below nowhere τ f σ k) ≡ pick (ltb σ τ) (both c (f σ k)) false
unfolding both nowhere
both_below true τ σ f k = below_at τ f σ k
both_below false τ σ f k = cases (ltb σ τ) (λ e. rw e) (λ e. rw e)

module _ (T : Table) (τ σ k : ℕ) where
  inner : ℕ → ℕ → Bool
  inner = below nowhere σ (part T τ)

  at_part : part T τ σ k ≡ either (both (eqb σ τ) (eqb k 0)) (part_in T σ (below nowhere σ (part T τ)) (type_at T σ) k)
  unfolding part_at
  at_part = ap (λ (f : ℕ → Bool). f k) (part_is T τ σ)

  pub in_record : type_kind T σ ≡ 1 → part_in T σ (below nowhere σ (part T τ)) (type_at T σ) k ≡ fields_begin T τ σ k
  unfolding part_in fields_begin field_i_begins field_begins
  in_record e =
      ap (λ (x : TypeEntry). part_in T σ (below nowhere σ (part T τ)) x k) (type_record T σ e)
      ∙ some_same (type_q T σ) _ _ (λ i.
      both_below (within (offset_in T σ i) (words_of T (field_type T (type_p T σ + i))) k) σ (field_type T (type_p T σ + i)) (part T τ) (k - offset_in T σ i))

  pub in_array : type_kind T σ ≡ 2 → part_in T σ (below nowhere σ (part T τ)) (type_at T σ) k ≡ element_begins T τ σ k
  unfolding part_in element_begins
  in_array e =
      ap (λ (x : TypeEntry). part_in T σ (below nowhere σ (part T τ)) x k) (type_array T σ e)
      ∙ both_below (ltb (k / words_of T (type_q T σ)) (elements T σ)) σ (type_q T σ) (part T τ) (k % words_of T (type_q T σ))

  simple_part : part_in T σ (below nowhere σ (part T τ)) (simple_at T σ) k ≡ false
  unfolding part_in simple_at
  simple_part =
      cases (eqb σ 0) (λ e. rw e)
      (λ e. cases (eqb σ 1) (λ f. rw (e, f)) (λ f. cases (eqb σ 2) (λ g. rw (e, f, g)) (λ g. rw (e, f, g))))

  pub in_simple : (type_kind T σ ≡ 1 → ⊥) → (type_kind T σ ≡ 2 → ⊥) → part_in T σ (below nowhere σ (part T τ)) (type_at T σ) k ≡ false
  unfolding part_in
  in_simple a b =
      cases (eqb (type_kind T σ) 3)
      (λ e. ap (λ (x : TypeEntry). part_in T σ (below nowhere σ (part T τ)) x k) (type_process T σ (eqb-true (type_kind T σ) 3 e)))
      (λ e. ap (λ (x : TypeEntry). part_in T σ (below nowhere σ (part T τ)) x k) (type_simple T σ a b (eqb-false (type_kind T σ) 3 e)) ∙ simple_part)

  module _ (c : Bool) (hc : c ≡ both (eqb σ τ) (eqb k 0)) where
    pub p_whole : c ≡ true → true ≡ part T τ σ k
    unfolding either
    p_whole e = rw (at_part, ← hc, e)

    module _ (g : c ≡ false) (kind : ℕ) (hk : kind ≡ type_kind T σ) where
      pub p_record : (r : Bool) → kind ≡ 1 → r ≡ fields_begin T τ σ k → r ≡ part T τ σ k
      unfolding either
      p_record r e h = rw (at_part, ← hc, g, in_record (sym hk ∙ e)) h

      pub p_array : (r : Bool) → kind ≡ 2 → r ≡ element_begins T τ σ k → r ≡ part T τ σ k
      unfolding either
      p_array r e h = rw (at_part, ← hc, g, in_array (sym hk ∙ e)) h

      pub p_simple : (kind ≡ 1 → ⊥) → (kind ≡ 2 → ⊥) → false ≡ part T τ σ k
      unfolding either
      p_simple a b = rw (at_part, ← hc, g, in_simple (λ e. a (hk ∙ e)) (λ e. b (hk ∙ e)))

  -- one field
  module _ (ρ a : ℕ) where
    pub f_none : σ ≤ ρ → false ≡ field_begins T τ σ k ρ a
    unfolding field_begins
    f_none l = rw (le-ltb ρ σ l)

    pub f_before : ρ < σ → k < a → false ≡ field_begins T τ σ k ρ a
    unfolding field_begins
    f_before l h = rw (lt-ltb ρ σ l) (part_before a (words_of T ρ) k _ h)

    module _ (w : ℕ) (hw : w ≡ words_of T ρ) (l : ρ < σ) (h : a ≤ k) where
      pub f-after : a + w ≤ k → false ≡ field_begins T τ σ k ρ a
      unfolding field_begins
      f-after g = rw (lt-ltb ρ σ l) (part_after a (words_of T ρ) k _ h (rw hw at g))

      pub f_within : (r : Bool) → k < a + w → r ≡ part T τ ρ (k - a) → r ≡ field_begins T τ σ k ρ a
      unfolding field_begins
      f_within r g e = rw (lt-ltb ρ σ l) (part_within a (words_of T ρ) k _ r h (rw hw at g) e)

  -- the fields one after the other
  pub fields_sought : Sought (offset_in T σ) (field_i_begins T τ σ k) 0 0
  fields_sought = sought_none (offset_in T σ) (field_i_begins T τ σ k) (offset_none T σ)

  module _ (i a first f : ℕ) (h : Sought (offset_in T σ) (field_i_begins T τ σ k) i a) (hp : first ≡ type_p T σ) (hf : f ≡ field_type T (first + i)) where
    field-i : (r : Bool) → r ≡ field_begins T τ σ k f a → r ≡ field_i_begins T τ σ k i
    unfolding field_i_begins
    field-i r e = rw (← hp, ← hf, ← h.is) e

    pub fields_next : (r : Bool) (w : ℕ) → r ≡ field_begins T τ σ k f a → r ≡ false → WordCount (part_words T σ f) w → Sought (offset_in T σ) (field_i_begins T τ σ k) (i + 1) (a + w)
    fields_next r w e g x =
        sought_more (offset_in T σ) (field_i_begins T τ σ k) i a h r (field-i r e) w g x.small
        (offset_more T σ i ∙ rw (← hp, ← hf, ← x.is))

    pub fields_found : (r : Bool) (n : ℕ) → r ≡ field_begins T τ σ k f a → n ≡ type_q T σ → i < n → r ≡ true → true ≡ fields_begin T τ σ k
    unfolding fields_begin
    fields_found r n e q l g = sought_found (offset_in T σ) (field_i_begins T τ σ k) i a h r (field-i r e) (type_q T σ) (rw q at l) g

  pub fields_none_found : (i a n : ℕ) → Sought (offset_in T σ) (field_i_begins T τ σ k) i a → n ≡ type_q T σ → i ≤ n → n ≤ i → false ≡ fields_begin T τ σ k
  unfolding fields_begin
  fields_none_found i a n h q l g = sought_all (offset_in T σ) (field_i_begins T τ σ k) i a (type_q T σ) h (rw q at l) (rw q at g)

  -- the element
  module _ (q : ℕ) (hq : q ≡ type_q T σ) where
    pub e_none : σ ≤ q → false ≡ element_begins T τ σ k
    unfolding element_begins
    e_none l = rw (← hq, le-ltb q σ l)

    module _ (w d n : ℕ) (l : q < σ) (hw : w ≡ words_of T q) (hd : d ≡ k / w) (hn : n ≡ elements T σ) where
      pub e_after : n ≤ d → false ≡ element_begins T τ σ k
      unfolding element_begins both
      e_after g = rw (← hq, lt-ltb q σ l, ← hw, ← hd, ← hn, le-ltb d n g)

      pub e_within : (o : ℕ) (r : Bool) → d < n → o ≡ k % w → r ≡ part T τ q o → r ≡ element_begins T τ σ k
      unfolding element_begins both
      e_within o r g ho e = rw (← hq, lt-ltb q σ l, ← hw, ← hd, ← hn, lt-ltb d n g, ← ho) e

pub ruleset parts = (p_whole, p_record, p_array, p_simple)

pub ruleset fieldparts = (f_none, f_before, f-after, f_within)

pub ruleset fieldsearches = (fields_sought, fields_next, fields_found, fields_none_found)

pub ruleset elementparts = (e_none, e_after, e_within)

pub part_words_lower : (T : Table) (σ ρ w : ℕ) → ρ < σ → WordCount (words_of T ρ) w → WordCount (part_words T σ ρ) w
part_words_lower T σ ρ w l h = rw (part_lower T σ ρ l) h

pub part_words_none : (T : Table) (σ ρ : ℕ) → σ ≤ ρ → WordCount (part_words T σ ρ) 0
part_words_none T σ ρ l = record { is = sym (part_none T σ ρ l); small = omega arith }

-- ---- variables

module _ (T : Table) (v mode : ℕ) (hm : mode ≡ var_mode T v) where
  pub var_words_one : mode ≡ 2 → WordCount (var_words T v) 1
  unfolding var_words
  var_words_one e = record { is = rw (← hm, eq-eqb mode 2 e); small = omega arith }

  pub var_words_type : (x w : ℕ) → (mode ≡ 2 → ⊥) → x ≡ var_type T v → WordCount (words_of T x) w → WordCount (var_words T v) w
  unfolding var_words
  var_words_type x w e g h = record { is = h.is ∙ rw (← hm, ne_eqb mode 2 e, ← g); small = h.small }

module _ (T : Table) (τ k v a : ℕ) where
  pub w_before : k < a → false ≡ variable_begins T τ k v a
  unfolding variable_begins
  w_before h = part_before a (var_words T v) k _ h

  module _ (w : ℕ) (hw : w ≡ var_words T v) (h : a ≤ k) where
    pub w_after : a + w ≤ k → false ≡ variable_begins T τ k v a
    unfolding variable_begins
    w_after g = part_after a (var_words T v) k _ h (rw hw at g)

    module _ (mode : ℕ) (hm : mode ≡ var_mode T v) (g : k < a + w) where
      pub w_bound : mode ≡ 2 → false ≡ variable_begins T τ k v a
      unfolding variable_begins
      w_bound e = part_within a (var_words T v) k _ false h (rw hw at g) (rw (← hm, eq-eqb mode 2 e))

      pub w_within : (x : ℕ) (r : Bool) → (mode ≡ 2 → ⊥) → x ≡ var_type T v → r ≡ part T τ x (k - a) → r ≡ variable_begins T τ k v a
      unfolding variable_begins
      w_within x r e f z = part_within a (var_words T v) k _ r h (rw hw at g) (rw (← hm, ne_eqb mode 2 e, ← f) z)

pub ruleset variableparts = (w_before, w_after, w_bound, w_within)

-- the variables of a block one after the other
pub first-none : (T : Table) (b : ℕ) → first_words T b 0 ≡ 0
unfolding first_words sum_below
first-none T b = refl

pub first_more : (T : Table) (b i : ℕ) → first_words T b (i + 1) ≡ first_words T b i + var_words T (first_var T b + i)
unfolding first_words
first_more T b i = sum_more (λ j. var_words T (first_var T b + j)) i

pub offset_first : (T : Table) (b i : ℕ) → offset_of T b (first_var T b + i) ≡ first_words T b i
unfolding offset_of
offset_first T b i = let e : first_var T b + i - first_var T b ≡ i = omega arith in rw e

module _ (T : Table) (b τ k : ℕ) where
  block_searches : some_below (vars T b) (variable_i_begins T b τ k) ≡ part_of_block T b τ k
  unfolding part_of_block part_of_variable variable_i_begins variable_begins
  block_searches = some_same (vars T b) _ _ (λ i. rw (offset_first T b i))

  pub variables_sought : Sought (first_words T b) (variable_i_begins T b τ k) 0 0
  variables_sought = sought_none (first_words T b) (variable_i_begins T b τ k) (first-none T b)

  module _ (i a first : ℕ) (h : Sought (first_words T b) (variable_i_begins T b τ k) i a) (hp : first ≡ first_var T b) (r : Bool) (e : r ≡ variable_begins T τ k (first + i) a) where
    variable_i : r ≡ variable_i_begins T b τ k i
    unfolding variable_i_begins
    variable_i = rw (← hp, ← h.is) e

    pub variables_next : (w : ℕ) → r ≡ false → WordCount (var_words T (first + i)) w → Sought (first_words T b) (variable_i_begins T b τ k) (i + 1) (a + w)
    variables_next w g x =
        sought_more (first_words T b) (variable_i_begins T b τ k) i a h r variable_i w g x.small
        (first_more T b i ∙ rw (← hp, ← x.is))

    pub variables_found : (n : ℕ) → n ≡ vars T b → i < n → r ≡ true → true ≡ part_of_block T b τ k
    variables_found n q l g = rw (← block_searches) (sought_found (first_words T b) (variable_i_begins T b τ k) i a h r variable_i (vars T b) (rw q at l) g)

  pub variables_none_found : (i a n : ℕ) → Sought (first_words T b) (variable_i_begins T b τ k) i a → n ≡ vars T b → i ≤ n → n ≤ i → false ≡ part_of_block T b τ k
  variables_none_found i a n h q l g = rw (← block_searches) (sought_all (first_words T b) (variable_i_begins T b τ k) i a (vars T b) h (rw q at l) (rw q at g))

pub ruleset variablesearches = (variables_sought, variables_next, variables_found, variables_none_found)

-- a place among rows is a small number
pub sought_small : (begin : ℕ → ℕ) (test : ℕ → Bool) (i k n : ℕ) → Sought begin test i k → i < n → n < 65536 → k ≤ 14000000
sought_small begin test i k n h l g = let u = h.small in omega arith
