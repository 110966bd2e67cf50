-- Parts of variables: the fields of records and the elements of arrays, at any depth. Assumes nothing.
use Prim.Native.Nat.{ℕ, ◌+◌, ◌-◌, ◌*◌, ◌/◌, ◌%◌, ◌≤◌, ◌<◌}
use mathlib.Core.Path.{◌≡◌, refl, sym, ◌∙◌}
use mathlib.Core.Bool.{true}
use native.Mathlib.Omega.{arith}
use native.Mathlib.Nat.{add_assoc, add-zero, div-add-mod', mod-eq_of_lt, div-eq_of_lt, mul-add-div_right, mul-add-mod_self_right}
use lib.Dec.{eqb, ltb}
use borrow.Author.Tests.{eqb-true, eq-eqb, ltb-true, ltb-false, lt-ltb}
use Rattle.basics.specs.Cases.{cases}
use Rattle.basics.specs.Choice.{both, either}
use Rattle.basics.specs.Course.{upto, course}
use Rattle.basics.proofs.Bools.{no_true, both_l, both_r, both_i, either_l, either_r, either_case}
use Rattle.basics.proofs.Courses.{upto_below, upto_above, strong}
use Rattle.table.specs.Table.{Table}
use Rattle.table.specs.Entries.{type_count, type_kind, type_q, field_type}
use Rattle.types.specs.Match.{elements}
use Rattle.sizes.specs.Sizes.{words_of, offset_in}
use Rattle.sizes.proofs.Counting.{field_in, element_in}
use Rattle.machine.specs.Memory.{Memory}
use Rattle.machine.specs.Entries.{record_type, array_type, type_at}
use Rattle.machine.specs.Values.{part_in, part_at, nowhere, part, holds}
use Rattle.machine.proofs.Tests.{some_i, some_case}
use Rattle.machine.proofs.Memories.{within_yes, within-from}
use Rattle.machine.proofs.Entries.{at_integer, at_boolean, at_character, at_record, at_array, at_process}
use Rattle.verdict.specs.Accepted.{Accepted}
use Rattle.sound.proofs.Values.TypeKinds.{field_at, Form, is_integer, is_boolean, is_character, is_record, is_array, is_process, is_none, form, lower_field, lower_element, some_words, record_kind, array_kind}
use Rattle.sound.proofs.Values.ValuesByKind.{field_holds, element_holds}

-- a part of type τ begins at word k of a variable of type σ
pub data Part (T : Table) (τ : ℕ) : ℕ → ℕ → Type 0 where
  whole : Part T τ τ 0
  in_field : (σ i k : ℕ) → type_kind T σ ≡ 1 → i < type_q T σ → Part T τ (field_at T σ i) k → Part T τ σ (offset_in T σ i + k)
  in_element : (σ i k : ℕ) → type_kind T σ ≡ 2 → i < elements T σ → Part T τ (type_q T σ) k → Part T τ σ (i * words_of T (type_q T σ) + k)

-- ---- what part says of each kind

module _ (T : Table) (τ σ k : ℕ) where
  part_is : part T τ σ k ≡ either (both (eqb σ τ) (eqb k 0)) (part_in T σ (upto nowhere (part_at T τ) σ) (type_at T σ) k)
  unfolding part course part_at
  part_is = refl

  -- the variable itself, or a part of one of its parts
  part_cases : {A : Type 0} → part T τ σ k ≡ true → ((σ ≡ τ) × (k ≡ 0) → A) → (part_in T σ (upto nowhere (part_at T τ) σ) (type_at T σ) k ≡ true → A) → A
  part_cases e f g =
      either_case (both (eqb σ τ) (eqb k 0)) _ (sym part_is ∙ e)
      (λ q. f (eqb-true σ τ (both_l _ _ q), eqb-true k 0 (both_r _ _ q)))
      g

  inside : part_in T σ (upto nowhere (part_at T τ) σ) (type_at T σ) k ≡ true → part T τ σ k ≡ true
  inside e = part_is ∙ either_r (both (eqb σ τ) (eqb k 0)) _ e

  lower_part : (ρ j : ℕ) → upto nowhere (part_at T τ) σ ρ j ≡ true → (ρ < σ) × (part T τ ρ j ≡ true)
  unfolding part nowhere
  lower_part ρ j e =
      cases (ltb ρ σ)
      (λ q. let l : ρ < σ = ltb-true ρ σ q in (l, (rw (upto_below nowhere (part_at T τ) σ ρ l) at e)))
      (λ q. no_true (rw (upto_above nowhere (part_at T τ) σ ρ (ltb-false ρ σ q)) at e))

  part_lower : (ρ j : ℕ) → ρ < σ → part T τ ρ j ≡ true → upto nowhere (part_at T τ) σ ρ j ≡ true
  unfolding part
  part_lower ρ j l e = rw (upto_below nowhere (part_at T τ) σ ρ l) e

  record_part : type_kind T σ ≡ 1 → (i : ℕ) → i < type_q T σ → field_at T σ i < σ → offset_in T σ i ≤ k → k < offset_in T σ i + words_of T (field_at T σ i)
      → part T τ (field_at T σ i) (k - offset_in T σ i) ≡ true → part T τ σ k ≡ true
  unfolding part_in
  record_part e i l f x y p =
      inside (rw (at_record T σ e) (some_i (type_q T σ) _ i l (both_i _ _ (within_yes (offset_in T σ i) (words_of T (field_at T σ i)) k x y) (part_lower (field_at T σ i) (k - offset_in T σ i) f p))))

  array_part : type_kind T σ ≡ 2 → type_q T σ < σ → k / words_of T (type_q T σ) < elements T σ
      → part T τ (type_q T σ) (k % words_of T (type_q T σ)) ≡ true → part T τ σ k ≡ true
  unfolding part_in
  array_part e f l p =
      inside (rw (at_array T σ e) (both_i _ _ (lt-ltb (k / words_of T (type_q T σ)) (elements T σ) l) (part_lower (type_q T σ) (k % words_of T (type_q T σ)) f p)))

pub part_self : (T : Table) (τ : ℕ) → part T τ τ 0 ≡ true
part_self T τ = part_is T τ τ 0 ∙ either_l _ _ (both_i _ _ (eq-eqb τ τ refl) (eq-eqb 0 0 refl))

-- ---- from the test to the relation, and back

module _ (T : Table) (τ : ℕ) where
  unfoldable Tells : ℕ → Type 0
  Tells σ = (k : ℕ) → part T τ σ k ≡ true → Part T τ σ k

  itself : (σ k : ℕ) → (σ ≡ τ) × (k ≡ 0) → Part T τ σ k
  itself σ k e = rw (e.0, e.1) whole

  part_of : (σ k j : ℕ) → k ≡ j → Part T τ σ k → Part T τ σ j
  part_of σ k j e p = rw e at p

  tells_step : (σ : ℕ) → ((k : ℕ) → k < σ → Tells k) → Form T σ → Tells σ
  unfolding Tells part_in
  tells_step σ ih (is_integer q) k e = part_cases T τ σ k e (itself σ k) (λ x. no_true (rw (q, at_integer T) at x))
  tells_step σ ih (is_boolean q) k e = part_cases T τ σ k e (itself σ k) (λ x. no_true (rw (q, at_boolean T) at x))
  tells_step σ ih (is_character q) k e = part_cases T τ σ k e (itself σ k) (λ x. no_true (rw (q, at_character T) at x))
  tells_step σ ih (is_record q) k e =
      part_cases T τ σ k e (itself σ k) (λ x.
      some_case (type_q T σ) _ (rw (at_record T σ q) at x) (λ i l y.
      let w = within-from (offset_in T σ i) (words_of T (field_at T σ i)) k (both_l _ _ y) in
      let p = lower_part T τ σ k (field_at T σ i) (k - offset_in T σ i) (both_r _ _ y) in
      part_of σ (offset_in T σ i + (k - offset_in T σ i)) k (omega arith)
      (in_field σ i (k - offset_in T σ i) q l (ih (field_at T σ i) p.0 (k - offset_in T σ i) p.1))))
  tells_step σ ih (is_array q) k e =
      part_cases T τ σ k e (itself σ k) (λ x.
      let y = rw (at_array T σ q) at x in
      let n = words_of T (type_q T σ) in
      let l = ltb-true (k / n) (elements T σ) (both_l _ _ y) in
      let p = lower_part T τ σ k (type_q T σ) (k % n) (both_r _ _ y) in
      part_of σ (k / n * n + k % n) k (div-add-mod' k n)
      (in_element σ (k / n) (k % n) q l (ih (type_q T σ) p.0 (k % n) p.1)))
  tells_step σ ih (is_process q) k e = part_cases T τ σ k e (itself σ k) (λ x. no_true (rw (at_process T σ q) at x))
  tells_step σ ih (is_none l a b c q) k e = part_cases T τ σ k e (itself σ k) (λ x. no_true (rw q at x))

  pub to_Part : (σ k : ℕ) → part T τ σ k ≡ true → Part T τ σ k
  unfolding Tells
  to_Part = strong Tells (λ σ ih. tells_step σ ih (form T σ))

module _ (T : Table) (ok : Accepted T) where
  -- a part is of a type, and lies inside
  pub Part-in : {τ σ k : ℕ} → σ < 3 + type_count T → Part T τ σ k → (τ < 3 + type_count T) × (k + words_of T τ ≤ words_of T σ)
  Part-in l whole = omega arith
  Part-in l (in_field σ i k e g p) =
      let f = lower_field T ok σ l e i g in
      let h = Part-in (omega arith) p in
      let r = field_in T σ e i g f in
      omega arith
  Part-in l (in_element σ i k e g p) =
      let f = lower_element T ok σ l e in
      let h = Part-in (omega arith) p in
      let r = element_in T σ i e f g in
      omega arith

  -- the test says so
  pub to_part : {τ σ k : ℕ} → σ < 3 + type_count T → Part T τ σ k → part T τ σ k ≡ true
  to_part {τ} l whole = part_self T τ
  to_part {τ} l (in_field σ i k e g p) =
      let f = lower_field T ok σ l e i g in
      let h = Part-in (omega arith) p in
      let w = some_words T ok τ h.0 in
      let q : k ≡ offset_in T σ i + k - offset_in T σ i = omega arith in
      record_part T τ σ (offset_in T σ i + k) e i g f (omega arith) (omega arith) (rw q at (to_part (omega arith) p))
  to_part {τ} l (in_element σ i k e g p) =
      let f = lower_element T ok σ l e in
      let h = Part-in (omega arith) p in
      let w = some_words T ok τ h.0 in
      let n = words_of T (type_q T σ) in
      let z : k < n = omega arith in
      let x : (i * n + k) / n ≡ i = mul-add-div_right (omega arith) i k ∙ rw (div-eq_of_lt z) (add-zero i) in
      let y : (i * n + k) % n ≡ k = mul-add-mod_self_right i n k ∙ mod-eq_of_lt z in
      array_part T τ σ (i * n + k) e f (rw x g) (rw y (to_part (omega arith) p))

-- a part of a part
pub Part-trans : (T : Table) {τ σ ρ j k : ℕ} → Part T τ σ j → Part T σ ρ k → Part T τ ρ (k + j)
Part-trans T {τ} {σ} {j = j} q whole = part_of T τ σ j (0 + j) (omega arith) q
Part-trans T {τ} {j = j} q (in_field ρ i k e g p) =
    rw (add_assoc (offset_in T ρ i) k j) (in_field ρ i (k + j) e g (Part-trans T q p))
Part-trans T {τ} {j = j} q (in_element ρ i k e g p) =
    rw (add_assoc (i * words_of T (type_q T ρ)) k j) (in_element ρ i (k + j) e g (Part-trans T q p))

-- a part of a variable that holds a value holds one
pub Part-holds : (T : Table) (m : Memory) {τ : ℕ} (a : ℕ) {σ k : ℕ} → Part T τ σ k → holds T m σ a ≡ true → holds T m τ (a + k) ≡ true
Part-holds T m a whole h = rw (add-zero a) h
Part-holds T m a (in_field σ i k e g p) h =
    rw (← add_assoc a (offset_in T σ i) k) (Part-holds T m (a + offset_in T σ i) p (field_holds T m a σ e h i g).1)
Part-holds T m a (in_element σ i k e g p) h =
    rw (← add_assoc a (i * words_of T (type_q T σ)) k) (Part-holds T m (a + i * words_of T (type_q T σ)) p (element_holds T m a σ e h i g).1)

-- ---- the laws of the test

module _ (T : Table) (ok : Accepted T) where
  pub part-in : (τ σ k : ℕ) → σ < 3 + type_count T → part T τ σ k ≡ true → (τ < 3 + type_count T) × (k + words_of T τ ≤ words_of T σ)
  part-in τ σ k l h = Part-in T ok l (to_Part T τ σ k h)

  pub part_field : (σ ρ k first count i : ℕ) → ρ < 3 + type_count T → part T σ ρ k ≡ true → type_at T σ ≡ record_type first count → i < count
      → part T (field_type T (first + i)) ρ (k + offset_in T σ i) ≡ true
  part_field σ ρ k first count i l h e g =
      let r = record_kind T σ first count e in
      let p : Part T (field_at T σ i) σ (offset_in T σ i + 0) = in_field σ i 0 r.0 (omega arith) whole in
      let q : Part T (field_at T σ i) σ (offset_in T σ i) = rw (add-zero (offset_in T σ i)) at p in
      rw r.1.0 (to_part T ok l (Part-trans T q (to_Part T σ ρ k h)))

  pub part_element : (σ ρ k ι ε low high i : ℕ) → ρ < 3 + type_count T → part T σ ρ k ≡ true → type_at T σ ≡ array_type ι ε low high → i < elements T σ
      → part T ε ρ (k + i * words_of T ε) ≡ true
  part_element σ ρ k ι ε low high i l h e g =
      let r = array_kind T σ ι ε low high e in
      let o = i * words_of T (type_q T σ) in
      let p : Part T (type_q T σ) σ (o + 0) = in_element σ i 0 r.0 g whole in
      let q : Part T (type_q T σ) σ o = rw (add-zero o) at p in
      rw r.1.1.0 (to_part T ok l (Part-trans T q (to_Part T σ ρ k h)))

pub part_holds : (T : Table) (m : Memory) (τ σ a k : ℕ) → holds T m σ a ≡ true → part T τ σ k ≡ true → holds T m τ (a + k) ≡ true
part_holds T m τ σ a k h p = Part-holds T m a (to_Part T τ σ k p) h
