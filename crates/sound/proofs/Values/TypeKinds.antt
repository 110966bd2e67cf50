-- The types of a table by their kind, what an accepted table says of them, and their words. Assumes nothing.
use Prim.Native.Nat.{ℕ, ◌+◌, ◌-◌, ◌≤◌, ◌<◌}
use mathlib.Core.Path.{◌≡◌, ap, ◌∙◌}
use native.Mathlib.Omega.{arith}
use lib.Dec.{eqb}
use borrow.Author.Tests.{eqb-true, eqb-false}
use Rattle.basics.specs.Cases.{cases}
use Rattle.basics.proofs.Courses.{strong}
use Rattle.table.specs.Table.{Table}
use Rattle.table.specs.Entries.{type_count, block_count, type_kind, type_p, type_q, type_low, type_high, field_type, block_kind}
use Rattle.types.specs.Match.{elements}
use Rattle.sizes.specs.Sizes.{words_of}
use Rattle.sizes.proofs.Counting.{words_simple, words_standard, field_in, element_in}
use Rattle.sizes.proofs.Promise.{elements_some}
use Rattle.entries.proofs.Promise.{type-kind}
use Rattle.numbers.proofs.TypePromise.{record_some, field_lower, element_lower, process_module}
use Rattle.machine.specs.Entries.{TypeEntry, integer, boolean, character, record_type, array_type, process_type, no_type, type_at}
use Rattle.machine.proofs.Entries.{at_integer, at_boolean, at_character, at_record, at_array, at_process, by_kind}
use Rattle.verdict.specs.Accepted.{Accepted}

-- the type of field i of record type τ
abbrev pub field_at : Table → ℕ → ℕ → ℕ
field_at T τ i = field_type T (type_p T τ + i)

-- what a type is
pub data Form (T : Table) (τ : ℕ) : Type 0 where
  is_integer : τ ≡ 0 → Form T τ
  is_boolean : τ ≡ 1 → Form T τ
  is_character : τ ≡ 2 → Form T τ
  is_record : type_kind T τ ≡ 1 → Form T τ
  is_array : type_kind T τ ≡ 2 → Form T τ
  is_process : type_kind T τ ≡ 3 → Form T τ
  is_none : 3 ≤ τ → (type_kind T τ ≡ 1 → ⊥) → (type_kind T τ ≡ 2 → ⊥) → (type_kind T τ ≡ 3 → ⊥) → type_at T τ ≡ no_type → Form T τ

pub form : (T : Table) (τ : ℕ) → Form T τ
form T τ =
    cases (eqb τ 0) (λ e. is_integer (eqb-true τ 0 e)) (λ a.
    cases (eqb τ 1) (λ e. is_boolean (eqb-true τ 1 e)) (λ b.
    cases (eqb τ 2) (λ e. is_character (eqb-true τ 2 e)) (λ c.
    cases (eqb (type_kind T τ) 1) (λ e. is_record (eqb-true (type_kind T τ) 1 e)) (λ d.
    cases (eqb (type_kind T τ) 2) (λ e. is_array (eqb-true (type_kind T τ) 2 e)) (λ f.
    cases (eqb (type_kind T τ) 3) (λ e. is_process (eqb-true (type_kind T τ) 3 e)) (λ g.
    let l : 3 ≤ τ = omega (arith, eqb-false τ 0 a, eqb-false τ 1 b, eqb-false τ 2 c) in
    is_none l (eqb-false (type_kind T τ) 1 d) (eqb-false (type_kind T τ) 2 f) (eqb-false (type_kind T τ) 3 g)
    (by_kind T τ l ∙ rw (d, f, g))))))))

-- the kind of a type, by its entry
entry_kind : TypeEntry → ℕ
entry_kind integer = 0
entry_kind boolean = 0
entry_kind character = 0
entry_kind (record_type first count) = 1
entry_kind (array_type ι σ low high) = 2
entry_kind (process_type μ) = 3
entry_kind no_type = 0

module _ (T : Table) (τ : ℕ) where
  same_kind : (k : ℕ) → 1 ≤ k → entry_kind (type_at T τ) ≡ k → Form T τ → type_kind T τ ≡ k
  unfolding entry_kind
  same_kind k l e (is_integer q) = let z : 0 ≡ k = rw (q, at_integer T) at e in omega arith
  same_kind k l e (is_boolean q) = let z : 0 ≡ k = rw (q, at_boolean T) at e in omega arith
  same_kind k l e (is_character q) = let z : 0 ≡ k = rw (q, at_character T) at e in omega arith
  same_kind k l e (is_record q) = q ∙ (rw (at_record T τ q) at e)
  same_kind k l e (is_array q) = q ∙ (rw (at_array T τ q) at e)
  same_kind k l e (is_process q) = q ∙ (rw (at_process T τ q) at e)
  same_kind k l e (is_none g a b c q) = let z : 0 ≡ k = rw q at e in omega arith

  pub record_kind : (first count : ℕ) → type_at T τ ≡ record_type first count → (type_kind T τ ≡ 1) × ((first ≡ type_p T τ) × (count ≡ type_q T τ))
  unfolding entry_kind
  record_kind first count e =
      let k = same_kind 1 (omega arith) (ap entry_kind e) (form T τ) in let h = at_record T τ k in (k, ((cc), (cc)))

  pub array_kind : (ι ε low high : ℕ) → type_at T τ ≡ array_type ι ε low high
      → (type_kind T τ ≡ 2) × ((ι ≡ type_p T τ) × ((ε ≡ type_q T τ) × ((low ≡ type_low T τ) × (high ≡ type_high T τ))))
  unfolding entry_kind
  array_kind ι ε low high e =
      let k = same_kind 2 (omega arith) (ap entry_kind e) (form T τ) in let h = at_array T τ k in (k, ((cc), ((cc), ((cc), (cc)))))

  pub process_kind : (μ : ℕ) → type_at T τ ≡ process_type μ → (type_kind T τ ≡ 3) × (μ ≡ type_p T τ)
  unfolding entry_kind
  process_kind μ e =
      let k = same_kind 3 (omega arith) (ap entry_kind e) (form T τ) in let h = at_process T τ k in (k, (cc))

-- ---- words

pub words_process : (T : Table) (τ : ℕ) → type_kind T τ ≡ 3 → words_of T τ ≡ 1
words_process T τ e = words_simple T τ (λ q. omega arith) (λ q. omega arith)

-- ---- in an accepted table

module _ (T : Table) (ok : Accepted T) (τ : ℕ) (l : τ < 3 + type_count T) where
  pub some_fields : type_kind T τ ≡ 1 → 1 ≤ type_q T τ
  some_fields e = record_some T ok.numbers τ l e

  pub lower_field : type_kind T τ ≡ 1 → (i : ℕ) → i < type_q T τ → field_at T τ i < τ
  lower_field e i g = field_lower T ok.numbers τ l e i g

  pub lower_element : type_kind T τ ≡ 2 → type_q T τ < τ
  lower_element e = element_lower T ok.numbers τ l e

  pub some_elements : type_kind T τ ≡ 2 → 1 ≤ elements T τ
  some_elements e = elements_some T ok.sizes τ l e

  pub of_module : type_kind T τ ≡ 3 → (type_p T τ < block_count T) × (block_kind T (type_p T τ) ≡ 1)
  of_module e = process_module T ok.numbers τ l e

  pub some_kind : 3 ≤ τ → (type_kind T τ ≡ 1 → ⊥) → (type_kind T τ ≡ 2 → ⊥) → (type_kind T τ ≡ 3 → ⊥) → ⊥
  some_kind g a b c =
      let q : 3 + (τ - 3) ≡ τ = omega arith in
      let h : (1 ≤ type_kind T τ) × (type_kind T τ ≤ 3) = rw q at (type-kind T ok.kinds (τ - 3) (omega arith)) in
      omega (arith, a, b, c)

module _ (T : Table) (ok : Accepted T) where
  words_step : (τ : ℕ) → ((k : ℕ) → k < τ → k < 3 + type_count T → 1 ≤ words_of T k) → τ < 3 + type_count T → Form T τ → 1 ≤ words_of T τ
  words_step τ ih l (is_integer q) = omega (arith, words_standard T τ (omega arith))
  words_step τ ih l (is_boolean q) = omega (arith, words_standard T τ (omega arith))
  words_step τ ih l (is_character q) = omega (arith, words_standard T τ (omega arith))
  words_step τ ih l (is_record e) =
      let s = some_fields T ok τ l e in
      let f = lower_field T ok τ l e 0 (omega arith) in
      omega (arith, ih (field_at T τ 0) f (omega arith), field_in T τ e 0 (omega arith) f)
  words_step τ ih l (is_array e) =
      let f = lower_element T ok τ l e in
      omega (arith, ih (type_q T τ) f (omega arith), element_in T τ 0 e f (some_elements T ok τ l e))
  words_step τ ih l (is_process e) = omega (arith, words_process T τ e)
  words_step τ ih l (is_none g a b c h) = absurd (some_kind T ok τ l g a b c)

  -- a type has at least one word
  pub some_words : (τ : ℕ) → τ < 3 + type_count T → 1 ≤ words_of T τ
  some_words = strong (λ τ. τ < 3 + type_count T → 1 ≤ words_of T τ) (λ τ ih l. words_step τ ih l (form T τ))
