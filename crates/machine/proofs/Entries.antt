-- The entry of a type by its number and its kind, and back; statements by their kinds. Assumes nothing.
use Prim.Native.Nat.{ℕ, zero, suc, ◌≤◌, ◌<◌}
use mathlib.Core.Path.{◌≡◌, refl, ap, ◌∙◌}
use native.Mathlib.Omega.{arith}
use lib.Dec.{eqb, ltb}
use borrow.Author.Tests.{eqb-true, ltb-false, ne_eqb}
use Rattle.basics.specs.Choice.{pick}
use Rattle.basics.specs.Cases.{cases}
use Rattle.table.specs.Table.{Table}
use Rattle.table.specs.Entries.{declared, type_kind, type_p, type_q, type_low, type_high}
use Rattle.machine.specs.Entries.{TypeEntry, integer, boolean, character, record_type, array_type, process_type, no_type, type_at, if, while, when, cycle, Statement, skip, assign, local_call, process_call, create, start, opener, arm, end_arms, write, block_end, no_statement, statement_of}

module _ (T : Table) where
  pub at_integer : type_at T 0 ≡ integer
  unfolding type_at
  at_integer = refl

  pub at_boolean : type_at T 1 ≡ boolean
  unfolding type_at
  at_boolean = refl

  pub at_character : type_at T 2 ≡ character
  unfolding type_at
  at_character = refl

module _ (T : Table) (τ : ℕ) where
  -- a type with a kind is a declared one
  kind_from : (k : ℕ) → type_kind T τ ≡ k → 1 ≤ k → 3 ≤ τ
  unfolding declared
  kind_from k e l = cases (ltb τ 3) (λ q. let z : 0 ≡ k = rw q at e in omega arith) (λ q. ltb-false τ 3 q)

  pub by_kind : 3 ≤ τ → type_at T τ ≡ pick (eqb (type_kind T τ) 1) (record_type (type_p T τ) (type_q T τ))
      (pick (eqb (type_kind T τ) 2) (array_type (type_p T τ) (type_q T τ) (type_low T τ) (type_high T τ))
      (pick (eqb (type_kind T τ) 3) (process_type (type_p T τ)) no_type))
  unfolding type_at
  by_kind l = rw (ne_eqb τ 0 (λ e. omega arith), ne_eqb τ 1 (λ e. omega arith), ne_eqb τ 2 (λ e. omega arith))

  pub at_record : type_kind T τ ≡ 1 → type_at T τ ≡ record_type (type_p T τ) (type_q T τ)
  at_record e = by_kind (kind_from 1 e (omega arith)) ∙ rw e

  pub at_array : type_kind T τ ≡ 2 → type_at T τ ≡ array_type (type_p T τ) (type_q T τ) (type_low T τ) (type_high T τ)
  at_array e = by_kind (kind_from 2 e (omega arith)) ∙ rw e

  pub at_process : type_kind T τ ≡ 3 → type_at T τ ≡ process_type (type_p T τ)
  at_process e = by_kind (kind_from 3 e (omega arith)) ∙ rw e

-- the number of a standard entry
module _ (T : Table) where
  -- 0 to 2 for the standard entries, 3 for others
  number : TypeEntry → ℕ
  number integer = 0
  number boolean = 1
  number character = 2
  number (record_type first count) = 3
  number (array_type ι σ low high) = 3
  number (process_type μ) = 3
  number no_type = 3

  numbered : (τ : ℕ) → number (type_at T τ) < 3 → τ ≡ number (type_at T τ)
  unfolding type_at number
  numbered τ h =
      cases (eqb τ 0) (λ a. rw a (eqb-true τ 0 a)) (λ a.
      cases (eqb τ 1) (λ b. rw (a, b) (eqb-true τ 1 b)) (λ b.
      cases (eqb τ 2) (λ c. rw (a, b, c) (eqb-true τ 2 c)) (λ c.
      cases (eqb (type_kind T τ) 1) (λ d. none (rw (a, b, c, d) at h)) (λ d.
      cases (eqb (type_kind T τ) 2) (λ e. none (rw (a, b, c, d, e) at h)) (λ e.
      cases (eqb (type_kind T τ) 3) (λ f. none (rw (a, b, c, d, e, f) at h)) (λ f. none (rw (a, b, c, d, e, f) at h)))))))
    where
      none : {A : Type 0} → 3 < 3 → A
      none l = absurd (omega arith)

  pub type_integer : (τ : ℕ) → type_at T τ ≡ integer → τ ≡ 0
  unfolding number
  type_integer τ e = numbered τ (rw e (omega arith)) ∙ ap number e

  pub type_boolean : (τ : ℕ) → type_at T τ ≡ boolean → τ ≡ 1
  unfolding number
  type_boolean τ e = numbered τ (rw e (omega arith)) ∙ ap number e

  pub type_character : (τ : ℕ) → type_at T τ ≡ character → τ ≡ 2
  unfolding number
  type_character τ e = numbered τ (rw e (omega arith)) ∙ ap number e

  -- a standard type is no structured one
  pub standard_record : (τ first count : ℕ) → τ < 3 → type_at T τ ≡ record_type first count → ⊥
  unfolding type_at
  standard_record zero first count h e = let z : ◌≡◌ {A = ℕ} 0 1 = cc in omega arith
  standard_record (suc zero) first count h e = let z : ◌≡◌ {A = ℕ} 0 1 = cc in omega arith
  standard_record (suc (suc zero)) first count h e = let z : ◌≡◌ {A = ℕ} 0 1 = cc in omega arith
  standard_record (suc (suc (suc τ))) first count h e = omega arith

  pub standard_array : (τ ι σ low high : ℕ) → τ < 3 → type_at T τ ≡ array_type ι σ low high → ⊥
  unfolding type_at
  standard_array zero ι σ low high h e = let z : ◌≡◌ {A = ℕ} 0 1 = cc in omega arith
  standard_array (suc zero) ι σ low high h e = let z : ◌≡◌ {A = ℕ} 0 1 = cc in omega arith
  standard_array (suc (suc zero)) ι σ low high h e = let z : ◌≡◌ {A = ℕ} 0 1 = cc in omega arith
  standard_array (suc (suc (suc τ))) ι σ low high h e = omega arith

-- what holds of a statement of each kind holds of a statement
pub statement_cases : (P : Statement → Type 0) (k a b c d l : ℕ)
    → (k ≡ 0 → P skip)
    → (k ≡ 1 → P (assign a b))
    → (k ≡ 2 → P (local_call a c d))
    → (k ≡ 3 → P (process_call a b c d))
    → (k ≡ 4 → P (create a))
    → (k ≡ 5 → P (start a c d))
    → (k ≡ 6 → P (opener if))
    → (k ≡ 7 → P (opener while))
    → (k ≡ 8 → P (opener when))
    → (k ≡ 9 → P (opener cycle))
    → (k ≡ 10 → P (arm a l))
    → (k ≡ 11 → P (end_arms l))
    → (k ≡ 12 → P (write a b))
    → (k ≡ 13 → P block_end)
    → P no_statement → P (statement_of k a b c d l)
unfolding statement_of
statement_cases P zero a b c d l x₀ x₁ x₂ x₃ x₄ x₅ x₆ x₇ x₈ x₉ y₀ y₁ y₂ y₃ none = x₀ refl
statement_cases P (suc zero) a b c d l x₀ x₁ x₂ x₃ x₄ x₅ x₆ x₇ x₈ x₉ y₀ y₁ y₂ y₃ none = x₁ refl
statement_cases P (suc (suc zero)) a b c d l x₀ x₁ x₂ x₃ x₄ x₅ x₆ x₇ x₈ x₉ y₀ y₁ y₂ y₃ none = x₂ refl
statement_cases P (suc (suc (suc zero))) a b c d l x₀ x₁ x₂ x₃ x₄ x₅ x₆ x₇ x₈ x₉ y₀ y₁ y₂ y₃ none = x₃ refl
statement_cases P (suc (suc (suc (suc zero)))) a b c d l x₀ x₁ x₂ x₃ x₄ x₅ x₆ x₇ x₈ x₉ y₀ y₁ y₂ y₃ none = x₄ refl
statement_cases P (suc (suc (suc (suc (suc zero))))) a b c d l x₀ x₁ x₂ x₃ x₄ x₅ x₆ x₇ x₈ x₉ y₀ y₁ y₂ y₃ none = x₅ refl
statement_cases P (suc (suc (suc (suc (suc (suc zero)))))) a b c d l x₀ x₁ x₂ x₃ x₄ x₅ x₆ x₇ x₈ x₉ y₀ y₁ y₂ y₃ none = x₆ refl
statement_cases P (suc (suc (suc (suc (suc (suc (suc zero))))))) a b c d l x₀ x₁ x₂ x₃ x₄ x₅ x₆ x₇ x₈ x₉ y₀ y₁ y₂ y₃ none = x₇ refl
statement_cases P (suc (suc (suc (suc (suc (suc (suc (suc zero)))))))) a b c d l x₀ x₁ x₂ x₃ x₄ x₅ x₆ x₇ x₈ x₉ y₀ y₁ y₂ y₃ none = x₈ refl
statement_cases P (suc (suc (suc (suc (suc (suc (suc (suc (suc zero))))))))) a b c d l x₀ x₁ x₂ x₃ x₄ x₅ x₆ x₇ x₈ x₉ y₀ y₁ y₂ y₃ none = x₉ refl
statement_cases P (suc (suc (suc (suc (suc (suc (suc (suc (suc (suc zero)))))))))) a b c d l x₀ x₁ x₂ x₃ x₄ x₅ x₆ x₇ x₈ x₉ y₀ y₁ y₂ y₃ none = y₀ refl
statement_cases P (suc (suc (suc (suc (suc (suc (suc (suc (suc (suc (suc zero))))))))))) a b c d l x₀ x₁ x₂ x₃ x₄ x₅ x₆ x₇ x₈ x₉ y₀ y₁ y₂ y₃ none = y₁ refl
statement_cases P (suc (suc (suc (suc (suc (suc (suc (suc (suc (suc (suc (suc zero)))))))))))) a b c d l x₀ x₁ x₂ x₃ x₄ x₅ x₆ x₇ x₈ x₉ y₀ y₁ y₂ y₃ none = y₂ refl
statement_cases P (suc (suc (suc (suc (suc (suc (suc (suc (suc (suc (suc (suc (suc zero))))))))))))) a b c d l x₀ x₁ x₂ x₃ x₄ x₅ x₆ x₇ x₈ x₉ y₀ y₁ y₂ y₃ none = y₃ refl
statement_cases P (suc (suc (suc (suc (suc (suc (suc (suc (suc (suc (suc (suc (suc (suc k)))))))))))))) a b c d l x₀ x₁ x₂ x₃ x₄ x₅ x₆ x₇ x₈ x₉ y₀ y₁ y₂ y₃ none = none
