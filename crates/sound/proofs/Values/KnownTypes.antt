-- Every type of an accepted table is known: its fields, elements and module exist. Assumes nothing.
use Prim.Native.Nat.{ℕ, ◌+◌, ◌<◌}
use mathlib.Core.Path.{◌≡◌, ◌∙◌}
use mathlib.Core.Bool.{true, false}
use native.Mathlib.Omega.{arith}
use borrow.Author.Tests.{eq-eqb, lt-ltb, le-leb}
use Rattle.basics.specs.Course.{upto, course}
use Rattle.basics.proofs.Bools.{both_i, all_i}
use Rattle.basics.proofs.Courses.{upto_below, strong}
use Rattle.table.specs.Table.{Table}
use Rattle.table.specs.Entries.{type_count, field_count, block_count, type_kind, type_p, type_q, block_kind}
use Rattle.numbers.proofs.TypePromise.{fields_there, array_index}
use Rattle.machine.specs.Variables.{is_module, known_type, known_at, type_exists}
use Rattle.machine.proofs.Entries.{at_integer, at_boolean, at_character, at_record, at_array, at_process}
use Rattle.verdict.specs.Accepted.{Accepted}
use Rattle.sound.proofs.Values.TypeKinds.{field_at, Form, is_integer, is_boolean, is_character, is_record, is_array, is_process, is_none, form, lower_field, lower_element, of_module, some_kind}

-- a process type names a module
pub names_module : (T : Table) → Accepted T → (τ : ℕ) → τ < 3 + type_count T → type_kind T τ ≡ 3 → is_module T (type_p T τ) ≡ true
unfolding is_module
names_module T ok τ l e =
    let h = of_module T ok τ l e in
    both_i _ _ (lt-ltb (type_p T τ) (block_count T) h.0) (eq-eqb (block_kind T (type_p T τ)) 1 h.1)

module _ (T : Table) (ok : Accepted T) where
  unfoldable Knows : ℕ → Type 0
  Knows τ = τ < 3 + type_count T → type_exists T τ ≡ true

  lower_known : (τ σ : ℕ) → σ < τ → type_exists T σ ≡ true → upto false (known_at T) τ σ ≡ true
  unfolding type_exists
  lower_known τ σ l h = upto_below false (known_at T) τ σ l ∙ h

  known_step : (τ : ℕ) → ((k : ℕ) → k < τ → Knows k) → Form T τ → Knows τ
  unfolding Knows type_exists course known_at known_type
  known_step τ ih (is_integer q) l = rw (q, at_integer T)
  known_step τ ih (is_boolean q) l = rw (q, at_boolean T)
  known_step τ ih (is_character q) l = rw (q, at_character T)
  known_step τ ih (is_record e) l =
      rw (at_record T τ e)
      (both_i _ _ (le-leb (type_p T τ + type_q T τ) (field_count T) (fields_there T ok.numbers τ l e))
      (all_i (type_q T τ) _ (λ i g.
      let f = lower_field T ok τ l e i g in lower_known τ (field_at T τ i) f (ih (field_at T τ i) f (omega arith)))))
  known_step τ ih (is_array e) l =
      let f = lower_element T ok τ l e in
      let p = array_index T ok.numbers τ l e in
      rw (at_array T τ e) (both_i _ _ (lt-ltb (type_p T τ) 3 (omega arith)) (lower_known τ (type_q T τ) f (ih (type_q T τ) f (omega arith))))
  known_step τ ih (is_process e) l = rw (at_process T τ e) (names_module T ok τ l e)
  known_step τ ih (is_none g a b c e) l = absurd (some_kind T ok τ l g a b c)

  pub known-type : (τ : ℕ) → τ < 3 + type_count T → type_exists T τ ≡ true
  unfolding Knows
  known-type = strong Knows (λ τ ih. known_step τ ih (form T τ))
