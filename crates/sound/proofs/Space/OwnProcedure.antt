-- The procedure of a local call, at which a process stands that works on its own variables, is one of its module. Assumes nothing.
use Prim.Native.Nat.{ℕ, ◌<◌}
use mathlib.Core.Path.{◌≡◌, refl, sym, ap, ◌∙◌}
use mathlib.Core.Bool.{Bool, true, false}
use lib.Dec.{eqb, ltb}
use borrow.Author.Tests.{eqb-true, eqb-false, ltb-true, eq-eqb, lt-ltb}
use Rattle.basics.specs.Cases.{cases}
use Rattle.basics.proofs.Bools.{no_true, both_i}
use Rattle.table.specs.Table.{Table}
use Rattle.table.specs.Entries.{owner, stmt_count, stmt_kind, stmt_a, stmt_b, stmt_c, stmt_d, stmt_link}
use Rattle.numbers.proofs.OperandPromise as ranged
use Rattle.machine.specs.Memory.{Memory}
use Rattle.machine.specs.Layout.{module_at, statement_at, works_at}
use Rattle.machine.specs.Entries.{Statement, skip, assign, local_call, process_call, create, start, opener, arm, end_arms, write, block_end, no_statement, statement_of, stmt_at}
use Rattle.machine.specs.Context.{block_of}
use Rattle.machine.specs.Space.{is_procedure_of}
use Rattle.machine.specs.Rule.{rule}
use Rattle.machine.proofs.Entries.{statement_cases}
use Rattle.verdict.specs.Accepted.{Accepted}
use Rattle.sound.specs.Space.{AtCall}
use Rattle.sound.proofs.Rule.RuleRecord.{ruled, lies_i, procedure_i, stands}
use Rattle.sound.proofs.Evaluation.Scopes.{all_scoped}

-- the kind of a local call, and its procedure
is_local : Statement → Bool
is_local skip = false
is_local (assign a b) = false
is_local (local_call q c d) = true
is_local (process_call a q c d) = false
is_local (create a) = false
is_local (start a c d) = false
is_local (opener k) = false
is_local (arm g l) = false
is_local (end_arms l) = false
is_local (write a b) = false
is_local block_end = false
is_local no_statement = false

not_local : (k a b c d l : ℕ) → (k ≡ 2 → ⊥) → is_local (statement_of k a b c d l) ≡ false
unfolding is_local
not_local k a b c d l n =
    statement_cases (λ s. is_local s ≡ false) k a b c d l (λ e. refl) (λ e. refl) (λ e. absurd (n e)) (λ e. refl) (λ e. refl) (λ e. refl) (λ e. refl)
    (λ e. refl) (λ e. refl) (λ e. refl) (λ e. refl) (λ e. refl) (λ e. refl) (λ e. refl) refl

module _ (T : Table) (i q first count : ℕ) (e : stmt_at T i ≡ local_call q first count) where
  local_there : i < stmt_count T
  unfolding stmt_at is_local
  local_there =
      cases (ltb i (stmt_count T))
      (λ u. ltb-true i (stmt_count T) u)
      (λ u. let z : no_statement ≡ local_call q first count = rw u at e in no_true (ap is_local z))

  is_statement : statement_of (stmt_kind T i) (stmt_a T i) (stmt_b T i) (stmt_c T i) (stmt_d T i) (stmt_link T i) ≡ local_call q first count
  unfolding stmt_at
  is_statement = rw (lt-ltb i (stmt_count T) local_there) at e

  local_kind : stmt_kind T i ≡ 2
  unfolding is_local
  local_kind =
      cases (eqb (stmt_kind T i) 2)
      (λ u. eqb-true (stmt_kind T i) 2 u)
      (λ u. no_true (sym (not_local (stmt_kind T i) (stmt_a T i) (stmt_b T i) (stmt_c T i) (stmt_d T i) (stmt_link T i) (eqb-false (stmt_kind T i) 2 u)) ∙ ap is_local is_statement))

  local_block : stmt_a T i ≡ q
  unfolding statement_of
  local_block = let z : local_call (stmt_a T i) (stmt_c T i) (stmt_d T i) ≡ local_call q first count = rw local_kind at is_statement in cc

pub own_procedure : (T : Table) → Accepted T → (m : Memory) → rule T m ≡ true → (p q : ℕ) → AtCall T m p q → m (works_at p) ≡ p
    → is_procedure_of T (m (module_at p)) q ≡ true
unfolding is_procedure_of
own_procedure T acc m e p q a w =
    let i = m (statement_at p) in
    let c = a.created in
    let st = stands T acc m p c.least c.most ((ruled T m e).process p c.least c.most) a.started in
    let k = local_kind T i q a.first a.count a.is in
    let b = local_block T i q a.first a.count a.is in
    let there = ranged.local_procedure T acc.numbers i (local_there T i q a.first a.count a.is) k in
    let own = (all_scoped T acc (block_of m p) st.there acc.scopes).local_owner i (lies_i T (block_of m p) i st.from st.to) k in
    let μ : m (module_at p) ≡ owner T (block_of m p) = rw w at st.owned in
    both_i _ _ (procedure_i T q (rw b at there.0) (rw b at there.1)) (eq-eqb (owner T q) (m (module_at p)) (rw b at own ∙ sym μ))
