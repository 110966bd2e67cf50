-- Create statements that are not stuck (11.4): what each call may ask, and each return. Assumes nothing.
use Prim.Native.Nat.{ℕ, ◌+◌, ◌<◌, ◌≤◌}
use mathlib.Core.Path.{◌≡◌, sym, subst, ◌∙◌}
use mathlib.Core.List.{List}
use native.Mathlib.Omega.{arith}
use borrow.Author.Tests.{eq-eqb, ne_eqb}
use Rattle.table.specs.Entries.{type_p, stmt_kind, stmt_a}
use Rattle.types.specs.Types.{type_of}
use Rattle.numbers.proofs.OperandPromise.{create_variable}
use Rattle.words.specs.Values.{failure_number}
use Rattle.words.specs.declared.values.Failure.{Failure}
use Rattle.machine.specs.Memory.{memory_of, update}
use Rattle.machine.specs.Layout.{location, statement_at, created_at, failure_at, page_words}
use Rattle.machine.specs.Lent.{WordSlice, Becomes}
use Rattle.machine.specs.Marks.{mark, fresh}
use Rattle.machine.specs.Outcomes.{ok, fail, fail_where, place}
use Rattle.machine.specs.Entries.{stmt_at}
use Rattle.machine.specs.Processes.{created}
use Rattle.machine.specs.Statements.{go_on, go_to, do_create, perform}
use Rattle.machine.specs.Step.{settled}
use Rattle.code.specs.Code.{slot_in, decoded}
use Rattle.operands.specs.declared.Context.{Context}
use Rattle.std.specs.Prelude.{Result, Ok, Err}
use Rattle.operands.specs.Answers.{selected}
use Rattle.operands.specs.Ready.{context_in}
use Rattle.operands.proofs.Lending.{lends_type}
use Rattle.operands.proofs.Typed.{typed_variable}
use Rattle.operands.proofs.Selecting.{out, Sel, fits_low}
use Rattle.effects.specs.Effects.{statement_step, Stepped, Standing}
use Rattle.effects.proofs.Carrying.{performs_create}
use Rattle.transfers.specs.Creations.{creates, CreatePremises}
use Rattle.transfers.proofs.Following.{apart}
use Rattle.transfers.proofs.Referring.{Selected, selected_unstuck, selected_fits, selected_kind, process_at, process_failed, process_selected}
use Rattle.transfers.proofs.Steps.{stands_there, stands_below, stands_fail}

-- ---- the laws of `create_next`

module _ (s d : List ℕ) (x : Context) (i μ n : ℕ) (l : WordSlice page_words d) (hn : n ≡ memory_of s created_at) where
  pub create_fails : (r : ℕ) (s1 : List ℕ) → n ≡ 64 → r ≡ 24 → Becomes s1 (update (memory_of s) failure_at 24)
      → Stepped r s1 d (settled (memory_of s) (memory_of d) (creates (memory_of s) (memory_of d) x i μ))
  unfolding settled creates fail_where
  create_fails r s1 e k c = record { long = c.long; wide = l.long; is = rw (eq-eqb _ 64 (sym hn ∙ e), k, c.is) }

  pub create_returns : (s1 : List ℕ) (k q : ℕ) → (n ≡ 64 → ⊥) → k ≡ n + 1 → q ≡ x.statement + 1
      → Becomes s1 (update (mark (fresh (update (created (memory_of s) k μ) i k) (location k 0) 256) i 1) (statement_at x.process) q)
      → Stepped 0 s1 d (settled (memory_of s) (memory_of d) (creates (memory_of s) (memory_of d) x i μ))
  unfolding settled creates fail_where
  create_returns s1 k q e hk hq c =
      record { long = c.long; wide = l.long; is = rw (ne_eqb (memory_of s created_at) 64 (λ z. e (hn ∙ z)), c.is, hk, hn, hq) }

  pub create_room : CreatePremises (memory_of s) x i μ → (n ≡ 64 → ⊥) → n + 1 ≤ 64
  create_room c e = let g = c.count in omega arith

-- ---- the laws of `create`

module _ (t m p : List ℕ) (x : Context) (h : Standing t m p x) (hk : stmt_kind (decoded t) x.statement ≡ 4) where
  does : perform (decoded t) (memory_of m) (memory_of p) (context_in x) (stmt_at (decoded t) x.statement)
      ≡ do_create (decoded t) (memory_of m) (memory_of p) (context_in x) (stmt_a (decoded t) x.statement)
  unfolding context_in
  does = performs_create (decoded t) (memory_of m) (memory_of p) (context_in x) h.unstuck hk

  is_selected : Selected (decoded t) (type_of (decoded t) (stmt_a (decoded t) x.statement)) (out t m p x (stmt_a (decoded t) x.statement))
  unfolding do_create
  is_selected =
      process_selected (decoded t) (type_of (decoded t) (stmt_a (decoded t) x.statement)) _ _
      (typed_variable (decoded t) (memory_of m) (memory_of p) (context_in x) h.ready.ranged (stmt_a (decoded t) x.statement)
      (create_variable (decoded t) h.ready.ranged x.statement (stands_there t m p x h) hk))
      (apart _ _ does h.unstuck)

  module _ (a : ℕ) (ha : a ≡ stmt_a (decoded t) x.statement) where
    pub create_selectable : Sel t m p x a
    create_selectable =
        rw ha
        (record {
          variable = create_variable (decoded t) h.ready.ranged x.statement (stands_there t m p x h) hk;
          unstuck = selected_unstuck is_selected;
        })

    module _ (l : Result ℕ Failure) (hl : selected l (type_of (decoded t) a) ≡ out t m p x a) where
      pub create_stops : (e : Failure) (r : ℕ) (s1 : List ℕ) → l ≡ Err e → r ≡ failure_number e
          → Becomes s1 (update (memory_of m) failure_at (failure_number e))
          → Stepped r s1 p (statement_step (decoded t) (memory_of m) (memory_of p) (context_in x))
      unfolding do_create
      create_stops e r s1 g k c =
          let q : out t m p x a ≡ fail (failure_number e) = sym hl ∙ rw g in
          let d = rw ha at q in
          stands_fail t m p x h (failure_number e) r s1
          (does ∙ rw d (process_failed (decoded t) (type_of (decoded t) (stmt_a (decoded t) x.statement)) _ (failure_number e))) k c

      module _ (i : ℕ) (g : l ≡ Ok i) where
        is_place : out t m p x (stmt_a (decoded t) x.statement) ≡ ok (place i (type_of (decoded t) (stmt_a (decoded t) x.statement)))
        is_place = let q : out t m p x a ≡ ok (place i (type_of (decoded t) a)) = sym hl ∙ rw g in rw ha at q

        here : Selected (decoded t) (type_of (decoded t) (stmt_a (decoded t) x.statement)) (ok (place i (type_of (decoded t) (stmt_a (decoded t) x.statement))))
        here = subst (Selected (decoded t) (type_of (decoded t) (stmt_a (decoded t) x.statement))) is_place is_selected

        pub create_creating : (v : ℕ) → v < 65536 → CreatePremises (memory_of m) x i v
        create_creating v k =
            record {
              process_low = h.ready.context.process_low;
              process_high = h.ready.context.process_high;
              statement = stands_below t m p x h;
              count = h.created;
              place = fits_low (decoded t) i (type_of (decoded t) (stmt_a (decoded t) x.statement)) (selected_fits here);
              block = k;
            }

        module _ (τ v : ℕ) (hτ : τ ≡ slot_in t a 23) (hv : v ≡ type_p (decoded t) τ) where
          of_type : τ ≡ type_of (decoded t) a
          of_type = lends_type t m p x h.ready a τ create_selectable.variable.below hτ

          comes : perform (decoded t) (memory_of m) (memory_of p) (context_in x) (stmt_at (decoded t) x.statement) ≡ creates (memory_of m) (memory_of p) x i v
          unfolding do_create creates go_on go_to context_in
          comes =
              does ∙ rw is_place
              (process_at (decoded t) (type_of (decoded t) (stmt_a (decoded t) x.statement)) _ i (selected_kind here) ∙ rw (hv, of_type, ha))

          pub create_goes : (r : ℕ) (s1 : List ℕ) → Stepped r s1 p (settled (memory_of m) (memory_of p) (creates (memory_of m) (memory_of p) x i v))
              → Stepped r s1 p (statement_step (decoded t) (memory_of m) (memory_of p) (context_in x))
          unfolding statement_step context_in
          create_goes r s1 d = rw (← comes) at d

pub ruleset creations = (create_fails, create_returns, create_room, create_selectable, create_stops, create_creating, create_goes)
