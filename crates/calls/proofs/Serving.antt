-- Calls of other processes: what each call may ask, and each return. Assumes nothing.
use Prim.Native.Nat.{ℕ, ◌+◌, ◌<◌, ◌≤◌}
use mathlib.Core.Path.{◌≡◌, refl, sym, ◌∙◌}
use mathlib.Core.Bool.{Bool, true, false}
use mathlib.Core.List.{List}
use native.Mathlib.Omega.{arith}
use borrow.Author.Tests.{ne_eqb}
use lib.ListN.{take}
use lib.Dec.{eqb, ltb}
use Rattle.std.specs.Prelude.{Result, Ok, Err}
use Rattle.basics.specs.Choice.{both}
use Rattle.table.specs.Table.{Table}
use Rattle.table.specs.Entries.{node_count, owner, stmt_kind, stmt_a, stmt_b, stmt_c, stmt_d}
use Rattle.numbers.specs.Nodes.{Variable}
use Rattle.numbers.proofs.OperandPromise.{call_variable, call_procedure}
use Rattle.typing.proofs.Promise.{called_arguments}
use Rattle.words.specs.Values.{failure_number}
use Rattle.words.specs.declared.values.Failure.{Failure}
use Rattle.machine.specs.Memory.{Memory, memory_of, update}
use Rattle.machine.specs.Layout.{status_at, top_at, holder_at, failure_at}
use Rattle.machine.specs.Lent.{State, Becomes}
use Rattle.machine.specs.Outcomes.{Outcome, ok, fail_where}
use Rattle.machine.specs.Entries.{stmt_at}
use Rattle.machine.specs.Variables.{is_procedure}
use Rattle.machine.specs.Context as machine
use Rattle.machine.specs.Context.{context_of}
use Rattle.machine.specs.Operands.{operand}
use Rattle.machine.specs.Calls.{arguments, pushed, frame_marked}
use Rattle.machine.specs.Statements.{Effect, effect, wait, can_serve, do_process_call, perform}
use Rattle.code.specs.Code.{decoded}
use Rattle.operands.specs.declared.Context.{Context}
use Rattle.operands.specs.Ready.{context_in}
use Rattle.effects.specs.Effects.{statement_step, Stepped, Standing}
use Rattle.effects.proofs.Carrying.{performs_process}
use Rattle.transfers.specs.References.{reference_of, referred, Referring}
use Rattle.transfers.proofs.Referring.{follows, call_follows, follows_referring, follows_fails, follows_to, follows_refers}
use Rattle.transfers.proofs.Steps.{stands_lent, stands_there, stands_fail, stands_done}
use Rattle.calls.specs.Framing.{FrameCount}
use Rattle.calls.specs.Entering.{invoked, Invoking, Entering}
use Rattle.calls.specs.Serving.{served, Serving}
use Rattle.calls.proofs.Passing.{kept}
use Rattle.calls.proofs.Limits.{limits_area}
use Rattle.calls.proofs.Entering.{entering_done, invoking_none}

-- ---- the laws of `is_free`

module _ (m : List ℕ) (r w : ℕ) (hw : w ≡ memory_of m (status_at r)) where
  pub free_not : w ≡ 1 → false ≡ can_serve (memory_of m) r
  unfolding can_serve both
  free_not e = rw (← hw, e)

  pub free_holder : (v : ℕ) → (w ≡ 1 → ⊥) → v ≡ memory_of m (holder_at r) → eqb v 0 ≡ can_serve (memory_of m) r
  unfolding can_serve both
  free_holder v n hv = rw (← hw, ne_eqb w 1 n, ← hv)

-- ---- the laws of `enter_process`

module _ (t m p : List ℕ) (x : Context) (q r : ℕ) (l : List ℕ) (n : ℕ)
    (h : Entering t m p x q 256 (update (memory_of m) (holder_at r) x.process) r l n) (size : ℕ) (hs : FrameCount (decoded t) q size) (b : Bool)
    (hb : b ≡ ltb 256 (memory_of m (top_at x.process) + 4 + size)) (e : b ≡ false) where
  pub entering_process : (s1 : List ℕ)
      → ((page : Memory) → Becomes s1 (frame_marked (decoded t) (memory_of m) page (context_of (memory_of m) x.process) (pushed (decoded t) (memory_of m) page (context_of (memory_of m) x.process) (update (memory_of m) (holder_at r) x.process) q r (take n l)) q (take n l)))
      → Stepped 0 s1 p (statement_step (decoded t) (memory_of m) (memory_of p) (context_in x))
  entering_process s1 c =
      entering_done t m p x q 256 (update (memory_of m) (holder_at r) x.process) r l n h size 256 hs refl b hb e s1 (c (memory_of p))

-- ---- the laws of `serve` and `call_on`

served_not : (T : Table) (m page : Memory) (x : machine.Context) (q c d r : ℕ) → can_serve m r ≡ false → served T m page x q c d r ≡ ok (effect 1 m page)
unfolding served wait
served_not T m page x q c d r e = rw e

served_free : (T : Table) (m page : Memory) (x : Context) (q c d r : ℕ) → can_serve m r ≡ true
    → served T m page (context_in x) q c d r ≡ invoked T m page (context_in x) false (update m (holder_at r) x.process) q r (arguments T m page (context_in x) q c d)
unfolding served context_in
served_free T m page x q c d r e = rw e

module _ (t m p : List ℕ) (x : Context) (r : ℕ) (h : Serving t m p x r) where
  pub serving_lent : State m
  serving_lent = stands_lent t m p x h.standing

  pub serving_low : 1 ≤ r
  serving_low = h.low

  pub serving_high : r ≤ 64
  serving_high = h.high

  module _ (b : Bool) (hb : b ≡ can_serve (memory_of m) r) where
    pub serving_waits : b ≡ false → Stepped 1 m p (statement_step (decoded t) (memory_of m) (memory_of p) (context_in x))
    serving_waits e =
        stands_done t m p x h.standing 1 m (memory_of m) (h.performs ∙ served_not _ _ _ _ _ _ _ _ (sym hb ∙ e))
        (record { long = h.standing.ready.state; is = refl })

    pub serving_free : b ≡ true → can_serve (memory_of m) r ≡ true
    serving_free e = sym hb ∙ e

  pub serving_invoking : (q c d : ℕ) → can_serve (memory_of m) r ≡ true → q ≡ stmt_b (decoded t) x.statement
      → c ≡ stmt_c (decoded t) x.statement → d ≡ stmt_d (decoded t) x.statement → q < 65536
      → Invoking t m p x q c d 256 (update (memory_of m) (holder_at r) x.process) r
  serving_invoking q c d e hq hc hd l =
      let i = stands_there t m p x h.standing in
      let g = h.standing.ready in
      let k = call_procedure (decoded t) g.ranged x.statement i h.kind in
      rw (hq, hc, hd)
      record {
        standing = h.standing;
        small = rw hq at l;
        there = k.0;
        kind = k.1;
        full = false;
        limits = limits_area (decoded t) (memory_of m) x.process (stmt_b (decoded t) x.statement);
        fit = called_arguments (decoded t) g.typed x.statement i h.kind;
        performs = h.performs ∙ served_free _ _ _ x _ _ _ r e;
      }

  pub serving_none : (q d : ℕ) (l : List ℕ) → can_serve (memory_of m) r ≡ true → q ≡ stmt_b (decoded t) x.statement
      → d ≡ stmt_d (decoded t) x.statement → q < 65536 → d ≡ 0
      → Entering t m p x q 256 (update (memory_of m) (holder_at r) x.process) r l 0
  serving_none q d l e hq hd g k =
      invoking_none t m p x q _ d 256 (update (memory_of m) (holder_at r) x.process) r (serving_invoking q _ d e hq refl hd g) l k

-- ---- the laws of `process_call`

module _ (T : Table) (m page : Memory) (x : machine.Context) (q c d : ℕ) where
  abbrev tests : ℕ → Bool
  tests v = both (is_procedure T q) (eqb (owner T q) v)

  abbrev serves : ℕ → ℕ → Outcome Effect
  serves v r = served T m page x q c d r

  call_is : (a : ℕ) → do_process_call T m page x a q c d ≡ follows T m page x a tests serves
  unfolding do_process_call served can_serve invoked fail_where
  call_is a = call_follows T m page x a tests serves

module _ (t m p : List ℕ) (x : Context) (h : Standing t m p x)
    (k : stmt_kind (decoded t) x.statement ≡ 3) (a : ℕ) (ha : a ≡ stmt_a (decoded t) x.statement) where
  abbrev the_tests : ℕ → Bool
  the_tests = tests (decoded t) (memory_of m) (memory_of p) (context_in x) (stmt_b (decoded t) x.statement) (stmt_c (decoded t) x.statement) (stmt_d (decoded t) x.statement)

  abbrev the_serves : ℕ → ℕ → Outcome Effect
  the_serves = serves (decoded t) (memory_of m) (memory_of p) (context_in x) (stmt_b (decoded t) x.statement) (stmt_c (decoded t) x.statement) (stmt_d (decoded t) x.statement)

  process_is : perform (decoded t) (memory_of m) (memory_of p) (context_in x) (stmt_at (decoded t) x.statement)
      ≡ follows (decoded t) (memory_of m) (memory_of p) (context_in x) a the_tests the_serves
  unfolding context_in
  process_is =
      rw ha
      (performs_process (decoded t) (memory_of m) (memory_of p) (context_in x) h.unstuck k
      ∙ call_is (decoded t) (memory_of m) (memory_of p) (context_in x) _ _ _ _)

  process_variable : Variable (decoded t) (node_count (decoded t)) a
  process_variable = rw ha (call_variable (decoded t) h.ready.ranged x.statement (stands_there t m p x h) k)

  pub process_referring : Referring (decoded t) (memory_of m) (memory_of p) (context_in x) a
  process_referring =
      follows_referring (decoded t) (memory_of m) (memory_of p) (context_in x) h.ready.ranged a process_variable the_tests the_serves
      (kept _ _ process_is h.unstuck)

  module _ (l : Result ℕ Failure) (hl : referred l ≡ reference_of (decoded t) (memory_of m) (operand (decoded t) (memory_of m) (memory_of p) (context_in x) a)) where
    pub process_fails : (e : Failure) (w : ℕ) (s1 : List ℕ) → l ≡ Err e → w ≡ failure_number e
        → Becomes s1 (update (memory_of m) failure_at (failure_number e))
        → Stepped w s1 p (statement_step (decoded t) (memory_of m) (memory_of p) (context_in x))
    process_fails e w s1 g v c =
        stands_fail t m p x h (failure_number e) w s1
        (process_is
        ∙ follows_fails (decoded t) (memory_of m) (memory_of p) (context_in x) h.ready.ranged a process_variable the_tests the_serves
        (kept _ _ process_is h.unstuck) l hl e g)
        v c

    pub process_serving : (r : ℕ) → l ≡ Ok r → Serving t m p x r
    process_serving r g =
        let i = follows_refers (decoded t) (memory_of m) (memory_of p) (context_in x) h.ready.ranged a process_variable the_tests the_serves
        (kept _ _ process_is h.unstuck) l hl r g in
        let d = follows_to (decoded t) (memory_of m) (memory_of p) (context_in x) h.ready.ranged a process_variable the_tests the_serves
        (kept _ _ process_is h.unstuck) l hl r g in
        let low = i.low in
        let high = i.high in
        let most = h.created in
        record { standing = h; kind = k; low = omega arith; high = omega arith; performs = process_is ∙ d }
