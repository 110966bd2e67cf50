-- The ends of blocks: what each call may ask, and each return. Assumes nothing.
use Prim.Native.Nat.{ℕ, ◌+◌, ◌<◌, ◌≤◌}
use mathlib.Core.Path.{◌≡◌, refl, sym, ap, ◌∙◌}
use mathlib.Core.Bool.{Bool, true, false}
use mathlib.Core.List.{List}
use native.Mathlib.Omega.{arith}
use borrow.Author.Tests.{ne_eqb, leb-true, ltb-true, lt-ltb}
use lib.Dec.{ltb}
use mir.Val.{Fits}
use mir.Syntax.{w64}
use Rattle.basics.specs.Choice.{pick}
use Rattle.basics.proofs.Bools.{both_l}
use Rattle.table.specs.Table.{Table}
use Rattle.table.specs.Entries.{stmt_count, stmt_kind, stmt_a, stmt_b, stmt_c, stmt_d, stmt_link}
use Rattle.machine.specs.Memory.{Memory, memory_of, update}
use Rattle.machine.specs.Layout.{location, frame_at, works_at, holder_at, depth_at, link_at}
use Rattle.machine.specs.Lent.{State, Becomes}
use Rattle.machine.specs.Outcomes.{ok, stuck}
use Rattle.machine.specs.Entries.{Statement, no_statement, statement_of, stmt_at}
use Rattle.machine.proofs.Entries.{statement_cases}
use Rattle.machine.specs.Context as machine
use Rattle.machine.specs.Context.{context_of, contextual}
use Rattle.machine.specs.Calls.{popped, returns, return}
use Rattle.machine.specs.Statements.{effect, moved, do_block_end, perform}
use Rattle.code.specs.Code.{decoded}
use Rattle.operands.specs.declared.Context.{Context}
use Rattle.operands.specs.Ready.{context_in}
use Rattle.frames.specs.Frames.{ended, InCall}
use Rattle.effects.specs.Effects.{statement_step, Stepped, Standing}
use Rattle.effects.proofs.Carrying.{performs_block_end}
use Rattle.transfers.proofs.Steps.{stands_lent, stands_done}
use Rattle.calls.proofs.Passing.{kept}
use Rattle.calls.proofs.Limits.{stand_works}
use Rattle.calls.proofs.Entering.{stand_frame, moved_ok, moved_stuck}

-- a statement that is returned to exists, and is a call
module _ (T : Table) (m page : Memory) (x : machine.Context) (e : ℕ) where
  there : (b : Bool) (y : Statement) → (returns T m page x e (pick b y no_statement) ≡ stuck → ⊥) → b ≡ true
  unfolding returns
  there true y g = refl
  there false y g = absurd (g refl)

  a_call : (k a b c d l : ℕ) → (returns T m page x e (statement_of k a b c d l) ≡ stuck → ⊥) → (k ≡ 3 → ⊥) → k ≡ 2
  unfolding returns
  a_call k a b c d l h n =
      statement_cases (λ s. (returns T m page x e s ≡ stuck → ⊥) → k ≡ 2) k a b c d l
      (λ q g. absurd (g refl)) (λ q g. absurd (g refl)) (λ q g. q) (λ q g. absurd (n q)) (λ q g. absurd (g refl)) (λ q g. absurd (g refl)) (λ q g. absurd (g refl))
      (λ q g. absurd (g refl)) (λ q g. absurd (g refl)) (λ q g. absurd (g refl)) (λ q g. absurd (g refl)) (λ q g. absurd (g refl)) (λ q g. absurd (g refl)) (λ q g. absurd (g refl)) (λ g. absurd (g refl)) h

  by_local : (k a b c d l : ℕ) → k ≡ 2 → returns T m page x e (statement_of k a b c d l) ≡ ok (popped T m page x m e)
  unfolding returns statement_of
  by_local k a b c d l q = rw q

  by_process : (k a b c d l : ℕ) → k ≡ 3
      → returns T m page x e (statement_of k a b c d l) ≡ ok (popped T m page x (update m (holder_at x.works) 0) e)
  unfolding returns statement_of
  by_process k a b c d l q = rw q

-- the end of a process's own block, and of a call
module _ (T : Table) (m page : Memory) (x : Context) where
  ends_at : m (depth_at x.process) ≡ 0 → do_block_end T m page (context_in x) ≡ ok (effect 2 (ended m x.process) page)
  unfolding do_block_end context_in ended
  ends_at e = rw e

  returns_at : (m (depth_at x.process) ≡ 0 → ⊥) → do_block_end T m page (context_in x)
      ≡ moved T m page (context_in x) (returns T m page (context_in x) (m (location x.process (x.frame + 1))) (stmt_at T (m (location x.process (x.frame + 1)))))
  unfolding do_block_end context_in return link_at
  returns_at n = rw (ne_eqb (m (depth_at x.process)) 0 n)

there_at : (T : Table) (m page : Memory) (x : machine.Context) (c : ℕ) → (returns T m page x c (stmt_at T c) ≡ stuck → ⊥) → ltb c (stmt_count T) ≡ true
unfolding stmt_at
there_at T m page x c g = there T m page x c (ltb c (stmt_count T)) _ g

stmt_there : (T : Table) (c : ℕ) → c < stmt_count T
    → stmt_at T c ≡ statement_of (stmt_kind T c) (stmt_a T c) (stmt_b T c) (stmt_c T c) (stmt_d T c) (stmt_link T c)
unfolding stmt_at
stmt_there T c l = rw (lt-ltb c (stmt_count T) l)

popped_works : (T : Table) (m : List ℕ) (page : Memory) (p c : ℕ) (s1 : List ℕ)
    → Becomes s1 (popped T (memory_of m) page (context_of (memory_of m) p) (update (memory_of m) (holder_at (memory_of m (works_at p))) 0) c)
    → Becomes s1 (popped T (memory_of m) page (context_of (memory_of m) p) (update (memory_of m) (holder_at (context_of (memory_of m) p).works) 0) c)
unfolding context_of
popped_works T m page p c s1 g = g

module _ (t m p : List ℕ) (x : Context) (h : Standing t m p x) (k : stmt_kind (decoded t) x.statement ≡ 13) where
  end_is : perform (decoded t) (memory_of m) (memory_of p) (context_in x) (stmt_at (decoded t) x.statement)
      ≡ do_block_end (decoded t) (memory_of m) (memory_of p) (context_in x)
  unfolding context_in
  end_is = performs_block_end (decoded t) (memory_of m) (memory_of p) (context_in x) h.unstuck k

  pub ends_process : (w : ℕ) (s1 : List ℕ) → w ≡ memory_of m (depth_at x.process) → w ≡ 0
      → Becomes s1 (ended (memory_of m) x.process) → Stepped 2 s1 p (statement_step (decoded t) (memory_of m) (memory_of p) (context_in x))
  ends_process w s1 hw e c =
      stands_done t m p x h 2 s1 (ended (memory_of m) x.process)
      (end_is ∙ ends_at (decoded t) (memory_of m) (memory_of p) x (sym hw ∙ e)) c

  pub ends_call : (w : ℕ) → w ≡ memory_of m (depth_at x.process) → (w ≡ 0 → ⊥) → memory_of m (depth_at x.process) ≡ 0 → ⊥
  ends_call w hw n e = n (hw ∙ e)

  pub ending_lent : State m
  ending_lent = stands_lent t m p x h

  pub ending_low : 1 ≤ x.process
  ending_low = h.ready.context.process_low

  pub ending_high : x.process ≤ 64
  ending_high = h.ready.context.process_high

  pub works-low : 1 ≤ memory_of m (works_at x.process)
  works-low = rw (← stand_works t m p x h) h.ready.context.works_low

  pub works-high : memory_of m (works_at x.process) ≤ 64
  works-high = rw (← stand_works t m p x h) h.ready.context.works_high

  module _ (n : memory_of m (depth_at x.process) ≡ 0 → ⊥) where
    -- the frame that is left lies in the area of its process
    framed : x.frame + 4 ≤ 256
    unfolding contextual
    framed =
        let g = leb-true (memory_of m (frame_at x.process) + 4) 256 (rw (ne_eqb (memory_of m (depth_at x.process)) 0 n) at (both_l _ _ h.contextual)) in
        let e = stand_frame t m p x h in omega arith

    pub return_fits : Fits w64 (x.frame + 1)
    return_fits = let g = framed in record { fits = omega arith }

    pub return_room : x.frame + 1 ≤ 255
    return_room = let g = framed in omega arith

    pub return_called : InCall (memory_of m) x.process
    return_called =
        let g = framed in
        let e = stand_frame t m p x h in
        record { low = h.ready.context.process_low; high = h.ready.context.process_high; area = omega arith; depth = omega arith }

    module _ (c : ℕ) (hc : c ≡ memory_of m (location x.process (x.frame + 1))) where
      return_is : perform (decoded t) (memory_of m) (memory_of p) (context_in x) (stmt_at (decoded t) x.statement)
          ≡ moved (decoded t) (memory_of m) (memory_of p) (context_in x) (returns (decoded t) (memory_of m) (memory_of p) (context_in x) c (stmt_at (decoded t) c))
      return_is = end_is ∙ (returns_at (decoded t) (memory_of m) (memory_of p) x n ∙ rw hc)

      return_unstuck : returns (decoded t) (memory_of m) (memory_of p) (context_in x) c (stmt_at (decoded t) c) ≡ stuck → ⊥
      return_unstuck e = h.unstuck (return_is ∙ moved_stuck _ _ _ _ _ e)

      return_there : c < stmt_count (decoded t)
      return_there = ltb-true c (stmt_count (decoded t)) (there_at (decoded t) (memory_of m) (memory_of p) (context_in x) c return_unstuck)

      pub return_below : c < 65535
      return_below = let g = return_there in let l = h.statements in omega arith

      of_kind : returns (decoded t) (memory_of m) (memory_of p) (context_in x) c (stmt_at (decoded t) c)
          ≡ returns (decoded t) (memory_of m) (memory_of p) (context_in x) c
          (statement_of (stmt_kind (decoded t) c) (stmt_a (decoded t) c) (stmt_b (decoded t) c) (stmt_c (decoded t) c) (stmt_d (decoded t) c) (stmt_link (decoded t) c))
      of_kind = ap (returns (decoded t) (memory_of m) (memory_of p) (context_in x) c) (stmt_there (decoded t) c return_there)

      pub return_process : (i : ℕ) (s1 : List ℕ) → i ≡ stmt_kind (decoded t) c → i ≡ 3
          → ((T : Table) (page : Memory) → Becomes s1 (popped T (memory_of m) page (context_of (memory_of m) x.process) (update (memory_of m) (holder_at (memory_of m (works_at x.process))) 0) c))
          → Stepped 0 s1 p (statement_step (decoded t) (memory_of m) (memory_of p) (context_in x))
      return_process i s1 hi e g =
          let d = of_kind ∙ by_process (decoded t) (memory_of m) (memory_of p) (context_in x) c _ _ _ _ _ _ (sym hi ∙ e) in
          stands_done t m p x h 0 s1 _ (return_is ∙ moved_ok _ _ _ _ _ _ d)
          (rw h.here (popped_works (decoded t) m (memory_of p) x.process c s1 (g (decoded t) (memory_of p))))

      pub return_local : (i : ℕ) (s1 : List ℕ) → i ≡ stmt_kind (decoded t) c → (i ≡ 3 → ⊥)
          → ((T : Table) (page : Memory) → Becomes s1 (popped T (memory_of m) page (context_of (memory_of m) x.process) (memory_of m) c))
          → Stepped 0 s1 p (statement_step (decoded t) (memory_of m) (memory_of p) (context_in x))
      return_local i s1 hi e g =
          let u = kept _ _ of_kind return_unstuck in
          let j = a_call (decoded t) (memory_of m) (memory_of p) (context_in x) c _ _ _ _ _ _ u (λ q. e (hi ∙ q)) in
          let d = of_kind ∙ by_local (decoded t) (memory_of m) (memory_of p) (context_in x) c _ _ _ _ _ _ j in
          stands_done t m p x h 0 s1 _ (return_is ∙ moved_ok _ _ _ _ _ _ d)
          (rw h.here (g (decoded t) (memory_of p)))

pub ruleset ends = (ends_process, ends_call, ending_lent, ending_low, ending_high, works-low, works-high, return_fits, return_room, return_called, return_below, return_process, return_local)
