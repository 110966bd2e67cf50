-- THE ROWS of 'Step answers' (01) hold of every step that is not stuck. Assumes nothing.
use Prim.Native.Nat.{ℕ}
use mathlib.Core.Path.{◌≡◌, refl, sym, ◌∙◌}
use mathlib.Core.Bool.{Bool, true, false}
use mathlib.Core.Logic.{◌⊎◌, inl, inr}
use native.Mathlib.Omega.{arith}
use lib.Dec.{eqb}
use borrow.Author.Tests.{eqb-true, eqb-false, eq-eqb, ne_eqb}
use Rattle.basics.specs.Cases.{cases}
use Rattle.basics.specs.Choice.{either, between}
use Rattle.basics.proofs.Bools.{no_true, either_l, either_r}
use Rattle.table.specs.Table.{Table}
use Rattle.machine.specs.Memory.{Memory, update}
use Rattle.machine.specs.Layout.{status_at, works_at, holder_at, created_at, failure_at}
use Rattle.machine.specs.Outcomes.{Outcome, ok, fail, stuck, need, is_failure}
use Rattle.machine.specs.Entries.{Statement, opener, process_call}
use Rattle.machine.specs.Context.{context_of}
use Rattle.machine.specs.Statements.{Effect, effect, perform}
use Rattle.machine.specs.Step.{Step, done, settled, answers_only, performs, proceeds, exists, turn, step}
use Rattle.machine.proofs.Outcomes.{g_need}
use Rattle.sound.specs.InUse.{Created}
use Rattle.sound.specs.Rows.{next, CanStep, Waiting, unstarted, held, waiting, Ended, before, now, Absent, Failing, CarriedOut, Row, row0, row1, row2, row3, row16, Blocked, at_guards, Changes, failure_mark, nothing, gives_up, ended_before, ends_now, absent, carried, Answers, RowsHold, SameFailure}
use Rattle.sound.proofs.Rows.OutcomeOrStuck.{Near, same, n_need, n_pick_true, n_pick_false, near_is}
use Rattle.sound.proofs.Rows.StatementRules.{Leaves, gives, keeps, Reports, went, waited, ended, failed, strays, reports, statement_near, carries_near, Replies, waits_near, ends_near}
use Rattle.sound.proofs.Rule.RuleRecord.{created_in, in_created}

either_none : (a b : Bool) → either a b ≡ false → (a ≡ false) × (b ≡ false)
unfolding either
either_none true b e = no_true (sym e)
either_none false b e = (refl, e)

either_some : (a b : Bool) → either a b ≡ true → (a ≡ true) ⊎ (b ≡ true)
unfolding either
either_some true b e = inl refl
either_some false b e = inr e

either_both_false : (a b : Bool) → a ≡ false → b ≡ false → either a b ≡ false
unfolding either
either_both_false a b e h = rw (e, h)

module _ (T : Table) (m page : Memory) (p : ℕ) where
  -- ---- what a step comes to has its row

  data Stepped : Outcome Effect → Type 0 where
    going : {s d : Memory} → CarriedOut T m page p s d → Stepped (ok (effect 0 s d))
    stays : {s : Memory} → Waiting T m page p → Changes T m page p 1 s page → Stepped (ok (effect 1 s page))
    over : {s : Memory} → Ended T m page p → Changes T m page p 2 s page → Stepped (ok (effect 2 s page))
    missing : Absent T m page p → Stepped (ok (effect 3 m page))
    fails : {n : ℕ} → Failing T m page p n → Stepped (fail n)
    astray : Stepped stuck

  not_blocked_call : (a q c d : ℕ) → next T m page p ≡ process_call a q c d → Blocked T m page p → ⊥
  not_blocked_call a q c d e (at_guards {k = k} r h w g) = let u : opener k ≡ process_call a q c d = sym h ∙ e in let z : ◌≡◌ {A = ℕ} 0 1 = cc in absurd (omega arith)

  not_blocked_status : (m (status_at p) ≡ 2 → ⊥) → Blocked T m page p → ⊥
  not_blocked_status n (at_guards r h w g) = n r.started

  not_blocked_held : (m (holder_at (m (works_at p))) ≡ 0 → ⊥) → (m (holder_at (m (works_at p))) ≡ p → ⊥) → Blocked T m page p → ⊥
  not_blocked_held a b (at_guards r h w g) = go r.free
    where
      go : (m (holder_at (m (works_at p))) ≡ 0) ⊎ (m (holder_at (m (works_at p))) ≡ p) → ⊥
      go (inl e) = a e
      go (inr e) = b e

  leaves_changes : CanStep T m page p → (S : Statement) (s : Memory) → next T m page p ≡ S → Leaves T m page (context_of m p) S s → Changes T m page p 1 s page
  unfolding context_of
  leaves_changes r _ _ e (gives w g) = gives_up (at_guards r e w g)
  leaves_changes r _ _ e keeps = nothing (not_blocked_call _ _ _ _ e)

  stepped_reports : CanStep T m page p → (o : Outcome Effect) → Reports T m page (context_of m p) (next T m page p) o → Stepped o
  unfolding context_of
  stepped_reports r _ (went h) = going (record { ready = r; carries = h })
  stepped_reports r _ (waited w l) = stays (waiting r w) (leaves_changes r _ _ refl l)
  stepped_reports r _ (ended e) = over (now r e) (ends_now r e)
  stepped_reports r _ (failed h) = fails (record { ready = r; fails = h })
  stepped_reports r _ strays = astray

  performs_view : CanStep T m page p → Stepped (performs T m page p)
  unfolding performs
  performs_view r = g_need Stepped astray _ _ (stepped_reports r _ (reports T m page (context_of m p) (next T m page p)))

  proceeds_view : Created m p → m (status_at p) ≡ 2 → Stepped (proceeds T m page p)
  unfolding proceeds answers_only
  proceeds_view c s =
      g_need Stepped astray _ _
      (cases (either (eqb (m (holder_at (m (works_at p)))) 0) (eqb (m (holder_at (m (works_at p)))) p))
      (λ e. rw e (performs_view (record { exists = c; started = s; free = free (either_some _ _ e) })))
      (λ e. let n = either_none _ _ e in rw e (stays (held c s (eqb-false _ 0 n.0) (eqb-false _ p n.1)) (nothing (not_blocked_held (eqb-false _ 0 n.0) (eqb-false _ p n.1))))))
    where
      free : (eqb (m (holder_at (m (works_at p)))) 0 ≡ true) ⊎ (eqb (m (holder_at (m (works_at p)))) p ≡ true) → (m (holder_at (m (works_at p))) ≡ 0) ⊎ (m (holder_at (m (works_at p))) ≡ p)
      free (inl h) = inl (eqb-true _ 0 h)
      free (inr h) = inr (eqb-true _ p h)

  exists_view : Created m p → Stepped (exists T m page p)
  unfolding exists answers_only need
  exists_view c =
      cases (eqb (m (status_at p)) 3)
      (λ e. rw e (over (before c (eqb-true _ 3 e)) (ended_before c (eqb-true _ 3 e))))
      (λ e. rw e (cases (eqb (m (status_at p)) 1)
      (λ h. rw h (stays (unstarted c (eqb-true _ 1 h)) (nothing (not_blocked_status (λ z. let y : m (status_at p) ≡ 1 = eqb-true (m (status_at p)) 1 h in omega arith)))))
      (λ h. rw h (cases (eqb (m (status_at p)) 2)
      (λ k. rw k (proceeds_view c (eqb-true _ 2 k)))
      (λ k. rw k astray)))))

  turn_view : m failure_at ≡ 0 → Stepped (turn T m page p)
  unfolding turn answers_only
  turn_view z =
      rw (eq-eqb _ 0 z) (g_need Stepped astray _ _
      (cases (between 1 (m created_at) p)
      (λ e. rw e (exists_view (in_created m p e)))
      (λ e. rw e (missing (record { none = λ c. no_true (sym e ∙ created_in m p c) })))))

  -- ---- a row that holds says what the step comes to

  near_turn : {R : Outcome Effect} → m failure_at ≡ 0 → Created m p → Near R (exists T m page p) → Near R (turn T m page p)
  unfolding turn
  near_turn z c h = rw (eq-eqb _ 0 z) (n_need _ _ _ (rw (created_in m p c) h))

  near_absent : m failure_at ≡ 0 → Absent T m page p → Near (ok (effect 3 m page)) (turn T m page p)
  unfolding turn answers_only
  near_absent z a =
      rw (eq-eqb _ 0 z) (n_need _ _ _
      (cases (between 1 (m created_at) p) (λ e. absurd (a.none (in_created m p e))) (λ e. rw e (same refl))))

  near_proceeds : {R : Outcome Effect} → m (status_at p) ≡ 2 → Near R (proceeds T m page p) → Near R (exists T m page p)
  unfolding exists need
  near_proceeds s h = rw s h

  near_performs : {R : Outcome Effect} → CanStep T m page p → Near R (perform T m page (context_of m p) (next T m page p)) → Near R (exists T m page p)
  unfolding proceeds performs
  near_performs r h = near_proceeds r.started (n_need _ _ _ (n_pick_true _ _ _ _ (free r.free) (n_need _ _ _ h)))
    where
      free : (m (holder_at (m (works_at p))) ≡ 0) ⊎ (m (holder_at (m (works_at p))) ≡ p) → either (eqb (m (holder_at (m (works_at p)))) 0) (eqb (m (holder_at (m (works_at p)))) p) ≡ true
      free (inl e) = either_l _ _ (eq-eqb _ 0 e)
      free (inr e) = either_r _ _ (eq-eqb _ p e)

  module _ (z : m failure_at ≡ 0) where
    near_waits : Waiting T m page p → Replies T m page (context_of m p) 1 (turn T m page p)
    unfolding exists answers_only proceeds
    near_waits (unstarted c e) = record { state = m; near = near_turn z c (rw e (same refl)) }
    near_waits (held c s n q) =
        record { state = m; near = near_turn z c (near_proceeds s (n_need _ _ _ (n_pick_false _ _ _ _ (either_both_false _ _ (ne_eqb _ 0 n) (ne_eqb _ p q)) (same refl)))) }
    near_waits (waiting r w) =
        let g = waits_near T m page (context_of m p) _ w in
        record { state = g.state; near = near_turn z r.exists (near_performs r g.near) }

    near_ends : Ended T m page p → Replies T m page (context_of m p) 2 (turn T m page p)
    unfolding exists answers_only
    near_ends (before c e) = record { state = m; near = near_turn z c (rw e (same refl)) }
    near_ends (now r w) =
        let g = ends_near T m page (context_of m p) _ w in
        record { state = g.state; near = near_turn z r.exists (near_performs r g.near) }

    near_fails : (n : ℕ) → Failing T m page p n → Near (fail n) (turn T m page p)
    near_fails n h = near_turn z h.ready.exists (near_performs h.ready (statement_near T m page (context_of m p) n _ h.fails))

    near_carries : (s d : Memory) → CarriedOut T m page p s d → Near (ok (effect 0 s d)) (turn T m page p)
    near_carries s d h = near_turn z h.ready.exists (near_performs h.ready (carries_near T m page (context_of m p) _ s d h.carries))

    module _ (free : step T m page p ≡ Step.stuck → ⊥) where
      turn_free : turn T m page p ≡ Outcome.stuck → ⊥
      unfolding step settled
      turn_free e = free (rw e)

      answer_of : (n : ℕ) (s d : Memory) → Near (ok (effect n s d)) (turn T m page p) → Answers T m page p n
      unfolding step settled
      answer_of n s d h = record { state = s; devices = d; is = rw (near_is h turn_free) }

      -- a statement that is carried out leaves what its rule says, and nothing else
      pub carried_step : (s d : Memory) → CarriedOut T m page p s d → step T m page p ≡ done 0 s d
      unfolding step settled
      carried_step s d c = rw (near_is (near_carries s d c) turn_free)

      row_answers : (n : ℕ) → Failing T m page p n → Answers T m page p n
      unfolding step settled
      row_answers n h = record { state = update m failure_at n; devices = page; is = rw (near_is (near_fails n h) turn_free) }

      waits_answers : Waiting T m page p → Answers T m page p 1
      waits_answers h = let g = near_waits h in answer_of 1 _ _ g.near

      ends_answers : Ended T m page p → Answers T m page p 2
      ends_answers h = let g = near_ends h in answer_of 2 _ _ g.near

      absent_answers : Absent T m page p → Answers T m page p 3
      absent_answers h = answer_of 3 _ _ (near_absent z h)

      -- one answer a step
      one_answer : (n k : ℕ) → Answers T m page p n → Answers T m page p k → n ≡ k
      one_answer n k a b = go (sym a.is ∙ b.is)
        where
          go : {s d s' d' : Memory} → done n s d ≡ done k s' d' → n ≡ k
          go e = cc

      given_row : (n : ℕ) (s d : Memory) (o : Outcome Effect) → Stepped o → settled m page o ≡ done n s d → Row T m page p n
      unfolding settled
      given_row n s d _ (going c) e = let z0 : 0 ≡ n = cc in rw (← z0) (row0 c)
      given_row n s d _ (stays w c) e = let z0 : 1 ≡ n = cc in rw (← z0) (row1 w)
      given_row n s d _ (over w k) e = let z0 : 2 ≡ n = cc in rw (← z0) (row2 w)
      given_row n s d _ (missing w) e = let z0 : 3 ≡ n = cc in rw (← z0) (row3 w)
      given_row n s d _ (fails {n = k} h) e = let z0 : k ≡ n = cc in row16 (rw z0 at h)
      given_row n s d _ astray e = let z0 : ◌≡◌ {A = ℕ} 0 1 = cc in absurd (omega arith)

      exact_row : (n : ℕ) → Row T m page p n → Answers T m page p n
      exact_row _ (row0 {s = s} {d = d} c) = record { state = s; devices = d; is = carried_step s d c }
      exact_row _ (row1 h) = waits_answers h
      exact_row _ (row2 h) = ends_answers h
      exact_row _ (row3 h) = absent_answers h
      exact_row n (row16 h) = row_answers n h

      changed : (n : ℕ) (s d : Memory) (o : Outcome Effect) → Stepped o → settled m page o ≡ done n s d → Changes T m page p n s d
      unfolding settled
      changed n s d _ (going {s = s'} {d = d'} c) e =
          let a : 0 ≡ n = cc in
          let b : s' ≡ s = cc in
          let g : d' ≡ d = cc in
          rw (← a, ← b, ← g) (carried c)
      changed n s d _ (stays {s = s'} w c) e =
          let a : 1 ≡ n = cc in
          let b : s' ≡ s = cc in
          let g : page ≡ d = cc in
          rw (← a, ← b, ← g) c
      changed n s d _ (over {s = s'} w k) e =
          let a : 2 ≡ n = cc in
          let b : s' ≡ s = cc in
          let g : page ≡ d = cc in
          rw (← a, ← b, ← g) k
      changed n s d _ (missing w) e =
          let a : 3 ≡ n = cc in
          let b : m ≡ s = cc in
          let g : page ≡ d = cc in
          rw (← a, ← b, ← g) absent
      changed n s d _ (fails {n = k} h) e =
          let a : k ≡ n = cc in
          let b : update m failure_at k ≡ s = cc in
          let g : page ≡ d = cc in
          rw (← a, ← b, ← g) (failure_mark h)
      changed n s d _ astray e = let z0 : ◌≡◌ {A = ℕ} 0 1 = cc in absurd (omega arith)

      -- THE ROWS HOLD
      pub rows_hold : RowsHold T m page p
      unfolding step
      rows_hold = record {
        given = λ n a. given_row n a.state a.devices (turn T m page p) (turn_view z) a.is;
        exactly = exact_row;
        only = carried_step;
        apart = λ n k a b. one_answer n k (exact_row n a) (exact_row k b);
        changes = λ n s d e. changed n s d (turn T m page p) (turn_view z) e;
      }

  -- AFTER A FAILURE every step answers the same number and changes nothing
  pub same_failure : (m failure_at ≡ 0 → ⊥) → (step T m page p ≡ Step.stuck → ⊥) → SameFailure T m page p
  unfolding step settled turn answers_only need
  same_failure n free =
      cases (is_failure (m failure_at))
      (λ e. rw (ne_eqb _ 0 n, e))
      (λ e. absurd (free (rw (ne_eqb _ 0 n, e))))
