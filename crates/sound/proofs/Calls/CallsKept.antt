-- What a step does to the calls that have not ended: a call makes one, the end of a block ends the innermost, all others stay (11.3, 12, 13).
-- Assumes nothing.
use Prim.Native.Nat.{ℕ, zero, suc, ◌+◌, ◌-◌, ◌≤◌, ◌<◌}
use mathlib.Core.Path.{◌≡◌, refl, sym, ap, ◌∙◌}
use mathlib.Core.Bool.{Bool, true}
use mathlib.Core.Logic.{◌⊎◌, inl, inr}
use mathlib.Core.List.{List, [], ◌∷◌}
use native.Mathlib.Omega.{arith}
use native.Mathlib.Numerals.{add-one}
use lib.Dec.{eqb, ltb}
use lib.ListN.{length}
use borrow.Author.Tests.{eqb-true, eqb-false, eq-eqb, ne_eqb, leb-true, ltb-true, ltb-false}
use Rattle.basics.specs.Choice.{pick, both, either, between}
use Rattle.basics.specs.Cases.{cases}
use Rattle.basics.proofs.Bools.{both_l, both_r, both_false_l, either_l, either_r}
use Rattle.table.specs.Table.{Table}
use Rattle.table.specs.Entries.{block_count, block_kind, owner}
use Rattle.machine.specs.Memory.{Memory, update, store}
use Rattle.machine.specs.Layout.{location, record_at, status_at, module_at, statement_at, frame_at, top_at, works_at, holder_at, depth_at, created_at, failure_at, caller_frame, called_block, locations}
use Rattle.machine.specs.Marks.{mark, fresh, set_marks}
use Rattle.machine.specs.Outcomes.{stuck, and_then, fail_where, placed, on_place}
use Rattle.machine.specs.Entries.{process_type, type_at, waits, Statement, skip, assign, local_call, process_call, create, start, opener, arm, end_arms, write, block_end, no_statement}
use Rattle.machine.specs.Variables.{frame_words}
use Rattle.machine.specs.Context.{Context, context_of}
use Rattle.machine.specs.Calls.{standing, pushed, frame_marked, popped}
use Rattle.machine.specs.Processes.{on_module, on_process, refers, on_reference, created, started}
use Rattle.machine.specs.Statements.{do_local_call, do_process_call, do_start, perform}
use Rattle.machine.specs.Step.{Step, done, settled, performs, proceeds, exists, turn, step}
use Rattle.machine.proofs.Memories.{update_other}
use Rattle.machine.proofs.MarkLaws.{SameWords, same_words, same_marks}
use Rattle.machine.proofs.Outcomes.{need_holds, need_stuck}
use Rattle.machine.proofs.Tests.{failure_low}
use Rattle.verdict.specs.Accepted.{Accepted}
use Rattle.sound.specs.Ruled.{Ruled}
use Rattle.sound.specs.InUse.{Created, innermost, caller}
use Rattle.sound.specs.Bindings.{BindingsKept}
use Rattle.sound.specs.Conditions.{Selects, AreaFull, Refers, StatementEnds, own_block}
use Rattle.sound.specs.Carried.{ArgumentsPass, Carries, Inside, next_arm, last_end}
use Rattle.sound.specs.Rows.{next, CanStep, CarriedOut, Changes, failure_mark, nothing, gives_up, ended_before, ends_now, absent, carried, SameFailure}
use Rattle.sound.specs.Created.{NewProcess}
use Rattle.sound.specs.OpenCalls.{OpenCall, calls_from, open_calls, outer, calls_by, calls_after, Enters, CallsKept}
use Rattle.sound.proofs.Rule.RuleRecord.{procedure_there, block_there, block-kind, created_in, in_created}
use Rattle.sound.proofs.Rows.ListedFailures.{statement_listed}
use Rattle.sound.proofs.Evaluation.OperandSizes.{place_fits, place_area, gives_long}
use Rattle.sound.proofs.Memory.ProcessRecords.{location_end, unlike_words, made_marks, new_same, new_process, record_after, old_record}
use Rattle.sound.proofs.Steps.WritesInside.{room}
use Rattle.sound.proofs.Values.ModuleVariables.{module_fits}
use Rattle.sound.proofs.RuleKept.Marks.{frame_marks, marks_record}
use Rattle.sound.proofs.RuleKept.Position.{stand_word, stand_depth, stand_frame}
use Rattle.sound.proofs.Calls.CallsListed.{not_created, open_started, open_none}
use Rattle.sound.proofs.Calls.CallEntry.{frame_long, entered_caller, entered_block, passed_short, call_enters}
use Rattle.sound.proofs.Calls.CallRecords.{Alike, alike, alike_record, alike_own, alike_store, alike_same, alike_standing, from_kept, words_calls, alike_calls, all_calls}

-- ---- what a statement that is not stuck has tested

module _ (T : Table) (m page : Memory) (x : Context) where
  local_there : (q c d : ℕ) → (do_local_call T m page x q c d ≡ stuck → ⊥) → q < block_count T
  unfolding do_local_call
  local_there q c d h = procedure_there T q (need_holds _ _ h)

  called_there : (a q c d i τ μ : ℕ) → Selects T m page x a i τ → type_at T τ ≡ process_type μ → (do_process_call T m page x a q c d ≡ stuck → ⊥) → q < block_count T
  unfolding do_process_call on_process on_place and_then placed on_module
  called_there a q c d i τ μ e t h = procedure_there T q (both_l _ _ (need_holds _ _ (rw (e, t) at h)))

  start_refers : (a c d i τ μ : ℕ) → Selects T m page x a i τ → type_at T τ ≡ process_type μ → Refers T m page x i → (do_start T m page x a c d ≡ stuck → ⊥)
      → refers m μ (m i) ≡ true
  unfolding do_start on_process on_place on_reference and_then placed on_module fail_where
  start_refers a c d i τ μ e t n h = need_holds _ _ (rw (e, t, n.set, ne_eqb (m i) 0 n.some) at h)

module _ (T : Table) (m page : Memory) (p : ℕ) where
  either_true : (r : (m (holder_at (m (works_at p))) ≡ 0) ⊎ (m (holder_at (m (works_at p))) ≡ p)) → either (eqb (m (holder_at (m (works_at p)))) 0) (eqb (m (holder_at (m (works_at p)))) p) ≡ true
  either_true (inl e) = either_l _ _ (eq-eqb _ 0 e)
  either_true (inr e) = either_r _ _ (eq-eqb _ p e)

  -- the statement of a process that is free to go on is stuck only where the step is
  statement_free : m failure_at ≡ 0 → CanStep T m page p → (step T m page p ≡ Step.stuck → ⊥) → perform T m page (context_of m p) (next T m page p) ≡ stuck → ⊥
  unfolding step settled turn exists proceeds performs
  statement_free z r h e = h (ap (settled m page) turn_stuck)
    where
      proceeds_stuck : proceeds T m page p ≡ stuck
      proceeds_stuck = need_stuck _ _ (rw (either_true r.free) (need_stuck _ _ e))

      exists_stuck : exists T m page p ≡ stuck
      exists_stuck = let s = r.started in rw (ne_eqb (m (status_at p)) 3 (λ y. omega arith), ne_eqb (m (status_at p)) 1 (λ y. omega arith)) (need_stuck _ _ proceeds_stuck)

      turn_stuck : turn T m page p ≡ stuck
      turn_stuck = rw (eq-eqb (m failure_at) 0 z) (need_stuck _ _ (rw (created_in m p r.exists) exists_stuck))

-- ---- statements

-- the procedure that a call enters, and its first argument
entered_by : Statement → List ℕ
entered_by skip = []
entered_by (assign a b) = []
entered_by (local_call q c d) = q ∷ c ∷ []
entered_by (process_call a q c d) = q ∷ c ∷ []
entered_by (create a) = []
entered_by (start a c d) = []
entered_by (opener k) = []
entered_by (arm g l) = []
entered_by (end_arms l) = []
entered_by (write a b) = []
entered_by block_end = []
entered_by no_statement = []

-- a statement that makes and ends no call
record Plain (S : Statement) : Type 0 where
  same : (t : ℕ) (cs : List OpenCall) → calls_by t S cs ≡ cs
  none : entered_by S ≡ []

inside_plain : (S : Statement) → Inside S → Plain S
unfolding calls_by entered_by
inside_plain _ next_arm = record { same = λ t cs. refl; none = refl }
inside_plain _ last_end = record { same = λ t cs. refl; none = refl }

alike_for : (m s : Memory) (e : ℕ) → Alike m s 0 → Alike m s e
alike_for m s e h = record { count = h.count; words = λ r l g n. h.words r l g (λ z. omega arith) }

-- a process that has made no call
open_bottom : (m : Memory) (p : ℕ) → m (depth_at p) ≡ 0 → open_calls m p ≡ []
unfolding open_calls calls_from
open_bottom m p e =
    cases (both (between 1 (m created_at) p) (eqb (m (status_at p)) 2))
    (λ z. rw (z, e))
    (λ z. rw z)

from_first : (m : Memory) (p d f : ℕ) → calls_from m p (d + 1) f ≡ record { procedure = called_block m p f; frame = f } ∷ calls_from m p d (caller_frame m p f)
unfolding calls_from
from_first m p d f = rw (add-one d) refl

module _ (T : Table) (acc : Accepted T) (m page : Memory) (R : Ruled T m) (p : ℕ) (c : Created m p) (live : m (status_at p) ≡ 2) where
  some : 1 ≤ p
  some = c.least

  most : p ≤ 64
  most = let a = c.most in let b = R.most in omega arith

  record KeptBy (S : Statement) (s : Memory) : Type 0 where
    calls : (r : ℕ) → open_calls s r ≡ pick (eqb r p) (calls_by (m (top_at p)) S (open_calls m r)) (open_calls m r)
    enters : (q c : ℕ) → entered_by S ≡ q ∷ c ∷ [] → Enters T m page p 0 s (m (top_at p)) q c

  no_call : (S : Statement) → entered_by S ≡ [] → (q c : ℕ) → entered_by S ≡ q ∷ c ∷ [] → ⊥
  no_call S e q c h = let y : ◌≡◌ {A = List ℕ} [] (q ∷ c ∷ []) = sym e ∙ h in let z : ◌≡◌ {A = ℕ} 0 1 = cc in absurd (omega arith)

  plain : (S : Statement) (s : Memory) → Plain S → ((r : ℕ) → open_calls s r ≡ open_calls m r) → KeptBy S s
  plain S s h g = record {
    calls = λ r. cases (eqb r p) (λ e. rw (e, h.same (m (top_at p)) (open_calls m r)) (g r)) (λ e. rw e (g r));
    enters = λ q c e. absurd (no_call S h.none q c e);
  }

  -- only its own change
  own_kept : (S : Statement) (s : Memory) → BindingsKept T m s → Alike m s p → open_calls s p ≡ calls_by (m (top_at p)) S (open_calls m p)
      → (r : ℕ) → open_calls s r ≡ pick (eqb r p) (calls_by (m (top_at p)) S (open_calls m r)) (open_calls m r)
  own_kept S s k h g r =
      cases (eqb r p)
      (λ e. rw (e, eqb-true r p e) g)
      (λ e. rw e (alike_calls T m s k R.most p h r (λ l. eqb-false r p e)))

  -- where the process stands
  stood_calls : (s u : Memory) (i f t w d : ℕ) → SameWords (standing s p i f t w d) u → Alike m s 0 → open_calls u p ≡ calls_from u p d f
  stood_calls s u i f t w d y h =
      let x = h.words p some most (λ z. omega (arith, some, z)) in
      let a = (alike_standing m s p i f t w d some (alike_for m s p h)).count in
      let b = c.most in
      let e = marks_record _ u y in
      let e8 = e 1 8 (omega arith) (omega arith) (omega arith) in
      let e7 : u (depth_at p) ≡ d = e p 7 some most (omega arith) ∙ stand_depth s p i f t w d in
      let e3 : u (frame_at p) ≡ f = e p 3 some most (omega arith) ∙ stand_frame s p i f t w d in
      open_started u p (record { least = some; most = omega arith })
      (e p 0 some most (omega arith) ∙ stand_word s p i f t w d 0 (λ z. omega arith) (λ z. omega arith) (λ z. omega arith) (λ z. omega arith) (λ z. omega arith) ∙ x.status ∙ live)
      ∙ rw (e7, e3) refl

  -- its own calls
  own_from : (s : Memory) → BindingsKept T m s → calls_from s p (m (depth_at p)) (m (frame_at p)) ≡ open_calls m p
  own_from s k = from_kept T m s k p _ _ (λ e z. innermost c live z refl) ∙ sym (open_started m p c live)

  -- ---- a call

  module _ (u : Memory) (h : Alike m u 0) (q r i d : ℕ) (ws : List ℕ) (there : q < block_count T) (P : ArgumentsPass T m page (context_of m p) q i d ws)
      (fit : m (top_at p) + 4 + frame_words T q ≤ 256) where
    abbrev after : Memory
    after = frame_marked T m page (context_of m p) (pushed T m page (context_of m p) u q r ws) q ws

    after_marks : SameWords (pushed T m page (context_of m p) u q r ws) after
    after_marks = frame_marks T m page (context_of m p) (pushed T m page (context_of m p) u q r ws) q ws

    short : length ws ≤ frame_words T q
    short = passed_short T acc m page p q i d ws there P

    frame_alike : Alike m (pushed T m page (context_of m p) u q r ws) p
    unfolding pushed context_of
    frame_alike =
        let e = frame_long T m page (context_of m p) q ws short in
        let l = location_end p (m (top_at p)) (4 + frame_words T q) most (omega arith) in
        alike_standing m _ p _ _ _ _ _ some (alike_store m u p (alike_for m u p h) _ _ (omega (arith, e, l)))

    pushed_alike : Alike m after p
    pushed_alike = alike_same m _ p frame_alike after after_marks

    pushed_from : open_calls after p ≡ calls_from after p (m (depth_at p) + 1) (m (top_at p))
    unfolding pushed context_of
    pushed_from =
        let e = frame_long T m page (context_of m p) q ws short in
        let l = location_end p (m (top_at p)) (4 + frame_words T q) most (omega arith) in
        stood_calls _ after _ _ _ _ _ after_marks (alike_store m u 0 h _ _ (omega (arith, e, l)))

    pushed_calls : BindingsKept T m after → open_calls after p ≡ record { procedure = q; frame = m (top_at p) } ∷ open_calls m p
    unfolding context_of
    pushed_calls k =
        pushed_from ∙ from_first after p (m (depth_at p)) (m (top_at p))
        ∙ rw (entered_block T m page p some most u q r ws short fit, entered_caller T m page p some most u q r ws short fit, own_from after k) refl

    -- THE CALL
    call_kept : (S : Statement) → ((cs : List OpenCall) → calls_by (m (top_at p)) S cs ≡ record { procedure = q; frame = m (top_at p) } ∷ cs) → entered_by S ≡ q ∷ i ∷ []
        → BindingsKept T m after → KeptBy S after
    call_kept S e z k = record {
      calls = own_kept S after k pushed_alike (pushed_calls k ∙ sym (e (open_calls m p)));
      enters = entering;
    }
      where
        entering : (q' i' : ℕ) → entered_by S ≡ q' ∷ i' ∷ [] → Enters T m page p 0 after (m (top_at p)) q' i'
        entering q' i' y =
            let w : q ∷ i ∷ [] ≡ q' ∷ i' ∷ [] = sym z ∙ y in
            let a : q ≡ q' = cc in
            let b : i ≡ i' = cc in
            rw (← a, ← b) (call_enters T acc m page p q i d ws there P 0 some most u r fit)

  -- ---- the end of a call

  popped_alike : (u : Memory) (i : ℕ) → Alike m u 0 → Alike m (popped T m page (context_of m p) u i) p
  unfolding popped context_of
  popped_alike u i h = alike_standing m u p _ _ _ _ _ some (alike_for m u p h)

  popped_from : (u : Memory) (i : ℕ) → Alike m u 0 → open_calls (popped T m page (context_of m p) u i) p ≡ calls_from (popped T m page (context_of m p) u i) p (m (depth_at p) - 1) (caller_frame m p (m (frame_at p)))
  unfolding popped context_of
  popped_from u i h = stood_calls u _ _ _ _ _ _ (same_words _) h

  -- without the innermost
  outer_from : (s : Memory) → BindingsKept T m s → (d : ℕ) → m (depth_at p) ≡ d → (d ≡ 0 → ⊥) → calls_from s p (d - 1) (caller_frame m p (m (frame_at p))) ≡ outer (calls_from m p d (m (frame_at p)))
  unfolding calls_from outer
  outer_from s k zero e n = absurd (n refl)
  outer_from s k (suc d) e n =
      let z : suc d - 1 ≡ d = omega arith in
      rw z (from_kept T m s k p d (caller_frame m p (m (frame_at p))) (λ i y. caller (m (frame_at p)) (innermost c live (e ∙ ap suc y) refl) refl))

  pop_kept : (u : Memory) (i : ℕ) → Alike m u 0 → (m (depth_at p) ≡ 0 → ⊥) → BindingsKept T m (popped T m page (context_of m p) u i)
      → KeptBy block_end (popped T m page (context_of m p) u i)
  unfolding calls_by entered_by
  pop_kept u i h n k = record {
    calls = own_kept block_end _ k (popped_alike u i h)
        (popped_from u i h ∙ outer_from _ k (m (depth_at p)) refl n ∙ ap outer (sym (open_started m p c live)));
    enters = λ q c e. absurd (no_call block_end refl q c e);
  }

  -- ---- create and start

  module _ (μ i j : ℕ) (few : m created_at < 64) (area : i < locations) where
    -- the state that create leaves
    abbrev made : Memory
    made =
        update (mark (fresh (update (created m (m created_at + 1) μ) i (m created_at + 1)) (location (m created_at + 1) 0) 256) i 1)
        (statement_at (context_of m p).process) j

    made_same : SameWords (update (update (created m (m created_at + 1) μ) i (m created_at + 1)) (statement_at (context_of m p).process) j) made
    made_same = made_marks m (m created_at + 1) μ i j (context_of m p).process

    new : NewProcess made (m created_at + 1) μ i
    new =
        new_same _ made made_same (m created_at + 1) μ i (omega arith) (omega arith) area
        (new_process m (m created_at + 1) μ i j (context_of m p).process (omega arith) (omega arith) area)

    old : (r k : ℕ) → Created m r → k < 20 → (k ≡ 2 → ⊥) → (k ≡ 8 → ⊥) → made (record_at r k) ≡ m (record_at r k)
    old r k h l a b =
        let y = h.most in
        marks_record _ made made_same r k h.least (omega arith) l
        ∙ record_after m (m created_at + 1) μ i j (context_of m p).process (omega arith) (omega arith) area r k (omega arith)
        ∙ old_record m (m created_at + 1) μ i j (context_of m p).process (omega arith) (omega arith) area r k h l b

    create_kept : BindingsKept T m made → (r : ℕ) → open_calls made r ≡ open_calls m r
    create_kept k r =
        let l = new.last in
        let u = new.unstarted in
        cases (between 1 (m created_at) r)
        (λ e.
        let h = in_created m r e in
        let a = h.most in
        words_calls T m made k r h (record { least = h.least; most = omega arith }) (record {
          status = old r 0 h (omega arith) (λ z. omega arith) (λ z. omega arith);
          frame = old r 3 h (omega arith) (λ z. omega arith) (λ z. omega arith);
          depth = old r 7 h (omega arith) (λ z. omega arith) (λ z. omega arith);
        }))
        (λ e.
        open_none made r (λ h y. let a = h.least in let b = h.most in latest r u y
        (λ z. not_created m r e (record { least = a; most = z })) (omega arith))
        ∙ sym (open_none m r (λ h y. not_created m r e h)))
      where
        latest : (r : ℕ) → made (status_at (m created_at + 1)) ≡ 1 → made (status_at r) ≡ 2 → (r ≤ m created_at → ⊥) → r ≤ m created_at + 1 → ⊥
        latest r u y n l =
            let z : r ≡ m created_at + 1 = omega arith in
            let v : made (status_at (m created_at + 1)) ≡ 2 = rw z at y in
            omega arith

  module _ (r μ j : ℕ) (ws : List ℕ) (one : 1 ≤ r) (last : r ≤ 64) (unstarted : m (status_at r) ≡ 1) (long : length ws ≤ 256) where
    -- the state that start leaves
    abbrev running : Memory
    running = update (mark (started T m r μ ws) (location r 0) (length ws)) (statement_at (context_of m p).process) j

    running_same : SameWords (started T m r μ ws) (mark (started T m r μ ws) (location r 0) (length ws))
    running_same = same_marks _ _ (location r 0) (length ws) true (same_words _)

    started_alike : Alike m (started T m r μ ws) r
    unfolding started
    started_alike =
        let l = location_end r 0 (length ws) last (omega arith) in
        alike_standing m _ r _ _ _ _ _ one (alike_own m _ r (alike_own m _ r (alike_store m m r (alike m r) (location r 0) ws l)
        0 2 one (omega arith) (λ z. omega arith)) 6 r one (omega arith) (λ z. omega arith))

    running_alike : Alike m running r
    running_alike = alike_record m _ r (alike_same m _ r started_alike _ running_same) (context_of m p).process 2 j (omega arith)

    started_bottom : started T m r μ ws (depth_at r) ≡ 0
    unfolding started
    started_bottom = stand_depth _ r _ _ _ _ _

    running_bottom : running (depth_at r) ≡ 0
    running_bottom =
        update_other _ _ j _ (unlike_words r (context_of m p).process 7 2 (omega arith)) ∙ marks_record _ _ running_same r 7 one last (omega arith) ∙ started_bottom

    start_kept : BindingsKept T m running → (q : ℕ) → open_calls running q ≡ open_calls m q
    start_kept k q =
        cases (eqb q r)
        (λ e. rw (eqb-true q r e) (open_bottom running r running_bottom ∙ sym (open_none m r (λ h y. omega arith))))
        (λ e. alike_calls T m running k R.most r running_alike q (λ l. eqb-false q r e))

  -- what start refers to, and passes
  started_some : (μ r : ℕ) → refers m μ r ≡ true → Created m r × (m (module_at r) ≡ μ)
  unfolding refers
  started_some μ r e =
      let a = leb-true 2 r (both_l _ _ (both_l _ _ e)) in
      (record { least = omega arith; most = leb-true r (m created_at) (both_r _ _ (both_l _ _ e)) }, eqb-true _ μ (both_r _ _ e))

  passed_few : (μ r i d : ℕ) (ws : List ℕ) → refers m μ r ≡ true → ArgumentsPass T m page (context_of m p) μ i d ws → length ws ≤ 256
  passed_few μ r i d ws e P =
      let h = started_some μ r e in
      let b = h.0.least in
      let x = R.process r b h.0.most in
      let t : μ < block_count T = rw h.1 at (block_there T acc m r x) in
      let k : block_kind T μ ≤ 1 = rw h.1 at (block-kind T acc m r x) in
      let f = module_fits T acc μ t k in
      let w = passed_short T acc m page p μ i d ws t P in
      omega arith

  -- ---- STATEMENT BY STATEMENT

  fits_area : (q : ℕ) → (AreaFull T m page (context_of m p) q → ⊥) → m (top_at p) + 4 + frame_words T q ≤ 256
  unfolding context_of
  fits_area q h = cases (ltb 256 (m (top_at p) + 4 + frame_words T q)) (λ e. absurd (h (ltb-true 256 _ e))) (λ e. ltb-false 256 _ e)

  goes_alike : (s : Memory) (j : ℕ) → Alike m s 0 → Alike m (update s (statement_at (context_of m p).process) j) 0
  goes_alike s j h = alike_record m s 0 h (context_of m p).process 2 j (omega arith)

  marks_alike : (s : Memory) (a n : ℕ) (v : Bool) → Alike m s 0 → Alike m (set_marks s a n v) 0
  marks_alike s a n v h = alike_same m s 0 h _ (same_marks s s a n v (same_words s))

  holder_alike : (q v : ℕ) → Alike m (update m (holder_at q) v) 0
  holder_alike q v = alike_record m m 0 (alike m 0) q 6 v (omega arith)

  goes_kept : (S : Statement) (s : Memory) (j : ℕ) → Plain S → Alike m s 0 → BindingsKept T m (update s (statement_at (context_of m p).process) j)
      → KeptBy S (update s (statement_at (context_of m p).process) j)
  goes_kept S s j h a k = plain S _ h (all_calls T m _ k R.most (goes_alike s j a))

  by_carries : (S : Statement) (s d : Memory) → Carries T m page (context_of m p) S s d → (perform T m page (context_of m p) S ≡ stuck → ⊥) → BindingsKept T m s → KeptBy S s
  unfolding perform calls_by entered_by context_of
  by_carries _ _ _ Carries.skips n k = goes_kept skip m _ (record { same = λ t cs. refl; none = refl }) (alike m 0) k
  by_carries _ _ _ (Carries.assigns {a = a} {b = b} {i = i} {τ = τ} {κ = κ} {ws = ws} e y t) n k =
      goes_kept (assign a b) (mark (store m i ws) i (length ws)) _ (record { same = λ t cs. refl; none = refl })
      (marks_alike (store m i ws) i (length ws) true
      (alike_store m m 0 (alike m 0) i ws (room T i τ κ ws (place_fits T m page (context_of m p) a i τ e) (gives_long T m page (context_of m p) b κ ws y) t))) k
  by_carries _ _ _ (Carries.calls_local {q = q} {c = i} {d = d} {ws = ws} P g f) n k =
      call_kept m (alike m 0) q (context_of m p).works i d ws (local_there T m page (context_of m p) q i d n) P (fits_area q f) (local_call q i d) (λ cs. refl) refl k
  by_carries _ _ _ (Carries.calls_process {a = a} {q = q} {c = i} {d = d} {i = j} {τ = τ} {ws = ws} e t z v P f) n k =
      call_kept (update m (holder_at (m j)) (context_of m p).process) (holder_alike (m j) _) q (m j) i d ws (called_there T m page (context_of m p) a q i d j τ (owner T q) e t n) P (fits_area q f)
      (process_call a q i d) (λ cs. refl) refl k
  by_carries _ _ _ (Carries.creates {a = a} {i = i} {τ = τ} {μ = μ} e t z) n k =
      let u = R.most in
      plain (create a) _ (record { same = λ t cs. refl; none = refl }) (create_kept μ i _ (omega arith) (place_area T m page (context_of m p) a i τ e) k)
  by_carries _ _ _ (Carries.starts {a = a} {c = i} {d = d} {i = j} {τ = τ} {μ = μ} {ws = ws} e t z v P) n k =
      let h = start_refers T m page (context_of m p) a i d j τ μ e t z n in
      let x = (started_some μ (m j) h).0 in
      let l = x.most in
      let u = R.most in
      plain (start a i d) _ (record { same = λ t cs. refl; none = refl }) (start_kept (m j) μ _ ws x.least (omega arith) v (passed_few μ (m j) i d ws h P) k)
  by_carries _ _ _ (Carries.enters {k = o} {j = j} f) n k =
      goes_kept (opener o) _ _ (record { same = λ t cs. refl; none = refl }) (cases (waits o) (λ e. rw e (holder_alike _ _)) (λ e. rw e (alike m 0))) k
  by_carries _ _ _ (Carries.passes {k = o} w f l) n k = goes_kept (opener o) m _ (record { same = λ t cs. refl; none = refl }) (alike m 0) k
  by_carries S _ _ (Carries.leaves i l o w) n k = goes_kept S m _ (inside_plain S i) (alike m 0) k
  by_carries S _ _ (Carries.again i l o w) n k = goes_kept S m _ (inside_plain S i) (alike m 0) k
  by_carries _ _ _ (Carries.writes {a = a} {b = b} y v e) n k = goes_kept (write a b) m _ (record { same = λ t cs. refl; none = refl }) (alike m 0) k
  by_carries _ _ _ (Carries.returns_local z e) n k = pop_kept m _ (alike m 0) z k
  by_carries _ _ _ (Carries.returns_process z e) n k = pop_kept _ _ (holder_alike _ 0) z k

-- ---- steps

module _ (T : Table) (acc : Accepted T) (m page : Memory) (R : Ruled T m) (p : ℕ) where
  -- another answer than 0
  other_step : (n : ℕ) (s : Memory) → (n ≡ 0 → ⊥) → ((r : ℕ) → open_calls s r ≡ open_calls m r) → CallsKept T m page p n s
  unfolding calls_after
  other_step n s e h = record {
    calls = λ r. rw (both_false_l (eqb n 0) (eqb r p) (ne_eqb n 0 e)) (h r);
    local = λ q c d z y. absurd (e z);
    process = λ a q c d z y. absurd (e z);
  }

  carried_step : (s d : Memory) → m failure_at ≡ 0 → (step T m page p ≡ Step.stuck → ⊥) → CarriedOut T m page p s d → BindingsKept T m s → CallsKept T m page p 0 s
  unfolding calls_after both entered_by
  carried_step s d z free h k =
      let g = h.ready in
      let b = by_carries T acc m page R p g.exists g.started (next T m page p) s d h.carries (statement_free T m page p z g free) k in
      record {
        calls = b.calls;
        local = λ q c i z y. b.enters q c (ap entered_by y);
        process = λ a q c i z y. b.enters q c (ap entered_by y);
      }

  ended_calls : CanStep T m page p → StatementEnds T m page (context_of m p) (next T m page p) → BindingsKept T m (update (update m (status_at p) 3) (holder_at p) 0)
      → (r : ℕ) → open_calls (update (update m (status_at p) 3) (holder_at p) 0) r ≡ open_calls m r
  unfolding context_of
  ended_calls g h k r =
      let l = g.exists.least in
      cases (eqb r p)
      (λ e. rw (eqb-true r p e) (open_bottom _ p (update_other _ _ 0 _ (unlike_words p p 7 6 (omega arith)) ∙ update_other m _ 3 _ (unlike_words p p 7 0 (omega arith)) ∙ bottom h) ∙ sym (open_bottom m p (bottom h))))
      (λ e. alike_calls T m _ k R.most p (alike_own m _ p (alike_own m m p (alike m p) 0 3 l (omega arith) (λ z. omega arith)) 6 0 l (omega arith) (λ z. omega arith)) r (λ i. eqb-false r p e))
    where
      bottom : {S : Statement} → StatementEnds T m page (context_of m p) S → m (depth_at p) ≡ 0
      bottom (own_block e) = e

  changes_calls : (n : ℕ) (s d : Memory) → m failure_at ≡ 0 → (step T m page p ≡ Step.stuck → ⊥) → Changes T m page p n s d → BindingsKept T m s → CallsKept T m page p n s
  changes_calls n _ _ z free (failure_mark h) k =
      let l = failure_low n (statement_listed T m page (context_of m p) n (next T m page p) h.fails) in
      other_step n _ (λ y. omega arith) (all_calls T m _ k R.most (alike_record m m 0 (alike m 0) 1 9 n (omega arith)))
  changes_calls _ _ _ z free (nothing h) k = other_step 1 m (λ y. omega arith) (λ r. refl)
  changes_calls _ _ _ z free (gives_up h) k = other_step 1 _ (λ y. omega arith) (all_calls T m _ k R.most (alike_record m m 0 (alike m 0) (m (works_at p)) 6 0 (omega arith)))
  changes_calls _ _ _ z free (ended_before c e) k = other_step 2 m (λ y. omega arith) (λ r. refl)
  changes_calls _ _ _ z free (ends_now g h) k = other_step 2 _ (λ y. omega arith) (ended_calls g h k)
  changes_calls _ _ _ z free absent k = other_step 3 m (λ y. omega arith) (λ r. refl)
  changes_calls _ s d z free (carried h) k = carried_step s d z free h k

  -- THE STEP: of a run that has not failed as its row says, of one that has failed nothing
  pub step_calls : (n : ℕ) (s d : Memory) → step T m page p ≡ done n s d → (step T m page p ≡ Step.stuck → ⊥) → (m failure_at ≡ 0 → Changes T m page p n s d) → ((m failure_at ≡ 0 → ⊥) → SameFailure T m page p)
      → BindingsKept T m s → CallsKept T m page p n s
  step_calls n s d e free row failed k =
      cases (eqb (m failure_at) 0)
      (λ z. let y = eqb-true _ 0 z in changes_calls n s d y free (row y) k)
      (λ z. let y = eqb-false _ 0 z in same_calls (sym e ∙ failed y) y)
    where
      same_calls : done n s d ≡ done (m failure_at) m page → (m failure_at ≡ 0 → ⊥) → CallsKept T m page p n s
      same_calls q y =
          let a : n ≡ m failure_at = cc in
          let b : s ≡ m = cc in
          other_step n s (λ z. y (sym a ∙ z)) (λ r. ap (λ (u : Memory). open_calls u r) b)
