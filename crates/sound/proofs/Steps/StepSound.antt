-- THE STEP is sound: it is not stuck, and leaves a state that meets the rule. Assumes nothing.
use Prim.Native.Nat.{ℕ, zero, suc, ◌+◌, ◌-◌, ◌≤◌, ◌<◌}
use mathlib.Core.Path.{◌≡◌, refl, sym, ◌∙◌}
use mathlib.Core.Bool.{Bool, true}
use mathlib.Core.List.{List}
use native.Mathlib.Omega.{arith}
use lib.ListN.{length, get_or, replicate}
use lib.Dec.{eqb}
use borrow.Author.Tests.{eqb-true, eqb-false, leb-true, le-ltb, le-leb, lt-ltb, eq-eqb}
use Rattle.basics.specs.Choice.{either, between}
use Rattle.basics.specs.Cases.{cases}
use Rattle.basics.proofs.Bools.{both_l, both_r, either_case}
use Rattle.table.specs.Table.{Table}
use Rattle.table.specs.Entries.{block_count, type_kind, type_p, block_kind, owner, first_var, params, first_stmt}
use Rattle.numbers.proofs.TypePromise.{process_module}
use Rattle.scopes.specs.Scopes.{scoped}
use Rattle.sizes.specs.Sizes.{module_words}
use Rattle.sizes.proofs.Promise.{module_most}
use Rattle.machine.specs.Memory.{Memory, update, store}
use Rattle.machine.specs.Layout.{location, status_at, module_at, statement_at, frame_at, top_at, works_at, holder_at, depth_at, created_at, failure_at}
use Rattle.machine.specs.Marks.{mark, fresh}
use Rattle.machine.specs.Outcomes.{Outcome, ok, fail, need, fail_where, is_failure}
use Rattle.machine.specs.Entries.{local_call, process_call, stmt_at}
use Rattle.machine.specs.Variables.{frame_words}
use Rattle.machine.specs.Processes.{refers, created, started}
use Rattle.machine.specs.Context.{context_of, block_of}
use Rattle.machine.specs.Calls.{frame, top_after, pushed, frame_marked, call, return}
use Rattle.machine.specs.Statements.{Effect, effect, perform}
use Rattle.machine.specs.Step.{settled, answers_only, proceeds, exists, turn, step}
use Rattle.machine.specs.Step as steps
use Rattle.machine.specs.Rule.{lies_in, rule}
use Rattle.machine.proofs.Tests.{range_low, range_high, range_i, failure_byte}
use Rattle.machine.proofs.Entries.{at_process}
use Rattle.machine.proofs.MarkLaws.{SameWords, same_words, same_marks, same_update}
use Rattle.verdict.specs.Accepted.{Accepted}
use Rattle.sound.specs.Claims.{PlaceLaws, Started}
use Rattle.sound.specs.Answers.{Small, Listed, regular, failure, Sound}
use Rattle.sound.specs.Ruled.{Ruled, CallOutcome}
use Rattle.sound.specs.Ruled as called
use Rattle.sound.specs.Reached.{WordTable}
use Rattle.sound.specs.Evaluated.{SmallWords, Live, Pushable, CannotWait, Performed, goes, holds-on, gives_up, assigns, calls, serves, waits, creates, starts, writes, ends, returns, fails}
use Rattle.sound.proofs.Rule.RuleRecord.{ruled, stands, contexts}
use Rattle.sound.proofs.Memory.Writes.{update_small, store_small}
use Rattle.sound.proofs.RuleKept.Marks.{marks_small, frame_marks_small, marks_rule}
use Rattle.sound.proofs.RuleKept.Position.{stand_small}
use Rattle.sound.proofs.Rule.Chains.{created_low, created_high, created_i}
use Rattle.sound.proofs.RuleKept.RecordWord.{goto_rule, fail_rule}
use Rattle.sound.proofs.RuleKept.Holders.{end_rule}
use Rattle.sound.proofs.RuleKept.Return.{return_rule}
use Rattle.sound.proofs.RuleKept.AssignEnterWait.{assign_rule, enter_rule, wait_rule}
use Rattle.sound.proofs.RuleKept.Call.{local_call_rule, process_call_rule}
use Rattle.sound.proofs.RuleKept.Create.{create_rule, created_small, created_refers}
use Rattle.sound.proofs.RuleKept.Start.{start_rule}
use Rattle.sound.proofs.Evaluation.NodeTypes.{declared_small}
use Rattle.sound.proofs.Values.OneWord.{reference_value}
use Rattle.sound.proofs.Values.PlaceLaws.{place_laws}
use Rattle.sound.proofs.Evaluation.Arguments.{small_append, small_cons, bound_small}
use Rattle.sound.proofs.Evaluation.StructuredStatements.{lies_small}
use Rattle.sound.proofs.Evaluation.Claims.{fills, performed}

-- an outcome that leaves a state which meets the rule, or a listed failure
data Kept (T : Table) : Outcome Effect → Type 0 where
  kept : (a : ℕ) (n d : Memory) → Listed a → rule T n ≡ true → Small n → Small d → Kept T (ok (effect a n d))
  failed : (n : ℕ) → is_failure n ≡ true → Kept T (fail n)

zeros_small : (n : ℕ) → SmallWords (replicate n 0)
zeros_small n = record { words = go n }
  where
    go : (n i : ℕ) → get_or (replicate n 0) i 0 < 65536
    go zero i = omega arith
    go (suc n) zero = omega arith
    go (suc n) (suc i) = go n i

entered : (T : Table) (o : Outcome Memory) (n : Memory) → CallOutcome T o → o ≡ ok n → rule T n ≡ true
entered T _ n (called.enters s h) e = let z : s ≡ n = cc in rw z at h
entered T _ n called.full e = let z : ◌≡◌ {A = ℕ} 0 1 = cc in absurd (omega arith)

module _ (T : Table) (acc : Accepted T) (inner : scoped T ≡ true) (L : PlaceLaws T) (W : WordTable T) (m page : Memory) (p : ℕ) (S : Started T m p) (ms : Small m) (ps : Small page) where
  R : Ruled T m
  R = ruled T m S.ruled

  some : 1 ≤ p
  some = created_low m p S.created

  made : p ≤ m created_at
  made = created_high m p S.created

  process_small : p < 65536
  process_small = let x = R.most in let y = made in omega arith

  -- a pushed frame
  module _ (q : ℕ) (ws : List ℕ) (P : Pushable T m page p q ws) where
    call_is : (s : Memory) (r : ℕ) → call T m page (context_of m p) s q r ws ≡ ok (frame_marked T m page (context_of m p) (pushed T m page (context_of m p) s q r ws) q ws)
    unfolding call need fail_where context_of
    call_is s r = rw (le-leb (length ws) (frame_words T q) P.long, le-ltb 256 (top_after T m page (context_of m p) q) P.room, lt-ltb (m (depth_at p)) 64 P.deep)

    frame_small : SmallWords (frame T m page (context_of m p) q ws)
    unfolding frame context_of
    frame_small =
        let l = P.there in
        let k = W.counts 3 in
        small_cons (m (frame_at p)) _ (ms.small (frame_at p))
        (small_cons (m (statement_at p)) _ (ms.small (statement_at p))
        (small_cons (m (works_at p)) _ (ms.small (works_at p))
        (small_cons q _ (omega arith)
        (small_append ws _ (bound_small T m p (params T q) (first_var T q) ws P.bound) (zeros_small (frame_words T q - length ws))))))

    pushed_small : (s : Memory) (r : ℕ) → Small s → r < 65536 → Small (frame_marked T m page (context_of m p) (pushed T m page (context_of m p) s q r ws) q ws)
    unfolding pushed context_of
    pushed_small s r v l =
        let t = P.room in
        let d = P.deep in
        frame_marks_small T m page (context_of m p) (pushed T m page (context_of m p) s q r ws) q ws
        (stand_small _ p (first_stmt T q) (m (top_at p)) (top_after T m page (context_of m p) q) r (m (depth_at p) + 1)
        (store_small s (location p (m (top_at p))) (frame T m page (context_of m p) q ws) v (λ k g. frame_small.words k))
        (W.cells 3 q 5) (ms.small (top_at p)) (omega arith) l (omega arith))

  -- a process that is referred to
  module _ (μ r : ℕ) (e : refers m μ r ≡ true) where
    refers_two : 2 ≤ r
    unfolding refers
    refers_two = leb-true 2 r (both_l _ _ (both_l _ _ e))

    refers_made : r ≤ m created_at
    unfolding refers
    refers_made = leb-true r (m created_at) (both_r _ _ (both_l _ _ e))

    refers_module : m (module_at r) ≡ μ
    unfolding refers
    refers_module = eqb-true (m (module_at r)) μ (both_r _ _ e)

    refers_small : r < 65536
    refers_small = let x = R.most in let y = refers_made in omega arith

  -- calls
  call_kept : (q : ℕ) (ws : List ℕ) (c n : ℕ) → stmt_at T (m (statement_at p)) ≡ local_call q c n → owner T q ≡ owner T (block_of m p) → (P : Pushable T m page p q ws) → Kept T (ok (effect 0 (frame_marked T m page (context_of m p) (pushed T m page (context_of m p) m q (m (works_at p)) ws) q ws) page))
  call_kept q ws c n is own P =
      let k = stands T acc m p some made (R.process p some made) S.started in
      kept 0 _ page (regular (omega arith))
      (entered T _ _ (local_call_rule T acc L m page p S q ws (fills T m p q ws P.bound) P.there P.procedure P.calling c n is (own ∙ sym k.owned)) (call_is q ws P m (m (works_at p))))
      (pushed_small q ws P m (m (works_at p)) ms (ms.small (works_at p))) ps

  serve_kept : (r q : ℕ) (ws : List ℕ) (i c n : ℕ) → stmt_at T (m (statement_at p)) ≡ process_call i q c n → (m (status_at r) ≡ 1 → ⊥) → m (holder_at r) ≡ 0 → refers m (owner T q) r ≡ true → (P : Pushable T m page p q ws) → Kept T (ok (effect 0 (frame_marked T m page (context_of m p) (pushed T m page (context_of m p) (update m (holder_at r) p) q r ws) q ws) page))
  serve_kept r q ws i c n is begun idle e P =
      let two = refers_two (owner T q) r e in
      kept 0 _ page (regular (omega arith))
      (entered T _ _ (process_call_rule T acc L m page p S q ws (fills T m p q ws P.bound) P.there P.procedure P.calling i c n is r (omega arith) (refers_made (owner T q) r e) idle begun (sym (refers_module (owner T q) r e))) (call_is q ws P (update m (holder_at r) p) r))
      (pushed_small q ws P (update m (holder_at r) p) r (update_small m (holder_at r) p ms process_small) (refers_small (owner T q) r e)) ps

  -- the next statement, from a state with other marks
  goes_on_rule : (s u : Memory) → SameWords s u → rule T (update s (statement_at p) (m (statement_at p) + 1)) ≡ true → rule T (update u (statement_at p) (m (statement_at p) + 1)) ≡ true
  goes_on_rule s u h e = marks_rule T acc L _ _ (same_update s u (statement_at p) (m (statement_at p) + 1) h) e

  goes_on_small : (u : Memory) → lies_in T (block_of m p) (m (statement_at p) + 1) ≡ true → Small u → Small (update u (statement_at p) (m (statement_at p) + 1))
  goes_on_small u on h = update_small u (statement_at p) (m (statement_at p) + 1) h (lies_small T W (block_of m p) (m (statement_at p) + 1) on)

  -- creation and start
  create_kept : (τ a : ℕ) → CannotWait T m p → lies_in T (block_of m p) (m (statement_at p) + 1) ≡ true → Live T m p τ a → type_kind T τ ≡ 3 → m created_at < 64
      → Kept T (ok (effect 0 (update (mark (fresh (update (created m (m created_at + 1) (type_p T τ)) a (m created_at + 1)) (location (m created_at + 1) 0) 256) a 1) (statement_at p) (m (statement_at p) + 1)) page))
  create_kept τ a y on l k room =
      let μ = process_module T acc.numbers τ l.type k in
      let n : ℕ = m created_at + 1 in
      let o = R.some in
      let s : Memory = update (created m n (type_p T τ)) a n in
      kept 0 _ page (regular (omega arith))
      (goes_on_rule s _ (same_marks s _ a 1 true (same_marks s s (location n 0) 256 _ (same_words s)))
      (create_rule T acc L m p S y (type_p T τ) τ a (m (statement_at p) + 1) room μ.0 μ.1 l.alive (reference_value T (created m n (type_p T τ)) n τ (type_p T τ) (at_process T τ k) (created_refers m n (type_p T τ) (omega arith) (omega arith))) on))
      (goes_on_small _ on (marks_small _ _ _ _ (marks_small _ _ _ _ (update_small _ a n (created_small m n (type_p T τ) (omega arith) (omega arith) ms (declared_small T W τ 1)) (omega arith))))) ps

  started_small : (r μ : ℕ) (ws : List ℕ) → refers m μ r ≡ true → μ < block_count T → block_kind T μ ≡ 1 → SmallWords ws → Small (started T m r μ ws)
  unfolding started
  started_small r μ ws e there kind w =
      let h = module_most T acc.sizes μ there (omega arith) in
      let s = refers_small μ r e in
      stand_small _ r (first_stmt T μ) 0 (module_words T μ) r 0
      (update_small _ (holder_at r) r (update_small _ (status_at r) 2 (store_small m (location r 0) ws ms (λ k g. w.words k)) (omega arith)) s)
      (W.cells 3 μ 5) (omega arith) (omega arith) s (omega arith)

  return_kept : (n : Memory) → CannotWait T m p → (m (depth_at p) ≡ 0 → ⊥) → return T m page (context_of m p) ≡ ok n → Small n → Kept T (ok (effect 0 n page))
  return_kept n y d e v =
      let z : m (depth_at p) ≡ suc (m (depth_at p) - 1) = omega arith in
      let r = return_rule T acc L m page p S y (m (depth_at p) - 1) z in
      let i = r.is in
      let q : r.state ≡ n = cc in
      kept 0 n page (regular (omega arith)) (rw q at r.ruled) v ps

  -- EACH WAY TO GO ON keeps the rule, where no other process holds what it works on
  performed_kept : ((q : ℕ) → 1 ≤ q → m (holder_at (m (works_at p))) ≡ q → q ≡ p) → (o : Outcome Effect) → Performed T m page p o → Kept T o
  performed_kept alone _ (goes c y l) = kept 0 _ page (regular (omega arith)) (goto_rule T acc L m p c S y l) (update_small m (statement_at p) c ms (lies_small T W (block_of m p) c l)) ps
  performed_kept alone _ (holds-on c l) =
      kept 0 _ page (regular (omega arith)) (enter_rule T acc L m p S alone c l)
      (update_small _ (statement_at p) c (update_small m (holder_at (m (works_at p))) p ms process_small) (lies_small T W (block_of m p) c l)) ps
  performed_kept alone _ (gives_up y) = kept 1 _ page (regular (omega arith)) (wait_rule T acc L m p S alone y) (update_small m (holder_at (m (works_at p))) 0 ms (omega arith)) ps
  performed_kept alone _ (assigns τ a ws y on l v w) =
      kept 0 _ page (regular (omega arith))
      (goes_on_rule (store m a ws) _ (same_marks _ _ a (length ws) true (same_words _)) (assign_rule T acc L m p S τ a (m (statement_at p) + 1) ws y l.alive v on))
      (goes_on_small _ on (marks_small _ _ _ _ (store_small m a ws ms (λ k g. w.words k)))) ps
  performed_kept alone _ (calls q ws {c} {n} is own P) = call_kept q ws c n is own P
  performed_kept alone _ (serves r q ws {i} {c} {n} is e t h P) = serve_kept r q ws i c n is t h e P
  performed_kept alone _ waits = kept 1 m page (regular (omega arith)) S.ruled ms ps
  performed_kept alone _ (creates τ a y on l k room) = create_kept τ a y on l k room
  performed_kept alone _ (starts r μ ws y on e t there kind b len) =
      kept 0 _ page (regular (omega arith))
      (goes_on_rule (started T m r μ ws) _ (same_marks _ _ (location r 0) (length ws) true (same_words _)) (start_rule T acc L m p S y r μ (m (statement_at p) + 1) ws e t (fills T m p μ ws b) on))
      (goes_on_small _ on (marks_small _ _ _ _ (started_small r μ ws e there kind (bound_small T m p (params T μ) (first_var T μ) ws b)))) ps
  performed_kept alone _ (writes a v n on x y d) =
      kept 0 _ _ (regular (omega arith)) (goto_rule T acc L m p (m (statement_at p) + 1) S n on)
      (goes_on_small m on ms) (update_small page _ v ps y)
  performed_kept alone _ (ends y d) =
      kept 2 _ page (regular (omega arith)) (end_rule T acc L m p S y)
      (update_small _ (holder_at p) 0 (update_small m (status_at p) 3 ms (omega arith)) (omega arith)) ps
  performed_kept alone _ (returns n y d e v) = return_kept n y d e v
  performed_kept alone _ (fails n l) = failed n l

  performs_kept : ((q : ℕ) → 1 ≤ q → m (holder_at (m (works_at p))) ≡ q → q ≡ p) → Kept T (perform T m page (context_of m p) (stmt_at T (m (statement_at p))))
  performs_kept alone = performed_kept alone _ (performed T acc inner L W m page p S ms ps)

module _ (T : Table) (acc : Accepted T) (inner : scoped T ≡ true) (L : PlaceLaws T) (W : WordTable T) (m page : Memory) (p : ℕ) (rm : rule T m ≡ true) (ms : Small m) (ps : Small page) where
  Rm : Ruled T m
  Rm = ruled T m rm

  answers_kept : (a : ℕ) → Listed a → Kept T (answers_only T m page p a)
  unfolding answers_only
  answers_kept a l = kept a m page l rm ms ps

  needs : (b : Bool) (o : Outcome Effect) → b ≡ true → Kept T o → Kept T (need b o)
  unfolding need
  needs b o e h = rw e h

  -- a process goes on where it holds what it works on, or nobody does
  alone_of : either (eqb (m (holder_at (m (works_at p)))) 0) (eqb (m (holder_at (m (works_at p)))) p) ≡ true → (q : ℕ) → 1 ≤ q → m (holder_at (m (works_at p))) ≡ q → q ≡ p
  alone_of e q l z =
      either_case _ _ e
      (λ h. let x = eqb-true (m (holder_at (m (works_at p)))) 0 h in absurd (omega arith))
      (λ h. sym z ∙ eqb-true (m (holder_at (m (works_at p)))) p h)

  proceeds_kept : Started T m p → Kept T (proceeds T m page p)
  unfolding proceeds steps.performs context_of
  proceeds_kept S =
      let a = created_low m p S.created in
      let b = created_high m p S.created in
      let k = stands T acc m p a b (Rm.process p a b) S.started in
      needs _ _ (range_i 1 (m created_at) (m (works_at p)) k.some_works k.works)
      (cases (either (eqb (m (holder_at (m (works_at p)))) 0) (eqb (m (holder_at (m (works_at p)))) p))
      (λ e. rw e (needs _ _ (contexts T acc m p a b (Rm.process p a b) S.started) (performs_kept T acc inner L W m page p S ms ps (alone_of e))))
      (λ e. rw e (answers_kept 1 (regular (omega arith)))))

  exists_kept : 1 ≤ p → p ≤ m created_at → Kept T (exists T m page p)
  unfolding exists
  exists_kept a b =
      let r = Rm.process p a b in
      let low = r.low in
      let high = r.high in
      cases (eqb (m (status_at p)) 3) (λ e. rw e (answers_kept 2 (regular (omega arith))))
      (λ e. cases (eqb (m (status_at p)) 1) (λ f. rw (e, f) (answers_kept 1 (regular (omega arith))))
      (λ f.
      let two : m (status_at p) ≡ 2 = omega (arith, eqb-false (m (status_at p)) 3 e, eqb-false (m (status_at p)) 1 f) in
      rw (e, f)
      (needs _ _ (eq-eqb (m (status_at p)) 2 two) (proceeds_kept (record { ruled = rm; created = created_i m p a b; started = two })))))

  turn_kept : Kept T (turn T m page p)
  unfolding turn
  turn_kept =
      cases (eqb (m failure_at) 0)
      (λ e. rw e
      (needs _ _ (range_i 1 64 (m created_at) Rm.some Rm.most)
      (cases (between 1 (m created_at) p)
      (λ f. rw f (exists_kept (range_low 1 (m created_at) p f) (range_high 1 (m created_at) p f)))
      (λ f. rw f (answers_kept 3 (regular (omega arith)))))))
      (λ e.
      let g = Rm.failed (eqb-false (m failure_at) 0 e) in
      rw e (needs _ _ g (answers_kept (m failure_at) (failure g))))

  settled_sound : (o : Outcome Effect) → Kept T o → Sound T (settled m page o)
  unfolding settled
  settled_sound _ (kept a n d l r s t) = record { answer = a; state = n; page = d; is = refl; ruled = r; words = s; devices = t; listed = l }
  settled_sound _ (failed n a) =
      record {
        answer = n;
        state = update m failure_at n;
        page = page;
        is = refl;
        ruled = fail_rule T acc L m n rm a;
        words = update_small m failure_at n ms (let k = failure_byte n a in omega arith);
        devices = ps;
        listed = failure a;
      }

  sound_step : Sound T (step T m page p)
  unfolding step
  sound_step = settled_sound (turn T m page p) turn_kept

-- THE STEP IS SOUND
pub step_sound : (T : Table) → Accepted T → scoped T ≡ true → WordTable T → (m page : Memory) (p : ℕ) → rule T m ≡ true → Small m → Small page → Sound T (step T m page p)
step_sound T acc inner W m page p rm ms ps = sound_step T acc inner (place_laws T acc) W m page p rm ms ps
