-- A step creates a process exactly if it carries out a create, and keeps those created before (11.4). Assumes nothing.
use Prim.Native.Nat.{ℕ, ◌+◌, ◌-◌, ◌≤◌, ◌<◌}
use mathlib.Core.Path.{◌≡◌, refl, ap, ◌∙◌}
use mathlib.Core.Bool.{Bool, true, false}
use mathlib.Core.List.{List, [], ◌∷◌, ◌++◌}
use native.Mathlib.Omega.{arith}
use lib.Dec.{eqb}
use lib.ListN.{length, replicate, length-append, length-replicate}
use borrow.Author.Tests.{eqb-true, ne_eqb, leb-true, ltb-false, not-false}
use Rattle.basics.specs.Choice.{pick, either, between}
use Rattle.basics.specs.Cases.{cases}
use Rattle.basics.proofs.Bools.{both_i, both_false_l, both_false_r}
use Rattle.table.specs.Table.{Table}
use Rattle.machine.specs.Memory.{Memory, memory_of, update}
use Rattle.machine.specs.Layout.{location, status_at, statement_at, top_at, works_at, holder_at, created_at, failure_at}
use Rattle.machine.specs.Marks.{set_marks}
use Rattle.machine.specs.Outcomes.{Outcome, ok, fail, stuck, and_then, place, is_failure}
use Rattle.machine.specs.Entries.{process_type, type_at, waits, Statement, create}
use Rattle.machine.specs.Context.{Context, context_of}
use Rattle.machine.specs.Variables.{frame_words}
use Rattle.machine.specs.Operands.{operand}
use Rattle.machine.specs.Calls.{arguments, frame, top_after, pushed, call, popped}
use Rattle.machine.specs.Processes.{on_process, on_reference, started}
use Rattle.machine.specs.Statements.{Effect, effect, go_to, go_on, wait, moved, do_local_call, can_serve, do_process_call, do_start, perform}
use Rattle.machine.specs.Step.{done, settled, answers_only, performs, proceeds, exists, turn, step}
use Rattle.machine.proofs.MarkLaws.{same_words, same_marks}
use Rattle.machine.proofs.Tests.{range_low, range_high, failure_low}
use Rattle.machine.proofs.Outcomes.{g_then, g_test, g_need, g_where, g_pick, g_place, g_module}
use Rattle.sound.specs.Conditions.{own_block}
use Rattle.sound.specs.Carried.{Inside, next_arm, last_end, Carries, skips, assigns, calls_local, calls_process, starts, enters, passes, leaves, again, writes, returns_local, returns_process}
use Rattle.sound.specs.Rows.{next}
use Rattle.sound.specs.Histories.{Seen, finally, Threaded, Every}
use Rattle.sound.specs.Created.{is_create, creates_one, creations, NewProcess, ProcessesKept, Creating, same, creates, CreatedKept}
use Rattle.sound.proofs.RuleKept.Marks.{frame_marks}
use Rattle.sound.proofs.Rows.ListedFailures.{statement_listed}
use Rattle.sound.proofs.Rows.StatementRules.{Leaves, gives, Reports, went, waited, ended, failed, strays, reports}
use Rattle.sound.proofs.Evaluation.OperandSizes.{place_fits, place_area, gives_long}
use Rattle.sound.proofs.Steps.WritesInside.{room}
use Rattle.sound.proofs.Memory.ProcessRecords.{location_end, Still, still, still_record, still_status, still_store, still_standing, still_same, new_same, kept_same, mark_same, made_marks, new_process, others_kept, mark_kept, fail_count, fail_kept, refers_most}

-- ---- statements

module _ (T : Table) (m page : Memory) (x : Context) where
  data Keeping : Outcome Effect → Type 0 where
    keeps : {a : ℕ} {s d : Memory} → Still m s → Keeping (ok (effect a s d))
    fails : {n : ℕ} → Keeping (fail n)
    none : Keeping stuck

  data Within : Outcome Memory → Type 0 where
    is_still : {s : Memory} → Still m s → Within (ok s)
    fails : {n : ℕ} → Within (fail n)
    none : Within stuck

  holder_still : (q v : ℕ) → Still m (update m (holder_at q) v)
  holder_still q v = still_record m m (still m) q 6 v (omega arith)

  marks_still : (s : Memory) (a n : ℕ) (v : Bool) → Still m s → Still m (set_marks s a n v)
  marks_still s a n v h = still_same m s h _ (same_marks s s a n v (same_words s))

  goes_still : (s : Memory) (c : ℕ) → Still m s → Still m (update s (statement_at x.process) c)
  goes_still s c h = still_record m s h x.process 2 c (omega arith)

  keeping_still : (o : Outcome Effect) → Keeping o → (s d : Memory) → o ≡ ok (effect 0 s d) → Still m s
  keeping_still _ (keeps {s = u} h) s d e = let y : u ≡ s = cc in rw y at h
  keeping_still _ Keeping.fails s d e = let y : ◌≡◌ {A = ℕ} 0 1 = cc in absurd (omega arith)
  keeping_still _ Keeping.none s d e = let y : ◌≡◌ {A = ℕ} 0 1 = cc in absurd (omega arith)

  moved_keeps : (o : Outcome Memory) → Within o → Keeping (moved T m page x o)
  unfolding moved and_then
  moved_keeps _ (is_still h) = keeps h
  moved_keeps _ fails = fails
  moved_keeps _ none = none

  popped_still : (s : Memory) (c : ℕ) → Still m s → Still m (popped T m page x s c)
  unfolding popped
  popped_still s c h = still_standing m s x.process _ _ _ _ _ h

  -- what statement S comes to
  data Comes (S : Statement) : Outcome Effect → Type 0 where
    keeps : {a : ℕ} {s d : Memory} → is_create S ≡ false → Still m s → Comes S (ok (effect a s d))
    makes : {s d : Memory} (a i τ μ : ℕ) → S ≡ create a → operand T m page x a ≡ ok (place i τ) → type_at T τ ≡ process_type μ
        → NewProcess s (m created_at + 1) μ i → ProcessesKept m s → s failure_at ≡ m failure_at → Comes S (ok (effect 0 s d))
    fails : {n : ℕ} → is_failure n ≡ true → Comes S (fail n)
    none : Comes S stuck

  -- started processes, of 64
  module _ (lp : x.process ≤ 64) (begun : m (status_at x.process) ≡ 2) (lc : m created_at ≤ 64) (some : 1 ≤ m created_at) where
    pushed_still : (s : Memory) (q r : ℕ) (ws : List ℕ) → Still m s → length ws ≤ frame_words T q → top_after T m page x q ≤ 256 → Still m (pushed T m page x s q r ws)
    unfolding pushed frame top_after
    pushed_still s q r ws h l t =
        let e : length (ws ++ replicate (frame_words T q - length ws) 0) ≡ frame_words T q = length-append ws (replicate (frame_words T q - length ws) 0) ∙ rw (length-replicate {A = ℕ} (frame_words T q - length ws) 0) (omega arith) in
        let k = location_end x.process (m (top_at x.process)) (4 + frame_words T q) lp (omega arith) in
        still_standing m _ x.process _ _ _ _ _ (still_store m s h _ _ (omega (arith, e, k)))

    within_call : (s : Memory) (q r : ℕ) (ws : List ℕ) → Still m s → Within (call T m page x s q r ws)
    unfolding call
    within_call s q r ws h =
        g_test Within none _ _ (λ l. g_where Within none _ 22 _ (λ e. fails)
        (λ e. g_need Within none _ _ (is_still (still_same m _ (pushed_still s q r ws h (leb-true _ _ l) (ltb-false 256 _ e)) _ (frame_marks T m page x _ q ws)))))

    local_keeps : (q c d : ℕ) → Keeping (do_local_call T m page x q c d)
    unfolding do_local_call
    local_keeps q c d =
        g_need Keeping none _ _ (g_then Keeping none (arguments T m page x q c d) _ (λ f e. fails)
        (λ ws e. g_where Keeping none _ 22 _ (λ g. fails) (λ g. moved_keeps _ (within_call m q x.works ws (still m)))))

    process_keeps : (a q c d : ℕ) → Keeping (do_process_call T m page x a q c d)
    unfolding do_process_call on_process on_reference wait
    process_keeps a q c d =
        g_place Keeping none (operand T m page x a) _ (λ f e. fails)
        (λ i τ e. g_module Keeping none (type_at T τ) _ (λ μ t. g_need Keeping none _ _
        (g_where Keeping none _ 31 _ (λ z. fails) (λ z. g_where Keeping none _ 19 _ (λ z. fails) (λ z. g_need Keeping none _ _
        (cases (can_serve m (m i))
        (λ k. rw k (g_then Keeping none (arguments T m page x q c d) _ (λ f u. fails)
        (λ ws u. moved_keeps _ (within_call _ q (m i) ws (holder_still (m i) _)))))
        (λ k. rw k (keeps (still m)))))))))

    started_still : (r μ : ℕ) (ws : List ℕ) → r ≤ 64 → m (status_at r) ≡ 1 → length ws ≤ 256 → Still m (started T m r μ ws)
    unfolding started
    started_still r μ ws l e w =
        still_standing m _ r _ _ _ _ _ (still_record m _ (still_status m _ (still_store m m (still m) (location r 0) ws (location_end r 0 (length ws) l (omega arith)))
        r 2 (omega arith)) r 6 r (omega arith))

    start_keeps : (a c d : ℕ) → Keeping (do_start T m page x a c d)
    unfolding do_start on_process on_reference go_on go_to
    start_keeps a c d =
        g_place Keeping none (operand T m page x a) _ (λ f e. fails)
        (λ i τ e. g_module Keeping none (type_at T τ) _ (λ μ t.
        g_where Keeping none _ 31 _ (λ z. fails) (λ z. g_where Keeping none _ 19 _ (λ z. fails) (λ z. g_test Keeping none _ _ (λ r.
        g_where Keeping none _ 20 _ (λ u. fails) (λ u. g_then Keeping none (arguments T m page x μ c d) _ (λ f k. fails)
        (λ ws k. g_test Keeping none _ _ (λ w.
        keeps (goes_still _ _ (marks_still _ _ _ _ (started_still (m i) μ ws (refers_most m lc μ (m i) r) (eqb-true _ 1 (not-false _ u)) (leb-true _ _ w))))))))))))

    inside_keeps : (S : Statement) → Inside S → is_create S ≡ false
    unfolding is_create
    inside_keeps _ next_arm = refl
    inside_keeps _ last_end = refl

    carries_comes : (S : Statement) (s d : Memory) → perform T m page x S ≡ ok (effect 0 s d) → Carries T m page x S s d → Comes S (ok (effect 0 s d))
    unfolding perform is_create
    carries_comes _ _ _ e skips = keeps refl (goes_still m _ (still m))
    carries_comes _ _ _ e (assigns {a = a} {b = b} {i = i} {τ = τ} {κ = κ} {ws = ws} y w h) =
        keeps refl (goes_still _ _ (marks_still _ _ _ _ (still_store m m (still m) i ws (room T i τ κ ws (place_fits T m page x a i τ y) (gives_long T m page x b κ ws w) h))))
    carries_comes _ _ _ e (calls_local {q = q} {c = c} {d = d} p o n) = keeps refl (keeping_still _ (local_keeps q c d) _ _ e)
    carries_comes _ _ _ e (calls_process {a = a} {q = q} {c = c} {d = d} y t z u p n) = keeps refl (keeping_still _ (process_keeps a q c d) _ _ e)
    carries_comes _ _ _ e (Carries.creates {a = a} {i = i} {τ = τ} {μ = μ} y t n) =
        let u = place_area T m page x a i τ y in
        let same = made_marks m (m created_at + 1) μ i (x.statement + 1) x.process in
        makes a i τ μ refl y t
        (new_same _ _ same (m created_at + 1) μ i (omega arith) (omega arith) u
        (new_process m (m created_at + 1) μ i (x.statement + 1) x.process (omega arith) (omega arith) u))
        (kept_same _ _ same m lc (others_kept m (m created_at + 1) μ i (x.statement + 1) x.process (omega arith) (omega arith) u))
        (mark_same _ _ same m (mark_kept m (m created_at + 1) μ i (x.statement + 1) x.process (omega arith) (omega arith) u some))
    carries_comes _ _ _ e (starts {a = a} {c = c} {d = d} y t z u p) = keeps refl (keeping_still _ (start_keeps a c d) _ _ e)
    carries_comes _ _ _ e (enters {k = k} h) =
        keeps refl (goes_still (pick (waits k) (update m (holder_at x.works) x.process) m) _ (cases (waits k) (λ u. rw u (holder_still _ _)) (λ u. rw u (still m))))
    carries_comes _ _ _ e (passes w h l) = keeps refl (goes_still m _ (still m))
    carries_comes S _ _ e (leaves n l u r) = keeps (inside_keeps S n) (goes_still m _ (still m))
    carries_comes S _ _ e (again n l u r) = keeps (inside_keeps S n) (goes_still m _ (still m))
    carries_comes _ _ _ e (writes y w h) = keeps refl (goes_still m _ (still m))
    carries_comes _ _ _ e (returns_local n u) = keeps refl (popped_still m _ (still m))
    carries_comes _ _ _ e (returns_process n u) = keeps refl (popped_still _ _ (holder_still _ 0))

    comes : (S : Statement) (o : Outcome Effect) → perform T m page x S ≡ o → Reports T m page x S o → Comes S o
    unfolding is_create
    comes S _ e (went h) = carries_comes S _ _ e h
    comes _ _ e (waited w (gives u h)) = keeps refl (holder_still _ 0)
    comes _ _ e (waited w Leaves.keeps) = keeps refl (still m)
    comes _ _ e (ended (own_block u)) = keeps refl (still_record m _ (still_status m m (still m) x.process 3 (omega arith)) x.process 6 0 (omega arith))
    comes S _ e (failed {f = f} h) = fails (statement_listed T m page x f S h)
    comes S _ e strays = none

-- ---- steps

stays : (m : Memory) → ProcessesKept m m
stays m = record { created = λ r c. c; block = λ r c. refl; status = λ r c. omega arith }

module _ (T : Table) (m page : Memory) (p : ℕ) where
  still_kept : m created_at ≤ 64 → (s : Memory) → Still m s → ProcessesKept m s
  still_kept l s h = record {
    created = λ r c. let a = c.most in let e = h.count in record { least = c.least; most = omega arith };
    block = λ r c. let a = c.most in h.block r c.least (omega arith);
    status = λ r c. let a = c.most in h.status r c.least (omega arith);
  }

  still_step : m created_at ≤ 64 → (n : ℕ) (s : Memory) → creates_one T m p n ≡ false → Still m s → CreatedKept T m page p n s
  still_step l n s e h = record { creating = same e h.count; kept = still_kept l s h; mark = λ l. h.mark }

  -- another answer than 0, and the state as it was
  other_step : (n : ℕ) → (n ≡ 0 → ⊥) → CreatedKept T m page p n m
  unfolding creates_one
  other_step n e = record { creating = same (both_false_l _ _ (ne_eqb n 0 e)) refl; kept = stays m; mark = λ l. refl }

  data Left : Outcome Effect → Type 0 where
    left : {a : ℕ} {s d : Memory} → CreatedKept T m page p a s → Left (ok (effect a s d))
    fails : {n : ℕ} → is_failure n ≡ true → Left (fail n)
    none : Left stuck

  answers_left : (a : ℕ) → (a ≡ 0 → ⊥) → Left (answers_only T m page p a)
  unfolding answers_only
  answers_left a e = left (other_step a e)

  comes_left : m created_at ≤ 64 → (S : Statement) (o : Outcome Effect) → next T m page p ≡ S → Comes T m page (context_of m p) S o → Left o
  unfolding creates_one is_create
  comes_left l S _ z (Comes.keeps {a = a} e h) = left (still_step l a _ (both_false_r _ _ (rw z e)) h)
  comes_left l S _ z (Comes.makes a i τ μ e o t n k y) = left {a = 0} (record { creating = creates a i τ μ (rw (z, e) (both_i _ _ refl refl)) (z ∙ e) o t n; kept = k; mark = λ l. y })
  comes_left l S _ z (Comes.fails h) = fails h
  comes_left l S _ z Comes.none = none

  performs_left : p ≤ 64 → m (status_at p) ≡ 2 → m created_at ≤ 64 → 1 ≤ m created_at → Left (performs T m page p)
  unfolding performs context_of
  performs_left l b c y =
      g_need Left none _ _ (comes_left c _ _ refl (comes T m page (context_of m p) l b c y (next T m page p) _ refl (reports T m page (context_of m p) (next T m page p))))

  exists_left : p ≤ 64 → m created_at ≤ 64 → 1 ≤ m created_at → Left (exists T m page p)
  unfolding exists proceeds
  exists_left l c y =
      g_pick Left none (eqb (m (status_at p)) 3) _ _ (λ e. answers_left 2 (λ z. omega arith))
      (λ e. g_pick Left none (eqb (m (status_at p)) 1) _ _ (λ h. answers_left 1 (λ z. omega arith))
      (λ h. g_test Left none _ _ (λ b. g_need Left none _ _
      (g_pick Left none (either (eqb (m (holder_at (m (works_at p)))) 0) (eqb (m (holder_at (m (works_at p)))) p)) _ _
      (λ k. performs_left l (eqb-true _ 2 b) c y) (λ k. answers_left 1 (λ z. omega arith))))))

  turn_left : Left (turn T m page p)
  unfolding turn
  turn_left =
      g_pick Left none (eqb (m failure_at) 0) _ _
      (λ e. g_test Left none _ _ (λ c. g_pick Left none (between 1 (m created_at) p) _ _
      (λ l. let u = range_high 1 64 _ c in let v = range_high 1 _ p l in exists_left (omega arith) u (range_low 1 64 _ c)) (λ l. answers_left 3 (λ z. omega arith))))
      (λ e. g_test Left none _ _ (λ c. let u = failure_low _ c in answers_left (m failure_at) (λ z. omega arith)))

  failed_step : (n : ℕ) → is_failure n ≡ true → CreatedKept T m page p n (update m failure_at n)
  unfolding creates_one
  failed_step n h = let l = failure_low n h in record { creating = same (both_false_l _ _ (ne_eqb n 0 (λ z. omega arith))) (fail_count m n); kept = fail_kept m n; mark = λ k. absurd (omega arith) }

  settled_left : (o : Outcome Effect) → Left o → (a : ℕ) (s d : Memory) → settled m page o ≡ done a s d → CreatedKept T m page p a s
  unfolding settled
  settled_left _ (left {a = a'} {s = s'} k) a s d e =
      let x : a' ≡ a = cc in
      let y : s' ≡ s = cc in
      rw (x, y) at k
  settled_left _ (fails {n = n} l) a s d e =
      let x : n ≡ a = cc in
      let y : update m failure_at n ≡ s = cc in
      rw (y, x) at (failed_step n l)
  settled_left _ none a s d e = let x : ◌≡◌ {A = ℕ} 0 1 = cc in absurd (omega arith)

  -- A STEP CREATES a process exactly if it carries out a create, and keeps those created before
  pub step_created : (a : ℕ) (s d : Memory) → step T m page p ≡ done a s d → CreatedKept T m page p a s
  unfolding step
  step_created a s d e = settled_left _ turn_left a s d e

-- ---- steps one after the other

kept_on : (m s u : Memory) → ProcessesKept m s → ProcessesKept s u → ProcessesKept m u
kept_on m s u h k = record {
  created = λ r c. k.created r (h.created r c);
  block = λ r c. k.block r (h.created r c) ∙ h.block r c;
  status = λ r c. let a = h.status r c in let b = k.status r (h.created r c) in omega arith;
}

counted : (T : Table) (m page : Memory) (p n : ℕ) (s : Memory) → Creating T m page p n s → s created_at ≡ m created_at + pick (creates_one T m p n) 1 0
counted T m page p n s (same e h) = rw e (omega (arith, h))
counted T m page p n s (creates a i τ μ e z o t h) = rw e h.last

-- what holds of a step as it was seen
abbrev pub CreatedIn : Table → Seen → Type 0
CreatedIn T e = CreatedKept T (memory_of e.before) (memory_of e.given) e.process e.answer (memory_of e.after)

module _ (T : Table) where
  -- the count grows by the creates carried out
  pub created_count : (s : List ℕ) (es fs : List Seen) → Threaded s (es ++ fs) → Every (CreatedIn T) (es ++ fs)
      → memory_of (finally s es) created_at ≡ memory_of s created_at + creations T es
  unfolding Threaded Every finally creations
  created_count s [] fs t h = omega arith
  created_count s (e ∷ es) fs t h =
      let a = created_count e.after es fs t.1 h.1 in
      let b = counted T _ _ _ _ _ h.0.creating in
      let c : memory_of e.before created_at ≡ memory_of s created_at = ap (λ (b : List ℕ). memory_of b created_at) t.0 in
      omega (arith, a, b, c)

  -- the processes created stay
  from_here : (s : List ℕ) (fs gs : List Seen) → Threaded s (fs ++ gs) → Every (CreatedIn T) (fs ++ gs) → ProcessesKept (memory_of s) (memory_of (finally s fs))
  unfolding Threaded Every finally
  from_here s [] gs t h = stays (memory_of s)
  from_here s (e ∷ fs) gs t h =
      let a : ProcessesKept (memory_of s) (memory_of e.after) = rw t.0 at h.0.kept in
      kept_on _ _ _ a (from_here e.after fs gs t.1 h.1)

  pub created_kept : (s : List ℕ) (es fs gs : List Seen) → Threaded s (es ++ (fs ++ gs)) → Every (CreatedIn T) (es ++ (fs ++ gs))
      → ProcessesKept (memory_of (finally s es)) (memory_of (finally s (es ++ fs)))
  unfolding Threaded Every finally
  created_kept s [] fs gs t h = from_here s fs gs t h
  created_kept s (e ∷ es) fs gs t h = created_kept e.after es fs gs t.1 h.1

  -- the failure mark is 0 until a step fails
  pub mark_zero : (s : List ℕ) (es fs : List Seen) → Threaded s (es ++ fs) → Every (CreatedIn T) (es ++ fs) → Every (λ e. e.answer < 16) es
      → memory_of s failure_at ≡ 0 → memory_of (finally s es) failure_at ≡ 0
  unfolding Threaded Every finally
  mark_zero s [] fs t h k z = z
  mark_zero s (e ∷ es) fs t h k z =
      let c : memory_of e.before failure_at ≡ memory_of s failure_at = ap (λ (b : List ℕ). memory_of b failure_at) t.0 in
      mark_zero e.after es fs t.1 h.1 k.1 (h.0.mark k.0 ∙ c ∙ z)
