-- A step writes inside the state and the page only; it keeps the number that the run was begun with, and under 1 all marks. Assumes nothing.
use Prim.Native.Nat.{ℕ, ◌+◌, ◌-◌, ◌%◌, ◌≤◌, ◌<◌}
use mathlib.Core.Path.{◌≡◌, refl, ◌∙◌}
use mathlib.Core.Bool.{Bool, true}
use mathlib.Core.List.{List, ◌++◌}
use native.Mathlib.Omega.{arith}
use lib.Dec.{eqb, leb, ltb}
use lib.ListN.{length, replicate, length-append, length-replicate}
use borrow.Author.Tests.{ne_eqb, leb-true, ltb-true, ltb-false, le-ltb}
use Rattle.basics.specs.Choice.{pick, either, between}
use Rattle.basics.specs.Cases.{cases}
use Rattle.basics.proofs.Bools.{both_l, both_r, both_false_r}
use Rattle.table.specs.Table.{Table}
use Rattle.types.specs.Types.{NodeType}
use Rattle.types.specs.Types as types
use Rattle.types.specs.Match.{equal, matching, is_equal}
use Rattle.sizes.specs.Sizes.{words_of}
use Rattle.sizes.specs.Kept.{words_in}
use Rattle.sizes.proofs.Strings.{equal_words}
use Rattle.machine.specs.Memory.{Memory, update, within, store, clear, fill, zeros}
use Rattle.machine.specs.Layout.{location, record_at, status_at, statement_at, top_at, works_at, holder_at, created_at, failure_at, state_words, locations, page_words}
use Rattle.machine.specs.Marks.{set_marks, mark_word, mark, fresh}
use Rattle.machine.specs.Outcomes.{Outcome, ok, fail, stuck, and_then, word_of}
use Rattle.machine.specs.Entries.{type_at, waits, Statement}
use Rattle.machine.specs.Context.{Context, context_of}
use Rattle.machine.specs.Variables.{frame_words, fits}
use Rattle.machine.specs.Operands.{operand}
use Rattle.machine.specs.Calls.{standing, arguments, frame, top_after, pushed, frame_marked, call, popped}
use Rattle.machine.specs.Processes.{on_process, on_reference, created, started}
use Rattle.machine.specs.Statements.{Effect, effect, go_to, go_on, wait, moved, do_local_call, can_serve, do_process_call, do_start, perform}
use Rattle.machine.specs.Step.{done, settled, answers_only, performs, proceeds, exists, turn, step}
use Rattle.machine.specs.Run.{initial_state, begin}
use Rattle.machine.proofs.Memories.{location_plus}
use Rattle.machine.proofs.MarkLaws.{marks_others}
use Rattle.machine.proofs.Tests.{range_low, range_high}
use Rattle.machine.proofs.Outcomes.{g_then, g_test, g_need, g_where, g_pick, g_place, g_module}
use Rattle.sound.specs.Carried.{Carries, skips, assigns, calls_local, calls_process, creates, starts, enters, passes, leaves, again, writes, returns_local, returns_process}
use Rattle.sound.specs.Reached.{ZeroFrom, WithinSizes}
use Rattle.sound.proofs.Rows.StatementRules.{gives, keeps, Reports, went, waited, ended, failed, strays, reports}
use Rattle.sound.proofs.Evaluation.OperandSizes.{device-word, place_fits, place_area, gives_long}
use Rattle.sound.proofs.Memory.ProcessRecords.{refers_most}
use Rattle.sound.proofs.StartValues.NumberStays.{Numbered, numbered, numbered_record, numbered_word, numbered_store, numbered_mark, numbered_fresh, numbered_standing, numbered_created}

-- ---- writes

module _ (n : ℕ) (m : Memory) (h : ZeroFrom n m) where
  update_sized : (i v : ℕ) → i < n → ZeroFrom n (update m i v)
  unfolding update
  update_sized i v l = record { beyond = λ j k. rw (ne_eqb j i (λ e. omega arith)) (h.beyond j k) }

  store_sized : (a : ℕ) (ws : List ℕ) → a + length ws ≤ n → ZeroFrom n (store m a ws)
  unfolding store within
  store_sized a ws l = record { beyond = λ j k. rw (both_false_r (leb a j) (ltb j (a + length ws)) (le-ltb j (a + length ws) (omega arith))) (h.beyond j k) }

  clear_sized : (a k : ℕ) → ZeroFrom n (clear m a k)
  unfolding clear
  clear_sized a k = record { beyond = λ j l. cases (within a k j) (λ e. rw e) (λ e. rw e (h.beyond j l)) }

  fill_sized : (a k v : ℕ) → a + k ≤ n → ZeroFrom n (fill m a k v)
  unfolding fill within
  fill_sized a k v l = record { beyond = λ j g. rw (both_false_r (leb a j) (ltb j (a + k)) (le-ltb j (a + k) (omega arith))) (h.beyond j g) }

-- the marks of locations
marks_sized : (m : Memory) (a n : ℕ) (v : Bool) → ZeroFrom state_words m → a + n ≤ locations → ZeroFrom state_words (set_marks m a n v)
unfolding mark_word
marks_sized m a n v h l = record { beyond = λ j g. marks_others m a n j v (λ k i e. omega arith) ∙ h.beyond j g }

-- the records of 64 processes
record_in : (p k : ℕ) → p ≤ 64 → k < 20 → record_at p k < state_words
unfolding record_at
record_in p k h l = omega arith

location_in : (p k : ℕ) → p ≤ 64 → k ≤ 256 → location p k ≤ locations
unfolding location
location_in p k h l = omega arith

module _ (m : Memory) (h : ZeroFrom state_words m) (p : ℕ) (l : p ≤ 64) where
  record_sized : (k v : ℕ) → k < 20 → ZeroFrom state_words (update m (record_at p k) v)
  record_sized k v g = update_sized state_words m h (record_at p k) v (record_in p k l g)

standing_sized : (m : Memory) (p c f t w d : ℕ) → ZeroFrom state_words m → p ≤ 64 → ZeroFrom state_words (standing m p c f t w d)
unfolding standing
standing_sized m p c f t w d h l =
    record_sized _ (record_sized _ (record_sized _ (record_sized _ (record_sized m h p l 2 c (omega arith)) p l 3 f (omega arith)) p l 4 t (omega arith)) p l 5 w (omega arith)) p l 7 d (omega arith)

-- a value of a type that equals a place's fits there
pub room : (T : Table) (i τ : ℕ) (κ : NodeType) (ws : List ℕ) → fits T i τ ≡ true → length ws ≡ words_in T κ → matching T (types.numbered τ) κ ≡ equal → i + length ws ≤ locations
unfolding fits words_in is_equal
room T i τ κ ws f l e =
    let a : i < locations = ltb-true _ _ (both_l _ _ f) in
    let b : i % 256 + words_of T τ ≤ 256 = leb-true _ _ (both_r _ _ f) in
    let w : words_of T τ ≡ words_in T κ = equal_words T (types.numbered τ) κ (rw e refl) in
    omega arith

-- ---- what is written to state m: s is a state, with the number of m and, under 1, its marks

record Written (m s : Memory) : Type 0 where
  sized : ZeroFrom state_words s
  numbered : Numbered m s

module _ (m s : Memory) (h : Written m s) where
  record_written : (p : ℕ) → p ≤ 64 → (k v : ℕ) → k < 10 → Written m (update s (record_at p k) v)
  record_written p l k v g = record { sized = record_sized s h.sized p l k v (omega arith); numbered = numbered_record m s h.numbered p k v l g }

  store_written : (a : ℕ) (ws : List ℕ) → a + length ws ≤ locations → Written m (store s a ws)
  store_written a ws l = record { sized = store_sized state_words s h.sized a ws (omega arith); numbered = numbered_store m s h.numbered a ws l }

  word_written : (i v : ℕ) → i < locations → Written m (update s i v)
  word_written i v l = record { sized = update_sized state_words s h.sized i v (omega arith); numbered = numbered_word m s h.numbered i v l }

  mark_written : (a n : ℕ) → a + n ≤ locations → Written m (mark s a n)
  mark_written a n l = record { sized = marks_sized s a n true h.sized l; numbered = numbered_mark m s h.numbered a n }

  fresh_written : (a n : ℕ) → a + n ≤ locations → Written m (fresh s a n)
  fresh_written a n l = record { sized = marks_sized s a n _ h.sized l; numbered = numbered_fresh m s h.numbered a n }

  standing_written : (p c f t w d : ℕ) → p ≤ 64 → Written m (standing s p c f t w d)
  standing_written p c f t w d l = record { sized = standing_sized s p c f t w d h.sized l; numbered = numbered_standing m s p c f t w d h.numbered l }

-- ---- statements

data Inside (m : Memory) : Outcome Effect → Type 0 where
  inside : {a : ℕ} {s d : Memory} → Written m s → ZeroFrom page_words d → Inside m (ok (effect a s d))
  fails : {n : ℕ} → Inside m (fail n)
  none : Inside m stuck

data Within (m : Memory) : Outcome Memory → Type 0 where
  is_in : {s : Memory} → Written m s → Within m (ok s)
  fails : {n : ℕ} → Within m (fail n)
  none : Within m stuck

module _ (T : Table) (m page : Memory) (x : Context) (hm : ZeroFrom state_words m) (hp : ZeroFrom page_words page)
    (lp : x.process ≤ 64) (lw : x.works ≤ 64) (lc : m created_at ≤ 64) (some : 1 ≤ m created_at) where
  unwritten : Written m m
  unwritten = record { sized = hm; numbered = numbered m }

  goes_in : (s : Memory) (c : ℕ) → Written m s → Written m (update s (statement_at x.process) c)
  goes_in s c h = record_written m s h x.process lp 2 c (omega arith)

  holder_in : (v : ℕ) → Written m (update m (holder_at x.works) v)
  holder_in v = record_written m m unwritten x.works lw 6 v (omega arith)

  -- a frame that fits its area
  pushed_in : (s : Memory) (q r : ℕ) (ws : List ℕ) → Written m s → length ws ≤ frame_words T q → top_after T m page x q ≤ 256 → Written m (pushed T m page x s q r ws)
  unfolding pushed frame top_after
  pushed_in s q r ws h l t =
      let e : length (ws ++ replicate (frame_words T q - length ws) 0) ≡ frame_words T q = length-append ws (replicate (frame_words T q - length ws) 0) ∙ rw (length-replicate {A = ℕ} (frame_words T q - length ws) 0) (omega arith) in
      let g = location_plus x.process (m (top_at x.process)) (4 + frame_words T q) in
      let k = location_in x.process (m (top_at x.process) + (4 + frame_words T q)) lp (omega arith) in
      standing_written m _ (store_written m s h _ _ (omega (arith, e, g, k))) x.process _ _ _ _ _ lp

  marked_in : (s : Memory) (q : ℕ) (ws : List ℕ) → Written m s → length ws ≤ frame_words T q → top_after T m page x q ≤ 256 → Written m (frame_marked T m page x s q ws)
  unfolding frame_marked top_after
  marked_in s q ws h l t =
      let g = location_plus x.process (m (top_at x.process)) (4 + length ws) in
      let k = location_in x.process (m (top_at x.process) + (4 + length ws)) lp (omega arith) in
      let u = location_plus x.process (m (top_at x.process) + 4 + length ws) (frame_words T q - length ws) in
      let y = location_in x.process (m (top_at x.process) + 4 + length ws + (frame_words T q - length ws)) lp (omega arith) in
      fresh_written m _ (mark_written m s h _ _ (omega (arith, g, k))) _ _ (omega (arith, u, y))

  within_call : (s : Memory) (q r : ℕ) (ws : List ℕ) → Written m s → Within m (call T m page x s q r ws)
  unfolding call
  within_call s q r ws h =
      g_test (Within m) none _ _ (λ l. g_where (Within m) none _ 22 _ (λ e. fails)
      (λ e. g_need (Within m) none _ _ (is_in (marked_in _ q ws (pushed_in s q r ws h (leb-true _ _ l) (ltb-false 256 _ e)) (leb-true _ _ l) (ltb-false 256 _ e)))))

  moved_in : (o : Outcome Memory) → Within m o → Inside m (moved T m page x o)
  unfolding moved and_then
  moved_in _ (is_in h) = inside h hp
  moved_in _ fails = fails
  moved_in _ none = none

  popped_in : (s : Memory) (c : ℕ) → Written m s → Written m (popped T m page x s c)
  unfolding popped
  popped_in s c h = standing_written m s h x.process _ _ _ _ _ lp

  local_in : (q c d : ℕ) → Inside m (do_local_call T m page x q c d)
  unfolding do_local_call
  local_in q c d =
      g_need (Inside m) none _ _ (g_then (Inside m) none (arguments T m page x q c d) _ (λ f e. fails)
      (λ ws e. g_where (Inside m) none _ 22 _ (λ g. fails) (λ g. moved_in _ (within_call m q x.works ws unwritten))))

  process_in : (a q c d : ℕ) → Inside m (do_process_call T m page x a q c d)
  unfolding do_process_call on_process on_reference wait
  process_in a q c d =
      g_place (Inside m) none (operand T m page x a) _ (λ f e. fails)
      (λ i τ e. g_module (Inside m) none (type_at T τ) _ (λ μ t. g_need (Inside m) none _ _
      (g_where (Inside m) none _ 31 _ (λ z. fails) (λ z. g_where (Inside m) none _ 19 _ (λ z. fails) (λ z. g_test (Inside m) none _ _ (λ r.
      cases (can_serve m (m i))
      (λ k. rw k (g_then (Inside m) none (arguments T m page x q c d) _ (λ f u. fails)
      (λ ws u. moved_in _ (within_call _ q (m i) ws (record_written m m unwritten (m i) (refers_most m lc μ (m i) r) 6 _ (omega arith))))))
      (λ k. rw k (inside unwritten hp))))))))

  created_sized : (n μ : ℕ) → n ≤ 64 → ZeroFrom state_words (created m n μ)
  unfolding created
  created_sized n μ l =
      record_sized _ (record_sized _ (record_sized _ (clear_sized state_words _ (clear_sized state_words m hm _ _) _ _) n l 0 1 (omega arith)) n l 1 μ (omega arith)) 1 (omega arith) 8 n (omega arith)

  created_in : (n μ : ℕ) → 2 ≤ n → n ≤ 64 → Written m (created m n μ)
  created_in n μ g l = record { sized = created_sized n μ l; numbered = numbered_created m n μ g l }

  started_in : (r μ : ℕ) (ws : List ℕ) → r ≤ 64 → length ws ≤ 256 → Written m (started T m r μ ws)
  unfolding started
  started_in r μ ws l w =
      let g = location_plus r 0 (length ws) in
      let k = location_in r (0 + length ws) l (omega arith) in
      standing_written m _
      (record_written m _ (record_written m _ (store_written m m unwritten (location r 0) ws (omega arith)) r l 0 2 (omega arith)) r l 6 r (omega arith)) r _ _ _ _ _ l

  start_marked_in : (r μ : ℕ) (ws : List ℕ) → r ≤ 64 → length ws ≤ 256 → Written m (mark (started T m r μ ws) (location r 0) (length ws))
  start_marked_in r μ ws l w =
      let g = location_plus r 0 (length ws) in
      let k = location_in r (0 + length ws) l (omega arith) in
      mark_written m _ (started_in r μ ws l w) _ _ (omega arith)

  start_in : (a c d : ℕ) → Inside m (do_start T m page x a c d)
  unfolding do_start on_process on_reference go_on go_to
  start_in a c d =
      g_place (Inside m) none (operand T m page x a) _ (λ f e. fails)
      (λ i τ e. g_module (Inside m) none (type_at T τ) _ (λ μ t.
      g_where (Inside m) none _ 31 _ (λ z. fails) (λ z. g_where (Inside m) none _ 19 _ (λ z. fails) (λ z. g_test (Inside m) none _ _ (λ r.
      g_where (Inside m) none _ 20 _ (λ u. fails) (λ u. g_then (Inside m) none (arguments T m page x μ c d) _ (λ f k. fails)
      (λ ws k. g_test (Inside m) none _ _ (λ w. inside (goes_in _ _ (start_marked_in (m i) μ ws (refers_most m lc μ (m i) r) (leb-true _ _ w))) hp))))))))

  is_inside : (o u : Outcome Effect) → Inside m o → o ≡ u → Inside m u
  is_inside o u h e = rw e at h

  carries_in : (S : Statement) (s d : Memory) → perform T m page x S ≡ ok (effect 0 s d) → Carries T m page x S s d → Inside m (ok (effect 0 s d))
  unfolding perform
  carries_in _ _ _ e skips = inside (goes_in m _ unwritten) hp
  carries_in _ _ _ e (assigns {a = a} {b = b} {i = i} {τ = τ} {κ = κ} {ws = ws} y w h) =
      let r = room T i τ κ ws (place_fits T m page x a i τ y) (gives_long T m page x b κ ws w) h in
      inside (goes_in _ _ (mark_written m _ (store_written m m unwritten i ws r) i _ r)) hp
  carries_in _ _ _ e (calls_local {q = q} {c = c} {d = d} p o n) = is_inside _ _ (local_in q c d) e
  carries_in _ _ _ e (calls_process {a = a} {q = q} {c = c} {d = d} y t z u p n) = is_inside _ _ (process_in a q c d) e
  carries_in _ _ _ e (creates {a = a} {i = i} {τ = τ} {μ = μ} y t n) =
      let l = place_area T m page x a i τ y in
      let g = location_plus (m created_at + 1) 0 256 in
      let k = location_in (m created_at + 1) (0 + 256) (omega arith) (omega arith) in
      inside (goes_in _ _ (mark_written m _ (fresh_written m _ (word_written m _ (created_in (m created_at + 1) μ (omega arith) (omega arith)) i _ l) (location (m created_at + 1) 0) 256 (omega arith)) i 1 (omega arith))) hp
  carries_in _ _ _ e (starts {a = a} {c = c} {d = d} y t z u p) = is_inside _ _ (start_in a c d) e
  carries_in _ _ _ e (enters {k = k} h) =
      inside (goes_in (pick (waits k) (update m (holder_at x.works) x.process) m) _ (cases (waits k) (λ u. rw u (holder_in _)) (λ u. rw u unwritten))) hp
  carries_in _ _ _ e (passes w h l) = inside (goes_in m _ unwritten) hp
  carries_in _ _ _ e (leaves n l u r) = inside (goes_in m _ unwritten) hp
  carries_in _ _ _ e (again n l u r) = inside (goes_in m _ unwritten) hp
  carries_in _ _ _ e (writes {us = us} y w h) = inside (goes_in m _ unwritten) (update_sized 4096 page hp _ _ (device-word (word_of us) h))
  carries_in _ _ _ e (returns_local n u) = inside (popped_in m _ unwritten) hp
  carries_in _ _ _ e (returns_process n u) = inside (popped_in _ _ (holder_in 0)) hp

  perform_in : (S : Statement) (o : Outcome Effect) → perform T m page x S ≡ o → Reports T m page x S o → Inside m o
  perform_in S _ e (went h) = carries_in S _ _ e h
  perform_in _ _ e (waited w (gives u h)) = inside (holder_in 0) hp
  perform_in _ _ e (waited w keeps) = inside unwritten hp
  perform_in S _ e (ended h) = inside (record_written m _ (record_written m m unwritten x.process lp 0 3 (omega arith)) x.process lp 6 0 (omega arith)) hp
  perform_in S _ e (failed h) = fails
  perform_in S _ e strays = none

-- ---- steps

module _ (T : Table) (m page : Memory) (p : ℕ) (hm : ZeroFrom state_words m) (hp : ZeroFrom page_words page) where
  same : Written m m
  same = record { sized = hm; numbered = numbered m }

  answers_in : (a : ℕ) → Inside m (answers_only T m page p a)
  unfolding answers_only
  answers_in a = inside same hp

  performs_in : p ≤ 64 → m (works_at p) ≤ 64 → m created_at ≤ 64 → 1 ≤ m created_at → Inside m (performs T m page p)
  unfolding performs context_of
  performs_in l w c y = g_need (Inside m) none _ _ (perform_in T m page (context_of m p) hm hp l w c y _ _ refl (reports T m page (context_of m p) _))

  exists_in : p ≤ 64 → m created_at ≤ 64 → 1 ≤ m created_at → Inside m (exists T m page p)
  unfolding exists proceeds
  exists_in l c y =
      g_pick (Inside m) none (eqb (m (status_at p)) 3) _ _ (λ e. answers_in 2)
      (λ e. g_pick (Inside m) none (eqb (m (status_at p)) 1) _ _ (λ h. answers_in 1)
      (λ h. g_need (Inside m) none _ _ (g_test (Inside m) none _ _ (λ w.
      g_pick (Inside m) none (either (eqb (m (holder_at (m (works_at p)))) 0) (eqb (m (holder_at (m (works_at p)))) p)) _ _
      (λ k. performs_in l (let u = range_high _ _ _ w in omega arith) c y) (λ k. answers_in 1)))))

  turn_in : Inside m (turn T m page p)
  unfolding turn
  turn_in =
      g_pick (Inside m) none (eqb (m failure_at) 0) _ _
      (λ e. g_test (Inside m) none _ _ (λ c. g_pick (Inside m) none (between 1 (m created_at) p) _ _
      (λ l. exists_in (let u = range_high _ _ _ c in let v = range_high _ _ _ l in omega arith) (range_high _ _ _ c) (range_low _ _ _ c)) (λ l. answers_in 3)))
      (λ e. g_need (Inside m) none _ _ (answers_in (m failure_at)))

  settled_in : (o : Outcome Effect) → Inside m o → (a : ℕ) (s d : Memory) → settled m page o ≡ done a s d → Written m s × ZeroFrom page_words d
  unfolding settled
  settled_in _ (inside {s = s'} {d = d'} h g) a s d e =
      let x : s' ≡ s = cc in
      let y : d' ≡ d = cc in
      (rw x at h, rw y at g)
  settled_in _ (fails {n = n}) a s d e =
      let x : update m failure_at n ≡ s = cc in
      let y : page ≡ d = cc in
      (rw x at (record_written m m same 1 (omega arith) 9 n (omega arith)), rw y at hp)
  settled_in _ none a s d e = let x : ◌≡◌ {A = ℕ} 0 1 = cc in absurd (omega arith)

  -- A STEP WRITES INSIDE ITS STATE AND PAGE
  pub step_sized : (a : ℕ) (s d : Memory) → step T m page p ≡ done a s d → WithinSizes s d
  unfolding step
  step_sized a s d e = let x = settled_in _ turn_in a s d e in record { state = x.0.sized; page = x.1 }

  -- AND KEEPS THE NUMBER, and under 1 all marks
  pub step_numbered : (a : ℕ) (s d : Memory) → step T m page p ≡ done a s d → Numbered m s
  unfolding step
  step_numbered a s d e = (settled_in _ turn_in a s d e).0.numbered

-- begin too
first_sized : (T : Table) (number : ℕ) → ZeroFrom state_words (initial_state T number)
unfolding initial_state zeros
first_sized T number =
    standing_sized _ 1 _ _ _ _ _
    (record_sized _ (record_sized _ (record_sized _ (record_sized zeros (record { beyond = λ i h. refl }) 1 (omega arith) 0 2 (omega arith)) 1 (omega arith) 6 1 (omega arith)) 1 (omega arith) 8 1 (omega arith)) 1 (omega arith) 10 number (omega arith)) (omega arith)

pub begin_sized : (T : Table) (number : ℕ) → ZeroFrom state_words (begin T number)
unfolding begin
begin_sized T number = fill_sized state_words _ (first_sized T number) _ _ _ (omega arith)
