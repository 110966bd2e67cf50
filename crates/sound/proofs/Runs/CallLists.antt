-- Lists of run calls: the steps of a run are threaded, none is stuck, and what is told depends on what is asked alone. Assumes nothing.
use Prim.Native.Nat.{ℕ, zero, suc, ◌≤◌}
use mathlib.Core.Path.{◌≡◌, refl, sym, ap, ◌∙◌}
use mathlib.Core.Bool.{Bool, true, false}
use mathlib.Core.List.{List, [], ◌∷◌, ◌++◌}
use native.Mathlib.Omega.{arith}
use lib.ListN.{length, take, drop}
use lib.Dec.{eqb}
use borrow.Author.Tests.{eqb-true, eqb-false, eq-eqb, leb-true, le-leb}
use Rattle.basics.specs.Choice.{pick, both}
use Rattle.basics.specs.Cases.{cases}
use Rattle.basics.proofs.Bools.{both_l, both_r, no_true}
use Rattle.words.specs.Bytes.{Bytes}
use Rattle.table.specs.Table.{Table, table_of}
use Rattle.machine.specs.Memory.{Memory, memory_of, bytes_of}
use Rattle.machine.specs.Step.{Step, done, step}
use Rattle.machine.specs.Run.{Run, ran, on_done, before, run, begin}
use Rattle.machine.specs.Rule.{rule}
use Rattle.machine.specs.Public.{Called, called, refusal, finished, run_lengths, begin_refusal, begin_call, run_refusal, run_call}
use Rattle.machine.proofs.Memories.{bytes_memory, length_bytes_at}
use Rattle.machine.specs.Layout.{state_words, state_size, page_size}
use Rattle.sound.specs.Answers.{Listed}
use Rattle.sound.specs.Reached.{Reached, Page, StepLaws, BeginLaw}
use Rattle.sound.specs.Histories.{Seen, state_bytes, page_bytes, seen, trace, asked, told, processes, answers, finally, Threaded, Seeing, devices_after, Every, begun_result, begun_state, result, state_left, page_left, answers_left, Ask, call_of, refused, steps_of, order_of, written_of, history, order, written, Served, Devices, Handed, state_after, AskFits, Calls, begun_with}
use Rattle.sound.proofs.Steps.WritesInside.{step_sized}
use Rattle.sound.proofs.Memory.Bytes.{memory_small, memory_sized, memory_whole}

-- the steps by themselves: what is told, from what is asked
unfoldable pub feed : Table → List ℕ → List (ℕ × List ℕ) → List (ℕ × List ℕ × List ℕ)
feed T s [] = []
feed T s (x ∷ xs) = on_done (step T (memory_of s) (memory_of x.1) x.0) [] λ a m d. (a, state_bytes m, page_bytes d) ∷ feed T (state_bytes m) xs

-- the first n told come from the first n asked
feed_onward : (n : ℕ) (r : Step) (f g : List ℕ → List (ℕ × List ℕ × List ℕ)) → ((s : List ℕ) → take n (f s) ≡ g s)
    → take (suc n) (on_done r [] λ a m d. (a, state_bytes m, page_bytes d) ∷ f (state_bytes m))
    ≡ on_done r [] λ a m d. (a, state_bytes m, page_bytes d) ∷ g (state_bytes m)
unfolding on_done
feed_onward n (done a m d) f g h = ap (λ (l : List (ℕ × List ℕ × List ℕ)). (a, state_bytes m, page_bytes d) ∷ l) (h (state_bytes m))
feed_onward n Step.stuck f g h = refl

feed_take : (T : Table) (s : List ℕ) (n : ℕ) (xs : List (ℕ × List ℕ)) → take n (feed T s xs) ≡ feed T s (take n xs)
unfolding feed
feed_take T s zero xs = refl
feed_take T s (suc n) [] = refl
feed_take T s (suc n) (x ∷ xs) =
    feed_onward n (step T (memory_of s) (memory_of x.1) x.0) (λ u. feed T u xs) (λ u. feed T u (take n xs)) (λ u. feed_take T u n xs)

-- the bytes of a state that steps reach, and of a page
pub state_memory : (T : Table) (m : Memory) → Reached T m → memory_of (state_bytes m) ≡ m
unfolding state_bytes
state_memory T m h = memory_whole m state_words h.words h.sized

pub page_memory : (page : Memory) → Page page → memory_of (page_bytes page) ≡ page
unfolding page_bytes
page_memory page h = memory_whole page 4096 h.words h.sized

-- a list of steps from state s that leaves state s', as the definitions say
pub record Course (T : Table) (P : Seen → Type 0) (s s' : List ℕ) (es : List Seen) : Type 0 where
  pub threaded : Threaded s es
  pub every : Every P es
  pub last : finally s es ≡ s'
  pub fed : (r : List Seen) → told r ≡ feed T s' (asked r) → told (es ++ r) ≡ feed T s (asked (es ++ r))

threaded_append : (s : List ℕ) (es fs : List Seen) → Threaded s es → Threaded (finally s es) fs → Threaded s (es ++ fs)
unfolding Threaded finally
threaded_append s [] fs h k = k
threaded_append s (e ∷ es) fs h k = (h.0, threaded_append e.after es fs h.1 k)

every_append : (P : Seen → Type 0) (es fs : List Seen) → Every P es → Every P fs → Every P (es ++ fs)
unfolding Every
every_append P [] fs h k = k
every_append P (e ∷ es) fs h k = (h.0, every_append P es fs h.1 k)

finally_append : (s : List ℕ) (es fs : List Seen) → finally s (es ++ fs) ≡ finally (finally s es) fs
unfolding finally
finally_append s [] fs = refl
finally_append s (e ∷ es) fs = finally_append e.after es fs

append_assoc : (es fs gs : List Seen) → (es ++ fs) ++ gs ≡ es ++ (fs ++ gs)
append_assoc [] fs gs = refl
append_assoc (e ∷ es) fs gs = ap (λ (l : List Seen). e ∷ l) (append_assoc es fs gs)

module _ (T : Table) (P : Seen → Type 0) where
  pub course_none : (s : List ℕ) → Course T P s s []
  unfolding Threaded Every finally
  course_none s = record { threaded = tt; every = tt; last = refl; fed = λ r h. h }

  pub course_append : (s s' s'' : List ℕ) (es fs : List Seen) → Course T P s s' es → Course T P s' s'' fs → Course T P s s'' (es ++ fs)
  course_append s s' s'' es fs h k = record {
    threaded = threaded_append s es fs h.threaded (rw h.last k.threaded);
    every = every_append P es fs h.every k.every;
    last = finally_append s es fs ∙ rw h.last k.last;
    fed = λ r e. rw (append_assoc es fs r) (h.fed (fs ++ r) (k.fed r e));
  }

  pub told_feed : (s s' : List ℕ) (es : List Seen) → Course T P s s' es → told es ≡ feed T s (asked es)
  unfolding told asked feed
  told_feed s s' es h = rw (append-nil es) at (h.fed [] refl)
    where
      append-nil : (l : List Seen) → l ++ [] ≡ l
      append-nil [] = refl
      append-nil (e ∷ l) = ap (λ (k : List Seen). e ∷ k) (append-nil l)

-- a step as it was seen: it is carried out, from a state that meets the rule to one that does
pub record StepOf (T : Table) (e : Seen) : Type 0 where
  pub start : Reached T (memory_of e.before)
  pub devices : Page (memory_of e.given)
  pub is : step T (memory_of e.before) (memory_of e.given) e.process ≡ done e.answer (memory_of e.after) (memory_of e.left)
  pub reached : Reached T (memory_of e.after)
  pub listed : Listed e.answer

module _ (T : Table) (m page : Memory) (p : ℕ) (a : ℕ) (s d : Memory) (e : step T m page p ≡ done a s d) where
  trace_done : (q : List ℕ) → trace T (p ∷ q) m page ≡ seen p m page a s d ∷ trace T q s d
  unfolding trace on_done
  trace_done q = rw e

  run_done : (q : List ℕ) → run T (p ∷ q) m page ≡ before a (run T q s d)
  unfolding run on_done
  run_done q = rw e

  module _ (h : Reached T m) (g : Page page) (h' : Reached T s) (g' : Page d) where
    feed_done : (r : List Seen) → told r ≡ feed T (state_bytes s) (asked r) → told (seen p m page a s d ∷ r) ≡ feed T (state_bytes m) (asked (seen p m page a s d ∷ r))
    unfolding told asked feed on_done seen
    feed_done r k = rw (state_memory T m h, page_memory page g, e, k)

    step_of : Listed a → StepOf T (seen p m page a s d)
    unfolding seen
    step_of b = record {
      start = rw (state_memory T m h) h;
      devices = rw (page_memory page g) g;
      is = rw (state_memory T m h, page_memory page g, state_memory T s h', page_memory d g') e;
      reached = rw (state_memory T s h') h';
      listed = b;
    }

    one-step : Listed a → Course T (StepOf T) (state_bytes m) (state_bytes s) (seen p m page a s d ∷ [])
    unfolding Threaded Every finally seen
    one-step b = record {
      threaded = (refl, tt);
      every = (step_of b, tt);
      last = refl;
      fed = λ r k. feed_done r k;
    }

-- a run from a state that meets the rule
pub record Traced (T : Table) (q : List ℕ) (m page : Memory) : Type 0 where
  pub given : List ℕ
  pub state : Memory
  pub devices : Memory
  pub is : run T q m page ≡ ran given state devices
  pub reached : Reached T state
  pub paged : Page devices
  pub course : Course T (StepOf T) (state_bytes m) (state_bytes state) (trace T q m page)
  pub named : processes (trace T q m page) ≡ q
  pub answered : answers (trace T q m page) ≡ given
  pub long : length given ≡ length q
  pub seeing : Seeing (page_bytes page) (trace T q m page)
  pub leaving : devices_after (page_bytes page) (trace T q m page) ≡ page_bytes devices

module _ (T : Table) (laws : StepLaws T) where
  traced_none : (m page : Memory) → Reached T m → Page page → Traced T [] m page
  unfolding run trace processes answers Seeing devices_after
  traced_none m page h g = record {
    given = [];
    state = m;
    devices = page;
    is = refl;
    reached = h;
    paged = g;
    course = course_none T (StepOf T) (state_bytes m);
    named = refl;
    answered = refl;
    long = refl;
    seeing = tt;
    leaving = refl;
  }

  traced_more : (p : ℕ) (q : List ℕ) (m page : Memory) → Reached T m → Page page → (a : ℕ) (s d : Memory) → step T m page p ≡ done a s d
      → Listed a → Reached T s → Page d → Traced T q s d → Traced T (p ∷ q) m page
  unfolding before processes answers seen Seeing devices_after
  traced_more p q m page h g a s d e b h' g' t = record {
    given = a ∷ t.given;
    state = t.state;
    devices = t.devices;
    is = run_done T m page p a s d e q ∙ rw t.is;
    reached = t.reached;
    paged = t.paged;
    course = rw (trace_done T m page p a s d e q) (course_append T (StepOf T) _ _ _ _ _ (one-step T m page p a s d e h g h' g' b) t.course);
    named = rw (trace_done T m page p a s d e q, t.named);
    answered = rw (trace_done T m page p a s d e q, t.answered);
    long = ap suc t.long;
    seeing = rw (trace_done T m page p a s d e q) (refl, t.seeing);
    leaving = rw (trace_done T m page p a s d e q) t.leaving;
  }

  -- NO STEP OF A RUN IS STUCK
  pub traced : (q : List ℕ) (m page : Memory) → Reached T m → Page page → Traced T q m page
  traced [] m page h g = traced_none m page h g
  traced (p ∷ q) m page h g =
      let u = laws.sound m page p h.ruled h.words g.words in
      let z = step_sized T m page p h.sized g.sized u.answer u.state u.page u.is in
      let h' : Reached T u.state = record { ruled = u.ruled; words = u.words; sized = z.state } in
      let g' : Page u.page = record { words = u.devices; sized = z.page } in
      traced_more p q m page h g u.answer u.state u.page u.is u.listed h' g' (traced q u.state u.page h' g')

-- ---- calls

-- a call's outcome, by its refusal and its run
module _ (s d out : List ℕ) where
  shape : Bool → ℕ → Run → Called
  shape b n r = pick b (finished r (called 10 s d out) out) (called n s d out)

  shape_refused : (b : Bool) (n : ℕ) (r : Run) → pick (eqb (result (shape b n r)) 0) false true ≡ true
      → shape b n r ≡ called (result (shape b n r)) s d out
  unfolding shape finished result
  shape_refused true n (ran l m page) e = no_true e
  shape_refused true n Run.stuck e = refl
  shape_refused false n r e = refl

  shape_open : (b : Bool) (n : ℕ) (r : Run) → eqb n 0 ≡ b → pick (eqb (result (shape b n r)) 0) false true ≡ false → b ≡ true
  unfolding shape finished result
  shape_open true n r h e = refl
  shape_open false n r h e = no_true (sym e ∙ ap (λ (z : Bool). pick z false true) h)

record Lengths (x : Ask) : Type 0 where
  pages : length x.page ≡ page_size
  room : length x.schedule ≤ length x.answers

lengths_of : (L : Bool) (v : ℕ) (b : Bool) → refusal L v b ≡ 0 → L ≡ true
unfolding refusal
lengths_of true v b e = refl
lengths_of false v b e = absurd (omega (arith, e))

-- what is written where a run's answers are
written_answers : (l out : List ℕ) (n : ℕ) → length l ≡ n → take n (l ++ drop (length l) out) ≡ l
written_answers l out n e = rw (← e) (go l (drop (length l) out))
  where
    go : (u w : List ℕ) → take (length u) (u ++ w) ≡ u
    go [] w = refl
    go (y ∷ u) w = ap (λ (z : List ℕ). y ∷ z) (go u w)

-- the bytes of a state that steps reach
pub record At (T : Table) (s : List ℕ) : Type 0 where
  pub memory : Memory
  pub is : s ≡ state_bytes memory
  pub reached : Reached T memory

pub at_memory : (T : Table) (s : List ℕ) → At T s → Reached T (memory_of s)
at_memory T s h = rw (h.is, state_memory T h.memory h.reached) h.reached

module _ (verdict : ℕ → List ℕ → ℕ) (w : ℕ) where
  -- a refused call leaves what it was lent
  pub refused_call : (s : List ℕ) (x : Ask) → refused verdict w s x ≡ true → call_of verdict w s x ≡ called (result (call_of verdict w s x)) s x.page x.answers
  unfolding refused call_of run_call shape
  refused_call s x e = shape_refused s x.page x.answers (eqb (run_refusal verdict w x.table s x.page x.schedule x.answers) 0) (run_refusal verdict w x.table s x.page x.schedule x.answers) (run (table_of w x.table) x.schedule (memory_of s) (memory_of x.page)) e

  pub refused_same : (s : List ℕ) (x : Ask) → refused verdict w s x ≡ true → state_left (call_of verdict w s x) ≡ s
  unfolding state_left
  refused_same s x e = ap state_left (refused_call s x e)

  pub refused_page : (s : List ℕ) (x : Ask) → refused verdict w s x ≡ true → page_left (call_of verdict w s x) ≡ x.page
  unfolding page_left
  refused_page s x e = ap page_left (refused_call s x e)

  pub open_zero : (s : List ℕ) (x : Ask) → refused verdict w s x ≡ false → eqb (run_refusal verdict w x.table s x.page x.schedule x.answers) 0 ≡ true
  unfolding refused call_of run_call shape
  open_zero s x e = shape_open s x.page x.answers (eqb (run_refusal verdict w x.table s x.page x.schedule x.answers) 0) (run_refusal verdict w x.table s x.page x.schedule x.answers) (run (table_of w x.table) x.schedule (memory_of s) (memory_of x.page)) refl e

  open_lengths : (s : List ℕ) (x : Ask) → refused verdict w s x ≡ false → Lengths x
  unfolding run_refusal run_lengths
  open_lengths s x e =
      let l = lengths_of (run_lengths (length s) (length x.page) (length x.schedule) (length x.answers)) (verdict w x.table) (rule (table_of w x.table) (memory_of s)) (eqb-true _ 0 (open_zero s x e)) in
      let r = both_r _ _ l in
      record { pages = eqb-true _ _ (both_l _ _ r); room = leb-true _ _ (both_r _ _ r) }

  -- a call that is not refused comes to its run
  pub open_call : (s : List ℕ) (x : Ask) (l : List ℕ) (m d : Memory) → refused verdict w s x ≡ false → run (table_of w x.table) x.schedule (memory_of s) (memory_of x.page) ≡ ran l m d
      → call_of verdict w s x ≡ called 0 (state_bytes m) (page_bytes d) (l ++ drop (length l) x.answers)
  unfolding call_of run_call finished state_bytes page_bytes
  open_call s x l m d e k = rw (open_zero s x e, k)

  -- the steps of a call or of a list of calls, from state s: their state, order and answers
  pub record Follows (T : Table) (s s' q l : List ℕ) (es : List Seen) : Type 0 where
    pub course : Course T (StepOf T) s s' es
    pub next : At T s'
    pub named : processes es ≡ q
    pub answered : answers es ≡ l

  module _ (t : List ℕ) (laws : StepLaws (table_of w t)) where
    call_refused : (s : List ℕ) (x : Ask) → At (table_of w t) s → refused verdict w s x ≡ true
        → Follows (table_of w t) s (state_left (call_of verdict w s x)) (order_of verdict w s x) (written_of verdict w s x) (steps_of verdict w s x)
    unfolding order_of written_of steps_of processes answers
    call_refused s x h e = rw (e, refused_same s x e) (record { course = course_none (table_of w t) (StepOf (table_of w t)) s; next = h; named = refl; answered = refl })

    call_run : (s : List ℕ) (x : Ask) (m : Memory) → s ≡ state_bytes m → Reached (table_of w t) m → refused verdict w s x ≡ false → x.table ≡ t → Page (memory_of x.page)
        → Follows (table_of w t) s (state_left (call_of verdict w s x)) (order_of verdict w s x) (written_of verdict w s x) (steps_of verdict w s x)
    unfolding order_of written_of steps_of state_left answers_left
    call_run s x m i h e k g =
        let back : memory_of s ≡ m = ap memory_of i ∙ state_memory (table_of w t) m h in
        let r = traced (table_of w t) laws x.schedule m (memory_of x.page) h g in
        let is : run (table_of w x.table) x.schedule (memory_of s) (memory_of x.page) ≡ ran r.given r.state r.devices = rw (k, back) r.is in
        let c = open_call s x r.given r.state r.devices e is in
        rw (e, c, k, back) (record {
          course = rw i r.course;
          next = record { memory = r.state; is = refl; reached = r.reached };
          named = r.named;
          answered = r.answered ∙ sym (written_answers r.given x.answers (length x.schedule) r.long);
        })

    call_follows : (s : List ℕ) (x : Ask) → At (table_of w t) s → AskFits verdict w t s x
        → Follows (table_of w t) s (state_left (call_of verdict w s x)) (order_of verdict w s x) (written_of verdict w s x) (steps_of verdict w s x)
    call_follows s x h f =
        cases (refused verdict w s x)
        (λ e. call_refused s x h e)
        (λ e. call_run s x h.memory h.is h.reached e (f.same e)
        (record { words = memory_small x.page f.bytes; sized = memory_sized x.page 4096 (open_lengths s x e).pages }))

    processes_append : (es fs : List Seen) → processes (es ++ fs) ≡ processes es ++ processes fs
    unfolding processes
    processes_append [] fs = refl
    processes_append (e ∷ es) fs = ap (λ (z : List ℕ). e.process ∷ z) (processes_append es fs)

    answers_append : (es fs : List Seen) → answers (es ++ fs) ≡ answers es ++ answers fs
    unfolding answers
    answers_append [] fs = refl
    answers_append (e ∷ es) fs = ap (λ (z : List ℕ). e.answer ∷ z) (answers_append es fs)

    follows_append : (s s' s'' q q' l l' : List ℕ) (es fs : List Seen) → Follows (table_of w t) s s' q l es → Follows (table_of w t) s' s'' q' l' fs
        → Follows (table_of w t) s s'' (q ++ q') (l ++ l') (es ++ fs)
    follows_append s s' s'' q q' l l' es fs h k = record {
      course = course_append (table_of w t) (StepOf (table_of w t)) s s' s'' es fs h.course k.course;
      next = k.next;
      named = rw (processes_append es fs, h.named, k.named);
      answered = rw (answers_append es fs, h.answered, k.answered);
    }

    -- A LIST OF CALLS, those refused among them
    pub follows : (s : List ℕ) (xs : List Ask) → At (table_of w t) s → Calls verdict w t s xs
        → Follows (table_of w t) s (state_after verdict w s xs) (order verdict w s xs) (written verdict w s xs) (history verdict w s xs)
    unfolding Calls history order written state_after processes answers
    follows s [] h c = record { course = course_none (table_of w t) (StepOf (table_of w t)) s; next = h; named = refl; answered = refl }
    follows s (x ∷ xs) h c =
        let f = call_follows s x h c.0 in
        follows_append _ _ _ _ _ _ _ _ _ f (follows (state_left (call_of verdict w s x)) xs f.next c.1)

    page_handed : (x : Ask) → Bytes x.page → length x.page ≡ page_size → page_bytes (memory_of x.page) ≡ x.page
    unfolding page_bytes
    page_handed x b e = bytes_memory 4096 x.page b e

    run_devices : (s : List ℕ) (x : Ask) (m : Memory) → s ≡ state_bytes m → Reached (table_of w t) m → refused verdict w s x ≡ false → x.table ≡ t → Page (memory_of x.page)
        → page_bytes (memory_of x.page) ≡ x.page → Devices verdict w s x
    unfolding steps_of Seeing page_left
    run_devices s x m i h e k g same =
        let back : memory_of s ≡ m = ap memory_of i ∙ state_memory (table_of w t) m h in
        let r = traced (table_of w t) laws x.schedule m (memory_of x.page) h g in
        let is : run (table_of w x.table) x.schedule (memory_of s) (memory_of x.page) ≡ ran r.given r.state r.devices = rw (k, back) r.is in
        let c = open_call s x r.given r.state r.devices e is in
        record {
          seeing = rw (e, k, back) (rw same at r.seeing);
          left = rw (c, e, k, back) (sym (rw same at r.leaving));
          state = sym (call_run s x m i h e k g).course.last;
        }

    call_devices : (s : List ℕ) (x : Ask) → At (table_of w t) s → AskFits verdict w t s x → Devices verdict w s x
    unfolding steps_of Seeing devices_after
    call_devices s x h f =
        cases (refused verdict w s x)
        (λ e. record { seeing = rw e tt; left = rw (e, refused_page s x e); state = sym (call_refused s x h e).course.last })
        (λ e.
        let l = (open_lengths s x e).pages in
        run_devices s x h.memory h.is h.reached e (f.same e)
        (record { words = memory_small x.page f.bytes; sized = memory_sized x.page 4096 l })
        (page_handed x f.bytes l))

    -- what the steps see of the devices
    pub handed : (s : List ℕ) (xs : List Ask) → At (table_of w t) s → Calls verdict w t s xs → Handed verdict w s xs
    unfolding Calls Handed
    handed s [] h c = tt
    handed s (x ∷ xs) h c =
        (call_devices s x h c.0, handed (state_left (call_of verdict w s x)) xs (call_follows s x h c.0).next c.1)

    state_long : (m : Memory) → length (state_bytes m) ≡ state_size
    unfolding state_bytes bytes_of
    state_long m = length_bytes_at m 0 state_words

    zero_refusal : (s : List ℕ) (x : Ask) → At (table_of w t) s → verdict w t ≡ 0 → x.table ≡ t → length x.page ≡ page_size → length x.schedule ≤ length x.answers
        → run_refusal verdict w x.table s x.page x.schedule x.answers ≡ 0
    unfolding run_refusal refusal run_lengths both
    zero_refusal s x h v e p l =
        let g : length s ≡ state_size = ap length h.is ∙ state_long h.memory in
        rw (eq-eqb (length s) state_size g, eq-eqb (length x.page) page_size p, le-leb (length x.schedule) (length x.answers) l, e, v, (at_memory (table_of w t) s h).ruled)

    call_served : (s : List ℕ) (x : Ask) → At (table_of w t) s → verdict w t ≡ 0 → Bytes x.page → x.table ≡ t → length x.page ≡ page_size → length x.schedule ≤ length x.answers
        → refused verdict w s x ≡ false
    unfolding refused call_of run_call finished result
    call_served s x h v b e p l =
        let back : memory_of s ≡ h.memory = ap memory_of h.is ∙ state_memory (table_of w t) h.memory h.reached in
        let g : Page (memory_of x.page) = record { words = memory_small x.page b; sized = memory_sized x.page 4096 p } in
        let r = traced (table_of w t) laws x.schedule h.memory (memory_of x.page) h.reached g in
        let is : run (table_of w x.table) x.schedule (memory_of s) (memory_of x.page) ≡ ran r.given r.state r.devices = rw (e, back) r.is in
        rw (zero_refusal s x h v e p l, is)

    -- no call is refused for its state
    pub served : (s : List ℕ) (xs : List Ask) → verdict w t ≡ 0 → At (table_of w t) s → Calls verdict w t s xs → Served verdict w t s xs
    unfolding Calls Served
    served s [] v h c = tt
    served s (x ∷ xs) v h c =
        (λ e p l. call_served s x h v c.0.bytes e p l, served (state_left (call_of verdict w s x)) xs v (call_follows s x h c.0).next c.1)

    -- AGREEMENT: two lists of calls from one state of which the same is asked up to a step tell the same up to it, wherever the calls
    -- begin and end
    pub same_told : (s : List ℕ) (xs ys : List Ask) → At (table_of w t) s → Calls verdict w t s xs → Calls verdict w t s ys → (n : ℕ)
        → take n (asked (history verdict w s xs)) ≡ take n (asked (history verdict w s ys)) → take n (told (history verdict w s xs)) ≡ take n (told (history verdict w s ys))
    same_told s xs ys h c k n e = up_to xs c ∙ ap (feed (table_of w t) s) e ∙ sym (up_to ys k)
      where
        up_to : (zs : List Ask) → Calls verdict w t s zs → take n (told (history verdict w s zs)) ≡ feed (table_of w t) s (take n (asked (history verdict w s zs)))
        up_to zs u =
            ap (take n) (told_feed (table_of w t) (StepOf (table_of w t)) _ _ _ (follows s zs h u).course)
            ∙ feed_take (table_of w t) s n (asked (history verdict w s zs))

    -- begin
    pub begun_at : (slice : List ℕ) (number : ℕ) → begun_result (begin_call verdict w t slice number) ≡ 0 → begun_with verdict w t slice number ≡ state_bytes (begin (table_of w t) number)
    unfolding begun_with begun_state begin_call begun_result state_bytes
    begun_at slice number e =
        cases (eqb (begin_refusal verdict w t slice number) 0)
        (λ z. rw z)
        (λ z. absurd (eqb-false _ 0 z (rw z at e)))

    pub at_begin : (slice : List ℕ) (number : ℕ) → number ≤ 1 → BeginLaw (table_of w t) → begun_result (begin_call verdict w t slice number) ≡ 0
        → At (table_of w t) (begun_with verdict w t slice number)
    at_begin slice number h l e = record { memory = begin (table_of w t) number; is = begun_at slice number e; reached = l.reached number h }
