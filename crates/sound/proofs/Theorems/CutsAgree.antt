-- A call, and the calls that it may be cut into, for every input of bytes. Assumes nothing.
use Prim.Native.Nat.{ℕ}
use mathlib.Core.Path.{◌≡◌, refl, sym, ap, subst, ◌∙◌}
use mathlib.Core.Bool.{Bool, true, false}
use mathlib.Core.List.{List, [], ◌∷◌, ◌++◌, append_assoc}
use native.Mathlib.Omega.{arith}
use lib.ListN.{length, drop, length-append}
use lib.Dec.{eqb}
use lib.Seq.{take_at}
use borrow.Author.Tests.{eq-eqb, ne_eqb, eqb-true, eqb-false, le-leb}
use Rattle.basics.specs.Choice.{pick, both}
use Rattle.basics.specs.Cases.{cases}
use Rattle.words.specs.Bytes.{Bytes}
use Rattle.table.specs.Table.{Table, table_of}
use Rattle.verdict.specs.Verdict.{verdict}
use Rattle.machine.specs.Memory.{Memory, memory_of, bytes_of}
use Rattle.machine.specs.Step.{Step, done, step}
use Rattle.machine.specs.Run.{Run, ran, on_done, before, run}
use Rattle.machine.specs.Public.{called, finished, refusal, run_lengths, run_refusal, run_call}
use Rattle.machine.proofs.Calling.{run_refused, run_accepted, run_empty}
use Rattle.machine.proofs.Memories.{length_bytes_at}
use Rattle.machine.specs.Layout.{state_words, state_size, page_size}
use Rattle.sound.specs.Histories.{Seen, state_bytes, page_bytes, seen, trace, result, state_left, page_left, answers_left, Ask, call_of, refused, steps_of, written_of, history, written, state_after}
use Rattle.sound.specs.Cuts.{Piece, end_to_end, one_each, ask_of, in_turn, page_after, AllReturn, CutAlike}
use Rattle.sound.proofs.Runs.CallLists.{Traced, state_memory, page_memory}
use Rattle.sound.proofs.Memory.Bytes.{bytes-of}
use Rattle.sound.proofs.Theorems.Refusals.{open_traced, open_run}

-- ---- a run over two schedules end to end

unfoldable behind : List ℕ → Run → Run
behind l (ran k m d) = ran (l ++ k) m d
behind l Run.stuck = Run.stuck

unfoldable on_ran {ℓ} : {A : Type ℓ} → Run → A → (List ℕ → Memory → Memory → A) → A
on_ran (ran l m d) x f = f l m d
on_ran Run.stuck x f = x

behind_none : (r : Run) → r ≡ behind [] r
unfolding behind
behind_none (ran k m d) = refl
behind_none Run.stuck = refl

before_behind : (a : ℕ) (l : List ℕ) (r : Run) → before a (behind l r) ≡ behind (a ∷ l) r
unfolding behind before
before_behind a l (ran k m d) = refl
before_behind a l Run.stuck = refl

before_on : (a : ℕ) (r : Run) (f : Memory → Memory → Run) → before a (on_ran r Run.stuck λ l m d. behind l (f m d)) ≡ on_ran (before a r) Run.stuck λ l m d. behind l (f m d)
unfolding on_ran before
before_on a (ran l m d) f = before_behind a l (f m d)
before_on a Run.stuck f = refl

before_trace : (a : ℕ) (r : Run) (f : Memory → Memory → List Seen) → (on_ran r [] λ l m d. f m d) ≡ on_ran (before a r) [] λ l m d. f m d
unfolding on_ran before
before_trace a (ran l m d) f = refl
before_trace a Run.stuck f = refl

module _ (T : Table) (r : List ℕ) where
  run_on : (x : Step) (q : List ℕ) → ((m d : Memory) → run T (q ++ r) m d ≡ on_ran (run T q m d) Run.stuck λ l s e. behind l (run T r s e))
      → (on_done x Run.stuck λ a s e. before a (run T (q ++ r) s e)) ≡ on_ran (on_done x Run.stuck λ a s e. before a (run T q s e)) Run.stuck λ l s e. behind l (run T r s e)
  unfolding on_done on_ran
  run_on (done a s e) q h = ap (before a) (h s e) ∙ before_on a (run T q s e) (run T r)
  run_on Step.stuck q h = refl

  run-append : (q : List ℕ) (m d : Memory) → run T (q ++ r) m d ≡ on_ran (run T q m d) Run.stuck λ l s e. behind l (run T r s e)
  unfolding run on_ran
  run-append [] m d = behind_none (run T r m d)
  run-append (p ∷ q) m d = run_on (step T m d p) q (run-append q)

  trace_on : (x : Step) (p : ℕ) (m d : Memory) (q : List ℕ) → ((s e : Memory) → trace T (q ++ r) s e ≡ trace T q s e ++ (on_ran (run T q s e) [] λ l s e. trace T r s e))
      → (on_done x [] λ a s e. seen p m d a s e ∷ trace T (q ++ r) s e)
      ≡ (on_done x [] λ a s e. seen p m d a s e ∷ trace T q s e) ++ (on_ran (on_done x Run.stuck λ a s e. before a (run T q s e)) [] λ l s e. trace T r s e)
  unfolding on_done on_ran
  trace_on (done a s e) p m d q h =
      ap (λ (l : List Seen). seen p m d a s e ∷ l) (h s e ∙ ap (λ (l : List Seen). trace T q s e ++ l) (before_trace a (run T q s e) (trace T r)))
  trace_on Step.stuck p m d q h = refl

  trace_append : (q : List ℕ) (m d : Memory) → trace T (q ++ r) m d ≡ trace T q m d ++ (on_ran (run T q m d) [] λ l s e. trace T r s e)
  unfolding run trace on_ran
  trace_append [] m d = refl
  trace_append (p ∷ q) m d = trace_on (step T m d p) p m d q (trace_append q)

-- ---- calls

module _ (w : ℕ) (t : List ℕ) where
  abbrev number : List ℕ → List ℕ → Piece → ℕ
  number s d x = run_refusal verdict w t s d x.schedule x.answers

  -- what a call comes to: its result, the state and the page that it leaves, the answers written, the steps
  record Comes (s d : List ℕ) (x : Piece) (n : ℕ) (s' d' l : List ℕ) (es : List Seen) : Type 0 where
    result-is : result (call_of verdict w s (ask_of t d x)) ≡ n
    state-is : state_left (call_of verdict w s (ask_of t d x)) ≡ s'
    page_is : page_left (call_of verdict w s (ask_of t d x)) ≡ d'
    written_is : written_of verdict w s (ask_of t d x) ≡ l
    steps_are : steps_of verdict w s (ask_of t d x) ≡ es

  comes_refused : (s d : List ℕ) (x : Piece) → (number s d x ≡ 0 → ⊥) → Comes s d x (number s d x) s d [] []
  unfolding call_of ask_of result state_left page_left written_of steps_of refused
  comes_refused s d x n =
      let c = run_refused verdict w t s d x.schedule x.answers n in
      let f = ne_eqb (number s d x) 0 n in
      record { result-is = rw c; state-is = rw c; page_is = rw c; written_is = rw (c, f); steps_are = rw (c, f) }

  comes_open : (s d : List ℕ) (x : Piece) (s' d' l k : List ℕ) → run_call verdict w t s d x.schedule x.answers ≡ called 0 s' d' (l ++ k) → length l ≡ length x.schedule
      → Comes s d x 0 s' d' l (trace (table_of w t) x.schedule (memory_of s) (memory_of d))
  unfolding call_of ask_of result state_left page_left answers_left written_of steps_of refused
  comes_open s d x s' d' l k c e =
      record { result-is = rw c; state-is = rw c; page_is = rw c; written_is = rw (c, take_at l k (length x.schedule) e); steps_are = rw c }

  -- the number depends on the lengths of schedule and answers only in that these have room
  number_same : (s d : List ℕ) (x y : Piece) → number s d x ≡ number s d y
  unfolding run_refusal run_lengths
  number_same s d x y = rw (le-leb (length x.schedule) (length x.answers) x.room, le-leb (length y.schedule) (length y.answers) y.room)

  -- two calls in turn, x and y, against one, u
  record Pair (s d : List ℕ) (u x y : Piece) : Type 0 where
    n : ℕ
    s1 : List ℕ
    d1 : List ℕ
    l1 : List ℕ
    e1 : List Seen
    s2 : List ℕ
    d2 : List ℕ
    l2 : List ℕ
    e2 : List Seen
    state : Bytes s1
    page : Bytes d1
    whole : Comes s d u n s2 d2 (l1 ++ l2) (e1 ++ e2)
    first : Comes s d x n s1 d1 l1 e1
    second : Comes s1 d1 y n s2 d2 l2 e2

  module _ (bt : Bytes t) (s d : List ℕ) (bs : Bytes s) (bd : Bytes d) (u x y : Piece) where
    pair_refused : (number s d x ≡ 0 → ⊥) → Pair s d u x y
    pair_refused n =
        let eu = number_same s d x u in
        let ey = number_same s d x y in
        record {
          n = number s d x;
          s1 = s;
          d1 = d;
          l1 = [];
          e1 = [];
          s2 = s;
          d2 = d;
          l2 = [];
          e2 = [];
          state = bs;
          page = bd;
          whole = rw eu (comes_refused s d u (rw eu at n));
          first = comes_refused s d x n;
          second = rw ey (comes_refused s d y (rw ey at n));
        }

    module _ (z : number s d x ≡ 0) where
      X : Traced (table_of w t) x.schedule (memory_of s) (memory_of d)
      X = open_traced w t s d x.schedule x.answers bt bs bd z

      state1 : List ℕ
      state1 = state_bytes X.state

      page1 : List ℕ
      page1 = page_bytes X.devices

      state1_bytes : Bytes state1
      unfolding state1 state_bytes
      state1_bytes = bytes-of X.state state_words

      page1_bytes : Bytes page1
      unfolding page1 page_bytes
      page1_bytes = bytes-of X.devices 4096

      state1_memory : memory_of state1 ≡ X.state
      unfolding state1
      state1_memory = state_memory (table_of w t) X.state X.reached

      page1_memory : memory_of page1 ≡ X.devices
      unfolding page1
      page1_memory = page_memory X.devices X.paged

      state1_long : length state1 ≡ state_size
      unfolding state1 state_bytes bytes_of
      state1_long = length_bytes_at X.state 0 state_words

      page1_long : length page1 ≡ page_size
      unfolding page1 page_bytes bytes_of
      page1_long = length_bytes_at X.devices 0 4096

      zero_y : number state1 page1 y ≡ 0
      unfolding run_refusal run_lengths refusal both
      zero_y =
          rw (eq-eqb (length state1) state_size state1_long, eq-eqb (length page1) page_size page1_long, le-leb (length y.schedule) (length y.answers) y.room, run_accepted verdict w t s d x.schedule x.answers z, state1_memory, X.reached.ruled)

      Y : Traced (table_of w t) y.schedule (memory_of state1) (memory_of page1)
      Y = open_traced w t state1 page1 y.schedule y.answers bt state1_bytes page1_bytes zero_y

      y_run : run (table_of w t) y.schedule X.state X.devices ≡ ran Y.given Y.state Y.devices
      y_run = ap (λ (u : Memory). run (table_of w t) y.schedule u X.devices) (sym state1_memory) ∙ ap (run (table_of w t) y.schedule (memory_of state1)) (sym page1_memory) ∙ Y.is

      module _ (e : u.schedule ≡ x.schedule ++ y.schedule) where
        u_run : run (table_of w t) u.schedule (memory_of s) (memory_of d) ≡ ran (X.given ++ Y.given) Y.state Y.devices
        unfolding on_ran behind
        u_run =
            ap (λ (q : List ℕ). run (table_of w t) q (memory_of s) (memory_of d)) e
            ∙ run-append (table_of w t) y.schedule x.schedule (memory_of s) (memory_of d)
            ∙ rw (X.is, y_run)

        u_trace : trace (table_of w t) u.schedule (memory_of s) (memory_of d)
            ≡ trace (table_of w t) x.schedule (memory_of s) (memory_of d) ++ trace (table_of w t) y.schedule (memory_of state1) (memory_of page1)
        unfolding on_ran
        u_trace =
            ap (λ (q : List ℕ). trace (table_of w t) q (memory_of s) (memory_of d)) e
            ∙ trace_append (table_of w t) y.schedule x.schedule (memory_of s) (memory_of d)
            ∙ rw (X.is, state1_memory, page1_memory)

        u_long : length (X.given ++ Y.given) ≡ length u.schedule
        u_long = length-append X.given Y.given ∙ rw (X.long, Y.long, e) (sym (length-append x.schedule y.schedule))

        u_call : run_call verdict w t s d u.schedule u.answers
            ≡ called 0 (state_bytes Y.state) (page_bytes Y.devices) ((X.given ++ Y.given) ++ drop (length (X.given ++ Y.given)) u.answers)
        unfolding run_call finished state_bytes page_bytes
        u_call = rw (eq-eqb (number s d u) 0 (number_same s d u x ∙ z), u_run)

        pair_open : Pair s d u x y
        unfolding state1 page1 X Y
        pair_open = record {
          n = 0;
          s1 = state1;
          d1 = page1;
          l1 = X.given;
          e1 = trace (table_of w t) x.schedule (memory_of s) (memory_of d);
          s2 = state_bytes Y.state;
          d2 = page_bytes Y.devices;
          l2 = Y.given;
          e2 = trace (table_of w t) y.schedule (memory_of state1) (memory_of page1);
          state = state1_bytes;
          page = page1_bytes;
          whole = rw (← u_trace) (comes_open s d u _ _ _ _ u_call u_long);
          first = comes_open s d x _ _ _ _ (open_run w t s d x.schedule x.answers bt bs bd z) X.long;
          second = comes_open state1 page1 y _ _ _ _ (open_run w t state1 page1 y.schedule y.answers bt state1_bytes page1_bytes zero_y) Y.long;
        }

    pair : u.schedule ≡ x.schedule ++ y.schedule → Pair s d u x y
    pair e = cases (eqb (number s d x) 0) (λ h. pair_open (eqb-true _ 0 h) e) (λ h. pair_refused (eqb-false _ 0 h))

  -- ---- any number of calls

  cut_none : (s d : List ℕ) (u : Piece) (n : ℕ) → Comes s d u n s d [] [] → CutAlike verdict w t s d u []
  unfolding AllReturn in_turn state_after page_after written history
  cut_none s d u n C = record {
    results = tt;
    state = sym C.state-is;
    page = sym C.page_is;
    answers = sym C.written_is;
    steps = λ ys. rw (C.steps_are, C.state-is);
  }

  state_cons : (s s1 : List ℕ) (x : Ask) (xs : List Ask) → state_left (call_of verdict w s x) ≡ s1 → state_after verdict w s (x ∷ xs) ≡ state_after verdict w s1 xs
  unfolding state_after
  state_cons s s1 x xs e = ap (λ (z : List ℕ). state_after verdict w z xs) e

  page_cons : (s d s1 d1 : List ℕ) (x : Ask) (xs : List Ask) → state_left (call_of verdict w s x) ≡ s1 → page_left (call_of verdict w s x) ≡ d1
      → page_after verdict w s d (x ∷ xs) ≡ page_after verdict w s1 d1 xs
  unfolding page_after
  page_cons s d s1 d1 x xs e f = ap (λ (z : List ℕ). page_after verdict w z (page_left (call_of verdict w s x)) xs) e ∙ ap (λ (z : List ℕ). page_after verdict w s1 z xs) f

  cut-more : (s d : List ℕ) (u x y : Piece) (xs : List Piece) (P : Pair s d u x y) → CutAlike verdict w t P.s1 P.d1 y xs → CutAlike verdict w t s d u (x ∷ xs)
  unfolding AllReturn in_turn written history
  cut-more s d u x y xs P C =
      let first = P.first in
      let second = P.second in
      let whole = P.whole in
      record {
        results = (
          first.result-is ∙ sym whole.result-is,
          rw (first.state-is, first.page_is) (subst (λ n. AllReturn verdict w n P.s1 (in_turn verdict w t P.s1 P.d1 xs)) (second.result-is ∙ sym whole.result-is) C.results),
        );
        state = state_cons _ _ _ _ first.state-is ∙ rw (first.state-is, first.page_is) (C.state ∙ second.state-is ∙ sym whole.state-is);
        page = page_cons _ _ _ _ _ _ first.state-is first.page_is ∙ rw (first.state-is, first.page_is) (C.page ∙ second.page_is ∙ sym whole.page_is);
        answers = rw (first.state-is, first.page_is, first.written_is, C.answers, second.written_is) (sym whole.written_is);
        steps = λ ys.
            rw (first.state-is, first.page_is, first.steps_are, whole.steps_are, whole.state-is, C.steps ys, second.steps_are, second.state-is)
            (sym (append_assoc P.e1 P.e2 (history verdict w P.s2 ys)));
      }

  comes_none : Bytes t → (s d : List ℕ) → Bytes s → Bytes d → (u : Piece) → [] ≡ u.schedule → Comes s d u (number s d u) s d [] []
  unfolding trace
  comes_none bt s d bs bd u e =
      cases (eqb (number s d u) 0)
      (λ h.
      let z : number s d u ≡ 0 = eqb-true _ 0 h in
      let c : run_call verdict w t s d u.schedule u.answers ≡ called 0 s d u.answers = rw (← e) (run_empty verdict w t s d u.answers bs bd (rw (← e) at z)) in
      let k : trace (table_of w t) u.schedule (memory_of s) (memory_of d) ≡ [] = rw (← e) in
      rw z (subst (λ (es : List Seen). Comes s d u 0 s d [] es) k (comes_open s d u s d [] u.answers c (ap length e))))
      (λ h. comes_refused s d u (eqb-false _ 0 h))

  -- THE THEOREM: a call may be cut into any pieces
  pub cuts : Bytes t → (s d : List ℕ) → Bytes s → Bytes d → (u : Piece) (xs : List Piece) → end_to_end xs ≡ u.schedule → CutAlike verdict w t s d u xs
  unfolding end_to_end
  cuts bt s d bs bd u [] e = cut_none s d u (number s d u) (comes_none bt s d bs bd u e)
  cuts bt s d bs bd u (x ∷ xs) e =
      let y : Piece = record { schedule = end_to_end xs; answers = end_to_end xs; room = omega arith } in
      let P = pair bt s d bs bd u x y (sym e) in
      cut-more s d u x y xs P (cuts bt P.s1 P.d1 P.state P.page y xs refl)

  one-each : (q : List ℕ) → end_to_end (one_each q) ≡ q
  unfolding end_to_end one_each
  one-each [] = refl
  one-each (p ∷ q) = ap (λ (l : List ℕ). p ∷ l) (one-each q)

  -- one call of n steps, and n calls of one step
  pub cuts_one_each : Bytes t → (s d : List ℕ) → Bytes s → Bytes d → (u : Piece) → CutAlike verdict w t s d u (one_each u.schedule)
  cuts_one_each bt s d bs bd u = cuts bt s d bs bd u (one_each u.schedule) (one-each u.schedule)

-- ---- among other calls

finished_bytes : (s d out : List ℕ) (b : Bool) (n : ℕ) (r : Run) → Bytes s → Bytes (state_left (pick b (finished r (called 10 s d out) out) (called n s d out)))
unfolding finished state_left
finished_bytes s d out true n (ran l m e) h = bytes-of m state_words
finished_bytes s d out true n Run.stuck h = h
finished_bytes s d out false n r h = h

call_bytes : (w : ℕ) (s : List ℕ) (x : Ask) → Bytes s → Bytes (state_left (call_of verdict w s x))
unfolding call_of run_call
call_bytes w s x h = finished_bytes s x.page x.answers (eqb (run_refusal verdict w x.table s x.page x.schedule x.answers) 0) _ _ h

-- wherever the call stands in a list of calls, the steps of the list are the same
pub cuts_anywhere : (w : ℕ) (t : List ℕ) → Bytes t → (s d : List ℕ) → Bytes s → Bytes d → (u : Piece) (xs : List Piece) → end_to_end xs ≡ u.schedule
    → (zs ys : List Ask) → history verdict w s (zs ++ (in_turn verdict w t (state_after verdict w s zs) d xs ++ ys)) ≡ history verdict w s (zs ++ (ask_of t d u ∷ ys))
unfolding history state_after
cuts_anywhere w t bt s d bs bd u xs e [] ys = (cuts w t bt s d bs bd u xs e).steps ys
cuts_anywhere w t bt s d bs bd u xs e (z ∷ zs) ys =
    ap (λ (l : List Seen). steps_of verdict w s z ++ l) (cuts_anywhere w t bt (state_left (call_of verdict w s z)) d (call_bytes w s z bs) bd u xs e zs ys)
