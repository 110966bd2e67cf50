-- A board tested under 0 behaves alike under 1, where demand 3 is met (02, g). Assumes nothing.
use Prim.Native.Nat.{ℕ, zero, suc, ◌+◌, ◌<◌}
use mathlib.Core.Path.{◌≡◌, refl, sym, ap, ◌∙◌}
use mathlib.Core.Bool.{Bool, true, false}
use mathlib.Core.List.{List, [], ◌∷◌, ◌++◌}
use native.Mathlib.Omega.{arith}
use lib.Dec.{eqb}
use lib.ListN.{take}
use borrow.Author.Tests.{eqb-false, ne_eqb}
use Rattle.basics.specs.Choice.{pick}
use Rattle.basics.specs.Cases.{cases}
use Rattle.table.specs.Table.{Table, table_of}
use Rattle.machine.specs.Memory.{Memory, update, fill, memory_of, bytes_of}
use Rattle.machine.specs.Layout.{plain_words, mark_words, state_words, page_words, number_at}
use Rattle.machine.specs.Calls.{standing}
use Rattle.machine.specs.Step.{Step, done, step}
use Rattle.machine.specs.Run.{on_done, begin}
use Rattle.machine.specs.Run as start
use Rattle.machine.specs.Rule.{rule}
use Rattle.machine.specs.Public.{begin_refusal, begin_call}
use Rattle.machine.proofs.Memories.{within_below, length_bytes, low_byte, high_byte, bytes_memory}
use Rattle.sound.specs.Histories.{Seen, state_bytes, page_bytes, seen, trace, asked, shown, finally, Threaded, Every, begun_result, begun_state, state_left, Ask, call_of, refused, steps_of, history, begun_with, History, first, steps}
use Rattle.sound.specs.Demand.{StepHolds, Demand3}
use Rattle.sound.specs.Tested.{TestedAlike}
use Rattle.sound.proofs.Memory.Bytes.{bytes-of}
use Rattle.sound.proofs.StartValues.Twins.{Twin}
use Rattle.sound.proofs.StartValues.TwinSteps.{TwinStep, twin_step}

-- ---- begin

-- the number says no other word of the areas and control records
first-same : (T : Table) (n k i : ℕ) → (i ≡ number_at → ⊥) → start.initial_state T k i ≡ start.initial_state T n i
unfolding start.initial_state standing update
first-same T n k i d = rw (ne_eqb i number_at d)

begin_same : (T : Table) (n k i : ℕ) → i < plain_words → (i ≡ number_at → ⊥) → begin T k i ≡ begin T n i
unfolding begin fill
begin_same T n k i l d = rw (within_below plain_words mark_words i l) (first-same T n k i d)

-- a word of bytes is that of the memory that they were made from
bytes_same : (m s : Memory) (i : ℕ) → i < state_words → s i ≡ m i → memory_of (state_bytes s) i ≡ memory_of (state_bytes m) i
unfolding memory_of state_bytes bytes_of
bytes_same m s i l e =
    let z : 0 + i ≡ i = omega arith in
    rw (low_byte s 0 state_words i l, high_byte s 0 state_words i l, low_byte m 0 state_words i l, high_byte m 0 state_words i l, z, e)

-- ---- device words

-- the device words that a step leaves are those of a page
record Left (e : Seen) : Type 0 where
  is : page_bytes (memory_of e.left) ≡ e.left

page_left : (p : ℕ) (m page : Memory) (a : ℕ) (s d : Memory) → Left (seen p m page a s d)
unfolding seen page_bytes
page_left p m page a s d = record { is = bytes_memory page_words (bytes_of page_words d) (bytes-of d page_words) (length_bytes page_words d) }

module _ (rest : List Seen) (h : Every Left rest) where
  done_left : (r : Step) (p : ℕ) (m page : Memory) (f : Memory → Memory → List Seen) → ((s d : Memory) → Every Left (f s d ++ rest))
      → Every Left (on_done r [] (λ a s d. seen p m page a s d ∷ f s d) ++ rest)
  unfolding on_done Every
  done_left (done a s d) p m page f g = (page_left p m page a s d, g s d)
  done_left Step.stuck p m page f g = h

  trace_left : (T : Table) (q : List ℕ) (m page : Memory) → Every Left (trace T q m page ++ rest)
  unfolding trace
  trace_left T [] m page = h
  trace_left T (p ∷ q) m page = done_left (step T m page p) p m page (trace T q) (trace_left T q)

  picked_left : (b : Bool) (es : List Seen) → Every Left (es ++ rest) → Every Left (pick b [] es ++ rest)
  picked_left true es g = h
  picked_left false es g = g

history_left : (verdict : ℕ → List ℕ → ℕ) (w : ℕ) (s : List ℕ) (xs : List Ask) → Every Left (history verdict w s xs)
unfolding history steps_of Every
history_left verdict w s [] = tt
history_left verdict w s (x ∷ xs) =
    let h = history_left verdict w (state_left (call_of verdict w s x)) xs in
    picked_left _ h (refused verdict w s x) _ (trace_left _ h (table_of w x.table) x.schedule _ _)

-- ---- steps

-- the steps of a run, from state s, which meets the state rule
record Steps (T : Table) (s : List ℕ) (es : List Seen) : Type 0 where
  ruled : rule T (memory_of s) ≡ true
  threaded : Threaded s es
  holds : Every (StepHolds T) es
  left : Every Left es

module _ (T : Table) (s : List ℕ) (e : Seen) (es : List Seen) (h : Steps T s (e ∷ es)) where
  head_is : step T (memory_of s) (memory_of e.given) e.process ≡ done e.answer (memory_of e.after) (memory_of e.left)
  unfolding Threaded Every
  head_is = rw h.threaded.0 at h.holds.0.is

  head_left : page_bytes (memory_of e.left) ≡ e.left
  unfolding Every
  head_left = h.left.0.is

  tail_steps : Steps T e.after es
  unfolding Threaded Every
  tail_steps = record { ruled = h.holds.0.ruled; threaded = h.threaded.1; holds = h.holds.1; left = h.left.1 }

-- what a step and the twin's step of which the same is asked show
record Shown (e f : Seen) : Type 0 where
  answer : f.answer ≡ e.answer
  left : f.left ≡ e.left
  twin : Twin (memory_of e.after) (memory_of f.after)

module _ (T : Table) (s r : List ℕ) (e f : Seen) (es fs : List Seen) (h : Steps T s (e ∷ es)) (k : Steps T r (f ∷ fs))
    (t : Twin (memory_of s) (memory_of r)) (p : f.process ≡ e.process) (g : f.given ≡ e.given) (n : e.answer ≡ 31 → ⊥) where
  twin_done : TwinStep T (memory_of s) (memory_of r) (memory_of e.given) e.process t h.ruled e.answer (memory_of e.after) (memory_of e.left)
  twin_done = twin_step T (memory_of s) (memory_of r) (memory_of e.given) e.process t h.ruled e.answer (memory_of e.after) (memory_of e.left) (head_is T s e es h) n

  twin_is : done f.answer (memory_of f.after) (memory_of f.left) ≡ done e.answer twin_done.state (memory_of e.left)
  twin_is = sym (rw (p, g) at (head_is T r f fs k)) ∙ twin_done.is

  shown_alike : Shown e f
  shown_alike =
      let w = twin_is in
      let x : f.answer ≡ e.answer = cc in
      let y : memory_of f.after ≡ twin_done.state = cc in
      let z : memory_of f.left ≡ memory_of e.left = cc in
      record {
        answer = x;
        left = sym (head_left T r f fs k) ∙ ap page_bytes z ∙ head_left T s e es h;
        twin = rw y twin_done.twin;
      }

-- the first steps of a run and of its twin
shows_alike : (T : Table) (n : ℕ) (s r : List ℕ) (es fs : List Seen) → Steps T s es → Steps T r fs → Twin (memory_of s) (memory_of r)
    → take n (asked fs) ≡ take n (asked es) → Every (λ e. e.answer ≡ 31 → ⊥) (take n es) → take n (shown fs) ≡ take n (shown es)
unfolding asked shown Every
shows_alike T zero s r es fs h k t q u = refl
shows_alike T (suc n) s r [] [] h k t q u = refl
shows_alike T (suc n) s r [] (f ∷ fs) h k t q u = let z : ◌≡◌ {A = ℕ} 0 1 = cc in absurd (omega arith)
shows_alike T (suc n) s r (e ∷ es) [] h k t q u = let z : ◌≡◌ {A = ℕ} 0 1 = cc in absurd (omega arith)
shows_alike T (suc n) s r (e ∷ es) (f ∷ fs) h k t q u =
    let a : ◌≡◌ {A = ℕ × List ℕ} (f.process, f.given) (e.process, e.given) = cc in
    let p : f.process ≡ e.process = ap (λ (z : ℕ × List ℕ). z.0) a in
    let g : f.given ≡ e.given = ap (λ (z : ℕ × List ℕ). z.1) a in
    let rest : take n (asked fs) ≡ take n (asked es) = cc in
    let v = shown_alike T s r e f es fs h k t p g u.0 in
    rw (v.answer, v.left, shows_alike T n e.after f.after es fs (tail_steps T s e es h) (tail_steps T r f fs k) v.twin rest u.1)

-- ---- runs

module _ (verdict : ℕ → List ℕ → ℕ) (w : ℕ) (demand3 : (h : History verdict w) → Demand3 verdict w h)
    (first_ruled : (h : History verdict w) → rule (table_of w h.table) (memory_of (first verdict w h)) ≡ true) where
  begun_is : (t slice : List ℕ) (n : ℕ) → begun_result (begin_call verdict w t slice n) ≡ 0 → begun_with verdict w t slice n ≡ state_bytes (begin (table_of w t) n)
  unfolding begun_with begun_state begin_call begun_result state_bytes
  begun_is t slice n e =
      cases (eqb (begin_refusal verdict w t slice n) 0)
      (λ z. rw z)
      (λ z. absurd (eqb-false _ 0 z (rw z at e)))

  run_steps : (h : History verdict w) → Steps (table_of w h.table) (first verdict w h) (steps verdict w h)
  run_steps h = record {
    ruled = first_ruled h;
    threaded = (demand3 h).threaded;
    holds = (demand3 h).holds;
    left = history_left verdict w (first verdict w h) h.calls;
  }

  table_steps : (T : Table) (h : History verdict w) → table_of w h.table ≡ T → Steps T (first verdict w h) (steps verdict w h)
  table_steps T h e = rw e at (run_steps h)

  module _ (h k : History verdict w) (e : k.table ≡ h.table) (one : k.number ≡ 1) where
    first_twin : Twin (memory_of (first verdict w h)) (memory_of (first verdict w k))
    unfolding finally
    first_twin = record {
      plain = λ i l d.
          rw (begun_is k.table k.slice k.number k.begins, begun_is h.table h.slice h.number h.begins, e)
          (bytes_same _ _ i (omega arith) (begin_same (table_of w h.table) h.number k.number i l d));
      number = (demand3 k).number [] (steps verdict w k) refl ∙ one;
      set = (demand3 k).set one [] (steps verdict w k) refl;
    }

  -- THE THEOREM
  pub tested_alike : (h : History verdict w) → TestedAlike verdict w h
  tested_alike h = record {
    shows = λ k e one n q u.
        shows_alike (table_of w h.table) n (first verdict w h) (first verdict w k) (steps verdict w h) (steps verdict w k)
        (run_steps h) (table_steps (table_of w h.table) k (ap (table_of w) e)) (first_twin h k e one) q u;
  }
