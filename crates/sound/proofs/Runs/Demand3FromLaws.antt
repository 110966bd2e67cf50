-- DEMAND 3 is met where verdict 0 promises an accepted table and the laws of steps hold (01, A run, for demand 3; Agreement). Assumes nothing.
use Prim.Native.Nat.{ℕ, ◌+◌, ◌≤◌, ◌<◌}
use mathlib.Core.Path.{◌≡◌, refl, sym, ap, ◌∙◌}
use mathlib.Core.Bool.{true}
use mathlib.Core.List.{List, [], ◌∷◌, ◌++◌}
use lib.ListN.{length, take}
use lib.Dec.{eqb, leb, ltb}
use borrow.Author.Tests.{eqb-true, eqb-false, eq-eqb, leb-true, ltb-true, ltb-false}
use Rattle.basics.specs.Choice.{both}
use Rattle.basics.specs.Cases.{cases}
use Rattle.basics.proofs.Bools.{zero_test, both_r}
use Rattle.table.specs.Table.{Table, table_of}
use Rattle.machine.specs.Memory.{Memory, memory_of, update}
use Rattle.machine.specs.Layout.{module_at, created_at, failure_at, number_at, state_size}
use native.Mathlib.Omega.{arith}
use Rattle.machine.specs.Step.{Step, done, step}
use Rattle.machine.specs.Run.{begin}
use Rattle.machine.specs.Rule.{rule}
use Rattle.machine.specs.Public.{begin_refusal, begin_call, look}
use Rattle.verdict.specs.Accepted.{Accepted}
use Rattle.sound.specs.Reached.{Reached, WordTable, StepLaws, BeginLaw}
use Rattle.sound.specs.Histories.{Seen, asked, told, finally, Threaded, Every, Lasting, Calls, begun_result, History, first, steps}
use Rattle.sound.specs.InUse.{ValuesHold}
use Rattle.sound.specs.Created.{creations, ProcessesKept}
use Rattle.sound.specs.OpenCalls.{open_calls, calls_made}
use Rattle.sound.specs.Rows.{Changes, failure_mark, nothing, gives_up, ended_before, ends_now, absent, carried}
use Rattle.sound.specs.Demand.{StepHolds, Demand3}
use Rattle.sound.proofs.Runs.FirstStateWords.{word_table, begin_reached, begin_block, begin_created, begin_mark, begin_number}
use Rattle.sound.proofs.Runs.CallLists.{StepOf, state_memory, At, at_memory, follows, served, handed, same_told, begun_at, at_begin}
use Rattle.sound.proofs.Steps.CreatedKept.{CreatedIn, step_created, created_count, created_kept, mark_zero}
use Rattle.sound.proofs.Steps.WritesInside.{step_numbered}
use Rattle.sound.proofs.Rule.ValuesInUse.{rule_values}
use Rattle.sound.proofs.StartValues.NeverUnset.{begin_set, row_set, look_set, NumberedIn, number_kept}
use Rattle.machine.specs.Marks.{AllSet}
use Rattle.sound.proofs.StartValues.NumberStays.{Numbered}
use Rattle.sound.proofs.Calls.CallsKept.{step_calls}
use Rattle.sound.proofs.Calls.CallsListed.{calls-listed, calls-made, begin_none}
use Rattle.sound.proofs.Rule.RuleRecord.{ruled}
use Rattle.sound.proofs.Rows.RowsHold.{rows_hold, same_failure}

every_map : (P Q : Seen → Type 0) → ((e : Seen) → P e → Q e) → (es : List Seen) → Every P es → Every Q es
unfolding Every
every_map P Q f [] h = tt
every_map P Q f (e ∷ es) h = (f e h.0, every_map P Q f es h.1)

reached_values : (T : Table) (m : Memory) → Reached T m → ValuesHold T m
reached_values T m h = rule_values T m h.words h.ruled

not_stuck : (a : ℕ) (s d : Memory) → done a s d ≡ Step.stuck → ⊥
not_stuck a s d e = let z : ◌≡◌ {A = ℕ} 0 1 = cc in absurd (omega arith)

step_holds : (T : Table) → Accepted T → StepLaws T → (e : Seen) → StepOf T e → StepHolds T e
step_holds T acc laws e h =
    let free : step T (memory_of e.before) (memory_of e.given) e.process ≡ Step.stuck → ⊥ = λ q. not_stuck _ _ _ (sym h.is ∙ q) in
    let bound = laws.bindings _ _ _ h.start.ruled h.start.words h.devices.words _ _ _ h.is in
    record {
      is = h.is;
      listed = h.listed;
      ruled = h.reached.ruled;
      values = reached_values T _ h.reached;
      bindings = bound;
      created = step_created T _ _ _ _ _ _ h.is;
      calls =
          step_calls T acc _ _ (ruled T _ h.start.ruled) _ _ _ _ h.is free
          (λ z. (rows_hold T _ _ _ z free).changes _ _ _ h.is) (λ n. same_failure T _ _ _ n free) bound;
      row = λ z. (rows_hold T _ _ _ z free).given e.answer (record { state = memory_of e.after; devices = memory_of e.left; is = h.is });
      rows = λ z. rows_hold T _ _ _ z free;
      failed = λ n. same_failure T _ _ _ n free;
    }

-- ---- failures last

mark_at : (m : Memory) (n : ℕ) → update m failure_at n failure_at ≡ n
unfolding update
mark_at m n = rw (eq-eqb failure_at failure_at refl)

changes_mark : (T : Table) (m page : Memory) (p n : ℕ) (s d : Memory) → 16 ≤ n → Changes T m page p n s d → s failure_at ≡ n
changes_mark T m page p n _ _ h (failure_mark f) = mark_at m n
changes_mark T m page p _ _ _ h (nothing b) = absurd (omega arith)
changes_mark T m page p _ _ _ h (gives_up b) = absurd (omega arith)
changes_mark T m page p _ _ _ h absent = absurd (omega arith)
changes_mark T m page p _ _ _ h (ended_before c e) = absurd (omega arith)
changes_mark T m page p _ _ _ h (ends_now r e) = absurd (omega arith)
changes_mark T m page p _ s d h (carried c) = absurd (omega arith)

-- a step of a failed run: its number, and the mark stays
failed_step : (T : Table) (e : Seen) → StepHolds T e → (f : ℕ) → 16 ≤ f → memory_of e.before failure_at ≡ f → (e.answer ≡ f) × (memory_of e.after failure_at ≡ f)
failed_step T e h f l k =
    let n : memory_of e.before failure_at ≡ 0 → ⊥ = λ z. omega arith in
    let q = sym h.is ∙ h.failed n in
    go q
  where
    go : done e.answer (memory_of e.after) (memory_of e.left) ≡ done (memory_of e.before failure_at) (memory_of e.before) (memory_of e.given) → (e.answer ≡ f) × (memory_of e.after failure_at ≡ f)
    go q =
        let a : e.answer ≡ memory_of e.before failure_at = cc in
        let b : memory_of e.after ≡ memory_of e.before = cc in
        (a ∙ k, ap (λ (m : Memory). m failure_at) b ∙ k)

all_failed : (T : Table) (s : List ℕ) (es : List Seen) (f : ℕ) → 16 ≤ f → memory_of s failure_at ≡ f → Threaded s es → Every (StepHolds T) es → Every (λ e. e.answer ≡ f) es
unfolding Threaded Every
all_failed T s [] f l k t h = tt
all_failed T s (e ∷ es) f l k t h =
    let u = failed_step T e h.0 f l (ap (λ (b : List ℕ). memory_of b failure_at) t.0 ∙ k) in
    (u.0, all_failed T e.after es f l u.1 t.1 h.1)

step_mark : (T : Table) (e : Seen) → StepHolds T e → 16 ≤ e.answer → memory_of e.after failure_at ≡ e.answer
step_mark T e h l =
    cases (eqb (memory_of e.before failure_at) 0)
    (λ z. changes_mark T (memory_of e.before) (memory_of e.given) e.process e.answer (memory_of e.after) (memory_of e.left) l
    ((h.rows (eqb-true _ 0 z)).changes e.answer (memory_of e.after) (memory_of e.left) h.is))
    (λ z. same_mark (sym h.is ∙ h.failed (eqb-false _ 0 z)))
  where
    same_mark : done e.answer (memory_of e.after) (memory_of e.left) ≡ done (memory_of e.before failure_at) (memory_of e.before) (memory_of e.given) → memory_of e.after failure_at ≡ e.answer
    same_mark q =
        let a : e.answer ≡ memory_of e.before failure_at = cc in
        let b : memory_of e.after ≡ memory_of e.before = cc in
        ap (λ (m : Memory). m failure_at) b ∙ sym a

lasts : (T : Table) (s : List ℕ) (es : List Seen) → Threaded s es → Every (StepHolds T) es → Lasting es
unfolding Lasting Threaded Every
lasts T s [] t h = tt
lasts T s (e ∷ es) t h =
    (λ l. all_failed T e.after es e.answer l (step_mark T e h.0 l) t.1 h.1, lasts T e.after es t.1 h.1)

-- ---- runs begun with 1

step_keeps : (T : Table) (e : Seen) → StepOf T e → NumberedIn e
step_keeps T e h = step_numbered T _ _ _ h.start.sized h.devices.sized _ _ _ h.is

-- a step whose state has every mark, and whose run has not failed with 31
never_now : (T : Table) (e : Seen) → StepHolds T e → AllSet (memory_of e.before) → (memory_of e.before failure_at ≡ 31 → ⊥) → e.answer ≡ 31 → ⊥
never_now T e h set m q =
    cases (eqb (memory_of e.before failure_at) 0)
    (λ z. row_set T _ _ _ e.answer set (h.row (eqb-true _ 0 z)) q)
    (λ z. same_failed (sym h.is ∙ h.failed (eqb-false _ 0 z)))
  where
    same_failed : done e.answer (memory_of e.after) (memory_of e.left) ≡ done (memory_of e.before failure_at) (memory_of e.before) (memory_of e.given) → ⊥
    same_failed y = let a : e.answer ≡ memory_of e.before failure_at = cc in m (sym a ∙ q)

-- nor has it then
never_after : (T : Table) (e : Seen) → StepHolds T e → (e.answer ≡ 31 → ⊥) → (memory_of e.before failure_at ≡ 31 → ⊥) → memory_of e.after failure_at ≡ 31 → ⊥
never_after T e h n m q =
    cases (ltb e.answer 16)
    (λ z. m (sym (h.created.mark (ltb-true _ 16 z)) ∙ q))
    (λ z. n (sym (step_mark T e h (ltb-false _ 16 z)) ∙ q))

never-unset : (T : Table) (s : List ℕ) (es : List Seen) → memory_of s number_at ≡ 1 → AllSet (memory_of s) → (memory_of s failure_at ≡ 31 → ⊥) → Threaded s es → Every NumberedIn es → Every (StepHolds T) es
    → Every (λ e. e.answer ≡ 31 → ⊥) es
unfolding Threaded Every
never-unset T s [] o set m t k h = tt
never-unset T s (e ∷ es) o set m t k h =
    let b : memory_of e.before ≡ memory_of s = ap memory_of t.0 in
    let m' : memory_of e.before failure_at ≡ 31 → ⊥ = rw b m in
    let n = never_now T e h.0 (rw b set) m' in
    let y : Numbered (memory_of s) (memory_of e.after) = rw b at k.0 in
    (n, never-unset T e.after es (y.number ∙ o) (y.set o set) (never_after T e h.0 n m') t.1 k.1 h.1)

rule_after : (T : Table) (s : List ℕ) (es fs : List Seen) → rule T (memory_of s) ≡ true → Every (StepHolds T) (es ++ fs) → rule T (memory_of (finally s es)) ≡ true
unfolding Every finally
rule_after T s [] fs r h = r
rule_after T s (e ∷ es) fs r h = rule_after T e.after es fs h.0.ruled h.1

module _ (verdict : ℕ → List ℕ → ℕ) (w : ℕ)
    (accepted : (t : List ℕ) → verdict w t ≡ 0 → Accepted (table_of w t))
    (sound : (T : Table) → Accepted T → WordTable T → StepLaws T)
    (begun : (T : Table) → Accepted T → (number : ℕ) → number ≤ 1 → rule T (begin T number) ≡ true) where
  -- a begin that is not refused has an accepted table, and a number that is 0 or 1
  begun_right : (t slice : List ℕ) (number : ℕ) → begun_result (begin_call verdict w t slice number) ≡ 0 → (both (eqb (length slice) state_size) (leb number 1) ≡ true) × (verdict w t ≡ 0)
  unfolding begin_call begun_result begin_refusal
  begun_right t slice number e =
      cases (eqb (begin_refusal verdict w t slice number) 0)
      (λ z. zero_test (both (eqb (length slice) state_size) (leb number 1)) (verdict w t) 1 (λ x. omega_one x) (eqb-true _ 0 z))
      (λ z. absurd (eqb-false _ 0 z (rw z at e)))
    where
      omega_one : ◌≡◌ {A = ℕ} 1 0 → ⊥
      omega_one x = absurd (eqb-false 1 0 refl x)

  module _ (h : History verdict w) where
    right : (both (eqb (length h.slice) state_size) (leb h.number 1) ≡ true) × (verdict w h.table ≡ 0)
    right = begun_right h.table h.slice h.number h.begins

    good : Accepted (table_of w h.table)
    good = accepted h.table right.1

    number_small : h.number ≤ 1
    number_small = leb-true h.number 1 (both_r _ _ right.0)

    laws : StepLaws (table_of w h.table)
    laws = sound (table_of w h.table) good (word_table w h.table h.bytes)

    begin_law : BeginLaw (table_of w h.table)
    begin_law = begin_reached (table_of w h.table) good (word_table w h.table h.bytes) (begun (table_of w h.table) good)

    at_first : At (table_of w h.table) (first verdict w h)
    at_first = at_begin verdict w h.table laws h.slice h.number number_small begin_law h.begins

    pub first_ruled : rule (table_of w h.table) (memory_of (first verdict w h)) ≡ true
    first_ruled = (at_memory _ _ at_first).ruled

    -- runs begun alike begin with the same state, whatever slices they fill
    same_first : (k : History verdict w) → k.table ≡ h.table → k.number ≡ h.number → first verdict w k ≡ first verdict w h
    same_first k e o =
        begun_at verdict w k.table (rw e laws) k.slice k.number k.begins
        ∙ rw (e, o) (sym (begun_at verdict w h.table laws h.slice h.number h.begins))

    agree : (k : History verdict w) → k.table ≡ h.table → k.number ≡ h.number → (n : ℕ) → take n (asked (steps verdict w k)) ≡ take n (asked (steps verdict w h))
        → take n (told (steps verdict w k)) ≡ take n (told (steps verdict w h))
    agree k e o n q =
        let s = same_first k e o in
        let c : Calls verdict w h.table (first verdict w h) k.calls = rw (s, e) at k.fits in
        rw s (same_told verdict w h.table laws (first verdict w h) k.calls h.calls at_first c h.fits n (rw s at q))

    first_memory : memory_of (first verdict w h) ≡ begin (table_of w h.table) h.number
    first_memory =
        ap memory_of (begun_at verdict w h.table laws h.slice h.number h.begins) ∙ state_memory _ _ (begin_law.reached h.number number_small)

    first_set : h.number ≡ 1 → AllSet (memory_of (first verdict w h))
    first_set e = rw (first_memory, e) (begin_set (table_of w h.table))

    module _ (t : Threaded (first verdict w h) (steps verdict w h)) (every : Every (StepHolds (table_of w h.table)) (steps verdict w h)) where
      each_creates : Every (CreatedIn (table_of w h.table)) (steps verdict w h)
      each_creates = every_map _ _ (λ e k. k.created) _ every

      count-is : (es fs : List Seen) → es ++ fs ≡ steps verdict w h → memory_of (finally (first verdict w h) es) created_at ≡ 1 + creations (table_of w h.table) es
      count-is es fs e =
          created_count (table_of w h.table) (first verdict w h) es fs (rw e t) (rw e each_creates)
          ∙ ap (λ n. n + creations (table_of w h.table) es) (ap (λ (m : Memory). m created_at) first_memory ∙ begin_created (table_of w h.table) h.number)

      no-mark : (es fs : List Seen) → es ++ fs ≡ steps verdict w h → Every (λ e. e.answer < 16) es → memory_of (finally (first verdict w h) es) failure_at ≡ 0
      no-mark es fs e k =
          mark_zero (table_of w h.table) (first verdict w h) es fs (rw e t) (rw e each_creates) k
          (ap (λ (m : Memory). m failure_at) first_memory ∙ begin_mark (table_of w h.table) h.number)

      stay : (es fs gs : List Seen) → es ++ (fs ++ gs) ≡ steps verdict w h → ProcessesKept (memory_of (finally (first verdict w h) es)) (memory_of (finally (first verdict w h) (es ++ fs)))
      stay es fs gs e = created_kept (table_of w h.table) (first verdict w h) es fs gs (rw e t) (rw e each_creates)

      unended_calls : (es fs : List Seen) → es ++ fs ≡ steps verdict w h → (p : ℕ) → open_calls (memory_of (finally (first verdict w h) es)) p ≡ calls_made (table_of w h.table) p [] es
      unended_calls es fs e p =
          calls-made (table_of w h.table) p (first verdict w h) es fs (rw e t) (rw e (every_map _ _ (λ e k. k.calls) _ every))
          ∙ ap (λ cs. calls_made (table_of w h.table) p cs es) (ap (λ (m : Memory). open_calls m p) first_memory ∙ begin_none (table_of w h.table) h.number p)

      -- the number, and the marks of a run begun with 1
      module _ (keeps : Every NumberedIn (steps verdict w h)) where
        first_number : memory_of (first verdict w h) number_at ≡ h.number
        first_number = ap (λ (m : Memory). m number_at) first_memory ∙ begin_number (table_of w h.table) h.number

        number_is : (es fs : List Seen) → es ++ fs ≡ steps verdict w h → memory_of (finally (first verdict w h) es) number_at ≡ h.number
        number_is es fs e = (number_kept (first verdict w h) es fs (rw e t) (rw e keeps)).number ∙ first_number

        all_set : h.number ≡ 1 → (es fs : List Seen) → es ++ fs ≡ steps verdict w h → AllSet (memory_of (finally (first verdict w h) es))
        all_set o es fs e = (number_kept (first verdict w h) es fs (rw e t) (rw e keeps)).set (first_number ∙ o) (first_set o)

        none_unset : h.number ≡ 1 → Every (λ e. e.answer ≡ 31 → ⊥) (steps verdict w h)
        none_unset o =
            never-unset (table_of w h.table) (first verdict w h) (steps verdict w h) (first_number ∙ o) (first_set o)
            (λ z. let y = ap (λ (m : Memory). m failure_at) first_memory ∙ begin_mark (table_of w h.table) h.number in omega arith) t keeps every

        looks_set : h.number ≡ 1 → (es fs : List Seen) → es ++ fs ≡ steps verdict w h → (p v k : ℕ)
            → look (table_of w h.table) (memory_of (finally (first verdict w h) es)) p v k ≡ 32 → ⊥
        looks_set o es fs e =
            look_set (table_of w h.table) good _ (ruled _ _ (rule_after (table_of w h.table) (first verdict w h) es fs first_ruled (rw e every)))
            (all_set o es fs e)

    -- THE THEOREM
    pub demand3 : Demand3 verdict w h
    demand3 =
        let f = follows verdict w h.table laws (first verdict w h) h.calls at_first h.fits in
        let every = every_map _ _ (step_holds (table_of w h.table) good laws) _ f.course.every in
        let keeps = every_map _ _ (step_keeps (table_of w h.table)) _ f.course.every in
        record {
          begins = reached_values _ _ (at_memory _ _ at_first);
          served = served verdict w h.table laws (first verdict w h) h.calls right.1 at_first h.fits;
          named = f.named;
          answered = f.answered;
          threaded = f.course.threaded;
          handed = handed verdict w h.table laws (first verdict w h) h.calls at_first h.fits;
          holds = every;
          lasting = lasts (table_of w h.table) _ _ f.course.threaded every;
          unfailed = no-mark f.course.threaded every;
          last = f.course.last;
          program = ap (λ (m : Memory). m (module_at 1)) first_memory ∙ begin_block (table_of w h.table) h.number;
          created = count-is f.course.threaded every;
          kept = stay f.course.threaded every;
          unended = unended_calls f.course.threaded every;
          calls_listed = λ es fs e. calls-listed _ _;
          number = number_is f.course.threaded every keeps;
          set = all_set f.course.threaded every keeps;
          never_unset = none_unset f.course.threaded every keeps;
          looks = looks_set f.course.threaded every keeps;
          alike = same_first;
          agrees = agree;
        }
