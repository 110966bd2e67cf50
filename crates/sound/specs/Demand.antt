-- Trusted: public promises are said with these definitions.
-- Demand 3, one statement about a begin and a list of run calls (01, A run, for demand 3; Agreement). Assumes nothing.
use Rattle.std.specs.Prelude.{ℕ, ◌+◌, ◌<◌, ◌≡◌, true, List, [], ◌++◌, take}
use Rattle.table.specs.Table.{Table, table_of}
use Rattle.machine.specs.Memory.{memory_of}
use Rattle.machine.specs.Layout.{module_at, created_at, failure_at, number_at}
use Rattle.machine.specs.Marks.{AllSet}
use Rattle.machine.specs.Public.{look}
use Rattle.machine.specs.Step.{done, step}
use Rattle.machine.specs.Rule.{rule}
use Rattle.sound.specs.Histories.{Seen, asked, told, processes, answers, finally, Threaded, Every, Lasting, order, written, Served, Handed, state_after, History, first, steps}
use Rattle.sound.specs.Answers.{Listed}
use Rattle.sound.specs.InUse.{ValuesHold}
use Rattle.sound.specs.Bindings.{BindingsKept}
use Rattle.sound.specs.Created.{creations, ProcessesKept, CreatedKept}
use Rattle.sound.specs.OpenCalls.{open_calls, CallsListed, calls_made, CallsKept}
use Rattle.sound.specs.Rows.{Row, RowsHold, SameFailure}

-- OF A STEP
pub record StepHolds (T : Table) (e : Seen) : Type 0 where
  -- it is not stuck: the written step gives this answer, state and device words
  pub is : step T (memory_of e.before) (memory_of e.given) e.process ≡ done e.answer (memory_of e.after) (memory_of e.left)
  -- its answer is a listed number, and the state after it meets the state rule
  pub listed : Listed e.answer
  pub ruled : rule T (memory_of e.after) ≡ true
  -- after it every variable in use holds a value of its type, and every var parameter is bound to one that does
  pub values : ValuesHold T (memory_of e.after)
  -- it leaves every var parameter of a call that has not ended bound to what its argument selected
  pub bindings : BindingsKept T (memory_of e.before) (memory_of e.after)
  -- it creates a process, of the module that the variable's type names, exactly if it carries out a create; those created before stay,
  -- each of its module
  pub created : CreatedKept T (memory_of e.before) (memory_of e.given) e.process e.answer (memory_of e.after)
  -- it makes a call exactly if it carries out one, each parameter of which gets its argument or is bound to what its argument selects; it
  -- ends the innermost of its process exactly if it carries out a block's end; all others stay
  pub calls : CallsKept T (memory_of e.before) (memory_of e.given) e.process e.answer (memory_of e.after)
  -- while the run has not failed, it advances, waits, ends, finds no such process or fails by a listed number exactly if its row's condition
  -- holds, and changes what the row says; afterwards it gives the same number and changes nothing
  pub row : memory_of e.before failure_at ≡ 0 → Row T (memory_of e.before) (memory_of e.given) e.process e.answer
  pub rows : memory_of e.before failure_at ≡ 0 → RowsHold T (memory_of e.before) (memory_of e.given) e.process
  pub failed : (memory_of e.before failure_at ≡ 0 → ⊥) → SameFailure T (memory_of e.before) (memory_of e.given) e.process

module _ (verdict : ℕ → List ℕ → ℕ) (w : ℕ) where
  -- OF A RUN
  pub record Demand3 (h : History verdict w) : Type 0 where
    -- at the start every variable in use holds a value of its type
    pub begins : ValuesHold (table_of w h.table) (memory_of (first verdict w h))
    -- no call with begin's table and the right lengths is refused
    pub served : Served verdict w h.table (first verdict w h) h.calls
    -- there is a step for each number of the order named, and its answer is the byte written for it
    pub named : processes (steps verdict w h) ≡ order verdict w (first verdict w h) h.calls
    pub answered : answers (steps verdict w h) ≡ written verdict w (first verdict w h) h.calls
    -- each begins with the state that the last one left, sees the device words that it left or that the call was handed, and holds
    pub threaded : Threaded (first verdict w h) (steps verdict w h)
    pub handed : Handed verdict w (first verdict w h) h.calls
    pub holds : Every (StepHolds (table_of w h.table)) (steps verdict w h)
    pub lasting : Lasting (steps verdict w h)
    -- as long as no step has failed the mark is 0, so that the rows hold
    pub unfailed : (es fs : List Seen) → es ++ fs ≡ steps verdict w h → Every (λ e. e.answer < 16) es → memory_of (finally (first verdict w h) es) failure_at ≡ 0
    -- the calls leave the state that the last step left
    pub last : finally (first verdict w h) (steps verdict w h) ≡ state_after verdict w (first verdict w h) h.calls
    -- at the start process 1, which runs block 0, is the one created; after the first steps, es, there is one more for each create that
    -- these carried out
    pub program : memory_of (first verdict w h) (module_at 1) ≡ 0
    pub created : (es fs : List Seen) → es ++ fs ≡ steps verdict w h
        → memory_of (finally (first verdict w h) es) created_at ≡ 1 + creations (table_of w h.table) es
    -- each that is created after the steps es stays so over the next ones, fs, of the same module, and its status does not fall
    pub kept : (es fs gs : List Seen) → es ++ (fs ++ gs) ≡ steps verdict w h
        → ProcessesKept (memory_of (finally (first verdict w h) es)) (memory_of (finally (first verdict w h) (es ++ fs)))
    -- after the steps es the calls of each process that have not ended are those that these made and no later one of them ended; at the
    -- start there are none
    pub unended : (es fs : List Seen) → es ++ fs ≡ steps verdict w h
        → (p : ℕ) → open_calls (memory_of (finally (first verdict w h) es)) p ≡ calls_made (table_of w h.table) p [] es
    -- the variables of calls in use are those of these calls
    pub calls_listed : (es fs : List Seen) → es ++ fs ≡ steps verdict w h → CallsListed (table_of w h.table) (memory_of (finally (first verdict w h) es))
    -- the number that it was begun with stays. Begun with 1, every word is marked after any steps, es: no step answers 31 and no look 32
    -- (02, g)
    pub number : (es fs : List Seen) → es ++ fs ≡ steps verdict w h → memory_of (finally (first verdict w h) es) number_at ≡ h.number
    pub set : h.number ≡ 1 → (es fs : List Seen) → es ++ fs ≡ steps verdict w h → AllSet (memory_of (finally (first verdict w h) es))
    pub never_unset : h.number ≡ 1 → Every (λ e. e.answer ≡ 31 → ⊥) (steps verdict w h)
    pub looks : h.number ≡ 1 → (es fs : List Seen) → es ++ fs ≡ steps verdict w h → (p v k : ℕ)
        → look (table_of w h.table) (memory_of (finally (first verdict w h) es)) p v k ≡ 32 → ⊥
    -- a run begun alike, with one table and one number, begins with the same state; as far as it names the same order and sees the same device words, it gives the same
    -- answers, states and device words, wherever the calls of the two begin and end (of a host that cuts its calls: Cuts)
    pub alike : (k : History verdict w) → k.table ≡ h.table → k.number ≡ h.number → first verdict w k ≡ first verdict w h
    pub agrees : (k : History verdict w) → k.table ≡ h.table → k.number ≡ h.number → (n : ℕ) → take n (asked (steps verdict w k)) ≡ take n (asked (steps verdict w h))
        → take n (told (steps verdict w k)) ≡ take n (told (steps verdict w h))
