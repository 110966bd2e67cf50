-- Trusted: public promises are said with these definitions.
-- The four calls (01, The four calls; Verdicts and other refusals), over bytes: what each returns and leaves, for every input. Assumes nothing.
use Rattle.std.specs.Prelude.{ℕ, ◌+◌, Bool, List, ◌++◌, length, drop, eqb, leb, ltb}
use Rattle.basics.specs.Choice.{pick, both, between}
use Rattle.table.specs.Table.{Table, table_of}
use Rattle.table.specs.Entries.{var_type}
use Rattle.machine.specs.Memory.{Memory, memory_of, bytes_of}
use Rattle.machine.specs.Layout.{location, status_at, module_at, created_at, state_words, state_size, page_words, page_size}
use Rattle.machine.specs.Marks.{marked}
use Rattle.sizes.specs.Sizes.{words_of}
use Rattle.machine.specs.Variables.{offset_of, belongs}
use Rattle.machine.specs.Run.{Run, ran, begin, run}
use Rattle.machine.specs.Rule.{rule}

-- the refusals in the order of their numbers: 1 where a lent length is wrong, then the table's verdict v, then 10 where the state breaks its rule
unfoldable pub refusal : Bool → ℕ → Bool → ℕ
refusal lengths v state = pick lengths (pick (eqb v 0) (pick state 0 10) v) 1

-- ---- look

-- process, variable and place name a word of a started process's module variables
unfoldable pub visible : Table → Memory → ℕ → ℕ → ℕ → Bool
visible T m p v k =
    both (between 1 (m created_at) p)
    (both (between 2 3 (m (status_at p)))
    (both (belongs T (m (module_at p)) v)
    (ltb k (words_of T (var_type T v)))))

-- the word at location a; 32 where it is unmarked (02, g)
unfoldable pub word_there : Memory → ℕ → ℕ
word_there m a = pick (marked m a) (65536 + m a) 32

-- that word; 11 where they name none
unfoldable pub look : Table → Memory → ℕ → ℕ → ℕ → ℕ
look T m p v k = pick (visible T m p v k) (word_there m (location p (offset_of T (m (module_at p)) v + k))) 11

-- ---- what the calls return, and the lent slices as they leave them

-- begin: the result and the state
pub data Begun : Type 0 where
  begun : ℕ → List ℕ → Begun

-- run: the result, the state, the page and the answers
pub data Called : Type 0 where
  called : ℕ → List ℕ → List ℕ → List ℕ → Called

-- answers are written for the steps of the schedule; later answer bytes are as they were. No run from a state that meets its rule is stuck
unfoldable pub finished : Run → Called → List ℕ → Called
finished (ran l m page) c answers = called 0 (bytes_of state_words m) (bytes_of page_words page) (l ++ drop (length l) answers)
finished Run.stuck c answers = c

-- the lengths that run is lent
unfoldable pub run_lengths : ℕ → ℕ → ℕ → ℕ → Bool
run_lengths state page schedule answers = both (eqb state state_size) (both (eqb page page_size) (leb schedule answers))

-- the verdict on a table in each edition, and the edition: the width w of its fields
module _ (verdict : ℕ → List ℕ → ℕ) (w : ℕ) where
  -- the number is 0 or 1, the state has its length (02, g)
  unfoldable pub begin_refusal : List ℕ → List ℕ → ℕ → ℕ
  begin_refusal table state number = pick (both (eqb (length state) state_size) (leb number 1)) (verdict w table) 1

  unfoldable pub begin_call : List ℕ → List ℕ → ℕ → Begun
  begin_call table state number =
      pick (eqb (begin_refusal table state number) 0)
      (begun 0 (bytes_of state_words (begin (table_of w table) number)))
      (begun (begin_refusal table state number) state)

  unfoldable pub run_refusal : List ℕ → List ℕ → List ℕ → List ℕ → List ℕ → ℕ
  run_refusal table state page schedule answers =
      refusal (run_lengths (length state) (length page) (length schedule) (length answers))
      (verdict w table)
      (rule (table_of w table) (memory_of state))

  unfoldable pub run_call : List ℕ → List ℕ → List ℕ → List ℕ → List ℕ → Called
  run_call table state page schedule answers =
      pick (eqb (run_refusal table state page schedule answers) 0)
      (finished (run (table_of w table) schedule (memory_of state) (memory_of page)) (called 10 state page answers) answers)
      (called (run_refusal table state page schedule answers) state page answers)

  unfoldable pub look_refusal : List ℕ → List ℕ → ℕ
  look_refusal table state =
      refusal (eqb (length state) state_size) (verdict w table) (rule (table_of w table) (memory_of state))

  unfoldable pub look_call : List ℕ → List ℕ → ℕ → ℕ → ℕ → ℕ
  look_call table state process variable place =
      pick (eqb (look_refusal table state) 0)
      (look (table_of w table) (memory_of state) process variable place)
      (look_refusal table state)
