-- Trusted: public promises are said with these definitions.
-- Begin, and a run over a list of processes (01, The four calls; A run). Assumes nothing.
use Rattle.std.specs.Prelude.{ℕ, List, [], ◌∷◌, eqb}
use Rattle.basics.specs.Choice.{pick}
use Rattle.table.specs.Table.{Table}
use Rattle.table.specs.Entries.{first_stmt}
use Rattle.machine.specs.Memory.{Memory, update, fill, zeros}
use Rattle.machine.specs.Layout.{status_at, holder_at, created_at, number_at, plain_words, mark_words}
use Rattle.sizes.specs.Sizes.{module_words}
use Rattle.machine.specs.Calls.{standing}
use Rattle.machine.specs.Step.{Step, done, step}

-- process 1, started, runs block 0: it holds its own variables, all 0, and stands at its first statement
unfoldable pub initial_state : Table → ℕ → Memory
initial_state T number =
    standing
    (update (update (update (update zeros (status_at 1) 2) (holder_at 1) 1) created_at 1) number_at number)
    1 (first_stmt T 0) 0 (module_words T 0) 1 0

-- a run of the table begins with this number: under 0 no word is marked, under 1 every one (02, g)
unfoldable pub begin : Table → ℕ → Memory
begin T number = fill (initial_state T number) plain_words mark_words (pick (eqb number 1) 65535 0)

-- what a run comes to: the answers in order, the last state and page
pub data Run : Type 0 where
  ran : List ℕ → Memory → Memory → Run
  stuck : Run

unfoldable pub on_done {ℓ} : {A : Type ℓ} → Step → A → (ℕ → Memory → Memory → A) → A
on_done (done a m page) x f = f a m page
on_done Step.stuck x f = x

unfoldable pub before : ℕ → Run → Run
before a (ran answers m page) = ran (a ∷ answers) m page
before a stuck = stuck

-- THE RUN of the processes of a schedule, one step each, in order
unfoldable pub run : Table → List ℕ → Memory → Memory → Run
run T [] m page = ran [] m page
run T (p ∷ schedule) m page = on_done (step T m page p) stuck λ a s d. before a (run T schedule s d)
