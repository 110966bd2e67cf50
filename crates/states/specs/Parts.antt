-- Inner: for code and proofs only; no public promise is said with these definitions.
-- Parts of the definitions of `machine`, as the code makes or tests them one at a time. Assumes nothing.
use Rattle.std.specs.Prelude.{ℕ, Bool, false, leb}
use Rattle.basics.specs.Choice.{pick}
use Rattle.table.specs.Table.{Table}
use Rattle.machine.specs.Memory.{Memory, update}
use Rattle.machine.specs.Layout.{status_at, holder_at, created_at, number_at}
use Rattle.machine.specs.Rule.{rule}
use Rattle.machine.specs.Public.{look}

-- process 1 is started and holds its own variables; it is the one process created, in a run begun with this number
unfoldable pub first_made : Memory → ℕ → Memory
first_made m number = update (update (update (update m (status_at 1) 2) (holder_at 1) 1) created_at 1) number_at number

-- process p is created, and is started or ended
unfoldable pub started_or_ended : Memory → ℕ → Bool
started_or_ended m p =
    pick (leb 1 p)
    (pick (leb p (m created_at))
    (pick (leb 2 (m (status_at p))) (leb (m (status_at p)) 3) false)
    false)
    false

-- a look at a state, where the table is accepted: 10 where the state breaks its rule
unfoldable pub look_judged : Table → Memory → ℕ → ℕ → ℕ → ℕ
look_judged T m p v k = pick (rule T m) (look T m p v k) 10
