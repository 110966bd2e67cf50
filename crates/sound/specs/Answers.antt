-- Trusted: public promises are said with these definitions.
-- What a step that is not stuck gives (01, Step answers). Assumes nothing.
use Rattle.std.specs.Prelude.{ℕ, ◌≤◌, ◌<◌, ◌≡◌, true}
use Rattle.table.specs.Table.{Table}
use Rattle.machine.specs.Memory.{Memory}
use Rattle.machine.specs.Rule.{rule}
use Rattle.machine.specs.Step.{Step, done}
use Rattle.machine.specs.Outcomes.{is_failure}

-- ---- steps

-- each number is a word
pub record Small (m : Memory) : Type 0 where
  pub small : (i : ℕ) → m i < 65536

-- a number of the rows of 'Step answers' (01): 0 to 3, or that of a failure
pub data Listed (n : ℕ) : Type 0 where
  regular : n ≤ 3 → Listed n
  failure : is_failure n ≡ true → Listed n

-- a step that is carried out, and what it leaves
pub record Sound (T : Table) (s : Step) : Type 0 where
  pub answer : ℕ
  pub state : Memory
  pub page : Memory
  pub is : s ≡ done answer state page
  pub ruled : rule T state ≡ true
  pub words : Small state
  pub devices : Small page
  pub listed : Listed answer
