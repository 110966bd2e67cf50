-- Inner: for code and proofs only; no public promise is said with these definitions.
-- The creation of a process for a variable (11.4). Assumes nothing.
use Rattle.std.specs.Prelude.{ℕ, ◌+◌, ◌≤◌, ◌<◌, eqb}
use Rattle.machine.specs.Memory.{Memory, update}
use Rattle.machine.specs.Layout.{location, statement_at, created_at, locations}
use Rattle.machine.specs.Marks.{mark, fresh}
use Rattle.machine.specs.Outcomes.{Outcome, ok, fail_where}
use Rattle.machine.specs.Processes.{created}
use Rattle.machine.specs.Statements.{Effect, effect}
use Rattle.operands.specs.declared.Context.{Context}

-- what a create comes to where the variable stands at i and its module is μ
unfoldable pub creates : Memory → Memory → Context → ℕ → ℕ → Outcome Effect
creates m page x i μ =
    fail_where (eqb (m created_at) 64) 24
    (ok (effect 0 (update (mark (fresh (update (created m (m created_at + 1) μ) i (m created_at + 1)) (location (m created_at + 1) 0) 256) i 1) (statement_at x.process) (x.statement + 1)) page))

-- what it is carried out with
pub record CreatePremises (m : Memory) (x : Context) (i μ : ℕ) : Type 0 where
  pub process_low : 1 ≤ x.process
  pub process_high : x.process ≤ 64
  pub statement : x.statement < 65535
  pub count : m created_at ≤ 64
  pub place : i < locations
  pub block : μ < 65536
