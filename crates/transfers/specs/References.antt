-- Inner: for code and proofs only; no public promise is said with these definitions.
-- What a process variable refers to (5.2). Assumes nothing.
use Rattle.std.specs.Prelude.{ℕ, ◌≡◌, eqb, Result, Ok, Err}
use Rattle.basics.specs.Choice.{pick}
use Rattle.table.specs.Table.{Table}
use Rattle.table.specs.Entries.{node_count}
use Rattle.numbers.specs.Nodes.{Variable}
use Rattle.words.specs.Values.{failure_number}
use Rattle.words.specs.declared.values.Failure.{Failure}
use Rattle.machine.specs.Memory.{Memory}
use Rattle.machine.specs.Marks.{marked}
use Rattle.machine.specs.Context.{Context}
use Rattle.machine.specs.Outcomes.{Outcome, ok, fail, stuck, Operand}
use Rattle.machine.specs.Operands.{operand}
use Rattle.machine.specs.Processes.{on_process, on_reference}

-- the number of the process that an operand refers to; 31 where it is unmarked (02, g), 19 where its value is empty (11.3, 11.5)
unfoldable pub reference_of : Table → Memory → Outcome Operand → Outcome ℕ
reference_of T m o = on_process T o λ i μ. on_reference m i μ λ r. ok r

-- what the word of a process variable says
unfoldable pub referred_process : ℕ → Outcome ℕ
referred_process w = pick (eqb w 0) (fail 19) (ok w)

-- what the process variable at location a says
unfoldable pub place_refers : Memory → ℕ → Outcome ℕ
place_refers m a = pick (marked m a) (referred_process (m a)) (fail 31)

-- the answer of the code
abbrev pub referred : Result ℕ Failure → Outcome ℕ
referred (Ok r) = ok r
referred (Err f) = fail (failure_number f)

-- node n is a process variable whose reference can be asked
pub record Referring (T : Table) (m page : Memory) (x : Context) (n : ℕ) : Type 0 where
  pub variable : Variable T (node_count T) n
  pub unstuck : reference_of T m (operand T m page x n) ≡ stuck → ⊥
