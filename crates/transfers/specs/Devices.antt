-- Inner: for code and proofs only; no public promise is said with these definitions.
-- A store into a device location (12.3). Assumes nothing.
use Rattle.std.specs.Prelude.{ℕ, ◌+◌, ◌<◌, ◌≡◌, not, List}
use Rattle.table.specs.Entries.{stmt_kind, stmt_a}
use Rattle.words.specs.Numbers.{int_of}
use Rattle.words.specs.Devices.{is_device}
use Rattle.words.specs.Outcomes as words
use Rattle.machine.specs.Memory.{Memory, memory_of, update}
use Rattle.machine.specs.Layout.{statement_at}
use Rattle.machine.specs.Outcomes.{Outcome, ok, fail_where}
use Rattle.machine.specs.Operands.{operand, device_word}
use Rattle.machine.specs.Statements.{Effect, effect}
use Rattle.code.specs.Code.{decoded}
use Rattle.operands.specs.declared.Context.{Context}
use Rattle.operands.specs.Answers.{first_word}
use Rattle.operands.specs.Ready.{context_in}
use Rattle.effects.specs.Effects.{Standing}

-- what a write comes to where the address is i and the value v
unfoldable pub writes : Memory → Memory → Context → ℕ → ℕ → Outcome Effect
writes m page x i v =
    fail_where (not (is_device (int_of i))) 21
    (ok (effect 0 (update m (statement_at x.process) (x.statement + 1)) (update page (device_word i) v)))

-- the statement is a write to the device location with address i; another statement can follow
pub record Writing (t m p : List ℕ) (x : Context) (i : ℕ) : Type 0 where
  pub standing : Standing t m p x
  pub kind : stmt_kind (decoded t) x.statement ≡ 12
  pub below : x.statement < 65535
  pub address :
      words.word i
      ≡ first_word (operand (decoded t) (memory_of m) (memory_of p) (context_in x) (stmt_a (decoded t) x.statement))
