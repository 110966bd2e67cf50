-- Inner: for code and proofs only; no public promise is said with these definitions.
-- What the parts of an assignment are carried out with (11.2). Assumes nothing.
use Rattle.std.specs.Prelude.{ℕ, ◌+◌, ◌≤◌, ◌<◌, ◌≡◌, List}
use Rattle.table.specs.Entries.{stmt_kind, stmt_a}
use Rattle.types.specs.Types.{type_of}
use Rattle.machine.specs.Memory.{Memory, memory_of, update, store, words_at}
use Rattle.machine.specs.Layout.{statement_at}
use Rattle.machine.specs.Marks.{mark}
use Rattle.machine.specs.Outcomes.{ok, place}
use Rattle.machine.specs.Operands.{operand}
use Rattle.code.specs.Code.{decoded}
use Rattle.operands.specs.declared.Context.{Context}
use Rattle.operands.specs.Ready.{context_in}
use Rattle.frames.specs.Frames.{Direct}
use Rattle.effects.specs.Effects.{Standing}

-- the statement is an assignment to a variable that stands at i; another statement can follow
pub record Assigning (t m p : List ℕ) (x : Context) (i : ℕ) : Type 0 where
  pub standing : Standing t m p x
  pub kind : stmt_kind (decoded t) x.statement ≡ 1
  pub below : x.statement < 65535
  pub target :
      operand (decoded t) (memory_of m) (memory_of p) (context_in x) (stmt_a (decoded t) x.statement)
      ≡ ok (place i (type_of (decoded t) (stmt_a (decoded t) x.statement)))

-- n words are copied from one location to another, and marked there; then the process goes on
pub record Copying (x : Context) (from to n : ℕ) : Type 0 where
  pub process_low : 1 ≤ x.process
  pub process_high : x.process ≤ 64
  pub statement : x.statement < 65535
  pub words : Direct from to n

unfoldable pub copied : Memory → Context → ℕ → ℕ → ℕ → Memory
copied m x from to n = update (mark (store m to (words_at m from n)) to n) (statement_at x.process) (x.statement + 1)
