-- Inner: for code and proofs only; no public promise is said with these definitions.
-- Calls of other processes, and starts (11.3, 11.5, 13). Assumes nothing.
use Rattle.std.specs.Prelude.{ℕ, ◌+◌, ◌<◌, ◌≤◌, ◌≡◌, false, not, List, length, take, eqb, leb}
use Rattle.basics.specs.Choice.{pick}
use Rattle.table.specs.Table.{Table}
use Rattle.table.specs.Entries.{block_count, type_p, stmt_kind, stmt_a, stmt_b, stmt_c, stmt_d}
use Rattle.types.specs.Types.{type_of}
use Rattle.sizes.specs.Sizes.{module_words}
use Rattle.machine.specs.Memory.{Memory, memory_of, update}
use Rattle.machine.specs.Layout.{location, status_at, statement_at, holder_at}
use Rattle.machine.specs.Marks.{mark}
use Rattle.machine.specs.Outcomes.{Outcome, ok, and_then, need, fail_where}
use Rattle.machine.specs.Entries.{stmt_at}
use Rattle.machine.specs.Variables.{frame_words}
use Rattle.machine.specs.Context as machine
use Rattle.machine.specs.Calls.{arguments}
use Rattle.machine.specs.Processes.{started}
use Rattle.machine.specs.Statements.{Effect, effect, go_on, wait, can_serve, perform}
use Rattle.code.specs.Code.{decoded}
use Rattle.operands.specs.declared.Context.{Context}
use Rattle.operands.specs.Ready.{context_in}
use Rattle.effects.specs.Effects.{Standing}
use Rattle.calls.specs.Entering.{invoked}

-- process r is called: it serves, whatever the caller's module reserves, or the caller waits
unfoldable pub served : Table → Memory → Memory → machine.Context → ℕ → ℕ → ℕ → ℕ → Outcome Effect
served T m page x q c d r =
    pick (can_serve m r)
    (invoked T m page x false (update m (holder_at r) x.process) q r (arguments T m page x q c d))
    (wait T m page x m)

-- the parameters of process r, of module μ, which are marked (02, g), and its start
unfoldable pub start_effect : Table → Memory → Memory → machine.Context → ℕ → ℕ → Outcome (List ℕ) → Outcome Effect
start_effect T m page x μ r o = and_then o λ ws. need (leb (length ws) 256) (go_on T m page x (mark (started T m r μ ws) (location r 0) (length ws)))

-- process r is started: 20 where it was started before (01)
unfoldable pub start_of : Table → Memory → Memory → machine.Context → ℕ → ℕ → ℕ → ℕ → Outcome Effect
start_of T m page x μ c d r = fail_where (not (eqb (m (status_at r)) 1)) 20 (start_effect T m page x μ r (arguments T m page x μ c d))

-- the statement of the process calls process r
pub record Serving (t m p : List ℕ) (x : Context) (r : ℕ) : Type 0 where
  pub standing : Standing t m p x
  pub kind : stmt_kind (decoded t) x.statement ≡ 3
  pub low : 1 ≤ r
  pub high : r ≤ 64
  pub performs : perform (decoded t) (memory_of m) (memory_of p) (context_in x) (stmt_at (decoded t) x.statement)
      ≡ served (decoded t) (memory_of m) (memory_of p) (context_in x) (stmt_b (decoded t) x.statement)
      (stmt_c (decoded t) x.statement) (stmt_d (decoded t) x.statement) r

-- the statement of the process starts process r
pub record Starting (t m p : List ℕ) (x : Context) (r : ℕ) : Type 0 where
  pub standing : Standing t m p x
  pub kind : stmt_kind (decoded t) x.statement ≡ 5
  pub low : 1 ≤ r
  pub high : r ≤ 64
  pub performs : perform (decoded t) (memory_of m) (memory_of p) (context_in x) (stmt_at (decoded t) x.statement)
      ≡ start_of (decoded t) (memory_of m) (memory_of p) (context_in x) (type_p (decoded t) (type_of (decoded t) (stmt_a (decoded t) x.statement)))
      (stmt_c (decoded t) x.statement) (stmt_d (decoded t) x.statement) r

-- the parameters of process r, of module b, are the first n words of the buffer l
pub record Beginning (t m p : List ℕ) (x : Context) (r b : ℕ) (l : List ℕ) (n : ℕ) : Type 0 where
  pub standing : Standing t m p x
  pub below : x.statement < 65535
  pub there : b < block_count (decoded t)
  pub exact : frame_words (decoded t) b ≡ module_words (decoded t) b
  pub most : module_words (decoded t) b ≤ 256
  pub low : 1 ≤ r
  pub high : r ≤ 64
  pub few : n ≤ 256
  pub room : n ≤ length l
  pub performs : perform (decoded t) (memory_of m) (memory_of p) (context_in x) (stmt_at (decoded t) x.statement)
      ≡ ok (effect 0 (update (mark (started (decoded t) (memory_of m) r b (take n l)) (location r 0) (length (take n l))) (statement_at x.process) (x.statement + 1)) (memory_of p))
