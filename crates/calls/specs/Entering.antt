-- Inner: for code and proofs only; no public promise is said with these definitions.
-- What a procedure is entered with (11.3, 12). Assumes nothing.
use Rattle.std.specs.Prelude.{ℕ, ◌+◌, ◌≤◌, ◌<◌, min, ◌≡◌, Bool, true, false, List, length, take, eqb}
use Rattle.basics.specs.Choice.{pick}
use Rattle.table.specs.Table.{Table}
use Rattle.table.specs.Entries.{block_count, block_kind, owner}
use Rattle.sizes.specs.Sizes.{module_words}
use Rattle.typing.proofs.Promise.{Arguments}
use Rattle.machine.specs.Memory.{Memory, memory_of}
use Rattle.machine.specs.Layout.{top_at}
use Rattle.machine.specs.Outcomes.{Outcome, and_then, fail_where}
use Rattle.machine.specs.Entries.{stmt_at}
use Rattle.machine.specs.Variables.{frame_words}
use Rattle.machine.specs.Context as machine
use Rattle.machine.specs.Space.{reserve}
use Rattle.machine.specs.Calls.{arguments, call}
use Rattle.machine.specs.Statements.{Effect, moved, perform}
use Rattle.code.specs.Code.{decoded}
use Rattle.operands.specs.declared.Context.{Context}
use Rattle.operands.specs.Ready.{context_in}
use Rattle.effects.specs.Effects.{Standing}

-- the word of its area up to which a process may call: while it works on its own variables its module's reserve tells it (02, i)
unfoldable pub limit_of : Table → Context → ℕ
limit_of T x = pick (eqb x.works x.process) (min (module_words T (owner T x.block) + reserve T (owner T x.block)) 256) 256

-- a call of procedure q by process p goes above word k of its area exactly where the reserve is full, or the area
pub record Limits (T : Table) (m : Memory) (p q : ℕ) (full : Bool) (k : ℕ) : Type 0 where
  pub most : k ≤ 256
  pub above : full ≡ true → k < m (top_at p) + 4 + frame_words T q
  pub below : full ≡ false → k < m (top_at p) + 4 + frame_words T q → 256 < m (top_at p) + 4 + frame_words T q

-- the arguments, then 22 where the reserve is full, then the call of procedure q on process r from state st
unfoldable pub invoked : Table → Memory → Memory → machine.Context → Bool → Memory → ℕ → ℕ → Outcome (List ℕ) → Outcome Effect
invoked T m page x full st q r o = and_then o λ ws. fail_where full 22 (moved T m page x (call T m page x st q r ws))

-- the statement of the process calls procedure q on process r from state st, with the d arguments from c on, up to word k of its area
pub record Invoking (t m p : List ℕ) (x : Context) (q c d k : ℕ) (st : Memory) (r : ℕ) : Type 0 where
  pub standing : Standing t m p x
  pub there : q < block_count (decoded t)
  pub kind : block_kind (decoded t) q ≡ 2
  pub small : q < 65536
  pub full : Bool
  pub limits : Limits (decoded t) (memory_of m) x.process q full k
  pub fit : Arguments (decoded t) q c d
  pub performs : perform (decoded t) (memory_of m) (memory_of p) (context_in x) (stmt_at (decoded t) x.statement)
      ≡ invoked (decoded t) (memory_of m) (memory_of p) (context_in x) full st q r (arguments (decoded t) (memory_of m) (memory_of p) (context_in x) q c d)

-- the same, where the arguments are the first n words of the buffer l, or more than 256 words
pub record Entering (t m p : List ℕ) (x : Context) (q k : ℕ) (st : Memory) (r : ℕ) (l : List ℕ) (n : ℕ) : Type 0 where
  pub standing : Standing t m p x
  pub there : q < block_count (decoded t)
  pub kind : block_kind (decoded t) q ≡ 2
  pub small : q < 65536
  pub full : Bool
  pub limits : Limits (decoded t) (memory_of m) x.process q full k
  pub words : List ℕ
  pub count : n ≡ min (length words) 257
  pub room : n ≤ 256 → n ≤ length l
  pub first : n ≤ 256 → take n l ≡ words
  pub performs : perform (decoded t) (memory_of m) (memory_of p) (context_in x) (stmt_at (decoded t) x.statement)
      ≡ fail_where full 22 (moved (decoded t) (memory_of m) (memory_of p) (context_in x) (call (decoded t) (memory_of m) (memory_of p) (context_in x) st q r words))
