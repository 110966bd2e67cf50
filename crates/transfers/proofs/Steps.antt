-- What a statement has at hand where its process stands, and how it ends. Assumes nothing.
use Prim.Native.Nat.{ℕ, ◌+◌, ◌<◌}
use mathlib.Core.Path.{◌≡◌, refl}
use mathlib.Core.List.{List}
use native.Mathlib.Omega.{arith}
use Rattle.table.specs.Table.{Table}
use Rattle.table.specs.Entries.{stmt_count}
use Rattle.machine.specs.Memory.{Memory, memory_of, update}
use Rattle.machine.specs.Layout.{failure_at, statement_at}
use Rattle.machine.specs.Lent.{State, Becomes}
use Rattle.machine.specs.Outcomes.{ok, fail}
use Rattle.machine.specs.Entries.{stmt_at}
use Rattle.machine.specs.Statements.{effect, go_to, go_on, perform}
use Rattle.code.specs.Code.{decoded}
use Rattle.operands.specs.declared.Context.{Context}
use Rattle.operands.specs.Ready.{context_in}
use Rattle.effects.specs.Effects.{statement_step, Stepped, Standing}
use Rattle.effects.proofs.Carrying.{statement_there, stepped, stepped_fail}

pub goes_on : (T : Table) (m page s : Memory) (x : Context)
    → go_on T m page (context_in x) s ≡ ok (effect 0 (update s (statement_at x.process) (x.statement + 1)) page)
unfolding go_on go_to context_in
goes_on T m page s x = refl

module _ (t m p : List ℕ) (x : Context) (h : Standing t m p x) where
  pub stands_lent : State m
  stands_lent = record { long = h.ready.state }

  pub stands_there : x.statement < stmt_count (decoded t)
  unfolding context_in
  stands_there = statement_there (decoded t) (memory_of m) (memory_of p) (context_in x) h.unstuck

  -- the count of the statements is a word
  pub stands_below : x.statement < 65535
  stands_below = let l = stands_there in let k = h.statements in omega arith

  -- the statement has failed
  pub stands_fail : (n r : ℕ) (s1 : List ℕ)
      → perform (decoded t) (memory_of m) (memory_of p) (context_in x) (stmt_at (decoded t) x.statement) ≡ fail n
      → r ≡ n → Becomes s1 (update (memory_of m) failure_at n)
      → Stepped r s1 p (statement_step (decoded t) (memory_of m) (memory_of p) (context_in x))
  unfolding context_in
  stands_fail n r s1 e k c = stepped_fail (decoded t) m p s1 p (context_in x) n r e k c h.ready.page

  -- it has left the page what it was
  pub stands_done : (a : ℕ) (s1 : List ℕ) (m1 : Memory)
      → perform (decoded t) (memory_of m) (memory_of p) (context_in x) (stmt_at (decoded t) x.statement) ≡ ok (effect a m1 (memory_of p))
      → Becomes s1 m1
      → Stepped a s1 p (statement_step (decoded t) (memory_of m) (memory_of p) (context_in x))
  unfolding context_in
  stands_done a s1 m1 e c =
      stepped (decoded t) m p s1 p (context_in x) a m1 (memory_of p) e c (record { long = h.ready.page; is = refl })
