-- Inner: for code and proofs only; no public promise is said with these definitions.
-- Nodes by their sort, in facts of numbers. Assumes nothing.
use Rattle.std.specs.Prelude.{ℕ, ◌≤◌, ◌<◌}
use Rattle.table.specs.Table.{Table}
use Rattle.table.specs.Entries.{node_kind}

-- what the tests say: node n is below m, and a variable; and an expression
pub record Variable (T : Table) (m n : ℕ) : Type 0 where
  pub below : n < m
  pub low : 1 ≤ node_kind T n
  pub high : node_kind T n ≤ 3

pub record Expression (T : Table) (m n : ℕ) : Type 0 where
  pub below : n < m
  pub sort : 1 ≤ node_kind T n → 4 ≤ node_kind T n
  pub high : node_kind T n ≤ 8
