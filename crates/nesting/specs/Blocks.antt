-- Inner: for code and proofs only; no public promise is said with these definitions.
-- The statements of a block. Assumes nothing.
use Rattle.std.specs.Prelude.{ℕ, ◌≤◌, ◌<◌}
use Rattle.basics.specs.Chain.{free}
use Rattle.table.specs.Table.{Table}
use Rattle.table.specs.Entries.{first_stmt, stmt_limit}
use Rattle.nesting.specs.Nest.{block_step}

-- the block of statement i: as many block ends stand before it
unfoldable pub stmt_block : Table → ℕ → ℕ
stmt_block T i = free (block_step T) i

-- statement i is one of block b's
pub record StmtOf (T : Table) (b i : ℕ) : Type 0 where
  pub from : first_stmt T b ≤ i
  pub below : i < stmt_limit T b
