-- Trusted: public promises are said with these definitions.
-- The context of a process (13): what its next statement is, and which variables it can name. Assumes nothing.
use Rattle.std.specs.Prelude.{ℕ, ◌+◌, Bool, true, eqb, leb, ltb}
use Rattle.basics.specs.Choice.{pick, both}
use Rattle.table.specs.Table.{Table}
use Rattle.table.specs.Entries.{block_count, owner}
use Rattle.machine.specs.Memory.{Memory}
use Rattle.machine.specs.Layout.{module_at, statement_at, frame_at, works_at, depth_at, called_block}

pub record Context : Type 0 where
  pub process : ℕ
  pub statement : ℕ
  -- the block that it executes
  pub block : ℕ
  -- the frame of its innermost call
  pub frame : ℕ
  -- the process whose variables it works on
  pub works : ℕ

-- its module, or the procedure of its innermost call
unfoldable pub block_of : Memory → ℕ → ℕ
block_of m p = pick (eqb (m (depth_at p)) 0) (m (module_at p)) (called_block m p (m (frame_at p)))

unfoldable pub context_of : Memory → ℕ → Context
context_of m p = record {
  process = p;
  statement = m (statement_at p);
  block = block_of m p;
  frame = m (frame_at p);
  works = m (works_at p);
}

-- the frame lies in the area; the block and its owner exist; the process works on one of the owner's
unfoldable pub contextual : Table → Memory → ℕ → Bool
contextual T m p =
    both (pick (eqb (m (depth_at p)) 0) true (leb (m (frame_at p) + 4) 256))
    (both (ltb (block_of m p) (block_count T))
    (both (ltb (owner T (block_of m p)) (block_count T))
    (eqb (m (module_at (m (works_at p)))) (owner T (block_of m p)))))
