-- Inner: for code and proofs only; no public promise is said with these definitions.
-- The marks by which process types that name the same module are found. Assumes nothing.
use Rattle.std.specs.Prelude.{ℕ, ◌+◌, ◌≤◌, ◌<◌, ◌≡◌, List, length, get_or, eqb}
use Rattle.basics.specs.Choice.{pick}
use Rattle.basics.specs.Marks.{gather}
use Rattle.basics.specs.Loops.{with_mark, MarksOf}
use Rattle.table.specs.Table.{Table}
use Rattle.table.specs.Entries.{type_kind, type_p, block_count}
use Rattle.numbers.specs.Declarations.{module_of}

-- one mark for each block at least, all 0
pub record Clear (T : Table) (l : List ℕ) : Type 0 where
  pub long : block_count T ≤ length l
  pub clear : (j : ℕ) → j < length l → get_or l j 0 ≡ 0

-- the marks of the modules that the first i declared types name
pub record ModuleMarks (T : Table) (i : ℕ) (l : List ℕ) : Type 0 where
  pub long : block_count T ≤ length l
  pub seen : MarksOf (gather (module_of T) i) l

unfoldable pub module_marked : Table → ℕ → List ℕ → List ℕ
module_marked T i l = pick (eqb (type_kind T (3 + i)) 3) (with_mark (type_p T (3 + i)) l) l
