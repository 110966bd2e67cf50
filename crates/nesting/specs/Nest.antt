-- Trusted: public promises are said with these definitions.
-- How statements nest (01, refusal 6; the report's 4.2, 11.6): the grammar, and the rule that says it in numbers. Assumes nothing.
use Rattle.std.specs.Prelude.{Bool, ℕ, zero, suc, ◌+◌, [], ◌∷◌, get_or, ltb, leb, eqb}
use Rattle.basics.specs.Choice.{pick}
use Rattle.basics.specs.Chain.{chained}
use Rattle.table.specs.Table.{Table}
use Rattle.table.specs.Entries.{block_count, first_stmt, stmt_count, stmt_kind, stmt_a, stmt_link}

-- classes of statements, by their kinds from 0 on: 0 simple (skip, assign, calls, create, start, write), 1 opener (if, while, when, cycle), 2 arm,
-- 3 end, 4 block end, 5 no statement
unfoldable pub class_of : ℕ → ℕ
class_of k = get_or (0 ∷ 0 ∷ 0 ∷ 0 ∷ 0 ∷ 0 ∷ 1 ∷ 1 ∷ 1 ∷ 1 ∷ 2 ∷ 3 ∷ 0 ∷ 4 ∷ []) k 5

-- the class of statement i; past the last there is none
unfoldable pub class : Table → ℕ → ℕ
class T i = pick (ltb i (stmt_count T)) (class_of (stmt_kind T i)) 5

-- THE SAME, as numbers: where the body, statement or arms that begin at i end; 0 where there are none
-- 0 stays 0
abbrev pub onward : ℕ → ℕ → ℕ
onward j e = pick (eqb j 0) 0 e

-- the statement at i, whose arms would end at e
unfoldable pub stmt_end : Table → ℕ → ℕ → ℕ
stmt_end T i e = pick (eqb (class T i) 0) (i + 1) (pick (eqb (class T i) 1) e 0)

-- a body whose first statement ends at j goes on, to e, where another statement begins there
unfoldable pub body_from : Table → ℕ → ℕ → ℕ
body_from T j e = onward j (pick (leb 2 (class T j)) j e)

-- the arm at i, whose body ends at j
unfoldable pub arm_end : Table → ℕ → ℕ → ℕ
arm_end T i j = pick (eqb (class T i) 2) (pick (eqb (stmt_link T i) j) j 0) 0

-- the end at j of opener o
unfoldable pub closed : Table → ℕ → ℕ → ℕ
closed T o j = pick (eqb (stmt_link T j) o) (j + 1) 0

-- arms of o whose first ends at j: that is o's end, or another arm, from which they go on to e
unfoldable pub arms_from : Table → ℕ → ℕ → ℕ → ℕ
arms_from T o j e = onward j (pick (eqb (class T j) 3) (closed T o j) e)

-- the first number counts levels: more than there are statements from i on suffice
unfoldable mutual
  pub body_end : ℕ → Table → ℕ → ℕ
  body_end zero T i = 0
  body_end (suc f) T i = body_from T (stmt_end T i (arms_end f T i (i + 1))) (body_end f T (stmt_end T i (arms_end f T i (i + 1))))

  pub arms_end : ℕ → Table → ℕ → ℕ → ℕ
  arms_end zero T o i = 0
  arms_end (suc f) T o i = arms_from T o (arm_end T i (body_end f T (i + 1))) (arms_end f T o (arm_end T i (body_end f T (i + 1))))

-- the number after the block end at e of block b
unfoldable pub after_block : Table → ℕ → ℕ → ℕ
after_block T b e = pick (eqb (class T e) 4) (pick (eqb (stmt_a T e) b) (e + 1) 0) 0

-- the number after block b, whose first statement is j, the next free one: a body, and its block end; 0 where that is not so
unfoldable pub block_end : Table → ℕ → ℕ → ℕ
block_end T b j =
    pick (eqb (first_stmt T b) j)
    (onward (body_end (stmt_count T + 1) T j) (after_block T b (body_end (stmt_count T + 1) T j)))
    0

unfoldable pub block_ok : Table → ℕ → ℕ → Bool
block_ok T b j = ltb 0 (block_end T b j)

-- THE RULE of refusal 6: the blocks' statements follow each other in order, and none is left
unfoldable pub nested : Table → Bool
nested T = chained (block_end T) (block_ok T) (block_count T) (stmt_count T)

-- the block of the statement after i, where b is that of i
unfoldable pub block_step : Table → ℕ → ℕ → ℕ
block_step T i b = pick (eqb (stmt_kind T i) 13) (b + 1) b
