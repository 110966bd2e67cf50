-- Trusted: public promises are said with these definitions.
-- The grammar of statements (the report's 4.2, 11.6), as relations. A table has the rule `nested` exactly if its statements are
-- such blocks (proofs/Complete.antt). Assumes nothing.
use Rattle.std.specs.Prelude.{◌≡◌, ℕ, suc, ◌+◌}
use Rattle.table.specs.Table.{Table}
use Rattle.table.specs.Entries.{first_stmt, stmt_a, stmt_link}
use Rattle.nesting.specs.Nest.{class}

-- THE GRAMMAR, as relations: the statements from i to before j are a body, one statement, one arm, or the arms of opener o with their end
mutual
  -- one or more statements
  pub data Body (T : Table) : ℕ → ℕ → Type 0 where
    one : {i j : ℕ} → StatementSpan T i j → Body T i j
    more : {i j k : ℕ} → StatementSpan T i j → Body T j k → Body T i k

  -- a simple statement, or an opener and its arms
  pub data StatementSpan (T : Table) : ℕ → ℕ → Type 0 where
    simple : {i j : ℕ} → class T i ≡ 0 → j ≡ i + 1 → StatementSpan T i j
    group : {i j : ℕ} → class T i ≡ 1 → Arms T i (i + 1) j → StatementSpan T i j

  -- an arm and its body; its link is the number after them, which is the next arm or the end
  pub data Arm (T : Table) : ℕ → ℕ → Type 0 where
    arm : {i j : ℕ} → class T i ≡ 2 → Body T (i + 1) j → stmt_link T i ≡ j → Arm T i j

  -- one or more arms and the end, whose link is the opener
  pub data Arms (T : Table) : ℕ → ℕ → ℕ → Type 0 where
    last : {o i j k : ℕ} → Arm T i j → class T j ≡ 3 → stmt_link T j ≡ o → k ≡ j + 1 → Arms T o i k
    next : {o i j k : ℕ} → Arm T i j → Arms T o j k → Arms T o i k

-- block b is the statements from i, its first statement, to before j: a body, and its own block end
pub data Block (T : Table) (b : ℕ) : ℕ → ℕ → Type 0 where
  block : {i e j : ℕ} → first_stmt T b ≡ i → Body T i e → class T e ≡ 4 → stmt_a T e ≡ b → j ≡ e + 1 → Block T b i j

-- the blocks below b are, in order, the statements below i
pub data Blocks (T : Table) : ℕ → ℕ → Type 0 where
  none : Blocks T 0 0
  further : {b i j : ℕ} → Blocks T b i → Block T b i j → Blocks T (suc b) j
