-- Trusted: public promises are said with these definitions.
-- The rows of 'Step answers' (01) as conditions on table, state, device words and process. They hold for a run that has not failed.
-- Assumes nothing.
use Rattle.std.specs.Prelude.{ℕ, ◌+◌, ◌≡◌, true, ◌⊎◌}
use Rattle.table.specs.Table.{Table}
use Rattle.machine.specs.Memory.{Memory, update}
use Rattle.machine.specs.Layout.{status_at, works_at, holder_at, failure_at}
use Rattle.machine.specs.Entries.{Opener, waits, Statement, opener, stmt_at}
use Rattle.machine.specs.Context.{context_of}
use Rattle.machine.specs.Step.{done, step}
use Rattle.sound.specs.InUse.{Created}
use Rattle.sound.specs.Conditions.{GuardsFalse, StatementFails, StatementWaits, StatementEnds}
use Rattle.sound.specs.Carried.{Carries}

-- ---- the rows, for process p

module _ (T : Table) (m page : Memory) (p : ℕ) where
  -- the statement that it carries out next
  abbrev pub next : Statement
  next = stmt_at T (context_of m p).statement

  abbrev pub holder : ℕ
  holder = m (holder_at (m (works_at p)))

  -- it is started, and no other process holds the variables that it works on
  pub record CanStep : Type 0 where
    pub exists : Created m p
    pub started : m (status_at p) ≡ 2
    pub free : (holder ≡ 0) ⊎ (holder ≡ p)

  -- 1: waits, its own block not having ended
  pub data Waiting : Type 0 where
    unstarted : Created m p → m (status_at p) ≡ 1 → Waiting
    held : Created m p → m (status_at p) ≡ 2 → (holder ≡ 0 → ⊥) → (holder ≡ p → ⊥) → Waiting
    waiting : CanStep → StatementWaits T m page (context_of m p) next → Waiting

  -- 2: its own block has ended, before or in this step
  pub data Ended : Type 0 where
    before : Created m p → m (status_at p) ≡ 3 → Ended
    now : CanStep → StatementEnds T m page (context_of m p) next → Ended

  -- 3: no such process
  pub record Absent : Type 0 where
    pub none : Created m p → ⊥

  -- the number of a failure: the first one met in evaluation order is this one
  pub record Failing (n : ℕ) : Type 0 where
    pub ready : CanStep
    pub fails : StatementFails T m page (context_of m p) n next

  -- 0: one statement was carried out, with state s and device words d left
  pub record CarriedOut (s d : Memory) : Type 0 where
    pub ready : CanStep
    pub carries : Carries T m page (context_of m p) next s d

  -- ROW n
  pub data Row : ℕ → Type 0 where
    row0 : {s d : Memory} → CarriedOut s d → Row 0
    row1 : Waiting → Row 1
    row2 : Ended → Row 2
    row3 : Absent → Row 3
    row16 : {n : ℕ} → Failing n → Row n

  -- it stands, free to go on, at a when or cycle every guard of which was evaluated and is false
  pub data Blocked : Type 0 where
    at_guards : {k : Opener} → CanStep → next ≡ opener k → waits k ≡ true → GuardsFalse T m page (context_of m p) ((context_of m p).statement + 1) → Blocked

  -- what a step changes: a failing one the run's failure mark only, a waiting one nothing but the holder that a blocked when or cycle gives
  -- up, one that ends the process's own block its status and the holder of its variables, one that is carried out what its statement says
  pub data Changes : ℕ → Memory → Memory → Type 0 where
    failure_mark : {n : ℕ} → Failing n → Changes n (update m failure_at n) page
    nothing : (Blocked → ⊥) → Changes 1 m page
    gives_up : Blocked → Changes 1 (update m (holder_at (m (works_at p))) 0) page
    ended_before : Created m p → m (status_at p) ≡ 3 → Changes 2 m page
    ends_now : CanStep → StatementEnds T m page (context_of m p) next → Changes 2 (update (update m (status_at p) 3) (holder_at p) 0) page
    absent : Changes 3 m page
    carried : {s d : Memory} → CarriedOut s d → Changes 0 s d

  -- the step answers n
  pub record Answers (n : ℕ) : Type 0 where
    pub state : Memory
    pub devices : Memory
    pub is : step T m page p ≡ done n state devices

  -- THE STEP of a run that has not failed: it answers n exactly if row n's condition holds
  pub record RowsHold : Type 0 where
    pub given : (n : ℕ) → Answers n → Row n
    pub exactly : (n : ℕ) → Row n → Answers n
    -- a statement that is carried out leaves what its rule says and nothing else
    pub only : (s d : Memory) → CarriedOut s d → step T m page p ≡ done 0 s d
    -- no two rows apply
    pub apart : (n k : ℕ) → Row n → Row k → n ≡ k
    pub changes : (n : ℕ) (s d : Memory) → step T m page p ≡ done n s d → Changes n s d

  -- that of a run that has failed: the same number, and nothing changes
  abbrev pub SameFailure : Type 0
  SameFailure = step T m page p ≡ done (m failure_at) m page
