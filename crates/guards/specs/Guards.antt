-- Inner: for code and proofs only; no public promise is said with these definitions.
-- What the code finds of arms and ends, and what it may be asked. Assumes nothing.
use Rattle.std.specs.Prelude.{ℕ, ◌-◌, ◌≤◌, ◌<◌, ◌≡◌, List, eqb, ltb}
use Rattle.basics.specs.Choice.{pick}
use Rattle.table.specs.Table.{Table}
use Rattle.table.specs.Entries.{stmt_count}
use Rattle.machine.specs.Memory.{Memory}
use Rattle.machine.specs.Lent.{State}
use Rattle.machine.specs.Outcomes.{Outcome, ok, fail, stuck}
use Rattle.machine.specs.Entries.{Opener, if, while, when, cycle}
use Rattle.machine.specs.Context as machine
use Rattle.machine.specs.Statements as statements
use Rattle.machine.specs.Statements.{enters, skips, end_of, choose}
use Rattle.operands.specs.declared.Context.{Context}
use Rattle.operands.specs.Packed.{FailureListed}
use Rattle.evaluation.specs.Acting.{GuardRows}
use Rattle.guards.specs.declared.ArmFound.{ArmFound}

-- the structured statement of kind k (01, The table): if 6, while 7, when 8, cycle 9
unfoldable pub opener_of : ℕ → Opener
opener_of k = pick (eqb k 7) while (pick (eqb k 8) when (pick (eqb k 9) cycle if))

-- what the guards come to: the end of the arms, where none is true; the arm whose guard is the first that is; or the failure of a guard
unfoldable pub picks : ArmFound → Outcome statements.Choice
picks r = pick (ltb r.value 65536) (pick (eqb r.value 0) (ok (skips r.at)) (ok (enters r.at))) (fail (r.value - 65536))

-- the guards of the arms from i on can be evaluated
pub record Choosable (T : Table) (m page : Memory) (x : machine.Context) (i : ℕ) : Type 0 where
  pub unstuck : choose T m page x (stmt_count T) i ≡ stuck → ⊥

-- the guards from i up to j are false, and those from j on have rows in k
pub record Choosing (T : Table) (k : List ℕ) (m page : Memory) (x : machine.Context) (i j : ℕ) : Type 0 where
  pub left : ℕ
  pub rest : choose T m page x left j ≡ choose T m page x (stmt_count T) i
  pub guards : GuardRows T k left j
  pub unstuck : choose T m page x (stmt_count T) i ≡ stuck → ⊥

-- r is what the guards from i on come to, a statement that exists
pub record Picked (T : Table) (m page : Memory) (x : machine.Context) (i : ℕ) (r : ArmFound) : Type 0 where
  pub is : picks r ≡ choose T m page x (stmt_count T) i
  pub below : r.at < stmt_count T
  pub listed : FailureListed r.value

-- the end of the arms from i on, by the links of at most n
unfoldable pub end_at : Table → ℕ → ℕ → Outcome ℕ
end_at T n i = end_of T n i λ j link. ok j

pub record Linked (T : Table) (i : ℕ) : Type 0 where
  pub unstuck : end_at T (stmt_count T) i ≡ stuck → ⊥

-- j is an arm or the end of the arms from i on
pub record Linking (T : Table) (i j : ℕ) : Type 0 where
  pub left : ℕ
  pub rest : end_at T left j ≡ end_at T (stmt_count T) i
  pub unstuck : end_at T (stmt_count T) i ≡ stuck → ⊥

-- r is the end of the arms from i on, a statement that exists
pub record ArmsEnd (T : Table) (i r : ℕ) : Type 0 where
  pub is : ok r ≡ end_at T (stmt_count T) i
  pub below : r < stmt_count T

-- what process and works are, and a statement that another can follow
pub record Going (m : List ℕ) (x : Context) (i : ℕ) : Type 0 where
  pub state : State m
  pub process_low : 1 ≤ x.process
  pub process_high : x.process ≤ 64
  pub works_low : 1 ≤ x.works
  pub works_high : x.works ≤ 64
  pub small : i < 65535
