-- Inner: for code and proofs only; no public promise is said with these definitions.
-- What the functions over bodies and arms answer: the numbers of `Nest`, with any count of levels that suffices. Assumes nothing.
use Rattle.std.specs.Prelude.{◌≡◌, ℕ, zero, suc, ◌+◌, ◌-◌, ◌≤◌, ◌<◌, Option, None, Some}
use Rattle.table.specs.Table.{Table}
use Rattle.table.specs.Entries.{stmt_count}
use Rattle.nesting.specs.Nest.{class, stmt_end, arm_end, body_end, arms_end}
use Rattle.nesting.specs.declared.Class.{Class}
use Rattle.nesting.specs.declared.Class.TheVariants.{Simple, Opener, Arm, End, BlockEnd, Missing}

-- the number that `class_of` has for a class
abbrev pub number_of : Class → ℕ
number_of Simple = 0
number_of Opener = 1
number_of Arm = 2
number_of End = 3
number_of BlockEnd = 4
number_of Missing = 5

-- the answer that a number says, where 0 stands for none
abbrev pub answer : ℕ → Option ℕ
answer zero = None
answer (suc n) = Some (suc n)

-- r is the class of statement i; a statement that has one is among the table's, which are few
pub record ClassIs (T : Table) (i : ℕ) (r : Class) : Type 0 where
  pub is : number_of r ≡ class T i
  pub small : number_of r < 5 → i < 65536

pub record BodyEnds (T : Table) (i : ℕ) (r : Option ℕ) : Type 0 where
  pub is : (f : ℕ) → stmt_count T - i < f → r ≡ answer (body_end f T i)

pub record ArmsEnds (T : Table) (o i : ℕ) (r : Option ℕ) : Type 0 where
  pub is : (f : ℕ) → stmt_count T - i < f → r ≡ answer (arms_end f T o i)

pub record ArmEnds (T : Table) (i : ℕ) (r : Option ℕ) : Type 0 where
  pub is : (f : ℕ) → stmt_count T - i ≤ f → r ≡ answer (arm_end T i (body_end f T (i + 1)))

pub record StmtEnds (T : Table) (i : ℕ) (r : Option ℕ) : Type 0 where
  pub is : (f : ℕ) → stmt_count T - i ≤ f → r ≡ answer (stmt_end T i (arms_end f T i (i + 1)))

-- what is left of the body from i on is the body from j on
pub record BodyRest (T : Table) (i j : ℕ) : Type 0 where
  pub up : i ≤ j
  pub goes : (r : Option ℕ) → BodyEnds T j r → BodyEnds T i r

-- what is left of the arms of o from i on are the arms from j on
pub record ArmsRest (T : Table) (o i j : ℕ) : Type 0 where
  pub up : i ≤ j
  pub goes : (r : Option ℕ) → ArmsEnds T o j r → ArmsEnds T o i r
