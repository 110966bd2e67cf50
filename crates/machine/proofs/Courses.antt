-- The recursive definitions, each by one equation: what it says of a number, from what it says of smaller ones. Assumes nothing.
use Prim.Native.Nat.{ℕ}
use mathlib.Core.Path.{◌≡◌}
use mathlib.Core.Bool.{false}
use lib.Dec.{ltb}
use Rattle.basics.specs.Choice.{pick}
use Rattle.basics.proofs.Courses.{course_is}
use Rattle.table.specs.Table.{Table}
use Rattle.machine.specs.Memory.{Memory}
use Rattle.machine.specs.Outcomes.{stuck}
use Rattle.machine.specs.Entries.{node_at, type_at}
use Rattle.machine.specs.Context.{Context}
use Rattle.machine.specs.Variables.{known_type, known_at, type_exists}
use Rattle.machine.specs.Operands.{node_operand, operand_at, operand}
use Rattle.machine.specs.Values.{type_holds, holds_at, holds, nowhere, part_at, part}

-- what f gives below n, and d from there on
abbrev pub below : {A : Type 0} → A → ℕ → (ℕ → A) → ℕ → A
below d n f k = pick (ltb k n) (f k) d

-- an operand that does not stand before its node is stuck
pub operand_is :
    (T : Table) (m page : Memory) (x : Context) (n : ℕ)
    → operand T m page x n ≡ node_operand T m page x (below stuck n (operand T m page x)) (node_at T n)
unfolding operand operand_at
operand_is T m page x n = course_is stuck (operand_at T m page x) n

-- a part that has no lower number is no type
pub known_is : (T : Table) (τ : ℕ) → type_exists T τ ≡ known_type T (below false τ (type_exists T)) (type_at T τ)
unfolding type_exists known_at
known_is T τ = course_is false (known_at T) τ

pub holds_is :
    (T : Table) (m : Memory) (τ : ℕ) → holds T m τ ≡ type_holds T m τ (below nowhere τ (holds T m)) (type_at T τ)
unfolding holds holds_at
holds_is T m τ = course_is nowhere (holds_at T m) τ

pub part_is : (T : Table) (τ σ : ℕ) → part T τ σ ≡ part_at T τ σ (below nowhere σ (part T τ))
unfolding part
part_is T τ σ = course_is nowhere (part_at T τ) σ
