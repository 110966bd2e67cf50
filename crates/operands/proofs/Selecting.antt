-- A variable that is selected lies in one area. Assumes nothing.
use Prim.Native.Nat.{ℕ, ◌+◌, ◌%◌, ◌<◌, ◌≤◌}
use mathlib.Core.Path.{◌≡◌, sym, subst}
use mathlib.Core.Bool.{true}
use mathlib.Core.List.{List}
use lib.Dec.{ltb}
use native.Mathlib.Omega.{arith}
use borrow.Author.Tests.{ltb-true, leb-true}
use Rattle.basics.proofs.Bools.{both_l, both_r}
use Rattle.table.specs.Table.{Table}
use Rattle.types.specs.Types.{type_of}
use Rattle.sizes.specs.Sizes.{words_of}
use Rattle.machine.specs.Memory.{memory_of}
use Rattle.machine.specs.Layout.{locations}
use Rattle.machine.specs.Outcomes.{Outcome, ok, Operand, place}
use Rattle.machine.specs.Variables.{fits}
use Rattle.machine.specs.Operands.{operand}
use Rattle.code.specs.Code.{decoded}
use Rattle.operands.specs.declared.Context.{Context}
use Rattle.operands.specs.Answers.{Selectable}
use Rattle.operands.specs.Ready.{context_in, Ready}
use Rattle.operands.proofs.Typed.{OfType, typed_variable}
use Rattle.operands.proofs.Yielding.{place_fits}

-- a place lies in one area
module _ (T : Table) (a τ : ℕ) (e : fits T a τ ≡ true) where
  pub fits_low : a < locations
  unfolding fits
  fits_low = ltb-true a locations (both_l _ _ e)

  pub fits_high : a + words_of T τ ≤ locations
  unfolding fits
  fits_high = let l = fits_low in let g = leb-true (a % 256 + words_of T τ) 256 (both_r (ltb a locations) _ e) in omega arith

-- what node n comes to, and that it is a variable that can be selected
abbrev pub out : List ℕ → List ℕ → List ℕ → Context → ℕ → Outcome Operand
out t m p x n = operand (decoded t) (memory_of m) (memory_of p) (context_in x) n

abbrev pub Sel : List ℕ → List ℕ → List ℕ → Context → ℕ → Type 0
Sel t m p x n = Selectable (decoded t) (memory_of m) (memory_of p) (context_in x) n

-- a variable that is selected lies in one area
module _ (t m p : List ℕ) (x : Context) (h : Ready t m p x) (n : ℕ) (c : Sel t m p x n) (a : ℕ) (e : ok (place a (type_of (decoded t) n)) ≡ out t m p x n) where
  pub selected_fits : fits (decoded t) a (type_of (decoded t) n) ≡ true
  selected_fits =
      place_fits (decoded t) (type_of (decoded t) n) a (type_of (decoded t) n)
      (subst (OfType (decoded t) (type_of (decoded t) n)) (sym e)
      (typed_variable (decoded t) (memory_of m) (memory_of p) (context_in x) h.ranged n c.variable))
