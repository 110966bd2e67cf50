-- A call's arguments: a part of the table holds them as the table has them. Assumes nothing.
use Prim.Native.Nat.{ℕ, ◌+◌}
use mathlib.Core.Path.{◌≡◌, ◌∙◌}
use mathlib.Core.Bool.{Bool}
use mathlib.Core.List.{List}
use borrow.Author.Tests.{eq-eqb}
use Rattle.basics.specs.Choice.{all_below}
use Rattle.table.specs.Table.{table_at}
use Rattle.code.specs.Code.{decoded, Decodes}
use Rattle.table.specs.Entries.{first_var, params}
use Rattle.table.specs.Parts.{argument_part}
use Rattle.table.specs.declared.Sections.{Sections}
use Rattle.table.proofs.Parts.{each_argument}
use Rattle.typing.specs.Typing.{argument_typed, parameter_typed, arguments_typed}
use Rattle.typing.specs.Parts.{parameter_in}

-- the arguments of a call
pub arguments_each :
    (t : List ℕ) (s : Sections) (c : List ℕ) → Decodes t s c → (b first count p x : ℕ) (part : List ℕ) (r : Bool) → p ≡ params (decoded c) b
    → count ≡ p → part ≡ argument_part s.w t first count → x ≡ first_var (decoded c) b
    → r ≡ all_below count (parameter_in (decoded c) s.w part x) → r ≡ arguments_typed (decoded c) b first count
unfolding arguments_typed parameter_in parameter_typed
arguments_each t s c o b first count p x part r hp e hpart hx h =
    rw (← hp, eq-eqb count p e, ← hx)
    (h ∙ rw (hpart, o.is) (each_argument t s o.table first count (λ k n. argument_typed (table_at s.w t) (x + k) n)))
