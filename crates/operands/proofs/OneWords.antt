-- Nodes whose value has one word. Assumes nothing.
use Prim.Native.Nat.{ℕ, ◌≤◌}
use mathlib.Core.Path.{◌≡◌, sym, ◌∙◌}
use mathlib.Core.Bool.{true}
use native.Mathlib.Omega.{arith}
use borrow.Author.Tests.{eqb-true, eq-eqb}
use Rattle.basics.proofs.Bools.{no_true}
use Rattle.table.specs.Table.{Table}
use Rattle.table.specs.Entries.{node_kind}
use Rattle.types.specs.Types.{type_of}
use Rattle.sizes.specs.Sizes.{words_of}
use Rattle.sizes.proofs.Counting.{words_standard}
use Rattle.typing.proofs.Promise as typing
use Rattle.operands.specs.Answers.{single, OneWord}
use Rattle.operands.proofs.TypeWords.{single_numbered, single_constant}

-- a standard type
pub one_standard : (T : Table) (n : ℕ) → type_of T n ≤ 2 → OneWord T n
one_standard T n l = record { is = words_standard T (type_of T n) (omega arith); numbered = typing.no_constant T n l }

-- as `is_single` tells it
pub one_true : (T : Table) (n : ℕ) → single T n ≡ true → OneWord T n
one_true T n e =
    let k : node_kind T n ≡ 8 → ⊥ = λ g. no_true (sym (single_constant T n g) ∙ e) in
    record { is = eqb-true (words_of T (type_of T n)) 1 (sym (single_numbered T n k) ∙ e); numbered = k }

pub true_one : (T : Table) (n : ℕ) → OneWord T n → single T n ≡ true
true_one T n o = single_numbered T n o.numbered ∙ eq-eqb (words_of T (type_of T n)) 1 o.is
