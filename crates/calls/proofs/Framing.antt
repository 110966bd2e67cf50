-- The words of frames, found from where the last variable begins. Assumes nothing.
use Prim.Native.Nat.{ℕ, ◌+◌, ◌-◌, ◌<◌, ◌≤◌, min}
use mathlib.Core.Path.{◌≡◌, sym, ◌∙◌}
use mathlib.Core.Bool.{true}
use mathlib.Core.List.{List}
use native.Mathlib.Omega.{arith}
use borrow.Author.Rules.{rules}
use borrow.Author.Tests.{lt-ltb, le-leb}
use Rattle.basics.proofs.Bools.{both_i}
use Rattle.table.specs.Table.{Table}
use Rattle.table.specs.Entries.{var_count, var_type, first_var, vars}
use Rattle.table.specs.Reading.{Field}
use Rattle.numbers.proofs.BlockPromise.{vars_there}
use Rattle.numbers.proofs.TypePromise.{var-type}
use Rattle.sizes.specs.Sizes.{sum_below}
use Rattle.sizes.proofs.Sums.{sum_more}
use Rattle.machine.specs.Memory.{within}
use Rattle.machine.specs.Variables.{var_words, first_words, frame_words, offset_of, belongs}
use Rattle.code.specs.Code.{slot_in, decoded}
use Rattle.prepare.proofs.Preparing.{var_one, var_type_words}
use Rattle.operands.specs.Ready.{Sized}
use Rattle.operands.proofs.Standing.{same_sized}
use Rattle.calls.specs.Framing.{Framing, FrameCount}

module _ (T : Table) (b : ℕ) where
  no_words : vars T b ≡ 0 → frame_words T b ≡ 0
  unfolding frame_words first_words sum_below
  no_words e = rw e

  last_words : (i : ℕ) → vars T b ≡ i + 1 → frame_words T b ≡ first_words T b i + var_words T (first_var T b + i)
  unfolding frame_words first_words
  last_words i e = rw e (sum_more (λ k. var_words T (first_var T b + k)) i)

module _ (t : List ℕ) (b : ℕ) (h : Framing t b) (n : ℕ) (hn : Field (vars (decoded t) b) n) where
  pub counted_none : n ≡ 0 → FrameCount (decoded t) b 0
  counted_none e = let g = no_words (decoded t) b (sym hn.is ∙ e) in record { is = rw g; small = omega arith }

  module _ (k : n ≡ 0 → ⊥) (p : ℕ) (hp : Field (first_var (decoded t) b) p) where
    some : 1 ≤ n
    some = omega arith

    last_there : p + (n - 1) < var_count (decoded t)
    last_there =
        let u = vars_there (decoded t) h.ranged b h.there in
        let g = some in omega (arith, hn.is, hp.is)

    pub last_sized : Sized t (var_type (decoded t) (p + (n - 1)))
    last_sized = record { code = h.code; sized = h.sized; there = var-type (decoded t) h.ranged (p + (n - 1)) last_there }

    last_belongs : belongs (decoded t) b (p + (n - 1)) ≡ true
    unfolding belongs within
    last_belongs =
        let g = some in
        let u = hp.is in
        let v = hn.is in
        both_i _ _ (lt-ltb (p + (n - 1)) (var_count (decoded t)) last_there)
        (both_i _ _ (le-leb (first_var (decoded t) b) (p + (n - 1)) (omega arith))
        (lt-ltb (p + (n - 1)) (first_var (decoded t) b + vars (decoded t) b) (omega arith)))

    pub counted_last : (w r : ℕ) → w ≡ slot_in t (p + (n - 1)) 10 → r ≡ var_words (decoded t) (p + (n - 1)) → r ≤ 200
        → FrameCount (decoded t) b (w + r)
    unfolding offset_of
    counted_last w r e g l =
        let q = some in
        let u = hp.is in
        let i = n - 1 in
        let a : first_var (decoded t) b + (n - 1) ≡ p + (n - 1) = omega arith in
        let d : p + (n - 1) - first_var (decoded t) b ≡ n - 1 = omega arith in
        let c : slot_in t (p + (n - 1)) 10 ≡ min (first_words (decoded t) b (n - 1)) 257 = rw d at (h.code.offsets b (p + (n - 1)) last_belongs) in
        let f : frame_words (decoded t) b ≡ first_words (decoded t) b (n - 1) + var_words (decoded t) (p + (n - 1)) = rw a at (last_words (decoded t) b (n - 1) (omega (arith, hn.is))) in
        record { is = rw f (omega arith); small = omega arith }

pub ruleset counts = (var_one, var_type_words, counted_none, same_sized, last_sized, counted_last, rules)
