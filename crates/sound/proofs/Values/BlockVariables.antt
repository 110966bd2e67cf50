-- The variables of a block lie one after the other, in the words of their block; parts of them: what `partOfBlock` says. Assumes nothing.
use Prim.Native.Nat.{ℕ, ◌+◌, ◌-◌, ◌≤◌, ◌<◌}
use mathlib.Core.Path.{◌≡◌}
use mathlib.Core.Bool.{true}
use native.Mathlib.Omega.{arith}
use native.Mathlib.Nat.{add-sub_cancel_left}
use lib.Dec.{eqb}
use borrow.Author.Tests.{eqb-false, ne_eqb}
use Rattle.basics.specs.Cases.{cases}
use Rattle.basics.proofs.Bools.{no_true, both_l, both_r, both_i}
use Rattle.table.specs.Table.{Table}
use Rattle.table.specs.Entries.{type_count, block_count, var_mode, var_type, first_var, vars}
use Rattle.sizes.specs.Sizes.{words_of}
use Rattle.sizes.proofs.Sums.{sum_more, sum_up}
use Rattle.numbers.proofs.TypePromise.{var-type}
use Rattle.numbers.proofs.BlockPromise.{vars_there}
use Rattle.machine.specs.Variables.{var_words, first_words, frame_words, offset_of}
use Rattle.machine.specs.Values.{part, part_of_variable, part_of_block}
use Rattle.machine.proofs.Tests.{some_i, some_case}
use Rattle.machine.proofs.Memories.{within_yes, within-from}
use Rattle.verdict.specs.Accepted.{Accepted}
use Rattle.sound.proofs.Values.Parts.{part-in}

-- ---- where variables begin

-- variable i of block b
abbrev pub variable : Table → ℕ → ℕ → ℕ
variable T b i = first_var T b + i

module _ (T : Table) (b : ℕ) where
  pub begins_at : (i : ℕ) → offset_of T b (variable T b i) ≡ first_words T b i
  unfolding offset_of
  begins_at i = rw (add-sub_cancel_left (first_var T b) i)

  pub next_begins : (i : ℕ) → first_words T b (i + 1) ≡ first_words T b i + var_words T (variable T b i)
  unfolding first_words
  next_begins i = sum_more (λ k. var_words T (variable T b k)) i

  pub begins_up : (i k : ℕ) → i ≤ k → first_words T b i ≤ first_words T b k
  unfolding first_words
  begins_up i k l = sum_up (λ n. var_words T (variable T b n)) i k l

  -- a variable ends before the next begins, and all lie in the words of the block
  pub variables_apart : (i k : ℕ) → i < k → offset_of T b (variable T b i) + var_words T (variable T b i) ≤ offset_of T b (variable T b k)
  variables_apart i k l = omega (arith, begins_at i, begins_at k, next_begins i, begins_up (i + 1) k (omega arith))

  pub variable_in : (i : ℕ) → i < vars T b → offset_of T b (variable T b i) + var_words T (variable T b i) ≤ frame_words T b
  unfolding frame_words
  variable_in i l = omega (arith, begins_at i, next_begins i, begins_up (i + 1) (vars T b) (omega arith))

pub words_value : (T : Table) (v : ℕ) → (var_mode T v ≡ 2 → ⊥) → var_words T v ≡ words_of T (var_type T v)
unfolding var_words
words_value T v n = rw (ne_eqb (var_mode T v) 2 n)

pub words_var : (T : Table) (v : ℕ) → var_mode T v ≡ 2 → var_words T v ≡ 1
unfolding var_words
words_var T v e = rw e

-- ---- parts of them

-- at word k of the variables of block b a part of type τ begins: of variable i, no var parameter
pub record InBlock (T : Table) (b τ k : ℕ) : Type 0 where
  pub i : ℕ
  pub there : i < vars T b
  pub mode : var_mode T (variable T b i) ≡ 2 → ⊥
  pub from : offset_of T b (variable T b i) ≤ k
  pub part : part T τ (var_type T (variable T b i)) (k - offset_of T b (variable T b i)) ≡ true

pub in_block : (T : Table) (b τ k : ℕ) → part_of_block T b τ k ≡ true → InBlock T b τ k
unfolding part_of_block part_of_variable
in_block T b τ k e =
    some_case (vars T b) _ e (λ i l h.
    let v = variable T b i in
    let w = within-from (offset_of T b v) (var_words T v) k (both_l _ _ h) in
    let p = both_r _ _ h in
    cases (eqb (var_mode T v) 2)
    (λ q. no_true (rw q at p))
    (λ q. record { i = i; there = l; mode = eqb-false (var_mode T v) 2 q; from = w; part = rw q at p }))

pub block_i : (T : Table) (b τ k : ℕ) (p : InBlock T b τ k) → k < offset_of T b (variable T b p.i) + var_words T (variable T b p.i) → part_of_block T b τ k ≡ true
unfolding part_of_block part_of_variable
block_i T b τ k p u =
    let v = variable T b p.i in
    some_i (vars T b) _ p.i p.there
    (both_i _ _ (within_yes (offset_of T b v) (var_words T v) k p.from u) (rw (ne_eqb (var_mode T v) 2 p.mode) p.part))

module _ (T : Table) (ok : Accepted T) (b : ℕ) (l : b < block_count T) where
  pub variable_type : (i : ℕ) → i < vars T b → var_type T (variable T b i) < 3 + type_count T
  variable_type i g = var-type T ok.numbers (variable T b i) (omega (arith, vars_there T ok.numbers b l))

  -- a part is of a type, and lies in its variable
  pub part_inside : (τ k : ℕ) (p : InBlock T b τ k) → (τ < 3 + type_count T) × (k + words_of T τ ≤ offset_of T b (variable T b p.i) + var_words T (variable T b p.i))
  part_inside τ k p =
      let v = variable T b p.i in
      let h = part-in T ok τ (var_type T v) (k - offset_of T b v) (variable_type p.i p.there) p.part in
      let w = words_value T v p.mode in
      let f = p.from in
      (h.0, omega arith)

  pub block_in : (τ k : ℕ) → part_of_block T b τ k ≡ true → (τ < 3 + type_count T) × (k + words_of T τ ≤ frame_words T b)
  block_in τ k e =
      let p = in_block T b τ k e in
      let h = part_inside τ k p in
      (h.0, omega (arith, variable_in T b p.i p.there))
