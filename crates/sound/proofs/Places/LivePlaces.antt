-- Live places lie in one area and hold values of their types, and the whole variables of a process are live. Assumes nothing.
use Prim.Native.Nat.{ℕ, ◌+◌, ◌-◌, ◌/◌, ◌%◌, ◌≤◌, ◌<◌}
use mathlib.Core.Path.{◌≡◌, sym, ap, ◌∙◌}
use mathlib.Core.Bool.{true}
use native.Mathlib.Omega.{arith}
use native.Mathlib.Nat.{zero-add}
use lib.Dec.{eqb, leb}
use borrow.Author.Tests.{eqb-true, leb-true, le-leb, lt-ltb}
use Rattle.basics.specs.Choice.{both, between}
use Rattle.basics.proofs.Bools.{no_true, both_l, both_r, both_i, either_case}
use Rattle.table.specs.Table.{Table}
use Rattle.table.specs.Entries.{type_count, block_count, var_mode, var_type, first_var, vars}
use Rattle.sizes.specs.Sizes.{words_of}
use Rattle.machine.specs.Memory.{Memory}
use Rattle.machine.specs.Layout.{location, module_at, created_at, caller_frame, call_statement, caller_works, called_block, locations}
use Rattle.machine.specs.Variables.{offset_of, fits}
use Rattle.machine.specs.Values.{holds, part_of_block}
use Rattle.machine.specs.Rule.{is_created, owns, lives}
use Rattle.machine.proofs.Tests.{range_low, range_high}
use Rattle.verdict.specs.Accepted.{Accepted}
use Rattle.sound.specs.Claims.{PlaceLaws}
use Rattle.sound.specs.Ruled.{Framed, CallChain, bottom, called, Ruled}
use Rattle.sound.proofs.Rule.RuleRecord.{block_there, block-kind}
use Rattle.sound.proofs.Memory.Writes.{location_add, location_of}
use Rattle.sound.proofs.Values.ModuleVariables.{module_fits}
use Rattle.sound.proofs.Evaluation.OutcomeLaws.{location_area, location_word}
use Rattle.sound.proofs.Values.BlockVariables.{words_value, variable_type, in_block, block_i, block_in}
use Rattle.sound.proofs.Rule.WorkedProcesses.{lives_there}

-- ---- parts of the variables of a block

module _ (T : Table) (ok : Accepted T) (L : PlaceLaws T) (b : ℕ) (there : b < block_count T) where
  -- it holds a value where its variable does
  pub part_value : (m : Memory) (p f τ k : ℕ) → ((i : ℕ) → i < vars T b → (var_mode T (first_var T b + i) ≡ 2 → ⊥) → holds T m (var_type T (first_var T b + i)) (location p (f + offset_of T b (first_var T b + i))) ≡ true)
      → part_of_block T b τ k ≡ true → holds T m τ (location p (f + k)) ≡ true
  part_value m p f τ k h e =
      let r = in_block T b τ k e in
      let v : ℕ = first_var T b + r.i in
      let g = r.from in
      let x = L.part_holds m τ (var_type T v) (location p (f + offset_of T b v)) (k - offset_of T b v) (variable_type T ok b there r.i r.there) (h r.i r.there r.mode) r.part in
      let y : location p (f + offset_of T b v) + (k - offset_of T b v) ≡ location p (f + k) = location_add p (f + offset_of T b v) (k - offset_of T b v) ∙ ap (location p) (omega arith) in
      rw y at x

  -- a variable that is no var parameter is a part of its own
  pub whole_part : (i : ℕ) → i < vars T b → (var_mode T (first_var T b + i) ≡ 2 → ⊥) → part_of_block T b (var_type T (first_var T b + i)) (offset_of T b (first_var T b + i)) ≡ true
  whole_part i l n =
      let v : ℕ = first_var T b + i in
      let w = L.some_words (var_type T v) (variable_type T ok b there i l) in
      let e = words_value T v n in
      let z : offset_of T b v - offset_of T b v ≡ 0 = omega arith in
      block_i T b (var_type T v) (offset_of T b v) (record { i = i; there = l; mode = n; from = omega arith; part = rw z (L.part_self (var_type T v)) }) (omega arith)

-- ---- live places

-- a place of type τ at a: it lies in one area, and holds a value of τ
pub record Housed (T : Table) (m : Memory) (τ a : ℕ) : Type 0 where
  pub type : τ < 3 + type_count T
  pub inside : fits T a τ ≡ true
  pub value : holds T m τ a ≡ true

module _ (T : Table) (ok : Accepted T) (L : PlaceLaws T) (m : Memory) (R : Ruled T m) where
  module _ (p : ℕ) (some : 1 ≤ p) (made : p ≤ m created_at) where
    there : m (module_at p) < block_count T
    there = block_there T ok m p (R.process p some made)

    -- word k of the area of a created process
    housed : (τ k : ℕ) → τ < 3 + type_count T → k + words_of T τ ≤ 256 → holds T m τ (location p k) ≡ true → Housed T m τ (location p k)
    unfolding fits
    housed τ k t l v =
        let w = L.some_words τ t in
        let c = R.most in
        let e = location_word p k some (omega arith) in
        let a = location_area p k some (omega arith) in
        record {
          type = t;
          inside = both_i _ _ (lt-ltb (location p k) locations (omega arith)) (le-leb (location p k % 256 + words_of T τ) 256 (omega arith));
          value = v;
        }

    pub module_housed : (τ k : ℕ) → part_of_block T (m (module_at p)) τ k ≡ true → Housed T m τ (location p k)
    module_housed τ k e =
        let b : ℕ = m (module_at p) in
        let i = (block_in T ok b there τ k e).1 in
        let f = module_fits T ok b there (block-kind T ok m p (R.process p some made)) in
        let v : holds T m τ (location p (0 + k)) ≡ true = part_value T ok L b there m p 0 τ k (λ j l n. rw zero-add ((R.process p some made).variables j l)) e in
        housed τ k (block_in T ok b there τ k e).0 (omega arith) (rw zero-add at v)

    frame_housed : (d f w c top τ k : ℕ) → Framed T m p d f w c top (called_block m p f) → f + 4 ≤ k → part_of_block T (called_block m p f) τ (k - (f + 4)) ≡ true → Housed T m τ (location p k)
    frame_housed d f w c top τ k F g e =
        let q : ℕ = called_block m p f in
        let i = (block_in T ok q F.there τ (k - (f + 4)) e).1 in
        let n = F.ends in
        let t = F.fits in
        let z : f + 4 + (k - (f + 4)) ≡ k = omega arith in
        let v : holds T m τ (location p (f + 4 + (k - (f + 4)))) ≡ true = part_value T ok L q F.there m p (f + 4) τ (k - (f + 4)) F.values e in
        housed τ k (block_in T ok q F.there τ (k - (f + 4)) e).0 (omega arith) (rw z at v)

    owned_housed : (d f w c top τ k : ℕ) → CallChain T m p d f w c top → owns T m p d f τ k ≡ true → Housed T m τ (location p k)
    unfolding owns
    owned_housed _ f w c top τ k (bottom b) e = no_true e
    owned_housed _ f w c top τ k (called {d} F C) e =
        either_case (both (leb (f + 4) k) (part_of_block T (called_block m p f) τ (k - (f + 4)))) (owns T m p d (caller_frame m p f) τ k) e
        (λ q. frame_housed d f w c top τ k F (leb-true (f + 4) k (both_l _ _ q)) (both_r _ _ q))
        (λ q. owned_housed d (caller_frame m p f) (caller_works m p f) (call_statement m p f) f τ k C q)

  -- what lives is housed
  module _ (p : ℕ) (some : 1 ≤ p) (made : p ≤ m created_at) where
    pub lives_housed : (d f w c top τ a : ℕ) → CallChain T m p d f w c top → lives T m p d f w τ a ≡ true → Housed T m τ a
    unfolding is_created
    lives_housed d f w c top τ a C e =
        either_case (both (between 1 (m created_at) (a / 256 + 1)) (part_of_block T (m (module_at (a / 256 + 1))) τ (a % 256))) (both (eqb (a / 256 + 1) p) (owns T m p d f τ (a % 256))) (lives_there T m p some made C τ a e)
        (λ q. rw (location_of a) at (module_housed (a / 256 + 1) (range_low 1 (m created_at) (a / 256 + 1) (both_l _ _ q)) (range_high 1 (m created_at) (a / 256 + 1) (both_l _ _ q)) τ (a % 256) (both_r _ _ q)))
        (λ q.
        let i : a / 256 + 1 ≡ p = eqb-true (a / 256 + 1) p (both_l _ _ q) in
        let z : location p (a % 256) ≡ a = ap (λ (x : ℕ). location x (a % 256)) (sym i) ∙ location_of a in
        rw z at (owned_housed p some made d f w c top τ (a % 256) C (both_r _ _ q)))
