-- The loop over the items of a chain, and what a chain that holds says. Assumes nothing.
use mathlib.Core.Path.{◌≡◌, refl, sym, ◌∙◌}
use mathlib.Core.Bool.{Bool, true, false}
use Prim.Native.Nat.{ℕ, zero, suc, ◌+◌, ◌<◌, ◌≤◌}
use native.Mathlib.Omega.{arith}
use native.Mathlib.Numerals.{add-one}
use lib.Dec.{leb, eqb}
use borrow.Author.Tests.{eqb-true, leb-true, leb-false}
use Rattle.basics.specs.Cases.{cases}
use Rattle.basics.specs.Choice.{both, all_below}
use Rattle.basics.specs.Chain.{free, carried, chained}
use Rattle.basics.specs.Loops.{Chain}
use Rattle.basics.proofs.Bools.{both_l, both_r, both_i, both_false_l, all-at, all_fail}

module _ (step : ℕ → ℕ → ℕ) (test : ℕ → ℕ → Bool) where
  pub chain_none : Chain step test 0 0
  unfolding free all_below
  chain_none = record { is = refl; passed = refl }

  module _ (i j : ℕ) (c : Chain step test i j) where
    pub chain_more : (x : ℕ) → test i j ≡ true → x ≡ step i j → Chain step test (i + 1) x
    unfolding free all_below
    chain_more x p q = record { is = q ∙ rw (add-one i, c.is); passed = rw (add-one i) (both_i _ _ (rw c.is at p) c.passed) }

    pub carry_fail : (m : ℕ) → i < m → test i j ≡ false → false ≡ carried step test m
    unfolding carried
    carry_fail m h p = sym (all_fail m (λ k. test k (free step k)) i h (rw c.is at p))

    pub carry_all : (m : ℕ) → i ≤ m → m ≤ i → true ≡ carried step test m
    unfolding carried
    carry_all m g h = let e : i ≡ m = omega arith in rw (← e) (sym c.passed)

    module _ (m total : ℕ) where
      pub chain_fail : i < m → test i j ≡ false → false ≡ chained step test m total
      unfolding chained carried
      chain_fail h p = sym (both_false_l _ _ (all_fail m (λ k. test k (free step k)) i h (rw c.is at p)))

      pub chain_all : i ≤ m → m ≤ i → eqb j total ≡ chained step test m total
      unfolding chained carried both
      chain_all g h = let e : i ≡ m = omega arith in rw (← e, c.passed, c.is)

  -- a pass that holds, at one item
  pub carried_at : (m : ℕ) → carried step test m ≡ true → (i : ℕ) → i < m → test i (free step i) ≡ true
  unfolding carried
  carried_at m h i l = all-at m (λ k. test k (free step k)) h i l

  -- a chain that holds
  module _ (m total : ℕ) (h : chained step test m total ≡ true) where
    pub passes : (i : ℕ) → i < m → test i (free step i) ≡ true
    unfolding chained carried
    passes i l = all-at m (λ k. test k (free step k)) (both_l _ _ h) i l

    pub ends : free step m ≡ total
    unfolding chained
    ends = eqb-true (free step m) total (both_r _ _ h)

    module _ (up : (i j : ℕ) → test i j ≡ true → j ≤ step i j) where
      -- the numbers that are free never fall
      pub rises : (i k : ℕ) → i ≤ k → k ≤ m → free step i ≤ free step k
      unfolding free
      rises i zero l g = let e : i ≡ 0 = omega arith in rw e (omega arith)
      rises i (suc k) l g =
          cases (leb i k)
          (λ e. let x = rises i k (leb-true i k e) (omega arith) in let y = up k (free step k) (passes k (omega arith)) in omega arith)
          (λ e. let x = leb-false i k e in let q : i ≡ suc k = omega arith in rw q (omega arith))

pub ruleset carries = (chain_none, chain_more, carry_fail, carry_all)

pub ruleset chains = (chain_none, chain_more, chain_fail, chain_all)
