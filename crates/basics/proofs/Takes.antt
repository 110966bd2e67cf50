-- The loop over rows that take numbers, and what an accepted section promises. Assumes nothing.
use mathlib.Core.Path.{◌≡◌}
use mathlib.Core.Bool.{Bool, true}
use Prim.Native.Nat.{ℕ, ◌+◌, ◌<◌, ◌≤◌}
use native.Mathlib.Omega.{arith}
use native.Mathlib.Numerals.{add-one}
use borrow.Author.Tests.{eqb-true}
use Rattle.basics.specs.Cases.{cases}
use Rattle.basics.specs.Chain.{free, step_take, test_take, taken}
use Rattle.basics.proofs.Chains.{passes, ends, rises}

module _ (takes : ℕ → Bool) (first count : ℕ → ℕ) where
  -- what holds of rows that take all of `total`
  module _ (m total : ℕ) (h : taken takes first count m total ≡ true) where
    unfoldable pub at : ℕ → ℕ
    at i = free (step_take takes first count) i

    up : (i j : ℕ) → test_take takes first i j ≡ true → j ≤ step_take takes first count i j
    unfolding test_take step_take
    up i j e = cases (takes i) (λ g. let q = eqb-true (first i) j (rw g at e) in rw g (omega arith)) (λ g. rw g (omega arith))

    pub begins_at : (i : ℕ) → i < m → takes i ≡ true → first i ≡ at i
    unfolding taken test_take at
    begins_at i l e =
        let g : test_take takes first i (free (step_take takes first count) i) ≡ true = passes (step_take takes first count) (test_take takes first) m total h i l in
        eqb-true (first i) (free (step_take takes first count) i) (rw e at g)

    pub ends_at : (i : ℕ) → takes i ≡ true → first i + count i ≡ at (i + 1)
    unfolding at free step_take
    ends_at i e = rw (add-one i, e)

    pub up_to : (i k : ℕ) → i ≤ k → k ≤ m → at i ≤ at k
    unfolding at taken
    up_to i k l g = rises (step_take takes first count) (test_take takes first) m total h up i k l g

    at-end : at m ≡ total
    unfolding at taken
    at-end = ends (step_take takes first count) (test_take takes first) m total h

    -- THE PROMISE: what a row takes is there, and no two take the same
    pub there : (i : ℕ) → i < m → takes i ≡ true → first i + count i ≤ total
    there i l e = omega (arith, ends_at i e, up_to (i + 1) m (omega arith) (omega arith), at-end)

    pub apart : (i k : ℕ) → i < k → k < m → takes i ≡ true → takes k ≡ true → first i + count i ≤ first k
    apart i k l g e f = omega (arith, ends_at i e, up_to (i + 1) k (omega arith) (omega arith), begins_at k g f)
