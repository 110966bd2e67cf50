-- What an accepted table promises of uses: each node has one, and no two rows use the same. Assumes nothing.
use Prim.Native.Nat.{ℕ, zero, suc, ◌+◌, ◌≤◌, ◌<◌}
use mathlib.Core.Path.{◌≡◌}
use mathlib.Core.Bool.{true}
use mathlib.Core.List.{List, [], ◌∷◌, ◌++◌}
use mathlib.Core.Logic.{◌⊎◌, inl, inr}
use native.Mathlib.Omega.{arith}
use lib.Dec.{eqb, ltb}
use borrow.Author.Tests.{eqb-true, eqb-false, ltb-true, ltb-false}
use Rattle.basics.specs.Cases.{cases}
use Rattle.basics.specs.Marks.{occurs, gather}
use Rattle.basics.proofs.Bools.{all-at}
use Rattle.table.specs.Table.{Table}
use Rattle.table.specs.Entries.{arg_count, node_count, stmt_count}
use Rattle.uses.specs.Uses.{entry_uses, section_uses, uses, once, used_once}
use Rattle.uses.proofs.Rows.{uses_are}

pub occurs_append : (x : ℕ) (a b : List ℕ) → occurs x (a ++ b) ≡ occurs x a + occurs x b
unfolding occurs
occurs_append x [] b = omega arith
occurs_append x (y ∷ a) b =
    let h = occurs_append x a b in
    cases (eqb y x) (λ e. rw e (omega arith)) (λ e. rw e h)

-- rows that name numbers
module _ (x : ℕ) (f : ℕ → List ℕ) where
  -- row i names x
  abbrev pub Names : ℕ → Type 0
  Names i = 1 ≤ occurs x (f i)

  step : (m : ℕ) → occurs x (gather f (suc m)) ≡ occurs x (f m) + occurs x (gather f m)
  unfolding gather
  step m = occurs_append x (f m) (gather f m)

  pub gather_at : (m i : ℕ) → i < m → occurs x (f i) ≤ occurs x (gather f m)
  gather_at zero i l = absurd (omega arith)
  gather_at (suc m) i l =
      let s = step m in
      cases (eqb i m) (λ e. rw (eqb-true i m e) (omega arith)) (λ e. let h = gather_at m i (omega (arith, eqb-false i m e)) in omega arith)

  pub gather_two : (m i k : ℕ) → i < k → k < m → occurs x (f i) + occurs x (f k) ≤ occurs x (gather f m)
  gather_two zero i k l g = absurd (omega arith)
  gather_two (suc m) i k l g =
      let s = step m in
      cases (eqb k m) (λ e. let q = eqb-true k m e in let h = gather_at m i (omega arith) in rw q (omega arith))
      (λ e. let h = gather_two m i k l (omega (arith, eqb-false k m e)) in omega arith)

  -- x is named by some row
  pub gather_some : (m : ℕ) → 1 ≤ occurs x (gather f m) → (i : ℕ) × (i < m) × Names i
  unfolding gather occurs
  gather_some zero h = absurd (omega arith)
  gather_some (suc m) h =
      let s = step m in
      cases (ltb 0 (occurs x (f m))) (λ e. (m, omega arith, ltb-true 0 (occurs x (f m)) e))
      (λ e. let z = ltb-false 0 (occurs x (f m)) e in let r = gather_some m (omega arith) in (r.0, omega (arith, r.1), r.2))

  -- where all rows together name x at most once, one row does
  pub gather_same : (m i k : ℕ) → i < m → k < m → occurs x (gather f m) ≤ 1 → Names i → Names k → i ≡ k
  gather_same m i k p q l a b =
      cases (ltb i k) (λ e. let h = gather_two m i k (ltb-true i k e) q in absurd (omega arith))
      (λ e.
      cases (ltb k i) (λ d. let h = gather_two m k i (ltb-true k i d) p in absurd (omega arith))
      (λ d. omega (arith, ltb-false i k e, ltb-false k i d)))

module _ (T : Table) (h : used_once T ≡ true) (n : ℕ) (l : n < node_count T) where
  pub used : occurs n (uses T) ≡ 1
  unfolding used_once once
  used = eqb-true (occurs n (uses T)) 1 (all-at (node_count T) (once (uses T)) h n l)

  -- its use is in one of the three sections
  pub sum : occurs n (gather (entry_uses T 4) (arg_count T)) + (occurs n (gather (entry_uses T 6) (stmt_count T)) + occurs n (gather (entry_uses T 5) (node_count T))) ≡ 1
  unfolding section_uses
  sum =
      let a = occurs_append n (gather (entry_uses T 6) (stmt_count T)) (gather (entry_uses T 5) (node_count T) ++ gather (entry_uses T 4) (arg_count T)) in
      let b = occurs_append n (gather (entry_uses T 5) (node_count T)) (gather (entry_uses T 4) (arg_count T)) in
      let u : occurs n (gather (entry_uses T 6) (stmt_count T) ++ (gather (entry_uses T 5) (node_count T) ++ gather (entry_uses T 4) (arg_count T))) ≡ 1 = rw uses_are at used in
      omega (arith, u)

  pub user : ((i : ℕ) × (i < arg_count T) × Names n (entry_uses T 4) i) ⊎ ((i : ℕ) × (i < stmt_count T) × Names n (entry_uses T 6) i) ⊎ ((i : ℕ) × (i < node_count T) × Names n (entry_uses T 5) i)
  user =
      cases (ltb 0 (occurs n (gather (entry_uses T 4) (arg_count T)))) (λ e. inl (gather_some n (entry_uses T 4) (arg_count T) (ltb-true 0 _ e)))
      (λ e.
      cases (ltb 0 (occurs n (gather (entry_uses T 6) (stmt_count T)))) (λ d. inr (inl (gather_some n (entry_uses T 6) (stmt_count T) (ltb-true 0 _ d))))
      (λ d. inr (inr (gather_some n (entry_uses T 5) (node_count T) (omega (arith, sum, ltb-false 0 (occurs n (gather (entry_uses T 4) (arg_count T))) e, ltb-false 0 (occurs n (gather (entry_uses T 6) (stmt_count T))) d))))))

  -- and no other row uses it
  pub same_arg : (i k : ℕ) → i < arg_count T → k < arg_count T → Names n (entry_uses T 4) i → Names n (entry_uses T 4) k → i ≡ k
  same_arg i k p q a b = gather_same n (entry_uses T 4) (arg_count T) i k p q (omega (arith, sum)) a b

  pub same_stmt : (i k : ℕ) → i < stmt_count T → k < stmt_count T → Names n (entry_uses T 6) i → Names n (entry_uses T 6) k → i ≡ k
  same_stmt i k p q a b = gather_same n (entry_uses T 6) (stmt_count T) i k p q (omega (arith, sum)) a b

  pub same_node : (i k : ℕ) → i < node_count T → k < node_count T → Names n (entry_uses T 5) i → Names n (entry_uses T 5) k → i ≡ k
  same_node i k p q a b = gather_same n (entry_uses T 5) (node_count T) i k p q (omega (arith, sum)) a b
