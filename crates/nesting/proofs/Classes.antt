-- The kind of a statement by its class, and back. Assumes nothing.
use mathlib.Core.Path.{◌≡◌, refl}
use mathlib.Core.Bool.{Bool, true, false}
use mathlib.Core.List.{[], ◌∷◌}
use Prim.Native.Nat.{ℕ, suc, ◌<◌, ◌≤◌}
use native.Mathlib.Omega.{arith}
use lib.Dec.{leb, eqb}
use lib.ListN.{get_or}
use borrow.Author.Tests.{leb-true, leb-false, eqb-true, ne_eqb, lt-ltb, le-leb, lt-leb}
use Rattle.basics.specs.Choice.{pick}
use Rattle.table.specs.Table.{Table}
use Rattle.table.specs.Entries.{stmt_count, stmt_kind}
use Rattle.table.proofs.EachKind.{stmt_kinds}
use Rattle.nesting.specs.Nest.{class_of, class}
use Rattle.nesting.proofs.Grammar.{within}

-- the class by tests of the kind
tests : ℕ → ℕ
tests k =
    pick (leb k 5) 0 (pick (leb k 9) 1 (pick (eqb k 10) 2 (pick (eqb k 11) 3 (pick (eqb k 12) 0 (pick (eqb k 13) 4 5)))))

class_at : (k : ℕ) → class_of k ≡ tests k
unfolding class_of tests
class_at =
    stmt_kinds (λ k. class_of k ≡ tests k)
    refl refl refl refl refl refl refl refl refl refl refl refl refl refl
    (λ k. rw (lt-leb (suc (suc (suc (suc (suc (suc (suc (suc (suc (suc (suc (suc (suc (suc k)))))))))))))) 5 (omega arith), lt-leb (suc (suc (suc (suc (suc (suc (suc (suc (suc (suc (suc (suc (suc (suc k)))))))))))))) 9 (omega arith), ne_eqb (suc (suc (suc (suc (suc (suc (suc (suc (suc (suc (suc (suc (suc (suc k)))))))))))))) 10 (λ q. omega arith), ne_eqb (suc (suc (suc (suc (suc (suc (suc (suc (suc (suc (suc (suc (suc (suc k)))))))))))))) 11 (λ q. omega arith), ne_eqb (suc (suc (suc (suc (suc (suc (suc (suc (suc (suc (suc (suc (suc (suc k)))))))))))))) 12 (λ q. omega arith), ne_eqb (suc (suc (suc (suc (suc (suc (suc (suc (suc (suc (suc (suc (suc (suc k)))))))))))))) 13 (λ q. omega arith)))

pub class_tested : (k : ℕ) → class_of k ≡ pick (leb k 5) 0 (pick (leb k 9) 1 (pick (eqb k 10) 2 (pick (eqb k 11) 3 (pick (eqb k 12) 0 (pick (eqb k 13) 4 5)))))
unfolding tests
class_tested k = class_at k

-- the lowest and the highest kind of a class; the highest of none is k
abbrev lowest : ℕ → ℕ
lowest c = get_or (0 ∷ 6 ∷ 10 ∷ 11 ∷ 13 ∷ []) c 0

abbrev highest : ℕ → ℕ → ℕ
highest k c = get_or (12 ∷ 9 ∷ 10 ∷ 11 ∷ 13 ∷ k ∷ []) c 0

record Between (k c : ℕ) : Type 0 where
  low : lowest c ≤ k
  high : k ≤ highest k c

split : (k : ℕ) (b : Bool) (x y : ℕ) → (b ≡ true → Between k x) → (b ≡ false → Between k y) → Between k (pick b x y)
split k true x y f g = f refl
split k false x y f g = g refl

between : (k : ℕ) → Between k (class_of k)
between k =
    rw (class_tested k)
    (split k (leb k 5) 0 _ (λ e. let l = leb-true k 5 e in record { low = omega arith; high = omega arith })
    (λ a. split k (leb k 9) 1 _ (λ e. let l = leb-true k 9 e in let m = leb-false k 5 a in record { low = omega arith; high = omega arith })
    (λ b. split k (eqb k 10) 2 _ (λ e. let l = eqb-true k 10 e in record { low = omega arith; high = omega arith })
    (λ c. split k (eqb k 11) 3 _ (λ e. let l = eqb-true k 11 e in record { low = omega arith; high = omega arith })
    (λ d. split k (eqb k 12) 0 _ (λ e. let l = eqb-true k 12 e in record { low = omega arith; high = omega arith })
    (λ f. split k (eqb k 13) 4 5 (λ e. let l = eqb-true k 13 e in record { low = omega arith; high = omega arith })
    (λ g. record { low = omega arith; high = omega arith })))))))

module _ (T : Table) (i : ℕ) where
  -- the class says the kind
  class_kind : (c : ℕ) → class T i ≡ c → c < 5 → class_of (stmt_kind T i) ≡ c
  unfolding class
  class_kind c e h = let l = within T i (omega arith) in rw (lt-ltb i (stmt_count T) l) at e

  of_class : (c : ℕ) → class T i ≡ c → c < 5 → Between (stmt_kind T i) c
  of_class c e h = rw (class_kind c e h) at (between (stmt_kind T i))

  pub opener_low : class T i ≡ 1 → 6 ≤ stmt_kind T i
  opener_low e = (of_class 1 e (omega arith)).low

  pub opener_high : class T i ≡ 1 → stmt_kind T i ≤ 9
  opener_high e = (of_class 1 e (omega arith)).high

  pub arm_kind : class T i ≡ 2 → stmt_kind T i ≡ 10
  arm_kind e = let b = of_class 2 e (omega arith) in omega (arith, b.low, b.high)

  pub end_kind : class T i ≡ 3 → stmt_kind T i ≡ 11
  end_kind e = let b = of_class 3 e (omega arith) in omega (arith, b.low, b.high)

  pub block_end_kind : class T i ≡ 4 → stmt_kind T i ≡ 13
  block_end_kind e = let b = of_class 4 e (omega arith) in omega (arith, b.low, b.high)

  -- the kind says the class
  module _ (l : i < stmt_count T) where
    pub class_opener : 6 ≤ stmt_kind T i → stmt_kind T i ≤ 9 → class T i ≡ 1
    unfolding class
    class_opener p q = rw (lt-ltb i (stmt_count T) l, class_tested (stmt_kind T i), lt-leb (stmt_kind T i) 5 p, le-leb (stmt_kind T i) 9 q)

    pub class_arm : stmt_kind T i ≡ 10 → class T i ≡ 2
    unfolding class class_of
    class_arm e = rw (lt-ltb i (stmt_count T) l, e)

    pub class_end : stmt_kind T i ≡ 11 → class T i ≡ 3
    unfolding class class_of
    class_end e = rw (lt-ltb i (stmt_count T) l, e)

    pub class_block_end : stmt_kind T i ≡ 13 → class T i ≡ 4
    unfolding class class_of
    class_block_end e = rw (lt-ltb i (stmt_count T) l, e)
