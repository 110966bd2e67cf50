-- What the nesting promises of each statement of a body. Assumes nothing.
use mathlib.Core.Path.{◌≡◌}
use Prim.Native.Nat.{ℕ, ◌+◌, ◌<◌, ◌≤◌}
use native.Mathlib.Omega.{arith}
use lib.Dec.{ltb, eqb}
use borrow.Author.Tests.{ltb-true, ltb-false, eqb-true, eqb-false}
use Rattle.basics.specs.Cases.{cases}
use Rattle.table.specs.Table.{Table}
use Rattle.table.specs.Entries.{stmt_link}
use Rattle.nesting.specs.Nest.{class}
use Rattle.nesting.specs.Grammar.{Body, one, more, StatementSpan, simple, group, Arm, arm, Arms, last, next}
use Rattle.nesting.proofs.Grammar.{body_up, stmt_up, arm_up, arms_up, first_arm}

-- statement k is right among the statements from lo to before hi
pub record Fine (T : Table) (lo hi k : ℕ) : Type 0 where
  pub known : class T k ≤ 3
  pub opener : class T k ≡ 1 → class T (k + 1) ≡ 2
  pub arm_up : class T k ≡ 2 → k < stmt_link T k
  pub arm_in : class T k ≡ 2 → stmt_link T k < hi
  pub arm_low : class T k ≡ 2 → 2 ≤ class T (stmt_link T k)
  pub arm_high : class T k ≡ 2 → class T (stmt_link T k) ≤ 3
  pub end_down : class T k ≡ 3 → stmt_link T k < k
  pub end_in : class T k ≡ 3 → lo ≤ stmt_link T k
  pub end_opener : class T k ≡ 3 → class T (stmt_link T k) ≡ 1

module _ (T : Table) (lo hi : ℕ) where
  abbrev Fines : ℕ → ℕ → Type 0
  Fines i j = (k : ℕ) → i ≤ k → k < j → Fine T lo hi k

  fine_simple : (k : ℕ) → class T k ≡ 0 → Fine T lo hi k
  fine_simple k c = record { known = omega arith; opener = λ e. absurd (omega arith); arm_up = λ e. absurd (omega arith); arm_in = λ e. absurd (omega arith); arm_low = λ e. absurd (omega arith); arm_high = λ e. absurd (omega arith); end_down = λ e. absurd (omega arith); end_in = λ e. absurd (omega arith); end_opener = λ e. absurd (omega arith) }

  fine_opener : (k : ℕ) → class T k ≡ 1 → class T (k + 1) ≡ 2 → Fine T lo hi k
  fine_opener k c d = record { known = omega arith; opener = λ e. d; arm_up = λ e. absurd (omega arith); arm_in = λ e. absurd (omega arith); arm_low = λ e. absurd (omega arith); arm_high = λ e. absurd (omega arith); end_down = λ e. absurd (omega arith); end_in = λ e. absurd (omega arith); end_opener = λ e. absurd (omega arith) }

  fine_arm : (k j : ℕ) → class T k ≡ 2 → stmt_link T k ≡ j → k < j → j < hi → 2 ≤ class T j → class T j ≤ 3 → Fine T lo hi k
  fine_arm k j c l u h p q = record { known = omega arith; opener = λ e. absurd (omega arith); arm_up = λ e. omega arith; arm_in = λ e. omega arith; arm_low = λ e. rw l p; arm_high = λ e. rw l q; end_down = λ e. absurd (omega arith); end_in = λ e. absurd (omega arith); end_opener = λ e. absurd (omega arith) }

  fine_end : (k o : ℕ) → class T k ≡ 3 → stmt_link T k ≡ o → o < k → lo ≤ o → class T o ≡ 1 → Fine T lo hi k
  fine_end k o c l u h p = record { known = omega arith; opener = λ e. absurd (omega arith); arm_up = λ e. absurd (omega arith); arm_in = λ e. absurd (omega arith); arm_low = λ e. absurd (omega arith); arm_high = λ e. absurd (omega arith); end_down = λ e. omega arith; end_in = λ e. omega arith; end_opener = λ e. rw l p }

  -- one number, and those after it; those below a number, and those from it on
  first_and : {i j : ℕ} → Fine T lo hi i → Fines (i + 1) j → Fines i j
  first_and {i} {j} x xs k p q = cases (eqb i k) (λ e. rw (← eqb-true i k e) x) (λ e. xs k (omega (arith, eqb-false i k e)) q)

  joined : {i j l : ℕ} → Fines i j → Fines j l → Fines i l
  joined {i} {j} xs ys k p q = cases (ltb k j) (λ e. xs k p (ltb-true k j e)) (λ e. ys k (ltb-false k j e) q)

  none : {i j : ℕ} → i ≡ j → Fines j i
  none e k p q = absurd (omega arith)

  mutual
    pub body_fine : {i j : ℕ} → Body T i j → lo ≤ i → j ≤ hi → Fines i j
    body_fine (one s) p q = stmt_fine s p q
    body_fine (more s b) p q = let u = stmt_up T s in let v = body_up T b in joined (stmt_fine s p (omega arith)) (body_fine b (omega arith) q)

    stmt_fine : {i j : ℕ} → StatementSpan T i j → lo ≤ i → j ≤ hi → Fines i j
    stmt_fine (simple c e) p q = first_and (fine_simple _ c) (none e)
    stmt_fine (group c a) p q = first_and (fine_opener _ c (first_arm T a)) (arms_fine a p (omega arith) c q)

    arm_fine : {i j : ℕ} → Arm T i j → lo ≤ i → j < hi → 2 ≤ class T j → class T j ≤ 3 → Fines i j
    arm_fine (arm c b l) p q x y = let v = body_up T b in first_and (fine_arm _ _ c l (omega arith) q x y) (body_fine b (omega arith) (omega arith))

    arms_fine : {o i j : ℕ} → Arms T o i j → lo ≤ o → o < i → class T o ≡ 1 → j ≤ hi → Fines i j
    arms_fine {o} (last {j = j} a d e r) p u w q =
        let v = arm_up T a in
        joined (arm_fine a (omega arith) (omega arith) (omega arith) (omega arith)) (first_and (fine_end j o d e (omega arith) p w) (none r))
    arms_fine (next a b) p u w q =
        let v = arm_up T a in
        let x = arms_up T b in
        let y = first_arm T b in
        joined (arm_fine a (omega arith) (omega arith) (omega arith) (omega arith)) (arms_fine b p (omega arith) w q)
