-- Trusted: public promises are said with these definitions.
-- Recursion on all smaller numbers. Assumes nothing.
use Rattle.std.specs.Prelude.{ℕ, zero, suc, eqb}
use Rattle.basics.specs.Choice.{pick}

module _ {A : Type 0} (d : A) (F : ℕ → (ℕ → A) → A) where
  unfoldable pub upto : ℕ → ℕ → A
  upto zero p = d
  upto (suc k) p = pick (eqb p k) (F k (upto k)) (upto k p)

  -- F at n, with what F gives at each smaller number, and d at the others
  unfoldable pub course : ℕ → A
  course n = F n (upto n)
