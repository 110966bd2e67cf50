-- Filling an array that holds a function, and reading it. Assumes nothing.
use Prim.Native.Nat.{ℕ, ◌+◌, ◌<◌}
use mathlib.Core.Path.{◌≡◌, ◌∙◌}
use mathlib.Core.List.{List}
use lib.ListN.{length, get_or, set, take, length-set}
use lib.Seq.{get_or-set_same, get_or-set_other, get_or-take, length-take-le}
use lib.Dec.{eqb}
use borrow.Author.Tests.{eqb-true, eqb-false}
use native.Mathlib.Omega.{arith}
use Rattle.basics.specs.Cases.{cases}
use Rattle.basics.specs.Holds.{Holds}

module _ (f : ℕ → ℕ) where
  pub holds_none : (l : List ℕ) → Holds f 0 l
  holds_none l = record { long = omega arith; is = λ j h. absurd (omega arith) }

  pub holds_more : (l : List ℕ) (i v : ℕ) → Holds f i l → i < length l → v ≡ f i → Holds f (i + 1) (set l i v)
  holds_more l i v h g e =
      record {
        long = simp length-set (omega arith);
        is = λ j k.
            cases (eqb j i)
            (λ q. let p : j ≡ i = eqb-true j i q in rw (p, get_or-set_same l i v 0 g) e)
            (λ q. get_or-set_other l i j v 0 (eqb-false j i q) ∙ h.is j (omega (arith, eqb-false j i q)));
      }

  pub holds_at : (l : List ℕ) (n j : ℕ) → Holds f n l → j < n → get_or l j 0 ≡ f j
  holds_at l n j h k = h.is j k

  pub holds_in : (l : List ℕ) (n j : ℕ) → Holds f n l → j < n → j < length l
  holds_in l n j h k = omega (arith, h.long)

  -- the part that is filled
  pub holds_part : (l : List ℕ) (n : ℕ) → Holds f n l → Holds f n (take n l)
  holds_part l n h =
      record {
        long = rw (length-take-le n l h.long) (omega arith);
        is = λ j k. get_or-take n l j 0 k ∙ h.is j k;
      }

pub ruleset holding = (holds_none, holds_more, holds_at, holds_in)
