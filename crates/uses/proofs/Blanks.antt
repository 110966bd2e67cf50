-- An array with no mark, as a caller lends it. Assumes nothing.
use Prim.Native.Nat.{ℕ, ◌≤◌, ◌<◌}
use mathlib.Core.Path.{◌∙◌}
use mathlib.Core.List.{List}
use native.Mathlib.Omega.{arith}
use lib.ListN.{length, take, replicate, length-replicate, get_or-replicate}
use lib.Seq.{get_or-take, length-take-le}
use Rattle.uses.specs.Marked.{NoMarks}

-- a new array of m zeros
pub blank_new : (n m : ℕ) → n ≤ m → NoMarks n (replicate m 0)
blank_new n m h =
    record {
      long = simp length-replicate h;
      zeros = λ j l. get_or-replicate {A = ℕ} m j 0 0 (rw (length-replicate {A = ℕ} m 0) at l);
    }

-- the first k bytes of one
pub blank_part : (n k : ℕ) (seen : List ℕ) → n ≤ k → k ≤ length seen → NoMarks n seen → NoMarks n (take k seen)
blank_part n k seen h l b =
    record {
      long = rw (length-take-le k seen l) h;
      zeros = λ j g.
          let d : j < k = rw (length-take-le k seen l) at g in
          get_or-take k seen j 0 d ∙ b.zeros j (omega arith);
    }
