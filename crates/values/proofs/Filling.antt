-- Filling a lookup, and the part that is filled. Assumes nothing.
use Prim.Native.Nat.{ℕ, ◌≤◌, ◌<◌}
use mathlib.Core.Path.{◌≡◌}
use mathlib.Core.List.{List}
use lib.ListN.{length, take}
use lib.Seq.{get_or-take, length-take-le}
use native.Mathlib.Omega.{arith}
use Rattle.values.specs.Lookup.{Lookup}

module _ (R : ℕ → ℕ → Type 0) (l : List ℕ) where
  pub lookup-none : Lookup R 0 l
  lookup-none = record { long = omega arith; is = λ j k. absurd (omega arith) }

  pub lookup_part : (n : ℕ) → Lookup R n l → Lookup R (length (take n l)) (take n l)
  lookup_part n h =
      record {
        long = omega arith;
        is = λ j k.
            let g : j < n = rw (length-take-le n l h.long) at k in
            rw (get_or-take n l j 0 g) (h.is j g);
      }

  pub lookup_all : (i n : ℕ) → Lookup R i l → i ≤ n → n ≤ i → Lookup R n l
  lookup_all i n h a b = let e : i ≡ n = omega arith in rw e at h
