-- The index of an element in its array, as `index_of` finds it and as its callers read it. Assumes nothing.
use Prim.Native.Nat.{ℕ, ◌+◌, ◌-◌, ◌*◌, ◌<◌, ◌≤◌}
use mathlib.Core.Path.{◌≡◌}
use mathlib.Core.Bool.{true, false}
use lib.Dec.{leb}
use native.Mathlib.Nat.{mul-le-mul}
use native.Mathlib.Omega.{arith}
use borrow.Author.Rules.{rules}
use borrow.Author.Tests.{le-leb, lt-leb}
use mir.Syntax.{w64}
use mir.Val.{Fits}
use Rattle.basics.specs.Choice.{both}
use Rattle.basics.specs.Cases.{cases}
use Rattle.table.specs.Reading.{Field}
use Rattle.types.specs.Match.{offset}
use Rattle.types.proofs.Finding.{offset_small}
use Rattle.words.specs.Operators.{le_w}
use Rattle.machine.specs.Operands.{outside}
use Rattle.operands.specs.Places.{IndexIs}
use Rattle.operands.proofs.Yielding.{le_offset}

-- ---- as it is found
module _ (low high i : ℕ) (sl : low < 65536) (sh : high < 65536) (si : i < 65536) (l x : ℕ) (hl : Field (offset low) l) (hx : Field (offset i) x) where
  low_test : le_w low i ≡ leb l x
  low_test = rw (hl.is, hx.is) (le_offset low i sl si)

  out_of_range : outside low high i ≡ true → IndexIs low high i 65536
  out_of_range e = record { is = rw e; most = omega arith }

  pub index_before : x < l → IndexIs low high i 65536
  unfolding outside both
  index_before h = out_of_range (rw (low_test, lt-leb l x h))

  module _ (h : l ≤ x) (y : ℕ) (hy : Field (offset high) y) where
    high_test : le_w i high ≡ leb x y
    high_test = rw (hx.is, hy.is) (le_offset i high si sh)

    pub index_after : y < x → IndexIs low high i 65536
    unfolding outside both
    index_after g = out_of_range (rw (low_test, high_test, le-leb l x h, lt-leb x y g))

    pub index_between : x ≤ y → IndexIs low high i (x - l)
    unfolding outside both
    index_between g =
        let s = hx.small in
        record { is = rw (low_test, high_test, le-leb l x h, le-leb x y g, ← hl.is, ← hx.is); most = omega arith }

pub ruleset finding = (index_before, index_after, index_between, rules)

-- ---- as it is read
module _ (low high i d : ℕ) (e : IndexIs low high i d) where
  pub index_outside : i < 65536 → d ≡ 65536 → outside low high i ≡ true
  index_outside s q =
      cases (outside low high i)
      (λ o. o)
      (λ o. let z : d ≡ offset i - offset low = rw o at e.is in let l = offset_small i s in absurd (omega arith))

  module _ (n : d ≡ 65536 → ⊥) where
    pub index_inside : outside low high i ≡ false
    index_inside = cases (outside low high i) (λ o. let z : d ≡ 65536 = rw o at e.is in absurd (n z)) (λ o. o)

    pub index_is : d ≡ offset i - offset low
    index_is = rw index_inside at e.is

  module _ (w : ℕ) (s : w < 65536) where
    most : d * w ≤ 65536 * 65536
    most = let l : w ≤ 65536 = omega arith in mul-le-mul e.most l

    pub index_times : Fits w64 (d * w)
    index_times = let z = most in record { fits = omega arith }

    pub index_sum : (a : ℕ) → a < 131072 → Fits w64 (a + d * w)
    index_sum a l = let z = most in record { fits = omega arith }
