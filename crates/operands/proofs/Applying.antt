-- The operators by their numbers: the laws of each return. Assumes nothing.
use Prim.Native.Nat.{ℕ, ◌<◌}
use mathlib.Core.Path.{◌≡◌, refl}
use mathlib.Core.Bool.{Bool, true, false}
use native.Mathlib.Omega.{arith}
use borrow.Author.Tests.{ne_eqb}
use Rattle.words.specs.Outcomes as words
use Rattle.words.specs.Operators.{bool_word}
use Rattle.operands.specs.Operators.{logic, binary_word}
use Rattle.operands.specs.Packed.{WordIs}
use Rattle.operands.proofs.Packing.{tell_word}

pub by_truth : (b : Bool) (r : ℕ) → r ≡ bool_word b → WordIs (words.word (bool_word b)) r
by_truth b r e = tell_word (words.word (bool_word b)) (bool_word b) r (record { is = e; small = rw e (small b) }) refl
  where
    small : (b : Bool) → bool_word b < 65536
    small true = omega arith
    small false = omega arith

module _ (o τ u v r : ℕ) where
  pub by_number : (k : ℕ) (x : words.WordOutcome) → o ≡ k → WordIs x r → x ≡ binary_word k τ u v → WordIs (binary_word o τ u v) r
  by_number k x e h g = rw e (rw g at h)

  pub by_relation : (k : ℕ) (b a : Bool) → o ≡ k → WordIs (words.word (bool_word b)) r → b ≡ a → words.word (bool_word a) ≡ binary_word k τ u v → WordIs (binary_word o τ u v) r
  by_relation k b a e h g q = by_number k (words.word (bool_word b)) e h (rw g q)

  pub by_logic : (w : ℕ)
      → (o ≡ 1 → ⊥) → (o ≡ 2 → ⊥) → (o ≡ 3 → ⊥) → (o ≡ 4 → ⊥) → (o ≡ 5 → ⊥) → (o ≡ 6 → ⊥) → (o ≡ 7 → ⊥) → (o ≡ 8 → ⊥) → (o ≡ 9 → ⊥) → (o ≡ 10 → ⊥) → (o ≡ 11 → ⊥)
      → w ≡ logic o τ u v → w < 65536 → r ≡ w → WordIs (binary_word o τ u v) r
  unfolding binary_word
  by_logic w n1 n2 n3 n4 n5 n6 n7 n8 n9 n10 n11 e l q =
      tell_word (binary_word o τ u v) w r (record { is = q; small = omega arith })
      (rw (ne_eqb o 1 n1, ne_eqb o 2 n2, ne_eqb o 3 n3, ne_eqb o 4 n4, ne_eqb o 5 n5, ne_eqb o 6 n6, ne_eqb o 7 n7, ne_eqb o 8 n8, ne_eqb o 9 n9, ne_eqb o 10 n10, ne_eqb o 11 n11, e))

pub ruleset applies = (by_truth, by_number, by_relation, by_logic)
