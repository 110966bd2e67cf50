-- Words and the integers that they stand for (`mag z` is n for n and for -(n + 1)). Assumes nothing.
use Prim.Native.Nat.{ℕ, ◌<◌}
use mathlib.Core.Path.{◌≡◌, sym, ap, ◌∙◌}
use mathlib.Core.Bool.{true}
use native.Mathlib.Omega.{arith}
use borrow.Author.Tests.{ltb-true, lt-ltb, le-ltb, leb-true, leb-false}
use lib.Dec.{ltb, leb}
use lib.IntN.{ℤ, pos, negsuc}
use lib.Signed.{mag}
use mir.Syntax.{w16}
use mir.ValLaws.{to_z-of_z, of_z-to_z, to_z-Fits}
use Rattle.basics.specs.Cases.{cases}
use Rattle.basics.specs.Choice.{both}
use Rattle.words.specs.Numbers.{int_of, word_of_z, between_z}
use Rattle.words.specs.Outcomes.{word}
use Rattle.words.specs.Operators.{ranged}

-- there and back
pub int_word : (z : ℤ) → mag z < 32768 → int_of (word_of_z z) ≡ z
int_word z h = to_z-of_z w16 z (record { sfits = h })

pub word_int : (w : ℕ) → w < 65536 → word_of_z (int_of w) ≡ w
word_int w h = of_z-to_z w16 w (record { fits = h })

pub int_same : (a b : ℕ) → a < 65536 → b < 65536 → int_of a ≡ int_of b → a ≡ b
int_same a b h k e = sym (word_int a h) ∙ (ap word_of_z e ∙ word_int b k)

pub int_range : (w : ℕ) → w < 65536 → mag (int_of w) < 32768
int_range w h = (to_z-Fits w16 w (record { fits = h })).sfits

pub word_lt : (z : ℤ) → mag z < 32768 → word_of_z z < 65536
word_lt (pos n) h = omega arith
word_lt (negsuc n) h = omega arith

-- the range -32768..32767 is one bound
pub in_range : (z : ℤ) → between_z (negsuc 32767) (pos 32767) z ≡ ltb (mag z) 32768
unfolding between_z both
in_range (pos n) =
    cases (leb n 32767)
    (λ e. rw (e, lt-ltb n 32768 (omega (arith, leb-true n 32767 e))))
    (λ e. rw (e, le-ltb n 32768 (omega (arith, leb-false n 32767 e))))
in_range (negsuc n) =
    cases (leb n 32767)
    (λ e. rw (e, lt-ltb n 32768 (omega (arith, leb-true n 32767 e))))
    (λ e. rw (e, le-ltb n 32768 (omega (arith, leb-false n 32767 e))))

pub in_range_mag : (z : ℤ) → between_z (negsuc 32767) (pos 32767) z ≡ true → mag z < 32768
in_range_mag z t = ltb-true (mag z) 32768 (sym (in_range z) ∙ t)

-- an operator's result is a word
pub ranged_lt : (z : ℤ) (w : ℕ) → ranged z ≡ word w → w < 65536
unfolding ranged
ranged_lt z w e =
    cases (between_z (negsuc 32767) (pos 32767) z)
    (λ t. let q : w ≡ word_of_z z = cc (rw t at e) in rw q (word_lt z (in_range_mag z t)))
    (λ t. let u = rw t at e in let q : ◌≡◌ {A = ℕ} 0 1 = cc in absurd (omega arith))
