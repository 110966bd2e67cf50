-- Values of the standard types. Assumes nothing.
use Prim.Native.Nat.{ℕ, ◌<◌}
use mathlib.Core.Path.{◌≡◌, refl, sym, ◌∙◌}
use mathlib.Core.Bool.{Bool, true, false}
use native.Mathlib.Omega.{arith}
use borrow.Author.Tests.{lt-ltb, le-ltb, ltb-false, le-leb, lt-leb}
use lib.Dec.{ltb, leb}
use lib.IntN.{ℤ, pos, negsuc}
use mir.Syntax.{w16, w32}
use mir.Val.{Fits, to_z, of_z}
use Rattle.basics.specs.Cases.{cases}
use Rattle.basics.specs.Choice.{both}
use Rattle.words.specs.Numbers.{int_of, between_z}
use Rattle.words.specs.Types.{lowest, highest, in_type}
use Rattle.words.proofs.Integers.{in_range, int_range}
use Rattle.words.proofs.Arithmetic.{back}

module _ (τ w : ℕ) (b : Bool) where
  integer_test : τ ≡ 0 → b ≡ between_z (negsuc 32767) (pos 32767) (int_of w) → b ≡ in_type τ w
  unfolding in_type lowest highest both
  integer_test t e = rw t e

  boolean_test : τ ≡ 1 → b ≡ between_z (pos 0) (pos 1) (int_of w) → b ≡ in_type τ w
  unfolding in_type lowest highest both
  boolean_test t e = rw t e

  character_test : τ ≡ 2 → b ≡ between_z (pos 0) (pos 127) (int_of w) → b ≡ in_type τ w
  unfolding in_type lowest highest both
  character_test t e = rw t e

  -- the same of a local z that holds the integer
  module _ (f : Fits w16 w) (z : ℤ) (ez : z ≡ int_of w) where
    pub as_integer : τ ≡ 0 → b ≡ between_z (negsuc 32767) (pos 32767) (to_z w32 (of_z w32 z)) → b ≡ in_type τ w
    as_integer t e = integer_test t (rw (back ez f) at e)

    pub as_boolean : τ ≡ 1 → b ≡ between_z (pos 0) (pos 1) (to_z w32 (of_z w32 z)) → b ≡ in_type τ w
    as_boolean t e = boolean_test t (rw (back ez f) at e)

    pub as_character : τ ≡ 2 → b ≡ between_z (pos 0) (pos 127) (to_z w32 (of_z w32 z)) → b ≡ in_type τ w
    as_character t e = character_test t (rw (back ez f) at e)

pub as_none : (τ w : ℕ) → (τ ≡ 0 → ⊥) → (τ ≡ 1 → ⊥) → (τ ≡ 2 → ⊥) → false ≡ in_type τ w
unfolding in_type both
as_none τ w x y z = rw (le-ltb τ 3 (omega arith))

pub ruleset typed = (as_integer, as_boolean, as_character, as_none)

-- what that comes to on words
from_zero : (h w : ℕ) → h < 32768 → w < 65536 → between_z (pos 0) (pos h) (int_of w) ≡ leb w h
unfolding between_z both
from_zero h w l k =
    cases (ltb w 32768)
    (λ e. rw (e, le-leb 0 w (omega arith)))
    (λ e. let g = ltb-false w 32768 e in rw (e, lt-leb w h (omega arith)))

module _ (w : ℕ) (k : w < 65536) where
  pub integer_is : in_type 0 w ≡ true
  integer_is = sym (integer_test 0 w true refl (sym (in_range (int_of w) ∙ lt-ltb _ 32768 (int_range w k))))

  pub boolean_is : in_type 1 w ≡ leb w 1
  boolean_is = sym (boolean_test 1 w (leb w 1) refl (sym (from_zero 1 w (omega arith) k)))

  pub character_is : in_type 2 w ≡ leb w 127
  character_is = sym (character_test 2 w (leb w 127) refl (sym (from_zero 127 w (omega arith) k)))
