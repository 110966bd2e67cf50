-- Trusted: public promises are said with these definitions.
-- Numerals, character symbols and constants (6.1 to 6.3): how many bytes they take at the front of a text, 0 where none begins. Assumes nothing.
use Rattle.std.specs.Prelude.{ℕ, zero, suc, ◌+◌, ◌-◌, List, [], ◌∷◌, get_or, eqb}
use Rattle.basics.specs.Choice.{pick}
use Rattle.symbols.specs.Characters.{digit, octal_digit, plain_graphic}
use Rattle.symbols.specs.Runs.{span_length}

-- the bytes of a sign with the n that follow it; 0 where none does, for a sign alone is nothing
unfoldable pub signed : ℕ → ℕ
signed zero = 0
signed (suc n) = suc (suc n)

-- 6.1: decimal digits, or the number sign and octal digits
unfoldable pub numeral_length : List ℕ → ℕ
numeral_length [] = 0
numeral_length (x ∷ l) = pick (eqb x 35) (signed (span_length octal_digit l)) (span_length digit (x ∷ l))

-- 6.2, 02: a graphic other than the apostrophe and @, or @ and a numeral, as long as possible
unfoldable pub character_length : List ℕ → ℕ
character_length [] = 0
character_length (x ∷ l) = pick (eqb x 64) (signed (numeral_length l)) (pick (plain_graphic x) 1 0)

-- 6.3: the bytes of the character symbols at the front; k bytes of one that has begun come first
unfoldable pub characters_length : ℕ → List ℕ → ℕ
characters_length k [] = 0
characters_length (suc k) (x ∷ l) = suc (characters_length k l)
characters_length zero (x ∷ l) =
    pick (eqb (character_length (x ∷ l)) 0) 0 (suc (characters_length (character_length (x ∷ l) - 1) l))

-- between apostrophes one character symbol or more
unfoldable pub constant_length : List ℕ → ℕ
constant_length [] = 0
constant_length (x ∷ l) =
    pick (eqb x 39)
    (pick (eqb (characters_length 0 l) 0) 0
    (pick (eqb (get_or l (characters_length 0 l) 0) 39) (characters_length 0 l + 2) 0))
    0
