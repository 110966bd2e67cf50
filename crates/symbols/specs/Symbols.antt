-- Trusted: public promises are said with these definitions.
-- The symbols of a text (3.2, 02 (a)). Assumes nothing.
use Rattle.std.specs.Prelude.{ℕ, zero, suc, ◌+◌, ◌-◌, List, [], ◌∷◌, get_or, take, eqb}
use Rattle.basics.specs.Choice.{pick}
use Rattle.symbols.specs.Characters.{letter, digit, in_comment}
use Rattle.symbols.specs.Runs.{span_length, new_lines}
use Rattle.symbols.specs.Constants.{numeral_length, character_length, characters_length, constant_length}
use Rattle.symbols.specs.Vocabulary.{name_length, special_length, is_word}

-- the first of two lengths that is not 0
unfoldable pub or_else : ℕ → ℕ → ℕ
or_else a b = pick (eqb a 0) b a

-- the bytes of the symbol that begins at the front, 0 where none begins. Names, numerals, constants and special symbols begin with different characters
unfoldable pub symbol_length : List ℕ → ℕ
symbol_length l = or_else (name_length l) (or_else (numeral_length l) (or_else (constant_length l) (special_length l)))

-- a name that is a word symbol, or another
unfoldable pub name_kind : List ℕ → ℕ
name_kind l = pick (is_word (take (name_length l) l)) 2 3

-- l follows the apostrophe: one character symbol is a character constant (6.2), more are a string (6.3)
unfoldable pub constant_kind : List ℕ → ℕ
constant_kind l = pick (eqb (characters_length 0 l) (character_length l)) 5 6

-- 02: 1 special, 2 word, 3 name, 4 numeral, 5 character, 6 string. Of the symbol that begins at the front; without a meaning where none begins
unfoldable pub symbol_kind : List ℕ → ℕ
symbol_kind [] = 0
symbol_kind (x ∷ l) =
    pick (letter x) (name_kind (x ∷ l))
    (pick (eqb x 39) (constant_kind l)
    (pick (digit x) 4
    (pick (eqb x 35) 4 1)))

-- 3.2: a space, a new line, or characters without quotes in quotes. Its bytes, 0 where none begins
unfoldable pub comment_length : List ℕ → ℕ
comment_length [] = 0
comment_length (x ∷ l) =
    pick (eqb x 32) 1
    (pick (eqb x 10) 1
    (pick (eqb x 34) (pick (eqb (get_or l (span_length in_comment l) 0) 34) (span_length in_comment l + 2) 0) 0))

pub record Symbol : Type 0 where
  pub kind : ℕ
  -- from 1
  pub line : ℕ
  -- of the first byte, from 0
  pub place : ℕ
  pub size : ℕ

-- the symbols of a text, or a fault: a place at which neither a symbol nor a comment begins
pub data Reading : Type 0 where
  fault : Reading
  found : List Symbol → Reading

unfoldable pub more : Symbol → Reading → Reading
more s fault = fault
more s (found l) = found (s ∷ l)

-- the symbols from a place on; the first k bytes belong to what has begun before
unfoldable pub symbols_from : (line place k : ℕ) → List ℕ → Reading
symbols_from line place k [] = found []
symbols_from line place (suc k) (x ∷ l) = symbols_from line (place + 1) k l
symbols_from line place zero (x ∷ l) =
    pick (eqb (comment_length (x ∷ l)) 0)
    (pick (eqb (symbol_length (x ∷ l)) 0) fault
    (more (record { kind = symbol_kind (x ∷ l); line = line; place = place; size = symbol_length (x ∷ l) })
    (symbols_from line (place + 1) (symbol_length (x ∷ l) - 1) l)))
    (symbols_from (line + new_lines (comment_length (x ∷ l)) (x ∷ l)) (place + 1) (comment_length (x ∷ l) - 1) l)

unfoldable pub symbols_of : List ℕ → Reading
symbols_of text = symbols_from 1 0 0 text
