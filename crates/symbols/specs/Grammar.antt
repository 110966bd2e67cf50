-- Trusted: public promises are said with these definitions.
-- What symbols and comments are (3.2, 3.3, 6.1 to 6.3), apart from how they are found. Assumes nothing.
use Rattle.std.specs.Prelude.{ℕ, suc, ◌+◌, ◌≤◌, ◌≡◌, Bool, true, false, List, [], ◌∷◌, ◌++◌, length}
use Rattle.basics.specs.Choice.{both}
use Rattle.symbols.specs.Characters.{letter, digit, octal_digit, in_name, in_comment, plain_graphic}
use Rattle.symbols.specs.Runs.{new_lines}
use Rattle.symbols.specs.Vocabulary.{special_symbols, among, is_word}
use Rattle.symbols.specs.Symbols.{Symbol}

-- every byte is of a class
unfoldable pub all : (ℕ → Bool) → List ℕ → Bool
all f [] = true
all f (x ∷ s) = both (f x) (all f s)

-- 3.3
pub data Name : List ℕ → Type 0 where
  name : (x : ℕ) (s : List ℕ) → letter x ≡ true → all in_name s ≡ true → Name (x ∷ s)

-- 6.1
pub data Numeral : List ℕ → Type 0 where
  decimal : (x : ℕ) (s : List ℕ) → all digit (x ∷ s) ≡ true → Numeral (x ∷ s)
  octal : (x : ℕ) (s : List ℕ) → all octal_digit (x ∷ s) ≡ true → Numeral (35 ∷ x ∷ s)

-- 6.2, 02: a character symbol, and the bytes that follow it in its constant: its numeral is as long as possible
pub data Character : List ℕ → List ℕ → Type 0 where
  plain : (x : ℕ) (t : List ℕ) → plain_graphic x ≡ true → Character (x ∷ []) t
  coded : (s t : List ℕ) → Numeral s → ((u w : List ℕ) → t ≡ u ++ w → Numeral (s ++ u) → u ≡ []) → Character (64 ∷ s) t

-- 6.3: so many of them
pub data Characters : ℕ → List ℕ → Type 0 where
  none : Characters 0 []
  more : (n : ℕ) (s t : List ℕ) → Character s t → Characters n t → Characters (suc n) (s ++ t)

-- 3.2, with the numbers of 02
pub data IsSymbol : ℕ → List ℕ → Type 0 where
  special : (s : List ℕ) → among s special_symbols ≡ true → IsSymbol 1 s
  word : (s : List ℕ) → Name s → is_word s ≡ true → IsSymbol 2 s
  plain_name : (s : List ℕ) → Name s → is_word s ≡ false → IsSymbol 3 s
  numeral : (s : List ℕ) → Numeral s → IsSymbol 4 s
  character : (s : List ℕ) → Characters 1 s → IsSymbol 5 (39 ∷ s ++ 39 ∷ [])
  string : (n : ℕ) (s : List ℕ) → Characters (suc (suc n)) s → IsSymbol 6 (39 ∷ s ++ 39 ∷ [])

-- no symbol with which the rest of the text begins is longer
pub record Longest (k : ℕ) (s rest : List ℕ) : Type 0 where
  pub is : IsSymbol k s
  pub longest : (j : ℕ) (u w : List ℕ) → IsSymbol j u → s ++ rest ≡ u ++ w → length u ≤ length s

-- 3.2
pub data Comment : List ℕ → Type 0 where
  space : Comment (32 ∷ [])
  new_line : Comment (10 ∷ [])
  quoted : (s : List ℕ) → all in_comment s ≡ true → Comment (34 ∷ s ++ 34 ∷ [])

-- a text and its symbols, from a line and a place on: there stands a comment, or the longest symbol that begins there
pub data Splits : ℕ → ℕ → List ℕ → List Symbol → Type 0 where
  done : (line place : ℕ) → Splits line place [] []
  comment : (line place : ℕ) (s rest : List ℕ) (l : List Symbol) → Comment s → Splits (line + new_lines (length s) s) (place + length s) rest l → Splits line place (s ++ rest) l
  symbol : (line place k : ℕ) (s rest : List ℕ) (l : List Symbol) → Longest k s rest → Splits line (place + length s) rest l
      → Splits line place (s ++ rest) (record { kind = k; line = line; place = place; size = length s } ∷ l)

-- symbols within a part of a text: each takes a byte at least, and the next begins behind it
unfoldable pub Rising : ℕ → ℕ → List Symbol → Type 0
Rising from to [] = from ≤ to
Rising from to (s ∷ l) = (from ≤ s.place) × ((1 ≤ s.size) × Rising (s.place + s.size) to l)

-- a symbol's line is one more than the new lines before it
unfoldable pub Lined : List ℕ → List Symbol → Type 0
Lined text [] = Unit {0}
Lined text (s ∷ l) = (s.line ≡ 1 + new_lines s.place text) × Lined text l
