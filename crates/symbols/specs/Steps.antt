-- Inner: for code and proofs only; no public promise is said with these definitions.
-- What the functions below the call ask and tell one another: nothing here is part of what the call promises. Assumes nothing.
use Rattle.std.specs.Prelude.{ℕ, zero, suc, ◌+◌, ◌*◌, ◌%◌, ◌<◌, ◌≤◌, ◌≡◌, Bool, true, false, Option, None, Some, List, [], ◌∷◌, length, drop, eqb}
use Rattle.basics.specs.Choice.{either}
use Rattle.symbols.specs.Runs.{new_lines}
use Rattle.symbols.specs.declared.cursor.Extent.{Extent}
use Rattle.symbols.specs.Symbols.{symbol_length, comment_length, Reading, fault, found, symbols_from, symbols_of}

-- a length as the code gives it: none where nothing begins, which a definition says by 0
unfoldable pub if_any : ℕ → Option ℕ
if_any zero = None
if_any (suc n) = Some (suc n)

-- what a closure may answer of a byte is what a test says
abbrev pub Tests : (ℕ → Bool → Type 0) → (ℕ → Bool) → Type 0
Tests post test = (b : ℕ) (r : Bool) → post b r → r ≡ test b

-- a text begins with a comment that takes so many bytes, so many of them new lines
pub record BeginsComment (text : List ℕ) (c : Extent) : Type 0 where
  pub some : 0 < c.size
  pub within : c.size ≤ length text
  pub few : c.lines ≤ c.size
  pub is : c.size ≡ comment_length text
  pub lines : c.lines ≡ new_lines c.size text

-- the comment that begins here, as the code gives it
abbrev pub CommentIs : List ℕ → Option Extent → Type 0
CommentIs text None = comment_length text ≡ 0
CommentIs text (Some c) = BeginsComment text c

-- a cursor stands in a text: lines are counted from 1, and a new line is a byte
pub record Stands (text : List ℕ) (place line : ℕ) : Type 0 where
  pub within : place ≤ length text
  pub counted : line ≤ place + 1

-- from one place and line to the next: no symbol is passed, and no comment begins there
pub record PassesTo (text : List ℕ) (place line place' line' : ℕ) : Type 0 where
  pub stands : Stands text place' line'
  pub rises : place ≤ place'
  pub keeps : symbols_from line' place' 0 (drop place' text) ≡ symbols_from line place 0 (drop place text)
  pub ends : comment_length (drop place' text) ≡ 0

-- a text begins with a symbol of so many bytes
pub record Begins (text : List ℕ) (size : ℕ) : Type 0 where
  pub some : 0 < size
  pub within : size ≤ length text
  pub is : size ≡ symbol_length text

-- bytes as one number, the first lowest; a byte of a word is below 128
unfoldable pub packed : List ℕ → ℕ
packed [] = 0
packed (x ∷ s) = packed s * 128 + x % 128

unfoldable pub one_of : ℕ → List ℕ → Bool
one_of k [] = false
one_of k (x ∷ l) = either (eqb k x) (one_of k l)

-- there is room for the bytes of a symbol, and each of its numbers is a word
pub record SymbolRoom (out : List ℕ) (at line place size : ℕ) : Type 0 where
  pub room : at + 7 ≤ length out
  pub line_word : line < 65536
  pub place_word : place < 65536
  pub size_word : size < 65536

-- how many symbols there are, if they can be read
unfoldable pub counted : Reading → Option ℕ
counted fault = None
counted (found l) = Some (length l)

unfoldable pub is_found : Reading → Bool
is_found fault = false
is_found (found l) = true

-- a text whose symbols may be written
pub record WritableText (text out : List ℕ) : Type 0 where
  pub read : is_found (symbols_of text) ≡ true
  pub short : length text < 65536
  pub room : 7 * length text ≤ length out
