-- Inner: for code and proofs only; no public promise is said with these definitions.
-- The kinds of symbols, as numbers (02 (a)). Assumes nothing.
use Rattle.std.specs.Prelude.{ℕ}
use Rattle.symbols.specs.declared.Kind.{Kind}
use Rattle.symbols.specs.declared.Kind.TheVariants.{Special, Word, Name, Numeral, Character, String}

-- 1 special, 2 word, 3 name, 4 numeral, 5 character, 6 string
unfoldable pub kind_number : Kind → ℕ
kind_number Special = 1
kind_number Word = 2
kind_number Name = 3
kind_number Numeral = 4
kind_number Character = 5
kind_number String = 6
