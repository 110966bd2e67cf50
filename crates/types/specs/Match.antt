-- Trusted: public promises are said with these definitions.
-- Types that match (report 9.1; 01, Verdicts; 02, b). Assumes nothing.
use Rattle.std.specs.Prelude.{ℕ, ◌+◌, ◌-◌, Bool, true, false, eqb, ltb, leb}
use Rattle.basics.specs.Choice.{pick, both}
use Rattle.table.specs.Table.{Table}
use Rattle.table.specs.Entries.{type_kind, type_q, type_low, type_high}
use Rattle.types.specs.Types.{NodeType, numbered, string}

-- 32,768 more than the integer that a word stands for: it orders words as their integers are ordered
unfoldable pub offset : ℕ → ℕ
offset v = pick (ltb v 32768) (v + 32768) (v - 32768)

-- how many index values there are from low to high, bounds that are integers as words (report 7)
unfoldable pub span : ℕ → ℕ → ℕ
span low high = offset high + 1 - offset low

unfoldable pub elements : Table → ℕ → ℕ
elements T τ = span (type_low T τ) (type_high T τ)

-- a string type is an array of characters (report 5.5.1)
unfoldable pub is_string : Table → ℕ → Bool
is_string T τ = pick (eqb (type_kind T τ) 2) (eqb (type_q T τ) 2) false

-- a string type, and how many characters it has
unfoldable pub is_text : Table → NodeType → Bool
is_text T (numbered τ) = is_string T τ
is_text T (string n) = true

unfoldable pub characters : Table → NodeType → ℕ
characters T (numbered τ) = elements T τ
characters T (string n) = n

unfoldable pub same_number : NodeType → NodeType → Bool
same_number (numbered τ) (numbered σ) = eqb τ σ
same_number (numbered τ) (string n) = false
same_number (string n) (numbered σ) = false
same_number (string n) (string k) = false

-- HOW TYPES MATCH (02, b): equal is the same type, or two strings of one length; fitted two strings of two lengths; unfit all else
pub data Match : Type 0 where
  equal fitted unfit : Match

unfoldable pub matching : Table → NodeType → NodeType → Match
matching T a b =
    pick (same_number a b) equal
    (pick (both (is_text T a) (is_text T b)) (pick (eqb (characters T a) (characters T b)) equal fitted) unfit)

-- what a place takes: equal types alone; or fitted ones too, which value arguments of string parameters may be
unfoldable pub is_equal : Match → Bool
is_equal equal = true
is_equal fitted = false
is_equal unfit = false

unfoldable pub is_fit : Match → Bool
is_fit equal = true
is_fit fitted = true
is_fit unfit = false

-- the word v is a value of the standard type τ: integer 0 any, boolean 1 0..1, character 2 0..127 (report 5.1)
unfoldable pub in_standard : ℕ → ℕ → Bool
in_standard τ v = pick (eqb τ 1) (leb v 1) (pick (eqb τ 2) (leb v 127) true)
