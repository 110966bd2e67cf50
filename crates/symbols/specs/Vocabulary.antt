-- Trusted: public promises are said with these definitions.
-- Special symbols, word symbols and names (3.2, 3.3). Assumes nothing.
use Rattle.std.specs.Prelude.{ℕ, suc, max, Bool, true, false, List, [], ◌∷◌, map, length, eqb}
use Rattle.basics.specs.Choice.{pick, both, either}
use Rattle.symbols.specs.Characters.{letter, in_name, small}
use Rattle.symbols.specs.Runs.{span_length}

-- 3.3: a letter, then letters and digits
unfoldable pub name_length : List ℕ → ℕ
name_length [] = 0
name_length (x ∷ l) = pick (letter x) (suc (span_length in_name l)) 0

-- 3.2, with <>
unfoldable pub special_symbols : List (List ℕ)
special_symbols =
    (43 ∷ []) ∷  -- +
    (45 ∷ []) ∷  -- -
    (42 ∷ []) ∷  -- *
    (47 ∷ []) ∷  -- /
    (61 ∷ []) ∷  -- =
    (60 ∷ 62 ∷ []) ∷  -- <>
    (60 ∷ []) ∷  -- <
    (60 ∷ 61 ∷ []) ∷  -- <=
    (62 ∷ []) ∷  -- >
    (62 ∷ 61 ∷ []) ∷  -- >=
    (58 ∷ 61 ∷ []) ∷  -- :=
    (40 ∷ []) ∷  -- (
    (41 ∷ []) ∷  -- )
    (91 ∷ []) ∷  -- [
    (93 ∷ []) ∷  -- ]
    (46 ∷ []) ∷  -- .
    (46 ∷ 46 ∷ []) ∷  -- ..
    (44 ∷ []) ∷  -- ,
    (58 ∷ []) ∷  -- :
    (59 ∷ []) ∷  -- ;
    []

-- the text begins with these bytes
unfoldable pub begins_with : List ℕ → List ℕ → Bool
begins_with [] l = true
begins_with (x ∷ s) [] = false
begins_with (x ∷ s) (y ∷ l) = both (eqb x y) (begins_with s l)

-- the length of the longest of some symbols with which the text begins, 0 where there is none
unfoldable pub longest : List (List ℕ) → List ℕ → ℕ
longest [] l = 0
longest (s ∷ ss) l = max (pick (begins_with s l) (length s) 0) (longest ss l)

unfoldable pub special_length : List ℕ → ℕ
special_length l = longest special_symbols l

-- 3.2, with mod
unfoldable pub word_symbols : List (List ℕ)
word_symbols =
    (97 ∷ 110 ∷ 100 ∷ []) ∷  -- and
    (97 ∷ 114 ∷ 114 ∷ 97 ∷ 121 ∷ []) ∷  -- array
    (98 ∷ 101 ∷ 103 ∷ 105 ∷ 110 ∷ []) ∷  -- begin
    (99 ∷ 111 ∷ 110 ∷ 115 ∷ 116 ∷ []) ∷  -- const
    (99 ∷ 114 ∷ 101 ∷ 97 ∷ 116 ∷ 101 ∷ []) ∷  -- create
    (99 ∷ 121 ∷ 99 ∷ 108 ∷ 101 ∷ []) ∷  -- cycle
    (100 ∷ 111 ∷ []) ∷  -- do
    (101 ∷ 108 ∷ 115 ∷ 101 ∷ []) ∷  -- else
    (101 ∷ 110 ∷ 100 ∷ []) ∷  -- end
    (105 ∷ 102 ∷ []) ∷  -- if
    (109 ∷ 111 ∷ 100 ∷ []) ∷  -- mod
    (110 ∷ 111 ∷ 116 ∷ []) ∷  -- not
    (111 ∷ 102 ∷ []) ∷  -- of
    (111 ∷ 114 ∷ []) ∷  -- or
    (112 ∷ 114 ∷ 111 ∷ 99 ∷ 101 ∷ 100 ∷ 117 ∷ 114 ∷ 101 ∷ []) ∷  -- procedure
    (112 ∷ 114 ∷ 111 ∷ 99 ∷ 101 ∷ 115 ∷ 115 ∷ []) ∷  -- process
    (114 ∷ 101 ∷ 99 ∷ 111 ∷ 114 ∷ 100 ∷ []) ∷  -- record
    (115 ∷ 107 ∷ 105 ∷ 112 ∷ []) ∷  -- skip
    (115 ∷ 112 ∷ 97 ∷ 99 ∷ 101 ∷ []) ∷  -- space
    (115 ∷ 116 ∷ 97 ∷ 114 ∷ 116 ∷ []) ∷  -- start
    (116 ∷ 121 ∷ 112 ∷ 101 ∷ []) ∷  -- type
    (118 ∷ 97 ∷ 108 ∷ []) ∷  -- val
    (118 ∷ 97 ∷ 114 ∷ []) ∷  -- var
    (119 ∷ 104 ∷ 101 ∷ 110 ∷ []) ∷  -- when
    (119 ∷ 104 ∷ 105 ∷ 108 ∷ 101 ∷ []) ∷  -- while
    []

unfoldable pub same_bytes : List ℕ → List ℕ → Bool
same_bytes [] [] = true
same_bytes [] (y ∷ t) = false
same_bytes (x ∷ s) [] = false
same_bytes (x ∷ s) (y ∷ t) = both (eqb x y) (same_bytes s t)

unfoldable pub among : List ℕ → List (List ℕ) → Bool
among s [] = false
among s (t ∷ ts) = either (same_bytes s t) (among s ts)

-- 3.1: capitals count as small letters
unfoldable pub is_word : List ℕ → Bool
is_word s = among (map small s) word_symbols
