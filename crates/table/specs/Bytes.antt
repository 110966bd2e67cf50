-- Trusted: public promises are said with these definitions.
-- Sections of rows in a list of bytes, where most fields have w bytes: 1 in the small edition (01, The table). Assumes nothing.
use Rattle.std.specs.Prelude.{ℕ, ◌+◌, ◌-◌, ◌*◌, List, [], ◌∷◌, Bool, true, false, length, get_or, eqb, leb, ltb}
use Rattle.basics.specs.Choice.{pick, both}
use Rattle.basics.specs.Chain.{free, chained}

-- the number of k bytes, 1 or 2, at p, low byte first
abbrev pub num : List ℕ → ℕ → ℕ → ℕ
num t p k = pick (eqb k 2) (get_or t p 0 + 256 * get_or t (p + 1) 0) (get_or t p 0)

-- how many sections a table has; the last may be left out (02, b)
abbrev pub sections : ℕ
sections = 8

-- a row of section k has some fields of the edition's width, then some words:
-- types (kind p q; low high), fields (type), variables (mode type), blocks (kind owner first parameters variables statement; space),
-- arguments (node), nodes (kind p q; v), statements (kind a b c d link), characters (each itself)
unfoldable pub shorts : ℕ → ℕ
shorts k = get_or (3 ∷ 1 ∷ 2 ∷ 6 ∷ 1 ∷ 3 ∷ 6 ∷ 1 ∷ []) k 0

unfoldable pub words : ℕ → ℕ
words k = get_or (2 ∷ 0 ∷ 0 ∷ 1 ∷ 0 ∷ 1 ∷ 0 ∷ 0 ∷ []) k 0

-- the number of its fields
abbrev pub fields : ℕ → ℕ
fields k = get_or (5 ∷ 1 ∷ 2 ∷ 7 ∷ 1 ∷ 4 ∷ 6 ∷ 1 ∷ []) k 0

unfoldable pub row_size : ℕ → ℕ → ℕ
row_size w k = shorts k * w + words k * 2

-- where field f begins in its row, and its width
unfoldable pub field_at : ℕ → ℕ → ℕ → ℕ
field_at w k f = pick (ltb f (shorts k)) (f * w) (shorts k * w + (f - shorts k) * 2)

unfoldable pub field_width : ℕ → ℕ → ℕ → ℕ
field_width w k f = pick (ltb f (shorts k)) w 2

-- section k, begun at p, is its count and then as many rows: where these end, and whether the bytes last
unfoldable pub rows_end : ℕ → List ℕ → ℕ → ℕ → ℕ
rows_end w t k p = p + w + num t p w * row_size w k

unfoldable pub rows_fit : ℕ → List ℕ → ℕ → ℕ → Bool
rows_fit w t k p = pick (leb (p + w) (length t)) (leb (rows_end w t k p) (length t)) false

-- the eighth section is not there: the bytes end before it (02, b)
unfoldable pub is_left_out : List ℕ → ℕ → ℕ → Bool
is_left_out t k p = both (eqb k 7) (eqb p (length t))

unfoldable pub section_end : ℕ → List ℕ → ℕ → ℕ → ℕ
section_end w t k p = pick (is_left_out t k p) p (rows_end w t k p)

unfoldable pub section_fits : ℕ → List ℕ → ℕ → ℕ → Bool
section_fits w t k p = pick (is_left_out t k p) true (rows_fit w t k p)

-- THE RULE of refusal 2: eight sections in order, or the first seven, each after its count, and no byte is left over
unfoldable pub whole : ℕ → List ℕ → Bool
whole w t = chained (section_end w t) (section_fits w t) sections (length t)

-- where section k begins
unfoldable pub begins : ℕ → List ℕ → ℕ → ℕ
begins w t k = free (section_end w t) k
