-- Inner: for code and proofs only; no public promise is said with these definitions.
-- What the arrays of an edition have room for, by the width w of its fields (01: one byte; 02, j: a word). Assumes nothing.
use Rattle.std.specs.Prelude.{ℕ, ◌+◌, ◌*◌, eqb}
use Rattle.basics.specs.Choice.{pick}

-- rows of a section: fewer than this
abbrev pub rows_below : ℕ → ℕ
rows_below w = pick (eqb w 1) 256 4096

-- types: as many at most, the three standard ones among them
abbrev pub types_below : ℕ → ℕ
types_below w = 2 + rows_below w

-- words of the slots: 32 for each of these, then the counts of the eight sections
abbrev pub slot_words : ℕ → ℕ
slot_words w = types_below w * 32 + 8
