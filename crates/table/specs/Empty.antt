-- Trusted: public promises are said with these definitions.
-- An empty cartridge slot (02, c): zero bytes are read as the listing table of 01. Assumes nothing.
use Rattle.std.specs.Prelude.{ℕ, ◌-◌, List, [], ◌∷◌, ◌++◌, replicate}

-- a number below 256 as a field of width w, low byte first
unfoldable pub field : ℕ → ℕ → List ℕ
field w n = n ∷ replicate (w - 1) 0

-- numbers as fields, one after the other
unfoldable pub fields_of : ℕ → List ℕ → List ℕ
fields_of w [] = []
fields_of w (n ∷ ns) = field w n ++ fields_of w ns

-- the listing table of 01: no types, fields or variables; block 0, which has the statements from 0 on
abbrev pub before_space : List ℕ
before_space = 0 ∷ 0 ∷ 0 ∷ 1 ∷ 0 ∷ 0 ∷ 0 ∷ 0 ∷ 0 ∷ 0 ∷ []

-- no arguments or nodes; two statements, skip and the end of block 0
abbrev pub after_space : List ℕ
after_space = 0 ∷ 0 ∷ 2 ∷ 0 ∷ 0 ∷ 0 ∷ 0 ∷ 0 ∷ 0 ∷ 13 ∷ 0 ∷ 0 ∷ 0 ∷ 0 ∷ 0 ∷ []

-- THE LISTING TABLE: between the two the block's space, the word 0
unfoldable pub listing : ℕ → List ℕ
listing w = fields_of w before_space ++ 0 ∷ 0 ∷ fields_of w after_space

-- WHICH BYTES ARE READ, of those that a call is lent: of zero bytes those of the listing table, of any others themselves
unfoldable pub bytes_read : ℕ → List ℕ → List ℕ
bytes_read w [] = listing w
bytes_read w (b ∷ t) = b ∷ t
