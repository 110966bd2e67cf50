-- Trusted: public promises are said with these definitions.
-- What the call symbols answers, and what it leaves in the slice (02 (a)). Assumes nothing.
use Rattle.std.specs.Prelude.{ℕ, ◌+◌, ◌*◌, ◌/◌, ◌%◌, Bool, List, [], ◌∷◌, ◌++◌, length, drop, leb}
use Rattle.basics.specs.Choice.{pick, both}
use Rattle.symbols.specs.Symbols.{Symbol, Reading, fault, found, symbols_of}

-- seven bytes: the kind, then words for line, place and length, low byte first
unfoldable pub symbol_bytes : Symbol → List ℕ
symbol_bytes s =
    s.kind ∷
    s.line % 256 ∷ s.line / 256 ∷
    s.place % 256 ∷ s.place / 256 ∷
    s.size % 256 ∷ s.size / 256 ∷
    []

unfoldable pub all_bytes : List Symbol → List ℕ
all_bytes [] = []
all_bytes (s ∷ l) = symbol_bytes s ++ all_bytes l

-- 25: at some place no symbol begins; else 65,536 and the number of symbols
unfoldable pub answer_to : Reading → ℕ
answer_to fault = 25
answer_to (found l) = 65536 + length l

unfoldable pub reading_bytes : Reading → List ℕ
reading_bytes fault = []
reading_bytes (found l) = all_bytes l

-- at most 65,535 bytes of text, and seven bytes of slice for each
unfoldable pub text_fits : List ℕ → List ℕ → Bool
text_fits text out = both (leb (length text) 65535) (leb (7 * length text) (length out))

unfoldable pub symbols_answer : List ℕ → List ℕ → ℕ
symbols_answer text out = pick (text_fits text out) (answer_to (symbols_of text)) 1

-- some bytes in place of the first ones
unfoldable pub laid : List ℕ → List ℕ → List ℕ
laid bytes out = bytes ++ drop (length bytes) out

unfoldable pub symbols_out : List ℕ → List ℕ → List ℕ
symbols_out text out = pick (text_fits text out) (laid (reading_bytes (symbols_of text)) out) out
