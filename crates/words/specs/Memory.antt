-- Inner: for code and proofs only; no public promise is said with these definitions.
-- Words in a list of bytes: two bytes, low byte first (01). Assumes nothing.
use Rattle.std.specs.Prelude.{ℕ, ◌+◌, ◌*◌, ◌/◌, ◌%◌, List, get_or, set}

-- the word at byte p
unfoldable pub word_at_byte : List ℕ → ℕ → ℕ
word_at_byte s p = get_or s p 0 + get_or s (p + 1) 0 * 256

unfoldable pub put_at_byte : List ℕ → ℕ → ℕ → List ℕ
put_at_byte s p v = set (set s p (v % 256)) (p + 1) (v / 256 % 256)

-- the word of index i
unfoldable pub word_at : List ℕ → ℕ → ℕ
word_at s i = word_at_byte s (i * 2)

unfoldable pub put_word : List ℕ → ℕ → ℕ → List ℕ
put_word s i v = put_at_byte s (i * 2) v
