-- Trusted: public promises are said with these definitions.
-- Memories: words by their index. A state is a memory of 18,688 words, a device page one of 4,096. Assumes nothing.
use Rattle.std.specs.Prelude.{ℕ, zero, suc, ◌+◌, ◌-◌, ◌*◌, ◌/◌, ◌%◌, Bool, List, [], ◌∷◌, length, get_or, eqb, leb, ltb}
use Rattle.basics.specs.Choice.{pick, both}

abbrev pub Memory : Type 0
Memory = ℕ → ℕ

-- word i becomes v
unfoldable pub update : Memory → ℕ → ℕ → Memory
update m i v j = pick (eqb j i) v (m j)

-- j is one of the n numbers from a on
unfoldable pub within : ℕ → ℕ → ℕ → Bool
within a n j = both (leb a j) (ltb j (a + n))

-- the words from a on become ws
unfoldable pub store : Memory → ℕ → List ℕ → Memory
store m a ws j = pick (within a (length ws) j) (get_or ws (j - a) 0) (m j)

-- the n words from a on become 0
unfoldable pub clear : Memory → ℕ → ℕ → Memory
clear m a n j = pick (within a n j) 0 (m j)

-- the n words from a on become w
unfoldable pub fill : Memory → ℕ → ℕ → ℕ → Memory
fill m a n w j = pick (within a n j) w (m j)

-- the n words from a on
unfoldable pub words_at : Memory → ℕ → ℕ → List ℕ
words_at m a zero = []
words_at m a (suc n) = m a ∷ words_at m (a + 1) n

-- all words are 0
unfoldable pub zeros : Memory
zeros i = 0

-- the memory that bytes hold: a word is two bytes, low byte first (01)
unfoldable pub memory_of : List ℕ → Memory
memory_of s i = get_or s (i * 2) 0 + get_or s (i * 2 + 1) 0 * 256

-- the bytes of the n words from a on
unfoldable pub bytes_at : Memory → ℕ → ℕ → List ℕ
bytes_at m a zero = []
bytes_at m a (suc n) = m a % 256 ∷ m a / 256 % 256 ∷ bytes_at m (a + 1) n

-- the bytes of the first n words
unfoldable pub bytes_of : ℕ → Memory → List ℕ
bytes_of n m = bytes_at m 0 n
