-- Trusted: public promises are said with these definitions.
-- The marks of a state (02, g): each location has one, which says that its word has been given a value. Sixteen stand in a word, from the
-- word after the control records on: that of location a is bit a % 16 of word a / 16 of them. Assumes nothing.
use Rattle.std.specs.Prelude.{ℕ, zero, suc, ◌+◌, ◌-◌, ◌*◌, ◌/◌, ◌%◌, ◌^◌, ◌<◌, ◌≡◌, Bool, true, eqb}
use Rattle.basics.specs.Choice.{pick, both}
use Rattle.machine.specs.Memory.{Memory, update}
use Rattle.machine.specs.Layout.{locations, plain_words, number_at}

-- ---- one word

abbrev pub bit_number : Bool → ℕ
bit_number v = pick v 1 0

-- bit k of a word, counted from the lowest
unfoldable pub bit_of : ℕ → ℕ → ℕ
bit_of w k = w / 2 ^ k % 2

-- the word with bit k made v
unfoldable pub put_bit : ℕ → ℕ → Bool → ℕ
put_bit w k v = w - bit_of w k * 2 ^ k + bit_number v * 2 ^ k

-- ---- the marks of a memory

-- the word that has the mark of location a
unfoldable pub mark_word : ℕ → ℕ
mark_word a = plain_words + a / 16

unfoldable pub marked : Memory → ℕ → Bool
marked m a = eqb (bit_of (m (mark_word a)) (a % 16)) 1

-- the mark of location a becomes v
unfoldable pub set_mark : Memory → ℕ → Bool → Memory
set_mark m a v = update m (mark_word a) (put_bit (m (mark_word a)) (a % 16) v)

-- the marks of the n locations from a on become v
unfoldable pub set_marks : Memory → ℕ → ℕ → Bool → Memory
set_marks m a zero v = m
set_marks m a (suc n) v = set_mark (set_marks m a n v) (a + n) v

-- the n locations from a on are marked
unfoldable pub all_marked : Memory → ℕ → ℕ → Bool
all_marked m a zero = true
all_marked m a (suc n) = both (all_marked m a n) (marked m (a + n))

-- every location is marked
abbrev pub AllSet : Memory → Type 0
AllSet m = (a : ℕ) → a < locations → marked m a ≡ true

-- the n locations from a on have been given values
abbrev pub mark : Memory → ℕ → ℕ → Memory
mark m a n = set_marks m a n true

-- they are made, by the number that the run was begun with: unmarked under 0, marked under 1
abbrev pub fresh : Memory → ℕ → ℕ → Memory
fresh m a n = set_marks m a n (eqb (m number_at) 1)
