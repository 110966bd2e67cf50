-- Inner: for code and proofs only; no public promise is said with these definitions.
-- Memories in lent slices of bytes. Assumes nothing.
use Rattle.std.specs.Prelude.{ℕ, ◌*◌, ◌≡◌, List, length}
use Rattle.machine.specs.Memory.{Memory, memory_of}
use Rattle.machine.specs.Layout.{state_words}

-- s has n words
pub record WordSlice (n : ℕ) (s : List ℕ) : Type 0 where
  pub long : length s ≡ n * 2

-- s still has n words, and is the memory m
pub record Changed (n : ℕ) (s : List ℕ) (m : Memory) : Type 0 where
  pub long : length s ≡ n * 2
  pub is : memory_of s ≡ m

-- s is lent as a state; it is still one, and has become the memory m
abbrev pub State : List ℕ → Type 0
State s = WordSlice state_words s

abbrev pub Becomes : List ℕ → Memory → Type 0
Becomes s m = Changed state_words s m
