-- Words of a memory in a lent slice. Assumes nothing.
use Prim.Native.Nat.{ℕ}
use mathlib.Core.Path.{◌≡◌}
use mathlib.Core.List.{List}
use Rattle.words.proofs.MemoryLaws.{length-put}
use Rattle.machine.specs.Memory.{memory_of}
use Rattle.machine.proofs.Memories.{memory_put, memory_word}

-- the same where the index is known by an equation
pub at-index : (s : List ℕ) (i j r : ℕ) → j ≡ i → r ≡ memory_of s j → r ≡ memory_of s i
at-index s i j r e h = rw (← e) h

-- a word that is put: the memory, and the length
pub ruleset puts = (memory_put, length-put)
