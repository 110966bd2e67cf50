-- Memories and their bytes correspond. Assumes nothing.
use Prim.Native.Nat.{ℕ, zero, suc, ◌+◌, ◌*◌, ◌≤◌, ◌<◌}
use mathlib.Core.Path.{◌≡◌, refl, sym, ◌∙◌}
use mathlib.Core.List.{List, [], ◌∷◌}
use native.Mathlib.Omega.{arith}
use native.Mathlib.Nat.{not-suc-le-zero}
use lib.ListN.{length, get_or}
use lib.Dec.{ltb}
use borrow.Author.Tests.{ltb-true, ltb-false}
use Rattle.basics.specs.Cases.{cases}
use Rattle.words.specs.Bytes.{Bytes}
use Rattle.machine.specs.Memory.{Memory, memory_of, bytes_at, bytes_of}
use Rattle.machine.proofs.Memories.{memory_bytes, length_bytes}
use Rattle.sound.specs.Answers.{Small}
use Rattle.sound.specs.Reached.{ZeroFrom}

module _ (m : Memory) where
  bytes_small : (a n i : ℕ) → get_or (bytes_at m a n) i 0 < 256
  unfolding bytes_at
  bytes_small a zero i = omega arith
  bytes_small a (suc n) zero = omega arith
  bytes_small a (suc n) (suc zero) = omega arith
  bytes_small a (suc n) (suc (suc i)) = bytes_small (a + 1) n i

  pub bytes-of : (n : ℕ) → Bytes (bytes_of n m)
  unfolding bytes_of
  bytes-of n = record { small = bytes_small 0 n }

-- what bytes hold is words, and none beyond them
pub memory_small : (s : List ℕ) → Bytes s → Small (memory_of s)
unfolding memory_of
memory_small s b = record { small = λ i. let x = b.small (i * 2) in let y = b.small (i * 2 + 1) in omega arith }

beyond_end : (s : List ℕ) (i : ℕ) → length s ≤ i → get_or s i 0 ≡ 0
beyond_end [] i h = refl
beyond_end (x ∷ s) zero h = absurd (not-suc-le-zero h)
beyond_end (x ∷ s) (suc i) h = beyond_end s i (omega arith)

pub memory_sized : (s : List ℕ) (n : ℕ) → length s ≡ n * 2 → ZeroFrom n (memory_of s)
unfolding memory_of
memory_sized s n e = record { beyond = λ i h. rw (beyond_end s (i * 2) (omega arith), beyond_end s (i * 2 + 1) (omega arith)) }

-- THE BYTES HOLD THE MEMORY: every word, where it has n
pub memory_whole : (m : Memory) (n : ℕ) → Small m → ZeroFrom n m → memory_of (bytes_of n m) ≡ m
memory_whole m n s z k i = at i k
  where
    at : (i : ℕ) → memory_of (bytes_of n m) i ≡ m i
    at i =
        cases (ltb i n)
        (λ e. memory_bytes n m i (ltb-true i n e) (s.small i))
        (λ e. (memory_sized (bytes_of n m) n (length_bytes n m)).beyond i (ltb-false i n e) ∙ sym (z.beyond i (ltb-false i n e)))
