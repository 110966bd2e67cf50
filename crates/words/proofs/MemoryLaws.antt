-- Reading and writing words in a list of bytes. Assumes nothing.
use Prim.Native.Nat.{ℕ, ◌+◌, ◌*◌, ◌/◌, ◌%◌, ◌<◌}
use mathlib.Core.Path.{◌≡◌}
use mathlib.Core.Logic.{◌⊎◌, inl, inr}
use mathlib.Core.List.{List}
use native.Mathlib.Omega.{arith}
use borrow.Author.Tests.{ltb-true, ltb-false, eqb-true, eqb-false}
use lib.Dec.{ltb, eqb}
use lib.ListN.{length, get_or, set, length-set}
use lib.Seq.{get_or-set_same, get_or-set_other}
use Rattle.basics.specs.Cases.{cases}
use Rattle.words.specs.Memory.{word_at_byte, put_at_byte, word_at, put_word}
use Rattle.words.specs.Bytes.{Bytes}

-- ---- at a byte
module _ (s : List ℕ) (p v : ℕ) where
  pub length_put_at : length (put_at_byte s p v) ≡ length s
  unfolding put_at_byte
  length_put_at = simp length-set

  -- a byte that is not one of the word's two
  pub byte_put_other : (j : ℕ) → (j ≡ p → ⊥) → (j ≡ p + 1 → ⊥) → get_or (put_at_byte s p v) j 0 ≡ get_or s j 0
  unfolding put_at_byte
  byte_put_other j h k = simp get_or-set_other

  pub get_put_at_other : (q : ℕ) → (q + 1 < p) ⊎ (p + 1 < q) → word_at_byte (put_at_byte s p v) q ≡ word_at_byte s q
  unfolding word_at_byte
  get_put_at_other q (inl h) =
      rw (byte_put_other q (λ e. omega arith) (λ e. omega arith), byte_put_other (q + 1) (λ e. omega arith) (λ e. omega arith))
  get_put_at_other q (inr h) =
      rw (byte_put_other q (λ e. omega arith) (λ e. omega arith), byte_put_other (q + 1) (λ e. omega arith) (λ e. omega arith))

  module _ (h : p + 1 < length s) where
    byte_low : get_or (put_at_byte s p v) p 0 ≡ v % 256
    unfolding put_at_byte
    byte_low =
        let apart : p ≡ p + 1 → ⊥ = λ e. omega arith in
        let first : p < length s = omega arith in
        simp (get_or-set_other, get_or-set_same)

    byte_high : get_or (put_at_byte s p v) (p + 1) 0 ≡ v / 256 % 256
    unfolding put_at_byte
    byte_high =
        let second : p + 1 < length (set s p (v % 256)) = simp length-set h in
        simp get_or-set_same

    pub get_put_at : word_at_byte (put_at_byte s p v) p ≡ v % 65536
    unfolding word_at_byte
    get_put_at = rw (byte_low, byte_high) (omega arith)

    pub get_put_at_word : v < 65536 → word_at_byte (put_at_byte s p v) p ≡ v
    get_put_at_word k = omega (arith, get_put_at)

    pub bytes_put_at : Bytes s → Bytes (put_at_byte s p v)
    bytes_put_at b = record { small = at }
      where
        at : (j : ℕ) → get_or (put_at_byte s p v) j 0 < 256
        at j =
            cases (eqb j p)
            (λ e. let i : j ≡ p = eqb-true j p e in rw (i, byte_low) (omega arith))
            (λ e.
            cases (eqb j (p + 1))
            (λ f. let i : j ≡ p + 1 = eqb-true j (p + 1) f in rw (i, byte_high) (omega arith))
            (λ f. rw (byte_put_other j (eqb-false j p e) (eqb-false j (p + 1) f)) (b.small j)))

pub word_at_byte_lt : (s : List ℕ) (p : ℕ) → Bytes s → word_at_byte s p < 65536
unfolding word_at_byte
word_at_byte_lt s p b = omega (arith, b.small p, b.small (p + 1))

-- ---- at a word's index
module _ (s : List ℕ) (i v : ℕ) where
  pub length-put : length (put_word s i v) ≡ length s
  unfolding put_word
  length-put = length_put_at s (i * 2) v

  pub get_put_other : (k : ℕ) → (k ≡ i → ⊥) → word_at (put_word s i v) k ≡ word_at s k
  unfolding word_at put_word
  get_put_other k h =
      cases (ltb k i)
      (λ e. get_put_at_other s (i * 2) v (k * 2) (inl (omega (arith, ltb-true k i e))))
      (λ e. get_put_at_other s (i * 2) v (k * 2) (inr (omega (arith, ltb-false k i e))))

  module _ (h : i * 2 + 1 < length s) where
    pub get-put : word_at (put_word s i v) i ≡ v % 65536
    unfolding word_at put_word
    get-put = get_put_at s (i * 2) v h

    pub get_put_word : v < 65536 → word_at (put_word s i v) i ≡ v
    get_put_word k = omega (arith, get-put)

    pub bytes_put : Bytes s → Bytes (put_word s i v)
    unfolding put_word
    bytes_put b = bytes_put_at s (i * 2) v h b

pub word_at_lt : (s : List ℕ) (i : ℕ) → Bytes s → word_at s i < 65536
unfolding word_at
word_at_lt s i b = word_at_byte_lt s (i * 2) b
