-- Reading after writing, in memories and in the bytes that hold them. Assumes nothing.
use Prim.Native.Nat.{ℕ, zero, suc, ◌+◌, ◌-◌, ◌*◌, ◌/◌, ◌%◌, ◌<◌, ◌≤◌}
use mathlib.Core.Path.{◌≡◌, refl, ap, ◌∙◌, sym, fun_ext}
use mathlib.Core.Bool.{true, false}
use mathlib.Core.List.{List}
use native.Mathlib.Omega.{arith}
use native.Mathlib.Nat.{add-zero, not-suc-le-zero}
use borrow.Author.Tests.{eq-eqb, ne_eqb, eqb-true, eqb-false, leb-true, ltb-true, le-leb, lt-ltb, le-ltb, lt-leb}
use lib.Dec.{eqb}
use lib.ListN.{length, get_or}
use lib.Seq.{ext_get_or}
use Rattle.basics.specs.Choice.{both}
use Rattle.basics.specs.Cases.{cases}
use Rattle.basics.proofs.Bools.{both_l, both_r}
use Rattle.words.specs.Memory.{word_at_byte, word_at, put_word}
use Rattle.words.specs.Bytes.{Bytes}
use Rattle.words.proofs.MemoryLaws.{get_put_word, get_put_other, word_at_lt}
use Rattle.machine.specs.Layout.{location}
use Rattle.machine.specs.Memory.{Memory, update, within, store, clear, words_at, memory_of, bytes_at, bytes_of}

-- ---- one word

module _ (m : Memory) (i v : ℕ) where
  pub update_same : update m i v i ≡ v
  unfolding update
  update_same = rw (eq-eqb i i refl)

  pub update_at : (j : ℕ) → j ≡ i → update m i v j ≡ v
  unfolding update
  update_at j e = rw (eq-eqb j i e)

  pub update_other : (j : ℕ) → (j ≡ i → ⊥) → update m i v j ≡ m j
  unfolding update
  update_other j h = rw (ne_eqb j i h)

-- the word that stands there
pub update_own : (m : Memory) (i : ℕ) → update m i (m i) ≡ m
update_own m i = fun_ext λ j. cases (eqb j i)
    (λ e. let q : j ≡ i = eqb-true j i e in rw q (update_same m i (m i)))
    (λ e. update_other m i (m i) j (eqb-false j i e))

-- the later one stays
pub update_twice : (m : Memory) (i v w : ℕ) → update (update m i v) i w ≡ update m i w
update_twice m i v w = fun_ext λ j. cases (eqb j i)
    (λ e. let q : j ≡ i = eqb-true j i e in rw q (update_same (update m i v) i w ∙ sym (update_same m i w)))
    (λ e.
    let d = eqb-false j i e in
    update_other (update m i v) i w j d ∙ update_other m i v j d ∙ sym (update_other m i w j d))

pub update_swap : (m : Memory) (i v k w : ℕ) → (i ≡ k → ⊥) → update (update m i v) k w ≡ update (update m k w) i v
update_swap m i v k w d = fun_ext λ j. cases (eqb j i)
    (λ e.
    let q : j ≡ i = eqb-true j i e in
    rw q (update_other (update m i v) k w i d ∙ update_same m i v ∙ sym (update_same (update m k w) i v)))
    (λ e.
    let f = eqb-false j i e in
    cases (eqb j k)
    (λ g.
    let q : j ≡ k = eqb-true j k g in
    rw q
    (update_same (update m i v) k w
    ∙ sym (update_other (update m k w) i v k (λ h. d (sym h)) ∙ update_same m k w)))
    (λ g.
    let h = eqb-false j k g in
    update_other (update m i v) k w j h
    ∙ update_other m i v j f
    ∙ sym (update_other (update m k w) i v j f ∙ update_other m k w j h)))

-- ---- several words

module _ (a n j : ℕ) where
  pub within_yes : a ≤ j → j < a + n → within a n j ≡ true
  unfolding within both
  within_yes h k = rw (le-leb a j h, lt-ltb j (a + n) k)

  pub within_below : j < a → within a n j ≡ false
  unfolding within both
  within_below h = rw (lt-leb a j h)

  pub within_above : a + n ≤ j → within a n j ≡ false
  unfolding within both
  within_above h = rw (le-leb a j (omega arith), le-ltb j (a + n) h)

  pub within-from : within a n j ≡ true → a ≤ j
  unfolding within
  within-from e = leb-true a j (both_l _ _ e)

  pub within_to : within a n j ≡ true → j < a + n
  unfolding within
  within_to e = ltb-true j (a + n) (both_r _ _ e)

module _ (m : Memory) (a : ℕ) (ws : List ℕ) where
  pub store_below : (j : ℕ) → j < a → store m a ws j ≡ m j
  unfolding store
  store_below j h = rw (within_below a (length ws) j h)

  pub store_above : (j : ℕ) → a + length ws ≤ j → store m a ws j ≡ m j
  unfolding store
  store_above j h = rw (within_above a (length ws) j h)

  pub store_at : (k : ℕ) → k < length ws → store m a ws (a + k) ≡ get_or ws k 0
  unfolding store
  store_at k h =
      let e : a + k - a ≡ k = omega arith in
      rw (within_yes a (length ws) (a + k) (omega arith) (omega arith), e)

module _ (m : Memory) (a n : ℕ) where
  pub clear_below : (j : ℕ) → j < a → clear m a n j ≡ m j
  unfolding clear
  clear_below j h = rw (within_below a n j h)

  pub clear_above : (j : ℕ) → a + n ≤ j → clear m a n j ≡ m j
  unfolding clear
  clear_above j h = rw (within_above a n j h)

  pub clear_at : (j : ℕ) → a ≤ j → j < a + n → clear m a n j ≡ 0
  unfolding clear
  clear_at j h k = rw (within_yes a n j h k)

pub length_words : (m : Memory) (a n : ℕ) → length (words_at m a n) ≡ n
unfolding words_at
length_words m a zero = refl
length_words m a (suc n) = ap suc (length_words m (a + 1) n)

pub words-at : (m : Memory) (a n k : ℕ) → k < n → get_or (words_at m a n) k 0 ≡ m (a + k)
unfolding words_at
words-at m a zero k h = absurd (not-suc-le-zero h)
words-at m a (suc n) zero h = rw add-zero
words-at m a (suc n) (suc k) h =
    let e : a + 1 + k ≡ a + suc k = omega arith in words-at m (a + 1) n k (omega arith) ∙ ap m e

-- what is stored is read back
pub words_store : (m : Memory) (a : ℕ) (ws : List ℕ) → words_at (store m a ws) a (length ws) ≡ ws
words_store m a ws =
    ext_get_or 0 (words_at (store m a ws) a (length ws)) ws (length_words (store m a ws) a (length ws))
    (λ k h.
    let g : k < length ws = omega (arith, length_words (store m a ws) a (length ws)) in
    words-at (store m a ws) a (length ws) k g ∙ store_at m a ws k g)

-- ---- locations

pub location_plus : (p k j : ℕ) → location p (k + j) ≡ location p k + j
unfolding location
location_plus p k j = omega arith

-- ---- bytes

pub memory_word : (s : List ℕ) (i : ℕ) → memory_of s i ≡ word_at s i
unfolding memory_of word_at word_at_byte
memory_word s i = refl

-- the word at i of the bytes becomes v
pub memory_put :
    (s : List ℕ) (i v : ℕ) → i * 2 + 1 < length s → v < 65536 → memory_of (put_word s i v) ≡ update (memory_of s) i v
memory_put s i v h k = fun_ext at
  where
    at : (j : ℕ) → memory_of (put_word s i v) j ≡ update (memory_of s) i v j
    at j =
        cases (eqb j i)
        (λ e.
        let q : j ≡ i = eqb-true j i e in
        rw q (memory_word (put_word s i v) i ∙ get_put_word s i v h k ∙ sym (update_same (memory_of s) i v)))
        (λ e.
        let d : j ≡ i → ⊥ = eqb-false j i e in
        memory_word (put_word s i v) j
        ∙ get_put_other s i v j d
        ∙ sym (memory_word s j)
        ∙ sym (update_other (memory_of s) i v j d))

pub memory_small : (s : List ℕ) (i : ℕ) → Bytes s → memory_of s i < 65536
memory_small s i b = rw memory_word (word_at_lt s i b)

pub length_bytes_at : (m : Memory) (a n : ℕ) → length (bytes_at m a n) ≡ n * 2
unfolding bytes_at
length_bytes_at m a zero = refl
length_bytes_at m a (suc n) = let ih : length (bytes_at m (a + 1) n) ≡ n * 2 = length_bytes_at m (a + 1) n in omega arith

pub length_bytes : (n : ℕ) (m : Memory) → length (bytes_of n m) ≡ n * 2
unfolding bytes_of
length_bytes n m = length_bytes_at m 0 n

-- the bytes of a word
pub low_byte : (m : Memory) (a n k : ℕ) → k < n → get_or (bytes_at m a n) (k * 2) 0 ≡ m (a + k) % 256
unfolding bytes_at
low_byte m a zero k h = absurd (not-suc-le-zero h)
low_byte m a (suc n) zero h = rw add-zero
low_byte m a (suc n) (suc k) h =
    let e : a + 1 + k ≡ a + suc k = omega arith in
    let d : suc k * 2 ≡ suc (suc (k * 2)) = omega arith in
    rw d (low_byte m (a + 1) n k (omega arith) ∙ ap (λ (j : ℕ). m j % 256) e)

pub high_byte : (m : Memory) (a n k : ℕ) → k < n → get_or (bytes_at m a n) (k * 2 + 1) 0 ≡ m (a + k) / 256 % 256
unfolding bytes_at
high_byte m a zero k h = absurd (not-suc-le-zero h)
high_byte m a (suc n) zero h = rw add-zero
high_byte m a (suc n) (suc k) h =
    let e : a + 1 + k ≡ a + suc k = omega arith in
    let d : suc k * 2 + 1 ≡ suc (suc (k * 2 + 1)) = omega arith in
    rw d (high_byte m (a + 1) n k (omega arith) ∙ ap (λ (j : ℕ). m j / 256 % 256) e)

-- the words that bytes were made from are read back
pub memory_bytes : (n : ℕ) (m : Memory) (i : ℕ) → i < n → m i < 65536 → memory_of (bytes_of n m) i ≡ m i
unfolding memory_of bytes_of word_at word_at_byte
memory_bytes n m i h k =
    let z : 0 + i ≡ i = omega arith in
    omega (arith, rw z at (low_byte m 0 n i h), rw z at (high_byte m 0 n i h))

-- and the bytes that a memory was read from
low_word : (s : List ℕ) (k : ℕ) → Bytes s → memory_of s k % 256 ≡ get_or s (k * 2) 0
unfolding memory_of word_at word_at_byte
low_word s k b = omega (arith, b.small (k * 2), b.small (k * 2 + 1))

high_word : (s : List ℕ) (k : ℕ) → Bytes s → memory_of s k / 256 % 256 ≡ get_or s (k * 2 + 1) 0
unfolding memory_of word_at word_at_byte
high_word s k b = omega (arith, b.small (k * 2), b.small (k * 2 + 1))

pub bytes_memory : (n : ℕ) (s : List ℕ) → Bytes s → length s ≡ n * 2 → bytes_of n (memory_of s) ≡ s
unfolding bytes_of
bytes_memory n s b l = ext_get_or 0 (bytes_at (memory_of s) 0 n) s (length_bytes_at (memory_of s) 0 n ∙ sym l) at
  where
    at : (i : ℕ) → i < length (bytes_at (memory_of s) 0 n) → get_or (bytes_at (memory_of s) 0 n) i 0 ≡ get_or s i 0
    at i h =
        let g : i < n * 2 = omega (arith, length_bytes_at (memory_of s) 0 n) in
        let k : i / 2 < n = omega arith in
        let z : 0 + i / 2 ≡ i / 2 = omega arith in
        cases (eqb (i % 2) 0)
        (λ e.
        let q : i ≡ i / 2 * 2 = omega (arith, eqb-true (i % 2) 0 e) in
        ap (λ (j : ℕ). get_or (bytes_at (memory_of s) 0 n) j 0) q
        ∙ (rw z at (low_byte (memory_of s) 0 n (i / 2) k)) ∙ low_word s (i / 2) b ∙ ap (λ (j : ℕ). get_or s j 0) (sym q))
        (λ e.
        let d : i % 2 ≡ 0 → ⊥ = eqb-false (i % 2) 0 e in
        let q : i ≡ i / 2 * 2 + 1 = omega arith in
        ap (λ (j : ℕ). get_or (bytes_at (memory_of s) 0 n) j 0) q
        ∙ (rw z at (high_byte (memory_of s) 0 n (i / 2) k)) ∙ high_word s (i / 2) b ∙ ap (λ (j : ℕ). get_or s j 0) (sym q))
