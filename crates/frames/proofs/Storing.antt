-- Loops that write words one after the other. Assumes nothing.
use Prim.Native.Nat.{ℕ, ◌+◌, ◌-◌, ◌<◌, ◌≤◌}
use mathlib.Core.Path.{◌≡◌, sym, ◌∙◌}
use mathlib.Core.List.{List, [], ◌∷◌, ◌++◌}
use native.Mathlib.Numerals.{add-one}
use native.Mathlib.Omega.{arith}
use lib.ListN.{length, get_or, take}
use lib.Seq.{take-suc, take_all, length-take-le}
use Rattle.table.specs.Table.{Table}
use Rattle.table.specs.Reading.{Field}
use Rattle.types.specs.Types.{evened}
use Rattle.machine.specs.Memory.{Memory, memory_of, update, store, clear, words_at}
use Rattle.machine.specs.Lent.{State, Becomes}
use Rattle.machine.specs.Texts.{text_at}
use Rattle.machine.specs.Places.{SameOrApart, same, before, after}
use Rattle.machine.proofs.Memories.{length_words, store_below, store_above}
use Rattle.machine.proofs.Copies.{store_words, store_none, store_more, clear_none, clear_more, words_more}
use Rattle.machine.proofs.TextLaws.{text_long, text-at}
use Rattle.code.specs.Code.{text_word}
use Rattle.frames.specs.Frames.{Direct}

-- words that are written one after the other
module _ (m : Memory) (a : ℕ) where
  pub stores_more : (b : List ℕ) (k : ℕ) → k < length b → store m a (take (k + 1) b) ≡ update (store m a (take k b)) (a + k) (get_or b k 0)
  stores_more b k h = rw (add-one k, take-suc b k 0 h) more
    where
      long : length (take k b) ≡ k
      long = length-take-le k b (omega arith)

      more : store m a (take k b ++ get_or b k 0 ∷ []) ≡ update (store m a (take k b)) (a + k) (get_or b k 0)
      more = rw long at (store_more m a (take k b) (get_or b k 0))

  -- those of a string constant
  pub texts_more : (T : Table) (p q k w : ℕ) → k < evened q → Field (text_word T p q k) w
      → store m a (take (k + 1) (text_at T p q)) ≡ update (store m a (take k (text_at T p q))) (a + k) w
  unfolding text_word
  texts_more T p q k w h f =
      let long = text_long T p q in
      let word : get_or (text_at T p q) k 0 ≡ w = text-at T p q k h ∙ sym f.is in
      rw word at (stores_more (text_at T p q) k (omega arith))

  pub texts_all : (T : Table) (p q n : ℕ) → n ≡ evened q → take n (text_at T p q) ≡ text_at T p q
  texts_all T p q n e = let long = text_long T p q in take_all n (text_at T p q) (omega arith)

-- words that are copied from one location to another
module _ (m : Memory) (from to : ℕ) where
  pub moves_none : store m to (words_at m from 0) ≡ m
  unfolding words_at
  moves_none = store_none m to

  -- what is still to be read is as it was
  unread : (n k : ℕ) → SameOrApart from to n → k < n → store m to (words_at m from k) (from + k) ≡ m (from + k)
  unread n k (same e) h = store_above m to _ (from + k) (omega (arith, length_words m from k))
  unread n k (before l) h = store_below m to _ (from + k) (omega arith)
  unread n k (after l) h = store_above m to _ (from + k) (omega (arith, length_words m from k))

  pub moves_more : (n k : ℕ) → Direct from to n → k < n
      → store m to (words_at m from (k + 1)) ≡ update (store m to (words_at m from k)) (to + k) (store m to (words_at m from k) (from + k))
  moves_more n k d h = rw (words_more m from k, unread n k d.apart h) more
    where
      more : store m to (words_at m from k ++ m (from + k) ∷ []) ≡ update (store m to (words_at m from k)) (to + k) (m (from + k))
      more = rw (length_words m from k) at (store_more m to (words_at m from k) (m (from + k)))

-- words that are copied to where they stand
pub moves_itself : (s : List ℕ) (from to n : ℕ) → State s → from ≡ to → Becomes s (store (memory_of s) to (words_at (memory_of s) from n))
moves_itself s from to n l e = record { long = l.long; is = sym (rw e (store_words (memory_of s) to n)) }

-- words that are cleared, up to i
module _ (m : Memory) (a : ℕ) where
  pub clears_none : clear m a (a - a) ≡ m
  clears_none = let z : a - a ≡ 0 = omega arith in rw z (clear_none m a)

  pub clears_more : (i : ℕ) → a ≤ i → clear m a (i + 1 - a) ≡ update (clear m a (i - a)) i 0
  clears_more i h =
      let e : i + 1 - a ≡ i - a + 1 = omega arith in
      let d : a + (i - a) ≡ i = omega arith in
      rw (e, clear_more m a (i - a), d)

  pub clears_all : (n : ℕ) → clear m a (a + n - a) ≡ clear m a n
  clears_all n = let e : a + n - a ≡ n = omega arith in rw e

pub ruleset copies = (store_none, stores_more, take_all, moves_none, moves_more, clears_none, clears_more, clears_all)

pub ruleset texts = (store_none, texts_more, texts_all)
