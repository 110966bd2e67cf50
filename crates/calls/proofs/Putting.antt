-- Words put into a buffer one after the other. Assumes nothing.
use Prim.Native.Nat.{ℕ, ◌+◌, ◌-◌, ◌<◌, ◌≤◌}
use mathlib.Core.Path.{◌≡◌, refl, sym, ◌∙◌}
use mathlib.Core.List.{List, [], ◌∷◌, ◌++◌, append_assoc, append-nil}
use native.Mathlib.Numerals.{add-one}
use native.Mathlib.Omega.{arith}
use borrow.Author.Rules.{rules}
use lib.ListN.{length, set, take, replicate, length-set, length-append}
use lib.Seq.{take-suc-set}
use Rattle.table.specs.Table.{Table}
use Rattle.table.specs.Entries.{node_p, node_q}
use Rattle.table.specs.Reading.{Field}
use Rattle.machine.specs.Memory.{Memory, words_at}
use Rattle.machine.specs.Texts.{fit, text_at}
use Rattle.machine.specs.Outcomes.{ok}
use Rattle.machine.proofs.Copies.{words_more}
use Rattle.code.specs.Code.{text_word}
use Rattle.calls.specs.Gathering.{Buffer, Appended, Added}
use Rattle.calls.proofs.Fitting.{zeros, zeros_are, text_words, cut_words, filled_words}

module _ (l : List ℕ) (n : ℕ) where
  pub appended_none : Buffer l n → Appended l n [] l n
  appended_none b = record { long = b.long; count = omega (arith, b.most); words = λ h. sym (append-nil (take n l)) }

  pub appended_one : (w : ℕ) → Buffer l n → n < 256 → Appended l n (w ∷ []) (set l n w) (n + 1)
  appended_one w b h =
      let g : n < length l = omega (arith, b.long) in
      record { long = simp length-set b.long; count = omega arith; words = λ k. rw (add-one n) (take-suc-set l n w g) }

  pub appended_full : (w : ℕ) → Buffer l n → 256 ≤ n → Appended l n (w ∷ []) l 257
  appended_full w b h = record { long = b.long; count = omega arith; words = λ k. absurd (omega arith) }

  pub appended_buffer : (ws k : List ℕ) (r : ℕ) → Appended l n ws k r → Buffer k r
  appended_buffer ws k r a = record { long = a.long; most = omega (arith, a.count) }

  pub appended_more : (us k vs j : List ℕ) (r q : ℕ) → Appended l n us k r → Appended k r vs j q → Appended l n (us ++ vs) j q
  appended_more us k vs j r q a b =
      let e = length-append us vs in
      record {
        long = b.long;
        count = omega (arith, a.count, b.count);
        words = λ h. b.words h ∙ rw (a.words (omega (arith, b.count))) (append_assoc (take n l) us vs);
      }

-- the loop that puts words of a memory
pub record Putting (m : Memory) (a k : ℕ) (l : List ℕ) (n : ℕ) (b : List ℕ) (j count : ℕ) : Type 0 where
  pub upto : j ≤ k
  pub put : Appended l n (words_at m a j) b count

module _ (m : Memory) (a k : ℕ) (l : List ℕ) (n : ℕ) where
  pub putting_none : Buffer l n → Putting m a k l n l 0 n
  unfolding words_at
  putting_none b = record { upto = omega arith; put = appended_none l n b }

  module _ (b : List ℕ) (j count : ℕ) (p : Putting m a k l n b j count) where
    pub putting_buffer : Buffer b count
    putting_buffer = appended_buffer l n (words_at m a j) b count p.put

    pub putting_more : (w r : ℕ) (c : List ℕ) → j < k → w ≡ m (a + j) → Appended b count (w ∷ []) c r → Putting m a k l n c (j + 1) r
    putting_more w r c h e g =
        record {
          upto = omega arith;
          put = rw (words_more m a j, ← e) (appended_more l n (words_at m a j) b (w ∷ []) c count r p.put g);
        }

    pub putting_all : k ≤ j → Appended l n (words_at m a k) b count
    putting_all h = let e : j ≡ k = omega (arith, p.upto) in rw e at p.put

pub ruleset puts = (appended_one, appended_full, putting_none, putting_buffer, putting_more, putting_all, rules)

-- the loops that put zeros, and the words of a string constant
module _ (k : ℕ) (l : List ℕ) (n : ℕ) (b : List ℕ) (j count : ℕ) where
  module _ (p : Putting zeros 0 k l n b j count) where
    pub zeros_more : (r : ℕ) (c : List ℕ) → j < k → Appended b count (0 ∷ []) c r → Putting zeros 0 k l n c (j + 1) r
    unfolding zeros
    zeros_more r c h g = putting_more zeros 0 k l n b j count p 0 r c h refl g

    pub zeros_all : k ≤ j → Appended l n (replicate k 0) b count
    zeros_all h = rw (zeros_are k) at (putting_all zeros 0 k l n b j count p h)

  module _ (T : Table) (a q : ℕ) (p : Putting (text_word T a q) 0 k l n b j count) where
    pub text-more : (w r : ℕ) (c : List ℕ) → j < k → Field (text_word T a q j) w → Appended b count (w ∷ []) c r
        → Putting (text_word T a q) 0 k l n c (j + 1) r
    text-more w r c h f g = let z : 0 + j ≡ j = omega arith in putting_more (text_word T a q) 0 k l n b j count p w r c h (f.is ∙ rw z) g

    pub text_all : k ≤ j → Appended l n (fit k (text_at T a q)) b count
    text_all h = rw (← text_words T a q k) at (putting_all (text_word T a q) 0 k l n b j count p h)

-- `text_argument`
pub text_returns : (T : Table) (n p q k : ℕ) (l : List ℕ) (count : ℕ) (b : List ℕ) (r : ℕ) → Field (node_p T n) p → Field (node_q T n) q
    → Appended l count (fit k (text_at T p q)) b r → Added l count b r (ok (fit k (text_at T (node_p T n) (node_q T n))))
text_returns T n p q k l count b r hp hq g = record { words = fit k (text_at T p q); is = rw (hp.is, hq.is); put = g }

-- words that are cut or filled
module _ (m : Memory) (a k n : ℕ) (l : List ℕ) (count : ℕ) (b : List ℕ) (r : ℕ) where
  pub cut_returns : n ≤ k → Appended l count (words_at m a n) b r → Appended l count (fit n (words_at m a k)) b r
  cut_returns h g = rw (cut_words m a k n h) g

  pub filled_returns : (c : List ℕ) (s : ℕ) → k < n → Appended l count (words_at m a k) b r → Appended b r (replicate (n - k) 0) c s
      → Appended l count (fit n (words_at m a k)) c s
  filled_returns c s h g i = rw (filled_words m a k n h) (appended_more l count (words_at m a k) b (replicate (n - k) 0) c r s g i)

pub ruleset fills = (appended_buffer, putting_none, putting_buffer, zeros_more, zeros_all, text-more, text_all, text_returns, cut_returns, filled_returns, rules)
