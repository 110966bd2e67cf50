-- Two states with the same words, the second begun with 1 and every word of it marked: writes keep them so. Assumes nothing.
use Prim.Native.Nat.{ℕ, zero, suc, ◌+◌, ◌/◌, ◌≤◌, ◌<◌}
use mathlib.Core.Path.{◌≡◌, refl, sym, ap, ◌∙◌}
use mathlib.Core.Bool.{Bool, true}
use mathlib.Core.List.{List}
use native.Mathlib.Omega.{arith}
use lib.Dec.{eqb}
use lib.ListN.{length}
use borrow.Author.Tests.{eq-eqb}
use Rattle.basics.specs.Choice.{pick}
use Rattle.table.specs.Table.{Table}
use Rattle.machine.specs.Memory.{Memory, update, store, clear, words_at}
use Rattle.machine.specs.Layout.{plain_words, locations, location, record_at, number_at, link_at, caller_frame, call_statement, caller_works}
use Rattle.machine.specs.Marks.{mark_word, marked, AllSet, set_marks, all_marked, fresh}
use Rattle.machine.specs.Space.{own_words}
use Rattle.machine.specs.Calls.{standing}
use Rattle.machine.proofs.Memories.{update_other, store_above, clear_above, clear_below}
use Rattle.machine.proofs.MarkLaws.{marks_word, marks_kept, each_all}
use Rattle.sound.specs.Ruled.{CallChain, bottom, called}
use Rattle.sound.proofs.Memory.ProcessRecords.{location_end}

pub record Twin (m s : Memory) : Type 0 where
  pub plain : (i : ℕ) → i < plain_words → (i ≡ number_at → ⊥) → s i ≡ m i
  pub number : s number_at ≡ 1
  pub set : AllSet s

-- ---- indices

number_is : number_at ≡ 16394
unfolding record_at
number_is = refl

pub location_other : (a : ℕ) → a < locations → a ≡ number_at → ⊥
location_other a l e = let n = number_is in omega arith

-- words of records, other than word 10
pub record Word (p k : ℕ) : Type 0 where
  pub some : 1 ≤ p
  pub most : p ≤ 64
  pub low : k < 10

pub word_plain : (p k : ℕ) → Word p k → record_at p k < plain_words
unfolding record_at
word_plain p k w = let a = w.some in let b = w.most in let c = w.low in omega arith

pub word_other : (p k : ℕ) → Word p k → record_at p k ≡ number_at → ⊥
unfolding record_at
word_other p k w e = let a = w.some in let b = w.most in let c = w.low in omega arith

-- ---- reads

module _ (m s : Memory) (t : Twin m s) where
  pub at_record : (p k : ℕ) → Word p k → s (record_at p k) ≡ m (record_at p k)
  at_record p k w = t.plain (record_at p k) (word_plain p k w) (word_other p k w)

  pub at_location : (a : ℕ) → a < locations → s a ≡ m a
  at_location a l = t.plain a (omega arith) (location_other a l)

  pub at_area : (p k : ℕ) → p ≤ 64 → k < 256 → s (location p k) ≡ m (location p k)
  at_area p k h l = let z = location_end p k 1 h (omega arith) in at_location (location p k) (omega arith)

  pub at_link : (p f k : ℕ) → p ≤ 64 → f + 4 ≤ 256 → k < 4 → s (link_at p f k) ≡ m (link_at p f k)
  unfolding link_at
  at_link p f k h l z = at_area p (f + k) h (omega arith)

  -- the links of calls that have not ended lie in the area
  pub same_own : (T : Table) (p d f w c top : ℕ) → p ≤ 64 → CallChain T m p d f w c top → own_words T s p d f ≡ own_words T m p d f
  unfolding own_words
  same_own T p _ f w c top h (bottom b) = refl
  same_own T p _ f w c top h (called {d = d} r k) =
      let l = r.room in
      rw (
        at_link p f 0 h l (omega arith),
        at_link p f 2 h l (omega arith),
        at_link p f 3 h l (omega arith),
        same_own T p d (caller_frame m p f) (caller_works m p f) (call_statement m p f) f h k,
      )

  pub same_words : (a n : ℕ) → a + n ≤ locations → words_at s a n ≡ words_at m a n
  unfolding words_at
  same_words a zero l = refl
  same_words a (suc n) l = rw (at_location a (omega arith), same_words (a + 1) n (omega arith))

  pub all_set : (a n : ℕ) → a + n ≤ locations → all_marked s a n ≡ true
  all_set a n l = each_all s a n (λ k h. t.set (a + k) (omega arith))

-- ---- writes

module _ (m s : Memory) (t : Twin m s) where
  -- a change that leaves the second state's number and marks
  changed : (m' s' : Memory) → ((i : ℕ) → i < plain_words → (i ≡ number_at → ⊥) → s' i ≡ m' i) → s' number_at ≡ s number_at
      → ((i : ℕ) → plain_words ≤ i → s' i ≡ s i) → Twin m' s'
  unfolding marked mark_word
  changed m' s' h n k = record {
    plain = h;
    number = n ∙ t.number;
    set = λ a l. rw (k (plain_words + a / 16) (omega arith)) (t.set a l);
  }

  pub twin_update : (i v : ℕ) → i < plain_words → (i ≡ number_at → ⊥) → Twin (update m i v) (update s i v)
  unfolding update
  twin_update i v l d =
      changed (update m i v) (update s i v)
      (λ j h n. ap (pick (eqb j i) v) (t.plain j h n))
      (update_other s i v number_at (λ e. d (sym e)))
      (λ j h. update_other s i v j (λ e. omega arith))

  pub twin_store : (a : ℕ) (ws : List ℕ) → a + length ws ≤ locations → Twin (store m a ws) (store s a ws)
  unfolding store
  twin_store a ws l =
      changed (store m a ws) (store s a ws)
      (λ j h n. rw (t.plain j h n))
      (store_above s a ws number_at (let n = number_is in omega arith))
      (λ j h. store_above s a ws j (omega arith))

  pub twin_clear : (a n : ℕ) → a + n ≤ locations → Twin (clear m a n) (clear s a n)
  unfolding clear
  twin_clear a n l =
      changed (clear m a n) (clear s a n)
      (λ j h d. rw (t.plain j h d))
      (clear_above s a n number_at (let z = number_is in omega arith))
      (λ j h. clear_above s a n j (omega arith))

  -- the record of a process that is not the first
  pub twin_record : (p : ℕ) → 2 ≤ p → p ≤ 64 → Twin (clear m (record_at p 0) 20) (clear s (record_at p 0) 20)
  unfolding clear record_at
  twin_record p h k =
      changed (clear m (record_at p 0) 20) (clear s (record_at p 0) 20)
      (λ j l d. rw (t.plain j l d))
      (clear_below s (record_at p 0) 20 number_at (omega arith))
      (λ j l. clear_above s (record_at p 0) 20 j (omega arith))

  pub twin_word : (p k v : ℕ) → Word p k → Twin (update m (record_at p k) v) (update s (record_at p k) v)
  twin_word p k v w = twin_update (record_at p k) v (word_plain p k w) (word_other p k w)

  pub twin_location : (a v : ℕ) → a < locations → Twin (update m a v) (update s a v)
  twin_location a v l = twin_update a v (omega arith) (location_other a l)

  -- marks, whatever the first state's become
  pub twin_marks : (a n : ℕ) (v w : Bool) → w ≡ true → Twin (set_marks m a n v) (set_marks s a n w)
  twin_marks a n v w e =
      rw e (record {
        plain = λ i h d. marks_word s a n i true h ∙ t.plain i h d ∙ sym (marks_word m a n i v h);
        number = marks_word s a n number_at true (let z = number_is in omega arith) ∙ t.number;
        set = λ b l. marks_kept s a n b true refl (t.set b l);
      })

  pub twin_fresh : (a n : ℕ) → Twin (fresh m a n) (fresh s a n)
  twin_fresh a n = twin_marks a n _ _ (eq-eqb (s number_at) 1 t.number)

pub twin_standing : (m s : Memory) (p c f top w d : ℕ) → 1 ≤ p → p ≤ 64 → Twin m s → Twin (standing m p c f top w d) (standing s p c f top w d)
unfolding standing
twin_standing m s p c f top w d a b t =
    twin_word _ _ (twin_word _ _ (twin_word _ _ (twin_word _ _ (twin_word m s t p 2 c (omega arith)) p 3 f (omega arith)) p 4 top (omega arith)) p 5 w (omega arith)) p 7 d (omega arith)
