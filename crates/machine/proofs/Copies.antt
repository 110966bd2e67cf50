-- Words that are written or read one after the other, as a loop does. Assumes nothing.
use Prim.Native.Nat.{ℕ, zero, suc, ◌+◌, ◌-◌, ◌<◌, ◌≤◌}
use mathlib.Core.Path.{◌≡◌, sym, ap, ◌∙◌, fun_ext}
use mathlib.Core.List.{List, [], ◌∷◌, ◌++◌}
use native.Mathlib.Omega.{arith}
use borrow.Author.Tests.{eqb-true, eqb-false, ltb-true, ltb-false}
use lib.Dec.{eqb, ltb}
use lib.ListN.{length, length-append, get_or-append}
use lib.Seq.{get_or-append_seam}
use Rattle.basics.specs.Cases.{cases}
use Rattle.machine.specs.Memory.{Memory, update, store, clear, words_at}
use Rattle.machine.proofs.Memories.{update_same, update_other, store_below, store_above, store_at, clear_below, clear_above, clear_at, length_words, words-at}

-- three ways to lie: below a, at a + k with k below n, or from a + n on
by_place : {A : Type 0} (a n j : ℕ) → (j < a → A) → ((k : ℕ) → k < n → j ≡ a + k → A) → (a + n ≤ j → A) → A
by_place a n j f g h =
    cases (ltb j a)
    (λ e. f (ltb-true j a e))
    (λ e.
    let l : a ≤ j = ltb-false j a e in
    cases (ltb j (a + n))
    (λ q. let u : j < a + n = ltb-true j (a + n) q in g (j - a) (omega arith) (omega arith))
    (λ q. h (ltb-false j (a + n) q)))

module _ (m : Memory) (a : ℕ) where
  pub store_none : store m a [] ≡ m
  store_none = fun_ext at
    where
      at : (j : ℕ) → store m a [] j ≡ m j
      at j =
          by_place a 0 j (λ h. store_below m a [] j h) (λ k h e. absurd (omega arith)) (λ h. store_above m a [] j h)

  -- one word more
  pub store_more : (ws : List ℕ) (v : ℕ) → store m a (ws ++ v ∷ []) ≡ update (store m a ws) (a + length ws) v
  store_more ws v = fun_ext at
    where
      long : length (ws ++ v ∷ []) ≡ length ws + 1
      long = length-append ws (v ∷ [])

      at : (j : ℕ) → store m a (ws ++ v ∷ []) j ≡ update (store m a ws) (a + length ws) v j
      at j =
          by_place a (length ws) j
          (λ h.
          store_below m a (ws ++ v ∷ []) j h
          ∙ sym (update_other (store m a ws) (a + length ws) v j (λ e. omega arith) ∙ store_below m a ws j h))
          (λ k h e.
          let l : k < length (ws ++ v ∷ []) = omega (arith, long) in
          rw e
          (store_at m a (ws ++ v ∷ []) k l
          ∙ get_or-append ws (v ∷ []) 0 k h
          ∙ sym (update_other (store m a ws) (a + length ws) v (a + k) (λ q. omega arith) ∙ store_at m a ws k h)))
          (λ h.
          cases (eqb j (a + length ws))
          (λ q.
          let e : j ≡ a + length ws = eqb-true j (a + length ws) q in
          let l : length ws < length (ws ++ v ∷ []) = omega (arith, long) in
          rw e
          (store_at m a (ws ++ v ∷ []) (length ws) l
          ∙ get_or-append_seam ws v [] 0
          ∙ sym (update_same (store m a ws) (a + length ws) v)))
          (λ q.
          let d : j ≡ a + length ws → ⊥ = eqb-false j (a + length ws) q in
          let l : a + length (ws ++ v ∷ []) ≤ j = omega (arith, long) in
          store_above m a (ws ++ v ∷ []) j l
          ∙ sym (update_other (store m a ws) (a + length ws) v j d ∙ store_above m a ws j h)))

  pub clear_none : clear m a 0 ≡ m
  clear_none = fun_ext at
    where
      at : (j : ℕ) → clear m a 0 j ≡ m j
      at j =
          by_place a 0 j (λ h. clear_below m a 0 j h) (λ k h e. absurd (omega arith)) (λ h. clear_above m a 0 j h)

  pub clear_more : (n : ℕ) → clear m a (n + 1) ≡ update (clear m a n) (a + n) 0
  clear_more n = fun_ext at
    where
      at : (j : ℕ) → clear m a (n + 1) j ≡ update (clear m a n) (a + n) 0 j
      at j =
          by_place a n j
          (λ h.
          clear_below m a (n + 1) j h
          ∙ sym (update_other (clear m a n) (a + n) 0 j (λ e. omega arith) ∙ clear_below m a n j h))
          (λ k h e.
          clear_at m a (n + 1) j (omega arith) (omega arith)
          ∙ sym (update_other (clear m a n) (a + n) 0 j (λ q. omega arith) ∙ clear_at m a n j (omega arith) (omega arith)))
          (λ h.
          cases (eqb j (a + n))
          (λ q.
          let e : j ≡ a + n = eqb-true j (a + n) q in
          clear_at m a (n + 1) j (omega arith) (omega arith) ∙ sym (rw e (update_same (clear m a n) (a + n) 0)))
          (λ q.
          let d : j ≡ a + n → ⊥ = eqb-false j (a + n) q in
          clear_above m a (n + 1) j (omega arith)
          ∙ sym (update_other (clear m a n) (a + n) 0 j d ∙ clear_above m a n j h)))

pub words_more : (m : Memory) (a n : ℕ) → words_at m a (n + 1) ≡ words_at m a n ++ m (a + n) ∷ []
unfolding words_at
words_more m a zero = let e : a + 0 ≡ a = omega arith in rw e
words_more m a (suc n) =
    let e : a + 1 + n ≡ a + suc n = omega arith in
    let d : suc n + 1 ≡ suc (n + 1) = omega arith in
    rw (d, ← e) (ap (λ (l : List ℕ). m a ∷ l) (words_more m (a + 1) n))

-- words that are stored where they stand
pub store_words : (m : Memory) (a n : ℕ) → store m a (words_at m a n) ≡ m
store_words m a n = fun_ext at
  where
    at : (j : ℕ) → store m a (words_at m a n) j ≡ m j
    at j =
        by_place a n j
        (λ h. store_below m a (words_at m a n) j h)
        (λ k h e. rw e (store_at m a (words_at m a n) k (omega (arith, length_words m a n)) ∙ words-at m a n k h))
        (λ h. store_above m a (words_at m a n) j (omega (arith, length_words m a n)))
