-- Strings that are filled or cut, and string constants, word by word. Assumes nothing.
use Prim.Native.Nat.{ℕ, ◌+◌, ◌-◌, ◌≤◌, ◌<◌}
use mathlib.Core.Path.{◌≡◌, ◌∙◌}
use mathlib.Core.List.{List, ◌++◌, append-nil}
use lib.ListN.{length, get_or, take, replicate, length-append, length-take, length-replicate, get_or-replicate, get_or-append, get_or-eq_default}
use lib.Seq.{take_all, get_or-take, get_or-append-add}
use lib.Dec.{ltb}
use borrow.Author.Tests.{ltb-true, ltb-false}
use native.Mathlib.Omega.{arith}
use Rattle.basics.specs.Choice.{pick}
use Rattle.basics.specs.Cases.{cases}
use Rattle.table.specs.Table.{Table}
use Rattle.table.specs.Entries.{character}
use Rattle.types.specs.Types.{evened}
use Rattle.machine.specs.Memory.{words_at}
use Rattle.machine.specs.Texts.{fit, text_at}
use Rattle.machine.proofs.Memories.{length_words, words-at}

module _ (n : ℕ) (ws : List ℕ) where
  pub fit_long : length (fit n ws) ≡ n
  unfolding fit
  fit_long =
      let a = length-append (take n ws) (replicate (n - length ws) 0) in
      let b = length-take n ws in
      let c : length (replicate {A = ℕ} (n - length ws) 0) ≡ n - length ws = length-replicate {A = ℕ} (n - length ws) 0 in
      omega arith

  -- the words that it has, then zeros
  pub fit_at : (i : ℕ) → i < n → get_or (fit n ws) i 0 ≡ get_or ws i 0
  unfolding fit
  fit_at i h =
      cases (ltb i (length ws))
      (λ e.
      let l = ltb-true i (length ws) e in
      let b = length-take n ws in
      get_or-append (take n ws) (replicate (n - length ws) 0) 0 i (omega arith) ∙ get_or-take n ws i 0 h)
      (λ e.
      let l = ltb-false i (length ws) e in
      let t : take n ws ≡ ws = take_all n ws (omega arith) in
      let q : i ≡ length ws + (i - length ws) = omega arith in
      let z : get_or (ws ++ replicate (n - length ws) 0) (length ws + (i - length ws)) 0 ≡ get_or (replicate (n - length ws) 0) (i - length ws) 0 = get_or-append-add ws (replicate (n - length ws) 0) (i - length ws) 0 in
      let y : get_or (replicate (n - length ws) 0) (i - length ws) 0 ≡ 0 = get_or-replicate {A = ℕ} (n - length ws) (i - length ws) 0 0 (omega arith) in
      rw (t, get_or-eq_default ws 0 {n = i} l) (rw (← q) at z ∙ y))

  -- as it is, where it has the length
  pub fit_same : length ws ≡ n → fit n ws ≡ ws
  unfolding fit
  fit_same e =
      let t : take n ws ≡ ws = take_all n ws (omega arith) in
      let z : n - length ws ≡ 0 = omega arith in
      rw (t, z) (append-nil ws)

module _ (T : Table) (p q : ℕ) where
  pub text_long : length (text_at T p q) ≡ evened q
  unfolding text_at
  text_long = fit_long (evened q) _

  pub text-at : (i : ℕ) → i < evened q → get_or (text_at T p q) i 0 ≡ pick (ltb i q) (character T (p + i)) 0
  unfolding text_at
  text-at i h =
      fit_at (evened q) (words_at (λ i. character T i) p q) i h
      ∙ cases (ltb i q)
      (λ e. rw e (words-at (λ i. character T i) p q i (ltb-true i q e)))
      (λ e. rw e (get_or-eq_default (words_at (λ i. character T i) p q) 0 {n = i} (omega (arith, length_words (λ i. character T i) p q, ltb-false i q e))))

-- the next even number
pub evened_low : (q : ℕ) → q ≤ evened q
unfolding evened
evened_low q = omega arith

pub evened_high : (q : ℕ) → evened q ≤ q + 1
unfolding evened
evened_high q = omega arith
