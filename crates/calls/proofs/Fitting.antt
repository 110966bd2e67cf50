-- Words that are cut or filled to a parameter's, and which words an argument is passed as. Assumes nothing.
use Prim.Native.Nat.{ℕ, ◌+◌, ◌-◌, ◌%◌, ◌<◌, ◌≤◌}
use mathlib.Core.Path.{◌≡◌, refl, sym, ap, ◌∙◌}
use mathlib.Core.Bool.{true}
use mathlib.Core.List.{List, ◌++◌}
use lib.ListN.{length, get_or, replicate, length-replicate, get_or-replicate, get_or-eq_default}
use lib.Seq.{ext_get_or, take_all}
use lib.Dec.{eqb, ltb}
use native.Mathlib.Omega.{arith}
use borrow.Author.Tests.{eqb-true, le-ltb, ltb-true, ltb-false}
use Rattle.basics.specs.Choice.{both}
use Rattle.basics.specs.Cases.{cases}
use Rattle.basics.proofs.Bools.{no_true}
use Rattle.table.specs.Table.{Table}
use Rattle.table.specs.Entries.{type_count}
use Rattle.types.specs.Types.{evened, numbered, string}
use Rattle.types.specs.Match.{elements, is_string, is_text, same_number, Match, equal, fitted, unfit, matching, is_equal, is_fit}
use Rattle.sizes.specs.Sizes.{words_of, sized}
use Rattle.sizes.specs.Kept.{words_in}
use Rattle.sizes.proofs.Strings.{string_kind, string_words, equal_words}
use Rattle.sizes.proofs.Promise.{string_even}
use Rattle.machine.specs.Memory.{Memory, words_at}
use Rattle.machine.specs.Texts.{fit, text_at}
use Rattle.machine.specs.Outcomes.{ok, stuck}
use Rattle.machine.specs.Calls.{passed}
use Rattle.machine.proofs.Memories.{length_words, words-at}
use Rattle.machine.proofs.TextLaws.{fit_long, fit_at, fit_same, text_long, text-at, evened_low}
use Rattle.code.specs.Code.{text_word}
use Rattle.operands.proofs.TypeWords.{match_words}

-- ---- as words of a memory

-- a fitted string, by what stands at each index
fit_words : (ws : List ℕ) (f : Memory) (a n : ℕ) → ((i : ℕ) → i < n → get_or ws i 0 ≡ f (a + i)) → fit n ws ≡ words_at f a n
fit_words ws f a n h =
    ext_get_or 0 (fit n ws) (words_at f a n) (fit_long n ws ∙ sym (length_words f a n))
    (λ i l.
    let g : i < n = omega (arith, fit_long n ws) in
    fit_at n ws i g ∙ (h i g ∙ sym (words-at f a n i g)))

module _ (m : Memory) (a k n : ℕ) where
  pub cut_words : n ≤ k → fit n (words_at m a k) ≡ words_at m a n
  cut_words h = fit_words (words_at m a k) m a n (λ i l. words-at m a k i (omega arith))

  pub filled_words : k < n → fit n (words_at m a k) ≡ words_at m a k ++ replicate (n - k) 0
  unfolding fit
  filled_words h =
      let e = length_words m a k in
      rw (take_all n (words_at m a k) (omega arith), e)

unfoldable pub zeros : Memory
zeros i = 0

pub zeros_are : (n : ℕ) → words_at zeros 0 n ≡ replicate n 0
unfolding zeros
zeros_are n =
    let e : length (replicate {A = ℕ} n 0) ≡ n = length-replicate {A = ℕ} n 0 in
    ext_get_or 0 (words_at zeros 0 n) (replicate n 0) (length_words zeros 0 n ∙ sym e)
    (λ i l.
    let g : i < n = omega (arith, length_words zeros 0 n) in
    words-at zeros 0 n i g ∙ sym (get_or-replicate {A = ℕ} n i 0 0 g))

module _ (T : Table) (p q : ℕ) where
  text_any : (i : ℕ) → get_or (text_at T p q) i 0 ≡ text_word T p q i
  unfolding text_word
  text_any i =
      cases (ltb i (evened q))
      (λ e. text-at T p q i (ltb-true i (evened q) e))
      (λ e.
      let h = ltb-false i (evened q) e in
      let d : q ≤ i = omega (arith, evened_low q) in
      rw (le-ltb i q d) (get_or-eq_default (text_at T p q) 0 {n = i} (omega (arith, text_long T p q))))

  pub text_words : (n : ℕ) → fit n (text_at T p q) ≡ words_at (text_word T p q) 0 n
  text_words n = fit_words (text_at T p q) (text_word T p q) 0 n (λ i l. let z : 0 + i ≡ i = omega arith in rw z (text_any i))

-- ---- which words are passed

passed_fits : (n : ℕ) (ws : List ℕ) (k : Match) → (passed n ws k ≡ stuck → ⊥) → (k ≡ equal → length ws ≡ n) → passed n ws k ≡ ok (fit n ws)
unfolding passed
passed_fits n ws equal g h = ap ok (sym (fit_same n ws (h refl)))
passed_fits n ws fitted g h = refl
passed_fits n ws unfit g h = absurd (g refl)

module _ (T : Table) (τ : ℕ) where
  pub text_passed : (ws : List ℕ) → (passed (words_of T τ) ws (matching T (string (length ws)) (numbered τ)) ≡ stuck → ⊥)
      → passed (words_of T τ) ws (matching T (string (length ws)) (numbered τ)) ≡ ok (fit (words_of T τ) ws)
  unfolding is_equal words_in
  text_passed ws g = passed_fits (words_of T τ) ws _ g (λ e. equal_words T (string (length ws)) (numbered τ) (rw e refl))

  module _ (σ : ℕ) where
    pub value_passed : (ws : List ℕ) → length ws ≡ words_of T σ → (passed (words_of T τ) ws (matching T (numbered σ) (numbered τ)) ≡ stuck → ⊥)
        → passed (words_of T τ) ws (matching T (numbered σ) (numbered τ)) ≡ ok (fit (words_of T τ) ws)
    unfolding is_equal
    value_passed ws h g = passed_fits (words_of T τ) ws _ g (λ e. h ∙ match_words T σ τ (rw e refl))

    -- a type of one word is no string type: those have even lengths
    odd_string : sized T ≡ true → σ < 3 + type_count T → words_of T σ ≡ 1 → is_string T σ ≡ true → ⊥
    odd_string z l w s =
        let n = string_words T σ s in
        let k = string_kind T σ s in
        let e = string_even T z σ l k.0 k.1 in
        let o : elements T σ ≡ 1 = omega arith in
        let d : ◌≡◌ {A = ℕ} (1 % 2) 0 = rw o at e in omega arith

    pub fit-one : sized T ≡ true → σ < 3 + type_count T → words_of T σ ≡ 1 → is_fit (matching T (numbered σ) (numbered τ)) ≡ true → words_of T τ ≡ 1
    unfolding matching same_number is_text both is_fit
    fit-one z l w f =
        cases (eqb σ τ)
        (λ e. let q = eqb-true σ τ e in rw (← q) w)
        (λ e. cases (is_string T σ) (λ s. absurd (odd_string z l w s)) (λ s. no_true (rw (e, s) at f)))
