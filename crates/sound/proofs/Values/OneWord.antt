-- Values of one word: integers, booleans, characters and references. Assumes nothing.
use Prim.Native.Nat.{ℕ, ◌≤◌}
use mathlib.Core.Path.{◌≡◌, refl, sym, ◌∙◌}
use mathlib.Core.Bool.{true}
use mathlib.Core.List.{List, [], ◌∷◌}
use native.Mathlib.Omega.{arith}
use lib.ListN.{length}
use lib.Dec.{eqb}
use borrow.Author.Tests.{leb-true, le-leb}
use Rattle.basics.proofs.Bools.{either_r}
use Rattle.table.specs.Table.{Table}
use Rattle.sizes.specs.Sizes.{words_of}
use Rattle.sizes.proofs.Counting.{words_standard}
use Rattle.machine.specs.Memory.{Memory, store, words_at}
use Rattle.machine.specs.Layout.{record_at, created_at, module_at, locations}
use Rattle.machine.specs.Outcomes.{word_of}
use Rattle.machine.specs.Entries.{process_type, type_at}
use Rattle.machine.specs.Processes.{refers}
use Rattle.machine.specs.Values.{holds}
use Rattle.machine.proofs.Memories.{store_at, store_above, words_store}
use Rattle.sound.specs.Claims.{Keeps, IsValue}
use Rattle.sound.proofs.Values.TypeKinds.{process_kind, words_process}
use Rattle.sound.proofs.Values.ValuesByKind.{refers_or_empty, integer_holds, boolean_is, character_is, process_is, keeps_refers}

-- ---- references depend on the control records only: words from 16,384 on

module _ (m n : Memory) (same : (j : ℕ) → locations ≤ j → n j ≡ m j) where
  pub refers_same : (μ r : ℕ) → refers n μ r ≡ refers m μ r
  unfolding refers record_at
  refers_same μ r = rw (same created_at (omega arith), same (module_at r) (omega arith))

  -- what is stored in areas keeps them
  pub areas_keep : Keeps m n
  areas_keep = record { refs = λ μ r e. refers_same μ r ∙ e }

-- ---- a word of a type of one word

module _ (T : Table) (m : Memory) where
  first_word : (n : Memory) (τ a w : ℕ) → words_of T τ ≡ 1 → words_at n a (words_of T τ) ≡ w ∷ [] → n a ≡ w
  unfolding words_at
  first_word n τ a w e q = let x : n a ∷ [] ≡ w ∷ [] = rw e at q in cc

  module _ (w : ℕ) where
    word_value : (τ : ℕ) → words_of T τ ≡ 1 → ((n : Memory) (a : ℕ) → Keeps m n → n a ≡ w → holds T n τ a ≡ true) → IsValue T m τ (w ∷ [])
    word_value τ e h = record { long = sym e; anywhere = λ n a keeps q. h n a keeps (first_word n τ a w e q) }

    pub integer_value : IsValue T m 0 (w ∷ [])
    integer_value = word_value 0 (words_standard T 0 (omega arith)) (λ n a keeps q. integer_holds T n a)

    pub boolean_value : w ≤ 1 → IsValue T m 1 (w ∷ [])
    boolean_value l = word_value 1 (words_standard T 1 (omega arith)) (λ n a keeps q. rw (boolean_is T n a, q) (le-leb w 1 l))

    pub character_value : w ≤ 127 → IsValue T m 2 (w ∷ [])
    character_value l = word_value 2 (words_standard T 2 (omega arith)) (λ n a keeps q. rw (character_is T n a, q) (le-leb w 127 l))

    module _ (τ μ : ℕ) (e : type_at T τ ≡ process_type μ) where
      pub process_words : words_of T τ ≡ 1
      process_words = words_process T τ (process_kind T τ μ e).0

      pub process_value : refers_or_empty m μ w ≡ true → IsValue T m τ (w ∷ [])
      process_value h = word_value τ process_words (λ n a keeps q. rw (process_is T n a τ μ e, q) (keeps_refers m n μ w keeps h))

      pub reference_value : refers m μ w ≡ true → IsValue T m τ (w ∷ [])
      unfolding refers_or_empty
      reference_value h = process_value (either_r (eqb w 0) (refers m μ w) h)

-- ---- what a value of one word is

one_word : (ws : List ℕ) → length ws ≡ 1 → ws ≡ word_of ws ∷ []
unfolding word_of
one_word [] e = absurd (omega arith)
one_word (w ∷ []) e = refl
one_word (w ∷ v ∷ ws) e = absurd (omega arith)

module _ (T : Table) (m : Memory) (τ : ℕ) (ws : List ℕ) (v : IsValue T m τ ws) (one : words_of T τ ≡ 1) where
  pub value_word : ws ≡ word_of ws ∷ []
  value_word = one_word ws (v.long ∙ one)

  long_one : length ws ≡ 1
  long_one = v.long ∙ one

  -- it holds where it stands at the first location
  word_holds : holds T (store m 0 ws) τ 0 ≡ true
  word_holds =
      let l = long_one in
      v.anywhere (store m 0 ws) 0 (areas_keep m (store m 0 ws) (λ j d. store_above m 0 ws j (omega arith)))
      (rw (← v.long) (words_store m 0 ws))

  word_there : store m 0 ws 0 ≡ word_of ws
  unfolding word_of
  word_there = let l = long_one in store_at m 0 ws 0 (omega arith)

module _ (T : Table) (m : Memory) (ws : List ℕ) where
  pub boolean_word : IsValue T m 1 ws → word_of ws ≤ 1
  boolean_word v =
      let one = words_standard T 1 (omega arith) in
      let h = word_holds T m 1 ws v one in
      leb-true (word_of ws) 1 (rw (boolean_is T (store m 0 ws) 0, word_there T m 1 ws v one) at h)
