-- String types: arrays of characters, which have one word; and types that are equal have as many words. Assumes nothing.
use Prim.Native.Nat.{ℕ}
use mathlib.Core.Path.{◌≡◌, refl, sym, ap, ◌∙◌}
use mathlib.Core.Bool.{true}
use native.Mathlib.Omega.{arith}
use lib.Dec.{eqb}
use borrow.Author.Tests.{eqb-true}
use Rattle.basics.specs.Cases.{cases}
use Rattle.basics.proofs.Bools.{no_true}
use Rattle.table.specs.Table.{Table}
use Rattle.table.specs.Entries.{type_kind, type_q}
use Rattle.types.specs.Types.{NodeType, numbered, string}
use Rattle.types.specs.Match.{elements, is_string, is_text, characters, matching, is_equal}
use Rattle.types.proofs.Matching.{declared_from, equal_cases}
use Rattle.sizes.specs.Sizes.{words_of}
use Rattle.sizes.specs.Kept.{words_in}
use Rattle.sizes.proofs.Counting.{words_array, words_standard, part_lower}

module _ (T : Table) where
  module _ (τ : ℕ) (s : is_string T τ ≡ true) where
    pub string_kind : (type_kind T τ ≡ 2) × (type_q T τ ≡ 2)
    unfolding is_string
    string_kind =
        cases (eqb (type_kind T τ) 2)
        (λ q. (eqb-true (type_kind T τ) 2 q, eqb-true (type_q T τ) 2 (rw q at s)))
        (λ q. no_true (rw q at s))

    pub string_words : words_of T τ ≡ elements T τ
    string_words =
        let k = string_kind.0 in
        let q = string_kind.1 in
        let d = declared_from T τ 2 k (omega arith) in
        let w = part_lower T τ 2 (omega arith) ∙ words_standard T 2 (omega arith) in
        words_array T τ k ∙ rw (q, w) (omega arith)

  text_words : (a : NodeType) → is_text T a ≡ true → words_in T a ≡ characters T a
  unfolding is_text characters words_in
  text_words (numbered τ) e = string_words τ e
  text_words (string n) e = refl

  pub equal_words : (a b : NodeType) → is_equal (matching T a b) ≡ true → words_in T a ≡ words_in T b
  equal_words a b e = equal_cases T a b e (ap (words_in T)) (λ t u c. text_words a t ∙ (c ∙ sym (text_words b u)))
