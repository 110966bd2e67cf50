-- The words at locations, of types and of nodes: the laws of each return. Assumes nothing.
use Prim.Native.Nat.{ℕ, zero, suc, ◌+◌, ◌-◌, ◌<◌, ◌≤◌}
use mathlib.Core.Path.{◌≡◌, refl, sym, ap, ◌∙◌}
use mathlib.Core.Bool.{Bool, true, false}
use mathlib.Core.List.{List, ◌∷◌}
use lib.Dec.{eqb}
use native.Mathlib.Omega.{arith}
use borrow.Author.Tests.{eq-eqb, ne_eqb, eqb-true, eqb-false}
use Rattle.basics.specs.Choice.{both, all_below}
use Rattle.basics.specs.Cases.{cases}
use Rattle.table.specs.Entries.{node_kind}
use Rattle.table.specs.Reading.{Field}
use Rattle.types.specs.Types.{type_of}
use Rattle.types.proofs.Matching.{constant_none}
use Rattle.sizes.specs.Sizes.{words_of}
use Rattle.sizes.proofs.Promise.{words_most}
use Rattle.words.specs.Memory.{word_at_byte, word_at}
use Rattle.machine.specs.Memory.{memory_of, Memory, words_at}
use Rattle.machine.specs.Operands.{same}
use Rattle.operands.specs.Answers.{single}
use Rattle.operands.proofs.TypeWords.{single_numbered, single_constant}
use Rattle.code.specs.Code.{slot_in, decoded}
use Rattle.code.proofs.Slots.{slot_none}
use Rattle.operands.specs.Places.{Matched}
use Rattle.operands.specs.Ready.{Sized, Valued, Counted}

pub memory_word : (s : List ℕ) (a r : ℕ) → r ≡ word_at s a → r ≡ memory_of s a
unfolding memory_of word_at word_at_byte
memory_word s a r e = e

-- words of types
module _ (t : List ℕ) (τ r : ℕ) (h : Sized t τ) where
  pub type_words : r ≡ slot_in t τ 5 → r ≡ words_of (decoded t) τ
  type_words e = e ∙ h.code.sizes τ h.there

  pub few_words : r ≡ slot_in t τ 5 → r ≤ 200
  few_words e = let g = type_words e in let u = words_most (decoded t) h.sized τ h.there in omega arith

  pub same_sized : r ≡ τ → Sized t r
  same_sized e = rw e h

module _ (t : List ℕ) (n τ : ℕ) (h : Valued t n) (e : τ ≡ slot_in t n 23) where
  value_type : τ ≡ type_of (decoded t) n
  value_type = e ∙ h.type.code.types n h.there

  pub value_sized : Sized t τ
  value_sized = rw value_type h.type

  pub value_words : (r : ℕ) → r ≡ words_of (decoded t) τ → r ≡ words_of (decoded t) (type_of (decoded t) n)
  value_words r g = g ∙ ap (words_of (decoded t)) value_type

-- whether a node has one word: the type of a string constant has no number, and no row
pub counted_single : (t : List ℕ) (n τ w : ℕ) → Counted t n → Field (slot_in t n 23) τ → Field (slot_in t τ 5) w → eqb w 1 ≡ single (decoded t) n
counted_single t n τ w h f g =
    let e = f.is ∙ h.code.types n h.there in
    let d = g.is in
    cases (eqb (node_kind (decoded t) n) 8)
    (λ k.
    let c = eqb-true (node_kind (decoded t) n) 8 k in
    let o : τ ≡ 65535 = e ∙ constant_none (decoded t) n c in
    let z : w ≡ 0 = d ∙ sym (slot_none t τ 5 (omega arith)).is in
    rw z (sym (single_constant (decoded t) n c)))
    (λ k.
    let c = eqb-false (node_kind (decoded t) n) 8 k in
    let o = h.code.sizes (type_of (decoded t) n) (h.type c) in
    sym (single_numbered (decoded t) n c ∙ rw (d, e, o)))

-- a test of all numbers begins with the first
swap : (a b c : Bool) → both a (both b c) ≡ both b (both a c)
unfolding both
swap true b c = refl
swap false true c = refl
swap false false c = refl

all_front : (n : ℕ) (p : ℕ → Bool) → all_below (suc n) p ≡ both (p 0) (all_below n (λ i. p (suc i)))
unfolding all_below
all_front zero p = refl
all_front (suc n) p = ap (both (p (suc n))) (all_front n p) ∙ swap (p (suc n)) (p 0) (all_below n (λ i. p (suc i)))

-- words that are compared
pub same_is : (f g : Memory) (a b n : ℕ) (p : ℕ → Bool) → ((i : ℕ) → p i ≡ eqb (f (a + i)) (g (b + i))) → all_below n p ≡ same (words_at f a n) (words_at g b n)
unfolding same words_at all_below
same_is f g a b zero p h = refl
same_is f g a b (suc n) p h =
    let u : a + 0 ≡ a = omega arith in
    let v : b + 0 ≡ b = omega arith in
    let first : p 0 ≡ eqb (f a) (g b) = rw (u, v) at (h 0) in
    all_front n p ∙ rw (first, same_is f g (a + 1) (b + 1) n (λ i. p (suc i)) (λ i. let d : a + 1 + i ≡ a + suc i = omega arith in let e : b + 1 + i ≡ b + suc i = omega arith in rw (d, e) (h (suc i))))

-- words that are compared one by one (engine, of characters)
module _ (f g : Memory) (a b n i : ℕ) where
  next_words : (m : Memory) (a : ℕ) → i < n → words_at m (a + i) (n - i) ≡ m (a + i) ∷ words_at m (a + (i + 1)) (n - (i + 1))
  unfolding words_at
  next_words m a l =
      let e : n - i ≡ suc (n - (i + 1)) = omega arith in
      let g : a + i + 1 ≡ a + (i + 1) = omega arith in rw (e, g)

  module _ (h : Matched f g a b n i) where
    pub matched_more : (u v : ℕ) → i < n → u ≡ f (a + i) → v ≡ g (b + i) → u ≡ v → Matched f g a b n (i + 1)
    unfolding same both
    matched_more u v l hu hv e =
        let q : eqb (f (a + i)) (g (b + i)) ≡ true = eq-eqb _ _ (sym hu ∙ (e ∙ hv)) in
        record {
          upto = omega arith;
          rest = sym (rw (next_words f a l, next_words g b l, q)) ∙ h.rest;
        }

    pub matched_not : (u v : ℕ) → i < n → u ≡ f (a + i) → v ≡ g (b + i) → (u ≡ v → ⊥) → false ≡ same (words_at f a n) (words_at g b n)
    unfolding same both
    matched_not u v l hu hv e =
        let q : eqb (f (a + i)) (g (b + i)) ≡ false = ne_eqb _ _ (λ d. e (hu ∙ (d ∙ sym hv))) in
        sym (rw (next_words f a l, next_words g b l, q)) ∙ h.rest

    pub matched_all : n ≤ i → true ≡ same (words_at f a n) (words_at g b n)
    unfolding same words_at
    matched_all l = let e : n - i ≡ 0 = omega arith in sym (rw e) ∙ h.rest

pub matched_none : (f g : Memory) (a b n : ℕ) → Matched f g a b n 0
matched_none f g a b n =
    let e : a + 0 ≡ a = omega arith in
    let d : b + 0 ≡ b = omega arith in
    let k : n - 0 ≡ n = omega arith in record { upto = omega arith; rest = rw (e, d, k) }

pub ruleset matching = (matched_none, matched_more, matched_not, matched_all)

pub ruleset standing = (memory_word, type_words, few_words, same_sized, value_sized, value_words, counted_single)
