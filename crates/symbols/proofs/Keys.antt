-- A name is a word symbol where its bytes as one number are those of a word symbol. Assumes nothing.
use Prim.Native.Nat.{ℕ, zero, suc, ◌+◌, ◌*◌, ◌%◌, ◌^◌, ◌<◌, ◌≤◌}
use mathlib.Core.Path.{◌≡◌, refl, sym, ap, ◌∙◌}
use mathlib.Core.Bool.{Bool, true, false}
use mathlib.Core.List.{List, [], ◌∷◌, ◌++◌, map, append-nil, append_assoc}
use native.Mathlib.Nat.{mod-eq_of_lt, not-suc-le-zero}
use native.Mathlib.Omega.{arith}
use lib.ListN.{length, length-map, length-append}
use lib.Dec.{eqb, leb}
use Rattle.std.proofs.lemmas.List.{nil_from_length}
use borrow.Author.Tests.{eq-eqb, ne_eqb, eqb-true, eqb-false, leb-true, le-leb}
use Rattle.basics.specs.Choice.{both, either, between}
use Rattle.basics.specs.Cases.{cases}
use Rattle.symbols.specs.Steps.{one_of, packed}
use Rattle.basics.proofs.Bools.{both_l, both_r, both_i, between_true, no_true}
use Rattle.symbols.specs.Characters.{letter, digit, in_name, small}
use Rattle.symbols.specs.Runs.{span_length}
use Rattle.symbols.specs.Vocabulary.{name_length, word_symbols, same_bytes, among, is_word}
use Rattle.symbols.proofs.Among.{each, among_each}
use Rattle.symbols.proofs.Lengths.{run_length}

-- the word symbols as numbers, as the code lists them
abbrev pub keys : List ℕ
keys = 1652577 ∷ 32685996385 ∷ 29749801698 ∷ 31381501923 ∷ 3501677181283 ∷ 27340111075 ∷ 14308 ∷ 213710437 ∷ 1652581 ∷ 13161 ∷ 1652717 ∷ 1914862 ∷ 13167 ∷ 14703 ∷ 7342511327257819504 ∷ 509754040121712 ∷ 3466809897714 ∷ 236615155 ∷ 27321202803 ∷ 31379192435 ∷ 213662964 ∷ 1782006 ∷ 1880310 ∷ 232354935 ∷ 27340207223 ∷ []

pub keys_are : keys ≡ map packed word_symbols
unfolding packed word_symbols
keys_are = refl

-- ---- the number is one of these, or none

pub key-is : (k x : ℕ) → k ≡ x → one_of x keys ≡ true → true ≡ one_of k (map packed word_symbols)
key-is k x e q = rw (← keys_are, e) (sym q)

pub key_none : (k : ℕ) → (k ≡ 1652577 → ⊥) → (k ≡ 32685996385 → ⊥) → (k ≡ 29749801698 → ⊥) → (k ≡ 31381501923 → ⊥) → (k ≡ 3501677181283 → ⊥) → (k ≡ 27340111075 → ⊥) → (k ≡ 14308 → ⊥) → (k ≡ 213710437 → ⊥) → (k ≡ 1652581 → ⊥) → (k ≡ 13161 → ⊥) → (k ≡ 1652717 → ⊥) → (k ≡ 1914862 → ⊥) → (k ≡ 13167 → ⊥) → (k ≡ 14703 → ⊥) → (k ≡ 7342511327257819504 → ⊥) → (k ≡ 509754040121712 → ⊥) → (k ≡ 3466809897714 → ⊥) → (k ≡ 236615155 → ⊥) → (k ≡ 27321202803 → ⊥) → (k ≡ 31379192435 → ⊥) → (k ≡ 213662964 → ⊥) → (k ≡ 1782006 → ⊥) → (k ≡ 1880310 → ⊥) → (k ≡ 232354935 → ⊥) → (k ≡ 27340207223 → ⊥) → false ≡ one_of k (map packed word_symbols)
unfolding one_of either
key_none k n0 n1 n2 n3 n4 n5 n6 n7 n8 n9 n10 n11 n12 n13 n14 n15 n16 n17 n18 n19 n20 n21 n22 n23 n24 =
    rw (← keys_are)
    (rw (ne_eqb k 1652577 n0, ne_eqb k 32685996385 n1, ne_eqb k 29749801698 n2, ne_eqb k 31381501923 n3, ne_eqb k 3501677181283 n4, ne_eqb k 27340111075 n5, ne_eqb k 14308 n6, ne_eqb k 213710437 n7, ne_eqb k 1652581 n8, ne_eqb k 13161 n9, ne_eqb k 1652717 n10, ne_eqb k 1914862 n11, ne_eqb k 13167 n12, ne_eqb k 14703 n13, ne_eqb k 7342511327257819504 n14, ne_eqb k 509754040121712 n15, ne_eqb k 3466809897714 n16, ne_eqb k 236615155 n17, ne_eqb k 27321202803 n18, ne_eqb k 31379192435 n19, ne_eqb k 213662964 n20, ne_eqb k 1782006 n21, ne_eqb k 1880310 n22, ne_eqb k 232354935 n23, ne_eqb k 27340207223 n24))

pub ruleset keyed = (key-is, key_none)

-- ---- the number of a name, from its end

packed_below : (n : ℕ) (s : List ℕ) → length s ≤ n → packed s < 128 ^ n
unfolding packed
packed_below zero [] h = omega arith
packed_below zero (x ∷ s) h = absurd (not-suc-le-zero h)
packed_below (suc n) [] h = let i = packed_below n [] (omega arith) in omega arith
packed_below (suc n) (x ∷ s) h = let i = packed_below n s (omega arith) in omega arith

-- the name is what is still to come and what is packed, from its end
pub record Packing (name : List ℕ) (k : ℕ) (rest : List ℕ) : Type 0 where
  pub done : List ℕ
  pub split : name ≡ rest ++ done
  pub is : k ≡ packed (map small done)

pub pack_none : (name rest : List ℕ) → rest ≡ name → Packing name 0 rest
unfolding packed
pack_none name rest e = record { done = []; split = sym (append-nil rest ∙ e); is = refl }

module _ (name rest : List ℕ) (k : ℕ) (p : Packing name k rest) where
  module _ (left : List ℕ) (b : ℕ) (e : rest ≡ left ++ (b ∷ [])) where
    pub pack_fits : length name ≤ 9 → k < 144115188075855872
    pack_fits h =
        let l : length (map small p.done) ≤ 8 = rw (length-map p.done small) (omega (arith, ap length p.split, length-append rest p.done, ap length e, length-append left (b ∷ []))) in
        omega (arith, p.is, packed_below 8 (map small p.done) l)

    pub pack_more : (r v : ℕ) → v ≡ small b → r ≡ k * 128 + v % 128 → Packing name r left
    unfolding packed
    pack_more r v f g = record { done = b ∷ p.done; split = p.split ∙ rw (e, append_assoc left (b ∷ []) p.done); is = rw (← p.is, ← f) g }

  pub pack_all : length rest ≡ 0 → k ≡ packed (map small name)
  pack_all h = rw (p.split, nil_from_length rest h) p.is

pub ruleset packs = (pack_none, pack_fits, pack_more, pack_all)

-- ---- no two names have one number

fine_byte : ℕ → Bool
fine_byte x = both (leb 1 x) (leb x 127)

fine : List ℕ → Bool
fine [] = true
fine (x ∷ s) = both (fine_byte x) (fine s)

fine-byte : (x : ℕ) → fine_byte x ≡ true → (1 ≤ x) × (x < 128)
unfolding fine_byte
fine-byte x e = (leb-true 1 x (both_l _ _ e), let h = leb-true x 127 (both_r _ _ e) in omega arith)

fine_mod : (x : ℕ) → fine_byte x ≡ true → x % 128 ≡ x
fine_mod x e = mod-eq_of_lt (fine-byte x e).1

pack_same : (s t : List ℕ) → fine s ≡ true → fine t ≡ true → same_bytes s t ≡ eqb (packed s) (packed t)
unfolding same_bytes packed both fine
pack_same [] [] f g = refl
pack_same [] (y ∷ t) f g =
    let e = fine_mod y (both_l (fine_byte y) (fine t) g) in let h = fine-byte y (both_l (fine_byte y) (fine t) g) in
    sym (ne_eqb 0 (packed t * 128 + y % 128) (λ z. omega arith))
pack_same (x ∷ s) [] f g =
    let e = fine_mod x (both_l (fine_byte x) (fine s) f) in let h = fine-byte x (both_l (fine_byte x) (fine s) f) in
    sym (ne_eqb (packed s * 128 + x % 128) 0 (λ z. omega arith))
pack_same (x ∷ s) (y ∷ t) f g =
    let i = pack_same s t (both_r (fine_byte x) (fine s) f) (both_r (fine_byte y) (fine t) g) in
    let ex = fine_mod x (both_l (fine_byte x) (fine s) f) in let hx = fine-byte x (both_l (fine_byte x) (fine s) f) in
    let ey = fine_mod y (both_l (fine_byte y) (fine t) g) in let hy = fine-byte y (both_l (fine_byte y) (fine t) g) in
    cases (eqb x y)
    (λ q. let u = eqb-true x y q in
    cases (eqb (packed s) (packed t))
    (λ z. let v = eqb-true (packed s) (packed t) z in rw (q, i, z, eq-eqb (packed s * 128 + x % 128) (packed t * 128 + y % 128) (omega arith)))
    (λ z. rw (q, i, z, ne_eqb (packed s * 128 + x % 128) (packed t * 128 + y % 128) (λ o. eqb-false (packed s) (packed t) z (omega arith)))))
    (λ q. rw (q, ne_eqb (packed s * 128 + x % 128) (packed t * 128 + y % 128) (λ o. eqb-false x y q (omega arith))))

among_packed : (s : List ℕ) (ss : List (List ℕ)) → fine s ≡ true → each fine ss ≡ true → among s ss ≡ one_of (packed s) (map packed ss)
unfolding among one_of each
among_packed s [] f g = refl
among_packed s (t ∷ ss) f g = rw (pack_same s t f (both_l _ _ g), among_packed s ss f (both_r _ _ g))

-- ---- a name's bytes

either_l : (a b : Bool) → either a b ≡ true → (b ≡ false) → a ≡ true
unfolding either
either_l true b e z = refl
either_l false b e z = no_true (sym z ∙ e)

name_byte : (x : ℕ) → in_name x ≡ true → fine_byte (small x) ≡ true
unfolding in_name letter digit small fine_byte
name_byte x e =
    cases (between 48 57 x)
    (λ d. let h = between_true 48 57 x d in
    cases (between 65 90 x)
    (λ u. let g = between_true 65 90 x u in absurd (omega arith))
    (λ u. rw u (both_i _ _ (le-leb 1 x (omega arith)) (le-leb x 127 (omega arith)))))
    (λ d. let l = either_l _ _ e d in
    cases (between 65 90 x)
    (λ u. let g = between_true 65 90 x u in rw u (both_i _ _ (le-leb 1 (x + 32) (omega arith)) (le-leb (x + 32) 127 (omega arith))))
    (λ u. let g = between_true 97 122 x (either_l _ _ l u) in rw u (both_i _ _ (le-leb 1 x (omega arith)) (le-leb x 127 (omega arith)))))

name_fine : (l : List ℕ) → span_length in_name l ≡ length l → fine (map small l) ≡ true
unfolding span_length fine
name_fine [] h = refl
name_fine (x ∷ l) h =
    cases (in_name x)
    (λ e. let g : suc (span_length in_name l) ≡ suc (length l) = rw e at h in both_i _ _ (name_byte x e) (name_fine l (omega arith)))
    (λ e. let g : 0 ≡ suc (length l) = rw e at h in absurd (omega arith))

letter_name : (x : ℕ) → letter x ≡ true → in_name x ≡ true
unfolding in_name either
letter_name x e = rw e

pub name_run : (l : List ℕ) → name_length l ≤ span_length in_name l
unfolding name_length span_length
name_run [] = omega arith
name_run (x ∷ l) = cases (letter x) (λ e. rw (e, letter_name x e) (omega arith)) (λ e. rw e (omega arith))

pub name-length : (l : List ℕ) → name_length l ≤ length l
name-length l = let a = name_run l in let b = run_length in_name l in omega arith

-- no word symbol has more than nine letters
among_long : (s : List ℕ) (ss : List (List ℕ)) → 9 < length s → each (λ t. leb (length t) 9) ss ≡ true → among s ss ≡ false
among_long s ss h e =
    cases (among s ss)
    (λ q. let b = leb-true (length s) 9 (among_each (λ t. leb (length t) 9) ss s e q) in absurd (omega arith))
    (λ q. q)

module _ (name : List ℕ) where
  pub word_long : 9 < length name → false ≡ is_word name
  unfolding is_word word_symbols each both
  word_long h = let l = length-map name small in sym (among_long (map small name) word_symbols (omega arith) refl)

  pub word_key : span_length in_name name ≡ length name → (k : ℕ) (r : Bool) → k ≡ packed (map small name) → r ≡ one_of k (map packed word_symbols) → r ≡ is_word name
  unfolding is_word word_symbols each fine fine_byte both
  word_key h k r p q = q ∙ rw (p, among_packed (map small name) word_symbols (name_fine name h) refl)

pub ruleset words = (word_long, word_key)
