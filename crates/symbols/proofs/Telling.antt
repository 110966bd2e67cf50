-- The end and the kind of a symbol, as the code finds them. Assumes nothing.
use Prim.Native.Nat.{ℕ, zero, suc, ◌+◌, ◌-◌, ◌<◌, ◌≤◌}
use mathlib.Core.Path.{◌≡◌, refl, sym, ap, ◌∙◌}
use Rattle.std.specs.Prelude.{Option, Some, MatchOption}
use Rattle.std.specs.Option.{option_eq}
use Rattle.symbols.specs.Steps.{if_any, Begins}
use Rattle.symbols.specs.declared.Kind.TheVariants.{Special, Word, Name, Numeral, Character, String}
use Rattle.symbols.specs.Kinds.{kind_number}
use Rattle.symbols.proofs.Fronts.{rest_is}
use Rattle.symbols.proofs.Strings.{tail}
use Rattle.symbols.proofs.Keys.{name_run}
use Rattle.basics.proofs.Bools.{both_i, both_false_l, both_false_r}
use native.Mathlib.Nat.{not-suc-le-zero}
use mathlib.Core.Bool.{true, false}
use mathlib.Core.List.{List, [], ◌∷◌}
use native.Mathlib.Omega.{arith}
use lib.ListN.{length, get_or, take}
use lib.Dec.{eqb, leb}
use borrow.Author.Tests.{eq-eqb, ne_eqb, eqb-true, eqb-false, le-leb, lt-leb, leb-true}
use Rattle.basics.specs.Choice.{both, either, between}
use Rattle.basics.specs.Cases.{cases}
use Rattle.symbols.specs.Characters.{letter, digit, in_name}
use Rattle.symbols.specs.Runs.{span_length}
use Rattle.symbols.specs.Constants.{numeral_length, character_length, characters_length, constant_length}
use Rattle.symbols.specs.Vocabulary.{name_length, special_symbols, begins_with, longest, special_length, is_word}
use Rattle.symbols.specs.Symbols.{or_else, symbol_length, name_kind, constant_kind, symbol_kind}

-- the first that is there
pub or_first : (a b : ℕ) → (a ≡ 0 → ⊥) → or_else a b ≡ a
unfolding or_else
or_first a b n = rw (ne_eqb a 0 n)

pub or_second : (a b : ℕ) → a ≡ 0 → or_else a b ≡ b
unfolding or_else
or_second a b e = rw (eq-eqb a 0 e)

or_some : (n b : ℕ) → or_else (suc n) b ≡ suc n
or_some n b = or_first (suc n) b (λ e. omega arith)

pub or_any : (a b : ℕ) {P : Type 0} (r s : Option ℕ) → r ≡ if_any a → MatchOption r P (λ x. s ≡ Some x) → (P → s ≡ if_any b) → s ≡ if_any (or_else a b)
unfolding or_else if_any
or_any zero b r s e m f = f (rw e at m)
or_any (suc n) b r s e m f = let q : s ≡ Some (suc n) = rw e at m in rw (or_some n b) q

or_assoc : (a b c : ℕ) → or_else (or_else a b) c ≡ or_else a (or_else b c)
unfolding or_else
or_assoc zero b c = refl
or_assoc (suc n) b c = rw (or_some n b, or_some n c, or_some n (or_else b c)) refl

pub or_all : (l : List ℕ) (r : Option ℕ) → r ≡ if_any (or_else (or_else (or_else (name_length l) (numeral_length l)) (constant_length l)) (special_length l)) → r ≡ if_any (symbol_length l)
unfolding symbol_length
or_all l r e = e ∙ ap if_any (or_assoc (or_else (name_length l) (numeral_length l)) (constant_length l) (special_length l) ∙ or_assoc (name_length l) (numeral_length l) _)

-- ---- kinds

pub symbol_name : (l : List ℕ) → (name_length l ≡ 0 → ⊥) → symbol_length l ≡ name_length l
unfolding symbol_length
symbol_name l n = or_first _ _ n

pub name_some : (x : ℕ) (l : List ℕ) → letter x ≡ true → name_length (x ∷ l) ≡ 0 → ⊥
unfolding name_length
name_some x l e z = let q : suc (span_length _ l) ≡ 0 = rw e at z in omega arith

-- after an apostrophe only a constant begins
pub constant_symbol : (l : List ℕ) → symbol_length (39 ∷ l) ≡ constant_length (39 ∷ l)
unfolding symbol_length or_else name_length numeral_length span_length letter digit between both either special_length special_symbols longest begins_with
constant_symbol l = cases (eqb (constant_length (39 ∷ l)) 0) (λ e. rw e (sym (eqb-true _ _ e))) (λ e. rw e)

pub constant_size : (l : List ℕ) → (constant_length (39 ∷ l) ≡ 0 → ⊥) → constant_length (39 ∷ l) ≡ characters_length 0 l + 2
unfolding constant_length
constant_size l n =
    cases (eqb (characters_length 0 l) 0)
    (λ e. absurd (n (rw e)))
    (λ e. cases (eqb (get_or l (characters_length 0 l) 0) 39) (λ q. rw (e, q)) (λ q. absurd (n (rw (e, q)))))

constant_some : (l : List ℕ) → characters_length 0 l ≡ 0 → (constant_length (39 ∷ l) ≡ 0 → ⊥) → ⊥
unfolding constant_length
constant_some l z n = n (rw z)

take_span : (n : ℕ) (l : List ℕ) → n ≤ span_length in_name l → span_length in_name (take n l) ≡ length (take n l)
unfolding span_length
take_span zero l h = refl
take_span (suc n) [] h = refl
take_span (suc n) (x ∷ l) h =
    cases (in_name x)
    (λ e. let g : suc n ≤ suc (span_length in_name l) = rw e at h in rw (e, take_span n l (omega arith)))
    (λ e. let g : suc n ≤ 0 = rw e at h in absurd (not-suc-le-zero g))

-- an option that is compared with a number that is some
eq_any : (n m : ℕ) → (m ≡ 0 → ⊥) → option_eq eqb (if_any n) (Some m) ≡ eqb n m
unfolding if_any
eq_any zero m h = sym (ne_eqb 0 m (λ z. h (sym z)))
eq_any (suc n) m h = refl

not_digit : (x : ℕ) → (48 ≤ x → 58 ≤ x) → both (leb 48 x) (leb x 57) ≡ false
not_digit x h = cases (leb 48 x) (λ e. both_false_r _ _ (lt-leb x 57 (omega (arith, h (leb-true 48 x e))))) (λ e. both_false_l _ _ e)

eqb_turn : (a b : ℕ) → eqb a b ≡ eqb b a
eqb_turn a b = cases (eqb a b) (λ e. rw (e, eq-eqb b a (sym (eqb-true a b e)))) (λ e. rw (e, ne_eqb b a (λ z. eqb-false a b e (sym z))))

module _ (size : ℕ) where
  -- no symbol begins at the end
  none_here : {A : Type 0} → Begins [] size → A
  none_here b = let p = b.some in let w : size ≤ 0 = b.within in absurd (omega arith)

  -- the symbol that begins with a letter is a name
  name_is : (l : List ℕ) → Begins l size → true ≡ letter (get_or l 0 0) → size ≡ name_length l
  name_is [] b e = none_here b
  name_is (x ∷ l) b e = b.is ∙ symbol_name (x ∷ l) (name_some x l (sym e))

  pub name_runs : (l : List ℕ) → Begins l size → true ≡ letter (get_or l 0 0) → span_length in_name (take size l) ≡ length (take size l)
  name_runs l b e = let n = name_is l b e in let r = name_run l in take_span size l (omega arith)

  pub kind_word : (l : List ℕ) → Begins l size → true ≡ letter (get_or l 0 0) → true ≡ is_word (take size l) → kind_number Word ≡ symbol_kind l
  unfolding symbol_kind name_kind kind_number
  kind_word [] b e w = none_here b
  kind_word (x ∷ l) b e w = rw (← e, ← name_is (x ∷ l) b e, ← w)

  pub kind_name : (l : List ℕ) → Begins l size → true ≡ letter (get_or l 0 0) → false ≡ is_word (take size l) → kind_number Name ≡ symbol_kind l
  unfolding symbol_kind name_kind kind_number
  kind_name [] b e w = none_here b
  kind_name (x ∷ l) b e w = rw (← e, ← name_is (x ∷ l) b e, ← w)

  -- after an apostrophe a constant
  constant_is : (l : List ℕ) → Begins (39 ∷ l) size → (size ≡ characters_length 0 l + 2) × (characters_length 0 l ≡ 0 → ⊥)
  constant_is l b =
      let e : size ≡ constant_length (39 ∷ l) = b.is ∙ constant_symbol l in
      let p = b.some in
      let k = constant_size l (λ z. omega arith) in
      (e ∙ k, λ z. constant_some l z (omega arith))

  pub quoted_size : (l : List ℕ) → Begins l size → get_or l 0 0 ≡ 39 → 2 ≤ size
  quoted_size [] b q = none_here b
  quoted_size (x ∷ l) b q = let k = constant_is l (rw q at b) in omega (arith, k.0)

  module _ (r : Option ℕ) where
    compared : (l : List ℕ) → Begins (39 ∷ l) size → r ≡ if_any (character_length (tail (39 ∷ l) 1)) → option_eq eqb r (Some (size - 2)) ≡ eqb (characters_length 0 l) (character_length l)
    compared l b e =
        let k = constant_is l b in
        let z : size - 2 ≡ characters_length 0 l = omega (arith, k.0) in
        rw (e, rest_is 39 l, z) (eq_any (character_length l) (characters_length 0 l) k.1 ∙ eqb_turn (character_length l) (characters_length 0 l))

    pub kind_character : (l : List ℕ) → Begins l size → get_or l 0 0 ≡ 39 → r ≡ if_any (character_length (tail l 1)) → true ≡ option_eq eqb r (Some (size - 2)) → kind_number Character ≡ symbol_kind l
    unfolding symbol_kind constant_kind kind_number letter between both either
    kind_character [] b q e w = none_here b
    kind_character (x ∷ l) b q e w = rw (q, ← compared l (rw q at b) e, ← w)

    pub kind_string : (l : List ℕ) → Begins l size → get_or l 0 0 ≡ 39 → r ≡ if_any (character_length (tail l 1)) → false ≡ option_eq eqb r (Some (size - 2)) → kind_number String ≡ symbol_kind l
    unfolding symbol_kind constant_kind kind_number letter between both either
    kind_string [] b q e w = none_here b
    kind_string (x ∷ l) b q e w = rw (q, ← compared l (rw q at b) e, ← w)

  pub kind_octal : (l : List ℕ) → Begins l size → get_or l 0 0 ≡ 35 → kind_number Numeral ≡ symbol_kind l
  unfolding symbol_kind kind_number letter digit between both either
  kind_octal [] b q = none_here b
  kind_octal (x ∷ l) b q = rw q

  pub kind_digit : (l : List ℕ) → Begins l size → false ≡ letter (get_or l 0 0) → 48 ≤ get_or l 0 0 → get_or l 0 0 < 58 → kind_number Numeral ≡ symbol_kind l
  unfolding symbol_kind kind_number digit between
  kind_digit [] b e p q = none_here b
  kind_digit (x ∷ l) b e p q = rw (← e, ne_eqb x 39 (λ z. omega arith), both_i _ _ (le-leb 48 x p) (le-leb x 57 (omega arith)))

  pub kind_special : (l : List ℕ) → Begins l size → false ≡ letter (get_or l 0 0) → (get_or l 0 0 ≡ 39 → ⊥) → (get_or l 0 0 ≡ 35 → ⊥) → (48 ≤ get_or l 0 0 → 58 ≤ get_or l 0 0) → kind_number Special ≡ symbol_kind l
  unfolding symbol_kind kind_number digit between
  kind_special [] b e p q r = none_here b
  kind_special (x ∷ l) b e p q r = rw (← e, ne_eqb x 39 p, not_digit x r, ne_eqb x 35 q)

pub ruleset kinds = (name_runs, kind_word, kind_name, quoted_size, kind_character, kind_string, kind_octal, kind_digit, kind_special)
