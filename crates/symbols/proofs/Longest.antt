-- Where a symbol is found it is one of its kind, and none that begins there is longer. Assumes nothing.
use Prim.Native.Nat.{ℕ, zero, suc, ◌+◌, ◌-◌, ◌<◌, ◌≤◌, max}
use mathlib.Core.Path.{◌≡◌, refl, sym, ap, ◌∙◌, subst}
use mathlib.Core.Bool.{Bool, true, false}
use mathlib.Core.List.{List, [], ◌∷◌, ◌++◌, append_assoc, append-nil}
use native.Mathlib.Omega.{arith}
use lib.ListN.{length, get_or, take, drop, length-append, length-drop, take-append-drop}
use lib.Seq.{drop_at, take_at, get_or_at, length-take-le, take-add, take-suc}
use lib.Dec.{eqb, leb}
use borrow.Author.Tests.{eq-eqb, ne_eqb, eqb-true, eqb-false, leb-true, leb-false}
use Rattle.basics.specs.Choice.{pick, both, either, between}
use Rattle.basics.specs.Cases.{cases}
use Rattle.basics.proofs.Bools.{both_l, both_r, both_i, between_true, no_true}
use Rattle.symbols.specs.Characters.{letter, digit, octal_digit, in_name, plain_graphic}
use Rattle.symbols.specs.Runs.{span_length}
use Rattle.symbols.specs.Constants.{signed, numeral_length, character_length, characters_length, constant_length}
use Rattle.symbols.specs.Vocabulary.{name_length, special_symbols, begins_with, longest, special_length, same_bytes, among, is_word}
use Rattle.symbols.specs.Symbols.{or_else, symbol_length, name_kind, constant_kind, symbol_kind}
use Rattle.symbols.proofs.Among.{same_is, each, among_each}
use Rattle.symbols.proofs.Lengths.{get_d_past, characters_next, characters_stop, numeral-length as numeral-within, character-length, characters-length}
use Rattle.symbols.proofs.Telling.{or_first, or_second, symbol_name, name_some, constant_symbol, constant_size}
use Rattle.symbols.proofs.Scanning.{symbol_nil}
use Rattle.symbols.specs.Grammar.{all, Name, name, Numeral, decimal, octal, Character, plain, coded, Characters, none, more, IsSymbol, special, word, plain_name, numeral, character, string}

-- ---- runs of a class

pub all_front : (f : ℕ → Bool) (l : List ℕ) → all f (take (span_length f l) l) ≡ true
unfolding all span_length
all_front f [] = refl
all_front f (x ∷ l) = cases (f x) (λ e. rw e (both_i _ _ e (all_front f l))) (λ e. rw e)

-- a run goes on after bytes of the class
pub run_on : (f : ℕ → Bool) (s t : List ℕ) → all f s ≡ true → span_length f (s ++ t) ≡ length s + span_length f t
unfolding all span_length
run_on f [] t e = omega arith
run_on f (x ∷ s) t e = let i = run_on f s t (both_r _ _ e) in rw (both_l _ _ e) (omega arith)

-- ---- names

name_longest : (s t : List ℕ) → Name s → length s ≤ name_length (s ++ t)
unfolding name_length
name_longest s t (name x r e q) = let i = run_on in_name r t q in rw e (omega arith)

name_found : (l : List ℕ) → (name_length l ≡ 0 → ⊥) → Name (take (name_length l) l)
unfolding name_length
name_found [] n = absurd (n refl)
name_found (x ∷ l) n = cases (letter x) (λ e. rw e (name x (take (span_length in_name l) l) e (all_front in_name l))) (λ e. absurd (n (rw e)))

-- ---- numerals

digit_sign : (x : ℕ) → digit x ≡ true → eqb x 35 ≡ false
unfolding digit
digit_sign x e = let b = between_true 48 57 x e in ne_eqb x 35 (λ q. omega arith)

signed_some : (n : ℕ) → signed (suc n) ≡ suc (suc n)
unfolding signed
signed_some n = refl

signed_zero : signed 0 ≡ 0
unfolding signed
signed_zero = refl

-- a numeral's length, by what follows it
decimal_is : (x : ℕ) (r t : List ℕ) → all digit (x ∷ r) ≡ true → numeral_length ((x ∷ r) ++ t) ≡ length (x ∷ r) + span_length digit t
unfolding numeral_length all
decimal_is x r t e = rw (digit_sign x (both_l (digit x) (all digit r) e)) (run_on digit (x ∷ r) t e)

octal_view : (l : List ℕ) → numeral_length (35 ∷ l) ≡ signed (span_length octal_digit l)
unfolding numeral_length
octal_view l = refl

octal_is : (x : ℕ) (r t : List ℕ) → all octal_digit (x ∷ r) ≡ true → numeral_length ((35 ∷ x ∷ r) ++ t) ≡ length (35 ∷ x ∷ r) + span_length octal_digit t
octal_is x r t e =
    let i = run_on octal_digit (x ∷ r) t e in
    let j : span_length octal_digit (x ∷ (r ++ t)) ≡ suc (length r + span_length octal_digit t) = omega arith in
    let k : suc (suc (length r + span_length octal_digit t)) ≡ length (35 ∷ x ∷ r) + span_length octal_digit t = omega arith in
    octal_view (x ∷ (r ++ t)) ∙ ap signed j ∙ signed_some (length r + span_length octal_digit t) ∙ k

numeral_longest : (s t : List ℕ) → Numeral s → length s ≤ numeral_length (s ++ t)
numeral_longest s t (decimal x r e) = let i = decimal_is x r t e in omega arith
numeral_longest s t (octal x r e) = let i = octal_is x r t e in omega arith

-- where nothing after it belongs to a numeral, another text after it that is no better leaves it so
numeral_stays : (s t u : List ℕ) → Numeral s → (span_length digit t ≡ 0 → span_length digit u ≡ 0) → (span_length octal_digit t ≡ 0 → span_length octal_digit u ≡ 0) → numeral_length (s ++ t) ≡ length s → numeral_length (s ++ u) ≡ length s
numeral_stays s t u (decimal x r e) f g q = let i = decimal_is x r t e in let k = f (omega arith) in let j = decimal_is x r u e in omega arith
numeral_stays s t u (octal x r e) f g q = let i = octal_is x r t e in let k = g (omega arith) in let j = octal_is x r u e in omega arith

run-nil : (f : ℕ → Bool) → span_length f [] ≡ 0
unfolding span_length
run-nil f = refl

run_one : (f : ℕ → Bool) (x n : ℕ) (l : List ℕ) → span_length f (x ∷ l) ≡ suc n → (f x ≡ true) × (span_length f l ≡ n)
unfolding span_length
run_one f x n l e = cases (f x) (λ q. (q, let z : suc (span_length f l) ≡ suc n = rw q at e in omega arith)) (λ q. let z : 0 ≡ suc n = rw q at e in absurd (omega arith))

decimal_found : (x : ℕ) (l : List ℕ) → (span_length digit (x ∷ l) ≡ 0 → ⊥) → Numeral (take (span_length digit (x ∷ l)) (x ∷ l))
decimal_found x l n = go (span_length digit (x ∷ l)) refl
  where
    go : (k : ℕ) → span_length digit (x ∷ l) ≡ k → Numeral (take (span_length digit (x ∷ l)) (x ∷ l))
    go zero e = absurd (n e)
    go (suc k) e = rw e (decimal x (take k l) (rw e at (all_front digit (x ∷ l))))

octal_found : (x : ℕ) (l : List ℕ) → x ≡ 35 → (span_length octal_digit l ≡ 0 → ⊥) → Numeral (take (signed (span_length octal_digit l)) (x ∷ l))
octal_found x l e n = go l n
  where
    go : (l : List ℕ) → (span_length octal_digit l ≡ 0 → ⊥) → Numeral (take (signed (span_length octal_digit l)) (x ∷ l))
    go [] n = absurd (n (run-nil octal_digit))
    go (y ∷ l) n = at_some y l (span_length octal_digit (y ∷ l)) refl n
      where
        at_some : (y : ℕ) (l : List ℕ) (k : ℕ) → span_length octal_digit (y ∷ l) ≡ k → (span_length octal_digit (y ∷ l) ≡ 0 → ⊥) → Numeral (take (signed (span_length octal_digit (y ∷ l))) (x ∷ y ∷ l))
        at_some y l zero q n = absurd (n q)
        at_some y l (suc k) q n = rw (q, signed_some k, e) (octal y (take k l) (rw q at (all_front octal_digit (y ∷ l))))

empty : (u : List ℕ) → length u ≡ 0 → u ≡ []
empty [] e = refl
empty (x ∷ u) e = absurd (omega arith)

numeral_nonempty : (s : List ℕ) → Numeral s → length s ≡ 0 → ⊥
numeral_nonempty s (decimal x r e) z = omega arith
numeral_nonempty s (octal x r e) z = omega arith

numeral_found : (l : List ℕ) → (numeral_length l ≡ 0 → ⊥) → Numeral (take (numeral_length l) l)
unfolding numeral_length
numeral_found [] n = absurd (n refl)
numeral_found (x ∷ l) n =
    cases (eqb x 35)
    (λ e. rw e (octal_found x l (eqb-true x 35 e) (λ z. n (rw (e, z) signed_zero))))
    (λ e. rw e (decimal_found x l (λ z. n (rw e z))))

-- as long as possible: as the grammar says it, and as a length
numeral_exact : (s t : List ℕ) → Numeral s → ((u w : List ℕ) → t ≡ u ++ w → Numeral (s ++ u) → u ≡ []) → numeral_length (s ++ t) ≡ length s
numeral_exact s t n q =
    let l = numeral_longest s t n in
    let b = numeral-within (s ++ t) in
    let m : ℕ = numeral_length (s ++ t) - length s in
    let k : numeral_length (s ++ t) ≡ length s + m = omega arith in
    let z : numeral_length (s ++ t) ≡ 0 → ⊥ = λ o. numeral_nonempty s n (omega arith) in
    let c : take (numeral_length (s ++ t)) (s ++ t) ≡ s ++ take m t = ap (λ (i : ℕ). take i (s ++ t)) k ∙ take-add (length s) m (s ++ t) ∙ rw (take_at s t (length s) refl, drop_at s t (length s) refl) in
    let e = q (take m t) (drop m t) (sym (take-append-drop m t)) (rw c at (numeral_found (s ++ t) z)) in
    let j : length (take m t) ≡ m = length-take-le m t (omega (arith, length-append s t)) in
    let o : length (take m t) ≡ 0 = ap length e in
    omega arith

numeral_most : (s t : List ℕ) → numeral_length (s ++ t) ≡ length s → (u w : List ℕ) → t ≡ u ++ w → Numeral (s ++ u) → u ≡ []
numeral_most s t k u w e n =
    let l = numeral_longest (s ++ u) w n in
    let a : (s ++ u) ++ w ≡ s ++ t = append_assoc s u w ∙ ap (λ (v : List ℕ). s ++ v) (sym e) in
    let b : numeral_length ((s ++ u) ++ w) ≡ numeral_length (s ++ t) = ap numeral_length a in
    empty u (omega (arith, length-append s u))

-- ---- special symbols

same_self : (s : List ℕ) → same_bytes s s ≡ true
unfolding same_bytes
same_self [] = refl
same_self (x ∷ s) = both_i _ _ (eq-eqb x x refl) (same_self s)

begins_self : (s t : List ℕ) → begins_with s (s ++ t) ≡ true
unfolding begins_with
begins_self [] t = refl
begins_self (x ∷ s) t = both_i _ _ (eq-eqb x x refl) (begins_self s t)

begins_take : (s l : List ℕ) → begins_with s l ≡ true → take (length s) l ≡ s
unfolding begins_with
begins_take [] l e = refl
begins_take (x ∷ s) [] e = no_true e
begins_take (x ∷ s) (y ∷ l) e = let a = eqb-true x y (both_l _ _ e) in let b = begins_take s l (both_r _ _ e) in cc

longest_of : (ss : List (List ℕ)) (s t : List ℕ) → among s ss ≡ true → length s ≤ longest ss (s ++ t)
unfolding longest among either
longest_of [] s t e = no_true e
longest_of (u ∷ ss) s t e =
    cases (same_bytes s u)
    (λ q. let z : u ≡ s = sym (same_is s u q) in rw (z, begins_self s t) (omega arith))
    (λ q. let i = longest_of ss s t (rw q at e) in omega arith)

either_any : (a b : Bool) → b ≡ true → either a b ≡ true
unfolding either
either_any true b e = refl
either_any false b e = e

longest_found : (ss : List (List ℕ)) (l : List ℕ) → (longest ss l ≡ 0 → ⊥) → among (take (longest ss l) l) ss ≡ true
unfolding longest among either
longest_found [] l n = absurd (n refl)
longest_found (u ∷ ss) l n =
    cases (begins_with u l)
    (λ b. cases (leb (longest ss l) (length u))
    (λ h. let g = leb-true (longest ss l) (length u) h in let m : max (length u) (longest ss l) ≡ length u = omega arith in rw (b, m, begins_take u l b, same_self u))
    (λ h. let g = leb-false (longest ss l) (length u) h in let m : max (length u) (longest ss l) ≡ longest ss l = omega arith in let k : longest (u ∷ ss) l ≡ longest ss l = rw (b, m) in subst (λ n. among (take n l) (u ∷ ss) ≡ true) (sym k) (either_any (same_bytes (take (longest ss l) l) u) (among (take (longest ss l) l) ss) (longest_found ss l (λ z. omega arith)))))
    (λ b. let m : max 0 (longest ss l) ≡ longest ss l = omega arith in let k : longest (u ∷ ss) l ≡ longest ss l = rw (b, m) in subst (λ n. among (take n l) (u ∷ ss) ≡ true) (sym k) (either_any (same_bytes (take (longest ss l) l) u) (among (take (longest ss l) l) ss) (longest_found ss l (λ z. n (rw b (omega arith))))))

-- ---- symbols of different sorts begin differently

no_name : (x : ℕ) (l : List ℕ) → letter x ≡ false → name_length (x ∷ l) ≡ 0
unfolding name_length
no_name x l e = rw e

no_numeral : (x : ℕ) (l : List ℕ) → digit x ≡ false → eqb x 35 ≡ false → numeral_length (x ∷ l) ≡ 0
unfolding numeral_length span_length
no_numeral x l e q = rw (q, e)

no_constant : (x : ℕ) (l : List ℕ) → eqb x 39 ≡ false → constant_length (x ∷ l) ≡ 0
unfolding constant_length
no_constant x l e = rw e

pub digit_letter : (x : ℕ) → digit x ≡ true → letter x ≡ false
unfolding digit letter either
digit_letter x e =
    let b = between_true 48 57 x e in
    cases (between 97 122 x)
    (λ q. let c = between_true 97 122 x q in absurd (omega arith))
    (λ q. cases (between 65 90 x) (λ r. let c = between_true 65 90 x r in absurd (omega arith)) (λ r. rw (q, r)))

-- neither letter, digit, number sign nor apostrophe
apart : List ℕ → Bool
apart [] = false
apart (x ∷ s) = pick (letter x) false (pick (digit x) false (pick (eqb x 35) false (pick (eqb x 39) false true)))

signs_apart : each apart special_symbols ≡ true
unfolding special_symbols each apart letter digit between both either
signs_apart = refl

special_apart : (s : List ℕ) → among s special_symbols ≡ true → apart s ≡ true
special_apart s e = among_each apart special_symbols s signs_apart e

pub special_only : (x : ℕ) (l : List ℕ) → letter x ≡ false → digit x ≡ false → eqb x 35 ≡ false → eqb x 39 ≡ false → symbol_length (x ∷ l) ≡ special_length (x ∷ l)
unfolding symbol_length
special_only x l a b c d = or_second (name_length (x ∷ l)) _ (no_name x l a) ∙ or_second (numeral_length (x ∷ l)) _ (no_numeral x l b c) ∙ or_second (constant_length (x ∷ l)) _ (no_constant x l d)

apart_special : (x : ℕ) (s t : List ℕ) → apart (x ∷ s) ≡ true → symbol_length (x ∷ (s ++ t)) ≡ special_length (x ∷ (s ++ t))
unfolding apart
apart_special x s t e =
    cases (letter x) (λ q. no_true (rw q at e)) (λ a.
    cases (digit x) (λ q. no_true (rw (a, q) at e)) (λ b.
    cases (eqb x 35) (λ q. no_true (rw (a, b, q) at e)) (λ c.
    cases (eqb x 39) (λ q. no_true (rw (a, b, c, q) at e)) (λ d. special_only x (s ++ t) a b c d))))

numeral_only : (x : ℕ) (l : List ℕ) → letter x ≡ false → (numeral_length (x ∷ l) ≡ 0 → ⊥) → symbol_length (x ∷ l) ≡ numeral_length (x ∷ l)
unfolding symbol_length
numeral_only x l a n = or_second (name_length (x ∷ l)) _ (no_name x l a) ∙ or_first (numeral_length (x ∷ l)) _ n

-- ---- character symbols

numeral_some : (s : List ℕ) → Numeral s → (n : ℕ) × (length s ≡ suc n)
numeral_some s (decimal x r e) = (length r, refl)
numeral_some s (octal x r e) = (suc (length r), refl)

-- a run that does not begin does not begin before an apostrophe, nor in a part
quiet : (f : ℕ → Bool) → f 39 ≡ false → (t u : List ℕ) → span_length f t ≡ 0 → span_length f (t ++ 39 ∷ u) ≡ 0
unfolding span_length
quiet f q [] u e = rw q
quiet f q (y ∷ t) u e = cases (f y) (λ z. let o : suc (span_length f t) ≡ 0 = rw z at e in absurd (omega arith)) (λ z. rw z)

quiet_part : (f : ℕ → Bool) (m : ℕ) (t : List ℕ) → span_length f t ≡ 0 → span_length f (take m t) ≡ 0
unfolding span_length
quiet_part f zero t e = refl
quiet_part f (suc m) [] e = refl
quiet_part f (suc m) (y ∷ t) e = cases (f y) (λ z. let o : suc (span_length f t) ≡ 0 = rw z at e in absurd (omega arith)) (λ z. rw z)

at_not_standing : plain_graphic 64 ≡ false
unfolding plain_graphic
at_not_standing = refl

apostrophe_digit : digit 39 ≡ false
unfolding digit between both
apostrophe_digit = refl

apostrophe_octal : octal_digit 39 ≡ false
unfolding octal_digit between both
apostrophe_octal = refl

sign_letter : letter 35 ≡ false
unfolding letter between both either
sign_letter = refl

apostrophe_none : (u : List ℕ) → characters_length 0 (39 ∷ u) ≡ 0
unfolding characters_length character_length plain_graphic
apostrophe_none u = refl

standing_at : (x : ℕ) → plain_graphic x ≡ true → eqb x 64 ≡ false
standing_at x e = cases (eqb x 64) (λ q. let z : x ≡ 64 = eqb-true x 64 q in no_true (sym at_not_standing ∙ rw z at e)) (λ q. q)

pub character_is : (s t u : List ℕ) → Character s t → (character_length (s ++ (t ++ 39 ∷ u)) ≡ length s) × ((length s ≡ 0) → ⊥)
unfolding character_length
character_is s t u (plain x w e) = (rw (standing_at x e, e), λ z. omega arith)
character_is s t u (coded r w n q) =
    let k = numeral_some r n in
    let i = numeral_stays r t (t ++ 39 ∷ u) n (quiet digit apostrophe_digit t u) (quiet octal_digit apostrophe_octal t u) (numeral_exact r t n q) in
    (rw (i, k.1, signed_some k.0), λ z. omega arith)

pub characters_is : (n : ℕ) (s u : List ℕ) → Characters n s → characters_length 0 (s ++ 39 ∷ u) ≡ length s
characters_is n s u none = apostrophe_none u
characters_is n s u (more m r t c cs) =
    let i = characters_is m t u cs in
    let k = character_is r t u c in
    let j = characters_next (r ++ (t ++ 39 ∷ u)) (λ z. k.1 (sym k.0 ∙ z)) in
    let d : drop (character_length (r ++ (t ++ 39 ∷ u))) (r ++ (t ++ 39 ∷ u)) ≡ t ++ 39 ∷ u = ap (λ (m : ℕ). drop m (r ++ (t ++ 39 ∷ u))) k.0 ∙ drop_at r (t ++ 39 ∷ u) (length r) refl in
    let j' : characters_length 0 (r ++ (t ++ 39 ∷ u)) ≡ character_length (r ++ (t ++ 39 ∷ u)) + characters_length 0 (t ++ 39 ∷ u) = rw d at j in
    rw (append_assoc r t (39 ∷ u)) (omega (arith, length-append r t, k.0))

pub characters_some : (n : ℕ) (s : List ℕ) → Characters (suc n) s → length s ≡ 0 → ⊥
characters_some n s (more m r t c cs) z = (character_is r t [] c).1 (omega (arith, length-append r t))

-- a constant's length, by its character symbols
constant_is : (n : ℕ) (s u : List ℕ) → Characters (suc n) s → constant_length (39 ∷ (s ++ 39 ∷ u)) ≡ length s + 2
unfolding constant_length
constant_is n s u c =
    let i = characters_is (suc n) s u c in
    let g : get_or (s ++ 39 ∷ u) (characters_length 0 (s ++ 39 ∷ u)) 0 ≡ 39 = ap (λ (m : ℕ). get_or (s ++ 39 ∷ u) m 0) i ∙ get_or_at s 39 u 0 (length s) refl in
    rw (ne_eqb (characters_length 0 (s ++ 39 ∷ u)) 0 (λ z. characters_some n s c (sym i ∙ z)), eq-eqb (get_or (s ++ 39 ∷ u) (characters_length 0 (s ++ 39 ∷ u)) 0) 39 g) (omega arith)

constant_longest : (n : ℕ) (s t : List ℕ) → Characters (suc n) s → length (39 ∷ (s ++ 39 ∷ [])) ≤ symbol_length ((39 ∷ (s ++ 39 ∷ [])) ++ t)
constant_longest n s t c =
    let e : (s ++ 39 ∷ []) ++ t ≡ s ++ 39 ∷ t = append_assoc s (39 ∷ []) t in
    let a = constant_symbol (s ++ 39 ∷ t) in
    let b = constant_is n s t c in
    rw e (omega (arith, length-append s (39 ∷ [])))

-- ---- THE THEOREM: no symbol that begins at a place is longer than the one found there

name_any : (s t : List ℕ) → Name s → length s ≤ symbol_length (s ++ t)
name_any s t (name x r e q) =
    let i = name_longest (x ∷ r) t (name x r e q) in
    let j = symbol_name ((x ∷ r) ++ t) (λ z. omega arith) in
    omega arith

numeral_any : (s t : List ℕ) → Numeral s → length s ≤ symbol_length (s ++ t)
unfolding all
numeral_any s t (decimal x r e) =
    let i = numeral_longest (x ∷ r) t (decimal x r e) in
    let j = numeral_only x (r ++ t) (digit_letter x (both_l (digit x) (all digit r) e)) (λ z. omega arith) in
    omega arith
numeral_any s t (octal x r e) =
    let i = numeral_longest (35 ∷ x ∷ r) t (octal x r e) in
    let j = numeral_only 35 (x ∷ (r ++ t)) sign_letter (λ z. omega arith) in
    omega arith

special_any : (s t : List ℕ) → among s special_symbols ≡ true → apart s ≡ true → length s ≤ symbol_length (s ++ t)
unfolding special_length
special_any [] t e a = omega arith
special_any (x ∷ s) t e a = let i = longest_of special_symbols (x ∷ s) t e in rw (apart_special x s t a) i

pub no_longer : (k : ℕ) (s t : List ℕ) → IsSymbol k s → length s ≤ symbol_length (s ++ t)
no_longer k s t (special r e) = special_any s t e (special_apart s e)
no_longer k s t (word r n e) = name_any s t n
no_longer k s t (plain_name r n e) = name_any s t n
no_longer k s t (numeral r n) = numeral_any s t n
no_longer k s t (character r c) = constant_longest 0 r t c
no_longer k s t (string n r c) = constant_longest (suc n) r t c

-- ---- what is found

signed-size : (n : ℕ) → (signed n ≡ 0 → ⊥) → (n ≡ 0 → ⊥) × (signed n ≡ suc n)
unfolding signed
signed-size zero n = absurd (n refl)
signed-size (suc k) n = (λ z. omega arith, refl)

part_numeral : (l : List ℕ) (m : ℕ) → (numeral_length l ≡ 0 → ⊥) → Character (64 ∷ take (numeral_length l) l) (take m (drop (numeral_length l) l))
part_numeral l m n =
    let s : List ℕ = take (numeral_length l) l in
    let u : List ℕ = drop (numeral_length l) l in
    let k : length s ≡ numeral_length l = length-take-le (numeral_length l) l (numeral-within l) in
    let w : numeral_length (s ++ u) ≡ length s = rw (take-append-drop (numeral_length l) l) (sym k) in
    coded s (take m u) (numeral_found l n) (numeral_most s (take m u) (numeral_stays s u (take m u) (numeral_found l n) (quiet_part digit m u) (quiet_part octal_digit m u) w))

character_found : (l : List ℕ) (m : ℕ) → (character_length l ≡ 0 → ⊥) → Character (take (character_length l) l) (take m (drop (character_length l) l))
unfolding character_length
character_found [] m n = absurd (n refl)
character_found (x ∷ l) m n =
    cases (eqb x 64)
    (λ e. let k = signed-size (numeral_length l) (λ z. n (rw e z)) in rw (e, k.1, eqb-true x 64 e) (part_numeral l m k.0))
    (λ e. cases (plain_graphic x) (λ q. rw (e, q) (plain x _ q)) (λ q. absurd (n (rw (e, q)))))

characters_found : (f : ℕ) (l : List ℕ) → length l ≤ f → (n : ℕ) × Characters n (take (characters_length 0 l) l)
characters_found zero l h = (0, let b = character-length l in rw (characters_stop l (omega arith)) none)
characters_found (suc f) l h =
    cases (eqb (character_length l) 0)
    (λ e. (0, rw (characters_stop l (eqb-true (character_length l) 0 e)) none))
    (λ e.
    let z : character_length l ≡ 0 → ⊥ = eqb-false (character_length l) 0 e in
    let i = characters_found f (drop (character_length l) l) (omega (arith, length-drop (character_length l) l)) in
    (suc i.0, rw (characters_next l z, take-add (character_length l) (characters_length 0 (drop (character_length l) l)) l) (more i.0 _ _ (character_found l (characters_length 0 (drop (character_length l) l)) z) i.1)))

one_found : (l : List ℕ) → (character_length l ≡ 0 → ⊥) → characters_length 0 l ≡ character_length l → Characters 1 (take (characters_length 0 l) l)
one_found l n e = rw e (subst (λ (u : List ℕ). Characters 1 u) (append-nil (take (character_length l) l)) (more 0 _ [] (character_found l 0 n) none))

pub none_empty : (n : ℕ) (u : List ℕ) → Characters n u → n ≡ 0 → length u ≡ 0
none_empty n u none z = refl
none_empty n u (more m s t c cs) z = absurd (omega arith)

more_found : (l : List ℕ) → (character_length l ≡ 0 → ⊥) → (characters_length 0 l ≡ character_length l → ⊥) → (n : ℕ) × Characters (suc (suc n)) (take (characters_length 0 l) l)
more_found l z d = go (characters_found (length l) (drop (character_length l) l) (omega (arith, length-drop (character_length l) l))).0 (characters_found (length l) (drop (character_length l) l) (omega (arith, length-drop (character_length l) l))).1
  where
    go : (n : ℕ) → Characters n (take (characters_length 0 (drop (character_length l) l)) (drop (character_length l) l)) → (n : ℕ) × Characters (suc (suc n)) (take (characters_length 0 l) l)
    go zero c =
        let i = characters_next l z in
        let k = length-take-le (characters_length 0 (drop (character_length l) l)) (drop (character_length l) l) (characters-length 0 (drop (character_length l) l)) in
        let j = none_empty 0 _ c refl in
        absurd (d (omega arith))
    go (suc n) c = (n, rw (characters_next l z, take-add (character_length l) (characters_length 0 (drop (character_length l) l)) l) (more (suc n) _ _ (character_found l (characters_length 0 (drop (character_length l) l)) z) c))

constant_parts : (l : List ℕ) → (constant_length (39 ∷ l) ≡ 0 → ⊥) → (characters_length 0 l ≡ 0 → ⊥) × (get_or l (characters_length 0 l) 0 ≡ 39)
unfolding constant_length
constant_parts l n =
    cases (eqb (characters_length 0 l) 0)
    (λ e. absurd (n (rw e)))
    (λ e. cases (eqb (get_or l (characters_length 0 l) 0) 39) (λ q. (eqb-false (characters_length 0 l) 0 e, eqb-true (get_or l (characters_length 0 l) 0) 39 q)) (λ q. absurd (n (rw (e, q)))))

constant_bytes : (l : List ℕ) → (constant_length (39 ∷ l) ≡ 0 → ⊥) → take (constant_length (39 ∷ l)) (39 ∷ l) ≡ 39 ∷ (take (characters_length 0 l) l ++ 39 ∷ [])
constant_bytes l n =
    let p = constant_parts l n in
    let s : constant_length (39 ∷ l) ≡ suc (suc (characters_length 0 l)) = constant_size l n ∙ omega arith in
    let h : characters_length 0 l < length l = cases (leb (length l) (characters_length 0 l)) (λ e. let o = get_d_past l (characters_length 0 l) (leb-true (length l) (characters_length 0 l) e) in absurd (omega arith)) (λ e. let o = leb-false (length l) (characters_length 0 l) e in omega arith) in
    rw (s, take-suc l (characters_length 0 l) 0 h, p.1)

constant_found : (l : List ℕ) → (constant_length (39 ∷ l) ≡ 0 → ⊥) → IsSymbol (constant_kind l) (take (constant_length (39 ∷ l)) (39 ∷ l))
unfolding constant_kind
constant_found l n =
    let p = constant_parts l n in
    let z : character_length l ≡ 0 → ⊥ = λ e. p.0 (characters_stop l e) in
    cases (eqb (characters_length 0 l) (character_length l))
    (λ e. rw (e, constant_bytes l n) (character _ (one_found l z (eqb-true (characters_length 0 l) (character_length l) e))))
    (λ e. let m = more_found l z (eqb-false (characters_length 0 l) (character_length l) e) in rw (e, constant_bytes l n) (string m.0 _ m.1))

name_symbol : (l : List ℕ) → (name_length l ≡ 0 → ⊥) → IsSymbol (name_kind l) (take (name_length l) l)
unfolding name_kind
name_symbol l n = cases (is_word (take (name_length l) l)) (λ e. rw e (word _ (name_found l n) e)) (λ e. rw e (plain_name _ (name_found l n) e))

same_symbol : (k j n m : ℕ) (l : List ℕ) → k ≡ j → n ≡ m → IsSymbol j (take m l) → IsSymbol k (take n l)
same_symbol k j n m l p q s = rw (p, q) s

-- ---- THE THEOREM: what is found is a symbol of its kind

sign_only : (l : List ℕ) → symbol_length (35 ∷ l) ≡ numeral_length (35 ∷ l)
unfolding symbol_length or_else name_length letter between both either constant_length special_length special_symbols longest begins_with
sign_only l = cases (eqb (numeral_length (35 ∷ l)) 0) (λ e. rw e (sym (eqb-true (numeral_length (35 ∷ l)) 0 e))) (λ e. rw e)

digit_some : (x : ℕ) (l : List ℕ) → digit x ≡ true → numeral_length (x ∷ l) ≡ 0 → ⊥
unfolding numeral_length span_length
digit_some x l e z = let o : suc (span_length digit l) ≡ 0 = rw (digit_sign x e, e) at z in omega arith

pub is_symbol : (l : List ℕ) → (symbol_length l ≡ 0 → ⊥) → IsSymbol (symbol_kind l) (take (symbol_length l) l)
unfolding symbol_kind special_length
is_symbol [] n = absurd (n symbol_nil)
is_symbol (x ∷ l) n =
    cases (letter x)
    (λ a. let s = symbol_name (x ∷ l) (name_some x l a) in same_symbol (symbol_kind (x ∷ l)) (name_kind (x ∷ l)) (symbol_length (x ∷ l)) (name_length (x ∷ l)) (x ∷ l) (rw a) s (name_symbol (x ∷ l) (name_some x l a)))
    (λ a. cases (eqb x 39)
    (λ b. let e : x ≡ 39 = eqb-true x 39 b in let s = constant_symbol l in
    same_symbol (symbol_kind (x ∷ l)) (constant_kind l) (symbol_length (x ∷ l)) (constant_length (39 ∷ l)) (x ∷ l) (rw (a, b)) (rw e s) (rw e (constant_found l (λ z. n (rw e (s ∙ z))))))
    (λ b. cases (digit x)
    (λ c. let m = digit_some x l c in same_symbol (symbol_kind (x ∷ l)) 4 (symbol_length (x ∷ l)) (numeral_length (x ∷ l)) (x ∷ l) (rw (a, b, c)) (numeral_only x l a m) (numeral _ (numeral_found (x ∷ l) m)))
    (λ c. cases (eqb x 35)
    (λ d. let e : x ≡ 35 = eqb-true x 35 d in let s : symbol_length (x ∷ l) ≡ numeral_length (x ∷ l) = rw e (sign_only l) in
    same_symbol (symbol_kind (x ∷ l)) 4 (symbol_length (x ∷ l)) (numeral_length (x ∷ l)) (x ∷ l) (rw (a, b, c, d)) s (numeral _ (numeral_found (x ∷ l) (λ z. n (s ∙ z)))))
    (λ d. let s = special_only x l a c d b in
    same_symbol (symbol_kind (x ∷ l)) 1 (symbol_length (x ∷ l)) (special_length (x ∷ l)) (x ∷ l) (rw (a, b, c, d)) s (special _ (longest_found special_symbols (x ∷ l) (λ z. n (s ∙ z))))))))
