-- A symbol's line is one more than the new lines before it: no symbol holds one. Assumes nothing.
use Prim.Native.Nat.{ℕ, suc, ◌+◌}
use mathlib.Core.Path.{◌≡◌, refl, sym, ◌∙◌, subst}
use mathlib.Core.Bool.{Bool, true, false}
use mathlib.Core.List.{List, [], ◌∷◌, ◌++◌, append_assoc}
use native.Mathlib.Omega.{arith}
use lib.ListN.{length, length-append}
use lib.Dec.{eqb}
use borrow.Author.Tests.{eqb-true, ne_eqb}
use Rattle.basics.specs.Choice.{both, either, between}
use Rattle.basics.specs.Cases.{cases}
use Rattle.basics.proofs.Bools.{both_l, both_r, no_true}
use Rattle.symbols.specs.Characters.{letter, digit, octal_digit, in_name, plain_graphic, graphic}
use Rattle.symbols.specs.Runs.{new_lines}
use Rattle.symbols.specs.Vocabulary.{special_symbols}
use Rattle.symbols.specs.Symbols.{Symbol, found, symbols_of}
use Rattle.symbols.specs.Grammar.{all, Name, name, Numeral, decimal, octal, Character, plain, coded, Characters, none, more, IsSymbol, special, word, plain_name, numeral, character, string, Splits, done, comment, symbol, Lined}
use Rattle.symbols.proofs.Among.{each, among_each}
use Rattle.symbols.proofs.Splitting.{lines_front, list_is}

count : List ℕ → ℕ
count s = new_lines (length s) s

count_join : (s t : List ℕ) → count (s ++ t) ≡ count s + count t
unfolding count new_lines
count_join [] t = omega arith
count_join (x ∷ s) t = let i = count_join s t in cases (eqb x 10) (λ e. rw e (omega arith)) (λ e. rw e (omega arith))

count-cons : (x : ℕ) (s : List ℕ) → (x ≡ 10 → ⊥) → count (x ∷ s) ≡ count s
unfolding count new_lines
count-cons x s n = rw (ne_eqb x 10 n)

count_none : count [] ≡ 0
unfolding count new_lines
count_none = refl

-- bytes of a class that has no new line
count_all : (f : ℕ → Bool) → f 10 ≡ false → (s : List ℕ) → all f s ≡ true → count s ≡ 0
unfolding all
count_all f n [] e = count_none
count_all f n (x ∷ s) e =
    count-cons x s (λ z. let q : f 10 ≡ true = rw z at (both_l (f x) (all f s) e) in no_true (sym n ∙ q))
    ∙ count_all f n s (both_r (f x) (all f s) e)

letter_line : letter 10 ≡ false
unfolding letter between both either
letter_line = refl

name_line : in_name 10 ≡ false
unfolding in_name letter digit between both either
name_line = refl

digit_line : digit 10 ≡ false
unfolding digit between both
digit_line = refl

octal_line : octal_digit 10 ≡ false
unfolding octal_digit between both
octal_line = refl

standing_line : plain_graphic 10 ≡ false
unfolding plain_graphic graphic between both
standing_line = refl

not_line : (f : ℕ → Bool) (x : ℕ) → f 10 ≡ false → f x ≡ true → x ≡ 10 → ⊥
not_line f x n e z = no_true (sym n ∙ rw z at e)

name_count : (s : List ℕ) → Name s → count s ≡ 0
name_count s (name x r e q) = count-cons x r (not_line letter x letter_line e) ∙ count_all in_name name_line r q

numeral_count : (s : List ℕ) → Numeral s → count s ≡ 0
numeral_count s (decimal x r e) = count_all digit digit_line (x ∷ r) e
numeral_count s (octal x r e) = count-cons 35 (x ∷ r) (λ z. omega arith) ∙ count_all octal_digit octal_line (x ∷ r) e

character_count : (s t : List ℕ) → Character s t → count s ≡ 0
character_count s t (plain x w e) = count-cons x [] (not_line plain_graphic x standing_line e) ∙ count_none
character_count s t (coded r w n q) = count-cons 64 r (λ z. omega arith) ∙ numeral_count r n

characters_count : (n : ℕ) (s : List ℕ) → Characters n s → count s ≡ 0
characters_count n s none = count_none
characters_count n s (more m r t c cs) = let a = character_count r t c in let b = characters_count m t cs in let d = count_join r t in omega arith

quoted_count : (n : ℕ) (s : List ℕ) → Characters n s → count (39 ∷ (s ++ 39 ∷ [])) ≡ 0
quoted_count n s c =
    let a = characters_count n s c in
    let b = count_join s (39 ∷ []) in
    let d = count-cons 39 [] (λ z. omega arith) in
    let e = count_none in
    count-cons 39 (s ++ 39 ∷ []) (λ z. omega arith) ∙ omega arith

special_lines : each (λ s. eqb (count s) 0) special_symbols ≡ true
unfolding special_symbols each count new_lines both
special_lines = refl

symbol_count : (k : ℕ) (s : List ℕ) → IsSymbol k s → count s ≡ 0
symbol_count k s (special r e) = eqb-true (count s) 0 (among_each (λ s. eqb (count s) 0) special_symbols s special_lines e)
symbol_count k s (word r n e) = name_count s n
symbol_count k s (plain_name r n e) = name_count s n
symbol_count k s (numeral r n) = numeral_count s n
symbol_count k s (character r c) = quoted_count 1 r c
symbol_count k s (string n r c) = quoted_count (suc (suc n)) r c

lines_here : (before : List ℕ) (line place : ℕ) (text : List ℕ) → place ≡ length before → line ≡ 1 + count before → line ≡ 1 + new_lines place (before ++ text)
unfolding count
lines_here before line place text p q = let e = lines_front before text in rw p (omega arith)

lined : (before : List ℕ) (line place : ℕ) (text : List ℕ) (l : List Symbol) → place ≡ length before → line ≡ 1 + count before → Splits line place text l → Lined (before ++ text) l
unfolding Lined count
lined before line place text l p q (done a b) = tt
lined before line place text l p q (comment a b s rest m c r) =
    let j : line + new_lines (length s) s ≡ 1 + count (before ++ s) = let d = count_join before s in omega arith in
    let w : place + length s ≡ length (before ++ s) = omega (arith, length-append before s) in
    subst (λ (u : List ℕ). Lined u l) (append_assoc before s rest) (lined (before ++ s) (line + new_lines (length s) s) (place + length s) rest l w j r)
lined before line place text l p q (symbol a b k s rest m g r) =
    let z = symbol_count k s g.is in
    let j : line ≡ 1 + count (before ++ s) = let d = count_join before s in omega arith in
    let w : place + length s ≡ length (before ++ s) = omega (arith, length-append before s) in (
      lines_here before line place (s ++ rest) p q,
      subst (λ (u : List ℕ). Lined u m) (append_assoc before s rest) (lined (before ++ s) line (place + length s) rest m w j r),
    )

-- THE THEOREM
pub lines_counted : (text : List ℕ) (l : List Symbol) → symbols_of text ≡ found l → Lined text l
lines_counted text l e = let c = count_none in lined [] 1 0 text l refl (omega arith) (list_is text l e)
