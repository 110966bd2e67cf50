-- A text has one list of symbols: the one that is found. Assumes nothing.
use Prim.Native.Nat.{ℕ, zero, suc, ◌+◌, ◌<◌, ◌≤◌}
use mathlib.Core.Path.{◌≡◌, refl, sym, ap, ◌∙◌, subst}
use mathlib.Core.Bool.{Bool, true, false}
use mathlib.Core.List.{List, [], ◌∷◌, ◌++◌, append_assoc}
use native.Mathlib.Omega.{arith}
use lib.ListN.{length, get_or, take, drop, length-append, length-drop, take-append-drop}
use lib.Seq.{drop_at, take_at, get_or_at, length-take-le, take-suc}
use lib.Dec.{eqb, leb}
use borrow.Author.Tests.{eq-eqb, ne_eqb, eqb-true, eqb-false, leb-true, leb-false}
use Rattle.basics.specs.Choice.{pick, both, either, between}
use Rattle.basics.specs.Cases.{cases}
use Rattle.basics.proofs.Bools.{both_l, between_true, no_true}
use Rattle.symbols.specs.Characters.{letter, digit, in_name, in_comment}
use Rattle.symbols.specs.Runs.{span_length, new_lines}
use Rattle.symbols.specs.Constants.{character_length, characters_length}
use Rattle.symbols.specs.Vocabulary.{name_length, special_symbols, is_word}
use Rattle.symbols.specs.Symbols.{symbol_length, name_kind, constant_kind, symbol_kind, comment_length, Symbol, Reading, fault, found, more as moreOf, symbols_from, symbols_of}
use Rattle.symbols.specs.Grammar.{all, Name, name, Numeral, decimal, octal, Characters, none, more, IsSymbol, special, word, plain_name, numeral, character, string, Longest, Comment, space, new_line, quoted, Splits, done, comment, symbol, Rising}
use Rattle.symbols.proofs.Among.{each, among_each}
use Rattle.symbols.proofs.Lengths.{get_d_past}
use Rattle.symbols.proofs.Scanning.{symbol-length, comment-length, comment_next, symbol_next, symbol_of}
use Rattle.symbols.proofs.Telling.{symbol_name}
use Rattle.symbols.proofs.Longest.{run_on, all_front, digit_letter, character_is, characters_is, characters_some, none_empty, no_longer, is_symbol}

-- ---- comments

quote_out : in_comment 34 ≡ false
unfolding in_comment
quote_out = refl

comment_is : (s rest : List ℕ) → Comment s → comment_length (s ++ rest) ≡ length s
unfolding comment_length span_length
comment_is s rest space = refl
comment_is s rest new_line = refl
comment_is s rest (quoted t e) =
    let a : (t ++ 34 ∷ []) ++ rest ≡ t ++ 34 ∷ rest = append_assoc t (34 ∷ []) rest in
    let r : span_length in_comment (t ++ 34 ∷ rest) ≡ length t = run_on in_comment t (34 ∷ rest) e ∙ rw quote_out (omega arith) in
    let g : get_or (t ++ 34 ∷ rest) (length t) 0 ≡ 34 = get_or_at t 34 rest 0 (length t) refl in
    rw (a, r, g) (omega (arith, length-append t (34 ∷ [])))

comment_some : (s : List ℕ) → Comment s → length s ≡ 0 → ⊥
comment_some s space z = omega arith
comment_some s new_line z = omega arith
comment_some s (quoted t e) z = omega arith

closed : (x : ℕ) (l : List ℕ) → x ≡ 34 → get_or l (span_length in_comment l) 0 ≡ 34 → Comment (take (span_length in_comment l + 2) (x ∷ l))
closed x l e q =
    let k : span_length in_comment l + 2 ≡ suc (suc (span_length in_comment l)) = omega arith in
    let h : span_length in_comment l < length l = cases (leb (length l) (span_length in_comment l)) (λ z. let o = get_d_past l (span_length in_comment l) (leb-true (length l) (span_length in_comment l) z) in absurd (omega arith)) (λ z. let o = leb-false (length l) (span_length in_comment l) z in omega arith) in
    rw (k, take-suc l (span_length in_comment l) 0 h, e, q) (quoted (take (span_length in_comment l) l) (all_front in_comment l))

comment_found : (l : List ℕ) → (comment_length l ≡ 0 → ⊥) → Comment (take (comment_length l) l)
unfolding comment_length
comment_found [] n = absurd (n refl)
comment_found (x ∷ l) n =
    cases (eqb x 32) (λ a. rw (a, eqb-true x 32 a) space) (λ a.
    cases (eqb x 10) (λ b. rw (a, b, eqb-true x 10 b) new_line) (λ b.
    cases (eqb x 34)
    (λ c. cases (eqb (get_or l (span_length in_comment l) 0) 34)
    (λ d. rw (a, b, c, d) (closed x l (eqb-true x 34 c) (eqb-true (get_or l (span_length in_comment l) 0) 34 d)))
    (λ d. absurd (n (rw (a, b, c, d)))))
    (λ c. absurd (n (rw (a, b, c))))))

-- ---- new lines of what is passed

pub lines_front : (s rest : List ℕ) → new_lines (length s) (s ++ rest) ≡ new_lines (length s) s
unfolding new_lines
lines_front [] rest = refl
lines_front (x ∷ s) rest = rw (lines_front s rest)

-- ---- a symbol begins as no comment does, and its length decides its kind

-- a byte with which no comment begins
solid : ℕ → Bool
solid x = pick (eqb x 32) false (pick (eqb x 10) false (pick (eqb x 34) false true))

solid_comment : (x : ℕ) (l : List ℕ) → solid x ≡ true → comment_length (x ∷ l) ≡ 0
unfolding solid comment_length
solid_comment x l e =
    cases (eqb x 32) (λ q. no_true (rw q at e)) (λ a.
    cases (eqb x 10) (λ q. no_true (rw (a, q) at e)) (λ b.
    cases (eqb x 34) (λ q. no_true (rw (a, b, q) at e)) (λ c. rw (a, b, c))))

solid_is : (x : ℕ) → (x ≡ 32 → ⊥) → (x ≡ 10 → ⊥) → (x ≡ 34 → ⊥) → solid x ≡ true
unfolding solid
solid_is x a b c = rw (ne_eqb x 32 a, ne_eqb x 10 b, ne_eqb x 34 c)

letter_code : (x : ℕ) → letter x ≡ true → 65 ≤ x
unfolding letter either
letter_code x e =
    cases (between 97 122 x)
    (λ q. let b = between_true 97 122 x q in omega arith)
    (λ q. let b = between_true 65 90 x (rw q at e) in omega arith)

digit_code : (x : ℕ) → digit x ≡ true → (48 ≤ x) × (x ≤ 57)
unfolding digit
digit_code x e = between_true 48 57 x e

-- none of what other symbols and comments begin with
apart_sign : ℕ → Bool
apart_sign x = pick (letter x) false (pick (eqb x 39) false (pick (digit x) false (pick (eqb x 35) false (solid x))))

sign_first : List ℕ → Bool
sign_first [] = false
sign_first (x ∷ s) = apart_sign x

signs_are : each sign_first special_symbols ≡ true
unfolding special_symbols each sign_first apart_sign solid letter digit between both either
signs_are = refl

-- what a sign says of what begins with it
sign_kind : (x : ℕ) (l : List ℕ) → apart_sign x ≡ true → (symbol_kind (x ∷ l) ≡ 1) × (solid x ≡ true)
unfolding apart_sign symbol_kind
sign_kind x l e =
    cases (letter x) (λ q. no_true (rw q at e)) (λ a.
    cases (eqb x 39) (λ q. no_true (rw (a, q) at e)) (λ b.
    cases (digit x) (λ q. no_true (rw (a, b, q) at e)) (λ c.
    cases (eqb x 35) (λ q. no_true (rw (a, b, c, q) at e)) (λ d. (rw (a, b, c, d), rw (a, b, c, d) at e)))))

-- of a symbol and the rest of the text
pub record Begun (k : ℕ) (s rest : List ℕ) : Type 0 where
  pub some : length s ≡ 0 → ⊥
  pub no_comment : comment_length (s ++ rest) ≡ 0
  pub kind_is : symbol_length (s ++ rest) ≡ length s → symbol_kind (s ++ rest) ≡ k

special_begun : (s rest : List ℕ) → sign_first s ≡ true → Begun 1 s rest
unfolding sign_first
special_begun [] rest e = no_true e
special_begun (x ∷ s) rest e =
    let p = sign_kind x (s ++ rest) e in
    record { some = λ z. omega arith; no_comment = solid_comment x (s ++ rest) p.1; kind_is = λ _. p.0 }

name-kind : (x : ℕ) (l : List ℕ) → letter x ≡ true → symbol_kind (x ∷ l) ≡ name_kind (x ∷ l)
unfolding symbol_kind
name-kind x l e = rw e

name_size : (x : ℕ) (l : List ℕ) → letter x ≡ true → symbol_length (x ∷ l) ≡ name_length (x ∷ l)
unfolding name_length
name_size x l e = symbol_name (x ∷ l) (λ z. let q : suc (span_length in_name l) ≡ 0 = rw e at z in omega arith)

name_begun : (k : ℕ) (s rest : List ℕ) → Name s → pick (is_word s) 2 3 ≡ k → Begun k s rest
unfolding name_kind
name_begun k s rest (name x r e q) w =
    record {
      some = λ z. omega arith;
      no_comment = let c = letter_code x e in solid_comment x (r ++ rest) (solid_is x (λ z. omega arith) (λ z. omega arith) (λ z. omega arith));
      kind_is = λ h. let n : name_length (x ∷ (r ++ rest)) ≡ length (x ∷ r) = sym (name_size x (r ++ rest) e) ∙ h in
          let t : take (name_length (x ∷ (r ++ rest))) (x ∷ (r ++ rest)) ≡ x ∷ r = ap (λ (m : ℕ). take m (x ∷ (r ++ rest))) n ∙ take_at (x ∷ r) rest (length (x ∷ r)) refl in
          name-kind x (r ++ rest) e ∙ rw t w;
    }

digit_kind : (x : ℕ) (l : List ℕ) → digit x ≡ true → symbol_kind (x ∷ l) ≡ 4
unfolding symbol_kind
digit_kind x l e = let c = digit_code x e in rw (digit_letter x e, ne_eqb x 39 (λ z. omega arith), e)

octal_kind : (l : List ℕ) → symbol_kind (35 ∷ l) ≡ 4
unfolding symbol_kind letter digit between both either
octal_kind l = refl

octal_solid : (l : List ℕ) → comment_length (35 ∷ l) ≡ 0
unfolding comment_length
octal_solid l = refl

quote_solid : (l : List ℕ) → comment_length (39 ∷ l) ≡ 0
unfolding comment_length
quote_solid l = refl

quote_kind : (l : List ℕ) → symbol_kind (39 ∷ l) ≡ constant_kind l
unfolding symbol_kind letter between both either
quote_kind l = refl

numeral_begun : (s rest : List ℕ) → Numeral s → Begun 4 s rest
unfolding all
numeral_begun s rest (decimal x r e) =
    let d = both_l (digit x) (all digit r) e in let c = digit_code x d in
    record { some = λ z. omega arith; no_comment = solid_comment x (r ++ rest) (solid_is x (λ z. omega arith) (λ z. omega arith) (λ z. omega arith)); kind_is = λ _. digit_kind x (r ++ rest) d }
numeral_begun s rest (octal x r e) = record { some = λ z. omega arith; no_comment = octal_solid (x ∷ (r ++ rest)); kind_is = λ _. octal_kind (x ∷ (r ++ rest)) }

one_kind : (n : ℕ) (s u : List ℕ) → Characters n s → n ≡ 1 → constant_kind (s ++ 39 ∷ u) ≡ 5
unfolding constant_kind
one_kind n s u none z = absurd (omega arith)
one_kind n s u (more m r t c cs) z =
    let i = characters_is n (r ++ t) u (more m r t c cs) in
    let k = (character_is r t u c).0 in
    let e = none_empty m t cs (omega arith) in
    let a = append_assoc r t (39 ∷ u) in
    rw (eq-eqb (characters_length 0 ((r ++ t) ++ 39 ∷ u)) (character_length ((r ++ t) ++ 39 ∷ u)) (i ∙ omega (arith, length-append r t, rw (← a) at k)))

more_kind : (n m : ℕ) (s u : List ℕ) → Characters n s → n ≡ suc (suc m) → constant_kind (s ++ 39 ∷ u) ≡ 6
unfolding constant_kind
more_kind n m s u none z = absurd (omega arith)
more_kind n m s u (more j r t c cs) z =
    let i = characters_is n (r ++ t) u (more j r t c cs) in
    let k = (character_is r t u c).0 in
    let q : j ≡ suc m = omega arith in
    let e = characters_some m t (rw q at cs) in
    let a = append_assoc r t (39 ∷ u) in
    rw (ne_eqb (characters_length 0 ((r ++ t) ++ 39 ∷ u)) (character_length ((r ++ t) ++ 39 ∷ u)) (λ o. e (omega (arith, length-append r t, rw (← a) at k))))

constant_begun : (k : ℕ) (s rest : List ℕ) → constant_kind (s ++ 39 ∷ rest) ≡ k → Begun k (39 ∷ (s ++ 39 ∷ [])) rest
constant_begun k s rest e =
    let a : (s ++ 39 ∷ []) ++ rest ≡ s ++ 39 ∷ rest = append_assoc s (39 ∷ []) rest in
    record { some = λ z. omega arith; no_comment = quote_solid ((s ++ 39 ∷ []) ++ rest); kind_is = λ _. quote_kind ((s ++ 39 ∷ []) ++ rest) ∙ ap constant_kind a ∙ e }

begun : (k : ℕ) (s rest : List ℕ) → IsSymbol k s → Begun k s rest
begun k s rest (special r e) = special_begun s rest (among_each sign_first special_symbols s signs_are e)
begun k s rest (word r n e) = name_begun 2 s rest n (rw e)
begun k s rest (plain_name r n e) = name_begun 3 s rest n (rw e)
begun k s rest (numeral r n) = numeral_begun s rest n
begun k s rest (character r c) = constant_begun 5 r rest (one_kind 1 r rest c refl)
begun k s rest (string n r c) = constant_begun 6 r rest (more_kind (suc (suc n)) n r rest c refl)

exact : (k : ℕ) (s rest : List ℕ) → Longest k s rest → symbol_length (s ++ rest) ≡ length s
exact k s rest g =
    let b = begun k s rest g.is in
    let n = no_longer k s rest g.is in
    let i = is_symbol (s ++ rest) (λ z. b.some (omega arith)) in
    let m = g.longest (symbol_kind (s ++ rest)) (take (symbol_length (s ++ rest)) (s ++ rest)) (drop (symbol_length (s ++ rest)) (s ++ rest)) i (sym (take-append-drop (symbol_length (s ++ rest)) (s ++ rest))) in
    let t = length-take-le (symbol_length (s ++ rest)) (s ++ rest) (symbol-length (s ++ rest)) in
    omega arith

-- ---- from a list of symbols to what is found

same_from : (a b c d : ℕ) (t u : List ℕ) → a ≡ b → c ≡ d → t ≡ u → symbols_from a c 0 t ≡ symbols_from b d 0 u
same_from a b c d t u p q r = cc

same_symbol : (line place : ℕ) (l : List ℕ) (k n : ℕ) → symbol_kind l ≡ k → symbol_length l ≡ n → symbol_of line place l ≡ record { kind = k; line = line; place = place; size = n }
unfolding symbol_of
same_symbol line place l k n p q = rw (p, q)

front_lines : (n : ℕ) (l : List ℕ) → length (take n l) ≡ n → new_lines n l ≡ new_lines (length (take n l)) (take n l)
front_lines n l k =
    let e = lines_front (take n l) (drop n l) in
    ap (λ (m : ℕ). new_lines m l) (sym k) ∙ ap (λ (u : List ℕ). new_lines (length (take n l)) u) (sym (take-append-drop n l)) ∙ e

found_more : (a : Symbol) (r : Reading) (l : List Symbol) → r ≡ found l → moreOf a r ≡ found (a ∷ l)
unfolding moreOf
found_more a r l e = rw e

splits_found : (line place : ℕ) (text : List ℕ) (l : List Symbol) → Splits line place text l → symbols_from line place 0 text ≡ found l
unfolding symbols_from
splits_found line place text l (done a b) = refl
splits_found line place text l (comment a b s rest m c r) =
    let i = splits_found (line + new_lines (length s) s) (place + length s) rest l r in
    let k = comment_is s rest c in
    let e = comment_next line place (s ++ rest) (λ z. comment_some s c (sym k ∙ z)) in
    let p : line + new_lines (comment_length (s ++ rest)) (s ++ rest) ≡ line + new_lines (length s) s = ap (λ (n : ℕ). line + new_lines n (s ++ rest)) k ∙ ap (λ (n : ℕ). line + n) (lines_front s rest) in
    let q : drop (comment_length (s ++ rest)) (s ++ rest) ≡ rest = ap (λ (n : ℕ). drop n (s ++ rest)) k ∙ drop_at s rest (length s) refl in
    e ∙ same_from _ _ _ _ _ _ p (ap (λ (n : ℕ). place + n) k) q ∙ i
splits_found line place text l (symbol a b k s rest m g r) =
    let i = splits_found line (place + length s) rest m r in
    let x = exact k s rest g in
    let y = begun k s rest g.is in
    let e = symbol_next line place (s ++ rest) y.no_comment (λ z. y.some (sym x ∙ z)) in
    let q : drop (symbol_length (s ++ rest)) (s ++ rest) ≡ rest = ap (λ (n : ℕ). drop n (s ++ rest)) x ∙ drop_at s rest (length s) refl in
    let t = same_from _ _ _ _ _ _ refl (ap (λ (n : ℕ). place + n) x) q ∙ i in
    e ∙ found_more _ _ m t ∙ ap (λ (u : Symbol). found (u ∷ m)) (same_symbol line place (s ++ rest) k (length s) (y.kind_is x) x)

-- ---- from what is found to a list of symbols

moved : (a b c d : ℕ) (text : List ℕ) (l : List Symbol) → a ≡ b → c ≡ d → Splits a c text l → Splits b d text l
moved a b c d text l p q s = rw (← p, ← q) s

more_found : (a : Symbol) (r : Reading) (l : List Symbol) → moreOf a r ≡ found l → (m : List Symbol) × ((r ≡ found m) × (l ≡ a ∷ m))
unfolding moreOf
more_found a fault l e = absurd (let z : ◌≡◌ {A = ℕ} 0 1 = cc in omega arith)
more_found a (found m) l e = (m, (refl, cc))

longest_of : (l : List ℕ) → (symbol_length l ≡ 0 → ⊥) → Longest (symbol_kind l) (take (symbol_length l) l) (drop (symbol_length l) l)
longest_of l n =
    record {
      is = is_symbol l n;
      longest = λ j u w i q.
          let e : l ≡ u ++ w = sym (take-append-drop (symbol_length l) l) ∙ q in
          let b = no_longer j u w i in
          let t = length-take-le (symbol_length l) l (symbol-length l) in
          let z : symbol_length l ≡ symbol_length (u ++ w) = ap symbol_length e in
          omega arith;
    }

Gives : ℕ → Type 0
Gives f = (line place : ℕ) (text : List ℕ) (l : List Symbol) → length text ≤ f → symbols_from line place 0 text ≡ found l → Splits line place text l

gives_none : Gives 0
unfolding Gives symbols_from
gives_none line place [] l h e = subst (λ (m : List Symbol). Splits line place [] m) (cc) (done line place)
gives_none line place (x ∷ t) l h e = absurd (omega arith)

gives_more : (f : ℕ) → Gives f → Gives (suc f)
unfolding Gives symbols_from
gives_more f before line place [] l h e = subst (λ (m : List Symbol). Splits line place [] m) (cc) (done line place)
gives_more f before line place (x ∷ t) l h e =
    cases (eqb (comment_length (x ∷ t)) 0)
    (λ a. cases (eqb (symbol_length (x ∷ t)) 0)
    (λ b. absurd (let z : fault ≡ found l = rw (a, b) at e in let o : ◌≡◌ {A = ℕ} 0 1 = cc in omega arith))
    (λ b.
    let n : symbol_length (x ∷ t) ≡ 0 → ⊥ = eqb-false (symbol_length (x ∷ t)) 0 b in
    let p = more_found (symbol_of line place (x ∷ t)) _ l (sym (symbol_next line place (x ∷ t) (eqb-true (comment_length (x ∷ t)) 0 a) n) ∙ e) in
    let k = length-take-le (symbol_length (x ∷ t)) (x ∷ t) (symbol-length (x ∷ t)) in
    let i = before line (place + symbol_length (x ∷ t)) (drop (symbol_length (x ∷ t)) (x ∷ t)) p.0 (omega (arith, length-drop (symbol_length (x ∷ t)) (x ∷ t))) p.1.0 in
    let j = moved line line _ _ _ p.0 refl (ap (λ (m : ℕ). place + m) (sym k)) i in
    subst (λ (m : List Symbol). Splits line place (x ∷ t) m) (sym (p.1.1 ∙ ap (λ (u : Symbol). u ∷ p.0) (same_symbol line place (x ∷ t) (symbol_kind (x ∷ t)) (length (take (symbol_length (x ∷ t)) (x ∷ t))) refl (sym k))))
    (subst (λ (u : List ℕ). Splits line place u (record { kind = symbol_kind (x ∷ t); line = line; place = place; size = length (take (symbol_length (x ∷ t)) (x ∷ t)) } ∷ p.0)) (take-append-drop (symbol_length (x ∷ t)) (x ∷ t))
    (symbol line place (symbol_kind (x ∷ t)) (take (symbol_length (x ∷ t)) (x ∷ t)) (drop (symbol_length (x ∷ t)) (x ∷ t)) p.0 (longest_of (x ∷ t) n) j))))
    (λ a.
    let n : comment_length (x ∷ t) ≡ 0 → ⊥ = eqb-false (comment_length (x ∷ t)) 0 a in
    let k = length-take-le (comment_length (x ∷ t)) (x ∷ t) (comment-length (x ∷ t)) in
    let i = before (line + new_lines (comment_length (x ∷ t)) (x ∷ t)) (place + comment_length (x ∷ t)) (drop (comment_length (x ∷ t)) (x ∷ t)) l (omega (arith, length-drop (comment_length (x ∷ t)) (x ∷ t))) (sym (comment_next line place (x ∷ t) n) ∙ e) in
    let w = front_lines (comment_length (x ∷ t)) (x ∷ t) k in
    let j = moved _ _ _ _ _ l (ap (λ (m : ℕ). line + m) w) (ap (λ (m : ℕ). place + m) (sym k)) i in
    subst (λ (u : List ℕ). Splits line place u l) (take-append-drop (comment_length (x ∷ t)) (x ∷ t))
    (comment line place (take (comment_length (x ∷ t)) (x ∷ t)) (drop (comment_length (x ∷ t)) (x ∷ t)) l (comment_found (x ∷ t) n) j))

gives : (f : ℕ) → Gives f
gives zero = gives_none
gives (suc f) = gives_more f (gives f)

-- ---- THE THEOREMS, of a whole text

-- what is found is a list of symbols of the text
pub list_is : (text : List ℕ) (l : List Symbol) → symbols_of text ≡ found l → Splits 1 0 text l
unfolding symbols_of Gives
list_is text l e = gives (length text) 1 0 text l (omega arith) e

-- and every list of symbols of the text is found
pub list_found : (text : List ℕ) (l : List Symbol) → Splits 1 0 text l → symbols_of text ≡ found l
unfolding symbols_of
list_found text l s = splits_found 1 0 text l s

-- so there is one at most
pub list_unique : (text : List ℕ) (l m : List Symbol) → Splits 1 0 text l → Splits 1 0 text m → l ≡ m
list_unique text l m s t = let a = list_found text l s in let b = list_found text m t in cc

-- and none where there is a fault
pub no_list : (text : List ℕ) (l : List Symbol) → symbols_of text ≡ fault → Splits 1 0 text l → ⊥
no_list text l e s = let a = list_found text l s in let o : ◌≡◌ {A = ℕ} 0 1 = cc in omega arith

lower : (a b e : ℕ) (l : List Symbol) → a ≤ b → Rising b e l → Rising a e l
unfolding Rising
lower a b e [] h r = omega arith
lower a b e (s ∷ l) h r = (let p = r.0 in omega arith, r.1)

rises : (line place : ℕ) (text : List ℕ) (l : List Symbol) → Splits line place text l → Rising place (place + length text) l
unfolding Rising
rises line place text l (done a b) = omega arith
rises line place text l (comment a b s rest m c r) =
    let e : place + length s + length rest ≡ place + length (s ++ rest) = omega (arith, length-append s rest) in
    lower place (place + length s) (place + length (s ++ rest)) l (omega arith) (rw e at (rises _ (place + length s) rest l r))
rises line place text l (symbol a b k s rest m g r) =
    let e : place + length s + length rest ≡ place + length (s ++ rest) = omega (arith, length-append s rest) in
    let o = (begun k s rest g.is).some in
    (omega arith, (omega arith, rw e at (rises line (place + length s) rest m r)))

-- places rise, symbols do not overlap, and their bytes lie in the text
pub places_rise : (text : List ℕ) (l : List Symbol) → symbols_of text ≡ found l → Rising 0 (length text) l
places_rise text l e = let z : 0 + length text ≡ length text = omega arith in rw z at (rises 1 0 text l (list_is text l e))
