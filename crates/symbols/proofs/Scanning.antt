-- From a place in the text to the next: comments and symbols passed. Assumes nothing.
use Prim.Native.Nat.{ℕ, zero, suc, ◌+◌, ◌-◌, ◌<◌, ◌≤◌}
use mathlib.Core.Path.{◌≡◌, refl, sym, ◌∙◌}
use mathlib.Core.Bool.{true}
use mathlib.Core.List.{List, [], ◌∷◌}
use native.Mathlib.Nat.{add-zero}
use native.Mathlib.Omega.{arith}
use lib.ListN.{length, get_or, drop, length-drop}
use lib.Seq.{drop-cons, drop-drop}
use lib.Dec.{eqb, ltb}
use borrow.Author.Tests.{eq-eqb, ne_eqb, eqb-true, ltb-true, ltb-false}
use Rattle.basics.specs.Cases.{cases}
use Rattle.symbols.specs.Characters.{in_comment}
use Rattle.symbols.specs.Runs.{span_length, new_lines}
use Rattle.symbols.specs.Symbols.{or_else, symbol_length, symbol_kind, comment_length, Symbol, fault, more, symbols_from}
use Rattle.symbols.specs.declared.cursor.Extent.{Extent}
use Rattle.symbols.specs.Steps.{if_any, CommentIs, Stands, PassesTo}
use Rattle.std.specs.Prelude.{Option, None, Some, IfSome}
use Rattle.symbols.proofs.Fronts.{any_some, any_more}
use Rattle.symbols.proofs.Strings.{tail, tail_is}
use Rattle.symbols.proofs.Lengths.{get_d_past, numeral-length, constant-length}
use Rattle.symbols.proofs.Keys.{name-length}
use Rattle.symbols.proofs.Specials.{special-length}

-- ---- lengths stay within the text

quote_within : (l : List ℕ) → eqb (get_or l (span_length in_comment l) 0) 34 ≡ true → span_length in_comment l < length l
quote_within l e =
    cases (ltb (span_length in_comment l) (length l))
    (λ h. ltb-true _ _ h)
    (λ h. let a = get_d_past l (span_length in_comment l) (ltb-false _ _ h) in let b = eqb-true (get_or l (span_length in_comment l) 0) 34 e in absurd (omega arith))

pub comment-length : (l : List ℕ) → comment_length l ≤ length l
unfolding comment_length
comment-length [] = omega arith
comment-length (x ∷ l) =
    cases (eqb x 32) (λ e. rw e (omega arith)) (λ a.
    cases (eqb x 10) (λ e. rw (a, e) (omega arith)) (λ b.
    cases (eqb x 34)
    (λ e. cases (eqb (get_or l (span_length in_comment l) 0) 34)
    (λ q. rw (a, b, e, q) (let z = quote_within l q in omega arith))
    (λ q. rw (a, b, e, q) (omega arith)))
    (λ e. rw (a, b, e) (omega arith))))

pub lines_few : (k : ℕ) (l : List ℕ) → new_lines k l ≤ k
unfolding new_lines
lines_few zero l = omega arith
lines_few (suc k) [] = omega arith
lines_few (suc k) (x ∷ l) = let i = lines_few k l in cases (eqb x 10) (λ e. rw e (omega arith)) (λ e. rw e (omega arith))

or_length : (a b n : ℕ) → a ≤ n → b ≤ n → or_else a b ≤ n
unfolding or_else
or_length a b n p q = cases (eqb a 0) (λ e. rw e q) (λ e. rw e p)

pub symbol-length : (l : List ℕ) → symbol_length l ≤ length l
unfolding symbol_length
symbol-length l =
    or_length _ _ _ (name-length l) (or_length _ _ _ (numeral-length l) (or_length _ _ _ (constant-length l) (special-length l)))

pub symbol_within : (l : List ℕ) (r : Option ℕ) → r ≡ if_any (symbol_length l) → IfSome r (λ n. (0 < n) × (n ≤ length l))
symbol_within l None e = tt
symbol_within l (Some n) e = let b = any_some (symbol_length l) n (sym e) in let p = any_more (symbol_length l) n (sym e) in let h = symbol-length l in (p, omega arith)

pub comment_nil : comment_length [] ≡ 0
unfolding comment_length
comment_nil = refl

pub symbol_nil : symbol_length [] ≡ 0
symbol_nil = let b = symbol-length [] in omega arith

-- ---- what has begun is passed

skip : (line place k : ℕ) (l : List ℕ) → symbols_from line place k l ≡ symbols_from line (place + k) 0 (drop k l)
unfolding symbols_from
skip line place zero l = rw (add-zero place)
skip line place (suc k) [] = refl
skip line place (suc k) (x ∷ l) = let e : place + 1 + k ≡ place + suc k = omega arith in rw (skip line (place + 1) k l, e)

-- the rest after the first k bytes, where the first byte is passed already
rest : (line place k x : ℕ) (l : List ℕ) → (k ≡ 0 → ⊥) → symbols_from line (place + 1) (k - 1) l ≡ symbols_from line (place + k) 0 (drop k (x ∷ l))
rest line place zero x l n = absurd (n refl)
rest line place (suc k) x l n =
    let e : place + 1 + k ≡ place + suc k = omega arith in
    let d : suc k - 1 ≡ k = omega arith in
    rw d (skip line (place + 1) k l ∙ rw e)

pub comment_next : (line place : ℕ) (l : List ℕ) → (comment_length l ≡ 0 → ⊥) → symbols_from line place 0 l ≡ symbols_from (line + new_lines (comment_length l) l) (place + comment_length l) 0 (drop (comment_length l) l)
unfolding symbols_from
comment_next line place [] n = absurd (n comment_nil)
comment_next line place (x ∷ l) n = rw (ne_eqb (comment_length (x ∷ l)) 0 n) (rest (line + new_lines (comment_length (x ∷ l)) (x ∷ l)) place (comment_length (x ∷ l)) x l n)

unfoldable pub symbol_of : (line place : ℕ) (l : List ℕ) → Symbol
symbol_of line place l = record { kind = symbol_kind l; line = line; place = place; size = symbol_length l }

pub symbol_next : (line place : ℕ) (l : List ℕ) → comment_length l ≡ 0 → (symbol_length l ≡ 0 → ⊥) → symbols_from line place 0 l ≡ more (symbol_of line place l) (symbols_from line (place + symbol_length l) 0 (drop (symbol_length l) l))
unfolding symbols_from symbol_of
symbol_next line place [] c n = absurd (n symbol_nil)
symbol_next line place (x ∷ l) c n =
    rw (eq-eqb (comment_length (x ∷ l)) 0 c, ne_eqb (symbol_length (x ∷ l)) 0 n, rest line place (symbol_length (x ∷ l)) x l n)

pub no_symbol : (line place : ℕ) (text : List ℕ) → place < length text → comment_length (drop place text) ≡ 0 → symbol_length (drop place text) ≡ 0 → symbols_from line place 0 (drop place text) ≡ fault
unfolding symbols_from
no_symbol line place text h c e = rw (drop-cons text place 0 h) (rw (eq-eqb (comment_length (get_or text place 0 ∷ drop (suc place) text)) 0 (rw (drop-cons text place 0 h) at c), eq-eqb (symbol_length (get_or text place 0 ∷ drop (suc place) text)) 0 (rw (drop-cons text place 0 h) at e)))

-- ---- the cursor

pub record Passing (text : List ℕ) (place line at n : ℕ) : Type 0 where
  pub stands : Stands text at n
  pub rises : place ≤ at
  pub keeps : symbols_from n at 0 (drop at text) ≡ symbols_from line place 0 (drop place text)

module _ (text : List ℕ) (place line : ℕ) where
  pub passing_none : Stands text place line → Passing text place line place line
  passing_none s = record { stands = s; rises = omega arith; keeps = refl }

  module _ (at n : ℕ) (g : Passing text place line at n) where
    module _ (c : Extent) (b : CommentIs (tail text at) (Some c)) where
      pub passing_more : Passing text place line (at + c.size) (n + c.lines)
      passing_more =
          let g' : CommentIs (drop at text) (Some c) = rw (tail_is text at) at b in
          let z : comment_length (drop at text) ≡ c.size = sym g'.is in
          let i = comment_next n at (drop at text) (λ o. omega (arith, g'.some)) in
          let d : drop c.size (drop at text) ≡ drop (at + c.size) text = drop-drop c.size at text in
          record {
            stands = record { within = omega (arith, g.stands.within, g'.within, length-drop at text); counted = omega (arith, g.stands.counted, g'.few) };
            rises = omega (arith, g.rises);
            keeps = sym (rw (d, ← g'.lines) at (rw z at i)) ∙ g.keeps;
          }

    pub passing_stop : CommentIs (tail text at) None → PassesTo text place line at n
    passing_stop e = record { stands = g.stands; rises = g.rises; keeps = g.keeps; ends = rw (tail_is text at) at e }

pub ruleset passings = (passing_none, passing_more, passing_stop)
