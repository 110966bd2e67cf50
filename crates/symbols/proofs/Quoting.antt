-- A comment between quotes, read byte by byte. Assumes nothing.
use Prim.Native.Nat.{ℕ, zero, suc, ◌+◌, ◌<◌, ◌≤◌}
use mathlib.Core.Path.{◌≡◌, refl, sym, ◌∙◌}
use mathlib.Core.Bool.{true, false}
use mathlib.Core.List.{List, [], ◌∷◌}
use native.Mathlib.Numerals.{add-one}
use native.Mathlib.Nat.{not-suc-le-zero}
use native.Mathlib.Omega.{arith}
use lib.ListN.{length, get_or, drop}
use lib.Seq.{drop-cons}
use borrow.Author.Tests.{eq-eqb, ne_eqb}
use Rattle.std.specs.Prelude.{Option, None, Some}
use Rattle.symbols.specs.Characters.{in_comment}
use Rattle.symbols.specs.Runs.{span_length, new_lines}
use Rattle.symbols.specs.Symbols.{comment_length}
use Rattle.symbols.specs.declared.cursor.Extent.{Extent}
use Rattle.symbols.specs.Steps.{CommentIs}
use Rattle.symbols.proofs.Ends.{drop_end}
use Rattle.symbols.proofs.Fronts.{rest, rest_is, any_some, any_none, comment_one, comment_line, comment_closed, comment_open, comment_past, comment_short, comment_other}
use Rattle.symbols.proofs.Strings.{tail}
use Rattle.symbols.proofs.Scanning.{comment-length, Passing, passing_more}

-- how many bytes are still to come, and how many new lines among them
abbrev coming : List ℕ → ℕ → ℕ
coming text at = span_length in_comment (drop at text)

abbrev lines_coming : List ℕ → ℕ → ℕ
lines_coming text at = new_lines (coming text at) (drop at text)

module _ (text : List ℕ) (at : ℕ) where
  module _ (h : at < length text) where
    coming_more : in_comment (get_or text at 0) ≡ true → coming text at ≡ suc (coming text (at + 1))
    unfolding span_length
    coming_more e = rw (add-one at, drop-cons text at 0 h, e)

    coming_stop : in_comment (get_or text at 0) ≡ false → coming text at ≡ 0
    unfolding span_length
    coming_stop e = rw (drop-cons text at 0 h, e)

    lines_more : in_comment (get_or text at 0) ≡ true → (get_or text at 0 ≡ 10 → ⊥) → lines_coming text at ≡ lines_coming text (at + 1)
    unfolding new_lines
    lines_more e q = rw (coming_more e) (rw (drop-cons text at 0 h, add-one at, ne_eqb (get_or text at 0) 10 q))

    lines_line : in_comment (get_or text at 0) ≡ true → get_or text at 0 ≡ 10 → lines_coming text at ≡ suc (lines_coming text (at + 1))
    unfolding new_lines
    lines_line e q = rw (coming_more e) (rw (drop-cons text at 0 h, add-one at, eq-eqb (get_or text at 0) 10 q))

  coming_end : length text ≤ at → coming text at ≡ 0
  unfolding span_length
  coming_end h = rw (drop_end text at h)

line_in : in_comment 10 ≡ true
unfolding in_comment
line_in = refl

quote_out : in_comment 34 ≡ false
unfolding in_comment
quote_out = refl

-- one byte more, which is no new line
lines_next : (k : ℕ) (l : List ℕ) → (get_or l k 0 ≡ 10 → ⊥) → new_lines (suc k) l ≡ new_lines k l
unfolding new_lines
lines_next zero [] n = refl
lines_next zero (x ∷ l) n = rw (ne_eqb x 10 n)
lines_next (suc k) [] n = refl
lines_next (suc k) (x ∷ l) n = rw (lines_next k l n)

quoted_lines : (k : ℕ) (l : List ℕ) → new_lines (suc k) (34 ∷ l) ≡ new_lines k l
unfolding new_lines
quoted_lines k l = refl

-- ---- the loop

pub record Quoting (text : List ℕ) (at n : ℕ) : Type 0 where
  pub upto : at ≤ length text
  pub is : at + coming text at ≡ coming text 0
  pub lines : n + lines_coming text at ≡ lines_coming text 0
  pub few : n ≤ at

module _ (text : List ℕ) where
  pub quoting_none : Quoting text 0 0
  quoting_none = record { upto = omega arith; is = omega arith; lines = omega arith; few = omega arith }

  module _ (at n : ℕ) (g : Quoting text at n) where
    pub quoting_few : n ≤ at
    quoting_few = g.few

    pub quoting_line : at < length text → get_or text at 0 ≡ 10 → Quoting text (at + 1) (n + 1)
    quoting_line h q =
        let e : in_comment (get_or text at 0) ≡ true = rw q line_in in
        record {
          upto = omega arith;
          is = omega (arith, g.is, coming_more text at h e);
          lines = omega (arith, g.lines, lines_line text at h e q);
          few = omega (arith, g.few);
        }

    pub quoting_more : at < length text → true ≡ in_comment (get_or text at 0) → (get_or text at 0 ≡ 10 → ⊥) → Quoting text (at + 1) n
    quoting_more h e q =
        record {
          upto = omega arith;
          is = omega (arith, g.is, coming_more text at h (sym e));
          lines = omega (arith, g.lines, lines_more text at h (sym e) q);
          few = omega (arith, g.few);
        }

    module _ (o : coming text at ≡ 0) where
      at_span : span_length in_comment text ≡ at
      at_span = omega (arith, g.is)

      none : (get_or text at 0 ≡ 34 → ⊥) → comment_length (34 ∷ text) ≡ 0
      none q =
          let r = rest_is 34 text in
          let n : at ≡ span_length in_comment (rest (34 ∷ text)) = rw r (sym at_span) in
          let p : get_or (rest (34 ∷ text)) at 0 ≡ 34 → ⊥ = rw r q in
          any_none (comment_length (34 ∷ text)) (sym (comment_open at (34 ∷ text) (omega arith) refl n p))

      some : get_or text at 0 ≡ 34 → at + 2 ≡ comment_length (34 ∷ text)
      some q =
          let r = rest_is 34 text in
          let n : at ≡ span_length in_comment (rest (34 ∷ text)) = rw r (sym at_span) in
          let p : get_or (rest (34 ∷ text)) at 0 ≡ 34 = rw r q in
          sym (any_some (comment_length (34 ∷ text)) (at + 2) (sym (comment_closed at (34 ∷ text) (omega arith) refl n p)))

      lines_at : get_or text at 0 ≡ 34 → n ≡ new_lines (at + 2) (34 ∷ text)
      unfolding new_lines
      lines_at q =
          let k : at + 2 ≡ suc (suc at) = omega arith in
          let m : lines_coming text at ≡ 0 = rw o in
          let i : new_lines (coming text 0) text ≡ n = omega (arith, g.lines, m) in
          let j : new_lines at text ≡ n = rw at_span at i in
          let p : get_or text at 0 ≡ 10 → ⊥ = λ z. omega arith in
          rw k (sym (quoted_lines (suc at) text ∙ lines_next at text p ∙ j))

    pub quoting_closed : at < length text → get_or text at 0 ≡ 34 → CommentIs (34 ∷ text) (Some (record { size = at + 2; lines = n }))
    quoting_closed h q =
        let o = coming_stop text at h (rw q quote_out) in
        let e = some o q in
        let w = comment-length (34 ∷ text) in
        record { some = omega arith; within = omega arith; few = omega (arith, g.few); is = e; lines = lines_at o q }

    pub quoting_stop : at < length text → false ≡ in_comment (get_or text at 0) → (get_or text at 0 ≡ 34 → ⊥) → CommentIs (34 ∷ text) None
    quoting_stop h e q = none (coming_stop text at h (sym e)) q

    pub quoting_end : length text ≤ at → CommentIs (34 ∷ text) None
    quoting_end h =
        let r = rest_is 34 text in
        let n : at ≡ span_length in_comment (rest (34 ∷ text)) = rw r (sym (at_span (coming_end text at h))) in
        let p : length (rest (34 ∷ text)) ≤ at = rw r h in
        any_none (comment_length (34 ∷ text)) (sym (comment_past at (34 ∷ text) (omega arith) refl n p))

-- ---- the comment that begins here

space_lines : (l : List ℕ) → get_or l 0 0 ≡ 32 → 0 ≡ new_lines 1 l
unfolding new_lines
space_lines [] b = refl
space_lines (y ∷ l) b = rw b

line_lines : (l : List ℕ) → 1 ≤ length l → get_or l 0 0 ≡ 10 → 1 ≡ new_lines 1 l
unfolding new_lines
line_lines [] h b = absurd (not-suc-le-zero h)
line_lines (y ∷ l) h b = rw b

quote_is : (l : List ℕ) → 1 ≤ length l → get_or l 0 0 ≡ 34 → 34 ∷ rest l ≡ l
quote_is [] h b = absurd (not-suc-le-zero h)
quote_is (y ∷ l) h b = rw (rest_is y l, b)

module _ (l : List ℕ) where
  pub begins_space : 1 ≤ length l → get_or l 0 0 ≡ 32 → CommentIs l (Some (record { size = 1; lines = 0 }))
  begins_space h b = record { some = omega arith; within = h; few = omega arith; is = sym (any_some (comment_length l) 1 (sym (comment_one l h b))); lines = space_lines l b }

  pub begins_line : 1 ≤ length l → get_or l 0 0 ≡ 10 → CommentIs l (Some (record { size = 1; lines = 1 }))
  begins_line h b = record { some = omega arith; within = h; few = omega arith; is = sym (any_some (comment_length l) 1 (sym (comment_line l h b))); lines = line_lines l h b }

  pub begins_quote : (r : Option Extent) → 1 ≤ length l → get_or l 0 0 ≡ 34 → CommentIs (34 ∷ rest l) r → CommentIs l r
  begins_quote r h b c = rw (quote_is l h b) at c

  pub begins_short : length l < 1 → CommentIs l None
  begins_short h = any_none (comment_length l) (sym (comment_short l h))

  pub begins_other : 1 ≤ length l → (get_or l 0 0 ≡ 32 → ⊥) → (get_or l 0 0 ≡ 10 → ⊥) → (get_or l 0 0 ≡ 34 → ⊥) → CommentIs l None
  begins_other h a b d = any_none (comment_length l) (sym (comment_other l h a b d))

-- ---- the cursor past one byte

module _ (text : List ℕ) (place line at n : ℕ) (g : Passing text place line at n) where
  pub passing_space : 1 ≤ length (tail text at) → get_or (tail text at) 0 0 ≡ 32 → Passing text place line (at + 1) n
  passing_space h b =
      let e : n + 0 ≡ n = omega arith in
      rw e at (passing_more text place line at n g (record { size = 1; lines = 0 }) (begins_space (tail text at) h b))

  pub passing_line : 1 ≤ length (tail text at) → get_or (tail text at) 0 0 ≡ 10 → Passing text place line (at + 1) (n + 1)
  passing_line h b = passing_more text place line at n g (record { size = 1; lines = 1 }) (begins_line (tail text at) h b)

pub ruleset quotings = (quoting_none, quoting_few, quoting_line, quoting_more, quoting_closed, quoting_stop, quoting_end)

pub ruleset comments = (begins_space, begins_line, begins_quote, begins_short, begins_other, passing_space, passing_line)
