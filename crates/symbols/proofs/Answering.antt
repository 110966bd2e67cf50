-- The two passes over a text, and the call. Assumes nothing.
use Prim.Native.Nat.{ℕ, zero, suc, ◌+◌, ◌-◌, ◌*◌, ◌<◌, ◌≤◌}
use mathlib.Core.Path.{◌≡◌, refl, sym, ◌∙◌}
use mathlib.Core.Bool.{true, false}
use mathlib.Core.List.{List, [], ◌∷◌, ◌++◌}
use native.Mathlib.Nat.{zero-add, add-zero}
use native.Mathlib.Omega.{arith}
use lib.ListN.{length, drop, set, length-drop}
use lib.Seq.{drop-drop, sets, length-sets, sets-eq}
use lib.Dec.{eqb, ltb}
use borrow.Author.Tests.{le-leb, lt-leb, ltb-true, ltb-false}
use Rattle.basics.specs.Choice.{both}
use Rattle.basics.specs.Cases.{cases}
use Rattle.basics.proofs.Bools.{no_true, both_i, both_false_r}
use Rattle.symbols.specs.Runs.{new_lines}
use Rattle.symbols.specs.Symbols.{symbol_length, symbol_kind, comment_length, Symbol, Reading, fault, found, more, symbols_from, symbols_of}
use Rattle.std.specs.Prelude.{Option, None, Some}
use Rattle.symbols.specs.Steps.{if_any, counted, Stands, PassesTo, Begins, WritableText, SymbolRoom, is_found}
use Rattle.symbols.proofs.Fronts.{any_some, any_more, any_none}
use Rattle.symbols.proofs.Strings.{tail, tail_is}
use Rattle.symbols.specs.Answer.{symbol_bytes, all_bytes, answer_to, reading_bytes, text_fits, symbols_answer, laid, symbols_out}
use Rattle.symbols.proofs.Ends.{drop_end}
use Rattle.symbols.proofs.Scanning.{symbol-length, symbol_of, symbol_next, no_symbol}

-- ---- one symbol more, from the place that the cursor stands at

module _ (text : List ℕ) (at line : ℕ) (s : Stands text at line) (c : comment_length (drop at text) ≡ 0) where
  module _ (size : ℕ) (e : Some size ≡ if_any (symbol_length (tail text at))) where
    size_is : symbol_length (drop at text) ≡ size
    size_is = any_some (symbol_length (drop at text)) size (sym (rw (tail_is text at) at e))

    after : Stands text (at + size) line
    after =
        let h : size ≤ length (drop at text) = rw size_is at (symbol-length (drop at text)) in
        record { within = omega (arith, s.within, length-drop at text); counted = omega (arith, s.counted) }

    next-is : symbols_from line at 0 (drop at text) ≡ more (symbol_of line at (drop at text)) (symbols_from line (at + size) 0 (drop (at + size) text))
    next-is =
        let p = any_more (symbol_length (tail text at)) size (sym e) in
        let d : drop size (drop at text) ≡ drop (at + size) text = drop-drop size at text in
        rw d at (rw size_is at (symbol_next line at (drop at text) c (λ z. omega (arith, size_is))))

  next-none : at < length text → None ≡ if_any (symbol_length (tail text at)) → symbols_from line at 0 (drop at text) ≡ fault
  next-none h e = no_symbol line at text h c (any_none (symbol_length (drop at text)) (sym (rw (tail_is text at) at e)))

size_of : (l : List ℕ) (size : ℕ) → Some size ≡ if_any (symbol_length l) → symbol_length l ≡ size
size_of l size e = any_some (symbol_length l) size (sym e)

none_left : (text : List ℕ) (at line : ℕ) → length text ≤ at → symbols_from line at 0 (drop at text) ≡ found []
unfolding symbols_from
none_left text at line h = rw (drop_end text at h)

-- ---- the first pass

-- how many there are, n being those that are passed
pub tally : ℕ → Reading → Option ℕ
tally n fault = None
tally n (found l) = Some (n + length l)

tally_more : (n : ℕ) (s : Symbol) (r : Reading) → tally n (more s r) ≡ tally (n + 1) r
unfolding tally more
tally_more n s fault = refl
tally_more n s (found l) = let e : n + suc (length l) ≡ n + 1 + length l = omega arith in rw e

tally_all : (r : Reading) → tally 0 r ≡ counted r
unfolding tally counted
tally_all fault = refl
tally_all (found l) = rw (zero-add (length l))

pub record Counted (text : List ℕ) (n at line : ℕ) : Type 0 where
  pub stands : Stands text at line
  pub ends : comment_length (drop at text) ≡ 0
  pub few : n ≤ at
  pub is : tally n (symbols_from line at 0 (drop at text)) ≡ counted (symbols_of text)

pub stands_first : (text : List ℕ) → Stands text 0 1
stands_first text = record { within = omega arith; counted = omega arith }

module _ (text : List ℕ) where
  pub counted_none : (at line : ℕ) → PassesTo text 0 1 at line → Counted text 0 at line
  unfolding symbols_of
  counted_none at line p = record { stands = p.stands; ends = p.ends; few = omega arith; is = rw p.keeps (tally_all (symbols_from 1 0 0 text)) }

  module _ (n at line : ℕ) (g : Counted text n at line) where
    module _ (size : ℕ) (e : Some size ≡ if_any (symbol_length (tail text at))) where
      pub counted_stands : Stands text (at + size) line
      counted_stands = after text at line g.stands g.ends size e

      module _ (to m : ℕ) (p : PassesTo text (at + size) line to m) where
        pub counted_more : Counted text (n + 1) to m
        counted_more =
            let o = any_more (symbol_length (tail text at)) size (sym e) in
            record {
              stands = p.stands;
              ends = p.ends;
              few = omega (arith, g.few, p.rises);
              is = rw p.keeps (sym (rw (next-is text at line g.stands g.ends size e) (tally_more n (symbol_of line at (drop at text)) (symbols_from line (at + size) 0 (drop (at + size) text)))) ∙ g.is);
            }

        pub counted_less : at < length text → length text - to < length text - at
        counted_less h = let o = any_more (symbol_length (tail text at)) size (sym e) in omega (arith, p.rises)

    pub counted_fault : at < length text → None ≡ if_any (symbol_length (tail text at)) → None ≡ counted (symbols_of text)
    unfolding tally
    counted_fault h e = rw (next-none text at line g.stands g.ends h e) at g.is

    pub counted_end : length text ≤ at → Some n ≡ counted (symbols_of text)
    unfolding tally
    counted_end h = let q : tally n (found []) ≡ counted (symbols_of text) = rw (none_left text at line h) at g.is in rw (add-zero n) at q

pub ruleset counteds = (stands_first, counted_none, counted_stands, counted_fault, counted_more, counted_less, counted_end)

-- ---- the second pass

sets_join : (out : List ℕ) (i : ℕ) (xs ys : List ℕ) → sets out i (xs ++ ys) ≡ sets (sets out i xs) (i + length xs) ys
sets_join out i [] ys = rw (add-zero i)
sets_join out i (x ∷ xs) ys = let e : suc i + length xs ≡ i + suc (length xs) = omega arith in rw (sets_join (set out i x) (suc i) xs ys, e)

found_more : (s : Symbol) (r : Reading) → is_found (more s r) ≡ true → is_found r ≡ true
unfolding is_found more
found_more s fault e = e
found_more s (found l) e = refl

bytes_more : (s : Symbol) (r : Reading) → is_found r ≡ true → reading_bytes (more s r) ≡ symbol_bytes s ++ reading_bytes r
unfolding is_found more reading_bytes all_bytes
bytes_more s fault e = no_true e
bytes_more s (found l) e = refl

seven_bytes : (s : Symbol) → length (symbol_bytes s) ≡ 7
unfolding symbol_bytes
seven_bytes s = refl

-- each symbol takes a byte of text at least
few_more : (n : ℕ) (s : Symbol) (r : Reading) → length (reading_bytes r) ≤ 7 * n → length (reading_bytes (more s r)) ≤ 7 * suc n
unfolding more reading_bytes all_bytes symbol_bytes
few_more n s fault h = omega arith
few_more n s (found l) h = omega arith

grow : (n m : ℕ) → n ≤ 7 * m → n ≤ 7 * suc m
grow n m h = omega arith

few_bytes : (line at k : ℕ) (l : List ℕ) → length (reading_bytes (symbols_from line at k l)) ≤ 7 * length l
unfolding symbols_from reading_bytes all_bytes
few_bytes line at k [] = omega arith
few_bytes line at (suc k) (x ∷ l) = let i = few_bytes line (at + 1) k l in omega arith
few_bytes line at zero (x ∷ l) =
    cases (eqb (comment_length (x ∷ l)) 0)
    (λ a. cases (eqb (symbol_length (x ∷ l)) 0)
    (λ b. rw (a, b) (omega arith))
    (λ b. rw (a, b) (few_more (length l) _ (symbols_from line (at + 1) (symbol_length (x ∷ l) - 1) l) (few_bytes line (at + 1) (symbol_length (x ∷ l) - 1) l))))
    (λ a. rw a (grow _ (length l) (few_bytes (line + new_lines (comment_length (x ∷ l)) (x ∷ l)) (at + 1) (comment_length (x ∷ l) - 1) l)))

pub record Laid (text out₀ out : List ℕ) (to at line : ℕ) : Type 0 where
  pub stands : Stands text at line
  pub ends : comment_length (drop at text) ≡ 0
  pub read : is_found (symbols_from line at 0 (drop at text)) ≡ true
  pub same : length out ≡ length out₀
  pub low : to ≤ 7 * at
  pub is : sets out to (reading_bytes (symbols_from line at 0 (drop at text))) ≡ sets out₀ 0 (reading_bytes (symbols_of text))

module _ (text out₀ : List ℕ) (f : WritableText text out₀) where
  pub laid_none : (at line : ℕ) → PassesTo text 0 1 at line → Laid text out₀ out₀ 0 at line
  unfolding symbols_of
  laid_none at line p = record { stands = p.stands; ends = p.ends; read = rw p.keeps f.read; same = refl; low = omega arith; is = rw p.keeps }

  module _ (out : List ℕ) (to at line : ℕ) (g : Laid text out₀ out to at line) where
    module _ (size : ℕ) (e : Some size ≡ if_any (symbol_length (tail text at))) where
      pub laid_stands : Stands text (at + size) line
      laid_stands = after text at line g.stands g.ends size e

      some : 0 < size
      some = any_more (symbol_length (tail text at)) size (sym e)

      pub laid_begins : Begins (tail text at) size
      laid_begins = record { some = some; within = rw (size_of (tail text at) size e) at (symbol-length (tail text at)); is = sym (size_of (tail text at) size e) }

      pub laid_room : SymbolRoom out to line at size
      laid_room =
          let b = g.stands in
          let n = some in
          record {
            room = omega (arith, g.same, g.low, f.room, laid_stands.within);
            line_word = omega (arith, b.counted, f.short, laid_stands.within);
            place_word = omega (arith, f.short, laid_stands.within);
            size_word = omega (arith, laid_stands.within, f.short);
          }

      module _ (kind : ℕ) (k : kind ≡ symbol_kind (tail text at)) (out' : List ℕ) (w : out' ≡ sets out to (symbol_bytes (record { kind = kind; line = line; place = at; size = size }))) (to' m : ℕ) (p : PassesTo text (at + size) line to' m) where
        next : symbols_from line at 0 (drop at text) ≡ more (symbol_of line at (drop at text)) (symbols_from line (at + size) 0 (drop (at + size) text))
        next = next-is text at line g.stands g.ends size e

        going_on : is_found (symbols_from line (at + size) 0 (drop (at + size) text)) ≡ true
        going_on = found_more (symbol_of line at (drop at text)) _ (rw next at g.read)

        the_symbol : record { kind = kind; line = line; place = at; size = size } ≡ symbol_of line at (drop at text)
        unfolding symbol_of
        the_symbol = let z : size ≡ symbol_length (drop at text) = sym (size_is text at line g.stands g.ends size e) in rw (k, tail_is text at, z)

        the_bytes : reading_bytes (symbols_from line at 0 (drop at text)) ≡ symbol_bytes (symbol_of line at (drop at text)) ++ reading_bytes (symbols_from line (at + size) 0 (drop (at + size) text))
        the_bytes = rw next (bytes_more (symbol_of line at (drop at text)) (symbols_from line (at + size) 0 (drop (at + size) text)) going_on)

        pub laid_more : Laid text out₀ out' (to + 7) to' m
        laid_more =
            record {
              stands = p.stands;
              ends = p.ends;
              read = rw p.keeps going_on;
              same = rw w (length-sets out to (symbol_bytes (record { kind = kind; line = line; place = at; size = size })) ∙ g.same);
              low = let n = some in omega (arith, g.low, p.rises);
              is = rw (p.keeps, w, the_symbol) (sym (rw (the_bytes, sets_join out to (symbol_bytes (symbol_of line at (drop at text))) (reading_bytes (symbols_from line (at + size) 0 (drop (at + size) text))), seven_bytes (symbol_of line at (drop at text)))) ∙ g.is);
            }

        pub laid_less : length text - to' < length text - at
        laid_less = let n = some in omega (arith, laid_stands.within, p.rises)

    pub laid_same : length out ≡ length out₀
    laid_same = g.same

    ended : None ≡ if_any (symbol_length (tail text at)) → length text ≤ at
    unfolding is_found
    ended e =
        cases (ltb at (length text))
        (λ h. no_true (rw (next-none text at line g.stands g.ends (ltb-true at (length text) h) e) at g.read))
        (λ h. ltb-false at (length text) h)

    pub laid_end : None ≡ if_any (symbol_length (tail text at)) → out ≡ laid (reading_bytes (symbols_of text)) out₀
    unfolding laid reading_bytes all_bytes symbols_of
    laid_end e =
        let h = ended e in
        let q : sets out to (reading_bytes (found [])) ≡ sets out₀ 0 (reading_bytes (symbols_of text)) = rw (none_left text at line h) at g.is in
        let b : length (reading_bytes (symbols_from 1 0 0 text)) ≤ length out₀ = omega (arith, few_bytes 1 0 0 text, f.room) in
        q ∙ sets-eq (reading_bytes (symbols_from 1 0 0 text)) out₀ 0 (rw (zero-add (length (reading_bytes (symbols_from 1 0 0 text)))) b) ∙ rw (zero-add (length (reading_bytes (symbols_from 1 0 0 text))))

pub ruleset layings = (stands_first, laid_none, laid_stands, laid_begins, laid_room, laid_more, laid_less, laid_same, laid_end)

-- ---- the call

fault_is : (out : List ℕ) (r : Reading) → None ≡ counted r → (25 ≡ answer_to r) × (out ≡ laid (reading_bytes r) out)
unfolding counted answer_to reading_bytes laid
fault_is out fault e = (refl, refl)
fault_is out (found l) e = cc

found_is : (n : ℕ) (r : Reading) → Some n ≡ counted r → (is_found r ≡ true) × (65536 + n ≡ answer_to r)
unfolding counted is_found answer_to
found_is n fault e = cc
found_is n (found l) e = let q : n ≡ length l = cc in (refl, omega arith)

module _ (text out : List ℕ) where
  refused_long : 65535 < length text → text_fits text out ≡ false
  unfolding text_fits both
  refused_long h = rw (lt-leb (length text) 65535 h)

  refused_room : length out < 7 * length text → text_fits text out ≡ false
  unfolding text_fits
  refused_room h = both_false_r _ _ (lt-leb (7 * length text) (length out) h)

  it_fits : length text ≤ 65535 → 7 * length text ≤ length out → text_fits text out ≡ true
  unfolding text_fits
  it_fits h g = both_i _ _ (le-leb (length text) 65535 h) (le-leb (7 * length text) (length out) g)

  pub long_answer : 65535 < length text → 1 ≡ symbols_answer text out
  unfolding symbols_answer
  long_answer h = rw (refused_long h)

  pub long_out : 65535 < length text → out ≡ symbols_out text out
  unfolding symbols_out
  long_out h = rw (refused_long h)

  pub room_answer : length out < 7 * length text → 1 ≡ symbols_answer text out
  unfolding symbols_answer
  room_answer h = rw (refused_room h)

  pub room_out : length out < 7 * length text → out ≡ symbols_out text out
  unfolding symbols_out
  room_out h = rw (refused_room h)

  module _ (h : length text ≤ 65535) (g : 7 * length text ≤ length out) where
    module _ (e : None ≡ counted (symbols_of text)) where
      pub fault_answer : 25 ≡ symbols_answer text out
      unfolding symbols_answer
      fault_answer = rw (it_fits h g) (fault_is out (symbols_of text) e).0

      pub fault_out : out ≡ symbols_out text out
      unfolding symbols_out
      fault_out = rw (it_fits h g) (fault_is out (symbols_of text) e).1

    module _ (n : ℕ) (e : Some n ≡ counted (symbols_of text)) where
      pub found_asks : WritableText text out
      found_asks = record { read = (found_is n (symbols_of text) e).0; short = omega arith; room = g }

      pub found_answer : 65536 + n ≡ symbols_answer text out
      unfolding symbols_answer
      found_answer = rw (it_fits h g) (found_is n (symbols_of text) e).1

      pub found_out : (out' : List ℕ) → out' ≡ laid (reading_bytes (symbols_of text)) out → out' ≡ symbols_out text out
      unfolding symbols_out
      found_out out' q = rw (it_fits h g) q

pub ruleset calls = (long_answer, long_out, room_answer, room_out, fault_answer, fault_out, found_asks, found_answer, found_out)
