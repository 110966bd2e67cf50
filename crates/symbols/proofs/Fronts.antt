-- What begins at the front of a text, by its first bytes. Assumes nothing.
use Prim.Native.Nat.{ℕ, zero, suc, ◌+◌, ◌-◌, ◌<◌, ◌≤◌}
use mathlib.Core.Path.{◌≡◌, refl, sym, ◌∙◌}
use mathlib.Core.Bool.{true, false}
use mathlib.Core.List.{List, [], ◌∷◌}
use native.Mathlib.Numerals.{add-one}
use native.Mathlib.Nat.{not-suc-le-zero}
use native.Mathlib.Omega.{arith}
use lib.ListN.{length, get_or, drop, take}
use lib.Seq.{take-length}
use lib.Dec.{eqb}
use borrow.Author.Tests.{ne_eqb}
use Rattle.std.specs.Prelude.{Option, None, Some}
use Rattle.basics.specs.Cases.{cases}
use Rattle.symbols.specs.Characters.{letter, digit, octal_digit, in_name, in_comment, plain_graphic}
use Rattle.symbols.specs.Runs.{span_length}
use Rattle.symbols.specs.Constants.{signed, numeral_length, character_length, characters_length, constant_length}
use Rattle.symbols.specs.Vocabulary.{name_length}
use Rattle.symbols.specs.Symbols.{comment_length}
use Rattle.symbols.specs.Steps.{if_any}
use Rattle.symbols.proofs.Lengths.{get_d_past}

-- what stands behind the first byte, as a pattern of a slice gives it
abbrev pub rest : List ℕ → List ℕ
rest l = take (length l - 1) (drop 1 l)

pub rest_is : (x : ℕ) (l : List ℕ) → rest (x ∷ l) ≡ l
rest_is x l = let k : suc (length l) - 1 ≡ length l = omega arith in rw k (take-length l)

abbrev option : Option ℕ → Option ℕ → Type 0
option a b = a ≡ b

pub any_some : (n x : ℕ) → if_any n ≡ Some x → n ≡ x
unfolding if_any
any_some zero x e = cc
any_some (suc n) x e = cc

pub any_none : (n : ℕ) → if_any n ≡ None → n ≡ 0
unfolding if_any
any_none zero e = refl
any_none (suc n) e = cc

pub any_more : (n x : ℕ) → if_any n ≡ Some x → 0 < x
unfolding if_any
any_more zero x e = cc
any_more (suc n) x e = let q : suc n ≡ x = cc in omega arith

-- a sign and what follows it
signed_some : (n x : ℕ) → if_any n ≡ Some x → option (Some (x + 1)) (if_any (signed n))
unfolding if_any signed
signed_some zero x e = cc
signed_some (suc n) x e = let q : suc n ≡ x = cc in rw (← q, add-one (suc n)) refl

signed_none : (n : ℕ) → if_any n ≡ None → option None (if_any (signed n))
unfolding if_any signed
signed_none zero e = refl
signed_none (suc n) e = cc

module _ (r : Option ℕ) where
  pub octal_some : (l : List ℕ) (n x : ℕ) → 1 ≤ length l → get_or l 0 0 ≡ 35 → n ≡ span_length octal_digit (rest l) → r ≡ if_any n → r ≡ Some x → option (Some (x + 1)) (if_any (numeral_length l))
  unfolding numeral_length
  octal_some [] n x h b e q s = absurd (not-suc-le-zero h)
  octal_some (y ∷ l) n x h b e q s =
      let m : n ≡ span_length octal_digit l = rw rest_is at e in
      rw (b, ← m) (signed_some n x (sym q ∙ s))

  pub octal_none : (l : List ℕ) (n : ℕ) → 1 ≤ length l → get_or l 0 0 ≡ 35 → n ≡ span_length octal_digit (rest l) → r ≡ if_any n → r ≡ None → option None (if_any (numeral_length l))
  unfolding numeral_length
  octal_none [] n h b e q s = absurd (not-suc-le-zero h)
  octal_none (y ∷ l) n h b e q s =
      let m : n ≡ span_length octal_digit l = rw rest_is at e in
      rw (b, ← m) (signed_none n (sym q ∙ s))

  pub decimal_short : (l : List ℕ) (n : ℕ) → length l < 1 → n ≡ span_length digit l → r ≡ if_any n → r ≡ if_any (numeral_length l)
  unfolding numeral_length span_length
  decimal_short [] n h e q = rw (q, e)
  decimal_short (y ∷ l) n h e q = absurd (omega arith)

  pub decimal_other : (l : List ℕ) (n : ℕ) → 1 ≤ length l → (get_or l 0 0 ≡ 35 → ⊥) → n ≡ span_length digit l → r ≡ if_any n → r ≡ if_any (numeral_length l)
  unfolding numeral_length
  decimal_other [] n h b e q = absurd (not-suc-le-zero h)
  decimal_other (y ∷ l) n h b e q = rw (q, e, ne_eqb y 35 b)

  pub escape_some : (l : List ℕ) (x : ℕ) → 1 ≤ length l → get_or l 0 0 ≡ 64 → r ≡ if_any (numeral_length (rest l)) → r ≡ Some x → option (Some (x + 1)) (if_any (character_length l))
  unfolding character_length
  escape_some [] x h b q s = absurd (not-suc-le-zero h)
  escape_some (y ∷ l) x h b q s = let m : r ≡ if_any (numeral_length l) = rw rest_is at q in rw b (signed_some (numeral_length l) x (sym m ∙ s))

  pub escape_none : (l : List ℕ) → 1 ≤ length l → get_or l 0 0 ≡ 64 → r ≡ if_any (numeral_length (rest l)) → r ≡ None → option None (if_any (character_length l))
  unfolding character_length
  escape_none [] h b q s = absurd (not-suc-le-zero h)
  escape_none (y ∷ l) h b q s = let m : r ≡ if_any (numeral_length l) = rw rest_is at q in rw b (signed_none (numeral_length l) (sym m ∙ s))

pub standing_one : (l : List ℕ) → 1 ≤ length l → (get_or l 0 0 ≡ 64 → ⊥) → true ≡ plain_graphic (get_or l 0 0) → option (Some 1) (if_any (character_length l))
unfolding character_length if_any
standing_one [] h b e = absurd (not-suc-le-zero h)
standing_one (y ∷ l) h b e = rw (ne_eqb y 64 b, ← e)

pub standing_none : (l : List ℕ) → 1 ≤ length l → (get_or l 0 0 ≡ 64 → ⊥) → false ≡ plain_graphic (get_or l 0 0) → option None (if_any (character_length l))
unfolding character_length if_any
standing_none [] h b e = absurd (not-suc-le-zero h)
standing_none (y ∷ l) h b e = rw (ne_eqb y 64 b, ← e)

pub character_short : (l : List ℕ) → length l < 1 → option None (if_any (character_length l))
unfolding character_length if_any
character_short [] h = refl
character_short (y ∷ l) h = absurd (omega arith)

-- ---- constants

module _ (n : ℕ) where
  pub constant_closed : (l : List ℕ) → 1 ≤ length l → get_or l 0 0 ≡ 39 → n ≡ characters_length 0 (rest l) → 0 < n → get_or (rest l) n 0 ≡ 39 → option (Some (n + 2)) (if_any (constant_length l))
  unfolding constant_length if_any
  constant_closed [] h b e p q = absurd (not-suc-le-zero h)
  constant_closed (y ∷ l) h b e p q =
      let m : n ≡ characters_length 0 l = rw rest_is at e in
      let d : get_or l n 0 ≡ 39 = rw rest_is at q in
      let k : n + 2 ≡ suc (suc n) = omega arith in
      rw (b, ← m, ne_eqb n 0 (λ z. omega arith), d, k) refl

  pub constant_open : (l : List ℕ) → 1 ≤ length l → get_or l 0 0 ≡ 39 → n ≡ characters_length 0 (rest l) → (get_or (rest l) n 0 ≡ 39 → ⊥) → option None (if_any (constant_length l))
  unfolding constant_length if_any
  constant_open [] h b e q = absurd (not-suc-le-zero h)
  constant_open (y ∷ l) h b e q =
      let m : n ≡ characters_length 0 l = rw rest_is at e in
      let d : get_or l n 0 ≡ 39 → ⊥ = rw rest_is at q in
      rw (b, ← m) (cases (eqb n 0) (λ z. rw z) (λ z. rw (z, ne_eqb (get_or l n 0) 39 d)))

  pub constant_past : (l : List ℕ) → 1 ≤ length l → get_or l 0 0 ≡ 39 → n ≡ characters_length 0 (rest l) → length (rest l) ≤ n → option None (if_any (constant_length l))
  constant_past l h b e q = constant_open l h b e (λ z. let o : get_or (rest l) n 0 ≡ 0 = get_d_past (rest l) n q in omega arith)

  pub constant_empty : (l : List ℕ) → 1 ≤ length l → get_or l 0 0 ≡ 39 → n ≡ characters_length 0 (rest l) → n ≤ 0 → option None (if_any (constant_length l))
  unfolding constant_length if_any
  constant_empty [] h b e q = absurd (not-suc-le-zero h)
  constant_empty (y ∷ l) h b e q = let m : n ≡ characters_length 0 l = rw rest_is at e in let z : n ≡ 0 = omega arith in rw (b, ← m, z)

pub constant_short : (l : List ℕ) → length l < 1 → option None (if_any (constant_length l))
unfolding constant_length if_any
constant_short [] h = refl
constant_short (y ∷ l) h = absurd (omega arith)

pub constant_other : (l : List ℕ) → 1 ≤ length l → (get_or l 0 0 ≡ 39 → ⊥) → option None (if_any (constant_length l))
unfolding constant_length if_any
constant_other [] h b = refl
constant_other (y ∷ l) h b = rw (ne_eqb y 39 b)

pub ruleset constants = (constant_closed, constant_open, constant_past, constant_empty, constant_short, constant_other)

-- ---- comments

pub comment_one : (l : List ℕ) → 1 ≤ length l → get_or l 0 0 ≡ 32 → option (Some 1) (if_any (comment_length l))
unfolding comment_length if_any
comment_one [] h b = absurd (not-suc-le-zero h)
comment_one (y ∷ l) h b = rw b

pub comment_line : (l : List ℕ) → 1 ≤ length l → get_or l 0 0 ≡ 10 → option (Some 1) (if_any (comment_length l))
unfolding comment_length if_any
comment_line [] h b = absurd (not-suc-le-zero h)
comment_line (y ∷ l) h b = rw b

module _ (n : ℕ) where
  pub comment_closed : (l : List ℕ) → 1 ≤ length l → get_or l 0 0 ≡ 34 → n ≡ span_length in_comment (rest l) → get_or (rest l) n 0 ≡ 34 → option (Some (n + 2)) (if_any (comment_length l))
  unfolding comment_length if_any
  comment_closed [] h b e q = absurd (not-suc-le-zero h)
  comment_closed (y ∷ l) h b e q =
      let m : n ≡ span_length in_comment l = rw rest_is at e in
      let d : get_or l n 0 ≡ 34 = rw rest_is at q in
      let k : n + 2 ≡ suc (suc n) = omega arith in
      rw (b, ← m, d, k) refl

  pub comment_open : (l : List ℕ) → 1 ≤ length l → get_or l 0 0 ≡ 34 → n ≡ span_length in_comment (rest l) → (get_or (rest l) n 0 ≡ 34 → ⊥) → option None (if_any (comment_length l))
  unfolding comment_length if_any
  comment_open [] h b e q = absurd (not-suc-le-zero h)
  comment_open (y ∷ l) h b e q =
      let m : n ≡ span_length in_comment l = rw rest_is at e in
      let d : get_or l n 0 ≡ 34 → ⊥ = rw rest_is at q in
      rw (b, ← m, ne_eqb (get_or l n 0) 34 d)

  pub comment_past : (l : List ℕ) → 1 ≤ length l → get_or l 0 0 ≡ 34 → n ≡ span_length in_comment (rest l) → length (rest l) ≤ n → option None (if_any (comment_length l))
  comment_past l h b e q = comment_open l h b e (λ z. let o : get_or (rest l) n 0 ≡ 0 = get_d_past (rest l) n q in omega arith)

pub comment_short : (l : List ℕ) → length l < 1 → option None (if_any (comment_length l))
unfolding comment_length if_any
comment_short [] h = refl
comment_short (y ∷ l) h = absurd (omega arith)

pub comment_other : (l : List ℕ) → 1 ≤ length l → (get_or l 0 0 ≡ 32 → ⊥) → (get_or l 0 0 ≡ 10 → ⊥) → (get_or l 0 0 ≡ 34 → ⊥) → option None (if_any (comment_length l))
unfolding comment_length if_any
comment_other [] h a b d = refl
comment_other (y ∷ l) h a b d = rw (ne_eqb y 32 a, ne_eqb y 10 b, ne_eqb y 34 d)

-- ---- names

pub name_some : (l : List ℕ) (n : ℕ) → 1 ≤ length l → true ≡ letter (get_or l 0 0) → n ≡ span_length in_name (rest l) → option (Some (1 + n)) (if_any (name_length l))
unfolding name_length if_any
name_some [] n h b e = absurd (not-suc-le-zero h)
name_some (y ∷ l) n h b e = let m : n ≡ span_length in_name l = rw rest_is at e in let k : 1 + n ≡ suc n = omega arith in rw (← b, ← m, k) refl

pub name_none : (l : List ℕ) → 1 ≤ length l → false ≡ letter (get_or l 0 0) → option None (if_any (name_length l))
unfolding name_length if_any
name_none [] h b = refl
name_none (y ∷ l) h b = rw (← b)

pub name_short : (l : List ℕ) → length l < 1 → option None (if_any (name_length l))
unfolding name_length if_any
name_short [] h = refl
name_short (y ∷ l) h = absurd (omega arith)

pub ruleset names = (name_some, name_none, name_short)
