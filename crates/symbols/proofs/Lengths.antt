-- Numerals, character symbols and constants: none reaches past its text. Assumes nothing.
use Prim.Native.Nat.{ℕ, zero, suc, ◌+◌, ◌-◌, ◌≤◌}
use mathlib.Core.Path.{◌≡◌, refl, ap}
use mathlib.Core.Bool.{Bool}
use mathlib.Core.List.{List, [], ◌∷◌}
use native.Mathlib.Omega.{arith}
use lib.ListN.{length, get_or, drop}
use lib.Dec.{eqb, ltb}
use native.Mathlib.Nat.{not-suc-le-zero}
use Rattle.basics.specs.Cases.{cases}
use borrow.Author.Tests.{eq-eqb, ne_eqb, eqb-true, ltb-true, ltb-false}
use Rattle.symbols.specs.Characters.{digit, octal_digit, plain_graphic}
use Rattle.symbols.specs.Runs.{span_length}
use Rattle.symbols.specs.Constants.{signed, numeral_length, character_length, characters_length, constant_length}

-- ---- nothing reaches past the text

pub run_length : (f : ℕ → Bool) (l : List ℕ) → span_length f l ≤ length l
unfolding span_length
run_length f [] = omega arith
run_length f (x ∷ l) = cases (f x) (λ e. rw e (let i = run_length f l in omega arith)) (λ e. rw e (omega arith))

signed_length : (n m : ℕ) → n ≤ m → signed n ≤ suc m
unfolding signed
signed_length zero m h = omega arith
signed_length (suc n) m h = omega arith

pub numeral-length : (l : List ℕ) → numeral_length l ≤ length l
unfolding numeral_length
numeral-length [] = omega arith
numeral-length (x ∷ l) =
    cases (eqb x 35)
    (λ e. rw e (signed_length (span_length octal_digit l) (length l) (run_length octal_digit l)))
    (λ e. rw e (run_length digit (x ∷ l)))

pub character-length : (l : List ℕ) → character_length l ≤ length l
unfolding character_length
character-length [] = omega arith
character-length (x ∷ l) =
    cases (eqb x 64)
    (λ e. rw e (signed_length (numeral_length l) (length l) (numeral-length l)))
    (λ e. rw e (cases (plain_graphic x) (λ q. rw q (omega arith)) (λ q. rw q (omega arith))))

character_nil : character_length [] ≡ 0
unfolding character_length
character_nil = refl

-- ---- character symbols one after the other

characters_skip : (k : ℕ) (l : List ℕ) → k ≤ length l → characters_length k l ≡ k + characters_length 0 (drop k l)
unfolding characters_length
characters_skip zero l h = omega arith
characters_skip (suc k) [] h = absurd (not-suc-le-zero h)
characters_skip (suc k) (x ∷ l) h = let i = characters_skip k l (omega arith) in omega arith

pub characters_next : (l : List ℕ) → (character_length l ≡ 0 → ⊥) → characters_length 0 l ≡ character_length l + characters_length 0 (drop (character_length l) l)
unfolding characters_length
characters_next [] n = absurd (n character_nil)
characters_next (x ∷ l) n =
    let b = character-length (x ∷ l) in
    let c : character_length (x ∷ l) ≡ suc (character_length (x ∷ l) - 1) = omega arith in
    let i = characters_skip (character_length (x ∷ l) - 1) l (omega arith) in
    let d : drop (character_length (x ∷ l)) (x ∷ l) ≡ drop (character_length (x ∷ l) - 1) l = ap (λ (k : ℕ). drop k (x ∷ l)) c in
    rw (ne_eqb (character_length (x ∷ l)) 0 n, d) (omega arith)

pub characters_stop : (l : List ℕ) → character_length l ≡ 0 → characters_length 0 l ≡ 0
unfolding characters_length
characters_stop [] e = refl
characters_stop (x ∷ l) e = rw (eq-eqb (character_length (x ∷ l)) 0 e)

pub characters-length : (k : ℕ) (l : List ℕ) → characters_length k l ≤ length l
unfolding characters_length
characters-length k [] = omega arith
characters-length (suc k) (x ∷ l) = let i = characters-length k l in omega arith
characters-length zero (x ∷ l) =
    let i = characters-length (character_length (x ∷ l) - 1) l in
    cases (eqb (character_length (x ∷ l)) 0) (λ e. rw e (omega arith)) (λ e. rw e (omega arith))

pub get_d_past : (text : List ℕ) (i : ℕ) → length text ≤ i → get_or text i 0 ≡ 0
get_d_past [] i h = refl
get_d_past (x ∷ l) zero h = absurd (not-suc-le-zero h)
get_d_past (x ∷ l) (suc i) h = get_d_past l i (omega arith)

-- ---- constants

pub constant-length : (l : List ℕ) → constant_length l ≤ length l
unfolding constant_length
constant-length [] = omega arith
constant-length (x ∷ l) =
    cases (eqb x 39)
    (λ a. cases (eqb (characters_length 0 l) 0)
    (λ b. rw (a, b) (omega arith))
    (λ b. cases (eqb (get_or l (characters_length 0 l) 0) 39)
    (λ c. rw (a, b, c)
    (cases (ltb (characters_length 0 l) (length l))
    (λ h. let g = ltb-true (characters_length 0 l) (length l) h in omega arith)
    (λ h. let o = get_d_past l (characters_length 0 l) (ltb-false (characters_length 0 l) (length l) h) in let q = eqb-true (get_or l (characters_length 0 l) 0) 39 c in absurd (omega arith))))
    (λ c. rw (a, b, c) (omega arith))))
    (λ a. rw a (omega arith))
