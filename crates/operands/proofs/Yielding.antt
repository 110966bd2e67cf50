-- The first word of what is not stuck, and of what a unary operator yields; index values are in order as their offsets are. Assumes nothing.
use Prim.Native.Nat.{ℕ, suc, ◌+◌, ◌-◌, ◌*◌, ◌/◌, ◌%◌, ◌<◌, ◌≤◌}
use mathlib.Core.Path.{◌≡◌, refl, sym, ap, ◌∙◌}
use mathlib.Core.Bool.{Bool, true}
use mathlib.Core.Bool as bool
use mathlib.Core.List.{List, [], ◌∷◌}
use lib.ListN.{length}
use lib.Dec.{eqb, leb, ltb}
use lib.IntN.{ℤ, pos, negsuc}
use native.Mathlib.Omega.{arith}
use borrow.Author.Tests.{eqb-true, ltb-true, leb-true, leb-false, le-leb, lt-leb, le-ltb, ltb-false}
use Rattle.basics.specs.Choice.{pick}
use Rattle.basics.specs.Cases.{cases}
use Rattle.basics.proofs.Bools.{both_l, both_r, no_true}
use Rattle.table.specs.Table.{Table}
use Rattle.types.specs.Match.{offset}
use Rattle.sizes.specs.Sizes.{words_of}
use Rattle.words.specs.Outcomes as words
use Rattle.words.specs.Memory.{word_at_byte}
use Rattle.words.specs.Numbers.{int_of, between_z}
use Rattle.words.specs.Operators.{le_w}
use Rattle.words.specs.Devices.{is_device, position_of}
use Rattle.words.specs.Pages.{read_device}
use Rattle.machine.specs.Memory.{memory_of}
use Rattle.machine.specs.Outcomes.{Outcome, ok, fail, stuck, and_then, need, fail_where, Operand, place, value, text, on_place, word_of}
use Rattle.machine.specs.Entries.{Unary, unary_at}
use Rattle.machine.specs.Variables.{fits}
use Rattle.machine.specs.Operands.{one_word, given, device_word, unary_value}
use Rattle.operands.specs.Answers.{first_word, Unstuck, goes, fails}
use Rattle.operands.specs.Operators.{unary_word}
use Rattle.operands.proofs.Typed.{OfType, a_place, unary_cases}

pub no_unstuck : {A : Type 0} (o : Outcome Operand) → o ≡ stuck → Unstuck o → A
no_unstuck (ok x) e goes = let q : ◌≡◌ {A = ℕ} 0 1 = cc in absurd (omega arith)
no_unstuck (fail k) e fails = let q : ◌≡◌ {A = ℕ} 0 1 = cc in absurd (omega arith)
no_unstuck stuck e x = elim x [ ]

need_is : (b : Bool) (o : Outcome Operand) → Unstuck (need b o) → need b o ≡ o
unfolding need
need_is true o h = refl
need_is bool.false o h = elim h [ ]

pub first_place : (o : Outcome Operand) (g : ℕ → ℕ → Outcome Operand) → Unstuck (on_place o g) → Unstuck o
unfolding on_place and_then
first_place (ok x) g h = goes
first_place (fail k) g h = fails
first_place stuck g h = elim h [ ]

-- the words of a value of which the first is w
pub record Gave (T : Table) (o : Outcome Operand) (τ w : ℕ) : Type 0 where
  pub words : List ℕ
  pub is : o ≡ ok (value τ words)
  pub first : word_of words ≡ w
  pub long : length words ≡ words_of T τ

no_word : {A : Type 0} (w : ℕ) (k : ℕ) → words.word w ≡ words.fail k → A
no_word w k e = let q : ◌≡◌ {A = ℕ} 0 1 = cc in absurd (omega arith)

pub place_fits : (T : Table) (τ a σ : ℕ) → OfType T τ (ok (place a σ)) → fits T a τ ≡ true
place_fits T τ a σ (a_place e) = e

pub failed : (o : Outcome Operand) (k : ℕ) → words.fail k ≡ first_word o → o ≡ fail k
unfolding first_word
failed (ok (place a τ)) k e = no_word 0 k (sym e)
failed (ok (value τ ws)) k e = no_word (word_of ws) k (sym e)
failed (ok (text ws)) k e = no_word 0 k (sym e)
failed (fail j) k e = cc
failed stuck k e = no_word 0 k (sym e)

pub single : (us : List ℕ) → length us ≡ 1 → us ≡ word_of us ∷ []
unfolding word_of
single [] e = absurd (omega arith)
single (u ∷ []) e = refl
single (u ∷ (v ∷ us)) e = absurd (omega arith)

first_need : (b : Bool) (o : Outcome Operand) → Unstuck (need b o) → first_word (need b o) ≡ first_word o
first_need b o h = ap first_word (need_is b o h)

first_given : (τ : ℕ) (o : words.WordOutcome) → first_word (given τ o) ≡ o
unfolding given one_word first_word word_of
first_given τ (words.word w) = refl
first_given τ (words.fail k) = refl

first_simple : (τ w : ℕ) → first_word (one_word τ w) ≡ words.word w
unfolding one_word first_word word_of
first_simple τ w = refl

first_constant : (b : Bool) (τ w : ℕ) → Unstuck (need b (one_word τ w)) → first_word (need b (one_word τ w)) ≡ words.word w
first_constant b τ w h = first_need b (one_word τ w) h ∙ first_simple τ w

first_transfer : (b : Bool) (τ : ℕ) (o : words.WordOutcome) → Unstuck (need b (given τ o)) → first_word (need b (given τ o)) ≡ o
first_transfer b τ o h = first_need b (given τ o) h ∙ first_given τ o

-- device locations are even
position_even : (x : ℤ) → is_device x ≡ true → position_of x / 2 * 2 ≡ position_of x
unfolding is_device position_of between_z
position_even (pos n) h = no_true (both_r _ _ (both_r _ _ h))
position_even (negsuc n) h =
    let e = eqb-true (suc n % 2) 0 (both_l _ _ h) in
    let l = leb-true n 8191 (both_l _ _ (both_r _ _ h)) in
    rw (le-ltb 8192 (suc n) (omega arith)) (omega arith)

device-word : (pg : List ℕ) (w : ℕ) → is_device (int_of w) ≡ true → memory_of pg (device_word w) ≡ word_at_byte pg (position_of (int_of w))
unfolding memory_of device_word word_at_byte
device-word pg w h = rw (position_even (int_of w) h)

first_device : (pg : List ℕ) (w : ℕ) → first_word (fail_where (bool.not (is_device (int_of w))) 21 (one_word 0 (memory_of pg (device_word w)))) ≡ read_device pg w
unfolding read_device fail_where first_word one_word word_of
first_device pg w =
    cases (is_device (int_of w))
    (λ e. rw (e, device-word pg w e))
    (λ e. rw e)

-- not, and, or: integers or booleans
first_either : (τ i b : ℕ) → Unstuck (pick (eqb τ 0) (one_word 0 i) (need (eqb τ 1) (one_word 1 b)))
    → first_word (pick (eqb τ 0) (one_word 0 i) (need (eqb τ 1) (one_word 1 b))) ≡ words.word (pick (eqb τ 0) i b)
first_either τ i b h =
    cases (eqb τ 0)
    (λ e. rw e (first_simple 0 i))
    (λ e. rw e (first_constant (eqb τ 1) 1 b (rw e at h)))

-- THE UNARY OPERATORS on words
pub first_unary : (pg : List ℕ) (o τ w : ℕ) → Unstuck (unary_value (memory_of pg) (unary_at o) τ w) → first_word (unary_value (memory_of pg) (unary_at o) τ w) ≡ unary_word pg o τ w
unfolding unary_value unary_at unary_word
first_unary pg o τ w h =
    unary_cases (λ k. Unstuck (unary_value (memory_of pg) (unary_at k) τ w) → first_word (unary_value (memory_of pg) (unary_at k) τ w) ≡ unary_word pg k τ w) o
    (λ u. first_transfer (eqb τ 0) 0 _ u)
    (λ u. first_either τ _ _ u)
    (λ u. first_need (eqb τ 0) _ u ∙ first_device pg w)
    (λ e u. no_unstuck _ (ap (λ (z : Unary). unary_value (memory_of pg) z τ w) e) u)
    h

-- index values are in order as their offsets are
same_leb : (a b c d : ℕ) → (a ≤ b → c ≤ d) → (b < a → d < c) → leb a b ≡ leb c d
same_leb a b c d f g =
    cases (leb a b)
    (λ e. e ∙ sym (le-leb c d (f (leb-true a b e))))
    (λ e. e ∙ sym (lt-leb c d (g (leb-false a b e))))

pub le_offset : (a b : ℕ) → a < 65536 → b < 65536 → le_w a b ≡ leb (offset a) (offset b)
unfolding le_w offset
le_offset a b h k =
    cases (ltb a 32768)
    (λ p.
    let l = ltb-true a 32768 p in
    cases (ltb b 32768)
    (λ q. let r = ltb-true b 32768 q in rw (p, q) (same_leb a b (a + 32768) (b + 32768) (λ u. omega arith) (λ u. omega arith)))
    (λ q. let r = ltb-false b 32768 q in rw (p, q) (sym (lt-leb (a + 32768) (b - 32768) (omega arith)))))
    (λ p.
    let l = ltb-false a 32768 p in
    cases (ltb b 32768)
    (λ q. let r = ltb-true b 32768 q in rw (p, q) (sym (le-leb (a - 32768) (b + 32768) (omega arith))))
    (λ q.
    let r = ltb-false b 32768 q in
    rw (p, q) (same_leb (65536 - suc b) (65536 - suc a) (a - 32768) (b - 32768) (λ u. omega arith) (λ u. omega arith))))
