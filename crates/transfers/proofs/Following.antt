-- What follows an operand in a statement that is not stuck. Assumes nothing.
use Prim.Native.Nat.{ℕ}
use mathlib.Core.Path.{◌≡◌, refl, ◌∙◌}
use mathlib.Core.Bool.{Bool, true, false}
use mathlib.Core.List.{List}
use lib.ListN.{length}
use native.Mathlib.Omega.{arith}
use Rattle.table.specs.Table.{Table}
use Rattle.types.specs.Types.{NodeType, numbered, string}
use Rattle.words.specs.Outcomes as words
use Rattle.machine.specs.Outcomes.{Outcome, ok, fail, stuck, and_then, need, Operand, place, value, text, placed, valued, typed_words, on_place, on_value, on_typed}
use Rattle.operands.specs.Answers.{first_word, Unstuck, goes, fails}
use Rattle.operands.proofs.Typed.{OfType, a_place, a_value, a_failure, a_stuck}
use Rattle.operands.proofs.Yielding.{Gave}

-- outcomes are apart
pub no_stuck : {A B : Type 0} (k : ℕ) → ◌≡◌ {A = Outcome A} (fail k) stuck → B
no_stuck k e = let q : ◌≡◌ {A = ℕ} 0 1 = cc in absurd (omega arith)

pub not_stuck : {A B : Type 0} (x : A) → ◌≡◌ {A = Outcome A} (ok x) stuck → B
not_stuck x e = let q : ◌≡◌ {A = ℕ} 0 1 = cc in absurd (omega arith)

pub no_ok : {A B : Type 0} (x : A) (k : ℕ) → ◌≡◌ {A = Outcome A} (ok x) (fail k) → B
no_ok x k e = let q : ◌≡◌ {A = ℕ} 0 1 = cc in absurd (omega arith)

pub ok_is : {A : Type 0} (x y : A) → ◌≡◌ {A = Outcome A} (ok x) (ok y) → x ≡ y
ok_is x y e = cc

pub fail_is : {A B : Type 0} (k j : ℕ) → ◌≡◌ {A = Outcome A} (fail k) (fail j) → ◌≡◌ {A = Outcome B} (fail k) (fail j)
fail_is k j e = cc

pub no_word : {A : Type 0} (w k : ℕ) → words.word w ≡ words.fail k → A
no_word w k e = let q : ◌≡◌ {A = ℕ} 0 1 = cc in absurd (omega arith)

pub apart : {A : Type 0} (a b : Outcome A) → a ≡ b → (a ≡ stuck → ⊥) → b ≡ stuck → ⊥
apart a b e g k = g (e ∙ k)

-- tests hold
pub need_true : {A : Type 0} (b : Bool) (o : Outcome A) → (need b o ≡ stuck → ⊥) → b ≡ true
unfolding need
need_true true o g = refl
need_true false o g = absurd (g refl)

pub need_done : {A : Type 0} (b : Bool) (o : Outcome A) → (need b o ≡ stuck → ⊥) → need b o ≡ o
unfolding need
need_done true o g = refl
need_done false o g = absurd (g refl)

-- a variable, then something
module _ {A : Type 0} (o : Outcome Operand) (f : ℕ → ℕ → Outcome A) where
  pub place_failed : (k : ℕ) → o ≡ fail k → on_place o f ≡ fail k
  unfolding on_place and_then
  place_failed k e = rw e

  pub place_goes : (a τ : ℕ) → o ≡ ok (place a τ) → on_place o f ≡ f a τ
  unfolding on_place and_then placed
  place_goes a τ e = rw e

pub place_unstuck : {A : Type 0} (o : Outcome Operand) (f : ℕ → ℕ → Outcome A) → (on_place o f ≡ stuck → ⊥) → Unstuck o
unfolding on_place and_then
place_unstuck (ok x) f g = goes
place_unstuck (fail k) f g = fails
place_unstuck stuck f g = absurd (g refl)

-- an expression, then something
module _ {A : Type 0} (o : Outcome Operand) (f : ℕ → List ℕ → Outcome A) where
  pub value_failed : (k : ℕ) → o ≡ fail k → on_value o f ≡ fail k
  unfolding on_value and_then
  value_failed k e = rw e

  pub value_goes : (τ : ℕ) (ws : List ℕ) → o ≡ ok (value τ ws) → on_value o f ≡ f τ ws
  unfolding on_value and_then valued
  value_goes τ ws e = rw e

pub value_unstuck : {A : Type 0} (o : Outcome Operand) (f : ℕ → List ℕ → Outcome A) → (on_value o f ≡ stuck → ⊥) → Unstuck o
unfolding on_value and_then
value_unstuck (ok x) f g = goes
value_unstuck (fail k) f g = fails
value_unstuck stuck f g = absurd (g refl)

-- the words of the value, where the first is known
pub value_gave : {A : Type 0} (T : Table) (τ : ℕ) (o : Outcome Operand) (f : ℕ → List ℕ → Outcome A) (w : ℕ)
    → (on_value o f ≡ stuck → ⊥) → OfType T τ o → words.word w ≡ first_word o → Gave T o τ w
unfolding on_value and_then valued first_word
value_gave T τ (ok (place a σ)) f w g (a_place l) e = absurd (g refl)
value_gave T τ (ok (value σ ws)) f w g (a_value l) e = record { words = ws; is = refl; first = cc; long = l }
value_gave T τ (fail k) f w g a_failure e = no_word w k e
value_gave T τ stuck f w g a_stuck e = absurd (g refl)
value_gave T τ (ok (text _)) f w g h e = elim h [ ]

-- an expression of any type, then something
module _ {A : Type 0} (o : Outcome Operand) (f : NodeType → List ℕ → Outcome A) where
  pub typed_failed : (k : ℕ) → o ≡ fail k → on_typed o f ≡ fail k
  unfolding on_typed and_then
  typed_failed k e = rw e

  pub typed_goes : (τ : ℕ) (ws : List ℕ) → o ≡ ok (value τ ws) → on_typed o f ≡ f (numbered τ) ws
  unfolding on_typed and_then typed_words
  typed_goes τ ws e = rw e

  pub typed_reads : (ws : List ℕ) → o ≡ ok (text ws) → on_typed o f ≡ f (string (length ws)) ws
  unfolding on_typed and_then typed_words
  typed_reads ws e = rw e

pub typed_unstuck : {A : Type 0} (o : Outcome Operand) (f : NodeType → List ℕ → Outcome A) → (on_typed o f ≡ stuck → ⊥) → Unstuck o
unfolding on_typed and_then
typed_unstuck (ok x) f g = goes
typed_unstuck (fail k) f g = fails
typed_unstuck stuck f g = absurd (g refl)

pub typed_gave : {A : Type 0} (T : Table) (τ : ℕ) (o : Outcome Operand) (f : NodeType → List ℕ → Outcome A) (w : ℕ)
    → (on_typed o f ≡ stuck → ⊥) → OfType T τ o → words.word w ≡ first_word o → Gave T o τ w
unfolding on_typed and_then typed_words first_word
typed_gave T τ (ok (place a σ)) f w g (a_place l) e = absurd (g refl)
typed_gave T τ (ok (value σ ws)) f w g (a_value l) e = record { words = ws; is = refl; first = cc; long = l }
typed_gave T τ (fail k) f w g a_failure e = no_word w k e
typed_gave T τ stuck f w g a_stuck e = absurd (g refl)
typed_gave T τ (ok (text _)) f w g h e = elim h [ ]
