-- Evaluation: laws of outcomes and locations that it rests on. Assumes nothing.
use Prim.Native.Nat.{ℕ, ◌+◌, ◌/◌, ◌%◌, ◌≤◌, ◌<◌}
use mathlib.Core.Path.{◌≡◌, refl}
use mathlib.Core.Bool.{Bool, true, false}
use mathlib.Core.List.{List}
use native.Mathlib.Omega.{arith}
use lib.Dec.{eqb}
use borrow.Author.Tests.{eq-eqb}
use Rattle.table.specs.Table.{Table}
use Rattle.types.specs.Types.{NodeType, numbered}
use Rattle.machine.specs.Memory.{Memory}
use Rattle.machine.specs.Layout.{location}
use Rattle.machine.specs.Outcomes.{Outcome, fail, and_then, need, fail_where, Operand, placed, valued, typed_words, on_place, on_value, on_typed, on_word, word_of, is_failure}
use Rattle.machine.proofs.Outcomes.{need_true}
use Rattle.sound.specs.Claims.{IsValue, IsText, Words}
use Rattle.sound.specs.Evaluated.{SmallWords, Live, GoodPlace, at_place, no_place, GoodValue, a_value, a_text, no_value}

-- ---- outcomes

-- characters are small words
pub text_small : (k : ℕ) (ws : List ℕ) → IsText k ws → SmallWords ws
text_small k ws t = record { words = λ i. let l = t.letters i in omega arith }

-- what holds of an outcome, where each listed failure has it
module _ {A : Type 0} (R : Outcome A → Type 0) (fails : (n : ℕ) → is_failure n ≡ true → R (fail n)) where
  pub on_need : (b : Bool) (o : Outcome A) → b ≡ true → R o → R (need b o)
  on_need b o e h = rw (need_true b o e) h

  pub on_fail : (b : Bool) (n : ℕ) (o : Outcome A) → is_failure n ≡ true → (b ≡ false → R o) → R (fail_where b n o)
  unfolding fail_where
  on_fail true n o l h = fails n l
  on_fail false n o l h = h refl

  module _ (T : Table) (m : Memory) where
    pub on-place : (p τ : ℕ) (o : Outcome Operand) (f : ℕ → ℕ → Outcome A) → GoodPlace T m p τ o → ((a : ℕ) → Live T m p τ a → R (f a τ)) → R (on_place o f)
    unfolding on_place and_then placed
    on-place p τ _ f (at_place a l) h = h a l
    on-place p τ _ f (no_place n l) h = fails n l

    pub on-value : (τ : ℕ) (o : Outcome Operand) (f : ℕ → List ℕ → Outcome A) → GoodValue T m (numbered τ) o → ((ws : List ℕ) → IsValue T m τ ws → SmallWords ws → R (f τ ws)) → R (on_value o f)
    unfolding on_value and_then valued
    on-value τ _ f (a_value ws v s) h = h ws v s
    on-value τ _ f (no_value n l) h = fails n l

    pub on-typed : (κ : NodeType) (o : Outcome Operand) (f : NodeType → List ℕ → Outcome A) → GoodValue T m κ o → ((ws : List ℕ) → Words T m κ ws → SmallWords ws → R (f κ ws)) → R (on_typed o f)
    unfolding on_typed and_then typed_words Words
    on-typed _ _ f (a_value ws v s) h = h ws v s
    on-typed _ _ f (a_text ws t) h = rw t.long (h ws t (text_small _ ws t))
    on-typed _ _ f (no_value n l) h = fails n l

    pub on-word : (τ : ℕ) (o : Outcome Operand) (f : ℕ → Outcome A) → GoodValue T m (numbered τ) o → ((ws : List ℕ) → IsValue T m τ ws → SmallWords ws → R (f (word_of ws))) → R (on_word o τ f)
    unfolding on_word
    on-word τ o f g h = on-value τ o (λ σ ws. need (eqb σ τ) (f (word_of ws))) g (λ ws v s. on_need (eqb τ τ) (f (word_of ws)) (eq-eqb τ τ refl) (h ws v s))

-- ---- locations

module _ (p k : ℕ) (one : 1 ≤ p) (l : k < 256) where
  pub location_area : location p k / 256 + 1 ≡ p
  unfolding location
  location_area = omega arith

  pub location_word : location p k % 256 ≡ k
  unfolding location
  location_word = omega arith
