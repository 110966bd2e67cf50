-- How outcomes are joined, where each is R or stuck. Assumes nothing.
use Prim.Native.Nat.{ℕ}
use mathlib.Core.Path.{◌≡◌, refl, sym}
use mathlib.Core.Bool.{Bool, true, false}
use mathlib.Core.List.{List}
use lib.ListN.{length}
use lib.Dec.{eqb}
use Rattle.basics.specs.Choice.{pick}
use Rattle.basics.proofs.Bools.{no_true}
use Rattle.types.specs.Types.{NodeType, numbered, string}
use Rattle.machine.specs.Outcomes.{Outcome, ok, fail, stuck, and_then, need, fail_where, Operand, place, value, text, placed, valued, typed_words, on_place, on_value, on_typed, word_of, on_word}
use Rattle.machine.specs.Entries.{TypeEntry, array_type}
use Rattle.machine.specs.Operands.{on_array}

pub data Near {A : Type 0} (R : Outcome A) : Outcome A → Type 0 where
  same : {o : Outcome A} → o ≡ R → Near R o
  lost : Near R stuck

pub near_is : {A : Type 0} {R o : Outcome A} → Near R o → (o ≡ stuck → ⊥) → o ≡ R
near_is (same e) n = e
near_is lost n = absurd (n refl)

module _ {A B : Type 0} (R : Outcome B) where
  pub n_fails : (f : ℕ) (o : Outcome A) (k : A → Outcome B) → R ≡ fail f → Near (fail f) o → Near R (and_then o k)
  unfolding and_then
  n_fails f o k e (same h) = rw (e, h) (same refl)
  n_fails f _ k e lost = lost

  pub n_then : (y : A) (o : Outcome A) (k : A → Outcome B) → Near (ok y) o → Near R (k y) → Near R (and_then o k)
  unfolding and_then
  n_then y o k (same h) n = rw h n
  n_then y _ k lost n = lost

module _ {B : Type 0} (R : Outcome B) where
  pub n_need : (b : Bool) (o : Outcome B) → Near R o → Near R (need b o)
  unfolding need
  n_need true o h = h
  n_need false o h = lost

  pub n_pass : (b : Bool) (n : ℕ) (o : Outcome B) → b ≡ false → Near R o → Near R (fail_where b n o)
  unfolding fail_where
  n_pass true n o e h = no_true (sym e)
  n_pass false n o e h = h

  pub n_where : (b : Bool) (n : ℕ) (o : Outcome B) → R ≡ fail n → b ≡ true → Near R (fail_where b n o)
  unfolding fail_where
  n_where true n o r e = same (sym r)
  n_where false n o r e = no_true e

  pub n_place_fails : (f : ℕ) (o : Outcome Operand) (k : ℕ → ℕ → Outcome B) → R ≡ fail f → Near (fail f) o → Near R (on_place o k)
  unfolding on_place
  n_place_fails f o k e h = n_fails R f o _ e h

  pub n_place : (a τ : ℕ) (o : Outcome Operand) (k : ℕ → ℕ → Outcome B) → Near (ok (place a τ)) o → Near R (k a τ) → Near R (on_place o k)
  unfolding on_place placed
  n_place a τ o k h n = n_then R (place a τ) o _ h n

  pub n_value_fails : (f : ℕ) (o : Outcome Operand) (k : ℕ → List ℕ → Outcome B) → R ≡ fail f → Near (fail f) o → Near R (on_value o k)
  unfolding on_value
  n_value_fails f o k e h = n_fails R f o _ e h

  pub n_value : (τ : ℕ) (ws : List ℕ) (o : Outcome Operand) (k : ℕ → List ℕ → Outcome B) → Near (ok (value τ ws)) o → Near R (k τ ws) → Near R (on_value o k)
  unfolding on_value valued
  n_value τ ws o k h n = n_then R (value τ ws) o _ h n

  pub n_typed_fails : (f : ℕ) (o : Outcome Operand) (k : NodeType → List ℕ → Outcome B) → R ≡ fail f → Near (fail f) o → Near R (on_typed o k)
  unfolding on_typed
  n_typed_fails f o k e h = n_fails R f o _ e h

  pub n_numbered : (τ : ℕ) (ws : List ℕ) (o : Outcome Operand) (k : NodeType → List ℕ → Outcome B) → Near (ok (value τ ws)) o → Near R (k (numbered τ) ws) → Near R (on_typed o k)
  unfolding on_typed typed_words
  n_numbered τ ws o k h n = n_then R (value τ ws) o _ h n

  pub n_text : (ws : List ℕ) (o : Outcome Operand) (k : NodeType → List ℕ → Outcome B) → Near (ok (text ws)) o → Near R (k (string (length ws)) ws) → Near R (on_typed o k)
  unfolding on_typed typed_words
  n_text ws o k h n = n_then R (text ws) o _ h n

  pub n_word_fails : (f : ℕ) (o : Outcome Operand) (τ : ℕ) (k : ℕ → Outcome B) → R ≡ fail f → Near (fail f) o → Near R (on_word o τ k)
  unfolding on_word
  n_word_fails f o τ k e h = n_value_fails f o _ e h

  pub n_word : (σ : ℕ) (ws : List ℕ) (o : Outcome Operand) (τ : ℕ) (k : ℕ → Outcome B) → Near (ok (value σ ws)) o → Near R (k (word_of ws)) → Near R (on_word o τ k)
  unfolding on_word
  n_word σ ws o τ k h n = n_value σ ws o _ h (n_need (eqb σ τ) _ n)

  pub n_array : (E : TypeEntry) (k : ℕ → ℕ → ℕ → ℕ → Outcome B) (ι σ low high : ℕ) → E ≡ array_type ι σ low high → Near R (k ι σ low high) → Near R (on_array E k)
  unfolding on_array
  n_array E k ι σ low high e h = rw e h

  pub n_pick_true : (b : Bool) (o u : Outcome B) → b ≡ true → Near R o → Near R (pick b o u)
  n_pick_true b o u e h = rw e h

  pub n_pick_false : (b : Bool) (o u : Outcome B) → b ≡ false → Near R u → Near R (pick b o u)
  n_pick_false b o u e h = rw e h
