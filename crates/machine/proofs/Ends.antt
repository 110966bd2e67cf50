-- What holds of a result where an outcome has one; failures and stuck outcomes are left out. Assumes nothing.
use Prim.Native.Nat.{ℕ}
use mathlib.Core.Bool.{Bool}
use mathlib.Core.List.{List}
use lib.ListN.{length}
use Rattle.basics.specs.Choice.{pick}
use Rattle.types.specs.Types.{NodeType, numbered, string}
use Rattle.machine.specs.Outcomes.{Outcome, ok, fail, stuck, and_then, need, fail_where, Operand, on_place, on_value, on_typed, word_of, on_word}
use Rattle.machine.proofs.Outcomes.{g_then, g_need, g_where, g_pick, g_place, g_value, g_typed, g_word}

pub data Ends {A : Type 0} (P : A → Type 0) : Outcome A → Type 0 where
  ends_ok : {x : A} → P x → Ends P (ok x)
  ends_fail : {n : ℕ} → Ends P (fail n)
  ends_stuck : Ends P stuck

module _ {A : Type 0} (P : A → Type 0) where
  pub ends_need : (b : Bool) (o : Outcome A) → Ends P o → Ends P (need b o)
  ends_need b o h = g_need (Ends P) ends_stuck b o h

  pub ends_fail_where : (b : Bool) (n : ℕ) (o : Outcome A) → Ends P o → Ends P (fail_where b n o)
  ends_fail_where b n o h = g_where (Ends P) ends_stuck b n o (λ e. ends_fail) (λ e. h)

  pub ends_pick : (b : Bool) (o q : Outcome A) → Ends P o → Ends P q → Ends P (pick b o q)
  ends_pick b o q h k = g_pick (Ends P) ends_stuck b o q (λ e. h) (λ e. k)

  pub ends_and_then : {B : Type 0} (o : Outcome B) (f : B → Outcome A) → ((x : B) → Ends P (f x)) → Ends P (and_then o f)
  ends_and_then o f h = g_then (Ends P) ends_stuck o f (λ n e. ends_fail) (λ x e. h x)

  pub ends_on_place : (o : Outcome Operand) (f : ℕ → ℕ → Outcome A) → ((a τ : ℕ) → Ends P (f a τ)) → Ends P (on_place o f)
  ends_on_place o f h = g_place (Ends P) ends_stuck o f (λ n e. ends_fail) (λ a τ e. h a τ)

  pub ends_on_value : (o : Outcome Operand) (f : ℕ → List ℕ → Outcome A) → ((τ : ℕ) (ws : List ℕ) → Ends P (f τ ws)) → Ends P (on_value o f)
  ends_on_value o f h = g_value (Ends P) ends_stuck o f (λ n e. ends_fail) (λ τ ws e. h τ ws)

  pub ends_on_typed : (o : Outcome Operand) (f : NodeType → List ℕ → Outcome A) → ((κ : NodeType) (ws : List ℕ) → Ends P (f κ ws)) → Ends P (on_typed o f)
  ends_on_typed o f h = g_typed (Ends P) ends_stuck o f (λ n e. ends_fail) (λ τ ws e. h (numbered τ) ws) (λ ws e. h (string (length ws)) ws)

  pub ends_on_word : (o : Outcome Operand) (τ : ℕ) (f : ℕ → Outcome A) → ((w : ℕ) → Ends P (f w)) → Ends P (on_word o τ f)
  ends_on_word o τ f h = g_word (Ends P) ends_stuck o τ f (λ n e. ends_fail) (λ σ ws e. h (word_of ws))
