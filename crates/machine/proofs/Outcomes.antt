-- How outcomes are joined: what holds of every outcome of the parts, and of a stuck one, holds of the whole. Assumes nothing.
use Prim.Native.Nat.{ℕ}
use mathlib.Core.Path.{◌≡◌, refl}
use mathlib.Core.Bool.{Bool, true, false}
use mathlib.Core.List.{List}
use lib.ListN.{length}
use lib.Dec.{eqb}
use Rattle.basics.specs.Choice.{pick}
use Rattle.types.specs.Types.{NodeType, numbered, string}
use Rattle.types.specs.Match.{Match, equal, fitted, unfit}
use Rattle.machine.specs.Texts.{fit}
use Rattle.machine.specs.Calls.{passed}
use Rattle.machine.specs.Outcomes.{Outcome, ok, fail, stuck, and_then, need, fail_where, Operand, place, value, text, placed, valued, typed_words, on_place, on_value, on_typed, word_of, on_word}
use Rattle.machine.specs.Entries.{TypeEntry, integer, boolean, character, record_type, array_type, process_type, no_type}
use Rattle.machine.specs.Operands.{on_record, on_array}
use Rattle.machine.specs.Processes.{on_module}

pub need_true : {A : Type 0} (b : Bool) (o : Outcome A) → b ≡ true → need b o ≡ o
unfolding need
need_true b o e = rw e

-- an outcome that is not stuck has its test, and is what follows it
pub need_holds : {A : Type 0} (b : Bool) (o : Outcome A) → (need b o ≡ stuck → ⊥) → b ≡ true
unfolding need
need_holds true o h = refl
need_holds false o h = absurd (h refl)

pub need_is : {A : Type 0} (b : Bool) (o : Outcome A) → (need b o ≡ stuck → ⊥) → need b o ≡ o
need_is b o h = need_true b o (need_holds b o h)

pub need_stuck : {A : Type 0} (b : Bool) (o : Outcome A) → o ≡ stuck → need b o ≡ stuck
unfolding need
need_stuck true o e = e
need_stuck false o e = refl

-- what holds of the parts holds of the whole
module _ {B : Type 0} (P : Outcome B → Type 0) (lost : P stuck) where
  pub g_then : {A : Type 0} (o : Outcome A) (k : A → Outcome B) → ((f : ℕ) → o ≡ fail f → P (fail f)) → ((y : A) → o ≡ ok y → P (k y)) → P (and_then o k)
  unfolding and_then
  g_then (ok y) k f g = g y refl
  g_then (fail n) k f g = f n refl
  g_then stuck k f g = lost

  pub g_test : (b : Bool) (o : Outcome B) → (b ≡ true → P o) → P (need b o)
  unfolding need
  g_test true o h = h refl
  g_test false o h = lost

  pub g_need : (b : Bool) (o : Outcome B) → P o → P (need b o)
  g_need b o h = g_test b o (λ e. h)

  pub g_where : (b : Bool) (n : ℕ) (o : Outcome B) → (b ≡ true → P (fail n)) → (b ≡ false → P o) → P (fail_where b n o)
  unfolding fail_where
  g_where true n o f g = f refl
  g_where false n o f g = g refl

  pub g_pick : (b : Bool) (o u : Outcome B) → (b ≡ true → P o) → (b ≡ false → P u) → P (pick b o u)
  g_pick true o u f g = f refl
  g_pick false o u f g = g refl

  pub g_place : (o : Outcome Operand) (k : ℕ → ℕ → Outcome B) → ((f : ℕ) → o ≡ fail f → P (fail f)) → ((a τ : ℕ) → o ≡ ok (place a τ) → P (k a τ)) → P (on_place o k)
  unfolding on_place and_then placed
  g_place (ok (place a τ)) k f g = g a τ refl
  g_place (ok (value τ ws)) k f g = lost
  g_place (ok (text ws)) k f g = lost
  g_place (fail n) k f g = f n refl
  g_place stuck k f g = lost

  pub g_value : (o : Outcome Operand) (k : ℕ → List ℕ → Outcome B) → ((f : ℕ) → o ≡ fail f → P (fail f)) → ((τ : ℕ) (ws : List ℕ) → o ≡ ok (value τ ws) → P (k τ ws)) → P (on_value o k)
  unfolding on_value and_then valued
  g_value (ok (place a τ)) k f g = lost
  g_value (ok (value τ ws)) k f g = g τ ws refl
  g_value (ok (text ws)) k f g = lost
  g_value (fail n) k f g = f n refl
  g_value stuck k f g = lost

  pub g_typed : (o : Outcome Operand) (k : NodeType → List ℕ → Outcome B) → ((f : ℕ) → o ≡ fail f → P (fail f)) → ((τ : ℕ) (ws : List ℕ) → o ≡ ok (value τ ws) → P (k (numbered τ) ws))
      → ((ws : List ℕ) → o ≡ ok (text ws) → P (k (string (length ws)) ws)) → P (on_typed o k)
  unfolding on_typed and_then typed_words
  g_typed (ok (place a τ)) k f g h = lost
  g_typed (ok (value τ ws)) k f g h = g τ ws refl
  g_typed (ok (text ws)) k f g h = h ws refl
  g_typed (fail n) k f g h = f n refl
  g_typed stuck k f g h = lost

  pub g_passed : (n : ℕ) (ws : List ℕ) (k : Match) (Q : List ℕ → Outcome B) → (k ≡ equal → P (Q ws)) → (k ≡ fitted → P (Q (fit n ws))) → P (and_then (passed n ws k) Q)
  unfolding passed and_then
  g_passed n ws equal Q f g = f refl
  g_passed n ws fitted Q f g = g refl
  g_passed n ws unfit Q f g = lost

  pub g_word : (o : Outcome Operand) (τ : ℕ) (k : ℕ → Outcome B) → ((f : ℕ) → o ≡ fail f → P (fail f)) → ((σ : ℕ) (ws : List ℕ) → o ≡ ok (value σ ws) → P (k (word_of ws))) → P (on_word o τ k)
  unfolding on_word
  g_word o τ k f g = g_value o _ f (λ σ ws e. g_need (eqb σ τ) _ (g σ ws e))

  pub g_record : (E : TypeEntry) (k : ℕ → ℕ → Outcome B) → ((a b : ℕ) → P (k a b)) → P (on_record E k)
  unfolding on_record
  g_record integer k g = lost
  g_record boolean k g = lost
  g_record character k g = lost
  g_record (record_type a b) k g = g a b
  g_record (array_type ι σ low high) k g = lost
  g_record (process_type μ) k g = lost
  g_record no_type k g = lost

  pub g_array : (E : TypeEntry) (k : ℕ → ℕ → ℕ → ℕ → Outcome B) → ((ι σ low high : ℕ) → E ≡ array_type ι σ low high → P (k ι σ low high)) → P (on_array E k)
  unfolding on_array
  g_array integer k g = lost
  g_array boolean k g = lost
  g_array character k g = lost
  g_array (record_type a b) k g = lost
  g_array (array_type ι σ low high) k g = g ι σ low high refl
  g_array (process_type μ) k g = lost
  g_array no_type k g = lost

  pub g_module : (E : TypeEntry) (k : ℕ → Outcome B) → ((μ : ℕ) → E ≡ process_type μ → P (k μ)) → P (on_module E k)
  unfolding on_module
  g_module integer k g = lost
  g_module boolean k g = lost
  g_module character k g = lost
  g_module (record_type a b) k g = lost
  g_module (array_type ι σ low high) k g = lost
  g_module (process_type μ) k g = g μ refl
  g_module no_type k g = lost
