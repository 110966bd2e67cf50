-- Outcomes of one definition in two states: the second is like the first, unless the first retrieves an unmarked word (31). Assumes nothing.
use Prim.Native.Nat.{ℕ}
use mathlib.Core.Path.{◌≡◌, refl, ap, ◌∙◌}
use mathlib.Core.Bool.{Bool, true, false}
use mathlib.Core.List.{List}
use lib.ListN.{length}
use lib.Dec.{eqb}
use Rattle.basics.specs.Choice.{pick}
use Rattle.types.specs.Types.{NodeType, numbered, string}
use Rattle.machine.specs.Outcomes.{Outcome, ok, fail, stuck, and_then, need, fail_where, Operand, place, value, text, placed, valued, typed_words, on_place, on_value, on_typed, word_of, on_word}
use Rattle.machine.specs.Entries.{TypeEntry, integer, boolean, character, record_type, array_type, process_type, no_type, Opener, Statement, skip, assign, local_call, process_call, create, start, opener, arm, end_arms, write, block_end, no_statement}
use Rattle.machine.specs.Operands.{on_array}
use Rattle.machine.specs.Processes.{on_module}
use Rattle.machine.specs.Statements.{on_arms, on_opener}

-- results that R relates, the same failure, both stuck; nothing is asked after 31
pub data Meets {A : Type 0} (R : A → A → Type 0) : Outcome A → Outcome A → Type 0 where
  gives : {y z : A} → R y z → Meets R (ok y) (ok z)
  fails : {n : ℕ} → Meets R (fail n) (fail n)
  strays : Meets R stuck stuck
  unset : {u : Outcome A} → Meets R (fail 31) u

-- the results are equal
pub Equal : {A : Type 0} → A → A → Type 0
Equal y z = z ≡ y

abbrev pub Same : {A : Type 0} → Outcome A → Outcome A → Type 0
Same o u = Meets Equal o u

pub same : {A : Type 0} (o : Outcome A) → Same o o
unfolding Equal
same (ok y) = gives refl
same (fail n) = fails
same stuck = strays

module _ {B : Type 0} (R : B → B → Type 0) where
  pub m_then : {A : Type 0} (o u : Outcome A) (f g : A → Outcome B) → Same o u → ((y : A) → o ≡ ok y → Meets R (f y) (g y)) → Meets R (and_then o f) (and_then u g)
  unfolding and_then Equal
  m_then _ _ f g (gives {y = y} e) h = rw e (h y refl)
  m_then _ _ f g fails h = fails
  m_then _ _ f g strays h = strays
  m_then _ _ f g unset h = unset

  pub m_test : (b : Bool) (o u : Outcome B) → (b ≡ true → Meets R o u) → Meets R (need b o) (need b u)
  unfolding need
  m_test true o u h = h refl
  m_test false o u h = strays

  pub m_where : (b : Bool) (n : ℕ) (o u : Outcome B) → (b ≡ false → Meets R o u) → Meets R (fail_where b n o) (fail_where b n u)
  unfolding fail_where
  m_where true n o u h = fails
  m_where false n o u h = h refl

  -- a word that is marked in the second state
  pub m_unset : (b c : Bool) (o u : Outcome B) → c ≡ false → Meets R o u → Meets R (fail_where b 31 o) (fail_where c 31 u)
  unfolding fail_where
  m_unset true c o u e h = unset
  m_unset false c o u e h = rw e h

  pub m_pick : (b : Bool) (o o' u u' : Outcome B) → (b ≡ true → Meets R o u) → (b ≡ false → Meets R o' u') → Meets R (pick b o o') (pick b u u')
  m_pick true o o' u u' f g = f refl
  m_pick false o o' u u' f g = g refl

  placed_meets : (y : Operand) (f g : ℕ → ℕ → Outcome B) → ((a τ : ℕ) → y ≡ place a τ → Meets R (f a τ) (g a τ)) → Meets R (placed y f) (placed y g)
  unfolding placed
  placed_meets (place a τ) f g h = h a τ refl
  placed_meets (value τ ws) f g h = strays
  placed_meets (text ws) f g h = strays

  valued_meets : (y : Operand) (f g : ℕ → List ℕ → Outcome B) → ((τ : ℕ) (ws : List ℕ) → y ≡ value τ ws → Meets R (f τ ws) (g τ ws)) → Meets R (valued y f) (valued y g)
  unfolding valued
  valued_meets (place a τ) f g h = strays
  valued_meets (value τ ws) f g h = h τ ws refl
  valued_meets (text ws) f g h = strays

  typed_meets : (y : Operand) (f g : NodeType → List ℕ → Outcome B) → ((τ : ℕ) (ws : List ℕ) → y ≡ value τ ws → Meets R (f (numbered τ) ws) (g (numbered τ) ws))
      → ((ws : List ℕ) → y ≡ text ws → Meets R (f (string (length ws)) ws) (g (string (length ws)) ws)) → Meets R (typed_words y f) (typed_words y g)
  unfolding typed_words
  typed_meets (place a τ) f g h k = strays
  typed_meets (value τ ws) f g h k = h τ ws refl
  typed_meets (text ws) f g h k = k ws refl

  pub m_place : (o u : Outcome Operand) (f g : ℕ → ℕ → Outcome B) → Same o u → ((a τ : ℕ) → o ≡ ok (place a τ) → Meets R (f a τ) (g a τ)) → Meets R (on_place o f) (on_place u g)
  unfolding on_place
  m_place o u f g e h = m_then o u _ _ e (λ y q. placed_meets y f g (λ a τ r. h a τ (q ∙ ap ok r)))

  pub m_value : (o u : Outcome Operand) (f g : ℕ → List ℕ → Outcome B) → Same o u → ((τ : ℕ) (ws : List ℕ) → o ≡ ok (value τ ws) → Meets R (f τ ws) (g τ ws)) → Meets R (on_value o f) (on_value u g)
  unfolding on_value
  m_value o u f g e h = m_then o u _ _ e (λ y q. valued_meets y f g (λ τ ws r. h τ ws (q ∙ ap ok r)))

  pub m_typed : (o u : Outcome Operand) (f g : NodeType → List ℕ → Outcome B) → Same o u
      → ((τ : ℕ) (ws : List ℕ) → o ≡ ok (value τ ws) → Meets R (f (numbered τ) ws) (g (numbered τ) ws))
      → ((ws : List ℕ) → o ≡ ok (text ws) → Meets R (f (string (length ws)) ws) (g (string (length ws)) ws)) → Meets R (on_typed o f) (on_typed u g)
  unfolding on_typed
  m_typed o u f g e h k = m_then o u _ _ e (λ y q. typed_meets y f g (λ τ ws r. h τ ws (q ∙ ap ok r)) (λ ws r. k ws (q ∙ ap ok r)))

  pub m_word : (o u : Outcome Operand) (τ : ℕ) (f g : ℕ → Outcome B) → Same o u → ((w : ℕ) → Meets R (f w) (g w)) → Meets R (on_word o τ f) (on_word u τ g)
  unfolding on_word
  m_word o u τ f g e h = m_value o u _ _ e (λ σ ws q. m_test (eqb σ τ) _ _ (λ t. h (word_of ws)))

  pub m_array : (E : TypeEntry) (f g : ℕ → ℕ → ℕ → ℕ → Outcome B) → ((ι σ low high : ℕ) → Meets R (f ι σ low high) (g ι σ low high)) → Meets R (on_array E f) (on_array E g)
  unfolding on_array
  m_array integer f g h = strays
  m_array boolean f g h = strays
  m_array character f g h = strays
  m_array (record_type a b) f g h = strays
  m_array (array_type ι σ low high) f g h = h ι σ low high
  m_array (process_type μ) f g h = strays
  m_array no_type f g h = strays

  pub m_module : (E : TypeEntry) (f g : ℕ → Outcome B) → ((μ : ℕ) → Meets R (f μ) (g μ)) → Meets R (on_module E f) (on_module E g)
  unfolding on_module
  m_module integer f g h = strays
  m_module boolean f g h = strays
  m_module character f g h = strays
  m_module (record_type a b) f g h = strays
  m_module (array_type ι σ low high) f g h = strays
  m_module (process_type μ) f g h = h μ
  m_module no_type f g h = strays

  pub m_arms : (S : Statement) (f f' : ℕ → ℕ → Outcome B) (g g' : ℕ → Outcome B) → ((a l : ℕ) → Meets R (f a l) (f' a l)) → ((l : ℕ) → Meets R (g l) (g' l)) → Meets R (on_arms S f g) (on_arms S f' g')
  unfolding on_arms
  m_arms skip f f' g g' h k = strays
  m_arms (assign a b) f f' g g' h k = strays
  m_arms (local_call q c d) f f' g g' h k = strays
  m_arms (process_call a q c d) f f' g g' h k = strays
  m_arms (create a) f f' g g' h k = strays
  m_arms (start a c d) f f' g g' h k = strays
  m_arms (opener o) f f' g g' h k = strays
  m_arms (arm a l) f f' g g' h k = h a l
  m_arms (end_arms l) f f' g g' h k = k l
  m_arms (write a b) f f' g g' h k = strays
  m_arms block_end f f' g g' h k = strays
  m_arms no_statement f f' g g' h k = strays

  pub m_opener : (S : Statement) (f g : Opener → Outcome B) → ((k : Opener) → Meets R (f k) (g k)) → Meets R (on_opener S f) (on_opener S g)
  unfolding on_opener
  m_opener skip f g h = strays
  m_opener (assign a b) f g h = strays
  m_opener (local_call q c d) f g h = strays
  m_opener (process_call a q c d) f g h = strays
  m_opener (create a) f g h = strays
  m_opener (start a c d) f g h = strays
  m_opener (opener k) f g h = h k
  m_opener (arm a l) f g h = strays
  m_opener (end_arms l) f g h = strays
  m_opener (write a b) f g h = strays
  m_opener block_end f g h = strays
  m_opener no_statement f g h = strays
