-- Inner: for code and proofs only; no public promise is said with these definitions.
-- What the parts of the soundness proof claim of each other: values and places, evaluation, steps. Each is proved in proofs/. Assumes nothing.
use Rattle.std.specs.Prelude.{ℕ, ◌+◌, ◌*◌, ◌≤◌, ◌<◌, ◌≡◌, true, List, length, get_or}
use Rattle.table.specs.Table.{Table}
use Rattle.table.specs.Entries.{type_count, field_type}
use Rattle.types.specs.Types.{NodeType, numbered, string}
use Rattle.types.specs.Match.{elements}
use Rattle.sizes.specs.Sizes.{words_of, offset_in}
use Rattle.machine.specs.Memory.{Memory, words_at, store}
use Rattle.machine.specs.Layout.{status_at, frame_at, works_at, depth_at}
use Rattle.machine.specs.Outcomes.{Outcome, ok, fail, Operand, place, value, text, is_failure}
use Rattle.machine.specs.Entries.{record_type, array_type, type_at}
use Rattle.machine.specs.Processes.{refers}
use Rattle.machine.specs.Values.{holds, part}
use Rattle.machine.specs.Rule.{is_created, lives, rule}

-- ---- values and places

-- each reference of m is one of n
pub record Keeps (m n : Memory) : Type 0 where
  pub refs : (μ r : ℕ) → refers m μ r ≡ true → refers n μ r ≡ true

-- ws is a value of type τ for the processes of m: wherever its words stand, a value of τ stands
pub record IsValue (T : Table) (m : Memory) (τ : ℕ) (ws : List ℕ) : Type 0 where
  pub long : length ws ≡ words_of T τ
  pub anywhere : (n : Memory) (a : ℕ) → Keeps m n → words_at n a (words_of T τ) ≡ ws → holds T n τ a ≡ true

-- ws are n characters
pub record IsText (n : ℕ) (ws : List ℕ) : Type 0 where
  pub long : length ws ≡ n
  pub letters : (i : ℕ) → get_or ws i 0 ≤ 127

-- the words that an expression of a type has: a value, or the characters of a string constant
unfoldable pub Words : Table → Memory → NodeType → List ℕ → Type 0
Words T m (numbered τ) ws = IsValue T m τ ws
Words T m (string n) ws = IsText n ws

pub record PlaceLaws (T : Table) : Type 0 where
  -- a value stays one where its words and the references stay
  pub holds_same : (m n : Memory) (τ a : ℕ) → Keeps m n → ((k : ℕ) → k < words_of T τ → n (a + k) ≡ m (a + k)) → holds T m τ a ≡ true → holds T n τ a ≡ true
  -- a type has at least one word
  pub some_words : (τ : ℕ) → τ < 3 + type_count T → 1 ≤ words_of T τ
  -- parts
  pub part_self : (τ : ℕ) → part T τ τ 0 ≡ true
  pub part-in : (τ σ k : ℕ) → σ < 3 + type_count T → part T τ σ k ≡ true → (τ < 3 + type_count T) × (k + words_of T τ ≤ words_of T σ)
  pub part_field : (σ ρ k first count i : ℕ) → ρ < 3 + type_count T → part T σ ρ k ≡ true → type_at T σ ≡ record_type first count → i < count → part T (field_type T (first + i)) ρ (k + offset_in T σ i) ≡ true
  pub part_element : (σ ρ k ι ε low high i : ℕ) → ρ < 3 + type_count T → part T σ ρ k ≡ true → type_at T σ ≡ array_type ι ε low high → i < elements T σ → part T ε ρ (k + i * words_of T ε) ≡ true
  pub part_holds : (m : Memory) (τ σ a k : ℕ) → σ < 3 + type_count T → holds T m σ a ≡ true → part T τ σ k ≡ true → holds T m τ (a + k) ≡ true
  -- what is retrieved is a value; a value that is stored in a part leaves the whole with one
  pub retrieved : (m : Memory) (τ a : ℕ) → τ < 3 + type_count T → holds T m τ a ≡ true → IsValue T m τ (words_at m a (words_of T τ))
  pub stored : (m : Memory) (τ σ a k : ℕ) (ws : List ℕ) → σ < 3 + type_count T → holds T m σ a ≡ true → part T τ σ k ≡ true → IsValue T m τ ws → Keeps m (store m (a + k) ws) → holds T (store m (a + k) ws) σ a ≡ true
  -- words that are 0 are a value of every type: references are empty
  pub zero_holds : (m : Memory) (τ a : ℕ) → τ < 3 + type_count T → ((k : ℕ) → k < words_of T τ → m (a + k) ≡ 0) → holds T m τ a ≡ true

-- ---- evaluation

-- process p is started, in a state that meets the rule
pub record Started (T : Table) (m : Memory) (p : ℕ) : Type 0 where
  pub ruled : rule T m ≡ true
  pub created : is_created m p ≡ true
  pub started : m (status_at p) ≡ 2

-- what an operand of a type may come to: a live variable, a value, a text, or a listed failure; never stuck
pub data Good (T : Table) (m : Memory) (p : ℕ) : NodeType → Outcome Operand → Type 0 where
  selects : {τ : ℕ} (a : ℕ) → lives T m p (m (depth_at p)) (m (frame_at p)) (m (works_at p)) τ a ≡ true → Good T m p (numbered τ) (ok (place a τ))
  yields : {τ : ℕ} (ws : List ℕ) → IsValue T m τ ws → Good T m p (numbered τ) (ok (value τ ws))
  spells : {k : ℕ} (ws : List ℕ) → IsText k ws → Good T m p (string k) (ok (text ws))
  fails : {κ : NodeType} (n : ℕ) → is_failure n ≡ true → Good T m p κ (fail n)
