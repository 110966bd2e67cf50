-- Inner: for code and proofs only; no public promise is said with these definitions.
-- Rows of the passes over the variables of areas and frames. Assumes nothing.
use Rattle.std.specs.Prelude.{ℕ, ◌+◌, ◌-◌, ◌/◌, ◌%◌, Bool, List, eqb, leb}
use Rattle.basics.specs.Choice.{pick, both}
use Rattle.table.specs.Table.{Table}
use Rattle.table.specs.Entries.{var_mode, var_type, first_var}
use Rattle.machine.specs.Memory.{Memory}
use Rattle.machine.specs.Lent.{State}
use Rattle.machine.specs.Layout.{location, module_at, caller_frame, caller_works, called_block}
use Rattle.machine.specs.Variables.{first_words}
use Rattle.machine.specs.Values.{holds, part_of_block}
use Rattle.machine.specs.Rule.{worked, lives}
use Rattle.values.specs.Heads.{Heads}
use Rattle.values.specs.Jumps.{Jumps}
use Rattle.values.specs.Walks.{SmallSizes}

-- what a test of a state goes by beside the table: the words of the types
pub record StateTest (T : Table) (ws s : List ℕ) : Type 0 where
  pub ready : SmallSizes T ws
  pub state : State s

-- what a search for a live variable goes by: their jumps too
pub record LiveSearch (T : Table) (ws js s : List ℕ) : Type 0 where
  pub ready : SmallSizes T ws
  pub jumps : Jumps T js
  pub state : State s

-- what the test of the state rule goes by: their heads and jumps too
pub record RuleTest (T : Table) (ws hs js s : List ℕ) : Type 0 where
  pub ready : SmallSizes T ws
  pub heads : Heads T hs
  pub jumps : Jumps T js
  pub state : State s

-- variable i of block b passes a test, at the word of the variables where it begins
unfoldable pub variable_row : Table → ℕ → (ℕ → ℕ → Bool) → ℕ → Bool
variable_row T b test i = test (first_var T b + i) (first_words T b i)

module _ (T : Table) (m : Memory) where
  -- variable v has a value of its type at word a of the area of process p
  unfoldable pub variable_holds : ℕ → ℕ → ℕ → Bool
  variable_holds p v a = holds T m (var_type T v) (location p a)

  -- the two ways in which a variable of type τ is live
  unfoldable pub lives_in_module : ℕ → ℕ → ℕ → ℕ → ℕ → ℕ → Bool
  lives_in_module p d f w τ a = both (worked m p d f w (a / 256 + 1)) (part_of_block T (m (module_at (a / 256 + 1))) τ (a % 256))

  unfoldable pub owned_in : ℕ → ℕ → ℕ → ℕ → Bool
  owned_in p f τ k = both (leb (f + 4) k) (part_of_block T (called_block m p f) τ (k - (f + 4)))

  -- variable v at word a of the variables of the frame at f
  unfoldable pub frame_variable_ok : ℕ → ℕ → ℕ → ℕ → ℕ → Bool
  frame_variable_ok p d f v a =
      pick (eqb (var_mode T v) 2)
      (lives T m p d (caller_frame m p f) (caller_works m p f) (var_type T v) (m (location p (f + 4 + a))))
      (variable_holds p v (f + 4 + a))
