-- Trusted: public promises are said with these definitions.
-- What a var parameter is bound to stays: what its argument selected (01, A run, for demand 3). Assumes nothing.
use Rattle.std.specs.Prelude.{ℕ, ◌+◌, ◌<◌, ◌≡◌}
use Rattle.table.specs.Table.{Table}
use Rattle.table.specs.Entries.{var_mode, first_var, vars}
use Rattle.machine.specs.Memory.{Memory}
use Rattle.machine.specs.Layout.{location, called_block}
use Rattle.machine.specs.Variables.{offset_of}
use Rattle.sound.specs.InUse.{CallAt}

-- word j of the area of process p is a link of the frame at f, or the word of a var parameter there
pub data FrameWord (T : Table) (m : Memory) (p f : ℕ) : ℕ → Type 0 where
  link : {j : ℕ} (k : ℕ) → k < 4 → j ≡ f + k → FrameWord T m p f j
  bound : {j : ℕ} (i : ℕ) → i < vars T (called_block m p f) → var_mode T (first_var T (called_block m p f) + i) ≡ 2
      → j ≡ f + 4 + offset_of T (called_block m p f) (first_var T (called_block m p f) + i) → FrameWord T m p f j

-- from state m to state s, no call that has not ended in m has its links or var parameters changed
pub record BindingsKept (T : Table) (m s : Memory) : Type 0 where
  pub kept : (p d f j : ℕ) → CallAt T m p d f → FrameWord T m p f j → s (location p j) ≡ m (location p j)
