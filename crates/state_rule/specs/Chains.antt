-- Inner: for code and proofs only; no public promise is said with these definitions.
-- The calls of a process and the processes of a state, as the passes of the state rule test them. Assumes nothing.
use Rattle.std.specs.Prelude.{ℕ, ◌+◌, ◌*◌, ◌≤◌, ◌≡◌, Bool, true, not, eqb, leb}
use Rattle.basics.specs.Choice.{pick, both, all_below, between}
use Rattle.table.specs.Table.{Table}
use Rattle.table.specs.Entries.{owner}
use Rattle.sizes.specs.Sizes.{module_words}
use Rattle.machine.specs.Memory.{Memory}
use Rattle.machine.specs.Layout.{module_at, status_at, created_at, call_statement, called_block}
use Rattle.machine.specs.Entries.{stmt_at}
use Rattle.machine.specs.Variables.{frame_words, is_procedure}
use Rattle.machine.specs.Rule.{lies_in, calls, holds_on, works_by, frames_hold, frame_ok, chain, started_ok, process_ok}

-- r is v, the words of the variables of a block
pub record Sum (v r : ℕ) : Type 0 where
  pub is : r ≡ v
  pub small : r ≤ 14000000

-- a sum over rows: those below i have k words
pub record Summed (begin : ℕ → ℕ) (i k : ℕ) : Type 0 where
  pub is : k ≡ begin i
  pub small : k ≤ i * 200

-- w is a process of block b that has been started
unfoldable pub started_of : Memory → ℕ → ℕ → Bool
started_of m b w = both (both (between 1 (m created_at) w) (not (eqb (m (status_at w)) 1))) (eqb b (m (module_at w)))

-- the frame of procedure q at f ends at top, within the area
unfoldable pub frame_fits : Table → ℕ → ℕ → ℕ → Bool
frame_fits T f top q = both (leb (f + 4) 256) (both (leb top 256) (eqb (f + 4 + frame_words T q) top))

module _ (T : Table) (m : Memory) where
  -- q is a procedure of the block of process w, which has been started
  unfoldable pub called_ok : ℕ → ℕ → Bool
  called_ok w q = both (is_procedure T q) (started_of m (owner T q) w)

  -- statement i calls procedure q and makes process p work on w
  unfoldable pub call_made : ℕ → ℕ → ℕ → ℕ → ℕ → ℕ → Bool
  call_made p d f w q i = both (calls q (stmt_at T i)) (works_by T m p d f w (stmt_at T i))

  -- one call of a chain, the frame at f, d calls below it
  unfoldable pub call_ok : ℕ → ℕ → ℕ → ℕ → ℕ → ℕ → Bool
  call_ok p d f w c top =
      both (frame_ok T m f w c top (called_block m p f))
      (both (holds_on T m p w)
      (both (call_made p d f w (called_block m p f) (call_statement m p f))
      (frames_hold T m p d f (called_block m p f))))

  -- what stands below the calls
  unfoldable pub base_ok : ℕ → ℕ → ℕ → ℕ → ℕ → Bool
  base_ok p f w c top =
      both (both (eqb f 0) (eqb w p))
      (both (holds_on T m p w)
      (both (lies_in T (m (module_at p)) c)
      (eqb top (module_words T (m (module_at p))))))

  -- the n calls that are left to test, the innermost of them with its frame at f: they hold where all hold
  pub record Left (p n f w c top : ℕ) : Type 0 where
    pub is : chain T m p n f w c top ≡ started_ok T m p

  unfoldable pub running_ok : ℕ → Bool
  running_ok p = pick (eqb (m (status_at p)) 2) (started_ok T m p) true

  unfoldable pub process_row : ℕ → Bool
  process_row i = process_ok T m (i + 1)

  unfoldable pub processes_hold : Bool
  processes_hold = all_below (m created_at) process_row
