-- Trusted: public promises are said with these definitions.
-- Space (13; 02, i): what a module reserves for calls of its procedures, and what a process's own calls take of it. Assumes nothing.
use Rattle.std.specs.Prelude.{ℕ, zero, suc, ◌+◌, ◌/◌, Bool, eqb, ltb}
use Rattle.basics.specs.Choice.{pick, both}
use Rattle.table.specs.Table.{Table}
use Rattle.table.specs.Entries.{block_count, owner, space}
use Rattle.sizes.specs.Sizes.{sum_below}
use Rattle.machine.specs.Memory.{Memory}
use Rattle.machine.specs.Layout.{module_at, depth_at, caller_frame, caller_works, called_block}
use Rattle.machine.specs.Variables.{frame_words, is_procedure}
use Rattle.machine.specs.Context.{Context}

-- the words of a call of procedure q: four links, then its variables
unfoldable pub call_words : Table → ℕ → ℕ
call_words T q = 4 + frame_words T q

-- block q is a procedure whose owner is μ: a module or, for process 1, block 0
unfoldable pub is_procedure_of : Table → ℕ → ℕ → Bool
is_procedure_of T μ q = both (is_procedure T q) (eqb (owner T q) μ)

-- the words of one call of each procedure of module μ whose number is below n
unfoldable pub each_once : Table → ℕ → ℕ → ℕ
each_once T μ n = sum_below n (λ q. pick (is_procedure_of T μ q) (call_words T q) 0)

-- THE RESERVE of module μ: room for each of its procedures once, and for its space, which is in bytes (13)
unfoldable pub reserve : Table → ℕ → ℕ
reserve T μ = each_once T μ (block_count T) + space T μ / 2

-- of d calls of process p, the innermost of which has its frame at f: the words of those that it made while it worked on its own variables.
-- It is asked while it does so: then no process call is open, and these are local calls (frames in StateRule of sound)
unfoldable pub own_words : Table → Memory → ℕ → ℕ → ℕ → ℕ
own_words T m p zero f = 0
own_words T m p (suc d) f =
    pick (eqb (caller_works m p f) p) (call_words T (called_block m p f)) 0 + own_words T m p d (caller_frame m p f)

module _ (T : Table) (m : Memory) (x : Context) where
  -- the words of the process's own calls and of one more, of procedure q
  unfoldable pub own_after : ℕ → ℕ
  own_after q = own_words T m x.process (m (depth_at x.process)) x.frame + call_words T q

  -- the process works on its own variables, and with a call of procedure q its own calls pass the reserve of its module
  unfoldable pub space_full : ℕ → Bool
  space_full q = both (eqb x.works x.process) (ltb (reserve T (m (module_at x.process))) (own_after q))
