-- Trusted: public promises are said with these definitions.
-- Process variables (5.2), and the creation and starting of processes (11.4, 11.5, 13). Assumes nothing.
use Rattle.std.specs.Prelude.{ℕ, Bool, not, List, eqb, leb}
use Rattle.basics.specs.Choice.{both}
use Rattle.table.specs.Table.{Table}
use Rattle.table.specs.Entries.{first_stmt}
use Rattle.machine.specs.Memory.{Memory, update, store, clear}
use Rattle.machine.specs.Layout.{location, record_at, status_at, module_at, holder_at, created_at}
use Rattle.machine.specs.Marks.{marked}
use Rattle.machine.specs.Outcomes.{Outcome, stuck, need, fail_where, Operand, on_place}
use Rattle.machine.specs.Entries.{TypeEntry, integer, boolean, character, record_type, array_type, process_type, no_type, type_at}
use Rattle.sizes.specs.Sizes.{module_words}
use Rattle.machine.specs.Calls.{standing}

unfoldable pub on_module : {A : Type 0} → TypeEntry → (ℕ → Outcome A) → Outcome A
on_module integer f = stuck
on_module boolean f = stuck
on_module character f = stuck
on_module (record_type first count) f = stuck
on_module (array_type ι σ low high) f = stuck
on_module (process_type μ) f = f μ
on_module no_type f = stuck

-- the operand is a variable of a process type: its location and its module
unfoldable pub on_process : {A : Type 0} → Table → Outcome Operand → (ℕ → ℕ → Outcome A) → Outcome A
on_process T o f = on_place o λ a τ. on_module (type_at T τ) λ μ. f a μ

-- r is the number of a created process of module μ
unfoldable pub refers : Memory → ℕ → ℕ → Bool
refers m μ r = both (both (leb 2 r) (leb r (m created_at))) (eqb (m (module_at r)) μ)

-- the process that the variable at a refers to; 31 where it is unmarked (02, g), 19 where its value is empty (11.3, 11.5)
unfoldable pub on_reference : {A : Type 0} → Memory → ℕ → ℕ → (ℕ → Outcome A) → Outcome A
on_reference m a μ f = fail_where (not (marked m a)) 31 (fail_where (eqb (m a) 0) 19 (need (refers m μ (m a)) (f (m a))))

-- process n is created, of module μ: its variables are 0 and its record says no more
unfoldable pub created : Memory → ℕ → ℕ → Memory
created m n μ =
    update
    (update
    (update (clear (clear m (location n 0) 256) (record_at n 0) 20)
    (status_at n) 1)
    (module_at n) μ)
    created_at n

-- process r, of module μ, is started: it has its parameters, holds its own variables and stands at its first statement
unfoldable pub started : Table → Memory → ℕ → ℕ → List ℕ → Memory
started T m r μ ws =
    standing
    (update (update (store m (location r 0) ws) (status_at r) 2) (holder_at r) r)
    r (first_stmt T μ) 0 (module_words T μ) r 0
