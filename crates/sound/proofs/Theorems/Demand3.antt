-- DEMAND 3 of the calls with the checker's verdict (01, A run, for demand 3). Assumes nothing.
use Prim.Native.Nat.{ℕ, ◌+◌}
use mathlib.Core.Path.{◌≡◌, sym, ap, ◌∙◌}
use mathlib.Core.Bool.{true}
use native.Mathlib.Omega.{arith}
use lib.ListN.{length, take}
use lib.Seq.{take_all}
use Rattle.table.specs.Table.{table_of}
use Rattle.machine.specs.Memory.{memory_of}
use Rattle.machine.specs.Rule.{rule}
use Rattle.verdict.specs.Verdict.{verdict}
use Rattle.verdict.proofs.Promise.{promise}
use Rattle.sound.specs.Histories.{asked, told, History, first, steps}
use Rattle.sound.specs.Demand.{Demand3}
use Rattle.sound.proofs.Runs.Demand3FromLaws as demand
use Rattle.sound.proofs.Steps.StepLaws.{begin_ruled, step_laws}

-- THE THEOREM
pub demand3 : (w : ℕ) (h : History verdict w) → Demand3 verdict w h
demand3 w h = demand.demand3 verdict w (promise w) step_laws begin_ruled h

pub first_ruled : (w : ℕ) (h : History verdict w) → rule (table_of w h.table) (memory_of (first verdict w h)) ≡ true
first_ruled w h = demand.first_ruled verdict w (promise w) step_laws begin_ruled h

-- and so runs begun alike of which the same is asked tell the same, to the last step
pub agree_whole : (w : ℕ) (h k : History verdict w) → k.table ≡ h.table → k.number ≡ h.number → asked (steps verdict w k) ≡ asked (steps verdict w h) → told (steps verdict w k) ≡ told (steps verdict w h)
agree_whole w h k e o q =
    let n = length (told (steps verdict w k)) + length (told (steps verdict w h)) in
    sym (take_all n (told (steps verdict w k)) (omega arith))
    ∙ (demand3 w h).agrees k e o n (ap (take n) q)
    ∙ take_all n (told (steps verdict w h)) (omega arith)
