-- Steps from states with one word changed, by computation: where the step is stuck, the state breaks its rule. Assumes nothing.
use Prim.Native.Nat.{ℕ}
use mathlib.Core.Path.{◌≡◌, refl}
use mathlib.Core.List.{List, [], ◌∷◌}
use Rattle.table.specs.Table.{Table}
use Rattle.machine.specs.Memory.{zeros, update}
use Rattle.machine.specs.Layout.{location, status_at, module_at, statement_at, frame_at, top_at, works_at, holder_at, depth_at, created_at, failure_at, locations}
use Rattle.machine.specs.Run.{Run, stuck, run}
use Rattle.machine.specs.Public.{look}
use Rattle.machine.proofs.Spaces.{recursion}
use Rattle.machine.proofs.Programs.{run_on, state_of, answers_of}
use Rattle.machine.proofs.Examples.{cell, creating, fetching, holding}

-- the run of a schedule from the state that another leaves, with word i changed to v
unfoldable pub from_word : Table → List ℕ → ℕ → ℕ → List ℕ → Run
unfolding run_on state_of
from_word T first i v schedule = run T schedule (update (state_of (run_on T zeros first)) i v) zeros

-- process 2 is blocked at its when, statement 5; process 1 stands at its call, statement 2
abbrev blocked : List ℕ
blocked = 1 ∷ 1 ∷ 2 ∷ []

-- the statement; the status; the number of processes and the failure; the process worked on
pub cell_steps :
    (answers_of (from_word cell blocked (statement_at 2) 9 (2 ∷ [])) ≡ 2 ∷ [])
    × (from_word cell blocked (statement_at 2) 12 (2 ∷ []) ≡ stuck)
    × (answers_of (from_word cell blocked (status_at 2) 3 (2 ∷ [])) ≡ 2 ∷ [])
    × (from_word cell blocked (status_at 2) 0 (2 ∷ []) ≡ stuck)
    × (from_word cell blocked (status_at 2) 4 (2 ∷ []) ≡ stuck)
    × (from_word cell blocked created_at 0 (1 ∷ []) ≡ stuck)
    × (from_word cell blocked created_at 65 (1 ∷ []) ≡ stuck)
    × (answers_of (from_word cell blocked failure_at 17 (1 ∷ [])) ≡ 17 ∷ [])
    × (from_word cell blocked failure_at 15 (1 ∷ []) ≡ stuck)
    × (from_word cell blocked failure_at 25 (1 ∷ []) ≡ stuck)
    × (answers_of (from_word cell blocked (works_at 1) 1 (1 ∷ [])) ≡ 0 ∷ [])
    × (from_word cell blocked (works_at 1) 2 (1 ∷ []) ≡ stuck)
    × (from_word cell blocked (works_at 1) 3 (1 ∷ []) ≡ stuck)
    × (from_word cell blocked (works_at 1) 0 (1 ∷ []) ≡ stuck)
unfolding from_word answers_of
cell_steps = (refl, refl, refl, refl, refl, refl, refl, refl, refl, refl, refl, refl, refl, refl)

-- a reference is empty or names a created process of its module: process 1 is to start b, process 3, and process 2 is of another module
pub holding_steps :
    (answers_of (from_word holding (1 ∷ 1 ∷ []) (location 1 1) 3 (1 ∷ [])) ≡ 0 ∷ [])
    × (answers_of (from_word holding (1 ∷ 1 ∷ []) (location 1 1) 0 (1 ∷ [])) ≡ 19 ∷ [])
    × (from_word holding (1 ∷ 1 ∷ []) (location 1 1) 1 (1 ∷ []) ≡ stuck)
    × (from_word holding (1 ∷ 1 ∷ []) (location 1 1) 2 (1 ∷ []) ≡ stuck)
    × (from_word holding (1 ∷ 1 ∷ []) (location 1 1) 4 (1 ∷ []) ≡ stuck)
unfolding from_word answers_of
holding_steps = (refl, refl, refl, refl, refl)

-- process 1 is inside its call s.get(y), statement 3: its frame begins at word 2, the call statement is word 3, the procedure word 5, and
-- the var parameter word 6
abbrev inside : List ℕ
inside = 1 ∷ 1 ∷ 1 ∷ 2 ∷ 2 ∷ 1 ∷ []

pub fetching_steps :
    (answers_of (from_word fetching inside (location 1 3) 3 (1 ∷ 1 ∷ [])) ≡ 0 ∷ 0 ∷ [])
    × (from_word fetching inside (location 1 3) 0 (1 ∷ 1 ∷ []) ≡ stuck)
    × (from_word fetching inside (location 1 3) 9 (1 ∷ 1 ∷ []) ≡ stuck)
    × (from_word fetching inside (location 1 5) 0 (1 ∷ []) ≡ stuck)
    × (from_word fetching inside (location 1 5) 3 (1 ∷ []) ≡ stuck)
    × (from_word fetching inside (location 1 6) locations (1 ∷ []) ≡ stuck)
    × (from_word fetching inside (frame_at 1) 253 (1 ∷ []) ≡ stuck)
    × (from_word fetching inside (module_at 2) 0 (1 ∷ []) ≡ stuck)
unfolding from_word answers_of
fetching_steps = (refl, refl, refl, refl, refl, refl, refl, refl)

-- an area has 256 words, and no more than 64 calls
pub recursion_steps :
    (answers_of (from_word (recursion 510) [] (top_at 1) 202 (1 ∷ [])) ≡ 0 ∷ [])
    × (answers_of (from_word (recursion 510) [] (top_at 1) 203 (1 ∷ [])) ≡ 22 ∷ [])
    × (answers_of (from_word (recursion 510) [] (depth_at 1) 63 (1 ∷ [])) ≡ 0 ∷ [])
    × (from_word (recursion 510) [] (depth_at 1) 64 (1 ∷ []) ≡ stuck)
unfolding from_word answers_of
recursion_steps = (refl, refl, refl, refl)

-- 64 processes: the next create answers 24
pub creating_steps :
    (answers_of (from_word creating [] created_at 63 (1 ∷ [])) ≡ 0 ∷ [])
    × (answers_of (from_word creating [] created_at 64 (1 ∷ [])) ≡ 24 ∷ [])
unfolding from_word answers_of
creating_steps = (refl, refl)

-- a created process has its variables and its record cleared, whatever stood there
pub cleared_steps :
    (look cell (state_of (from_word cell [] (location 2 0) 1 (1 ∷ 1 ∷ []))) 2 1 0 ≡ 65536)
    × (state_of (from_word cell [] (holder_at 2) 1 (1 ∷ [])) (holder_at 2) ≡ 0)
unfolding from_word state_of
cleared_steps = (refl, refl)
