-- States that meet the rule until one word is changed, by computation. Assumes nothing.
use Prim.Native.Nat.{ℕ}
use mathlib.Core.Path.{◌≡◌, refl}
use mathlib.Core.Bool.{Bool, true, false}
use mathlib.Core.List.{List, [], ◌∷◌}
use Rattle.table.specs.Table.{Table}
use Rattle.machine.specs.Memory.{zeros, update}
use Rattle.machine.specs.Layout.{location, status_at, module_at, statement_at, frame_at, top_at, works_at, holder_at, depth_at, created_at, failure_at}
use Rattle.machine.specs.Rule.{rule}
use Rattle.machine.proofs.Programs.{run_on, state_of}
use Rattle.machine.proofs.Examples.{cell, fetching}

-- the rule at the state that a run leaves, with word i changed to v
unfoldable pub with_word : Table → List ℕ → ℕ → ℕ → Bool
unfolding run_on state_of
with_word T schedule i v = rule T (update (state_of (run_on T zeros schedule)) i v)

-- process 1 has created and started process 2, whose only variable is a boolean
abbrev started : List ℕ
started = 1 ∷ 1 ∷ []

pub cell_rule :
    (with_word cell started (location 2 0) 1 ≡ true)
    × (with_word cell started (location 2 0) 2 ≡ false)
    × (with_word cell started (location 1 0) 0 ≡ true)
    × (with_word cell started (location 1 0) 1 ≡ false)
    × (with_word cell started (location 1 0) 3 ≡ false)
    × (with_word cell started created_at 0 ≡ false)
    × (with_word cell started created_at 65 ≡ false)
    × (with_word cell started failure_at 16 ≡ true)
    × (with_word cell started failure_at 15 ≡ false)
    × (with_word cell started (status_at 2) 4 ≡ false)
    × (with_word cell started (status_at 1) 1 ≡ false)
    × (with_word cell started (module_at 2) 2 ≡ false)
    × (with_word cell started (statement_at 2) 9 ≡ true)
    × (with_word cell started (statement_at 2) 10 ≡ false)
    × (with_word cell started (works_at 2) 1 ≡ false)
    × (with_word cell started (holder_at 2) 1 ≡ true)
    × (with_word cell started (holder_at 2) 3 ≡ false)
    × (with_word cell started (depth_at 2) 1 ≡ false)
unfolding with_word
cell_rule =
    (refl, refl, refl, refl, refl, refl, refl, refl, refl, refl, refl, refl, refl, refl, refl, refl, refl, refl)

-- process 1 is inside its call s.get(y): its variables are words 0 (s) and 1 (y), its frame begins at word 2, and the var parameter x at
-- word 6 names word 1. It may name no integer of process 2, on which the call works (an argument is selected before), no reference and no
-- word that is not in use. Process 1 holds the variables of process 2, which has been started
abbrev inside : List ℕ
inside = 1 ∷ 1 ∷ 1 ∷ 2 ∷ 2 ∷ 1 ∷ []

pub fetching_rule :
    (with_word fetching inside (location 1 6) 1 ≡ true)
    × (with_word fetching inside (location 1 6) 256 ≡ false)
    × (with_word fetching inside (location 1 6) 0 ≡ false)
    × (with_word fetching inside (location 1 6) 6 ≡ false)
    × (with_word fetching inside (location 1 6) 257 ≡ false)
    × (with_word fetching inside (location 1 6) 512 ≡ false)
    × (with_word fetching inside (location 1 2) 1 ≡ false)
    × (with_word fetching inside (location 1 3) 2 ≡ false)
    × (with_word fetching inside (location 1 4) 2 ≡ false)
    × (with_word fetching inside (location 1 5) 1 ≡ false)
    × (with_word fetching inside (frame_at 1) 3 ≡ false)
    × (with_word fetching inside (top_at 1) 8 ≡ false)
    × (with_word fetching inside (works_at 1) 1 ≡ false)
    × (with_word fetching inside (holder_at 2) 0 ≡ false)
    × (with_word fetching inside (holder_at 2) 2 ≡ false)
    × (with_word fetching inside (holder_at 1) 2 ≡ false)
    × (with_word fetching inside (status_at 2) 1 ≡ false)
unfolding with_word
fetching_rule = (refl, refl, refl, refl, refl, refl, refl, refl, refl, refl, refl, refl, refl, refl, refl, refl, refl)
