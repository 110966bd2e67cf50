-- Runs of programs with recursive procedures, by computation (13; 02, i). Assumes nothing.
use Prim.Native.Nat.{ℕ}
use mathlib.Core.Path.{◌≡◌, refl}
use mathlib.Core.Bool.{true}
use mathlib.Core.List.{List, [], ◌∷◌}
use Rattle.table.specs.Table.{Table}
use Rattle.machine.proofs.Rows.{table_from, arrays, processes, local, initial, reserving, process, procedure}
use Rattle.machine.proofs.Rows.{whole, local_call, process_call, create, start, skip, block_end}
use Rattle.machine.proofs.Programs.{answers, keeps}

-- type block = array 1..50 of integer
-- procedure again  var b: block  begin again end   begin again end.
-- a frame of 54 words is reserved, and half the program's space
abbrev pub recursion : ℕ → Table
recursion space = table_from record {
  types = arrays 0 0 1 50 ∷ [];
  fields = [];
  variables = local 3 ∷ [];
  blocks = reserving space 0 0 ∷ procedure 0 0 0 1 2 ∷ [];
  arguments = [];
  nodes = [];
  statements = local_call 1 0 0 ∷ block_end 0 ∷ local_call 1 0 0 ∷ block_end 1 ∷ [];
}

abbrev pub recursion_schedule : List ℕ
recursion_schedule = 1 ∷ 1 ∷ 1 ∷ 1 ∷ 1 ∷ 1 ∷ []

-- 108 bytes are room for one call more, 106 are not; with 510 four frames fit the 256 words of the area
pub recursion_runs :
    (answers (recursion 0) recursion_schedule ≡ 0 ∷ 22 ∷ 22 ∷ 22 ∷ 22 ∷ 22 ∷ [])
    × (answers (recursion 106) recursion_schedule ≡ 0 ∷ 22 ∷ 22 ∷ 22 ∷ 22 ∷ 22 ∷ [])
    × (answers (recursion 108) recursion_schedule ≡ 0 ∷ 0 ∷ 22 ∷ 22 ∷ 22 ∷ 22 ∷ [])
    × (answers (recursion 510) recursion_schedule ≡ 0 ∷ 0 ∷ 0 ∷ 0 ∷ 22 ∷ 22 ∷ [])
    × (keeps (recursion 510) recursion_schedule ≡ true)
unfolding answers keeps
recursion_runs = (refl, refl, refl, refl, refl)

-- process unit  procedure again  var b: block  begin again end  begin skip end
-- var u: unit  begin create u; start u; u.again end.
-- inside the call of process 2, whose module reserves 54 words, process 1 goes on to the end of its own area
abbrev pub elsewhere : Table
elsewhere = table_from record {
  types = processes 1 ∷ arrays 0 0 1 50 ∷ [];
  fields = [];
  variables = local 3 ∷ local 4 ∷ [];
  blocks = initial 1 0 ∷ process 1 1 0 0 4 ∷ procedure 1 1 0 1 6 ∷ [];
  arguments = [];
  nodes = whole 0 ∷ whole 0 ∷ whole 0 ∷ [];
  statements =
      create 0 ∷ start 1 0 0 ∷ process_call 2 2 0 0 ∷ block_end 0 ∷
      skip ∷ block_end 1 ∷
      local_call 2 0 0 ∷ block_end 2 ∷ [];
}

pub elsewhere_runs :
    answers elsewhere (1 ∷ 1 ∷ 2 ∷ 2 ∷ 1 ∷ 1 ∷ 1 ∷ 1 ∷ 1 ∷ []) ≡ 0 ∷ 0 ∷ 0 ∷ 2 ∷ 0 ∷ 0 ∷ 0 ∷ 0 ∷ 22 ∷ []
unfolding answers
elsewhere_runs = refl
