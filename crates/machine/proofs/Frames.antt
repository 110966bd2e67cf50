-- What calls and creations leave, by computation: cleared locals, freed frames, and whose variables a process works on. Assumes nothing.
use Prim.Native.Nat.{ℕ}
use mathlib.Core.Path.{◌≡◌, refl}
use mathlib.Core.Bool.{true}
use mathlib.Core.List.{List, [], ◌∷◌}
use Rattle.table.specs.Table.{Table}
use Rattle.machine.proofs.Rows.{table_from, arrays, processes, number, local, by_value, initial, process, procedure}
use Rattle.machine.proofs.Rows.{constant, whole, value, equal, plus}
use Rattle.machine.proofs.Rows.{skip, assign, local_call, process_call, create, start, if, arm, end_arms, write, block_end}
use Rattle.machine.proofs.Programs.{answers, device, looks, keeps}

-- procedure p  var i: integer  begin y := i; i := 7 end
-- var y: integer  begin y := 1; p; p end
-- the second frame lies where the first one lay, and its local is 0 again
abbrev pub repeating : Table
repeating = table_from record {
  types = [];
  fields = [];
  variables = local 0 ∷ local 0 ∷ [];
  blocks = initial 1 0 ∷ procedure 0 1 0 1 4 ∷ [];
  arguments = [];
  nodes = whole 0 ∷ constant 0 1 ∷ whole 0 ∷ whole 1 ∷ value 3 ∷ whole 1 ∷ constant 0 7 ∷ [];
  statements =
      assign 0 1 ∷ local_call 1 0 0 ∷ local_call 1 0 0 ∷ block_end 0 ∷
      assign 2 4 ∷ assign 5 6 ∷ block_end 1 ∷ [];
}

abbrev pub repeating_schedule : List ℕ
repeating_schedule = 1 ∷ 1 ∷ 1 ∷ 1 ∷ 1 ∷ 1 ∷ 1 ∷ []

pub repeating_runs :
    (answers repeating repeating_schedule ≡ 0 ∷ 0 ∷ 0 ∷ 0 ∷ 0 ∷ 0 ∷ 0 ∷ [])
    × (looks repeating repeating_schedule 1 0 0 ≡ 65536)
    × (keeps repeating repeating_schedule ≡ true)
unfolding answers looks keeps
repeating_runs = (refl, refl, refl)

-- type block = array 1..50 of integer
-- procedure p  var b: block  begin skip end   begin p; p; p; p; p end
-- a call that has ended frees its frame: the fifth call of 54 words fits the area
abbrev pub freeing : Table
freeing = table_from record {
  types = arrays 0 0 1 50 ∷ [];
  fields = [];
  variables = local 3 ∷ [];
  blocks = initial 0 0 ∷ procedure 0 0 0 1 6 ∷ [];
  arguments = [];
  nodes = [];
  statements =
      local_call 1 0 0 ∷ local_call 1 0 0 ∷ local_call 1 0 0 ∷ local_call 1 0 0 ∷ local_call 1 0 0 ∷ block_end 0 ∷
      skip ∷ block_end 1 ∷ [];
}

pub freeing_answers :
    answers freeing (1 ∷ 1 ∷ 1 ∷ 1 ∷ 1 ∷ 1 ∷ 1 ∷ 1 ∷ 1 ∷ 1 ∷ 1 ∷ 1 ∷ 1 ∷ 1 ∷ 1 ∷ 1 ∷ [])
    ≡ 0 ∷ 0 ∷ 0 ∷ 0 ∷ 0 ∷ 0 ∷ 0 ∷ 0 ∷ 0 ∷ 0 ∷ 0 ∷ 0 ∷ 0 ∷ 0 ∷ 0 ∷ 2 ∷ []
unfolding answers
freeing_answers = refl

-- process cell(n: integer; c: cell)  procedure p begin n := n + 5 end  begin if n = 1 do c.p; write(-2, n) end end
-- var a, b: cell  begin create a; create b; start b(2, b); start a(1, b) end
-- both processes are of one module: during its call process 2 works on the variables of process 3, after it on its own
abbrev pub neighbours : Table
neighbours = table_from record {
  types = processes 1 ∷ [];
  fields = [];
  variables = local 3 ∷ local 3 ∷ by_value 0 ∷ by_value 3 ∷ [];
  blocks = initial 2 0 ∷ process 1 2 2 2 5 ∷ procedure 1 4 0 0 11 ∷ [];
  arguments = number 3 ∷ number 5 ∷ number 7 ∷ number 9 ∷ [];
  nodes =
      whole 0 ∷ whole 1 ∷
      whole 1 ∷ constant 0 2 ∷ whole 1 ∷ value 4 ∷
      whole 0 ∷ constant 0 1 ∷ whole 1 ∷ value 8 ∷
      whole 2 ∷ value 10 ∷ constant 0 1 ∷ equal 11 12 ∷
      whole 3 ∷
      constant 0 65534 ∷ whole 2 ∷ value 16 ∷
      whole 2 ∷ whole 2 ∷ value 19 ∷ constant 0 5 ∷ plus 20 21 ∷ [];
  statements =
      create 0 ∷ create 1 ∷ start 2 0 2 ∷ start 6 2 2 ∷ block_end 0 ∷
      if ∷ arm 13 9 ∷ process_call 14 2 4 0 ∷ write 15 17 ∷ end_arms 5 ∷ block_end 1 ∷
      assign 18 22 ∷ block_end 2 ∷ [];
}

abbrev pub neighbours_schedule : List ℕ
neighbours_schedule = 1 ∷ 1 ∷ 1 ∷ 3 ∷ 3 ∷ 1 ∷ 2 ∷ 2 ∷ 2 ∷ 2 ∷ 2 ∷ []

pub neighbours_run :
    (answers neighbours neighbours_schedule ≡ 0 ∷ 0 ∷ 0 ∷ 0 ∷ 2 ∷ 0 ∷ 0 ∷ 0 ∷ 0 ∷ 0 ∷ 0 ∷ [])
    × (device neighbours neighbours_schedule 4095 ≡ 1)
    × (looks neighbours neighbours_schedule 2 2 0 ≡ 65537)
    × (looks neighbours neighbours_schedule 3 2 0 ≡ 65543)
    × (keeps neighbours neighbours_schedule ≡ true)
unfolding answers device looks keeps
neighbours_run = (refl, refl, refl, refl, refl)
