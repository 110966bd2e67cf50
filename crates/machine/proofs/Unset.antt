-- Variables that were given no value (02, g), by computation: programs that run under 1, and fail with 31 under 0. Assumes nothing.
use Prim.Native.Nat.{ℕ}
use mathlib.Core.Path.{◌≡◌, refl}
use mathlib.Core.List.{List, [], ◌∷◌}
use Rattle.table.specs.Table.{Table}
use Rattle.machine.proofs.Rows.{table_from, records, processes, number, local, by_value, initial, process, procedure}
use Rattle.machine.proofs.Rows.{constant, whole, field, value, unary}
use Rattle.machine.proofs.Rows.{skip, assign, local_call, create, start, if, arm, end_arms, write, block_end}
use Rattle.machine.proofs.Programs.{answers, answers_unset, looks_unset}

-- var x: integer; y: integer  begin y := x end.
-- every later step answers 31, of any process; a failing step marks nothing
abbrev pub forgetting : Table
forgetting = table_from record {
  types = [];
  fields = [];
  variables = local 0 ∷ local 0 ∷ [];
  blocks = initial 2 0 ∷ [];
  arguments = [];
  nodes = whole 1 ∷ whole 0 ∷ value 1 ∷ [];
  statements = assign 0 2 ∷ block_end 0 ∷ [];
}

pub forgetting_runs :
    (answers_unset forgetting (1 ∷ 1 ∷ 2 ∷ []) ≡ 31 ∷ 31 ∷ 31 ∷ [])
    × (looks_unset forgetting (1 ∷ []) 1 1 0 ≡ 32)
    × (looks_unset forgetting (1 ∷ []) 1 2 0 ≡ 11)
    × (answers forgetting (1 ∷ 1 ∷ []) ≡ 0 ∷ 2 ∷ [])
unfolding answers answers_unset looks_unset
forgetting_runs = (refl, refl, refl, refl)

-- type point = record x: integer; set: boolean end
-- var a: point; b: point  begin a.x := 7; b := a end.
-- a value is retrieved only if all its words are marked
abbrev pub parting : Table
parting = table_from record {
  types = records 0 2 ∷ [];
  fields = number 0 ∷ number 1 ∷ [];
  variables = local 3 ∷ local 3 ∷ [];
  blocks = initial 2 0 ∷ [];
  arguments = [];
  nodes = whole 0 ∷ field 0 0 ∷ constant 0 7 ∷ whole 1 ∷ whole 0 ∷ value 4 ∷ [];
  statements = assign 1 2 ∷ assign 3 5 ∷ block_end 0 ∷ [];
}

pub parting_runs :
    (answers_unset parting (1 ∷ 1 ∷ []) ≡ 0 ∷ 31 ∷ [])
    × (looks_unset parting (1 ∷ []) 1 0 0 ≡ 65543)
    × (looks_unset parting (1 ∷ []) 1 0 1 ≡ 32)
    × (answers parting (1 ∷ 1 ∷ 1 ∷ []) ≡ 0 ∷ 0 ∷ 2 ∷ [])
unfolding answers answers_unset looks_unset
parting_runs = (refl, refl, refl, refl)

-- process child  begin skip end
-- var c: child  begin start c end.
-- a reference that was given no value fails with 31 before 19
abbrev pub referring : Table
referring = table_from record {
  types = processes 1 ∷ [];
  fields = [];
  variables = local 3 ∷ [];
  blocks = initial 1 0 ∷ process 1 1 0 0 2 ∷ [];
  arguments = [];
  nodes = whole 0 ∷ [];
  statements = start 0 0 0 ∷ block_end 0 ∷ skip ∷ block_end 1 ∷ [];
}

pub referring_runs : (answers_unset referring (1 ∷ []) ≡ 31 ∷ []) × (answers referring (1 ∷ []) ≡ 19 ∷ [])
unfolding answers answers_unset
referring_runs = (refl, refl)

-- procedure p(first: boolean)  var i: integer  begin if first do i := 7 else not first do y := i end end
-- var y: integer  begin p(true); p(false) end.
-- the second frame lies where the first one lay, and its local has no value again; parameters have theirs
abbrev pub entering : Table
entering = table_from record {
  types = [];
  fields = [];
  variables = local 0 ∷ by_value 1 ∷ local 0 ∷ [];
  blocks = initial 1 0 ∷ procedure 0 1 1 2 3 ∷ [];
  arguments = number 0 ∷ number 1 ∷ [];
  nodes =
      constant 1 1 ∷ constant 1 0 ∷
      whole 1 ∷ value 2 ∷ whole 2 ∷ constant 0 7 ∷
      whole 1 ∷ value 6 ∷ unary 2 7 ∷ whole 0 ∷ whole 2 ∷ value 10 ∷ [];
  statements =
      local_call 1 0 1 ∷ local_call 1 1 1 ∷ block_end 0 ∷
      if ∷ arm 3 6 ∷ assign 4 5 ∷ arm 8 8 ∷ assign 9 11 ∷ end_arms 3 ∷ block_end 1 ∷ [];
}

abbrev pub entering_schedule : List ℕ
entering_schedule = 1 ∷ 1 ∷ 1 ∷ 1 ∷ 1 ∷ 1 ∷ 1 ∷ 1 ∷ []

pub entering_runs :
    (answers_unset entering entering_schedule ≡ 0 ∷ 0 ∷ 0 ∷ 0 ∷ 0 ∷ 0 ∷ 0 ∷ 31 ∷ [])
    × (answers entering entering_schedule ≡ 0 ∷ 0 ∷ 0 ∷ 0 ∷ 0 ∷ 0 ∷ 0 ∷ 0 ∷ [])
unfolding answers answers_unset
entering_runs = (refl, refl)

-- process child(k: integer)  var n: integer  begin write(-2, k); write(-2, n) end
-- var c: child  begin create c; start c(5) end.
-- a new process has the parameters that start passes, and no other values
abbrev pub making : Table
making = table_from record {
  types = processes 1 ∷ [];
  fields = [];
  variables = local 3 ∷ by_value 0 ∷ local 0 ∷ [];
  blocks = initial 1 0 ∷ process 1 1 1 2 3 ∷ [];
  arguments = number 2 ∷ [];
  nodes =
      whole 0 ∷ whole 0 ∷ constant 0 5 ∷
      constant 0 65534 ∷ whole 1 ∷ value 4 ∷ constant 0 65534 ∷ whole 2 ∷ value 7 ∷ [];
  statements = create 0 ∷ start 1 0 1 ∷ block_end 0 ∷ write 3 5 ∷ write 6 8 ∷ block_end 1 ∷ [];
}

pub making_runs :
    (answers_unset making (1 ∷ 1 ∷ 2 ∷ 2 ∷ []) ≡ 0 ∷ 0 ∷ 0 ∷ 31 ∷ [])
    × (answers making (1 ∷ 1 ∷ 2 ∷ 2 ∷ []) ≡ 0 ∷ 0 ∷ 0 ∷ 0 ∷ [])
unfolding answers answers_unset
making_runs = (refl, refl)
