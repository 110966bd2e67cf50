-- Runs of small programs from begin, by computation: their answers, and what they leave. Assumes nothing.
use Prim.Native.Nat.{ℕ}
use mathlib.Core.Path.{◌≡◌, refl}
use mathlib.Core.Bool.{true}
use mathlib.Core.List.{List, [], ◌∷◌}
use Rattle.table.specs.Table.{Table}
use Rattle.machine.specs.Memory.{zeros, update}
use Rattle.machine.proofs.Rows.{table_from, records, arrays, processes, number, local, by_value, by_var, initial, process, procedure}
use Rattle.machine.proofs.Rows.{constant, whole, field, element, value, transfer, val, equal, greater, plus, difference, quotient, conjunction}
use Rattle.machine.proofs.Rows.{skip, assign, process_call, create, start, if, while, when, arm, end_arms, write, block_end}
use Rattle.machine.proofs.Programs.{run_on, answers_of, page_of, answers, device, looks, keeps}

-- the listing example of 01
abbrev pub listing : Table
listing = table_from record {
  types = [];
  fields = [];
  variables = [];
  blocks = initial 0 0 ∷ [];
  arguments = [];
  nodes = [];
  statements = skip ∷ block_end 0 ∷ [];
}

pub listing_answers : answers listing (1 ∷ 1 ∷ 1 ∷ 2 ∷ []) ≡ 0 ∷ 2 ∷ 2 ∷ 3 ∷ []
unfolding answers
listing_answers = refl

-- process store  var n: integer  procedure put(x: integer) begin n := x end  begin skip end
-- var s: store  begin create s; start s; s.put(5) end.
-- the call waits while process 2 holds its own variables
abbrev pub waiting : Table
waiting = table_from record {
  types = processes 1 ∷ [];
  fields = [];
  variables = local 3 ∷ local 0 ∷ by_value 0 ∷ [];
  blocks = initial 1 0 ∷ process 1 1 0 1 4 ∷ procedure 1 2 1 1 6 ∷ [];
  arguments = number 3 ∷ [];
  nodes =
      whole 0 ∷ whole 0 ∷ whole 0 ∷ constant 0 5 ∷
      whole 1 ∷ whole 2 ∷ value 5 ∷ [];
  statements =
      create 0 ∷ start 1 0 0 ∷ process_call 2 2 0 1 ∷ block_end 0 ∷
      skip ∷ block_end 1 ∷
      assign 4 6 ∷ block_end 2 ∷ [];
}

abbrev pub waiting_schedule : List ℕ
waiting_schedule = 1 ∷ 1 ∷ 1 ∷ 2 ∷ 1 ∷ 2 ∷ 1 ∷ 1 ∷ 1 ∷ 1 ∷ []

pub waiting_runs :
    (answers waiting waiting_schedule ≡ 0 ∷ 0 ∷ 1 ∷ 0 ∷ 1 ∷ 2 ∷ 0 ∷ 0 ∷ 0 ∷ 2 ∷ [])
    × (looks waiting waiting_schedule 2 1 0 ≡ 65541)
    × (keeps waiting waiting_schedule ≡ true)
unfolding answers looks keeps
waiting_runs = (refl, refl, refl)

-- process cell  var full: boolean  procedure put begin full := true end  begin when full do full := false end end
-- var s: cell  begin create s; start s; s.put; s.put end.
-- the blocked when gives up the variables of process 2, so that process 1 can call; a true guard takes them back
abbrev pub cell : Table
cell = table_from record {
  types = processes 1 ∷ [];
  fields = [];
  variables = local 3 ∷ local 1 ∷ [];
  blocks = initial 1 0 ∷ process 1 1 0 1 5 ∷ procedure 1 2 0 0 10 ∷ [];
  arguments = [];
  nodes =
      whole 0 ∷ whole 0 ∷ whole 0 ∷ whole 0 ∷
      whole 1 ∷ value 4 ∷ whole 1 ∷ constant 1 0 ∷
      whole 1 ∷ constant 1 1 ∷ [];
  statements =
      create 0 ∷ start 1 0 0 ∷ process_call 2 2 0 0 ∷ process_call 3 2 0 0 ∷ block_end 0 ∷
      when ∷ arm 5 8 ∷ assign 6 7 ∷ end_arms 5 ∷ block_end 1 ∷
      assign 8 9 ∷ block_end 2 ∷ [];
}

abbrev pub cell_schedule : List ℕ
cell_schedule = 1 ∷ 1 ∷ 1 ∷ 2 ∷ 1 ∷ 2 ∷ 1 ∷ 1 ∷ 2 ∷ 1 ∷ 2 ∷ 2 ∷ 2 ∷ 1 ∷ 1 ∷ 1 ∷ 1 ∷ []

-- 1: create, start, wait (process 2 holds its variables); 2: blocked; 1: call; 2: wait (process 1 holds them); 1: assign, end of call;
-- 2: enter; 1: wait; 2: assign, end of when, end; 1: call, assign, end of call, end
pub cell_runs :
    (answers cell cell_schedule ≡ 0 ∷ 0 ∷ 1 ∷ 1 ∷ 0 ∷ 1 ∷ 0 ∷ 0 ∷ 0 ∷ 1 ∷ 0 ∷ 0 ∷ 2 ∷ 0 ∷ 0 ∷ 0 ∷ 2 ∷ [])
    × (looks cell cell_schedule 2 1 0 ≡ 65537)
    × (keeps cell cell_schedule ≡ true)
unfolding answers looks keeps
cell_runs = (refl, refl, refl)

-- process child(n: integer)  begin write(-2, n) end
-- var c: child  begin create c; start c(7); start c(8) end.
-- a process that is created and not started waits; the second start fails with 20, and then every step answers 20
abbrev pub starting : Table
starting = table_from record {
  types = processes 1 ∷ [];
  fields = [];
  variables = local 3 ∷ by_value 0 ∷ [];
  blocks = initial 1 0 ∷ process 1 1 1 1 4 ∷ [];
  arguments = number 2 ∷ number 4 ∷ [];
  nodes =
      whole 0 ∷ whole 0 ∷ constant 0 7 ∷ whole 0 ∷ constant 0 8 ∷
      constant 0 65534 ∷ whole 1 ∷ value 6 ∷ [];
  statements =
      create 0 ∷ start 1 0 1 ∷ start 3 1 1 ∷ block_end 0 ∷
      write 5 7 ∷ block_end 1 ∷ [];
}

abbrev pub starting_schedule : List ℕ
starting_schedule = 2 ∷ 1 ∷ 2 ∷ 1 ∷ 2 ∷ 1 ∷ 1 ∷ 2 ∷ 3 ∷ []

pub starting_runs :
    (answers starting starting_schedule ≡ 3 ∷ 0 ∷ 1 ∷ 0 ∷ 0 ∷ 20 ∷ 20 ∷ 20 ∷ 20 ∷ [])
    × (device starting starting_schedule 4095 ≡ 7)
    × (keeps starting starting_schedule ≡ true)
unfolding answers device keeps
starting_runs = (refl, refl, refl)

-- process child  begin skip end
-- var a: child; b: child; c: child; same: boolean  begin create a; create b; same := a = b; start c end.
-- processes are numbered from 2 in the order of creation; a start through an empty reference fails with 19
abbrev pub creating : Table
creating = table_from record {
  types = processes 1 ∷ [];
  fields = [];
  variables = local 3 ∷ local 3 ∷ local 3 ∷ local 1 ∷ [];
  blocks = initial 4 0 ∷ process 1 4 0 0 5 ∷ [];
  arguments = [];
  nodes =
      whole 0 ∷ whole 1 ∷ whole 3 ∷ whole 0 ∷ value 3 ∷ whole 1 ∷ value 5 ∷ equal 4 6 ∷ whole 2 ∷ [];
  statements =
      create 0 ∷ create 1 ∷ assign 2 7 ∷ start 8 0 0 ∷ block_end 0 ∷
      skip ∷ block_end 1 ∷ [];
}

abbrev pub creating_schedule : List ℕ
creating_schedule = 1 ∷ 1 ∷ 1 ∷ 3 ∷ 4 ∷ 1 ∷ []

pub creating_runs :
    (answers creating creating_schedule ≡ 0 ∷ 0 ∷ 0 ∷ 1 ∷ 3 ∷ 19 ∷ [])
    × (looks creating creating_schedule 1 0 0 ≡ 65538)
    × (looks creating creating_schedule 1 1 0 ≡ 65539)
    × (looks creating creating_schedule 1 3 0 ≡ 65536)
    × (looks creating creating_schedule 2 0 0 ≡ 11)
    × (keeps creating creating_schedule ≡ true)
unfolding answers looks keeps
creating_runs = (refl, refl, refl, refl, refl, refl)

-- process store  var n: integer  procedure get(var x: integer) begin x := n + x end  begin n := 5 end
-- var s: store; y: integer  begin y := 2; create s; start s; s.get(y) end.
-- a var parameter of a process call stands for the caller's variable
abbrev pub fetching : Table
fetching = table_from record {
  types = processes 1 ∷ [];
  fields = [];
  variables = local 3 ∷ local 0 ∷ local 0 ∷ by_var 0 ∷ [];
  blocks = initial 2 0 ∷ process 1 2 0 1 5 ∷ procedure 1 3 1 1 7 ∷ [];
  arguments = number 5 ∷ [];
  nodes =
      whole 1 ∷ constant 0 2 ∷ whole 0 ∷ whole 0 ∷ whole 0 ∷ whole 1 ∷
      whole 2 ∷ constant 0 5 ∷
      whole 3 ∷ whole 2 ∷ value 9 ∷ whole 3 ∷ value 11 ∷ plus 10 12 ∷ [];
  statements =
      assign 0 1 ∷ create 2 ∷ start 3 0 0 ∷ process_call 4 2 0 1 ∷ block_end 0 ∷
      assign 6 7 ∷ block_end 1 ∷
      assign 8 13 ∷ block_end 2 ∷ [];
}

abbrev pub fetching_schedule : List ℕ
fetching_schedule = 1 ∷ 1 ∷ 1 ∷ 2 ∷ 2 ∷ 1 ∷ 1 ∷ []

pub fetching_runs :
    (answers fetching fetching_schedule ≡ 0 ∷ 0 ∷ 0 ∷ 0 ∷ 2 ∷ 0 ∷ 0 ∷ [])
    × (looks fetching fetching_schedule 1 1 0 ≡ 65543)
    × (looks fetching fetching_schedule 2 2 0 ≡ 65541)
    × (keeps fetching fetching_schedule ≡ true)
unfolding answers looks keeps
fetching_runs = (refl, refl, refl, refl)

-- begin if false and (1 / 0 = 1) do skip end end.
-- both sides of and are evaluated, and the right one fails with 17
abbrev pub failing : Table
failing = table_from record {
  types = [];
  fields = [];
  variables = [];
  blocks = initial 0 0 ∷ [];
  arguments = [];
  nodes =
      constant 1 0 ∷ constant 0 1 ∷ constant 0 0 ∷ quotient 1 2 ∷ constant 0 1 ∷ equal 3 4 ∷ conjunction 0 5 ∷ [];
  statements = if ∷ arm 6 3 ∷ skip ∷ end_arms 0 ∷ block_end 0 ∷ [];
}

pub failing_answers : answers failing (1 ∷ 1 ∷ 2 ∷ []) ≡ 17 ∷ 17 ∷ 17 ∷ []
unfolding answers
failing_answers = refl

-- type point = record x: integer; set: boolean end
-- var a: point; b: point  begin a.x := 7; a.set := true; b := a; write(-2, b.x) end.
abbrev pub copying : Table
copying = table_from record {
  types = records 0 2 ∷ [];
  fields = number 0 ∷ number 1 ∷ [];
  variables = local 3 ∷ local 3 ∷ [];
  blocks = initial 2 0 ∷ [];
  arguments = [];
  nodes =
      whole 0 ∷ field 0 0 ∷ constant 0 7 ∷
      whole 0 ∷ field 3 1 ∷ constant 1 1 ∷
      whole 1 ∷ whole 0 ∷ value 7 ∷
      constant 0 65534 ∷ whole 1 ∷ field 10 0 ∷ value 11 ∷ [];
  statements = assign 1 2 ∷ assign 4 5 ∷ assign 6 8 ∷ write 9 12 ∷ block_end 0 ∷ [];
}

abbrev pub copying_schedule : List ℕ
copying_schedule = 1 ∷ 1 ∷ 1 ∷ 1 ∷ 1 ∷ []

pub copying_runs :
    (answers copying copying_schedule ≡ 0 ∷ 0 ∷ 0 ∷ 0 ∷ 2 ∷ [])
    × (device copying copying_schedule 4095 ≡ 7)
    × (looks copying copying_schedule 1 1 1 ≡ 65537)
    × (looks copying copying_schedule 1 1 2 ≡ 11)
    × (keeps copying copying_schedule ≡ true)
unfolding answers device looks keeps
copying_runs = (refl, refl, refl, refl, refl)

-- type row = array 'a'..'c' of integer
-- var r: row; c: char  begin c := 'c'; r[c] := 5; c := (c: integer + 1): char; r[c] := 6 end.
-- an index of 'd' is out of range: 18
abbrev pub indexing : Table
indexing = table_from record {
  types = arrays 2 0 97 99 ∷ [];
  fields = [];
  variables = local 3 ∷ local 2 ∷ [];
  blocks = initial 2 0 ∷ [];
  arguments = [];
  nodes =
      whole 1 ∷ constant 2 99 ∷
      whole 0 ∷ whole 1 ∷ value 3 ∷ element 2 4 ∷ constant 0 5 ∷
      whole 1 ∷ whole 1 ∷ value 8 ∷ transfer 9 0 ∷ constant 0 1 ∷ plus 10 11 ∷ transfer 12 2 ∷
      whole 0 ∷ whole 1 ∷ value 15 ∷ element 14 16 ∷ constant 0 6 ∷ [];
  statements = assign 0 1 ∷ assign 5 6 ∷ assign 7 13 ∷ assign 17 18 ∷ block_end 0 ∷ [];
}

abbrev pub indexing_schedule : List ℕ
indexing_schedule = 1 ∷ 1 ∷ 1 ∷ 1 ∷ 1 ∷ []

pub indexing_runs :
    (answers indexing indexing_schedule ≡ 0 ∷ 0 ∷ 0 ∷ 18 ∷ 18 ∷ [])
    × (looks indexing indexing_schedule 1 0 2 ≡ 65541)
    × (looks indexing indexing_schedule 1 1 0 ≡ 65636)
    × (keeps indexing indexing_schedule ≡ true)
unfolding answers looks keeps
indexing_runs = (refl, refl, refl, refl)

-- process self(me: self)  procedure p begin skip end  begin me.p end
-- var s: self  begin create s; start s(s) end.
-- a call on one's own reference waits for ever
abbrev pub selfish : Table
selfish = table_from record {
  types = processes 1 ∷ [];
  fields = [];
  variables = local 3 ∷ by_value 3 ∷ [];
  blocks = initial 1 0 ∷ process 1 1 1 1 3 ∷ procedure 1 2 0 0 5 ∷ [];
  arguments = number 3 ∷ [];
  nodes = whole 0 ∷ whole 0 ∷ whole 0 ∷ value 2 ∷ whole 1 ∷ [];
  statements =
      create 0 ∷ start 1 0 1 ∷ block_end 0 ∷
      process_call 4 2 1 0 ∷ block_end 1 ∷
      skip ∷ block_end 2 ∷ [];
}

abbrev pub selfish_schedule : List ℕ
selfish_schedule = 1 ∷ 1 ∷ 2 ∷ 2 ∷ 1 ∷ 2 ∷ 1 ∷ []

pub selfish_runs :
    (answers selfish selfish_schedule ≡ 0 ∷ 0 ∷ 1 ∷ 1 ∷ 2 ∷ 1 ∷ 2 ∷ [])
    × (keeps selfish selfish_schedule ≡ true)
unfolding answers keeps
selfish_runs = (refl, refl)

-- begin write(-4, val (-2) + 1); write(-8192, val (-4)); write(-1, 0) end.
-- over a page whose last word is 41; the address -1 answers 21
abbrev pub devices : Table
devices = table_from record {
  types = [];
  fields = [];
  variables = [];
  blocks = initial 0 0 ∷ [];
  arguments = [];
  nodes =
      constant 0 65532 ∷ constant 0 65534 ∷ val 1 ∷ constant 0 1 ∷ plus 2 3 ∷
      constant 0 57344 ∷ constant 0 65532 ∷ val 6 ∷
      constant 0 65535 ∷ constant 0 0 ∷ [];
  statements = write 0 4 ∷ write 5 7 ∷ write 8 9 ∷ block_end 0 ∷ [];
}

pub devices_run :
    (answers_of (run_on devices (update zeros 4095 41) (1 ∷ 1 ∷ 1 ∷ [])) ≡ 0 ∷ 0 ∷ 21 ∷ [])
    × (page_of (run_on devices (update zeros 4095 41) (1 ∷ 1 ∷ 1 ∷ [])) 4094 ≡ 42)
    × (page_of (run_on devices (update zeros 4095 41) (1 ∷ 1 ∷ 1 ∷ [])) 0 ≡ 42)
unfolding run_on answers_of page_of
devices_run = (refl, refl, refl)

-- var x: integer; y: integer  begin x := 6; y := 4; while x > y do x := x - y else y > x do y := y - x end; write(-2, x) end.
abbrev pub divisor : Table
divisor = table_from record {
  types = [];
  fields = [];
  variables = local 0 ∷ local 0 ∷ [];
  blocks = initial 2 0 ∷ [];
  arguments = [];
  nodes =
      whole 0 ∷ constant 0 6 ∷ whole 1 ∷ constant 0 4 ∷
      whole 0 ∷ value 4 ∷ whole 1 ∷ value 6 ∷ greater 5 7 ∷
      whole 0 ∷ whole 0 ∷ value 10 ∷ whole 1 ∷ value 12 ∷ difference 11 13 ∷
      whole 1 ∷ value 15 ∷ whole 0 ∷ value 17 ∷ greater 16 18 ∷
      whole 1 ∷ whole 1 ∷ value 21 ∷ whole 0 ∷ value 23 ∷ difference 22 24 ∷
      constant 0 65534 ∷ whole 0 ∷ value 27 ∷ [];
  statements =
      assign 0 1 ∷ assign 2 3 ∷
      while ∷ arm 8 5 ∷ assign 9 14 ∷ arm 19 7 ∷ assign 20 25 ∷ end_arms 2 ∷
      write 26 28 ∷ block_end 0 ∷ [];
}

abbrev pub divisor_schedule : List ℕ
divisor_schedule = 1 ∷ 1 ∷ 1 ∷ 1 ∷ 1 ∷ 1 ∷ 1 ∷ 1 ∷ 1 ∷ 1 ∷ 1 ∷ []

pub divisor_runs :
    (answers divisor divisor_schedule ≡ 0 ∷ 0 ∷ 0 ∷ 0 ∷ 0 ∷ 0 ∷ 0 ∷ 0 ∷ 0 ∷ 0 ∷ 2 ∷ [])
    × (device divisor divisor_schedule 4095 ≡ 2)
    × (keeps divisor divisor_schedule ≡ true)
unfolding answers device keeps
divisor_runs = (refl, refl, refl)

-- process lower  procedure put begin skip end  begin skip end
-- process upper(b: lower)  procedure poke begin skip end  begin b.put end
-- var a: upper; b: lower  begin create a; create b; start b; start a(b); a.poke end.
-- while process 2 is inside its call on process 3 it still holds its own variables, and the call of process 1 on it waits
abbrev pub holding : Table
holding = table_from record {
  types = processes 1 ∷ processes 3 ∷ [];
  fields = [];
  variables = local 3 ∷ local 4 ∷ by_value 4 ∷ [];
  blocks =
      initial 2 0 ∷ process 1 2 1 1 6 ∷ procedure 1 3 0 0 8 ∷
      process 3 3 0 0 10 ∷ procedure 3 3 0 0 12 ∷ [];
  arguments = number 5 ∷ [];
  nodes = whole 0 ∷ whole 1 ∷ whole 1 ∷ whole 0 ∷ whole 1 ∷ value 4 ∷ whole 0 ∷ whole 2 ∷ [];
  statements =
      create 0 ∷ create 1 ∷ start 2 0 0 ∷ start 3 0 1 ∷ process_call 6 2 1 0 ∷ block_end 0 ∷
      process_call 7 4 1 0 ∷ block_end 1 ∷
      skip ∷ block_end 2 ∷
      skip ∷ block_end 3 ∷
      skip ∷ block_end 4 ∷ [];
}

abbrev pub holding_schedule : List ℕ
holding_schedule = 1 ∷ 1 ∷ 1 ∷ 1 ∷ 3 ∷ 3 ∷ 2 ∷ 1 ∷ 2 ∷ 1 ∷ 2 ∷ 2 ∷ 1 ∷ 1 ∷ 1 ∷ 1 ∷ []

pub holding_runs :
    (answers holding holding_schedule ≡ 0 ∷ 0 ∷ 0 ∷ 0 ∷ 0 ∷ 2 ∷ 0 ∷ 1 ∷ 0 ∷ 1 ∷ 0 ∷ 2 ∷ 0 ∷ 0 ∷ 0 ∷ 2 ∷ [])
    × (keeps holding holding_schedule ≡ true)
unfolding answers keeps
holding_runs = (refl, refl)

-- process cell  var full: boolean  procedure put begin full := true; skip end  begin when full do skip end end
-- var s: cell  begin create s; start s; s.put end.
-- while process 1 is inside its call it holds the variables of process 2, which waits although its guard is true
abbrev pub excluding : Table
excluding = table_from record {
  types = processes 1 ∷ [];
  fields = [];
  variables = local 3 ∷ local 1 ∷ [];
  blocks = initial 1 0 ∷ process 1 1 0 1 4 ∷ procedure 1 2 0 0 9 ∷ [];
  arguments = [];
  nodes = whole 0 ∷ whole 0 ∷ whole 0 ∷ whole 1 ∷ value 3 ∷ whole 1 ∷ constant 1 1 ∷ [];
  statements =
      create 0 ∷ start 1 0 0 ∷ process_call 2 2 0 0 ∷ block_end 0 ∷
      when ∷ arm 4 7 ∷ skip ∷ end_arms 4 ∷ block_end 1 ∷
      assign 5 6 ∷ skip ∷ block_end 2 ∷ [];
}

abbrev pub excluding_schedule : List ℕ
excluding_schedule = 1 ∷ 1 ∷ 2 ∷ 1 ∷ 1 ∷ 2 ∷ 1 ∷ 2 ∷ 1 ∷ 2 ∷ 2 ∷ 2 ∷ []

-- 1: create, start; 2: blocked; 1: call, assign; 2: wait; 1: skip; 2: wait; 1: end of call; 2: enter, skip, end of when
pub excluding_runs :
    (answers excluding excluding_schedule ≡ 0 ∷ 0 ∷ 1 ∷ 0 ∷ 0 ∷ 1 ∷ 0 ∷ 1 ∷ 0 ∷ 0 ∷ 0 ∷ 0 ∷ [])
    × (keeps excluding excluding_schedule ≡ true)
unfolding answers keeps
excluding_runs = (refl, refl)
