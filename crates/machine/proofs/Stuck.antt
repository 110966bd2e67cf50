-- Small programs that the table's rules refuse: each has a number for which it runs, and others for which a step is stuck. By computation.
-- Assumes nothing.
use Prim.Native.Nat.{ℕ}
use mathlib.Core.Path.{◌≡◌, refl}
use mathlib.Core.List.{List, [], ◌∷◌}
use Rattle.table.specs.Table.{Table}
use Rattle.machine.specs.Memory.{zeros}
use Rattle.machine.specs.Run.{stuck}
use Rattle.machine.proofs.Rows.{Row, table_from, records, arrays, processes, number, local, by_value, by_var, initial, process, procedure}
use Rattle.machine.proofs.Rows.{constant, whole, field, element, value, unary, binary, transfer}
use Rattle.machine.proofs.Rows.{skip, assign, local_call, process_call, create, start, if, arm, end_arms, write, block_end}
use Rattle.machine.proofs.Programs.{run_on, answers}

-- one step of process 1
abbrev one : List ℕ
one = 1 ∷ []

-- ---- types

-- begin if (1 of type τ) do skip end end
-- a guard is a boolean (11.6)
abbrev pub guarding : ℕ → Table
guarding τ = table_from record {
  types = [];
  fields = [];
  variables = [];
  blocks = initial 0 0 ∷ [];
  arguments = [];
  nodes = constant τ 1 ∷ [];
  statements = if ∷ arm 0 3 ∷ skip ∷ end_arms 0 ∷ block_end 0 ∷ [];
}

pub guarding_runs :
    (answers (guarding 1) one ≡ 0 ∷ [])
    × (run_on (guarding 0) zeros one ≡ stuck)
    × (run_on (guarding 2) zeros one ≡ stuck)
    × (run_on (guarding 3) zeros one ≡ stuck)
unfolding answers run_on
guarding_runs = (refl, refl, refl, refl)

-- var x: integer  begin x := (1 of type τ) end
-- the types of an assignment match (11.2)
abbrev pub assigning : ℕ → Table
assigning τ = table_from record {
  types = [];
  fields = [];
  variables = local 0 ∷ [];
  blocks = initial 1 0 ∷ [];
  arguments = [];
  nodes = whole 0 ∷ constant τ 1 ∷ [];
  statements = assign 0 1 ∷ block_end 0 ∷ [];
}

pub assigning_runs :
    (answers (assigning 0) one ≡ 0 ∷ [])
    × (run_on (assigning 1) zeros one ≡ stuck)
    × (run_on (assigning 2) zeros one ≡ stuck)
unfolding answers run_on
assigning_runs = (refl, refl, refl)

-- procedure p(x: integer) begin skip end  begin p(1 of type τ) end
-- a value argument matches its parameter (11.3)
abbrev pub passing : ℕ → Table
passing τ = table_from record {
  types = [];
  fields = [];
  variables = by_value 0 ∷ [];
  blocks = initial 0 0 ∷ procedure 0 0 1 1 2 ∷ [];
  arguments = number 0 ∷ [];
  nodes = constant τ 1 ∷ [];
  statements = local_call 1 0 1 ∷ block_end 0 ∷ skip ∷ block_end 1 ∷ [];
}

pub passing_runs : (answers (passing 0) one ≡ 0 ∷ []) × (run_on (passing 1) zeros one ≡ stuck)
unfolding answers run_on
passing_runs = (refl, refl)

-- procedure p(var x: integer) begin skip end  var y: τ  begin p(y) end
-- a variable argument has the type of its parameter (11.3)
abbrev pub binding : ℕ → Table
binding τ = table_from record {
  types = [];
  fields = [];
  variables = local τ ∷ by_var 0 ∷ [];
  blocks = initial 1 0 ∷ procedure 0 1 1 1 2 ∷ [];
  arguments = number 0 ∷ [];
  nodes = whole 0 ∷ [];
  statements = local_call 1 0 1 ∷ block_end 0 ∷ skip ∷ block_end 1 ∷ [];
}

pub binding_runs : (answers (binding 0) one ≡ 0 ∷ []) × (run_on (binding 1) zeros one ≡ stuck)
unfolding answers run_on
binding_runs = (refl, refl)

-- type row = array 'a'..'c' of integer  var r: row  begin r[98 of type τ] := 5 end
-- an index is of its range's type (8.5)
abbrev pub indexed : ℕ → Table
indexed τ = table_from record {
  types = arrays 2 0 97 99 ∷ [];
  fields = [];
  variables = local 3 ∷ [];
  blocks = initial 1 0 ∷ [];
  arguments = [];
  nodes = whole 0 ∷ constant τ 98 ∷ element 0 1 ∷ constant 0 5 ∷ [];
  statements = assign 2 3 ∷ block_end 0 ∷ [];
}

pub indexed_runs : (answers (indexed 2) one ≡ 0 ∷ []) × (run_on (indexed 0) zeros one ≡ stuck)
unfolding answers run_on
indexed_runs = (refl, refl)

-- process p begin skip end  var x: τ, where 3 is p  begin create x end
-- a process is created for a variable of its type (11.4)
abbrev pub making : ℕ → Table
making τ = table_from record {
  types = processes 1 ∷ [];
  fields = [];
  variables = local τ ∷ [];
  blocks = initial 1 0 ∷ process 1 1 0 0 2 ∷ [];
  arguments = [];
  nodes = whole 0 ∷ [];
  statements = create 0 ∷ block_end 0 ∷ skip ∷ block_end 1 ∷ [];
}

pub making_runs : (answers (making 3) one ≡ 0 ∷ []) × (run_on (making 0) zeros one ≡ stuck)
unfolding answers run_on
making_runs = (refl, refl)

-- begin write((-2 of type τ), (1 of type σ)) end
-- addresses and values of device locations are integers (12.3)
abbrev pub writing : ℕ → ℕ → Table
writing τ σ = table_from record {
  types = [];
  fields = [];
  variables = [];
  blocks = initial 0 0 ∷ [];
  arguments = [];
  nodes = constant τ 65534 ∷ constant σ 1 ∷ [];
  statements = write 0 1 ∷ block_end 0 ∷ [];
}

pub writing_runs :
    (answers (writing 0 0) one ≡ 0 ∷ [])
    × (run_on (writing 1 0) zeros one ≡ stuck)
    × (run_on (writing 0 1) zeros one ≡ stuck)
unfolding answers run_on
writing_runs = (refl, refl, refl)

-- ---- numbers

-- var x: τ  begin x := x end
-- there is no type 3
abbrev pub keeping : ℕ → Table
keeping τ = table_from record {
  types = [];
  fields = [];
  variables = local τ ∷ [];
  blocks = initial 1 0 ∷ [];
  arguments = [];
  nodes = whole 0 ∷ whole 0 ∷ value 1 ∷ [];
  statements = assign 0 2 ∷ block_end 0 ∷ [];
}

pub keeping_runs : (answers (keeping 2) one ≡ 0 ∷ []) × (run_on (keeping 3) zeros one ≡ stuck)
unfolding answers run_on
keeping_runs = (refl, refl)

-- process a  procedure p begin skip end  begin skip end
-- process b  procedure q begin skip end  begin skip end
-- var x: a  begin create x; start x; x.(procedure q) end
-- a process call is of a procedure of the variable's module (11.3): block 2 is, block 4 is of the other module, block 1 is no procedure
abbrev pub calling : ℕ → Table
calling q = table_from record {
  types = processes 1 ∷ processes 3 ∷ [];
  fields = [];
  variables = local 3 ∷ [];
  blocks = initial 1 0 ∷ process 1 1 0 0 4 ∷ procedure 1 1 0 0 6 ∷ process 3 1 0 0 8 ∷ procedure 3 1 0 0 10 ∷ [];
  arguments = [];
  nodes = whole 0 ∷ whole 0 ∷ whole 0 ∷ [];
  statements =
      create 0 ∷ start 1 0 0 ∷ process_call 2 q 0 0 ∷ block_end 0 ∷
      skip ∷ block_end 1 ∷ skip ∷ block_end 2 ∷ skip ∷ block_end 3 ∷ skip ∷ block_end 4 ∷ [];
}

pub calling_runs :
    (answers (calling 2) (1 ∷ 1 ∷ 2 ∷ 2 ∷ 1 ∷ []) ≡ 0 ∷ 0 ∷ 0 ∷ 2 ∷ 0 ∷ [])
    × (answers (calling 4) (1 ∷ 1 ∷ 2 ∷ 2 ∷ []) ≡ 0 ∷ 0 ∷ 0 ∷ 2 ∷ [])
    × (run_on (calling 4) zeros (1 ∷ 1 ∷ 2 ∷ 2 ∷ 1 ∷ []) ≡ stuck)
    × (run_on (calling 1) zeros (1 ∷ 1 ∷ 2 ∷ 2 ∷ 1 ∷ []) ≡ stuck)
unfolding answers run_on
calling_runs = (refl, refl, refl, refl)

-- var x: integer  begin x := x end
-- an operand stands before its node: node 2 names node 1, itself, or the node after it
abbrev pub naming : ℕ → Table
naming n = table_from record {
  types = [];
  fields = [];
  variables = local 0 ∷ [];
  blocks = initial 1 0 ∷ [];
  arguments = [];
  nodes = whole 0 ∷ whole 0 ∷ value n ∷ whole 0 ∷ [];
  statements = assign 0 2 ∷ block_end 0 ∷ [];
}

pub naming_runs :
    (answers (naming 1) one ≡ 0 ∷ [])
    × (run_on (naming 2) zeros one ≡ stuck)
    × (run_on (naming 3) zeros one ≡ stuck)
unfolding answers run_on
naming_runs = (refl, refl, refl)

-- procedure p  var y: integer  begin skip end  var x: integer  begin (variable v) := 1 end
-- a variable is the module's or the procedure's (8.3): 0 is x, 1 is y, and there is no 2
abbrev pub reaching : ℕ → Table
reaching v = table_from record {
  types = [];
  fields = [];
  variables = local 0 ∷ local 0 ∷ [];
  blocks = initial 1 0 ∷ procedure 0 1 0 1 2 ∷ [];
  arguments = [];
  nodes = whole v ∷ constant 0 1 ∷ [];
  statements = assign 0 1 ∷ block_end 0 ∷ skip ∷ block_end 1 ∷ [];
}

pub reaching_runs :
    (answers (reaching 0) one ≡ 0 ∷ [])
    × (run_on (reaching 1) zeros one ≡ stuck)
    × (run_on (reaching 2) zeros one ≡ stuck)
unfolding answers run_on
reaching_runs = (refl, refl, refl)

-- type pair = record a, b: integer end  var x: pair  begin x.(field i) := 1 end
-- the record has the field (8.4)
abbrev pub selecting : ℕ → Table
selecting i = table_from record {
  types = records 0 2 ∷ [];
  fields = number 0 ∷ number 0 ∷ [];
  variables = local 3 ∷ [];
  blocks = initial 1 0 ∷ [];
  arguments = [];
  nodes = whole 0 ∷ field 0 i ∷ constant 0 1 ∷ [];
  statements = assign 1 2 ∷ block_end 0 ∷ [];
}

pub selecting_runs : (answers (selecting 1) one ≡ 0 ∷ []) × (run_on (selecting 2) zeros one ≡ stuck)
unfolding answers run_on
selecting_runs = (refl, refl)

-- procedure p(x: integer) begin skip end  begin p(1) end, with the first d of the arguments 1, 2
-- one argument for each parameter (11.3)
abbrev pub supplying : ℕ → Table
supplying d = table_from record {
  types = [];
  fields = [];
  variables = by_value 0 ∷ [];
  blocks = initial 0 0 ∷ procedure 0 0 1 1 2 ∷ [];
  arguments = number 0 ∷ number 1 ∷ [];
  nodes = constant 0 1 ∷ constant 0 2 ∷ [];
  statements = local_call 1 0 d ∷ block_end 0 ∷ skip ∷ block_end 1 ∷ [];
}

pub supplying_runs :
    (answers (supplying 1) one ≡ 0 ∷ [])
    × (run_on (supplying 0) zeros one ≡ stuck)
    × (run_on (supplying 2) zeros one ≡ stuck)
unfolding answers run_on
supplying_runs = (refl, refl, refl)

-- procedure p begin skip end  begin (block q) end
-- a local call is of a procedure (11.3)
abbrev pub entering : ℕ → Table
entering q = table_from record {
  types = [];
  fields = [];
  variables = [];
  blocks = initial 0 0 ∷ procedure 0 0 0 0 2 ∷ [];
  arguments = [];
  nodes = [];
  statements = local_call q 0 0 ∷ block_end 0 ∷ skip ∷ block_end 1 ∷ [];
}

pub entering_runs :
    (answers (entering 1) one ≡ 0 ∷ [])
    × (run_on (entering 0) zeros one ≡ stuck)
    × (run_on (entering 2) zeros one ≡ stuck)
unfolding answers run_on
entering_runs = (refl, refl, refl)

-- begin if false do skip end; if false do skip end end
-- the link of an arm leads on (01, The table): that of the second if's leads to its end, or back to the first if's
abbrev pub linking : ℕ → Table
linking link = table_from record {
  types = [];
  fields = [];
  variables = [];
  blocks = initial 0 0 ∷ [];
  arguments = [];
  nodes = constant 1 0 ∷ constant 1 0 ∷ [];
  statements =
      if ∷ arm 0 3 ∷ skip ∷ end_arms 0 ∷
      if ∷ arm 1 link ∷ skip ∷ end_arms 4 ∷ block_end 0 ∷ [];
}

pub linking_runs :
    (answers (linking 7) (1 ∷ 1 ∷ 1 ∷ []) ≡ 0 ∷ 0 ∷ 2 ∷ [])
    × (answers (linking 3) one ≡ 0 ∷ [])
    × (run_on (linking 3) zeros (1 ∷ 1 ∷ []) ≡ stuck)
unfolding answers run_on
linking_runs = (refl, refl, refl)

-- ---- operators

-- var x: ρ  begin x := (the expression) end, where the expression is of a node of type τ and one of type σ, both 1
abbrev pub operating : Row → ℕ → ℕ → ℕ → Table
operating expression τ σ ρ = table_from record {
  types = records 0 1 ∷ [];
  fields = number 0 ∷ [];
  variables = local ρ ∷ [];
  blocks = initial 1 0 ∷ [];
  arguments = [];
  nodes = whole 0 ∷ constant τ 1 ∷ constant σ 1 ∷ expression ∷ [];
  statements = assign 0 3 ∷ block_end 0 ∷ [];
}

-- + has integers (10.2); < has two of one standard type (10.1.1); and has integers (10.2) or booleans (10.3); = has two that match (10.1)
pub operating_binary :
    (answers (operating (binary 7 1 2) 0 0 0) one ≡ 0 ∷ [])
    × (run_on (operating (binary 7 1 2) 0 1 0) zeros one ≡ stuck)
    × (run_on (operating (binary 7 1 2) 1 0 0) zeros one ≡ stuck)
    × (answers (operating (binary 3 1 2) 2 2 1) one ≡ 0 ∷ [])
    × (run_on (operating (binary 3 1 2) 0 2 1) zeros one ≡ stuck)
    × (answers (operating (binary 12 1 2) 0 0 0) one ≡ 0 ∷ [])
    × (answers (operating (binary 12 1 2) 1 1 1) one ≡ 0 ∷ [])
    × (run_on (operating (binary 12 1 2) 1 0 1) zeros one ≡ stuck)
    × (run_on (operating (binary 12 1 2) 2 2 1) zeros one ≡ stuck)
    × (answers (operating (binary 1 1 2) 2 2 1) one ≡ 0 ∷ [])
    × (run_on (operating (binary 1 1 2) 0 2 1) zeros one ≡ stuck)
    × (run_on (operating (binary 14 1 2) 0 0 0) zeros one ≡ stuck)
unfolding answers run_on
operating_binary = (refl, refl, refl, refl, refl, refl, refl, refl, refl, refl, refl, refl)

-- - has an integer, not an integer or a boolean (10.2, 10.3); a type transfer is from a standard type to one (9.2);
-- a value is retrieved from a variable (8.7); a constant is of a standard type (6)
pub operating_unary :
    (answers (operating (unary 1 1) 0 0 0) one ≡ 0 ∷ [])
    × (run_on (operating (unary 1 1) 1 0 0) zeros one ≡ stuck)
    × (answers (operating (unary 2 1) 1 0 1) one ≡ 0 ∷ [])
    × (run_on (operating (unary 2 1) 2 0 1) zeros one ≡ stuck)
    × (answers (operating (transfer 1 1) 0 0 1) one ≡ 0 ∷ [])
    × (run_on (operating (transfer 1 3) 0 0 3) zeros one ≡ stuck)
    × (run_on (operating (value 1) 0 0 0) zeros one ≡ stuck)
    × (answers (operating (constant 1 1) 0 0 1) one ≡ 0 ∷ [])
    × (run_on (operating (constant 3 1) 0 0 3) zeros one ≡ stuck)
unfolding answers run_on
operating_unary = (refl, refl, refl, refl, refl, refl, refl, refl, refl)
