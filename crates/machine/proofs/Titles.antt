-- Title strings (02, b), by computation. Assumes nothing.
use Prim.Native.Nat.{ℕ}
use mathlib.Core.Path.{◌≡◌, refl}
use mathlib.Core.List.{List, [], ◌∷◌}
use Rattle.table.specs.Table.{Table}
use Rattle.machine.specs.Memory.{zeros}
use Rattle.machine.specs.Run.{stuck}
use Rattle.machine.proofs.Rows.{Row, table_from, titled_from, arrays, number, local, by_value, initial, procedure}
use Rattle.machine.proofs.Rows.{constant, whole, element, value, unary, binary, equal, string}
use Rattle.machine.proofs.Rows.{skip, assign, local_call, if, arm, end_arms, block_end}
use Rattle.machine.proofs.Programs.{run_on, answers, answers_unset, looks, looks_unset}

-- 'abcdef'
abbrev letters : List Row
letters = number 97 ∷ number 98 ∷ number 99 ∷ number 100 ∷ number 101 ∷ number 102 ∷ []

-- type name = array 1..4 of character  var x: name  begin x := (the first n letters) end.
-- an odd string gains character 0; an assignment takes a string of its own length, 3 or 4 letters here; all its words are marked
abbrev pub entitling : ℕ → Table
entitling n = titled_from letters record {
  types = arrays 0 2 1 4 ∷ [];
  fields = [];
  variables = local 3 ∷ [];
  blocks = initial 1 0 ∷ [];
  arguments = [];
  nodes = whole 0 ∷ string 0 n ∷ [];
  statements = assign 0 1 ∷ block_end 0 ∷ [];
}

pub entitling_runs :
    (answers_unset (entitling 3) (1 ∷ 1 ∷ []) ≡ 0 ∷ 2 ∷ [])
    × (looks_unset (entitling 3) (1 ∷ []) 1 0 0 ≡ 65633)
    × (looks_unset (entitling 3) (1 ∷ []) 1 0 2 ≡ 65635)
    × (looks_unset (entitling 3) (1 ∷ []) 1 0 3 ≡ 65536)
    × (looks (entitling 4) (1 ∷ []) 1 0 3 ≡ 65636)
    × (run_on (entitling 2) zeros (1 ∷ []) ≡ stuck)
    × (run_on (entitling 5) zeros (1 ∷ []) ≡ stuck)
unfolding answers_unset looks_unset looks run_on
entitling_runs = (refl, refl, refl, refl, refl, refl, refl)

-- type name = array 1..4 of character
-- procedure p(s: name) begin x := s end
-- var x: name  begin p(the first n letters) end.
-- a shorter argument is filled with character 0, a longer one is cut
abbrev pub presenting : ℕ → Table
presenting n = titled_from letters record {
  types = arrays 0 2 1 4 ∷ [];
  fields = [];
  variables = local 3 ∷ by_value 3 ∷ [];
  blocks = initial 1 0 ∷ procedure 0 1 1 1 2 ∷ [];
  arguments = number 0 ∷ [];
  nodes = string 0 n ∷ whole 0 ∷ whole 1 ∷ value 2 ∷ [];
  statements = local_call 1 0 1 ∷ block_end 0 ∷ assign 1 3 ∷ block_end 1 ∷ [];
}

pub presenting_runs :
    (answers_unset (presenting 1) (1 ∷ 1 ∷ 1 ∷ 1 ∷ []) ≡ 0 ∷ 0 ∷ 0 ∷ 2 ∷ [])
    × (looks_unset (presenting 1) (1 ∷ 1 ∷ []) 1 0 0 ≡ 65633)
    × (looks_unset (presenting 1) (1 ∷ 1 ∷ []) 1 0 2 ≡ 65536)
    × (looks_unset (presenting 1) (1 ∷ 1 ∷ []) 1 0 3 ≡ 65536)
    × (looks_unset (presenting 6) (1 ∷ 1 ∷ []) 1 0 0 ≡ 65633)
    × (looks_unset (presenting 6) (1 ∷ 1 ∷ []) 1 0 3 ≡ 65636)
    × (looks_unset (presenting 4) (1 ∷ 1 ∷ []) 1 0 3 ≡ 65636)
unfolding answers_unset looks_unset
presenting_runs = (refl, refl, refl, refl, refl, refl, refl)

-- type name = array 1..2 of character; line = array 1..4 of character
-- procedure p(s: name) begin x := s end
-- var x: name; y: line  begin y[1] := 'a'; y[2] := 'b'; p(y) end.
-- a variable is retrieved whole before it is cut: 31 though both words that are passed have values
abbrev pub cutting : Table
cutting = table_from record {
  types = arrays 0 2 1 2 ∷ arrays 0 2 1 4 ∷ [];
  fields = [];
  variables = local 3 ∷ local 4 ∷ by_value 3 ∷ [];
  blocks = initial 2 0 ∷ procedure 0 2 1 1 4 ∷ [];
  arguments = number 9 ∷ [];
  nodes =
      whole 1 ∷ constant 0 1 ∷ element 0 1 ∷ constant 2 97 ∷
      whole 1 ∷ constant 0 2 ∷ element 4 5 ∷ constant 2 98 ∷
      whole 1 ∷ value 8 ∷ whole 0 ∷ whole 2 ∷ value 11 ∷ [];
  statements = assign 2 3 ∷ assign 6 7 ∷ local_call 1 0 1 ∷ block_end 0 ∷ assign 10 12 ∷ block_end 1 ∷ [];
}

pub cutting_runs :
    (answers_unset cutting (1 ∷ 1 ∷ 1 ∷ []) ≡ 0 ∷ 0 ∷ 31 ∷ [])
    × (answers cutting (1 ∷ 1 ∷ 1 ∷ 1 ∷ []) ≡ 0 ∷ 0 ∷ 0 ∷ 0 ∷ [])
    × (looks cutting (1 ∷ 1 ∷ 1 ∷ 1 ∷ []) 1 0 1 ≡ 65634)
unfolding answers_unset answers looks
cutting_runs = (refl, refl, refl)

-- begin if (the expression) do skip end end, of the strings 'abc', 'abc' with character 0, and 'ab'
-- two constants may be compared where their lengths are equal, an odd one made even; a string is no operand of other operators
abbrev pub comparing : Row → Table
comparing expression = titled_from (number 97 ∷ number 98 ∷ number 99 ∷ number 97 ∷ number 98 ∷ number 99 ∷ number 0 ∷ number 97 ∷ number 98 ∷ []) record {
  types = [];
  fields = [];
  variables = [];
  blocks = initial 0 0 ∷ [];
  arguments = [];
  nodes = string 0 3 ∷ string 3 4 ∷ string 7 2 ∷ expression ∷ [];
  statements = if ∷ arm 3 3 ∷ skip ∷ end_arms 0 ∷ block_end 0 ∷ [];
}

pub comparing_runs :
    (answers (comparing (equal 0 1)) (1 ∷ 1 ∷ 1 ∷ 1 ∷ []) ≡ 0 ∷ 0 ∷ 0 ∷ 2 ∷ [])
    × (answers (comparing (binary 2 0 1)) (1 ∷ 1 ∷ []) ≡ 0 ∷ 2 ∷ [])
    × (run_on (comparing (equal 0 2)) zeros (1 ∷ []) ≡ stuck)
    × (run_on (comparing (binary 3 0 1)) zeros (1 ∷ []) ≡ stuck)
    × (run_on (comparing (unary 2 0)) zeros (1 ∷ []) ≡ stuck)
unfolding answers run_on
comparing_runs = (refl, refl, refl, refl, refl)
