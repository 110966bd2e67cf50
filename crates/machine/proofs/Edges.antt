-- The starred edges of 01, one theorem: each of a program of one statement, run from begin by one step. By computation. Assumes nothing.
use Prim.Native.Nat.{ℕ}
use mathlib.Core.Path.{◌≡◌, refl}
use mathlib.Core.List.{List, [], ◌∷◌}
use lib.IntN.{pos, neg_ℤ}
use Rattle.words.specs.Numbers.{word_of_z}
use Rattle.table.specs.Table.{Table}
use Rattle.machine.specs.Memory.{Memory, zeros, update}
use Rattle.machine.specs.Run.{Run, ran, stuck}
use Rattle.machine.specs.Public.{look}
use Rattle.machine.proofs.Rows.{Row, table_from, local, initial, constant, whole, unary, binary, transfer, assign, write, block_end}
use Rattle.machine.proofs.Programs.{run_on}

-- the word of -n
abbrev minus : ℕ → ℕ
minus n = word_of_z (neg_ℤ (pos n))

-- begin write(-2, e) end, where node e is the last of es, which follow the node of -2
abbrev writes : List Row → ℕ → Table
writes es e = table_from record {
  types = [];
  fields = [];
  variables = [];
  blocks = initial 0 0 ∷ [];
  arguments = [];
  nodes = constant 0 (minus 2) ∷ es;
  statements = write 0 e ∷ block_end 0 ∷ [];
}

-- begin write(-2, x o y) end
abbrev binaries : ℕ → ℕ → ℕ → Table
binaries o x y = writes (constant 0 x ∷ constant 0 y ∷ binary o 1 2 ∷ []) 3

-- begin write(-2, o x) end
abbrev unaries : ℕ → ℕ → Table
unaries o x = writes (constant 0 x ∷ unary o 1 ∷ []) 2

-- var c: char  begin c := x: char end
abbrev becomes : ℕ → Table
becomes x = table_from record {
  types = [];
  fields = [];
  variables = local 2 ∷ [];
  blocks = initial 1 0 ∷ [];
  arguments = [];
  nodes = whole 0 ∷ constant 0 x ∷ transfer 1 2 ∷ [];
  statements = assign 0 2 ∷ block_end 0 ∷ [];
}

-- the device words before the step: 4660 at -8192, 7 at -2, and 0 elsewhere
abbrev page : Memory
page = update (update zeros 0 4660) 4095 7

-- what a step shows: its answer, and a word after it
pub data Shown : Type 0 where
  answered : ℕ → ℕ → Shown
  other : Shown

-- the device word at -2
unfoldable pub written : Run → Shown
written (ran [] m d) = other
written (ran (a ∷ l) m d) = answered a (d 4095)
written stuck = other

-- what look gives for variable 0 of process 1
unfoldable pub held : Table → Run → Shown
held T (ran [] m d) = other
held T (ran (a ∷ l) m d) = answered a (look T m 1 0 0)
held T stuck = other

unfoldable pub writing : Table → Shown
unfolding run_on written
writing T = written (run_on T page (1 ∷ []))

unfoldable pub holding : Table → Shown
unfolding run_on held
holding T = held T (run_on T page (1 ∷ []))

-- / is operator 10, mod 11; not is operator 2, val 3
pub edges :
    -- -384 / 256 = -1
    (writing (binaries 10 (minus 384) 256) ≡ answered 0 (minus 1))
    -- -7 mod 2 = -1
    × (writing (binaries 11 (minus 7) 2) ≡ answered 0 (minus 1))
    -- -32768 / -1 answers 16
    × (writing (binaries 10 (minus 32768) (minus 1)) ≡ answered 16 7)
    -- -32768 mod -1 = 0
    × (writing (binaries 11 (minus 32768) (minus 1)) ≡ answered 0 0)
    -- 5 / 0 answers 17
    × (writing (binaries 10 5 0) ≡ answered 17 7)
    -- not 0 = -1
    × (writing (unaries 2 0) ≡ answered 0 (minus 1))
    -- 127 becomes a character
    × (holding (becomes 127) ≡ answered 0 65663)
    -- 128 answers 23
    × (holding (becomes 128) ≡ answered 23 65536)
    -- val -8192 reads
    × (writing (unaries 3 (minus 8192)) ≡ answered 0 4660)
    -- val -1 answers 21
    × (writing (unaries 3 (minus 1)) ≡ answered 21 7)
unfolding writing holding
edges = (refl, refl, refl, refl, refl, refl, refl, refl, refl, refl)
