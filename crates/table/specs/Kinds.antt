-- Trusted: public promises are said with these definitions.
-- What the fields of each kind of entry hold: 01, The table, and 02, b, a row a kind. Refusals 3, 4, 5 and 8 are said by it. Assumes nothing.
use Rattle.std.specs.Prelude.{ℕ, Bool, true, false, List, [], ◌∷◌, length, get_or, eqb}
use Rattle.basics.specs.Choice.{pick, between, all_below}
use Rattle.basics.specs.Chain.{always}
use Rattle.table.specs.Bytes.{fields}
use Rattle.table.specs.Table.{Table}

-- nothing, so 0; a number of its own (kind, count, place, word); a type 0..2; a mode, kind or operator from a to b;
-- an entry of a section, of a kind that passes a test; the first of the entries of a section that this one takes
pub data Content : Type 0 where
  unused number standard : Content
  choice : ℕ → ℕ → Content
  entry : ℕ → (ℕ → Bool) → Content
  first : ℕ → Content

-- the sorts of nodes: variables are kinds 1 to 3, expressions the others
unfoldable pub variable_kind : ℕ → Bool
variable_kind k = between 1 3 k

unfoldable pub expression_kind : ℕ → Bool
expression_kind k = pick (eqb k 0) true (between 4 8 k)

abbrev pub type : Content
type = entry 0 always

abbrev pub variable : Content
variable = entry 2 always

abbrev pub block : Content
block = entry 3 always

abbrev pub process_module : Content
process_module = entry 3 (λ k. eqb k 1)

abbrev pub procedure : Content
procedure = entry 3 (λ k. eqb k 2)

abbrev pub node : Content
node = entry 5 always

abbrev pub variable_node : Content
variable_node = entry 5 variable_kind

abbrev pub expression_node : Content
expression_node = entry 5 expression_kind

abbrev pub statement : Content
statement = entry 6 always

-- an entry of six fields that uses none but its kind
abbrev pub bare : List Content
bare = number ∷ unused ∷ unused ∷ unused ∷ unused ∷ unused ∷ []

-- THE KINDS of each section, from 0 on, and what the fields of each hold; a section of one row has no kinds
abbrev pub kinds : List (List (List Content))
kinds =
    -- Type: kind, p, q, low, high; there is no kind 0
    ([]
    ∷ (number ∷ first 1 ∷ number ∷ unused ∷ unused ∷ [])  -- 1 record
    ∷ (number ∷ standard ∷ type ∷ number ∷ number ∷ [])  -- 2 array
    ∷ (number ∷ process_module ∷ unused ∷ unused ∷ unused ∷ []) ∷ [])  -- 3 process
    -- Field: type
    ∷ ((type ∷ []) ∷ [])
    -- Variable: mode (0 local, 1 value parameter, 2 var parameter), type
    ∷ ((choice 0 2 ∷ type ∷ []) ∷ [])
    -- Block: kind (0 program, 1 process module, 2 procedure), owner, first variable, parameters, variables, first statement, space
    ∷ ((choice 0 2 ∷ block ∷ first 2 ∷ number ∷ number ∷ statement ∷ number ∷ []) ∷ [])
    -- Argument: node
    ∷ ((node ∷ []) ∷ [])
    -- Node: kind, p, q, v
    ∷ ((number ∷ standard ∷ unused ∷ number ∷ [])  -- 0 constant
    ∷ (number ∷ variable ∷ unused ∷ unused ∷ [])  -- 1 whole
    ∷ (number ∷ variable_node ∷ number ∷ unused ∷ [])  -- 2 field
    ∷ (number ∷ variable_node ∷ expression_node ∷ unused ∷ [])  -- 3 element
    ∷ (number ∷ variable_node ∷ unused ∷ unused ∷ [])  -- 4 value
    ∷ (number ∷ expression_node ∷ choice 1 3 ∷ unused ∷ [])  -- 5 unary
    ∷ (number ∷ expression_node ∷ expression_node ∷ choice 1 13 ∷ [])  -- 6 binary
    ∷ (number ∷ expression_node ∷ standard ∷ unused ∷ [])  -- 7 transfer
    ∷ (number ∷ first 7 ∷ number ∷ unused ∷ []) ∷ [])  -- 8 string: first character, length (02, b)
    -- Statement: kind, a, b, c, d, link
    ∷ (bare  -- 0 skip
    ∷ (number ∷ variable_node ∷ expression_node ∷ unused ∷ unused ∷ unused ∷ [])  -- 1 assign
    ∷ (number ∷ procedure ∷ unused ∷ first 4 ∷ number ∷ unused ∷ [])  -- 2 local call
    ∷ (number ∷ variable_node ∷ procedure ∷ first 4 ∷ number ∷ unused ∷ [])  -- 3 process call
    ∷ (number ∷ variable_node ∷ unused ∷ unused ∷ unused ∷ unused ∷ [])  -- 4 create
    ∷ (number ∷ variable_node ∷ unused ∷ first 4 ∷ number ∷ unused ∷ [])  -- 5 start
    ∷ bare ∷ bare ∷ bare ∷ bare  -- 6 if, 7 while, 8 when, 9 cycle
    ∷ (number ∷ expression_node ∷ unused ∷ unused ∷ unused ∷ statement ∷ [])  -- 10 arm
    ∷ (number ∷ unused ∷ unused ∷ unused ∷ unused ∷ statement ∷ [])  -- 11 end
    ∷ (number ∷ expression_node ∷ expression_node ∷ unused ∷ unused ∷ unused ∷ [])  -- 12 write
    ∷ (number ∷ block ∷ unused ∷ unused ∷ unused ∷ unused ∷ []) ∷ [])  -- 13 block end
    -- Character: what it is, 0..127
    ∷ ((number ∷ []) ∷ [])
    ∷ []

unfoldable pub rows : ℕ → List (List Content)
rows s = get_or kinds s []

-- the row of entry i of section s, none where its kind is not there; what its field f holds
unfoldable pub row_of : Table → ℕ → ℕ → List Content
row_of T s i = get_or (rows s) (pick (eqb (length (rows s)) 1) 0 (T.cell s i 0)) []

unfoldable pub held : Table → ℕ → ℕ → ℕ → Content
held T s i f = get_or (row_of T s i) f unused

-- each field of an entry passes a test of what it holds and its number
unfoldable pub each_field : (Content → ℕ → Bool) → Table → ℕ → ℕ → Bool
each_field test T s i = all_below (fields s) (λ f. test (held T s i f) (T.cell s i f))

-- a field holds a number of section k
unfoldable pub names : ℕ → Content → Bool
names k unused = false
names k number = false
names k standard = false
names k (choice a b) = false
names k (entry s test) = eqb s k
names k (first s) = eqb s k

-- a call is a statement whose field c holds the first of its arguments
unfoldable pub is_call : Table → ℕ → Bool
is_call T i = names 4 (held T 6 i 3)
