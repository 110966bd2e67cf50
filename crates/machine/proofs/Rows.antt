-- Tables written as rows (01, The table). Assumes nothing.
use Prim.Native.Nat.{ℕ}
use mathlib.Core.List.{List, [], ◌∷◌, ◌++◌}
use lib.ListN.{length, get_or}
use Rattle.table.specs.Table.{Table}

abbrev pub Row : Type 0
Row = List ℕ

pub record Program : Type 0 where
  pub types : List Row
  pub fields : List Row
  pub variables : List Row
  pub blocks : List Row
  pub arguments : List Row
  pub nodes : List Row
  pub statements : List Row

abbrev pub sections : Program → List (List Row)
sections P =
    P.types ∷ P.fields ∷ P.variables ∷ P.blocks ∷ P.arguments ∷ P.nodes ∷ P.statements ∷ []

abbrev pub table_from : Program → Table
table_from P = record {
  count = λ k. length (get_or (sections P) k []);
  cell = λ k i f. get_or (get_or (get_or (sections P) k []) i []) f 0;
}

-- with an eighth section (02, b)
abbrev pub titled_from : List Row → Program → Table
titled_from characters P = record {
  count = λ k. length (get_or (sections P ++ characters ∷ []) k []);
  cell = λ k i f. get_or (get_or (get_or (sections P ++ characters ∷ []) k []) i []) f 0;
}

-- types
abbrev pub records : ℕ → ℕ → Row
records first count = 1 ∷ first ∷ count ∷ 0 ∷ 0 ∷ []

abbrev pub arrays : ℕ → ℕ → ℕ → ℕ → Row
arrays index element low high = 2 ∷ index ∷ element ∷ low ∷ high ∷ []

abbrev pub processes : ℕ → Row
processes b = 3 ∷ b ∷ 0 ∷ 0 ∷ 0 ∷ []

-- fields, arguments and characters: a type, a node, a number
abbrev pub number : ℕ → Row
number n = n ∷ []

-- variables, by their type
abbrev pub local : ℕ → Row
local τ = 0 ∷ τ ∷ []

abbrev pub by_value : ℕ → Row
by_value τ = 1 ∷ τ ∷ []

abbrev pub by_var : ℕ → Row
by_var τ = 2 ∷ τ ∷ []

-- blocks: first variable, parameters, variables, first statement
abbrev pub initial : ℕ → ℕ → Row
initial vars statement = 0 ∷ 0 ∷ 0 ∷ 0 ∷ vars ∷ statement ∷ 0 ∷ []

abbrev pub reserving : ℕ → ℕ → ℕ → Row
reserving space vars statement = 0 ∷ 0 ∷ 0 ∷ 0 ∷ vars ∷ statement ∷ space ∷ []

abbrev pub process : ℕ → ℕ → ℕ → ℕ → ℕ → Row
process b first params vars statement = 1 ∷ b ∷ first ∷ params ∷ vars ∷ statement ∷ 0 ∷ []

abbrev pub procedure : ℕ → ℕ → ℕ → ℕ → ℕ → Row
procedure owner first params vars statement = 2 ∷ owner ∷ first ∷ params ∷ vars ∷ statement ∷ 0 ∷ []

-- nodes
abbrev pub constant : ℕ → ℕ → Row
constant τ v = 0 ∷ τ ∷ 0 ∷ v ∷ []

abbrev pub whole : ℕ → Row
whole v = 1 ∷ v ∷ 0 ∷ 0 ∷ []

abbrev pub field : ℕ → ℕ → Row
field n i = 2 ∷ n ∷ i ∷ 0 ∷ []

abbrev pub element : ℕ → ℕ → Row
element n i = 3 ∷ n ∷ i ∷ 0 ∷ []

abbrev pub value : ℕ → Row
value n = 4 ∷ n ∷ 0 ∷ 0 ∷ []

abbrev pub unary : ℕ → ℕ → Row
unary o n = 5 ∷ n ∷ o ∷ 0 ∷ []

abbrev pub binary : ℕ → ℕ → ℕ → Row
binary o n k = 6 ∷ n ∷ k ∷ o ∷ []

abbrev pub transfer : ℕ → ℕ → Row
transfer n τ = 7 ∷ n ∷ τ ∷ 0 ∷ []

abbrev pub string : ℕ → ℕ → Row
string first length = 8 ∷ first ∷ length ∷ 0 ∷ []

-- the operators
abbrev pub val : ℕ → Row
val n = unary 3 n

abbrev pub equal : ℕ → ℕ → Row
equal n k = binary 1 n k

abbrev pub less : ℕ → ℕ → Row
less n k = binary 3 n k

abbrev pub greater : ℕ → ℕ → Row
greater n k = binary 5 n k

abbrev pub plus : ℕ → ℕ → Row
plus n k = binary 7 n k

abbrev pub difference : ℕ → ℕ → Row
difference n k = binary 8 n k

abbrev pub quotient : ℕ → ℕ → Row
quotient n k = binary 10 n k

abbrev pub conjunction : ℕ → ℕ → Row
conjunction n k = binary 12 n k

-- statements
abbrev pub skip : Row
skip = 0 ∷ 0 ∷ 0 ∷ 0 ∷ 0 ∷ 0 ∷ []

abbrev pub assign : ℕ → ℕ → Row
assign a b = 1 ∷ a ∷ b ∷ 0 ∷ 0 ∷ 0 ∷ []

abbrev pub local_call : ℕ → ℕ → ℕ → Row
local_call q c d = 2 ∷ q ∷ 0 ∷ c ∷ d ∷ 0 ∷ []

abbrev pub process_call : ℕ → ℕ → ℕ → ℕ → Row
process_call a q c d = 3 ∷ a ∷ q ∷ c ∷ d ∷ 0 ∷ []

abbrev pub create : ℕ → Row
create a = 4 ∷ a ∷ 0 ∷ 0 ∷ 0 ∷ 0 ∷ []

abbrev pub start : ℕ → ℕ → ℕ → Row
start a c d = 5 ∷ a ∷ 0 ∷ c ∷ d ∷ 0 ∷ []

abbrev pub if : Row
if = 6 ∷ 0 ∷ 0 ∷ 0 ∷ 0 ∷ 0 ∷ []

abbrev pub while : Row
while = 7 ∷ 0 ∷ 0 ∷ 0 ∷ 0 ∷ 0 ∷ []

abbrev pub when : Row
when = 8 ∷ 0 ∷ 0 ∷ 0 ∷ 0 ∷ 0 ∷ []

abbrev pub cycle : Row
cycle = 9 ∷ 0 ∷ 0 ∷ 0 ∷ 0 ∷ 0 ∷ []

abbrev pub arm : ℕ → ℕ → Row
arm g link = 10 ∷ g ∷ 0 ∷ 0 ∷ 0 ∷ link ∷ []

abbrev pub end_arms : ℕ → Row
end_arms link = 11 ∷ 0 ∷ 0 ∷ 0 ∷ 0 ∷ link ∷ []

abbrev pub write : ℕ → ℕ → Row
write a b = 12 ∷ a ∷ b ∷ 0 ∷ 0 ∷ 0 ∷ []

abbrev pub block_end : ℕ → Row
block_end b = 13 ∷ b ∷ 0 ∷ 0 ∷ 0 ∷ 0 ∷ []
