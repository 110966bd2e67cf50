-- Inner: for code and proofs only; no public promise is said with these definitions.
-- The words of arguments, gathered in a buffer of 256 words (11.3, 12). Assumes nothing.
use Rattle.std.specs.Prelude.{ℕ, ◌+◌, ◌-◌, ◌≤◌, ◌<◌, min, ◌≡◌, true, List, [], ◌∷◌, ◌++◌, length, take, Result, Ok, Err}
use Rattle.table.specs.Table.{Table}
use Rattle.table.specs.Entries.{arg_node, node_count, type_count}
use Rattle.types.specs.Types.{type_of_node, numbered}
use Rattle.types.specs.Match.{matching, is_fit}
use Rattle.numbers.specs.Nodes.{Variable, Expression}
use Rattle.typing.proofs.Promise.{Suits, Arguments}
use Rattle.words.specs.Values.{failure_number}
use Rattle.words.specs.declared.values.Failure.{Failure}
use Rattle.machine.specs.Memory.{Memory}
use Rattle.machine.specs.Texts.{fit}
use Rattle.machine.specs.Outcomes.{Outcome, ok, fail, stuck, and_then, Operand, on_place, on_typed}
use Rattle.machine.specs.Context.{Context}
use Rattle.machine.specs.Operands.{operand}
use Rattle.machine.specs.Calls.{value_argument, argument, argument_words, arguments}

-- a buffer that holds n words, where 257 is 'more than there are'
pub record Buffer (l : List ℕ) (n : ℕ) : Type 0 where
  pub long : length l ≡ 256
  pub most : n ≤ 257

-- ws are put after the first n words of the buffer l, which becomes k and holds r words. Words beyond the 256th are only counted: a frame
-- that has them fits no area
pub record Appended (l : List ℕ) (n : ℕ) (ws k : List ℕ) (r : ℕ) : Type 0 where
  pub long : length k ≡ 256
  pub count : r ≡ min (n + length ws) 257
  pub words : r ≤ 256 → take r k ≡ take n l ++ ws

-- what o gives is put after the first n words of the buffer l
pub record Added (l : List ℕ) (n : ℕ) (k : List ℕ) (r : ℕ) (o : Outcome (List ℕ)) : Type 0 where
  pub words : List ℕ
  pub is : o ≡ ok words
  pub put : Appended l n words k r

abbrev pub Adds : Result ℕ Failure → List ℕ → ℕ → List ℕ → Outcome (List ℕ) → Type 0
Adds (Ok r) l n k o = Added l n k r o
Adds (Err f) l n k o = o ≡ fail (failure_number f)

-- the words of a value argument for a parameter of n words, which are its own where it has n (02, b); the location of a variable
-- argument (12.1)
unfoldable pub value_of : ℕ → Outcome Operand → Outcome (List ℕ)
value_of n o = on_typed o λ σ ws. ok (fit n ws)

unfoldable pub place_of : Outcome Operand → Outcome (List ℕ)
place_of o = on_place o λ a τ. ok (a ∷ [])

-- node n is an expression that has a value, which is passed as k words; one that is passed to a value parameter of type y; a variable
-- that has a place
pub record Valuable (T : Table) (m page : Memory) (x : Context) (n k : ℕ) : Type 0 where
  pub expression : Expression T (node_count T) n
  pub unstuck : value_of k (operand T m page x n) ≡ stuck → ⊥

pub record Passable (T : Table) (m page : Memory) (x : Context) (n y : ℕ) : Type 0 where
  pub expression : Expression T (node_count T) n
  pub type : y < 3 + type_count T
  pub fit : is_fit (matching T (type_of_node T n) (numbered y)) ≡ true
  pub unstuck : value_argument T m page x y (operand T m page x n) ≡ stuck → ⊥

pub record Bindable (T : Table) (m page : Memory) (x : Context) (n : ℕ) : Type 0 where
  pub variable : Variable T (node_count T) n
  pub unstuck : place_of (operand T m page x n) ≡ stuck → ⊥

-- argument i suits parameter v, and is not stuck
pub record Passing (T : Table) (m page : Memory) (x : Context) (v i : ℕ) : Type 0 where
  pub suits : Suits T v (arg_node T i)
  pub unstuck : argument T m page x v i ≡ stuck → ⊥

-- the d arguments from c on suit the parameters of block b, and are not stuck
pub record Calling (T : Table) (m page : Memory) (x : Context) (b c d : ℕ) : Type 0 where
  pub fit : Arguments T b c d
  pub unstuck : arguments T m page x b c d ≡ stuck → ⊥

-- the words so far, then those that are left
unfoldable pub joined : List ℕ → Outcome (List ℕ) → Outcome (List ℕ)
joined us o = and_then o λ vs. ok (us ++ vs)

-- the first i of d arguments from c on, for the parameters from v on, are gathered
pub record Gathering (T : Table) (m page : Memory) (x : Context) (v c d : ℕ) (l₀ l : List ℕ) (i n : ℕ) : Type 0 where
  pub upto : i ≤ d
  pub words : List ℕ
  pub rest : joined words (argument_words T m page x (d - i) (v + i) (c + i)) ≡ argument_words T m page x d v c
  pub put : Appended l₀ 0 words l n
