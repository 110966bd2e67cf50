-- Inner: for code and proofs only; no public promise is said with these definitions.
-- Arguments as the part of the table that holds them has them. Assumes nothing.
use Rattle.std.specs.Prelude.{ℕ, ◌+◌, Bool, List}
use Rattle.table.specs.Table.{Table}
use Rattle.table.specs.Parts.{argument_in}
use Rattle.typing.specs.Typing.{argument_typed}

-- the arguments of a call as its part of the table holds them (the finder's law makes them the table's)
unfoldable pub parameter_in : Table → ℕ → List ℕ → ℕ → ℕ → Bool
parameter_in T w part x k = argument_typed T (x + k) (argument_in part w k)
