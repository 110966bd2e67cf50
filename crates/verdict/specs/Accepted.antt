-- Inner: for code and proofs only; no public promise is said with these definitions.
-- A table that keeps the rules of the refusals 3 to 9: all that the stepper may use of a table. Assumes nothing.
use Rattle.std.specs.Prelude.{◌≡◌, true}
use Rattle.table.specs.Table.{Table}
use Rattle.entries.specs.Known.{known}
use Rattle.numbers.specs.Ranges.{in_range}
use Rattle.uses.specs.Uses.{used_once}
use Rattle.nesting.specs.Nest.{nested}
use Rattle.sizes.specs.Sizes.{sized}
use Rattle.scopes.specs.Scopes.{scoped}
use Rattle.typing.specs.Typing.{typed}

pub record Accepted (T : Table) : Type 0 where
  pub kinds : known T ≡ true
  pub numbers : in_range T ≡ true
  pub uses : used_once T ≡ true
  pub nesting : nested T ≡ true
  pub sizes : sized T ≡ true
  pub scopes : scoped T ≡ true
  pub types : typed T ≡ true
