-- Trusted: public promises are said with these definitions.
-- The verdict on a table: the lowest refusal that applies, 0 where none does (01, Verdicts and other refusals). Assumes nothing.
use Rattle.std.specs.Prelude.{ℕ, List}
use Rattle.basics.specs.Choice.{pick}
use Rattle.table.specs.Empty.{bytes_read}
use Rattle.table.specs.Table.{Table, table_at}
use Rattle.table.specs.Bytes.{whole}
use Rattle.entries.specs.Known.{known}
use Rattle.numbers.specs.Ranges.{in_range}
use Rattle.uses.specs.Uses.{used_once}
use Rattle.nesting.specs.Nest.{nested}
use Rattle.sizes.specs.Sizes.{sized}
use Rattle.scopes.specs.Scopes.{scoped}
use Rattle.typing.specs.Typing.{typed}

-- refusals 7 to 9
unfoldable pub judged_late : Table → ℕ
judged_late T = pick (sized T) (pick (scoped T) (pick (typed T) 0 9) 8) 7

-- refusals 5 and 6, then those
unfoldable pub judged_uses : Table → ℕ
judged_uses T = pick (used_once T) (pick (nested T) (judged_late T) 6) 5

-- of a table whose sections are whole: 3 and 4, then those
unfoldable pub judged : Table → ℕ
judged T = pick (known T) (pick (in_range T) (judged_uses T) 4) 3

-- all refusals of the bytes that are read, in the edition of width w
unfoldable pub judged_bytes : ℕ → List ℕ → ℕ
judged_bytes w t = pick (whole w t) (judged (table_at w t)) 2

-- THE VERDICT on any bytes
unfoldable pub verdict : ℕ → List ℕ → ℕ
verdict w t = judged_bytes w (bytes_read w t)
