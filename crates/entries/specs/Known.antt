-- Trusted: public promises are said with these definitions.
-- Refusal 3: 'unknown kind, mode or operator, or an unused field not 0' (01, Verdicts). Assumes nothing.
use Rattle.std.specs.Prelude.{ℕ, Bool, true, eqb, ltb, length}
use Rattle.basics.specs.Choice.{both, between, all_below}
use Rattle.table.specs.Bytes.{sections}
use Rattle.table.specs.Table.{Table}
use Rattle.table.specs.Kinds.{Content, unused, number, standard, choice, entry, first, row_of, each_field}

-- 'Unused fields are 0', and modes, kinds and operators are those that there are
unfoldable pub field_known : Content → ℕ → Bool
field_known unused x = eqb x 0
field_known number x = true
field_known standard x = true
field_known (choice a b) x = between a b x
field_known (entry s test) x = true
field_known (first s) x = true

-- entry i of section s: its kind has a row
unfoldable pub entry_known : Table → ℕ → ℕ → Bool
entry_known T s i = both (ltb 0 (length (row_of T s i))) (each_field field_known T s i)

unfoldable pub section_known : Table → ℕ → Bool
section_known T s = all_below (T.count s) (entry_known T s)

-- THE RULE of refusal 3
unfoldable pub known : Table → Bool
known T = all_below sections (section_known T)
