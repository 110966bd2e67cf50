-- Inner: for code and proofs only; no public promise is said with these definitions.
-- The part of the table that holds a call's arguments (01: calls take arguments in order, consecutively). Assumes nothing.
use Rattle.std.specs.Prelude.{ℕ, ◌+◌, ◌-◌, ◌*◌, min, List, length, take, drop, leb}
use Rattle.basics.specs.Choice.{pick}
use Rattle.table.specs.Bytes.{num, begins}
use Rattle.table.specs.Table.{count_at}

-- the arguments from the first on that the section has: where they begin, and how many of `count` there are
unfoldable pub argument_from : ℕ → List ℕ → ℕ → ℕ
argument_from w t first = begins w t 4 + w + min first (count_at w t 4) * w

unfoldable pub arguments_left : ℕ → List ℕ → ℕ → ℕ → ℕ
arguments_left w t first count = min count (count_at w t 4 - min first (count_at w t 4))

-- the bytes of `count` arguments from `first` on, or of as many of these as there are
unfoldable pub argument_part : ℕ → List ℕ → ℕ → ℕ → List ℕ
argument_part w t first count = take (arguments_left w t first count * w) (drop (argument_from w t first) t)

-- argument k of such a part, 0 where it has none
unfoldable pub argument_in : List ℕ → ℕ → ℕ → ℕ
argument_in b w k = pick (leb (k * w + w) (length b)) (num b (k * w) w) 0
