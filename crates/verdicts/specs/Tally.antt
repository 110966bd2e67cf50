-- Inner: for code and proofs only; no public promise is said with these definitions.
-- Counts by verdict. Assumes nothing.
use Rattle.std.specs.Prelude.{ℕ, ◌+◌, List, get_or, set, eqb, ltb}
use Rattle.basics.specs.Choice.{pick}

-- one more, up to the largest number of 64 bits
unfoldable pub one_more : ℕ → ℕ
one_more n = pick (ltb n 18446744073709551615) (n + 1) n

-- the counts when one more table has the verdict v
unfoldable pub counted : List ℕ → ℕ → List ℕ
counted l v = pick (ltb v 10) (set l v (one_more (get_or l v 0))) l

-- the counts of agreement when a table whose verdict is r here has the verdict v there
unfoldable pub counted_if : ℕ → List ℕ → ℕ → List ℕ
counted_if r l v = pick (eqb r v) (counted l v) l
