-- Inner: for code and proofs only; no public promise is said with these definitions.
-- Equal types by their numbers: what `matching` says of two types that have numbers (proofs/Matching). Assumes nothing.
use Rattle.std.specs.Prelude.{ℕ, Bool, true, false, eqb}
use Rattle.basics.specs.Choice.{pick}
use Rattle.table.specs.Table.{Table}
use Rattle.types.specs.Match.{elements, is_string}

-- the same type, or both strings of one length
unfoldable pub matches : Table → ℕ → ℕ → Bool
matches T τ σ =
    pick (eqb τ σ) true
    (pick (is_string T τ) (pick (is_string T σ) (eqb (elements T τ) (elements T σ)) false) false)
