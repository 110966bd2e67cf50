-- Trusted: public promises are said with these definitions.
-- The integers from -32768 to 32767 (5.1.1) and the words that stand for them. Assumes nothing.
use Rattle.std.specs.Prelude.{ℕ, Bool, ℤ}
use Rattle.std.specs.Int.Signed.{le_z}
use Rattle.std.specs.Int.{w16}
use Rattle.std.proofs.Common.{to_z, of_z}
use Rattle.basics.specs.Choice.{both}

-- w below 32768, and w - 65536 from there on
abbrev pub int_of : ℕ → ℤ
int_of = to_z w16

-- and back: z, and z + 65536 where it is negative
abbrev pub word_of_z : ℤ → ℕ
word_of_z = of_z w16

-- a range includes both bounds (7)
unfoldable pub between_z : ℤ → ℤ → ℤ → Bool
between_z low high z = both (le_z low z) (le_z z high)
