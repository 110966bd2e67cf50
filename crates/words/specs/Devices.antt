-- Trusted: public promises are said with these definitions.
-- Device locations (10.2, val; 12.3, write; 01, answer 21). Assumes nothing.
use Rattle.std.specs.Prelude.{ℕ, ◌%◌, Bool, eqb, ℤ, pos, negsuc, nat_abs, ◌+ℤ◌}
use Rattle.basics.specs.Choice.{both}
use Rattle.words.specs.Numbers.{between_z}

-- an even integer from -8192 to -2
unfoldable pub is_device : ℤ → Bool
is_device x = both (eqb (nat_abs x % 2) 0) (between_z (negsuc 8191) (negsuc 1) x)

-- the byte of the page where the word stands
unfoldable pub position_of : ℤ → ℕ
position_of x = nat_abs (x +ℤ pos 8192)
