-- The end of a text. Assumes nothing.
use Prim.Native.Nat.{ℕ, ◌≤◌}
use mathlib.Core.Path.{◌≡◌}
use mathlib.Core.List.{List, []}
use lib.ListN.{length, drop, drop_of_length-le}

-- the rest of a text at its end
pub drop_end : (text : List ℕ) (at : ℕ) → length text ≤ at → drop at text ≡ []
drop_end text at h = drop_of_length-le text h
