-- Inner: for code and proofs only; no public promise is said with these definitions.
-- An integer as sign and magnitude: for the code of division. No public contract cites these. Assumes nothing.
use Rattle.std.specs.Prelude.{ℕ, ◌-◌, min, Bool, true, false, leb, ℤ, pos, neg_ℤ}

abbrev pub negative : ℕ → Bool
negative w = leb 32768 w

abbrev pub magnitude_of : ℕ → ℕ
magnitude_of w = min w (65536 - w)

abbrev pub signed_z : Bool → ℕ → ℤ
signed_z true m = neg_ℤ (pos m)
signed_z false m = pos m
