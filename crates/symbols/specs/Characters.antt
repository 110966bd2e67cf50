-- Trusted: public promises are said with these definitions.
-- Characters (3.1; 02: graphics are bytes 32..126, new line is 10). Assumes nothing.
use Rattle.std.specs.Prelude.{ℕ, ◌+◌, Bool, true, false, eqb}
use Rattle.basics.specs.Choice.{pick, either, between}

unfoldable pub graphic : ℕ → Bool
graphic x = between 32 126 x

-- small letters and capitals
unfoldable pub letter : ℕ → Bool
letter x = either (between 97 122 x) (between 65 90 x)

unfoldable pub digit : ℕ → Bool
digit x = between 48 57 x

unfoldable pub octal_digit : ℕ → Bool
octal_digit x = between 48 55 x

-- 3.3: what may follow in a name
unfoldable pub in_name : ℕ → Bool
in_name x = either (letter x) (digit x)

-- 3.2: a character without quotes, as it stands in a comment
unfoldable pub in_comment : ℕ → Bool
in_comment x = pick (eqb x 34) false (pick (eqb x 10) true (graphic x))

-- 6.2, 02: a graphic that stands for itself in a constant, so neither the apostrophe nor @
unfoldable pub plain_graphic : ℕ → Bool
plain_graphic x = pick (eqb x 39) false (pick (eqb x 64) false (graphic x))

-- a capital as its small letter
unfoldable pub small : ℕ → ℕ
small x = pick (between 65 90 x) (x + 32) x
