-- Trusted: public promises are said with these definitions.
-- How far a class of bytes goes on, and how many new lines are passed. Assumes nothing.
use Rattle.std.specs.Prelude.{ℕ, zero, suc, Bool, List, [], ◌∷◌, eqb}
use Rattle.basics.specs.Choice.{pick}

-- how many bytes at the front are of a class
unfoldable pub span_length : (ℕ → Bool) → List ℕ → ℕ
span_length f [] = 0
span_length f (x ∷ l) = pick (f x) (suc (span_length f l)) 0

-- how many of the first k bytes are new lines
unfoldable pub new_lines : ℕ → List ℕ → ℕ
new_lines zero l = 0
new_lines (suc k) [] = 0
new_lines (suc k) (x ∷ l) = pick (eqb x 10) (suc (new_lines k l)) (new_lines k l)
