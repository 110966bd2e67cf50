-- Inner: for code and proofs only; no public promise is said with these definitions.
-- The marks in a lent array of bytes, and the numbers that are marked. Assumes nothing.
use Rattle.std.specs.Prelude.{ℕ, ◌≤◌, ◌<◌, ◌≡◌, Bool, List, [], ◌∷◌, length, get_or, eqb}
use Rattle.basics.specs.Choice.{pick}
use Rattle.basics.specs.Loops.{with_mark}

-- how many of p and q are operands: constant, whole none; field p; element p and q; value, unary p; binary p and q; transfer p; string none
abbrev pub operand_counts : List ℕ
operand_counts = 0 ∷ 0 ∷ 1 ∷ 2 ∷ 1 ∷ 1 ∷ 2 ∷ 1 ∷ 0 ∷ []

unfoldable pub operands : ℕ → ℕ
operands kind = get_or operand_counts kind 0

-- how many of a and b are nodes: assign (1) a and b; process call (3), create (4), start (5) a; arm (10) a; write (12) a and b; the others none
abbrev pub stmt_node_counts : List ℕ
stmt_node_counts = 0 ∷ 2 ∷ 0 ∷ 1 ∷ 1 ∷ 1 ∷ 0 ∷ 0 ∷ 0 ∷ 0 ∷ 1 ∷ 0 ∷ 2 ∷ 0 ∷ []

unfoldable pub stmt_nodes : ℕ → ℕ
stmt_nodes kind = get_or stmt_node_counts kind 0

-- none, the first, or both of two numbers, the last first
unfoldable pub first_of : ℕ → ℕ → ℕ → List ℕ
first_of k x y = pick (eqb k 0) [] (pick (eqb k 1) (x ∷ []) (y ∷ x ∷ []))

-- the marks when each number of a list is noted, the last first
unfoldable pub marked_all : List ℕ → List ℕ → List ℕ
marked_all [] seen = seen
marked_all (x ∷ l) seen = with_mark x (marked_all l seen)

-- no mark, in an array for at least n numbers
pub record NoMarks (n : ℕ) (seen : List ℕ) : Type 0 where
  pub long : n ≤ length seen
  pub zeros : (j : ℕ) → j < length seen → get_or seen j 0 ≡ 0

-- x has one mark
unfoldable pub one_mark : List ℕ → ℕ → Bool
one_mark seen x = eqb (get_or seen x 0) 1
