-- Trusted: public promises are said with these definitions.
-- One call, or several: a host that hands state and page on from call to call may cut a schedule where it likes (01, The four calls;
-- A run, for demand 3). Assumes nothing.
use Rattle.std.specs.Prelude.{ℕ, ◌≤◌, ◌≡◌, List, [], ◌∷◌, ◌++◌, length}
use Rattle.std.proofs.Common.{arith}
use Rattle.sound.specs.Histories.{result, state_left, page_left, Ask, call_of, written_of, history, written, state_after}

-- a part of a schedule, and a slice that has room for its answers
pub record Piece : Type 0 where
  pub schedule : List ℕ
  pub answers : List ℕ
  pub room : length schedule ≤ length answers

-- the schedules end to end
unfoldable pub end_to_end : List Piece → List ℕ
end_to_end [] = []
end_to_end (x ∷ xs) = x.schedule ++ end_to_end xs

-- each number of a schedule by itself
unfoldable pub one_each : List ℕ → List Piece
one_each [] = []
one_each (p ∷ q) = record { schedule = p ∷ []; answers = 0 ∷ []; room = omega arith } ∷ one_each q

-- the call of a piece, with table t and page d
unfoldable pub ask_of : List ℕ → List ℕ → Piece → Ask
ask_of t d x = record { table = t; page = d; schedule = x.schedule; answers = x.answers }

module _ (verdict : ℕ → List ℕ → ℕ) (w : ℕ) where
  -- the page that calls leave, from state s and page d
  unfoldable pub page_after : List ℕ → List ℕ → List Ask → List ℕ
  page_after s d [] = d
  page_after s d (x ∷ xs) = page_after (state_left (call_of verdict w s x)) (page_left (call_of verdict w s x)) xs

  -- each call returns r
  unfoldable pub AllReturn : ℕ → List ℕ → List Ask → Type 0
  AllReturn r s [] = Unit
  AllReturn r s (x ∷ xs) = (result (call_of verdict w s x) ≡ r) × AllReturn r (state_left (call_of verdict w s x)) xs

  module _ (t : List ℕ) where
    -- the calls of pieces in turn, from state s and page d: each is lent the state and the page that the last one left
    unfoldable pub in_turn : List ℕ → List ℕ → List Piece → List Ask
    in_turn s d [] = []
    in_turn s d (x ∷ xs) = ask_of t d x ∷ in_turn (state_left (call_of verdict w s (ask_of t d x))) (page_left (call_of verdict w s (ask_of t d x))) xs

    -- THE CALL of u, from state s and page d, is the calls of the pieces xs in turn: they return what it returns, leave the state and the
    -- page that it leaves, and write the answers that it writes; and the steps are the same, whatever calls follow
    pub record CutAlike (s d : List ℕ) (u : Piece) (xs : List Piece) : Type 0 where
      pub results : AllReturn (result (call_of verdict w s (ask_of t d u))) s (in_turn s d xs)
      pub state : state_after verdict w s (in_turn s d xs) ≡ state_left (call_of verdict w s (ask_of t d u))
      pub page : page_after s d (in_turn s d xs) ≡ page_left (call_of verdict w s (ask_of t d u))
      pub answers : written verdict w s (in_turn s d xs) ≡ written_of verdict w s (ask_of t d u)
      pub steps : (ys : List Ask) → history verdict w s (in_turn s d xs ++ ys) ≡ history verdict w s (ask_of t d u ∷ ys)
