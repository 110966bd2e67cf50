-- Trusted: public promises are said with these definitions.
-- One call of joyce_run, or several: a run may be cut into calls anywhere (include/joyce.h). Assumes nothing.
use Rattle.std.specs.Prelude.{ℕ, ◌≤◌, ◌≡◌, List, [], ◌∷◌, ◌++◌, length}
use Rattle.joyce.specs.Calls.{Call, Each, answered, leaves}

-- a call is lent table t, page d and a slice that has room for its answers
pub record Lent (t d : List ℕ) (c : Call) : Type 0 where
  pub table : c.ask.table ≡ t
  pub page : c.ask.page ≡ d
  pub room : length c.ask.schedule ≤ length c.ask.answers

-- each is lent the page that the last one left, the first d
unfoldable pub HandedOn : List ℕ → List ℕ → List Call → Type 0
HandedOn t d [] = Unit
HandedOn t d (c ∷ cs) = Lent t d c × HandedOn t c.page_after cs

-- their schedules, end to end
unfoldable pub schedules : List Call → List ℕ
schedules [] = []
schedules (c ∷ cs) = c.ask.schedule ++ schedules cs

-- the page that they left, from page d
unfoldable pub page_leaves : List ℕ → List Call → List ℕ
page_leaves d [] = d
page_leaves d (c ∷ cs) = page_leaves c.page_after cs

-- from state s and page d, the calls cs returned what the call u returned, left the state and the page that it left, and gave the answers
-- that it gave
pub record LeaveTheSame (s d : List ℕ) (u : Call) (cs : List Call) : Type 0 where
  pub results : Each (λ c. c.result ≡ u.result) cs
  pub state : leaves s cs ≡ u.state_after
  pub page : page_leaves d cs ≡ u.page_after
  pub answers : answered cs ≡ answered (u ∷ [])
