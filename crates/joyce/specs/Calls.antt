-- Trusted: public promises are said with these definitions.
-- What a caller of joyce_begin and joyce_run sees, call by call, and what holds of it. Assumes nothing.
use Rattle.std.specs.Prelude.{ℕ, ◌≤◌, ◌≡◌, List, [], ◌∷◌, ◌++◌, eqb, length, take}
use Rattle.basics.specs.Choice.{pick}
use Rattle.words.specs.Bytes.{Bytes}
use Rattle.verdict.specs.Verdict.{verdict}
use Rattle.machine.specs.Public.{begun, called, begin_call, run_call}
use Rattle.machine.specs.Layout.{page_size}
use Rattle.sound.specs.Histories.{Seen, asked, told, processes, answers, finally, devices_after, Ask, steps_of, History, first, steps}
use Rattle.sound.specs.Demand.{Demand3}
use Rattle.sound.specs.Tested.{TestedAlike}

-- ---- what the contracts say, in the edition of width w

-- joyce_begin, lent table and state, with a number: it returns r and leaves after
abbrev pub BeginLeaves : (w : ℕ) (table state : List ℕ) (number r : ℕ) (after : List ℕ) → Type 0
BeginLeaves w table state number r after = begun r after ≡ begin_call verdict w table state number

-- joyce_run, lent five slices: it returns r and leaves the state, the page and the answers after
abbrev pub RunLeaves : (w : ℕ) (table state page schedule answers : List ℕ) (r : ℕ) (state_after page_after answers_after : List ℕ) → Type 0
RunLeaves w table state page schedule answers r state_after page_after answers_after =
    called r state_after page_after answers_after ≡ run_call verdict w table state page schedule answers

-- ---- logs

-- a call of joyce_run: what it is lent, its result, and what the slices hold afterwards
pub record Call : Type 0 where
  pub ask : Ask
  pub state : List ℕ
  pub result : ℕ
  pub state_after : List ℕ
  pub page_after : List ℕ
  pub answers_after : List ℕ

-- it is lent state s, and keeps the contract
pub record Kept (w : ℕ) (s : List ℕ) (c : Call) : Type 0 where
  pub state : c.state ≡ s
  pub contract : RunLeaves w c.ask.table c.state c.ask.page c.ask.schedule c.ask.answers c.result c.state_after c.page_after c.answers_after

-- each call is lent the state that the last one left, the first s
unfoldable pub Chained : ℕ → List ℕ → List Call → Type 0
Chained w s [] = Unit
Chained w s (c ∷ cs) = Kept w s c × Chained w c.state_after cs

-- P holds of each call
unfoldable pub Each : (Call → Type 0) → List Call → Type 0
Each P [] = Unit
Each P (c ∷ cs) = P c × Each P cs

-- it takes table t unless it is refused; a page is bytes
pub record Fits (t : List ℕ) (c : Call) : Type 0 where
  pub same : c.result ≡ 0 → c.ask.table ≡ t
  pub bytes : Bytes c.ask.page

-- A LOG: joyce_begin, which returned 0, with its table, the slice lent to it, its number and the state in it afterwards; then any calls
-- of joyce_run, refused ones among them
pub record Log (w : ℕ) : Type 0 where
  pub table : List ℕ
  pub slice : List ℕ
  pub number : ℕ
  pub state : List ℕ
  pub calls : List Call
  pub bytes : Bytes table
  pub begins : BeginLeaves w table slice number 0 state
  pub chained : Chained w state calls
  pub fits : Each (Fits table) calls

-- ---- what is read off the calls of a log

-- what they were lent
unfoldable pub asks : List Call → List Ask
asks [] = []
asks (c ∷ cs) = c.ask ∷ asks cs

-- the order named: the schedules of those that returned 0, end to end
unfoldable pub named : List Call → List ℕ
named [] = []
named (c ∷ cs) = pick (eqb c.result 0) c.ask.schedule [] ++ named cs

-- the answers that they gave
unfoldable pub answered : List Call → List ℕ
answered [] = []
answered (c ∷ cs) = pick (eqb c.result 0) (take (length c.ask.schedule) c.answers_after) [] ++ answered cs

-- the state that they left, from state s
unfoldable pub leaves : List ℕ → List Call → List ℕ
leaves s [] = s
leaves s (c ∷ cs) = leaves c.state_after cs

-- the steps that they made
abbrev pub steps_made : ℕ → Call → List Seen
steps_made w c = steps_of verdict w c.state c.ask

unfoldable pub made : ℕ → List Call → List Seen
made w [] = []
made w (c ∷ cs) = steps_made w c ++ made w cs

-- ---- WHAT HOLDS of a log

-- of a call in a log that began with table t
pub record CallHolds (w : ℕ) (t : List ℕ) (c : Call) : Type 0 where
  -- it left the state and the device words of its last step; those that it was lent where it made none
  pub state : c.state_after ≡ finally c.state (steps_made w c)
  pub page : c.page_after ≡ devices_after c.ask.page (steps_made w c)
  -- with begin's table and right lengths it returned 0
  pub served : c.ask.table ≡ t → length c.ask.page ≡ page_size → length c.ask.schedule ≤ length c.ask.answers → c.result ≡ 0
  -- where it returned another number, each slice is as it was
  pub unchanged : (c.result ≡ 0 → ⊥) → (c.state_after ≡ c.state) × ((c.page_after ≡ c.ask.page) × (c.answers_after ≡ c.ask.answers))

pub record LogHolds (w : ℕ) (g : Log w) : Type 0 where
  -- it is a run of demand 3, begun with its table and its number, of what its calls were lent
  pub run : History verdict w
  pub table : run.table ≡ g.table
  pub number : run.number ≡ g.number
  pub lent : run.calls ≡ asks g.calls
  pub demand3 : Demand3 verdict w run
  -- and one tested under 0 gives the same answers and device words under 1
  pub tested : TestedAlike verdict w run
  -- which begins with the state that begin left, and has the steps that the calls made
  pub begins : first verdict w run ≡ g.state
  pub steps : steps verdict w run ≡ made w g.calls
  -- one for each number of the order named, its answer the byte written for it; the calls leave the state of the last
  pub order : processes (made w g.calls) ≡ named g.calls
  pub answers : answers (made w g.calls) ≡ answered g.calls
  pub last : finally g.state (made w g.calls) ≡ leaves g.state g.calls
  pub calls : Each (CallHolds w g.table) g.calls
  -- a log begun alike, with one table and one number, begins with the same state; as far as its calls name the same order and see the same
  -- device words, they give the same answers, states and device words, wherever the calls of the two begin and end
  pub alike : (k : Log w) → k.table ≡ g.table → k.number ≡ g.number → k.state ≡ g.state
  pub agrees : (k : Log w) → k.table ≡ g.table → k.number ≡ g.number → (n : ℕ) → take n (asked (made w k.calls)) ≡ take n (asked (made w g.calls))
      → take n (told (made w k.calls)) ≡ take n (told (made w g.calls))
