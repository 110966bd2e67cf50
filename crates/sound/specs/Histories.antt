-- Trusted: public promises are said with these definitions.
-- Runs: a begin that is not refused and a list of run calls, those refused among them (01, A run, for demand 3). Assumes nothing.
use Rattle.std.specs.Prelude.{ℕ, ◌≤◌, ◌≡◌, Bool, true, false, List, [], ◌∷◌, ◌++◌, length, take, eqb}
use Rattle.basics.specs.Choice.{pick}
use Rattle.words.specs.Bytes.{Bytes}
use Rattle.table.specs.Table.{Table, table_of}
use Rattle.machine.specs.Memory.{Memory, memory_of, bytes_of}
use Rattle.machine.specs.Step.{step}
use Rattle.machine.specs.Run.{on_done}
use Rattle.machine.specs.Public.{Begun, begun, Called, called, begin_call, run_call}
use Rattle.machine.specs.Layout.{state_words, page_words, page_size}

-- ---- steps

-- one step: the process named; the state and the device words before it; the answer; the state and the device words after it, as bytes
pub record Seen : Type 0 where
  pub process : ℕ
  pub before : List ℕ
  pub given : List ℕ
  pub answer : ℕ
  pub after : List ℕ
  pub left : List ℕ

unfoldable pub state_bytes : Memory → List ℕ
state_bytes m = bytes_of state_words m

unfoldable pub page_bytes : Memory → List ℕ
page_bytes page = bytes_of page_words page

unfoldable pub seen : ℕ → Memory → Memory → ℕ → Memory → Memory → Seen
seen p m page a s d = record {
  process = p;
  before = state_bytes m;
  given = page_bytes page;
  answer = a;
  after = state_bytes s;
  left = page_bytes d;
}

-- the steps of a schedule, one after the other; none after a stuck one
unfoldable pub trace : Table → List ℕ → Memory → Memory → List Seen
trace T [] m page = []
trace T (p ∷ schedule) m page = on_done (step T m page p) [] λ a s d. seen p m page a s d ∷ trace T schedule s d

-- what is asked of the steps: the order named, and the device words before each step
unfoldable pub asked : List Seen → List (ℕ × List ℕ)
asked [] = []
asked (e ∷ es) = (e.process, e.given) ∷ asked es

-- what is told: the answer, and the state and the device words after each step
unfoldable pub told : List Seen → List (ℕ × List ℕ × List ℕ)
told [] = []
told (e ∷ es) = (e.answer, e.after, e.left) ∷ told es

unfoldable pub processes : List Seen → List ℕ
processes [] = []
processes (e ∷ es) = e.process ∷ processes es

unfoldable pub answers : List Seen → List ℕ
answers [] = []
answers (e ∷ es) = e.answer ∷ answers es

-- the state that the steps leave, from state s
unfoldable pub finally : List ℕ → List Seen → List ℕ
finally s [] = s
finally s (e ∷ es) = finally e.after es

-- each step begins with the state that the last one left, the first with s
unfoldable pub Threaded : List ℕ → List Seen → Type 0
Threaded s [] = Unit
Threaded s (e ∷ es) = (e.before ≡ s) × Threaded e.after es

-- each step sees the device words that the last one left, the first d
unfoldable pub Seeing : List ℕ → List Seen → Type 0
Seeing d [] = Unit
Seeing d (e ∷ es) = (e.given ≡ d) × Seeing e.left es

-- the device words that the steps leave, from d
unfoldable pub devices_after : List ℕ → List Seen → List ℕ
devices_after d [] = d
devices_after d (e ∷ es) = devices_after e.left es

-- what a host can see of them: the answer, and the device words after each step
unfoldable pub shown : List Seen → List (ℕ × List ℕ)
shown [] = []
shown (e ∷ es) = (e.answer, e.left) ∷ shown es

-- P holds of every step
unfoldable pub Every : (Seen → Type 0) → List Seen → Type 0
Every P [] = Unit
Every P (e ∷ es) = P e × Every P es

-- after a failure every step answers the same number
unfoldable pub Lasting : List Seen → Type 0
Lasting [] = Unit
Lasting (e ∷ es) = (16 ≤ e.answer → Every (λ f. f.answer ≡ e.answer) es) × Lasting es

-- ---- calls

unfoldable pub begun_result : Begun → ℕ
begun_result (begun r s) = r

unfoldable pub begun_state : Begun → List ℕ
begun_state (begun r s) = s

unfoldable pub result : Called → ℕ
result (called r s d out) = r

unfoldable pub state_left : Called → List ℕ
state_left (called r s d out) = s

unfoldable pub page_left : Called → List ℕ
page_left (called r s d out) = d

unfoldable pub answers_left : Called → List ℕ
answers_left (called r s d out) = out

-- what a run call gets besides the state
pub record Ask : Type 0 where
  pub table : List ℕ
  pub page : List ℕ
  pub schedule : List ℕ
  pub answers : List ℕ

module _ (verdict : ℕ → List ℕ → ℕ) (w : ℕ) where
  unfoldable pub call_of : List ℕ → Ask → Called
  call_of s x = run_call verdict w x.table s x.page x.schedule x.answers

  unfoldable pub refused : List ℕ → Ask → Bool
  refused s x = pick (eqb (result (call_of s x)) 0) false true

  -- its steps: none where it is refused
  unfoldable pub steps_of : List ℕ → Ask → List Seen
  steps_of s x = pick (refused s x) [] (trace (table_of w x.table) x.schedule (memory_of s) (memory_of x.page))

  -- its schedule, and the answer bytes that it wrote
  unfoldable pub order_of : List ℕ → Ask → List ℕ
  order_of s x = pick (refused s x) [] x.schedule

  unfoldable pub written_of : List ℕ → Ask → List ℕ
  written_of s x = pick (refused s x) [] (take (length x.schedule) (answers_left (call_of s x)))

  -- a list of calls: each gets the state as the last left it
  unfoldable pub history : List ℕ → List Ask → List Seen
  history s [] = []
  history s (x ∷ xs) = steps_of s x ++ history (state_left (call_of s x)) xs

  unfoldable pub order : List ℕ → List Ask → List ℕ
  order s [] = []
  order s (x ∷ xs) = order_of s x ++ order (state_left (call_of s x)) xs

  unfoldable pub written : List ℕ → List Ask → List ℕ
  written s [] = []
  written s (x ∷ xs) = written_of s x ++ written (state_left (call_of s x)) xs

  -- a call that gets table t and the right lengths is not refused: each state left meets its rule
  unfoldable pub Served : List ℕ → List ℕ → List Ask → Type 0
  Served t s [] = Unit
  Served t s (x ∷ xs) =
      (x.table ≡ t → length x.page ≡ page_size → length x.schedule ≤ length x.answers → refused s x ≡ false) × Served t (state_left (call_of s x)) xs

  -- the first step of a call sees the device words handed over, each other those that the last one left; the call leaves those of its last
  -- step, and its state
  pub record Devices (s : List ℕ) (x : Ask) : Type 0 where
    pub seeing : Seeing x.page (steps_of s x)
    pub left : page_left (call_of s x) ≡ devices_after x.page (steps_of s x)
    pub state : state_left (call_of s x) ≡ finally s (steps_of s x)

  unfoldable pub Handed : List ℕ → List Ask → Type 0
  Handed s [] = Unit
  Handed s (x ∷ xs) = Devices s x × Handed (state_left (call_of s x)) xs

  unfoldable pub state_after : List ℕ → List Ask → List ℕ
  state_after s [] = s
  state_after s (x ∷ xs) = state_after (state_left (call_of s x)) xs

  -- a call that is not refused has the table t; the page lent is one of bytes
  pub record AskFits (t s : List ℕ) (x : Ask) : Type 0 where
    pub same : refused s x ≡ false → x.table ≡ t
    pub bytes : Bytes x.page

  unfoldable pub Calls : List ℕ → List ℕ → List Ask → Type 0
  Calls t s [] = Unit
  Calls t s (x ∷ xs) = AskFits t s x × Calls t (state_left (call_of s x)) xs

  -- the state that begin leaves in the slice that it is lent
  unfoldable pub begun_with : List ℕ → List ℕ → ℕ → List ℕ
  begun_with t slice number = begun_state (begin_call verdict w t slice number)

  -- A RUN: a begin that is not refused, with its table, the slice that it fills and its number, and any list of run calls
  pub record History : Type 0 where
    pub table : List ℕ
    pub slice : List ℕ
    pub number : ℕ
    pub calls : List Ask
    pub bytes : Bytes table
    pub begins : begun_result (begin_call verdict w table slice number) ≡ 0
    pub fits : Calls table (begun_with table slice number) calls

  -- the state that it begins with, its steps, its order and its answers
  abbrev pub first : History → List ℕ
  first h = begun_with h.table h.slice h.number

  abbrev pub steps : History → List Seen
  steps h = history (first h) h.calls
