-- Inner: for code and proofs only; no public promise is said with these definitions.
-- What statements write, in the numbers that their code has at hand; proofs/Meanings.antt carries them to the definitions of `machine`.
-- Assumes nothing.
use Rattle.std.specs.Prelude.{ℕ, ◌+◌, ◌-◌, ◌≤◌, ◌<◌, List, ◌∷◌, ◌++◌, length, replicate}
use Rattle.table.specs.Table.{Table}
use Rattle.machine.specs.Memory.{Memory, update, store, clear}
use Rattle.machine.specs.Layout.{location, record_at, status_at, statement_at, frame_at, top_at, works_at, holder_at, depth_at, caller_frame, caller_works, locations}
use Rattle.machine.specs.Marks.{mark, fresh}
use Rattle.machine.specs.Places.{SameOrApart}
use Rattle.machine.specs.Lent.{Becomes}
use Rattle.machine.specs.Context.{context_of}
use Rattle.machine.specs.Calls.{standing, pushed, frame_marked, popped}
use Rattle.machine.specs.Processes.{created}

-- n words from one location on can be copied to another, one after the other
pub record Direct (from to n : ℕ) : Type 0 where
  pub source : from + n ≤ locations
  pub target : to + n ≤ locations
  pub apart : SameOrApart from to n

-- process p is at a statement, its innermost frame and its first free word are these
unfoldable pub with_position : Memory → ℕ → ℕ → ℕ → ℕ → Memory
with_position m p statement frame top = update (update (update m (statement_at p) statement) (frame_at p) frame) (top_at p) top

-- ws, then zeros up to n words
unfoldable pub padded : List ℕ → ℕ → List ℕ
padded ws n = ws ++ replicate (n - length ws) 0

-- the four links of a frame, then its variables
unfoldable pub linked : ℕ → ℕ → ℕ → ℕ → List ℕ → List ℕ
linked frame statement works q ws = frame ∷ statement ∷ works ∷ q ∷ ws

-- a frame for procedure q at f in the area of process p, which says where the process stands (01, A step)
unfoldable pub framed : Memory → ℕ → ℕ → ℕ → List ℕ → Memory
framed m p f q ws = store m (location p f) (linked (m (frame_at p)) (m (statement_at p)) (m (works_at p)) q ws)

-- process p enters procedure q, of n words and first statement c, on process r, with the argument words ws
unfoldable pub entered : Memory → ℕ → ℕ → ℕ → ℕ → ℕ → List ℕ → Memory
entered m p q r c n ws =
    standing (framed m p (m (top_at p)) q (padded ws n)) p c (m (top_at p)) (m (top_at p) + 4 + n) r (m (depth_at p) + 1)

-- the marks of a frame at location a, of n variables: the links and the k words of parameters are marked, the others made (02, g)
unfoldable pub framed_marks : Memory → ℕ → ℕ → ℕ → Memory
framed_marks m a n k = fresh (mark m a (4 + k)) (a + 4 + k) (n - k)

unfoldable pub called_in : Memory → ℕ → ℕ → ℕ → ℕ → ℕ → List ℕ → Memory
called_in m p q r c n ws = framed_marks (entered m p q r c n ws) (location p (m (top_at p))) n (length ws)

-- process p leaves the procedure of its innermost call, and stands after the call statement c (12.2, 13)
unfoldable pub left : Memory → ℕ → ℕ → Memory
left m p c =
    standing m p (c + 1) (caller_frame m p (m (frame_at p))) (m (frame_at p)) (caller_works m p (m (frame_at p))) (m (depth_at p) - 1)

-- the area and the record of process n are 0
unfoldable pub wiped : Memory → ℕ → Memory
wiped m n = clear (clear m (location n 0) 256) (record_at n 0) 20

-- process n is created, of module μ, for the variable at i, and its area is made
unfoldable pub with_process : Memory → ℕ → ℕ → ℕ → Memory
with_process m n μ i = fresh (update (created m n μ) i n) (location n 0) 256

-- process r has its parameters, is started and holds its own variables (11.5)
unfoldable pub with_parameters : Memory → ℕ → List ℕ → Memory
with_parameters m r ws = update (update (store m (location r 0) ws) (status_at r) 2) (holder_at r) r

-- it stands at statement c; its variables take n words
unfoldable pub with_start : Memory → ℕ → ℕ → ℕ → List ℕ → Memory
with_start m r c n ws = standing (with_parameters m r ws) r c 0 n r 0

-- the end of process p: its variables are given up (13)
unfoldable pub ended : Memory → ℕ → Memory
ended m p = update (update m (status_at p) 3) (holder_at p) 0

-- the bytes n hold what is left, from state s, of a call of procedure q on process r by process p with the argument words ws; and of the end of
-- p's innermost call, which statement c made. The definitions of `machine` take a page, and that of an end a table, which they do not read
abbrev pub CallLeaves : Table → Memory → List ℕ → ℕ → Memory → ℕ → ℕ → List ℕ → Type 0
CallLeaves T m n p s q r ws = (page : Memory) → Becomes n (frame_marked T m page (context_of m p) (pushed T m page (context_of m p) s q r ws) q ws)

abbrev pub ReturnLeaves : Memory → List ℕ → ℕ → Memory → ℕ → Type 0
ReturnLeaves m n p s c = (T : Table) (page : Memory) → Becomes n (popped T m page (context_of m p) s c)

-- the frame that is to be pushed fits the area
pub record FrameFits (m : Memory) (p n : ℕ) : Type 0 where
  pub low : 1 ≤ p
  pub high : p ≤ 64
  pub area : m (top_at p) + 4 + n ≤ 256
  pub depth : m (depth_at p) < 64

-- the process is in a call, whose frame lies in the area
pub record InCall (m : Memory) (p : ℕ) : Type 0 where
  pub low : 1 ≤ p
  pub high : p ≤ 64
  pub area : m (frame_at p) + 4 ≤ 256
  pub depth : 1 ≤ m (depth_at p)
