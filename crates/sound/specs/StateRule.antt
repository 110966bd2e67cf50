-- Trusted: public promises are said with these definitions.
-- What the state rule is worth (01, Verdicts and other refusals: The state rule). States and pages are memories of words. Assumes nothing.
use Rattle.std.specs.Prelude.{ℕ, ◌+◌, ◌≤◌, ◌≡◌, true, false}
use Rattle.table.specs.Table.{Table}
use Rattle.table.specs.Entries.{owner}
use Rattle.sizes.specs.Sizes.{module_words}
use Rattle.machine.specs.Memory.{Memory}
use Rattle.machine.specs.Layout.{status_at, module_at, statement_at, frame_at, top_at, works_at, depth_at, called_block}
use Rattle.machine.specs.Entries.{stmt_at}
use Rattle.machine.specs.Space.{own_words}
use Rattle.machine.specs.Step.{done, step}
use Rattle.machine.specs.Run.{begin}
use Rattle.machine.specs.Rule.{may_wait, rule}
use Rattle.sound.specs.Answers.{Small, Sound}
use Rattle.sound.specs.InUse.{Created, CallAt, ValuesHold}

-- a state that begin and steps reach, of any processes and on any pages
pub data Reachable (T : Table) : Memory → Type 0 where
  at_begin : (number : ℕ) → number ≤ 1 → Reachable T (begin T number)
  by_step : {m page s d : Memory} {a : ℕ} (p : ℕ) → Reachable T m → Small page → step T m page p ≡ done a s d → Reachable T s

-- process p is started, and stands at no when or cycle
pub record NotWaiting (T : Table) (m : Memory) (p : ℕ) : Type 0 where
  pub created : Created m p
  pub started : m (status_at p) ≡ 2
  pub passing : may_wait (stmt_at T (m (statement_at p))) ≡ false

pub record StateRule (T : Table) : Type 0 where
  -- it is met by every state that begin and steps reach
  pub reached : (m : Memory) → Reachable T m → rule T m ≡ true
  -- a step of any process, on any page, from any state that meets it is never stuck, gives a listed answer and reaches one that meets it
  pub steps : (m page : Memory) (p : ℕ) → Small m → Small page → rule T m ≡ true → Sound T (step T m page p)
  -- in a state that meets it the variables in use hold values of their types, and a bound var parameter names a live variable of its type
  pub values : (m : Memory) → Small m → rule T m ≡ true → ValuesHold T m
  -- two started processes that stand at no when or cycle work on different variables
  pub apart : (m : Memory) → rule T m ≡ true → (p q : ℕ) → NotWaiting T m p → NotWaiting T m q → m (works_at p) ≡ m (works_at q) → p ≡ q
  -- a process that works on its own variables is in calls of its own module's procedures only
  pub own : (m : Memory) → rule T m ≡ true → (p : ℕ) → m (works_at p) ≡ p → (d f : ℕ) → CallAt T m p d f → owner T (called_block m p f) ≡ m (module_at p)
  -- of a started one, all calls are its own: its first free word tells what they take (13; 02, i)
  pub frames : (m : Memory) → rule T m ≡ true → (p : ℕ) → Created m p → m (status_at p) ≡ 2 → m (works_at p) ≡ p
      → m (top_at p) ≡ module_words T (m (module_at p)) + own_words T m p (m (depth_at p)) (m (frame_at p))
