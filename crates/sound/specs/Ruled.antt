-- Inner: for code and proofs only; no public promise is said with these definitions.
-- The state rule as records: what a state that meets it gives, in facts of numbers. Assumes nothing.
use Rattle.std.specs.Prelude.{ℕ, suc, ◌+◌, ◌≤◌, ◌<◌, ◌≡◌, true, List, length, get_or}
use Rattle.table.specs.Table.{Table}
use Rattle.table.specs.Entries.{block_count, var_mode, var_type, block_kind, owner, first_var, params, vars, first_stmt, stmt_limit}
use Rattle.sizes.specs.Sizes.{module_words}
use Rattle.machine.specs.Memory.{Memory}
use Rattle.machine.specs.Layout.{location, status_at, module_at, statement_at, frame_at, top_at, works_at, holder_at, depth_at, created_at, failure_at, number_at, caller_frame, call_statement, caller_works, called_block}
use Rattle.machine.specs.Entries.{stmt_at}
use Rattle.machine.specs.Variables.{first_words, frame_words, offset_of}
use Rattle.machine.specs.Context.{block_of}
use Rattle.machine.specs.Values.{holds}
use Rattle.sound.specs.Claims.{Keeps}
use Rattle.machine.specs.Outcomes.{Outcome, ok, fail, is_failure}
use Rattle.machine.specs.Rule.{calls, may_wait, worked, works_by, lives, rule}

-- process p executes its own block: the bottom of its chain
pub record Bottom (T : Table) (m : Memory) (p f w c top : ℕ) : Type 0 where
  pub no_frame : f ≡ 0
  pub own : w ≡ p
  pub ends : top ≡ module_words T (m (module_at p))
  pub from : first_stmt T (m (module_at p)) ≤ c
  pub to : c < stmt_limit T (m (module_at p))

-- a call of procedure q, with its frame at f in the area of process p and d calls below it, that stands at statement c and works on
-- process w; its frame ends at top
pub record Framed (T : Table) (m : Memory) (p d f w c top q : ℕ) : Type 0 where
  pub room : f + 4 ≤ 256
  pub some_works : 1 ≤ w
  pub works : w ≤ m created_at
  pub begun : m (status_at w) ≡ 1 → ⊥
  pub there : q < block_count T
  pub procedure : block_kind T q ≡ 2
  pub owned : owner T q ≡ m (module_at w)
  pub ends : f + 4 + frame_words T q ≡ top
  pub fits : top ≤ 256
  pub from : first_stmt T q ≤ c
  pub to : c < stmt_limit T q
  -- a value parameter or local holds a value of its type, a var parameter names a live variable of its type
  pub values : (i : ℕ) → i < vars T q → (var_mode T (first_var T q + i) ≡ 2 → ⊥) → holds T m (var_type T (first_var T q + i)) (location p (f + 4 + offset_of T q (first_var T q + i))) ≡ true
  pub bound : (i : ℕ) → i < vars T q → var_mode T (first_var T q + i) ≡ 2 → lives T m p d (caller_frame m p f) (caller_works m p f) (var_type T (first_var T q + i)) (m (location p (f + 4 + offset_of T q (first_var T q + i)))) ≡ true
  pub calling : calls q (stmt_at T (call_statement m p f)) ≡ true
  -- a local call works on what its caller works on, a process call on none of those that its process works on outside it
  pub by : works_by T m p d f w (stmt_at T (call_statement m p f)) ≡ true

-- the d calls of process p that have not ended, the innermost first; below them its own block
pub data CallChain (T : Table) (m : Memory) (p : ℕ) : ℕ → ℕ → ℕ → ℕ → ℕ → Type 0 where
  bottom : {f w c top : ℕ} → Bottom T m p f w c top → CallChain T m p 0 f w c top
  called : {d f w c top : ℕ} → Framed T m p d f w c top (called_block m p f) → CallChain T m p d (caller_frame m p f) (caller_works m p f) (call_statement m p f) f → CallChain T m p (suc d) f w c top

-- process p holds the variables of process r, or stands at a when or cycle and may have given up those that it works on
pub data Held (T : Table) (m : Memory) (p r : ℕ) : Type 0 where
  held : m (holder_at r) ≡ p → Held T m p r
  given : r ≡ m (works_at p) → may_wait (stmt_at T (m (statement_at p))) ≡ true → Held T m p r

-- r is one of the processes that process p works on, in its own block or in one of its calls
abbrev pub Worked : Table → Memory → ℕ → ℕ → Type 0
Worked T m p r = worked m p (m (depth_at p)) (m (frame_at p)) (m (works_at p)) r ≡ true

-- created process p
pub record Process (T : Table) (m : Memory) (p : ℕ) : Type 0 where
  pub low : 1 ≤ m (status_at p)
  pub high : m (status_at p) ≤ 3
  pub first_status : p ≡ 1 → 2 ≤ m (status_at p)
  pub first_block : p ≡ 1 → m (module_at p) ≡ 0
  pub there : (p ≡ 1 → ⊥) → m (module_at p) < block_count T
  pub kind : (p ≡ 1 → ⊥) → block_kind T (m (module_at p)) ≡ 1
  pub holder : m (holder_at p) ≤ m created_at
  pub variables : (i : ℕ) → i < vars T (m (module_at p)) → holds T m (var_type T (first_var T (m (module_at p)) + i)) (location p (offset_of T (m (module_at p)) (first_var T (m (module_at p)) + i))) ≡ true
  pub chain : m (status_at p) ≡ 2 → CallChain T m p (m (depth_at p)) (m (frame_at p)) (m (works_at p)) (m (statement_at p)) (m (top_at p))
  pub holding : m (status_at p) ≡ 2 → (r : ℕ) → Worked T m p r → Held T m p r

pub record Ruled (T : Table) (m : Memory) : Type 0 where
  pub some : 1 ≤ m created_at
  pub most : m created_at ≤ 64
  pub failed : (m failure_at ≡ 0 → ⊥) → is_failure (m failure_at) ≡ true
  pub number : m number_at ≤ 1
  pub process : (p : ℕ) → 1 ≤ p → p ≤ m created_at → Process T m p

-- the context of a started process: its block exists, and is one of the module of the process that it works on
pub record BlockOwned (T : Table) (m : Memory) (p : ℕ) : Type 0 where
  pub there : block_of m p < block_count T
  pub owned : m (module_at (m (works_at p))) ≡ owner T (block_of m p)
  pub some_works : 1 ≤ m (works_at p)
  pub works : m (works_at p) ≤ m created_at
  pub from : first_stmt T (block_of m p) ≤ m (statement_at p)
  pub to : m (statement_at p) < stmt_limit T (block_of m p)
  pub room : (m (depth_at p) ≡ 0 → ⊥) → m (frame_at p) + 4 ≤ 256

-- the processes of m are processes of n, of the same modules, and started ones stay so
pub record ProcessesStay (m n : Memory) : Type 0 where
  pub grows : m created_at ≤ n created_at
  pub modules : (p : ℕ) → 1 ≤ p → p ≤ m created_at → n (module_at p) ≡ m (module_at p)
  pub begun : (p : ℕ) → 1 ≤ p → p ≤ m created_at → (m (status_at p) ≡ 1 → ⊥) → n (status_at p) ≡ 1 → ⊥

-- ws are the words of arguments that process p passes to the parameters of block b, one after the other: values of their types, and
-- locations of live variables of them
pub record Fills (T : Table) (m : Memory) (p b : ℕ) (ws : List ℕ) : Type 0 where
  pub long : length ws ≡ first_words T b (params T b)
  pub values : (i : ℕ) → i < params T b → (var_mode T (first_var T b + i) ≡ 2 → ⊥) → (n : Memory) (a : ℕ) → Keeps m n → ((j : ℕ) → j < length ws → n (a + j) ≡ get_or ws j 0) → holds T n (var_type T (first_var T b + i)) (a + first_words T b i) ≡ true
  pub places : (i : ℕ) → i < params T b → var_mode T (first_var T b + i) ≡ 2 → lives T m p (m (depth_at p)) (m (frame_at p)) (m (works_at p)) (var_type T (first_var T b + i)) (get_or ws (first_words T b i) 0) ≡ true

-- what a call comes to: a state that meets the rule, or the failure of a frame that does not fit
pub data CallOutcome (T : Table) : Outcome Memory → Type 0 where
  enters : (s : Memory) → rule T s ≡ true → CallOutcome T (ok s)
  full : CallOutcome T (fail 22)
