-- Trusted: public promises are said with these definitions.
-- The state rule (01, Verdicts and other refusals). Assumes nothing.
use Rattle.std.specs.Prelude.{ℕ, zero, suc, ◌+◌, ◌-◌, ◌/◌, ◌%◌, Bool, true, false, not, eqb, leb, ltb}
use Rattle.basics.specs.Choice.{pick, both, either, all_below, between}
use Rattle.table.specs.Table.{Table}
use Rattle.table.specs.Entries.{var_mode, var_type, owner, first_var, vars, first_stmt, stmt_limit}
use Rattle.machine.specs.Memory.{Memory}
use Rattle.machine.specs.Layout.{location, status_at, module_at, statement_at, frame_at, top_at, works_at, holder_at, depth_at, created_at, failure_at, number_at, caller_frame, call_statement, caller_works, called_block}
use Rattle.machine.specs.Entries.{waits, Statement, skip, assign, local_call, process_call, create, start, opener, arm, end_arms, write, block_end, no_statement, stmt_at}
use Rattle.sizes.specs.Sizes.{module_words}
use Rattle.machine.specs.Variables.{frame_words, offset_of, is_module, is_procedure}
use Rattle.machine.specs.Values.{holds, part_of_block}
use Rattle.machine.specs.Outcomes.{is_failure}

-- statement c is one of block b's
unfoldable pub lies_in : Table → ℕ → ℕ → Bool
lies_in T b c = both (leb (first_stmt T b) c) (ltb c (stmt_limit T b))

-- a statement that calls procedure q
unfoldable pub calls : ℕ → Statement → Bool
calls q skip = false
calls q (assign a b) = false
calls q (local_call b c d) = eqb b q
calls q (process_call a b c d) = eqb b q
calls q (create a) = false
calls q (start a c d) = false
calls q (opener k) = false
calls q (arm g l) = false
calls q (end_arms l) = false
calls q (write a b) = false
calls q block_end = false
calls q no_statement = false

-- a when or cycle, which gives up what its process works on where no guard is true
unfoldable pub may_wait : Statement → Bool
may_wait skip = false
may_wait (assign a b) = false
may_wait (local_call q c d) = false
may_wait (process_call a q c d) = false
may_wait (create a) = false
may_wait (start a c d) = false
may_wait (opener k) = waits k
may_wait (arm g l) = false
may_wait (end_arms l) = false
may_wait (write a b) = false
may_wait block_end = false
may_wait no_statement = false

-- p is a created process
unfoldable pub is_created : Memory → ℕ → Bool
is_created m p = between 1 (m created_at) p

-- r is the process w that process p works on, or one that it worked on when it made one of its d calls, the innermost of which has its
-- frame at f
unfoldable pub worked : Memory → ℕ → ℕ → ℕ → ℕ → ℕ → Bool
worked m p zero f w r = eqb w r
worked m p (suc d) f w r = either (eqb w r) (worked m p d (caller_frame m p f) (caller_works m p f) r)

-- the run has not failed, or by a number that there is; it was begun with 0 or 1 (02, g)
unfoldable pub failure_ok : Memory → Bool
failure_ok m = either (eqb (m failure_at) 0) (is_failure (m failure_at))

unfoldable pub run_ok : Memory → Bool
run_ok m = both (failure_ok m) (leb (m number_at) 1)

module _ (T : Table) (m : Memory) where
  -- word k of the area of process p lies in a value parameter or local of one of its d calls, the innermost of which has its frame at f,
  -- and a part of type τ begins there
  unfoldable pub owns : ℕ → ℕ → ℕ → ℕ → ℕ → Bool
  owns p zero f τ k = false
  owns p (suc d) f τ k =
      either (both (leb (f + 4) k) (part_of_block T (called_block m p f) τ (k - (f + 4))))
      (owns p d (caller_frame m p f) τ k)

  -- at location a stands a live variable of type τ, or such a part of one: of the module variables of one of these processes, or of those d
  -- calls
  unfoldable pub lives : ℕ → ℕ → ℕ → ℕ → ℕ → ℕ → Bool
  lives p d f w τ a =
      either (both (worked m p d f w (a / 256 + 1)) (part_of_block T (m (module_at (a / 256 + 1))) τ (a % 256)))
      (both (eqb (a / 256 + 1) p) (owns p d f τ (a % 256)))

  -- process p holds the variables of process w, on which it works in its own block or in one of its calls; where it stands at a when or cycle
  -- it may have given up what it works on there
  unfoldable pub holds_on : ℕ → ℕ → Bool
  holds_on p w = either (eqb (m (holder_at w)) p) (both (eqb w (m (works_at p))) (may_wait (stmt_at T (m (statement_at p)))))

  -- the call statement made its process work on w: a local call on what it worked on before, a process call on none of those that it works on
  -- outside the frame at f, with d calls below it
  unfoldable pub works_by : ℕ → ℕ → ℕ → ℕ → Statement → Bool
  works_by p d f w skip = false
  works_by p d f w (assign a b) = false
  works_by p d f w (local_call q c n) = eqb (caller_works m p f) w
  works_by p d f w (process_call a q c n) = not (worked m p d (caller_frame m p f) (caller_works m p f) w)
  works_by p d f w (create a) = false
  works_by p d f w (start a c n) = false
  works_by p d f w (opener k) = false
  works_by p d f w (arm g l) = false
  works_by p d f w (end_arms l) = false
  works_by p d f w (write a b) = false
  works_by p d f w block_end = false
  works_by p d f w no_statement = false

  -- the words in use hold values of their types, marked or not: the variables of process p's module, at the beginning of its area
  unfoldable pub module_holds : ℕ → ℕ → ℕ → Bool
  module_holds p b v = holds T m (var_type T v) (location p (offset_of T b v))

  unfoldable pub modules_hold : ℕ → ℕ → Bool
  modules_hold p b = all_below (vars T b) (λ i. module_holds p b (first_var T b + i))

  -- those of a call of procedure q with its frame at f, d calls below it; a var parameter names a live variable of its type
  unfoldable pub frame_holds : ℕ → ℕ → ℕ → ℕ → ℕ → Bool
  frame_holds p d f q v =
      pick (eqb (var_mode T v) 2)
      (lives p d (caller_frame m p f) (caller_works m p f) (var_type T v) (m (location p (f + 4 + offset_of T q v))))
      (holds T m (var_type T v) (location p (f + 4 + offset_of T q v)))

  unfoldable pub frames_hold : ℕ → ℕ → ℕ → ℕ → Bool
  frames_hold p d f q = all_below (vars T q) (λ i. frame_holds p d f q (first_var T q + i))

  -- a call of procedure q, with its frame at f, that stands at statement c and works on process w, which has been started; its frame ends
  -- at top
  unfoldable pub frame_ok : ℕ → ℕ → ℕ → ℕ → ℕ → Bool
  frame_ok f w c top q =
      both (leb (f + 4) 256)
      (both (both (is_created m w) (not (eqb (m (status_at w)) 1)))
      (both (is_procedure T q)
      (both (eqb (owner T q) (m (module_at w)))
      (both (eqb (f + 4 + frame_words T q) top)
      (both (leb top 256)
      (lies_in T q c))))))

  -- the d calls of process p that have not ended, the innermost first; below them its own block
  unfoldable pub chain : ℕ → ℕ → ℕ → ℕ → ℕ → ℕ → Bool
  chain p zero f w c top =
      both (eqb f 0)
      (both (both (eqb w p) (holds_on p w))
      (both (eqb top (module_words T (m (module_at p))))
      (lies_in T (m (module_at p)) c)))
  chain p (suc d) f w c top =
      both (frame_ok f w c top (called_block m p f))
      (both (frames_hold p d f (called_block m p f))
      (both (both (calls (called_block m p f) (stmt_at T (call_statement m p f))) (works_by p d f w (stmt_at T (call_statement m p f))))
      (both (holds_on p w)
      (chain p d (caller_frame m p f) (caller_works m p f) (call_statement m p f) f))))

  -- process 1 is started and runs block 0; the others are created, of a process module
  unfoldable pub module_ok : ℕ → Bool
  module_ok p =
      pick (eqb p 1)
      (both (between 2 3 (m (status_at p))) (eqb (m (module_at p)) 0))
      (both (between 1 3 (m (status_at p))) (is_module T (m (module_at p))))

  unfoldable pub started_ok : ℕ → Bool
  started_ok p =
      chain p (m (depth_at p)) (m (frame_at p)) (m (works_at p)) (m (statement_at p)) (m (top_at p))

  unfoldable pub process_ok : ℕ → Bool
  process_ok p =
      both (module_ok p)
      (both (leb (m (holder_at p)) (m created_at))
      (both (modules_hold p (m (module_at p)))
      (pick (eqb (m (status_at p)) 2) (started_ok p) true)))

  -- THE STATE RULE
  unfoldable pub rule : Bool
  rule =
      both (between 1 64 (m created_at))
      (both (run_ok m)
      (all_below (m created_at) (λ i. process_ok (i + 1))))
