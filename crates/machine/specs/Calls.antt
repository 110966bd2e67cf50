-- Trusted: public promises are said with these definitions.
-- Procedure calls (11.3, 12): arguments, frames, and how a call begins and ends. Assumes nothing.
use Rattle.std.specs.Prelude.{ℕ, zero, suc, ◌+◌, ◌-◌, List, [], ◌∷◌, ◌++◌, length, replicate, eqb, leb, ltb}
use Rattle.basics.specs.Choice.{pick, both}
use Rattle.table.specs.Table.{Table}
use Rattle.table.specs.Entries.{arg_count, var_count, arg_node, var_mode, var_type, first_var, params, first_stmt}
use Rattle.types.specs.Types.{numbered}
use Rattle.types.specs.Match.{Match, equal, fitted, unfit, matching}
use Rattle.sizes.specs.Sizes.{words_of}
use Rattle.machine.specs.Memory.{Memory, update, store}
use Rattle.machine.specs.Layout.{location, statement_at, frame_at, top_at, works_at, holder_at, depth_at, caller_frame, call_statement, caller_works}
use Rattle.machine.specs.Marks.{mark, fresh}
use Rattle.machine.specs.Texts.{fit}
use Rattle.machine.specs.Outcomes.{Outcome, ok, stuck, and_then, need, fail_where, Operand, on_place, on_typed}
use Rattle.machine.specs.Entries.{Statement, skip, assign, local_call, process_call, create, start, opener, arm, end_arms, write, block_end, no_statement, stmt_at}
use Rattle.machine.specs.Variables.{frame_words}
use Rattle.machine.specs.Context.{Context}
use Rattle.machine.specs.Operands.{operand}

-- where process p stands: statement, frame, top, the process that it works on, depth
unfoldable pub standing : Memory → ℕ → ℕ → ℕ → ℕ → ℕ → ℕ → Memory
standing m p statement frame top works depth =
    update
    (update
    (update
    (update
    (update m (statement_at p) statement)
    (frame_at p) frame)
    (top_at p) top)
    (works_at p) works)
    (depth_at p) depth

-- what a parameter of n words gets of the words ws of a value, by how their types match
unfoldable pub passed : ℕ → List ℕ → Match → Outcome (List ℕ)
passed n ws equal = ok ws
passed n ws fitted = ok (fit n ws)
passed n ws unfit = stuck

module _ (T : Table) (m page : Memory) (x : Context) where
  -- a value argument is passed as it is where the types are equal, filled or cut to the parameter's words where it is fitted (02, b); a
  -- variable argument must have the parameter's type, and its location is bound (11.3, 12.1)
  unfoldable pub value_argument : ℕ → Outcome Operand → Outcome (List ℕ)
  value_argument τ o = on_typed o λ σ ws. passed (words_of T τ) ws (matching T σ (numbered τ))

  unfoldable pub var_argument : ℕ → Outcome Operand → Outcome (List ℕ)
  var_argument τ o = on_place o λ a σ. need (eqb τ σ) (ok (a ∷ []))

  -- argument i for parameter v: by the parameter's mode
  unfoldable pub argument : ℕ → ℕ → Outcome (List ℕ)
  argument v i =
      need (both (ltb v (var_count T)) (ltb i (arg_count T)))
      (pick (eqb (var_mode T v) 1) (value_argument (var_type T v) (operand T m page x (arg_node T i)))
      (need (eqb (var_mode T v) 2) (var_argument (var_type T v) (operand T m page x (arg_node T i)))))

  -- the words of k arguments from i on, for the parameters from v on, in the order written
  unfoldable pub argument_words : ℕ → ℕ → ℕ → Outcome (List ℕ)
  argument_words zero v i = ok []
  argument_words (suc k) v i =
      and_then (argument v i) λ us. and_then (argument_words k (v + 1) (i + 1)) λ vs. ok (us ++ vs)

  -- the d arguments from c on, one for each parameter of block b
  unfoldable pub arguments : ℕ → ℕ → ℕ → Outcome (List ℕ)
  arguments b c d = need (eqb d (params T b)) (argument_words d (first_var T b) c)

  -- the words of a call's frame: the links, the parameters, and the other variables, which are 0 (01, A step)
  unfoldable pub frame : ℕ → List ℕ → List ℕ
  frame q ws = x.frame ∷ x.statement ∷ x.works ∷ q ∷ ws ++ replicate (frame_words T q - length ws) 0

  -- the first free word when procedure q is called
  unfoldable pub top_after : ℕ → ℕ
  top_after q = m (top_at x.process) + 4 + frame_words T q

  -- the process stands at the first statement of procedure q, and works on process r
  unfoldable pub pushed : Memory → ℕ → ℕ → List ℕ → Memory
  pushed s q r ws =
      standing (store s (location x.process (m (top_at x.process))) (frame q ws)) x.process
      (first_stmt T q) (m (top_at x.process)) (top_after q) r (m (depth_at x.process) + 1)

  -- the marks of its frame (02, g): the links and the parameters have been given their words, the other variables are made
  unfoldable pub frame_marked : Memory → ℕ → List ℕ → Memory
  frame_marked s q ws =
      fresh (mark s (location x.process (m (top_at x.process))) (4 + length ws))
      (location x.process (m (top_at x.process) + 4 + length ws)) (frame_words T q - length ws)

  -- a call of procedure q on process r, from state s: 22 where the frame does not fit the area (01, A step). What a module reserves for its
  -- own procedures (02, i) is asked of local calls on the process's own variables alone
  unfoldable pub call : Memory → ℕ → ℕ → List ℕ → Outcome Memory
  call s q r ws =
      need (leb (length ws) (frame_words T q))
      (fail_where (ltb 256 (top_after q)) 22
      (need (ltb (m (depth_at x.process)) 64)
      (ok (frame_marked (pushed s q r ws) q ws))))

  -- the end of a call (12.2, 13): the process stands after the call statement c, where it stood before
  unfoldable pub popped : Memory → ℕ → Memory
  popped s c =
      standing s x.process (c + 1) (caller_frame m x.process x.frame) x.frame
      (caller_works m x.process x.frame) (m (depth_at x.process) - 1)

  -- a process call's end gives up the variables that it worked on; a local call's end gives up none (01, A step)
  unfoldable pub returns : ℕ → Statement → Outcome Memory
  returns c skip = stuck
  returns c (assign a b) = stuck
  returns c (local_call q i d) = ok (popped m c)
  returns c (process_call a q i d) = ok (popped (update m (holder_at x.works) 0) c)
  returns c (create a) = stuck
  returns c (start a i d) = stuck
  returns c (opener k) = stuck
  returns c (arm g l) = stuck
  returns c (end_arms l) = stuck
  returns c (write a b) = stuck
  returns c block_end = stuck
  returns c no_statement = stuck

  unfoldable pub return : Outcome Memory
  return =
      returns (call_statement m x.process x.frame) (stmt_at T (call_statement m x.process x.frame))
