-- Evaluation: what each statement with operands comes to. Assumes nothing.
use Prim.Native.Nat.{ℕ, ◌+◌, ◌≤◌, ◌<◌}
use mathlib.Core.Path.{◌≡◌, refl}
use mathlib.Core.Bool.{true, false, not}
use mathlib.Core.List.{List}
use native.Mathlib.Omega.{arith}
use lib.ListN.{length}
use lib.Dec.{eqb, leb, ltb}
use borrow.Author.Tests.{eqb-true, eqb-false, ltb-false, lt-ltb, le-leb, eq-eqb, not-true, not-false}
use Rattle.basics.specs.Choice.{pick, both, either}
use Rattle.basics.specs.Cases.{cases}
use Rattle.basics.specs.Course.{course}
use Rattle.basics.proofs.Bools.{both_l, both_r, both_i, either_case}
use Rattle.table.specs.Table.{Table}
use Rattle.table.specs.Entries.{block_count, arg_count, node_count, stmt_count, type_kind, type_p, block_kind, owner, first_var, params, arg_node, node_kind, stmt_kind, stmt_a, stmt_b, stmt_c, stmt_d, stmt_link}
use Rattle.types.specs.Types.{type_of, numbered, type_of_node}
use Rattle.types.specs.Match.{matching, is_equal}
use Rattle.types.proofs.Matching.{numbered_type}
use Rattle.numbers.specs.Nodes.{Variable, Expression}
use Rattle.numbers.proofs.TypePromise.{process_module}
use Rattle.numbers.proofs.OperandPromise as ranged
use Rattle.typing.proofs.Promise.{Arguments}
use Rattle.typing.proofs.Promise as typing
use Rattle.machine.specs.Memory.{Memory, update}
use Rattle.machine.specs.Layout.{status_at, statement_at, works_at, holder_at, depth_at, created_at}
use Rattle.machine.specs.Marks.{marked}
use Rattle.machine.specs.Outcomes.{Outcome, ok, fail, and_then, need, fail_where, word_of, is_failure}
use Rattle.machine.specs.Entries.{local_call, process_call, statement_of, stmt_at}
use Rattle.machine.specs.Variables.{frame_words, is_procedure}
use Rattle.machine.specs.Processes.{on_module, on_process, refers, on_reference}
use Rattle.machine.specs.Values.{type_holds, holds_at, holds}
use Rattle.machine.specs.Context.{Context, context_of, block_of}
use Rattle.machine.specs.Space.{space_full}
use Rattle.machine.specs.Operands.{operand}
use Rattle.machine.specs.Calls.{arguments, top_after, pushed, frame_marked, call}
use Rattle.machine.specs.Statements.{Effect, effect, go_to, go_on, wait, moved, do_assign, do_local_call, can_serve, do_process_call, do_create, do_start, do_write, perform}
use Rattle.machine.specs.Rule as state
use Rattle.machine.proofs.Entries.{at_process}
use Rattle.machine.proofs.Tests.{failure_i, failure_unset}
use Rattle.words.specs.Numbers.{int_of}
use Rattle.words.specs.Devices.{is_device}
use Rattle.verdict.specs.Accepted.{Accepted}
use Rattle.sound.specs.Claims.{PlaceLaws}
use Rattle.sound.specs.Answers.{Small}
use Rattle.sound.specs.Ruled.{Ruled}
use Rattle.sound.specs.Reached.{WordTable}
use Rattle.sound.specs.Evaluated.{Live, GoodPlace, GoodValue, Scoping, ParameterWords, GoodArguments, the_words, no_words, CannotWait, Performed, assigns, calls, serves, waits, creates, starts, writes, fails}
use Rattle.sound.proofs.Evaluation.OutcomeLaws.{on_need, on_fail, on-place, on-typed, on-word}
use Rattle.sound.proofs.Evaluation.NodeTypes.{word_small}
use Rattle.sound.proofs.Values.ModuleVariables.{module_fits}
use Rattle.sound.proofs.RuleKept.Push.{chain_depth}
use Rattle.sound.proofs.Values.Strings.{value_equal}
use Rattle.sound.proofs.Evaluation.Nodes.{node_good}
use Rattle.sound.proofs.Evaluation.Arguments.{arguments_good, arguments_fit}
use Rattle.sound.proofs.Rule.RuleRecord.{procedure_i}

pub stmt_is : (T : Table) (i k : ℕ) → i < stmt_count T → stmt_kind T i ≡ k → stmt_at T i ≡ statement_of k (stmt_a T i) (stmt_b T i) (stmt_c T i) (stmt_d T i) (stmt_link T i)
unfolding stmt_at
stmt_is T i k l e = rw (lt-ltb i (stmt_count T) l, e)

-- a live reference is empty, or names a created process of its module
pub reference : (T : Table) (m : Memory) (p τ a : ℕ) → Live T m p τ a → type_kind T τ ≡ 3 → (m a ≡ 0 → ⊥) → refers m (type_p T τ) (m a) ≡ true
unfolding holds course holds_at type_holds
reference T m p τ a l k n =
    let h : either (eqb (m a) 0) (refers m (type_p T τ) (m a)) ≡ true = rw (at_process T τ k) at l.value in
    either_case (eqb (m a) 0) (refers m (type_p T τ) (m a)) h (λ e. absurd (n (eqb-true (m a) 0 e))) (λ e. e)

-- a process that can serve a call is started, and nobody holds its variables
module _ (T : Table) (m page : Memory) (x : Context) (r : ℕ) (e : can_serve m r ≡ true) where
  free_status : m (status_at r) ≡ 1 → ⊥
  unfolding can_serve
  free_status = eqb-false (m (status_at r)) 1 (not-true _ (both_l _ _ e))

  free_holder : m (holder_at r) ≡ 0
  unfolding can_serve
  free_holder = eqb-true (m (holder_at r)) 0 (both_r _ _ e)

module _ (T : Table) (acc : Accepted T) (L : PlaceLaws T) (W : WordTable T) (m : Memory) (R : Ruled T m) (ms : Small m) (page : Memory) (ps : Small page) (p : ℕ) (some : 1 ≤ p) (made : p ≤ m created_at) (s : m (status_at p) ≡ 2)
    (scope : ℕ → Type 0) (S : Scoping T (block_of m p) scope) (l : m (statement_at p) < stmt_count T) where
  abbrev stmt : ℕ
  stmt = m (statement_at p)

  abbrev GoesOn : Type 0
  GoesOn = state.lies_in T (block_of m p) (m (statement_at p) + 1) ≡ true

  passes : (k : ℕ) → stmt_kind T stmt ≡ k → state.may_wait (statement_of k (stmt_a T stmt) (stmt_b T stmt) (stmt_c T stmt) (stmt_d T stmt) (stmt_link T stmt)) ≡ false → CannotWait T m p
  passes k e h = rw (stmt_is T stmt k l e) h

  on_failed : (n : ℕ) → is_failure n ≡ true → Performed T m page p (fail n)
  on_failed n a = fails n a

  pub variable_good : (n : ℕ) → Variable T (node_count T) n → scope n → GoodPlace T m p (type_of T n) (operand T m page (context_of m p) n)
  variable_good n v c = (node_good T acc L W m R ms page ps p some made s scope S n v.below c).variable v.low v.high

  pub expression_good : (n : ℕ) → Expression T (node_count T) n → scope n → GoodValue T m (type_of_node T n) (operand T m page (context_of m p) n)
  expression_good n v c = (node_good T acc L W m R ms page ps p some made s scope S n v.below c).expression v.sort

  -- where it is no string constant
  pub number_good : (n : ℕ) → Expression T (node_count T) n → scope n → (node_kind T n ≡ 8 → ⊥) → GoodValue T m (numbered (type_of T n)) (operand T m page (context_of m p) n)
  number_good n v c e = rw (numbered_type T n e) at (expression_good n v c)

  -- 1, assignment
  pub assign_performs : stmt_kind T stmt ≡ 1 → GoesOn → scope (stmt_a T stmt) → scope (stmt_b T stmt) → Performed T m page p (perform T m page (context_of m p) (stmt_at T stmt))
  unfolding state.may_wait statement_of perform do_assign go_on go_to context_of
  assign_performs k on ca cb =
      let b = ranged.assign_variable T acc.numbers stmt l k in
      let y = b.high in
      let t : is_equal (matching T (numbered (type_of T (stmt_a T stmt))) (type_of_node T (stmt_b T stmt))) ≡ true = rw (numbered_type T (stmt_a T stmt) (λ z. omega arith)) at (typing.assignment T acc.types stmt l k) in
      rw (stmt_is T stmt 1 l k)
      (on-place (Performed T m page p) on_failed T m p (type_of T (stmt_a T stmt)) (operand T m page (context_of m p) (stmt_a T stmt)) _
      (variable_good (stmt_a T stmt) b ca)
      (λ a v. on-typed (Performed T m page p) on_failed T m (type_of_node T (stmt_b T stmt)) (operand T m page (context_of m p) (stmt_b T stmt)) _
      (expression_good (stmt_b T stmt) (ranged.assign_value T acc.numbers stmt l k) cb)
      (λ ws u w. on_need (Performed T m page p) on_failed (is_equal (matching T (numbered (type_of T (stmt_a T stmt))) (type_of_node T (stmt_b T stmt)))) _ t
      (assigns (type_of T (stmt_a T stmt)) a ws (passes 1 k refl) on v (value_equal T m (type_of_node T (stmt_b T stmt)) ws u (type_of T (stmt_a T stmt)) t) w))))

  -- 12, write
  pub write_performs : stmt_kind T stmt ≡ 12 → GoesOn → scope (stmt_a T stmt) → scope (stmt_b T stmt) → Performed T m page p (perform T m page (context_of m p) (stmt_at T stmt))
  unfolding state.may_wait statement_of perform do_write context_of
  write_performs k on ca cb =
      rw (stmt_is T stmt 12 l k)
      (on-word (Performed T m page p) on_failed T m 0 (operand T m page (context_of m p) (stmt_a T stmt)) _
      (rw (typing.written_address T acc.types stmt l k) at (number_good (stmt_a T stmt) (ranged.write_address T acc.numbers stmt l k) ca (typing.address_numbered T acc.types stmt l k)))
      (λ us u a. on-word (Performed T m page p) on_failed T m 0 (operand T m page (context_of m p) (stmt_b T stmt)) _
      (rw (typing.written_value T acc.types stmt l k) at (number_good (stmt_b T stmt) (ranged.write_value T acc.numbers stmt l k) cb (typing.written_numbered T acc.types stmt l k)))
      (λ vs v b. on_fail (Performed T m page p) on_failed (not (is_device (int_of (word_of us)))) 21 _ (failure_i 21 (omega arith) (omega arith))
      (λ e. writes (word_of us) (word_of vs) (passes 12 k refl) on (word_small us a) (word_small vs b) (not-false _ e)))))

  -- 4, create
  on-process : (n : ℕ) (f : ℕ → ℕ → Outcome Effect) → type_kind T (type_of T n) ≡ 3 → Variable T (node_count T) n → scope n → ((a : ℕ) → Live T m p (type_of T n) a → Performed T m page p (f a (type_p T (type_of T n))))
      → Performed T m page p (on_process T (operand T m page (context_of m p) n) f)
  unfolding on_process on_module
  on-process n f k v c h =
      on-place (Performed T m page p) on_failed T m p (type_of T n) (operand T m page (context_of m p) n) _ (variable_good n v c)
      (λ a w. rw (at_process T (type_of T n) k) (h a w))

  pub create_performs : stmt_kind T stmt ≡ 4 → GoesOn → scope (stmt_a T stmt) → Performed T m page p (perform T m page (context_of m p) (stmt_at T stmt))
  unfolding state.may_wait statement_of perform do_create go_on go_to context_of
  create_performs k on c =
      let t = typing.created_variable T acc.types stmt l k in
      rw (stmt_is T stmt 4 l k)
      (on-process (stmt_a T stmt) _ t (ranged.create_variable T acc.numbers stmt l k) c
      (λ a w. on_fail (Performed T m page p) on_failed (eqb (m created_at) 64) 24 _ (failure_i 24 (omega arith) (omega arith))
      (λ e. let z = eqb-false (m created_at) 64 e in let y = R.most in creates (type_of T (stmt_a T stmt)) a (passes 4 k refl) on w t (omega arith))))

  -- references
  on-reference : (τ a : ℕ) (f : ℕ → Outcome Effect) → Live T m p τ a → type_kind T τ ≡ 3 → (refers m (type_p T τ) (m a) ≡ true → Performed T m page p (f (m a))) → Performed T m page p (on_reference m a (type_p T τ) f)
  unfolding on_reference
  on-reference τ a f v k h =
      on_fail (Performed T m page p) on_failed (not (marked m a)) 31 _ failure_unset
      (λ u. on_fail (Performed T m page p) on_failed (eqb (m a) 0) 19 _ (failure_i 19 (omega arith) (omega arith))
      (λ e.
      let g = reference T m p τ a v k (eqb-false (m a) 0 e) in
      on_need (Performed T m page p) on_failed (refers m (type_p T τ) (m a)) _ g (h g)))

  -- calls
  shallow : (q : ℕ) → top_after T m page (context_of m p) q ≤ 256 → m (depth_at p) < 64
  unfolding top_after context_of
  shallow q b =
      let c = chain_depth T m p ((R.process p some made).chain s) in
      omega arith

  pushes : (u : Memory) (q r : ℕ) (ws : List ℕ) → length ws ≤ frame_words T q
      → (top_after T m page (context_of m p) q ≤ 256 → m (depth_at p) < 64 → Performed T m page p (ok (effect 0 (frame_marked T m page (context_of m p) (pushed T m page (context_of m p) u q r ws) q ws) page)))
      → Performed T m page p (moved T m page (context_of m p) (call T m page (context_of m p) u q r ws))
  unfolding moved call and_then need fail_where context_of
  pushes u q r ws a h =
      rw (le-leb (length ws) (frame_words T q) a)
      (cases (ltb 256 (top_after T m page (context_of m p) q))
      (λ e. rw e (on_failed 22 (failure_i 22 (omega arith) (omega arith))))
      (λ e.
      let b : top_after T m page (context_of m p) q ≤ 256 = ltb-false 256 (top_after T m page (context_of m p) q) e in
      rw (e, lt-ltb (m (depth_at p)) 64 (shallow q b)) (h b (shallow q b))))

  on_arguments : (q c d : ℕ) (f : List ℕ → Outcome Effect) → q < block_count T → Arguments T q c d → c + d ≤ arg_count T → ((k : ℕ) → k < d → scope (arg_node T (c + k)))
      → ((ws : List ℕ) → ParameterWords T m p (params T q) (first_var T q) ws → Performed T m page p (f ws)) → Performed T m page p (and_then (arguments T m page (context_of m p) q c d) f)
  on_arguments q c d f there a room inside h = go _ (arguments_good T acc L W m R ms page ps p some made s scope S q c d there a room inside)
    where
      go : (o : Outcome (List ℕ)) → GoodArguments T m p (params T q) (first_var T q) o → Performed T m page p (and_then o f)
      go _ (the_words ws b) = unfold and_then in h ws b
      go _ (no_words n x) = unfold and_then in on_failed n x

  -- 2, local call
  pub local_performs : stmt_kind T stmt ≡ 2 → owner T (stmt_a T stmt) ≡ owner T (block_of m p) → ((k : ℕ) → k < stmt_d T stmt → scope (arg_node T (stmt_c T stmt + k))) → Performed T m page p (perform T m page (context_of m p) (stmt_at T stmt))
  local_performs k own inside = rw e performed
    where
      e : stmt_at T stmt ≡ local_call (stmt_a T stmt) (stmt_c T stmt) (stmt_d T stmt)
      e = unfold statement_of in stmt_is T stmt 2 l k

      there : (stmt_a T stmt < block_count T) × (block_kind T (stmt_a T stmt) ≡ 2)
      there = ranged.local_procedure T acc.numbers stmt l k

      calling : state.calls (stmt_a T stmt) (stmt_at T stmt) ≡ true
      calling = rw e (unfold state.calls in eq-eqb (stmt_a T stmt) (stmt_a T stmt) refl)

      pushed_frame : (ws : List ℕ) → ParameterWords T m p (params T (stmt_a T stmt)) (first_var T (stmt_a T stmt)) ws
          → Performed T m page p (fail_where (space_full T m (context_of m p) (stmt_a T stmt)) 22
          (moved T m page (context_of m p) (call T m page (context_of m p) m (stmt_a T stmt) (m (works_at p)) ws)))
      pushed_frame ws b =
          let f = arguments_fit T acc m p (stmt_a T stmt) there.0 ws b in
          on_fail (Performed T m page p) on_failed (space_full T m (context_of m p) (stmt_a T stmt)) 22 _ (failure_i 22 (omega arith) (omega arith))
          (λ o. pushes m (stmt_a T stmt) (m (works_at p)) ws f
          (λ r d. calls (stmt_a T stmt) ws e own (record { there = there.0; procedure = there.1; bound = b; long = f; room = r; deep = d; calling = calling })))

      performed : Performed T m page p (perform T m page (context_of m p) (local_call (stmt_a T stmt) (stmt_c T stmt) (stmt_d T stmt)))
      performed =
          unfold perform do_local_call context_of in
          on_need (Performed T m page p) on_failed (is_procedure T (stmt_a T stmt)) _ (procedure_i T (stmt_a T stmt) there.0 there.1)
          (on_arguments (stmt_a T stmt) (stmt_c T stmt) (stmt_d T stmt) _ there.0 (typing.local-call T acc.types stmt l k) (ranged.local_args T acc.numbers stmt l k) inside pushed_frame)

  -- 3, process call
  pub process_performs : stmt_kind T stmt ≡ 3 → scope (stmt_a T stmt) → ((k : ℕ) → k < stmt_d T stmt → scope (arg_node T (stmt_c T stmt + k))) → Performed T m page p (perform T m page (context_of m p) (stmt_at T stmt))
  process_performs k c inside = rw e performed
    where
      e : stmt_at T stmt ≡ process_call (stmt_a T stmt) (stmt_b T stmt) (stmt_c T stmt) (stmt_d T stmt)
      e = unfold statement_of in stmt_is T stmt 3 l k

      there : (stmt_b T stmt < block_count T) × (block_kind T (stmt_b T stmt) ≡ 2)
      there = ranged.call_procedure T acc.numbers stmt l k

      type : type_kind T (type_of T (stmt_a T stmt)) ≡ 3
      type = typing.called_variable T acc.types stmt l k

      own : owner T (stmt_b T stmt) ≡ type_p T (type_of T (stmt_a T stmt))
      own = typing.called_owner T acc.types stmt l k

      calling : state.calls (stmt_b T stmt) (stmt_at T stmt) ≡ true
      calling = rw e (unfold state.calls in eq-eqb (stmt_b T stmt) (stmt_b T stmt) refl)

      pushed_frame : (r : ℕ) → refers m (type_p T (type_of T (stmt_a T stmt))) r ≡ true → can_serve m r ≡ true → (ws : List ℕ) → ParameterWords T m p (params T (stmt_b T stmt)) (first_var T (stmt_b T stmt)) ws
          → Performed T m page p (moved T m page (context_of m p) (call T m page (context_of m p) (update m (holder_at r) p) (stmt_b T stmt) r ws))
      pushed_frame r g h ws b =
          let f = arguments_fit T acc m p (stmt_b T stmt) there.0 ws b in
          pushes (update m (holder_at r) p) (stmt_b T stmt) r ws f
          (λ o d. serves r (stmt_b T stmt) ws e (rw own g) (free_status T m page (context_of m p) r h) (free_holder T m page (context_of m p) r h)
          (record { there = there.0; procedure = there.1; bound = b; long = f; room = o; deep = d; calling = calling }))

      served : (r : ℕ) → refers m (type_p T (type_of T (stmt_a T stmt))) r ≡ true
          → Performed T m page p (pick (can_serve m r) (and_then (arguments T m page (context_of m p) (stmt_b T stmt) (stmt_c T stmt) (stmt_d T stmt)) λ ws. moved T m page (context_of m p) (call T m page (context_of m p) (update m (holder_at r) p) (stmt_b T stmt) r ws)) (wait T m page (context_of m p) m))
      served r g =
          cases (can_serve m r)
          (λ h. rw h (on_arguments (stmt_b T stmt) (stmt_c T stmt) (stmt_d T stmt) _ there.0 (typing.called_arguments T acc.types stmt l k) (ranged.call_args T acc.numbers stmt l k) inside (pushed_frame r g h)))
          (λ h. rw h (unfold wait in waits))

      performed : Performed T m page p (perform T m page (context_of m p) (process_call (stmt_a T stmt) (stmt_b T stmt) (stmt_c T stmt) (stmt_d T stmt)))
      performed =
          unfold perform do_process_call context_of in
          on-process (stmt_a T stmt) _ type (ranged.call_variable T acc.numbers stmt l k) c
          (λ a w. on_need (Performed T m page p) on_failed (both (is_procedure T (stmt_b T stmt)) (eqb (owner T (stmt_b T stmt)) (type_p T (type_of T (stmt_a T stmt))))) _
          (both_i _ _ (procedure_i T (stmt_b T stmt) there.0 there.1) (eq-eqb (owner T (stmt_b T stmt)) (type_p T (type_of T (stmt_a T stmt))) own))
          (on-reference (type_of T (stmt_a T stmt)) a _ w type (λ g. served (m a) g)))

  -- 5, start
  pub start_performs : stmt_kind T stmt ≡ 5 → GoesOn → scope (stmt_a T stmt) → ((k : ℕ) → k < stmt_d T stmt → scope (arg_node T (stmt_c T stmt + k))) → Performed T m page p (perform T m page (context_of m p) (stmt_at T stmt))
  unfolding state.may_wait statement_of perform do_start go_on go_to context_of
  start_performs k on c inside =
      let t = typing.started_variable T acc.types stmt l k in
      rw (stmt_is T stmt 5 l k)
      (on-process (stmt_a T stmt) _ t (ranged.start_variable T acc.numbers stmt l k) c
      (λ a w.
      let μ = process_module T acc.numbers (type_of T (stmt_a T stmt)) w.type t in
      on-reference (type_of T (stmt_a T stmt)) a _ w t (λ g.
      on_fail (Performed T m page p) on_failed (not (eqb (m (status_at (m a))) 1)) 20 _ (failure_i 20 (omega arith) (omega arith)) (λ h.
      on_arguments (type_p T (type_of T (stmt_a T stmt))) (stmt_c T stmt) (stmt_d T stmt) _ μ.0 (typing.started_arguments T acc.types stmt l k) (ranged.start_args T acc.numbers stmt l k) inside (λ ws b.
      let f = arguments_fit T acc m p (type_p T (type_of T (stmt_a T stmt))) μ.0 ws b in
      let y = μ.1 in
      let z = module_fits T acc (type_p T (type_of T (stmt_a T stmt))) μ.0 (omega arith) in
      on_need (Performed T m page p) on_failed (leb (length ws) 256) _ (le-leb (length ws) 256 (omega arith))
      (starts (m a) (type_p T (type_of T (stmt_a T stmt))) ws (passes 5 k refl) on g (eqb-true (m (status_at (m a))) 1 (not-false _ h)) μ.0 μ.1 b (omega arith)))))))
