-- A failing step changes only the run's failure mark; every later step then answers the same number (01, Step answers). Assumes nothing.
use Prim.Native.Nat.{ℕ, zero, suc, ◌≤◌}
use mathlib.Core.Path.{◌≡◌, refl}
use mathlib.Core.Bool.{true}
use mathlib.Core.List.{List, [], ◌∷◌}
use native.Mathlib.Omega.{arith}
use lib.ListN.{length, replicate}
use lib.Dec.{eqb, ltb}
use borrow.Author.Tests.{eq-eqb, ne_eqb}
use Rattle.basics.specs.Choice.{either, between}
use Rattle.table.specs.Table.{Table}
use Rattle.table.specs.Entries.{stmt_count}
use Rattle.machine.specs.Memory.{Memory, update}
use Rattle.machine.specs.Layout.{status_at, works_at, holder_at, depth_at, created_at, failure_at}
use Rattle.machine.specs.Outcomes.{Outcome, ok, fail, stuck, need, is_failure}
use Rattle.machine.specs.Entries.{TypeEntry, integer, boolean, character, record_type, array_type, process_type, no_type, type_at}
use Rattle.machine.specs.Entries.{Opener, waits, repeats, Statement, skip, assign, local_call, process_call, create, start, opener, arm, end_arms, write, block_end, no_statement, stmt_at}
use Rattle.machine.specs.Context.{Context, context_of}
use Rattle.machine.specs.Operands.{operand}
use Rattle.machine.specs.Processes.{on_module, on_process, on_reference}
use Rattle.machine.specs.Statements.{Effect, effect, on_arms, on_opener, Choice, enters, skips, end_of, go_to, go_on, wait, moved, do_assign, do_local_call, can_serve, do_process_call, do_create, do_start, chosen, do_opener, do_end, do_write, do_block_end, perform}
use Rattle.machine.specs.Step.{done, settled, answers_only, performs, proceeds, exists, turn, step}
use Rattle.machine.specs.Run.{ran, on_done, before, run}
use Rattle.machine.proofs.Ends.{Ends, ends_ok, ends_fail, ends_stuck, ends_need, ends_fail_where, ends_pick, ends_and_then, ends_on_place, ends_on_typed, ends_on_word}
use Rattle.machine.proofs.Tests.{failure_low}

-- ---- what a step that does not fail answers

abbrev answer_of : Effect → ℕ
answer_of (effect a s d) = a

-- 0, 1, 2 or 3
abbrev Low : Effect → Type 0
Low e = answer_of e ≤ 3

low : (a : ℕ) (s d : Memory) → a ≤ 3 → Ends Low (ok (effect a s d))
low a s d h = ends_ok h

module _ {A : Type 0} (P : A → Type 0) where
  ends_on_module : (t : TypeEntry) (f : ℕ → Outcome A) → ((μ : ℕ) → Ends P (f μ)) → Ends P (on_module t f)
  unfolding on_module
  ends_on_module integer f h = ends_stuck
  ends_on_module boolean f h = ends_stuck
  ends_on_module character f h = ends_stuck
  ends_on_module (record_type first count) f h = ends_stuck
  ends_on_module (array_type ι σ low high) f h = ends_stuck
  ends_on_module (process_type μ) f h = h μ
  ends_on_module no_type f h = ends_stuck

  ends_on_arms :
      (s : Statement) (f : ℕ → ℕ → Outcome A) (g : ℕ → Outcome A)
      → ((a l : ℕ) → Ends P (f a l)) → ((l : ℕ) → Ends P (g l)) → Ends P (on_arms s f g)
  unfolding on_arms
  ends_on_arms skip f g h k = ends_stuck
  ends_on_arms (assign a b) f g h k = ends_stuck
  ends_on_arms (local_call q c d) f g h k = ends_stuck
  ends_on_arms (process_call a q c d) f g h k = ends_stuck
  ends_on_arms (create a) f g h k = ends_stuck
  ends_on_arms (start a c d) f g h k = ends_stuck
  ends_on_arms (opener o) f g h k = ends_stuck
  ends_on_arms (arm a l) f g h k = h a l
  ends_on_arms (end_arms l) f g h k = k l
  ends_on_arms (write a b) f g h k = ends_stuck
  ends_on_arms block_end f g h k = ends_stuck
  ends_on_arms no_statement f g h k = ends_stuck

  ends_on_opener : (s : Statement) (f : Opener → Outcome A) → ((o : Opener) → Ends P (f o)) → Ends P (on_opener s f)
  unfolding on_opener
  ends_on_opener skip f h = ends_stuck
  ends_on_opener (assign a b) f h = ends_stuck
  ends_on_opener (local_call q c d) f h = ends_stuck
  ends_on_opener (process_call a q c d) f h = ends_stuck
  ends_on_opener (create a) f h = ends_stuck
  ends_on_opener (start a c d) f h = ends_stuck
  ends_on_opener (opener o) f h = h o
  ends_on_opener (arm a l) f h = ends_stuck
  ends_on_opener (end_arms l) f h = ends_stuck
  ends_on_opener (write a b) f h = ends_stuck
  ends_on_opener block_end f h = ends_stuck
  ends_on_opener no_statement f h = ends_stuck

  ends_end_of : (T : Table) (n i : ℕ) (f : ℕ → ℕ → Outcome A) → ((e l : ℕ) → Ends P (f e l)) → Ends P (end_of T n i f)
  unfolding end_of
  ends_end_of T zero i f h = ends_stuck
  ends_end_of T (suc n) i f h =
      ends_on_arms (stmt_at T i) (λ g l. need (ltb i l) (end_of T n l f)) (λ l. f i l)
      (λ g l. ends_need P (ltb i l) (end_of T n l f) (ends_end_of T n l f h)) (λ l. h i l)

  ends_on_process :
      (T : Table) (n : ℕ) (m page : Memory) (x : Context) (f : ℕ → ℕ → Outcome A)
      → ((i μ : ℕ) → Ends P (f i μ)) → Ends P (on_process T (operand T m page x n) f)
  unfolding on_process
  ends_on_process T n m page x f h =
      ends_on_place P (operand T m page x n) _ (λ a τ. ends_on_module (type_at T τ) _ (λ μ. h a μ))

  ends_on_reference : (m : Memory) (a μ : ℕ) (f : ℕ → Outcome A) → ((r : ℕ) → Ends P (f r)) → Ends P (on_reference m a μ f)
  unfolding on_reference
  ends_on_reference m a μ f h = ends_fail_where P _ 31 _ (ends_fail_where P _ 19 _ (ends_need P _ _ (h (m a))))

module _ (T : Table) (m page : Memory) (x : Context) where
  low_go_to : (s : Memory) (c : ℕ) → Ends Low (go_to T m page x s c)
  unfolding go_to
  low_go_to s c = low 0 _ _ (omega arith)

  low_go_on : (s : Memory) → Ends Low (go_on T m page x s)
  unfolding go_on
  low_go_on s = low_go_to s _

  low_wait : (s : Memory) → Ends Low (wait T m page x s)
  unfolding wait
  low_wait s = low 1 _ _ (omega arith)

  low_moved : (o : Outcome Memory) → Ends Low (moved T m page x o)
  unfolding moved
  low_moved o = ends_and_then Low o _ (λ s. low 0 _ _ (omega arith))

  low_chosen : (k : Opener) (c : Choice) → Ends Low (chosen T m page x k c)
  unfolding chosen
  low_chosen k (enters i) = low_go_to _ _
  low_chosen k (skips i) = ends_pick Low (waits k) _ _ (low_wait _) (low_go_to _ _)

  low_perform : (s : Statement) → Ends Low (perform T m page x s)
  unfolding perform do_assign do_local_call do_process_call do_create do_start do_opener do_end do_write do_block_end
  low_perform skip = low_go_on m
  low_perform (assign a b) =
      ends_on_place Low _ _ (λ i τ. ends_on_typed Low _ _ (λ σ ws. ends_need Low _ _ (low_go_on _)))
  low_perform (local_call q c d) = ends_need Low _ _ (ends_and_then Low _ _ (λ ws. ends_fail_where Low _ 22 _ (low_moved _)))
  low_perform (process_call a q c d) =
      ends_on_process Low T a m page x _
      (λ i μ. ends_need Low _ _ (ends_on_reference Low m i μ _
      (λ r. ends_pick Low (can_serve m r) _ _ (ends_and_then Low _ _ (λ ws. low_moved _)) (low_wait m))))
  low_perform (create a) = ends_on_process Low T a m page x _ (λ i μ. ends_fail_where Low _ 24 _ (low_go_on _))
  low_perform (start a c d) =
      ends_on_process Low T a m page x _
      (λ i μ. ends_on_reference Low m i μ _
      (λ r. ends_fail_where Low _ 20 _ (ends_and_then Low _ _ (λ ws. ends_need Low _ _ (low_go_on _)))))
  low_perform (opener k) =
      ends_on_arms Low _ _ _ (λ g l. ends_and_then Low _ _ (λ c. low_chosen k c)) (λ l. ends_stuck)
  low_perform (arm g l) =
      ends_end_of Low T (stmt_count T) _ _ (λ e i. ends_on_opener Low _ _ (λ k. ends_pick Low (repeats k) _ _ (low_go_to m _) (low_go_to m _)))
  low_perform (end_arms l) =
      ends_end_of Low T (stmt_count T) _ _ (λ e i. ends_on_opener Low _ _ (λ k. ends_pick Low (repeats k) _ _ (low_go_to m _) (low_go_to m _)))
  low_perform (write a b) =
      ends_on_word Low _ 0 _ (λ i. ends_on_word Low _ 0 _ (λ v. ends_fail_where Low _ 21 _ (low 0 _ _ (omega arith))))
  low_perform block_end = ends_pick Low (eqb (m (depth_at x.process)) 0) _ _ (low 2 _ _ (omega arith)) (low_moved _)
  low_perform no_statement = ends_stuck

-- ---- a failing step

-- s is m, but for the failure mark, which is a; the page is the same
pub record Failed (m page : Memory) (a : ℕ) (s d : Memory) : Type 0 where
  pub state : s ≡ update m failure_at a
  pub device : d ≡ page

module _ (T : Table) (m page : Memory) (p : ℕ) where
  low_answers : (a : ℕ) → a ≤ 3 → Ends Low (answers_only T m page p a)
  unfolding answers_only
  low_answers a h = low a m page h

  low_exists : Ends Low (exists T m page p)
  unfolding exists proceeds performs
  low_exists =
      ends_pick Low (eqb (m (status_at p)) 3) _ _ (low_answers 2 (omega arith))
      (ends_pick Low (eqb (m (status_at p)) 1) _ _ (low_answers 1 (omega arith))
      (ends_need Low _ _
      (ends_need Low _ _
      (ends_pick Low (either (eqb (m (holder_at (m (works_at p)))) 0) (eqb (m (holder_at (m (works_at p)))) p)) _ _
      (ends_need Low _ _ (low_perform T m page (context_of m p) _))
      (low_answers 1 (omega arith))))))

  -- in a run that has not failed
  low_turn : m failure_at ≡ 0 → Ends Low (turn T m page p)
  unfolding turn
  low_turn e =
      rw (eq-eqb (m failure_at) 0 e)
      (ends_need Low _ _ (ends_pick Low (between 1 (m created_at) p) _ _ low_exists (low_answers 3 (omega arith))))

  settled_failed :
      (o : Outcome Effect) → Ends Low o → (a : ℕ) (s d : Memory) → settled m page o ≡ done a s d → 16 ≤ a → Failed m page a s d
  unfolding settled
  settled_failed (ok (effect b t c)) (ends_ok l) a s d e h = let q : b ≡ a = cc in absurd (omega arith)
  settled_failed (fail n) ends_fail a s d e h = record { state = cc; device = cc }
  settled_failed stuck ends_stuck a s d e h = let z : ◌≡◌ {A = ℕ} 0 1 = cc in absurd (omega arith)

  -- A FAILING STEP changes only the run's failure mark
  pub failing_step : m failure_at ≡ 0 → (a : ℕ) (s d : Memory) → step T m page p ≡ done a s d → 16 ≤ a → Failed m page a s d
  unfolding step
  failing_step e a s d q h = settled_failed (turn T m page p) (low_turn e) a s d q h

  -- AFTER A FAILURE every step answers its number, and changes nothing
  pub failed_step : is_failure (m failure_at) ≡ true → step T m page p ≡ done (m failure_at) m page
  unfolding step turn settled need answers_only
  failed_step h =
      let l = failure_low (m failure_at) h in
      let n : m failure_at ≡ 0 → ⊥ = λ e. omega arith in
      rw (ne_eqb (m failure_at) 0 n, h)

-- and so does every step of a run
pub failed_run :
    (T : Table) (m page : Memory) (schedule : List ℕ) → is_failure (m failure_at) ≡ true
    → run T schedule m page ≡ ran (replicate (length schedule) (m failure_at)) m page
unfolding run on_done before
failed_run T m page [] h = refl
failed_run T m page (p ∷ schedule) h = rw (failed_step T m page p h, failed_run T m page schedule h)
