-- Evaluation: structured statements and block ends; so the statement of a started process is never stuck, and what it comes to. Assumes nothing.
use Prim.Native.Nat.{ℕ, zero, suc, ◌+◌, ◌-◌, ◌≤◌, ◌<◌}
use mathlib.Core.Path.{◌≡◌, refl, sym}
use mathlib.Core.Bool.{true}
use native.Mathlib.Omega.{arith}
use lib.Dec.{eqb, leb, ltb}
use borrow.Author.Tests.{eqb-true, eqb-false, leb-true, leb-false, lt-ltb}
use Rattle.basics.specs.Cases.{cases}
use Rattle.basics.proofs.Bools.{no_true}
use Rattle.table.specs.Table.{Table}
use Rattle.table.specs.Entries.{block_count, stmt_count, stmt_kind, stmt_a, stmt_link, stmt_limit}
use Rattle.entries.proofs.Promise.{stmt-kind}
use Rattle.nesting.specs.Blocks.{StmtOf}
use Rattle.nesting.proofs.Promise.{in_table, goes_on, opener_arm, arm_up, arm_in, arm_low, arm_high, end_in, end_low, end_high}
use Rattle.numbers.proofs.OperandPromise as ranged
use Rattle.typing.proofs.Promise as typing
use Rattle.machine.specs.Memory.{Memory, update}
use Rattle.machine.specs.Layout.{status_at, module_at, statement_at, frame_at, top_at, works_at, holder_at, depth_at, created_at, caller_frame, call_statement, caller_works, called_block}
use Rattle.machine.specs.Outcomes.{Outcome, ok, fail, and_then, word_of, is_failure}
use Rattle.machine.specs.Entries.{Opener, if, while, when, cycle, Statement, skip, assign, local_call, process_call, create, start, opener, arm, end_arms, write, block_end, no_statement, statement_of, stmt_at}
use Rattle.machine.specs.Entries as entries
use Rattle.machine.specs.Context.{context_of, block_of}
use Rattle.machine.specs.Operands.{operand}
use Rattle.machine.specs.Calls.{return}
use Rattle.machine.specs.Calls as call
use Rattle.machine.specs.Statements.{Effect, Choice, enters, skips, on_arms, on_opener, end_of, go_to, go_on, wait, moved, choose, chosen, do_opener, do_end, do_block_end, perform}
use Rattle.machine.specs.Rule.{lies_in}
use Rattle.machine.specs.Rule as state
use Rattle.verdict.specs.Accepted.{Accepted}
use Rattle.sound.specs.Claims.{PlaceLaws}
use Rattle.sound.specs.Answers.{Small}
use Rattle.sound.specs.Ruled.{CallChain, bottom, called, Ruled, BlockOwned}
use Rattle.sound.specs.Reached.{WordTable}
use Rattle.sound.specs.Evaluated.{Scoped, CannotWait, Performed, goes, holds-on, gives_up, ends, returns, fails}
use Rattle.sound.proofs.Rule.RuleRecord.{lies_from, lies_to, lies_i, stands}
use Rattle.sound.proofs.Memory.Writes.{update_small}
use Rattle.sound.proofs.RuleKept.Position.{stand_small}
use Rattle.sound.proofs.Evaluation.OutcomeLaws.{on_need, on-word}
use Rattle.sound.proofs.Evaluation.Statements.{stmt_is, number_good, assign_performs, write_performs, create_performs, local_performs, process_performs, start_performs}

-- the statements of a block, as the rule and as the nesting say it
module _ (T : Table) (b c : ℕ) where
  pub lies_of : lies_in T b c ≡ true → StmtOf T b c
  unfolding stmt_limit
  lies_of e = record { from = lies_from T b c e; below = lies_to T b c e }

  pub of_lies : StmtOf T b c → lies_in T b c ≡ true
  unfolding stmt_limit
  of_lies p = lies_i T b c p.from p.below

-- the arm that is entered, or the end that is reached, of statements of block b
pub data Chosen (T : Table) (b : ℕ) : Outcome Choice → Type 0 where
  entering : (i : ℕ) → StmtOf T b i → stmt_kind T i ≡ 10 → Chosen T b (ok (enters i))
  skipping : (i : ℕ) → StmtOf T b i → stmt_kind T i ≡ 11 → Chosen T b (ok (skips i))
  failing : (n : ℕ) → is_failure n ≡ true → Chosen T b (fail n)

-- statement numbers are words
pub next_small : (T : Table) → WordTable T → (b : ℕ) → stmt_limit T b < 65536
unfolding stmt_limit
next_small T W b = cases (ltb (b + 1) (block_count T)) (λ e. rw e (W.cells 3 (b + 1) 5)) (λ e. rw e (W.counts 6))

pub lies_small : (T : Table) → WordTable T → (b c : ℕ) → lies_in T b c ≡ true → c < 65536
lies_small T W b c e = let x = lies_to T b c e in let y = next_small T W b in omega arith

chain_small : (T : Table) → WordTable T → (m : Memory) (p d f w c top : ℕ) → CallChain T m p d f w c top → c + 1 < 65536
chain_small T W m p _ f w c top (bottom b) = let x = b.to in let y = next_small T W (m (module_at p)) in omega arith
chain_small T W m p _ f w c top (called F C) = let x = F.to in let y = next_small T W (called_block m p f) in omega arith

-- a return gives a state
data Returning : Outcome Memory → Type 0 where
  a_state : (n : Memory) → Small n → Returning (ok n)

module _ (T : Table) (acc : Accepted T) (L : PlaceLaws T) (W : WordTable T) (m : Memory) (R : Ruled T m) (ms : Small m) (page : Memory) (ps : Small page) (p : ℕ) (some : 1 ≤ p) (made : p ≤ m created_at) (s : m (status_at p) ≡ 2)
    (scope : ℕ → Type 0) (S : Scoped T (block_of m p) scope) where
  -- where it stands
  where_stands : BlockOwned T m p
  where_stands = stands T acc m p some made (R.process p some made) s

  there : block_of m p < block_count T
  there = where_stands.there

  abbrev stmt : ℕ
  stmt = m (statement_at p)

  here : StmtOf T (block_of m p) stmt
  here = lies_of T (block_of m p) stmt (lies_i T (block_of m p) stmt where_stands.from where_stands.to)

  module _ (i : ℕ) (o : StmtOf T (block_of m p) i) where
    inside : i < stmt_count T
    inside = in_table T acc.nesting (block_of m p) there i o

    lies : lies_in T (block_of m p) i ≡ true
    lies = of_lies T (block_of m p) i o

    after : (stmt_kind T i ≡ 13 → ⊥) → lies_in T (block_of m p) (i + 1) ≡ true
    after n = of_lies T (block_of m p) (i + 1) (goes_on T acc.nesting (block_of m p) there i o n)

    arm_is : stmt_kind T i ≡ 10 → stmt_at T i ≡ arm (stmt_a T i) (stmt_link T i)
    unfolding statement_of
    arm_is k = stmt_is T i 10 inside k

    end_is : stmt_kind T i ≡ 11 → stmt_at T i ≡ end_arms (stmt_link T i)
    unfolding statement_of
    end_is k = stmt_is T i 11 inside k

  stmt_in : m (statement_at p) < stmt_count T
  stmt_in = inside (m (statement_at p)) here

  -- 11.6: the arms from i on
  choose_one : (n i : ℕ) (o : StmtOf T (block_of m p) i) → 10 ≤ stmt_kind T i → stmt_kind T i ≤ 11
      → (stmt_kind T i ≡ 10 → Chosen T (block_of m p) (choose T m page (context_of m p) n (stmt_link T i))) → Chosen T (block_of m p) (choose T m page (context_of m p) (suc n) i)
  unfolding choose on_arms
  choose_one n i o a b next =
      cases (eqb (stmt_kind T i) 10)
      (λ q.
      let k : stmt_kind T i ≡ 10 = eqb-true (stmt_kind T i) 10 q in
      rw (arm_is i o k)
      (on-word (Chosen T (block_of m p)) failing T m 1 (operand T m page (context_of m p) (stmt_a T i)) _
      (rw (typing.guard T acc.types i (inside i o) k) at (number_good T acc L W m R ms page ps p some made s scope S.nodes stmt_in (stmt_a T i) (ranged.arm_guard T acc.numbers i (inside i o) k) (S.guard i (lies i o) k) (typing.guard_numbered T acc.types i (inside i o) k)))
      (λ ws v t. cases (eqb (word_of ws) 0)
      (λ e. rw e (on_need (Chosen T (block_of m p)) failing (ltb i (stmt_link T i)) _ (lt-ltb i (stmt_link T i) (arm_up T acc.nesting (block_of m p) there i o k)) (next k)))
      (λ e. rw e (entering i o k)))))
      (λ q.
      let k : stmt_kind T i ≡ 11 = omega (arith, eqb-false (stmt_kind T i) 10 q) in
      rw (end_is i o k) (skipping i o k))

  choose_good : (n i : ℕ) → StmtOf T (block_of m p) i → 10 ≤ stmt_kind T i → stmt_kind T i ≤ 11 → stmt_count T ≤ i + n → Chosen T (block_of m p) (choose T m page (context_of m p) n i)
  choose_good zero i o a b f = let l = inside i o in absurd (omega arith)
  choose_good (suc n) i o a b f =
      choose_one n i o a b (λ c.
      let u = arm_up T acc.nesting (block_of m p) there i o c in
      choose_good n (stmt_link T i) (arm_in T acc.nesting (block_of m p) there i o c)
      (arm_low T acc.nesting (block_of m p) there i o c) (arm_high T acc.nesting (block_of m p) there i o c) (omega arith))

  -- 11.7 to 11.10
  chosen_good : (k : Opener) → state.may_wait (stmt_at T stmt) ≡ entries.waits k → (o : Outcome Choice) → Chosen T (block_of m p) o → Performed T m page p (and_then o (chosen T m page (context_of m p) k))
  unfolding and_then chosen go_to wait context_of entries.waits
  chosen_good if w _ (entering i o e) = goes (i + 1) w (after i o (λ z. omega arith))
  chosen_good while w _ (entering i o e) = goes (i + 1) w (after i o (λ z. omega arith))
  chosen_good when w _ (entering i o e) = holds-on (i + 1) (after i o (λ z. omega arith))
  chosen_good cycle w _ (entering i o e) = holds-on (i + 1) (after i o (λ z. omega arith))
  chosen_good if w _ (skipping i o e) = goes (i + 1) w (after i o (λ z. omega arith))
  chosen_good while w _ (skipping i o e) = goes (i + 1) w (after i o (λ z. omega arith))
  chosen_good when w _ (skipping i o e) = gives_up w
  chosen_good cycle w _ (skipping i o e) = gives_up w
  chosen_good if w _ (failing n l) = fails n l
  chosen_good while w _ (failing n l) = fails n l
  chosen_good when w _ (failing n l) = fails n l
  chosen_good cycle w _ (failing n l) = fails n l

  module _ (low : 6 ≤ stmt_kind T stmt) (high : stmt_kind T stmt ≤ 9) where
    next : StmtOf T (block_of m p) (stmt + 1)
    next = goes_on T acc.nesting (block_of m p) there stmt here (λ z. omega arith)

    next_arm : stmt_kind T (stmt + 1) ≡ 10
    next_arm = opener_arm T acc.nesting (block_of m p) there stmt here low high

    opener_good : (k : Opener) → stmt_at T stmt ≡ opener k → Performed T m page p (do_opener T m page (context_of m p) k)
    unfolding state.may_wait do_opener on_arms context_of
    opener_good k is =
        let e = next_arm in
        rw (arm_is (stmt + 1) next next_arm)
        (chosen_good k (rw is) (choose T m page (context_of m p) (stmt_count T) (stmt + 1)) (choose_good (stmt_count T) (stmt + 1) next (omega arith) (omega arith) (omega arith)))

    pub opener_performs : Performed T m page p (perform T m page (context_of m p) (stmt_at T stmt))
    unfolding perform statement_of
    opener_performs =
        cases (eqb (stmt_kind T stmt) 6) (λ q. let e = stmt_is T stmt 6 stmt_in (eqb-true (stmt_kind T stmt) 6 q) in rw e (opener_good if e))
        (λ q. cases (eqb (stmt_kind T stmt) 7) (λ u. let e = stmt_is T stmt 7 stmt_in (eqb-true (stmt_kind T stmt) 7 u) in rw e (opener_good while e))
        (λ u. cases (eqb (stmt_kind T stmt) 8) (λ v. let e = stmt_is T stmt 8 stmt_in (eqb-true (stmt_kind T stmt) 8 v) in rw e (opener_good when e))
        (λ v. let e = stmt_is T stmt 9 stmt_in (omega (arith, eqb-false (stmt_kind T stmt) 6 q, eqb-false (stmt_kind T stmt) 7 u, eqb-false (stmt_kind T stmt) 8 v)) in rw e (opener_good cycle e))))

  -- an opener by its kind
  opener_kind : (i : ℕ) → i < stmt_count T → 6 ≤ stmt_kind T i → stmt_kind T i ≤ 9 → (f : Opener → Outcome Effect) → ((k : Opener) → Performed T m page p (f k)) → Performed T m page p (on_opener (stmt_at T i) f)
  unfolding on_opener statement_of
  opener_kind i l a b f h =
      cases (eqb (stmt_kind T i) 6) (λ q. rw (stmt_is T i 6 l (eqb-true (stmt_kind T i) 6 q)) (h if))
      (λ q. cases (eqb (stmt_kind T i) 7) (λ u. rw (stmt_is T i 7 l (eqb-true (stmt_kind T i) 7 u)) (h while))
      (λ u. cases (eqb (stmt_kind T i) 8) (λ v. rw (stmt_is T i 8 l (eqb-true (stmt_kind T i) 8 v)) (h when))
      (λ v. rw (stmt_is T i 9 l (omega (arith, eqb-false (stmt_kind T i) 6 q, eqb-false (stmt_kind T i) 7 u, eqb-false (stmt_kind T i) 8 v))) (h cycle))))

  -- the end of the arms from i on
  end_one : (n i : ℕ) (o : StmtOf T (block_of m p) i) (f : ℕ → ℕ → Outcome Effect) → 10 ≤ stmt_kind T i → stmt_kind T i ≤ 11
      → (stmt_kind T i ≡ 10 → Performed T m page p (end_of T n (stmt_link T i) f)) → (stmt_kind T i ≡ 11 → Performed T m page p (f i (stmt_link T i))) → Performed T m page p (end_of T (suc n) i f)
  unfolding end_of on_arms
  end_one n i o f a b next stop =
      cases (eqb (stmt_kind T i) 10)
      (λ q.
      let k : stmt_kind T i ≡ 10 = eqb-true (stmt_kind T i) 10 q in
      rw (arm_is i o k)
      (on_need (Performed T m page p) (λ n l. fails n l) (ltb i (stmt_link T i)) _ (lt-ltb i (stmt_link T i) (arm_up T acc.nesting (block_of m p) there i o k)) (next k)))
      (λ q.
      let k : stmt_kind T i ≡ 11 = omega (arith, eqb-false (stmt_kind T i) 10 q) in
      rw (end_is i o k) (stop k))

  end_good : (n i : ℕ) (f : ℕ → ℕ → Outcome Effect) → StmtOf T (block_of m p) i → 10 ≤ stmt_kind T i → stmt_kind T i ≤ 11 → stmt_count T ≤ i + n
      → ((j : ℕ) → StmtOf T (block_of m p) j → stmt_kind T j ≡ 11 → Performed T m page p (f j (stmt_link T j))) → Performed T m page p (end_of T n i f)
  end_good zero i f o a b c h = let l = inside i o in absurd (omega arith)
  end_good (suc n) i f o a b c h =
      end_one n i o f a b
      (λ k.
      let u = arm_up T acc.nesting (block_of m p) there i o k in
      end_good n (stmt_link T i) f (arm_in T acc.nesting (block_of m p) there i o k)
      (arm_low T acc.nesting (block_of m p) there i o k) (arm_high T acc.nesting (block_of m p) there i o k) (omega arith) h)
      (h i o)

  ending : 10 ≤ stmt_kind T stmt → stmt_kind T stmt ≤ 11 → CannotWait T m p → Performed T m page p (do_end T m page (context_of m p))
  unfolding do_end go_to context_of
  ending a b w =
      end_good (stmt_count T) stmt _ here a b (omega arith) (λ j o k.
      let x = end_in T acc.nesting (block_of m p) there j o k in
      opener_kind (stmt_link T j) (inside (stmt_link T j) x) (end_low T acc.nesting (block_of m p) there j o k) (end_high T acc.nesting (block_of m p) there j o k) _ (λ c.
      cases (entries.repeats c)
      (λ e. rw e (goes (stmt_link T j) w (lies (stmt_link T j) x)))
      (λ e. rw e (goes (j + 1) w (after j o (λ z. omega arith))))))

  pub end_performs : 10 ≤ stmt_kind T stmt → stmt_kind T stmt ≤ 11 → Performed T m page p (perform T m page (context_of m p) (stmt_at T stmt))
  unfolding state.may_wait perform
  end_performs a b =
      cases (eqb (stmt_kind T stmt) 10)
      (λ q. let e = arm_is stmt here (eqb-true (stmt_kind T stmt) 10 q) in rw e (ending a b (rw e)))
      (λ q. let e = end_is stmt here (omega (arith, eqb-false (stmt_kind T stmt) 10 q)) in rw e (ending a b (rw e)))

  -- 0, the empty statement
  pub skip_performs : stmt_kind T stmt ≡ 0 → Performed T m page p (perform T m page (context_of m p) (stmt_at T stmt))
  unfolding state.may_wait statement_of perform go_on go_to context_of
  skip_performs k = let e = stmt_is T stmt 0 stmt_in k in rw e (goes (stmt + 1) (rw e) (after stmt here (λ z. omega arith)))

  -- 13, the end of its own block or of a call
  popped_small : (u : Memory) → Small u → (c : ℕ) → c + 1 < 65536 → Small (call.popped T m page (context_of m p) u c)
  unfolding call.popped context_of
  popped_small u v c l =
      let d = ms.small (depth_at p) in
      stand_small u p (c + 1) (caller_frame m p (m (frame_at p))) (m (frame_at p)) (caller_works m p (m (frame_at p))) (m (depth_at p) - 1) v l (ms.small _) (ms.small _) (ms.small _) (omega arith)

  returned : (c q : ℕ) (a : Statement) → c + 1 < 65536 → state.calls q a ≡ true → Returning (call.returns T m page (context_of m p) c a)
  unfolding state.calls call.returns context_of
  returned c q skip l e = no_true e
  returned c q (assign a b) l e = no_true e
  returned c q (local_call a i d) l e = a_state _ (popped_small m ms c l)
  returned c q (process_call a b i d) l e = a_state _ (popped_small (update m (holder_at (m (works_at p))) 0) (update_small m (holder_at (m (works_at p))) 0 ms (omega arith)) c l)
  returned c q (create a) l e = no_true e
  returned c q (start a i d) l e = no_true e
  returned c q (opener k) l e = no_true e
  returned c q (arm a i) l e = no_true e
  returned c q (end_arms i) l e = no_true e
  returned c q (write a b) l e = no_true e
  returned c q block_end l e = no_true e
  returned c q no_statement l e = no_true e

  return_good : CannotWait T m p → (m (depth_at p) ≡ 0 → ⊥) → Performed T m page p (moved T m page (context_of m p) (return T m page (context_of m p)))
  return_good w n = go (m (depth_at p)) refl ((R.process p some made).chain s)
    where
      done : (o : Outcome Memory) → o ≡ return T m page (context_of m p) → Returning o → Performed T m page p (moved T m page (context_of m p) o)
      done _ e (a_state u v) = unfold moved and_then in returns u w n (sym e) v

      go : (d : ℕ) → m (depth_at p) ≡ d → CallChain T m p d (m (frame_at p)) (m (works_at p)) (m (statement_at p)) (m (top_at p)) → Performed T m page p (moved T m page (context_of m p) (return T m page (context_of m p)))
      go zero e (bottom b) = absurd (n e)
      go (suc d) e (called F C) =
          let l = chain_small T W m p d (caller_frame m p (m (frame_at p))) (caller_works m p (m (frame_at p))) (call_statement m p (m (frame_at p))) (m (frame_at p)) C in
          done (return T m page (context_of m p)) refl
          (unfold return context_of in returned (call_statement m p (m (frame_at p))) (called_block m p (m (frame_at p))) (stmt_at T (call_statement m p (m (frame_at p)))) l F.calling)

  pub block_end_performs : stmt_kind T stmt ≡ 13 → Performed T m page p (perform T m page (context_of m p) (stmt_at T stmt))
  unfolding state.may_wait statement_of perform do_block_end context_of
  block_end_performs k =
      let i = stmt_is T stmt 13 stmt_in k in
      rw i
      (cases (eqb (m (depth_at p)) 0)
      (λ e. rw e (ends (rw i) (eqb-true (m (depth_at p)) 0 e)))
      (λ e. rw e (return_good (rw i) (eqb-false (m (depth_at p)) 0 e))))

  -- kinds 1 to 5
  low_performs : 1 ≤ stmt_kind T stmt → stmt_kind T stmt ≤ 5 → Performed T m page p (perform T m page (context_of m p) (stmt_at T stmt))
  low_performs a b =
      let z = lies stmt here in
      let on = after stmt here (λ q. omega arith) in
      cases (eqb (stmt_kind T stmt) 1)
      (λ q. let k = eqb-true (stmt_kind T stmt) 1 q in assign_performs T acc L W m R ms page ps p some made s scope S.nodes stmt_in k on (S.assigned stmt z k) (S.assigned_value stmt z k))
      (λ q. cases (eqb (stmt_kind T stmt) 2)
      (λ u. let k = eqb-true (stmt_kind T stmt) 2 u in local_performs T acc L W m R ms page ps p some made s scope S.nodes stmt_in k (S.local_owner stmt z k) (S.local_argument stmt z k))
      (λ u. cases (eqb (stmt_kind T stmt) 3)
      (λ v. let k = eqb-true (stmt_kind T stmt) 3 v in process_performs T acc L W m R ms page ps p some made s scope S.nodes stmt_in k (S.called_variable stmt z k) (S.called_argument stmt z k))
      (λ v. cases (eqb (stmt_kind T stmt) 4)
      (λ w. let k = eqb-true (stmt_kind T stmt) 4 w in create_performs T acc L W m R ms page ps p some made s scope S.nodes stmt_in k on (S.created_variable stmt z k))
      (λ w.
      let k : stmt_kind T stmt ≡ 5 = omega (arith, eqb-false (stmt_kind T stmt) 1 q, eqb-false (stmt_kind T stmt) 2 u, eqb-false (stmt_kind T stmt) 3 v, eqb-false (stmt_kind T stmt) 4 w) in
      start_performs T acc L W m R ms page ps p some made s scope S.nodes stmt_in k on (S.started_variable stmt z k) (S.started_argument stmt z k)))))

  -- kinds 12 and 13
  high_performs : 12 ≤ stmt_kind T stmt → stmt_kind T stmt ≤ 13 → Performed T m page p (perform T m page (context_of m p) (stmt_at T stmt))
  high_performs a b =
      let z = lies stmt here in
      cases (eqb (stmt_kind T stmt) 12)
      (λ q. let k = eqb-true (stmt_kind T stmt) 12 q in write_performs T acc L W m R ms page ps p some made s scope S.nodes stmt_in k (after stmt here (λ e. omega arith)) (S.written_address stmt z k) (S.written_value stmt z k))
      (λ q. block_end_performs (omega (arith, eqb-false (stmt_kind T stmt) 12 q)))

  -- THE STATEMENT of a started process is not stuck, and this is what it comes to
  pub performs : Performed T m page p (perform T m page (context_of m p) (stmt_at T stmt))
  performs =
      let h = stmt-kind T acc.kinds stmt stmt_in in
      cases (leb (stmt_kind T stmt) 5)
      (λ q. let a = leb-true (stmt_kind T stmt) 5 q in cases (eqb (stmt_kind T stmt) 0)
      (λ u. skip_performs (eqb-true (stmt_kind T stmt) 0 u))
      (λ u. let n = eqb-false (stmt_kind T stmt) 0 u in low_performs (omega arith) a))
      (λ q. let a = leb-false (stmt_kind T stmt) 5 q in cases (leb (stmt_kind T stmt) 9)
      (λ u. opener_performs a (leb-true (stmt_kind T stmt) 9 u))
      (λ u. let b = leb-false (stmt_kind T stmt) 9 u in cases (leb (stmt_kind T stmt) 11)
      (λ v. end_performs b (leb-true (stmt_kind T stmt) 11 v))
      (λ v. high_performs (leb-false (stmt_kind T stmt) 11 v) h)))
