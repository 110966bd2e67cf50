-- An if, while, when or cycle: what its guards may ask, and each return. Assumes nothing.
use Prim.Native.Nat.{ℕ, ◌+◌, ◌-◌, ◌≤◌, ◌<◌}
use mathlib.Core.Path.{◌≡◌, sym, ◌∙◌}
use mathlib.Core.Bool.{Bool, true, false}
use mathlib.Core.List.{List}
use lib.Dec.{eqb, leb}
use native.Mathlib.Omega.{arith}
use borrow.Author.Tests.{eqb-true, eqb-false, ne_eqb, lt-leb, lt-ltb, le-ltb}
use mir.Val.{Fits}
use mir.Syntax.{w64}
use Rattle.basics.specs.Choice.{pick}
use Rattle.basics.specs.Cases.{cases}
use Rattle.table.specs.Table.{Table}
use Rattle.table.specs.Entries.{stmt_count, stmt_kind}
use Rattle.table.specs.Reading.{Field}
use Rattle.code.specs.Code.{decoded}
use Rattle.machine.specs.Memory.{Memory, memory_of, update}
use Rattle.machine.specs.Layout.{statement_at, holder_at, failure_at}
use Rattle.machine.specs.Lent.{Becomes}
use Rattle.machine.specs.Context as machine
use Rattle.machine.specs.Outcomes.{stuck, and_then}
use Rattle.machine.specs.Entries.{Opener, waits, stmt_at}
use Rattle.machine.specs.Statements.{go_to, wait, choose, chosen, do_opener, perform}
use Rattle.operands.specs.declared.Context.{Context}
use Rattle.operands.specs.Ready.{context_in}
use Rattle.effects.specs.Effects.{statement_step, Stepped, Standing}
use Rattle.effects.proofs.Carrying.{performs_if, performs_while, performs_when, performs_cycle, stepped, stepped_fail}
use Rattle.evaluation.proofs.Roots.{open_guards}
use Rattle.guards.specs.declared.ArmFound.{ArmFound}
use Rattle.guards.specs.Guards.{opener_of, picks, Choosable, Picked, Going}
use Rattle.guards.proofs.Arms.{first_outcome, same_unstuck, opener_follows}
use Rattle.guards.proofs.Standing.{stands_lent, stands_page, stands_small}

waits_is : (k v : ℕ) → k ≤ 9 → v ≡ k → leb 8 v ≡ waits (opener_of k)
unfolding opener_of waits
waits_is k v h e =
    rw e
    (cases (eqb k 7) (λ q. let r = eqb-true k 7 q in rw r) (λ q.
    cases (eqb k 8) (λ r. let u = eqb-true k 8 r in rw u) (λ r.
    cases (eqb k 9) (λ u. let w = eqb-true k 9 u in rw w) (λ u.
    let a = eqb-false k 8 r in let b = eqb-false k 9 u in rw (q, r, u, lt-leb 8 k (omega arith))))))

-- ---- the laws of `enter` and `pass`
module _ (m m1 : List ℕ) (h q v c : ℕ) (b : Bool) where
  pub enter_holding : b ≡ true → Becomes m1 (update (update (memory_of m) h v) q c)
      → Becomes m1 (update (pick b (update (memory_of m) h v) (memory_of m)) q c)
  enter_holding e i = rw e i

  pub enter_only : b ≡ false → Becomes m1 (update (memory_of m) q c)
      → Becomes m1 (update (pick b (update (memory_of m) h v) (memory_of m)) q c)
  enter_only e i = rw e i

module _ (m m1 : List ℕ) (h q c : ℕ) (b : Bool) where
  pub pass_blocked : b ≡ true → Becomes m1 (update (memory_of m) h 0)
      → Becomes m1 (pick b (update (memory_of m) h 0) (update (memory_of m) q c))
  pass_blocked e i = rw e i

  pub pass_on : b ≡ false → Becomes m1 (update (memory_of m) q c)
      → Becomes m1 (pick b (update (memory_of m) h 0) (update (memory_of m) q c))
  pass_on e i = rw e i

pub ruleset goings = (enter_holding, enter_only, pass_blocked, pass_on)

-- ---- the laws of `open`
module _ (T : Table) (m page : Memory) (x : machine.Context) (k : Opener) where
  opens : (do_opener T m page x k ≡ stuck → ⊥)
      → do_opener T m page x k ≡ and_then (choose T m page x (stmt_count T) (x.statement + 1)) (chosen T m page x k)
  unfolding do_opener
  opens g = opener_follows T (x.statement + 1) _ g

module _ (t m p : List ℕ) (x : Context) (h : Standing t m p x) where
  pub opener_fits : Fits w64 (x.statement + 1)
  opener_fits = let l = stands_small t m p x h in record { fits = omega arith }

  module _ (l : 6 ≤ stmt_kind (decoded t) x.statement) (k : stmt_kind (decoded t) x.statement ≤ 9) where
    performs : perform (decoded t) (memory_of m) (memory_of p) (context_in x) (stmt_at (decoded t) x.statement)
        ≡ do_opener (decoded t) (memory_of m) (memory_of p) (context_in x) (opener_of (stmt_kind (decoded t) x.statement))
    unfolding context_in opener_of
    performs =
        cases (eqb (stmt_kind (decoded t) x.statement) 7)
        (λ e. rw e (performs_while (decoded t) (memory_of m) (memory_of p) (context_in x) h.unstuck (eqb-true (stmt_kind (decoded t) x.statement) 7 e)))
        (λ e7.
        cases (eqb (stmt_kind (decoded t) x.statement) 8)
        (λ e. rw (e7, e) (performs_when (decoded t) (memory_of m) (memory_of p) (context_in x) h.unstuck (eqb-true (stmt_kind (decoded t) x.statement) 8 e)))
        (λ e8.
        cases (eqb (stmt_kind (decoded t) x.statement) 9)
        (λ e. rw (e7, e8, e) (performs_cycle (decoded t) (memory_of m) (memory_of p) (context_in x) h.unstuck (eqb-true (stmt_kind (decoded t) x.statement) 9 e)))
        (λ e9.
        let a = eqb-false (stmt_kind (decoded t) x.statement) 7 e7 in
        let b = eqb-false (stmt_kind (decoded t) x.statement) 8 e8 in
        let c = eqb-false (stmt_kind (decoded t) x.statement) 9 e9 in
        rw (e7, e8, e9) (performs_if (decoded t) (memory_of m) (memory_of p) (context_in x) h.unstuck (omega arith)))))

    chooses : perform (decoded t) (memory_of m) (memory_of p) (context_in x) (stmt_at (decoded t) x.statement)
        ≡ and_then (choose (decoded t) (memory_of m) (memory_of p) (context_in x) (stmt_count (decoded t)) (x.statement + 1))
        (chosen (decoded t) (memory_of m) (memory_of p) (context_in x) (opener_of (stmt_kind (decoded t) x.statement)))
    unfolding context_in
    chooses = performs ∙ opens (decoded t) (memory_of m) (memory_of p) (context_in x) _ (same_unstuck (sym performs) h.unstuck)

    pub opener_choosable : Choosable (decoded t) (memory_of m) (memory_of p) (context_in x) (x.statement + 1)
    opener_choosable = record { unstuck = first_outcome _ _ (same_unstuck (sym chooses) h.unstuck) }

    module _ (r : ArmFound) (c : Picked (decoded t) (memory_of m) (memory_of p) (context_in x) (x.statement + 1) r) where
      pub opener_fails : 65536 ≤ r.value → (n : ℕ) (m1 : List ℕ) → n ≡ r.value - 65536
          → Becomes m1 (update (memory_of m) failure_at (r.value - 65536))
          → Stepped n m1 p (statement_step (decoded t) (memory_of m) (memory_of p) (context_in x))
      unfolding and_then context_in picks
      opener_fails b n m1 u v =
          let d = rw (le-ltb r.value 65536 b) at c.is in
          stepped_fail (decoded t) m p m1 p (context_in x) (r.value - 65536) n
          (chooses ∙ rw (← d)) u v h.ready.page

      module _ (v : ℕ) (hv : Field (stmt_kind (decoded t) x.statement) v) where
        same : leb 8 v ≡ waits (opener_of (stmt_kind (decoded t) x.statement))
        same = waits_is (stmt_kind (decoded t) x.statement) v k hv.is

        pub opener_enters : r.value < 65536 → (r.value ≡ 0 → ⊥) → (n : ℕ) (m1 : List ℕ) → n ≡ 0
            → Becomes m1 (update (pick (leb 8 v) (update (memory_of m) (holder_at x.works) x.process) (memory_of m)) (statement_at x.process) (r.at + 1))
            → Stepped n m1 p (statement_step (decoded t) (memory_of m) (memory_of p) (context_in x))
        unfolding and_then chosen go_to context_in picks
        opener_enters b z n m1 u w =
            let d = rw (lt-ltb r.value 65536 b, ne_eqb r.value 0 z) at c.is in
            rw u
            (stepped (decoded t) m p m1 p (context_in x) 0 _ (memory_of p)
            (chooses ∙ rw (← d)) (rw same at w) (stands_page t m p x h))

        pub opener_passes : r.value ≡ 0 → (n : ℕ) (m1 : List ℕ) → n ≡ pick (leb 8 v) 1 0
            → Becomes m1 (pick (leb 8 v) (update (memory_of m) (holder_at x.works) 0) (update (memory_of m) (statement_at x.process) (r.at + 1)))
            → Stepped n m1 p (statement_step (decoded t) (memory_of m) (memory_of p) (context_in x))
        unfolding and_then chosen go_to wait context_in picks
        opener_passes z n m1 u w =
            let d = rw z at c.is in
            cases (waits (opener_of (stmt_kind (decoded t) x.statement)))
            (λ e.
            let g : n ≡ 1 = u ∙ rw (same, e) in
            rw g
            (stepped (decoded t) m p m1 p (context_in x) 1 _ (memory_of p) (chooses ∙ rw (← d, e)) (rw (same, e) at w) (stands_page t m p x h)))
            (λ e.
            let g : n ≡ 0 = u ∙ rw (same, e) in
            rw g
            (stepped (decoded t) m p m1 p (context_in x) 0 _ (memory_of p) (chooses ∙ rw (← d, e)) (rw (same, e) at w) (stands_page t m p x h)))

  pub opener_going : (r : ArmFound) → Picked (decoded t) (memory_of m) (memory_of p) (context_in x) (x.statement + 1) r → Going m x r.at
  opener_going r c =
      record {
        state = stands_lent t m p x h;
        process_low = h.ready.context.process_low;
        process_high = h.ready.context.process_high;
        works_low = h.ready.context.works_low;
        works_high = h.ready.context.works_high;
        small = let d = h.statements in let b = c.below in omega arith;
      }

pub ruleset opening = (opener_fits, opener_choosable, open_guards, opener_going, opener_fails, opener_enters, opener_passes)
