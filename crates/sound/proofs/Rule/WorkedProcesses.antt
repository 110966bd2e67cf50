-- The processes that a process works on, in its own block and in its calls: they are created and have been started; what of a state says
-- which they are, and which variables are live. Assumes nothing.
use Prim.Native.Nat.{ℕ, zero, suc, ◌+◌, ◌-◌, ◌/◌, ◌%◌, ◌≤◌}
use mathlib.Core.Path.{◌≡◌, refl, sym, ◌∙◌}
use mathlib.Core.Bool.{true, false}
use native.Mathlib.Omega.{arith}
use lib.Dec.{eqb, leb}
use borrow.Author.Tests.{eqb-true, eq-eqb}
use Rattle.basics.specs.Choice.{both, either}
use Rattle.basics.proofs.Bools.{no_true, both_l, both_r, both_i, either_l, either_r, either_case}
use Rattle.table.specs.Table.{Table}
use Rattle.machine.specs.Memory.{Memory}
use Rattle.machine.specs.Layout.{link_at, status_at, module_at, statement_at, works_at, holder_at, created_at, caller_frame, caller_works, called_block}
use Rattle.machine.specs.Entries.{Statement, skip, assign, local_call, process_call, create, start, opener, arm, end_arms, write, block_end, no_statement, stmt_at}
use Rattle.machine.specs.Values.{part_of_block}
use Rattle.machine.specs.Rule.{is_created, owns, worked, lives, may_wait, works_by, calls}
use Rattle.machine.proofs.Tests.{range_i}
use Rattle.sound.specs.InUse.{Created}
use Rattle.sound.specs.Ruled.{CallChain, bottom, called, Held, held, given, ProcessesStay}

module _ (m : Memory) (p : ℕ) where
  pub worked_first : (d f w r : ℕ) → w ≡ r → worked m p d f w r ≡ true
  unfolding worked
  worked_first zero f w r e = eq-eqb w r e
  worked_first (suc d) f w r e = either_l _ _ (eq-eqb w r e)

  pub worked_outer : (d f w r : ℕ) → worked m p d (caller_frame m p f) (caller_works m p f) r ≡ true → worked m p (suc d) f w r ≡ true
  unfolding worked
  worked_outer d f w r e = either_r (eqb w r) _ e

  pub worked_bottom : (f w r : ℕ) → worked m p 0 f w r ≡ true → w ≡ r
  unfolding worked
  worked_bottom f w r e = eqb-true w r e

  pub worked_case {ℓ} : {A : Type ℓ} (d f w r : ℕ) → worked m p (suc d) f w r ≡ true → (w ≡ r → A) → (worked m p d (caller_frame m p f) (caller_works m p f) r ≡ true → A) → A
  unfolding worked
  worked_case d f w r e g h = either_case (eqb w r) _ e (λ i. g (eqb-true w r i)) h

module _ (T : Table) (m : Memory) (p : ℕ) where
  module _ (some : 1 ≤ p) (made : p ≤ m created_at) where
    pub worked_created : {d f w c top : ℕ} → CallChain T m p d f w c top → (r : ℕ) → worked m p d f w r ≡ true → Created m r
    worked_created {f = f} {w = w} (bottom k) r e =
        let i = worked_bottom m p f w r e in let j = k.own in record { least = omega arith; most = omega arith }
    worked_created {d = suc d} {f = f} {w = w} (called k c) r e =
        worked_case m p d f w r e
        (λ i. let x = k.some_works in let y = k.works in record { least = omega arith; most = omega arith })
        (λ i. worked_created c r i)

    -- a live variable is a module variable of a created process, or one of its process's calls
    pub lives_there : {d f w c top : ℕ} → CallChain T m p d f w c top → (τ a : ℕ) → lives T m p d f w τ a ≡ true
        → either (both (is_created m (a / 256 + 1)) (part_of_block T (m (module_at (a / 256 + 1))) τ (a % 256))) (both (eqb (a / 256 + 1) p) (owns T m p d f τ (a % 256))) ≡ true
    unfolding lives is_created
    lives_there {d = d} {f = f} {w = w} k τ a e =
        either_case (both (worked m p d f w (a / 256 + 1)) (part_of_block T (m (module_at (a / 256 + 1))) τ (a % 256))) _ e
        (λ h. let c = worked_created k (a / 256 + 1) (both_l _ _ h) in either_l _ _ (both_i _ _ (range_i 1 (m created_at) (a / 256 + 1) c.least c.most) (both_r _ _ h)))
        (λ h. either_r _ _ h)

  pub worked_begun : m (status_at p) ≡ 2 → {d f w c top : ℕ} → CallChain T m p d f w c top → (r : ℕ) → worked m p d f w r ≡ true → m (status_at r) ≡ 1 → ⊥
  worked_begun s {f = f} {w = w} (bottom k) r e n =
      let i = worked_bottom m p f w r e in
      let j = k.own in
      let z : m (status_at p) ≡ 1 = rw (sym j, i) n in
      omega arith
  worked_begun s {d = suc d} {f = f} {w = w} (called k c) r e n =
      worked_case m p d f w r e
      (λ i. k.begun (rw i n))
      (λ i. worked_begun s c r i n)

-- the d calls of process p, the innermost of which has its frame at f and works on w, own and work on the same in n as in m
pub record Alike (T : Table) (m n : Memory) (p d f w : ℕ) : Type 0 where
  pub owning : (τ k : ℕ) → owns T m p d f τ k ≡ true → owns T n p d f τ k ≡ true
  pub working : (r : ℕ) → worked n p d f w r ≡ worked m p d f w r

module _ (T : Table) (m n : Memory) (p : ℕ) where
  pub alike_none : (f w : ℕ) → Alike T m n p 0 f w
  unfolding owns worked
  alike_none f w = record { owning = λ τ k e. e; working = λ r. refl }

  pub alike_more : (d f w : ℕ) → n (link_at p f 0) ≡ m (link_at p f 0) → n (link_at p f 2) ≡ m (link_at p f 2) → n (link_at p f 3) ≡ m (link_at p f 3)
      → Alike T m n p d (caller_frame m p f) (caller_works m p f) → Alike T m n p (suc d) f w
  unfolding owns worked
  alike_more d f w e0 e2 e3 A =
      record {
        owning = λ τ k e.
            either_case (both (leb (f + 4) k) (part_of_block T (called_block m p f) τ (k - (f + 4)))) (owns T m p d (caller_frame m p f) τ k) e
            (λ y. either_l _ _ (rw e3 y))
            (λ y. either_r _ _ (rw e0 (A.owning τ k y)));
        working = λ r. rw (e0, e2, A.working r);
      }

  -- a live variable stays one
  pub lives_alike : ProcessesStay m n → 1 ≤ p → p ≤ m created_at → {d f w c top : ℕ} → CallChain T m p d f w c top → Alike T m n p d f w → (τ a : ℕ) → lives T m p d f w τ a ≡ true → lives T n p d f w τ a ≡ true
  unfolding lives
  lives_alike cs some made {d = d} {f = f} {w = w} k A τ a e =
      either_case (both (worked m p d f w (a / 256 + 1)) (part_of_block T (m (module_at (a / 256 + 1))) τ (a % 256))) (both (eqb (a / 256 + 1) p) (owns T m p d f τ (a % 256))) e
      (λ x. let c = worked_created T m p some made k (a / 256 + 1) (both_l _ _ x) in
      either_l _ _ (both_i _ _ (rw (A.working (a / 256 + 1)) (both_l _ _ x)) (rw (cs.modules (a / 256 + 1) c.least c.most) (both_r _ _ x))))
      (λ x. either_r _ _ (both_i _ _ (both_l _ _ x) (A.owning τ (a % 256) (both_r _ _ x))))

  -- a call works on the same
  pub works_by_same : (d f w : ℕ) (s : Statement) → n (link_at p f 0) ≡ m (link_at p f 0) → n (link_at p f 2) ≡ m (link_at p f 2) → Alike T m n p d (caller_frame m p f) (caller_works m p f)
      → works_by T m p d f w s ≡ true → works_by T n p d f w s ≡ true
  unfolding works_by
  works_by_same d f w skip e0 e2 A e = e
  works_by_same d f w (assign a b) e0 e2 A e = e
  works_by_same d f w (local_call q c k) e0 e2 A e = rw e2 e
  works_by_same d f w (process_call a q c k) e0 e2 A e = rw (e0, e2, A.working w) e
  works_by_same d f w (create a) e0 e2 A e = e
  works_by_same d f w (start a c k) e0 e2 A e = e
  works_by_same d f w (opener k) e0 e2 A e = e
  works_by_same d f w (arm g l) e0 e2 A e = e
  works_by_same d f w (end_arms l) e0 e2 A e = e
  works_by_same d f w (write a b) e0 e2 A e = e
  works_by_same d f w block_end e0 e2 A e = e
  works_by_same d f w no_statement e0 e2 A e = e

  -- what is held stays so
  pub held_same : (r : ℕ) → n (holder_at r) ≡ m (holder_at r) → n (works_at p) ≡ m (works_at p) → n (statement_at p) ≡ m (statement_at p) → Held T m p r → Held T n p r
  held_same r e6 e5 e2 (held h) = held (rw e6 h)
  held_same r e6 e5 e2 (given h w) = given (rw e5 h) (rw e2 w)

-- a process works on itself, in its own block
pub worked_own : (T : Table) (m : Memory) (p : ℕ) {d f w c top : ℕ} → CallChain T m p d f w c top → worked m p d f w p ≡ true
worked_own T m p {f = f} {w = w} (bottom k) = worked_first m p 0 f w p k.own
worked_own T m p {d = suc d} {f = f} {w = w} (called k c) = worked_outer m p d f w p (worked_own T m p c)

-- a call that works on what its process works on outside it is a local call
pub works_outer : (T : Table) (m : Memory) (p d f w : ℕ) (s : Statement) → works_by T m p d f w s ≡ true → worked m p d (caller_frame m p f) (caller_works m p f) w ≡ true → caller_works m p f ≡ w
unfolding works_by
works_outer T m p d f w skip e h = no_true e
works_outer T m p d f w (assign a b) e h = no_true e
works_outer T m p d f w (local_call b c k) e h = eqb-true (caller_works m p f) w e
works_outer T m p d f w (process_call a b c k) e h = no_true (rw h at e)
works_outer T m p d f w (create a) e h = no_true e
works_outer T m p d f w (start a c k) e h = no_true e
works_outer T m p d f w (opener k) e h = no_true e
works_outer T m p d f w (arm i l) e h = no_true e
works_outer T m p d f w (end_arms l) e h = no_true e
works_outer T m p d f w (write a b) e h = no_true e
works_outer T m p d f w block_end e h = no_true e
works_outer T m p d f w no_statement e h = no_true e

-- how a call comes to work on w
pub works_by_i : (T : Table) (m : Memory) (p d f w q : ℕ) (s : Statement) → calls q s ≡ true
    → ((b c k : ℕ) → s ≡ local_call b c k → caller_works m p f ≡ w)
    → ((a b c k : ℕ) → s ≡ process_call a b c k → worked m p d (caller_frame m p f) (caller_works m p f) w ≡ false)
    → works_by T m p d f w s ≡ true
unfolding calls works_by
works_by_i T m p d f w q skip e g h = e
works_by_i T m p d f w q (assign a b) e g h = e
works_by_i T m p d f w q (local_call b c k) e g h = eq-eqb (caller_works m p f) w (g b c k refl)
works_by_i T m p d f w q (process_call a b c k) e g h = rw (h a b c k refl)
works_by_i T m p d f w q (create a) e g h = e
works_by_i T m p d f w q (start a c k) e g h = e
works_by_i T m p d f w q (opener k) e g h = e
works_by_i T m p d f w q (arm i l) e g h = e
works_by_i T m p d f w q (end_arms l) e g h = e
works_by_i T m p d f w q (write a b) e g h = e
works_by_i T m p d f w q block_end e g h = e
works_by_i T m p d f w q no_statement e g h = e

-- a process that stands at no when or cycle holds what it works on
pub held_fast : (T : Table) (m : Memory) (p r : ℕ) → may_wait (stmt_at T (m (statement_at p))) ≡ false → Held T m p r → m (holder_at r) ≡ p
held_fast T m p r e (held h) = h
held_fast T m p r e (given h w) = no_true (sym e ∙ w)

-- what one gave up, another holds or none
pub given_same : (T : Table) (m n : Memory) (p r : ℕ) → (m (holder_at r) ≡ p → ⊥) → n (works_at p) ≡ m (works_at p) → n (statement_at p) ≡ m (statement_at p) → Held T m p r → Held T n p r
given_same T m n p r d e5 e2 (held h) = absurd (d h)
given_same T m n p r d e5 e2 (given h w) = given (rw e5 h) (rw e2 w)
