-- Where the numbers say that there is a body, there is one of the grammar. Assumes nothing.
use mathlib.Core.Path.{◌≡◌, refl}
use mathlib.Core.Bool.{Bool, true, false}
use Prim.Native.Nat.{ℕ, zero, suc, ◌+◌, ◌<◌, ◌≤◌}
use native.Mathlib.Omega.{arith}
use lib.Dec.{ltb, leb, eqb}
use borrow.Author.Tests.{ltb-true, eqb-true, eqb-false}
use Rattle.basics.specs.Choice.{pick}
use Rattle.basics.specs.Cases.{cases}
use Rattle.basics.specs.Chain.{free}
use Rattle.basics.proofs.Chains.{passes}
use Rattle.table.specs.Table.{Table}
use Rattle.table.specs.Entries.{block_count, first_stmt, stmt_count, stmt_a, stmt_link}
use Rattle.nesting.specs.Nest.{class, onward, stmt_end, body_from, arm_end, arms_from, closed, body_end, arms_end, after_block, block_end, block_ok, nested}
use Rattle.nesting.specs.Grammar.{Body, one, more, StatementSpan, simple, group, Arm, arm, Arms, last, next, Block, block, Blocks, none, further}

module _ (T : Table) where
  -- what is no class 5 is within
  pub within : (i : ℕ) → class T i < 5 → i < stmt_count T
  unfolding class
  within i h = cases (ltb i (stmt_count T)) (λ e. ltb-true i (stmt_count T) e) (λ e. absurd (omega (arith, rw e at h)))

  -- a number that is not 0 was reached by the first test's taken side
  pub took : (b : Bool) (x : ℕ) → (pick b x 0 ≡ 0 → ⊥) → (b ≡ true) × (x ≡ 0 → ⊥)
  took true x h = (refl, h)
  took false x h = absurd (h refl)

  pub skipped : (j x : ℕ) → (onward j x ≡ 0 → ⊥) → (eqb j 0 ≡ false) × (x ≡ 0 → ⊥)
  skipped j x h = go (eqb j 0) refl h
    where
      go : (b : Bool) → eqb j 0 ≡ b → (pick b 0 x ≡ 0 → ⊥) → (eqb j 0 ≡ false) × (x ≡ 0 → ⊥)
      go true e g = absurd (g refl)
      go false e g = (e, g)

  pub stmt_is : (i e : ℕ) → (stmt_end T i e ≡ 0 → ⊥) → ((e ≡ 0 → ⊥) → Arms T i (i + 1) e) → StatementSpan T i (stmt_end T i e)
  unfolding stmt_end
  stmt_is i e h a =
      cases (eqb (class T i) 0) (λ p. rw p (simple (eqb-true (class T i) 0 p) refl))
      (λ p. let g = took (eqb (class T i) 1) e (rw p at h) in rw (p, g.0) (group (eqb-true (class T i) 1 g.0) (a g.1)))

  body_is : (i j e : ℕ) → (body_from T j e ≡ 0 → ⊥) → ((j ≡ 0 → ⊥) → StatementSpan T i j) → ((e ≡ 0 → ⊥) → Body T j e) → Body T i (body_from T j e)
  unfolding body_from
  body_is i j e h s b =
      let g = skipped j (pick (leb 2 (class T j)) j e) h in
      cases (leb 2 (class T j)) (λ p. rw (g.0, p) (one (s (eqb-false j 0 g.0))))
      (λ p. rw (g.0, p) (more (s (eqb-false j 0 g.0)) (b (rw p at g).1)))

  pub arm_is : (i j : ℕ) → (arm_end T i j ≡ 0 → ⊥) → ((j ≡ 0 → ⊥) → Body T (i + 1) j) → Arm T i (arm_end T i j)
  unfolding arm_end
  arm_is i j h b =
      let g = took (eqb (class T i) 2) _ h in
      let l = took (eqb (stmt_link T i) j) _ g.1 in
      rw (g.0, l.0) (arm (eqb-true (class T i) 2 g.0) (b l.1) (eqb-true (stmt_link T i) j l.0))

  arms_is : (o i j e : ℕ) → (arms_from T o j e ≡ 0 → ⊥) → ((j ≡ 0 → ⊥) → Arm T i j) → ((e ≡ 0 → ⊥) → Arms T o j e) → Arms T o i (arms_from T o j e)
  unfolding arms_from closed
  arms_is o i j e h b a =
      let k = skipped j _ h in
      let d : Arm T i j = b (eqb-false j 0 k.0) in
      cases (eqb (class T j) 3)
      (λ p. let m = took (eqb (stmt_link T j) o) _ (rw p at k).1 in rw (k.0, p, m.0) (last d (eqb-true (class T j) 3 p) (eqb-true (stmt_link T j) o m.0) refl))
      (λ p. rw (k.0, p) (next d (a (rw p at k).1)))

  -- where the numbers say that there is one, there is one
  mutual
    unfolding body_end

    pub body_sound : (f i : ℕ) → (body_end f T i ≡ 0 → ⊥) → Body T i (body_end f T i)
    body_sound zero i h = absurd (h refl)
    body_sound (suc f) i h = body_is i _ _ h (λ g. stmt_is i _ g (λ x. arms_sound f i (i + 1) x)) (λ x. body_sound f _ x)

    pub arms_sound : (f o i : ℕ) → (arms_end f T o i ≡ 0 → ⊥) → Arms T o i (arms_end f T o i)
    arms_sound zero o i h = absurd (h refl)
    arms_sound (suc f) o i h = arms_is o i _ _ h (λ g. arm_is i _ g (λ x. body_sound f (i + 1) x)) (λ x. arms_sound f o _ x)

  -- each ends after it begins, within the table
  mutual
    pub body_up : {i j : ℕ} → Body T i j → i < j
    body_up (one s) = stmt_up s
    body_up (more s b) = let p = stmt_up s in let q = body_up b in omega arith

    pub stmt_up : {i j : ℕ} → StatementSpan T i j → i < j
    stmt_up (simple c e) = omega arith
    stmt_up (group c a) = let p = arms_up a in omega arith

    pub arms_up : {o i j : ℕ} → Arms T o i j → i < j
    arms_up (last a d e r) = let p = arm_up a in omega arith
    arms_up (next a b) = let p = arm_up a in let q = arms_up b in omega arith

    pub arm_up : {i j : ℕ} → Arm T i j → i < j
    arm_up (arm c b l) = let p = body_up b in omega arith

  pub arm_class : {i j : ℕ} → Arm T i j → class T i ≡ 2
  arm_class (arm c b l) = c

  pub first_arm : {o i j : ℕ} → Arms T o i j → class T i ≡ 2
  first_arm (last a d e r) = arm_class a
  first_arm (next a b) = arm_class a

  pub stmt_in : {i j : ℕ} → StatementSpan T i j → i < stmt_count T
  stmt_in {i} (simple c e) = within i (omega arith)
  stmt_in {i} (group c a) = within i (omega arith)

  pub body_in : {i j : ℕ} → Body T i j → i < stmt_count T
  body_in (one s) = stmt_in s
  body_in (more s b) = stmt_in s

  pub first-stmt : {i j : ℕ} → Body T i j → class T i < 2
  first-stmt (one (simple c e)) = omega arith
  first-stmt (one (group c a)) = omega arith
  first-stmt (more (simple c e) b) = omega arith
  first-stmt (more (group c a) b) = omega arith

  pub arm_in : {i j : ℕ} → Arm T i j → i < stmt_count T
  arm_in {i} (arm c b l) = within i (omega arith)

  block_some : (b j : ℕ) → block_ok T b j ≡ true → block_end T b j ≡ 0 → ⊥
  unfolding block_ok
  block_some b j h e = omega (arith, ltb-true 0 (block_end T b j) h)

  -- a block whose numbers are right is one of the grammar
  pub block_sound : (b j : ℕ) → block_ok T b j ≡ true → Block T b j (block_end T b j)
  unfolding block_end after_block
  block_sound b j h =
      let g = took (eqb (first_stmt T b) j) _ (block_some b j h) in
      let k = skipped (body_end (stmt_count T + 1) T j) _ g.1 in
      let l = took (eqb (class T (body_end (stmt_count T + 1) T j)) 4) _ k.1 in
      let m = took (eqb (stmt_a T (body_end (stmt_count T + 1) T j)) b) _ l.1 in
      rw (g.0, k.0, l.0, m.0)
      (block (eqb-true _ _ g.0) (body_sound (stmt_count T + 1) j (eqb-false _ 0 k.0)) (eqb-true _ _ l.0) (eqb-true _ _ m.0) refl)

  pub blocks_sound : nested T ≡ true → (b : ℕ) → b ≤ block_count T → Blocks T b (free (block_end T) b)
  unfolding nested free
  blocks_sound h zero l = none
  blocks_sound h (suc b) l =
      further (blocks_sound h b (omega arith)) (block_sound b (free (block_end T) b) (passes (block_end T) (block_ok T) (block_count T) (stmt_count T) h b (omega arith)))
