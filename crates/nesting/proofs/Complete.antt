-- Where the grammar has a body, the numbers say so; and the rule is the grammar. Assumes nothing.
use mathlib.Core.Path.{◌≡◌, refl, sym, ◌∙◌}
use mathlib.Core.Bool.{true}
use Prim.Native.Nat.{ℕ, zero, suc, ◌+◌, ◌-◌, ◌<◌, ◌≤◌}
use native.Mathlib.Omega.{arith}
use native.Mathlib.Numerals.{add-one}
use borrow.Author.Tests.{lt-ltb, le-leb, lt-leb, eq-eqb, ne_eqb}
use Rattle.basics.specs.Loops.{Chain}
use Rattle.basics.proofs.Chains.{ends, chain_none, chain_more, chain_all}
use Rattle.table.specs.Table.{Table}
use Rattle.table.specs.Entries.{block_count, first_stmt, stmt_count, stmt_a, stmt_link}
use Rattle.nesting.specs.Nest.{class, stmt_end, body_from, arm_end, arms_from, closed, body_end, arms_end, after_block, block_end, block_ok, nested}
use Rattle.nesting.specs.Grammar.{Body, one, more, StatementSpan, simple, group, Arm, arm, Arms, last, next, Block, block, Blocks, none, further}
use Rattle.nesting.proofs.Grammar.{within, body_up, stmt_up, arm_up, stmt_in, arm_in, first_arm, first-stmt, blocks_sound}

module _ (T : Table) where
  mutual
    unfolding body_end body_from stmt_end arm_end arms_from closed

    pub body_complete : {i j : ℕ} → Body T i j → (f : ℕ) → stmt_count T - i < f → 2 ≤ class T j → body_end f T i ≡ j
    body_complete (one s) zero h c = absurd (omega arith)
    body_complete {i} {j} (one s) (suc f) h c =
        let u = stmt_up T s in
        rw (stmt_complete s f (omega arith), ne_eqb j 0 (λ x. omega arith), le-leb 2 (class T j) c)
    body_complete (more s b) zero h c = absurd (omega arith)
    body_complete {i} (more {j = j} s b) (suc f) h c =
        let u = stmt_up T s in
        let v = stmt_in T s in
        rw (stmt_complete s f (omega arith), ne_eqb j 0 (λ x. omega arith), lt-leb 2 (class T j) (first-stmt T b)) (body_complete b f (omega arith) c)

    stmt_complete : {i j : ℕ} → StatementSpan T i j → (f : ℕ) → stmt_count T - i ≤ f → stmt_end T i (arms_end f T i (i + 1)) ≡ j
    stmt_complete {i} (simple c e) f h = rw (c, e)
    stmt_complete {i} (group c a) f h = let v = within T i (omega arith) in rw c (arms_complete a f (omega arith))

    arm_complete : {i j : ℕ} → Arm T i j → (f : ℕ) → stmt_count T - i ≤ f → 2 ≤ class T j → arm_end T i (body_end f T (i + 1)) ≡ j
    arm_complete {i} {j} (arm c b l) f h d = let v = within T i (omega arith) in rw (c, body_complete b f (omega arith) d, eq-eqb (stmt_link T i) j l)

    arms_complete : {o i j : ℕ} → Arms T o i j → (f : ℕ) → stmt_count T - i < f → arms_end f T o i ≡ j
    arms_complete (last a d e r) zero h = absurd (omega arith)
    arms_complete {o} (last {j = j} a d e r) (suc f) h =
        let u = arm_up T a in
        rw (arm_complete a f (omega arith) (omega arith), ne_eqb j 0 (λ x. omega arith), d, eq-eqb (stmt_link T j) o e, r)
    arms_complete (next a b) zero h = absurd (omega arith)
    arms_complete {o} (next {j = j} a b) (suc f) h =
        let u = arm_up T a in
        let v = arm_in T a in
        let w = first_arm T b in
        rw (arm_complete a f (omega arith) (omega arith), ne_eqb j 0 (λ x. omega arith), ne_eqb (class T j) 3 (λ x. omega arith)) (arms_complete b f (omega arith))

  -- a block of the grammar passes, and ends where the numbers say
  pub block_complete : (b : ℕ) {i j : ℕ} → Block T b i j → block_end T b i ≡ j
  unfolding block_end after_block
  block_complete b {i} {j} (block {e = e} f d c a g) =
      let u = body_up T d in
      rw (eq-eqb (first_stmt T b) i f, body_complete d (stmt_count T + 1) (omega arith) (omega arith), ne_eqb e 0 (λ x. omega arith), c, eq-eqb (stmt_a T e) b a, g)

  blocks_complete : {b i : ℕ} → Blocks T b i → Chain (block_end T) (block_ok T) b i
  unfolding block_ok
  blocks_complete none = chain_none (block_end T) (block_ok T)
  blocks_complete (further {b = b} {i = i} {j = j} p q) =
      let e = block_complete b q in
      let u : 0 < j = last_up b q in
      let c = chain_more (block_end T) (block_ok T) b i (blocks_complete p) j (rw e (lt-ltb 0 j u)) (sym e) in
      rw (add-one b) at c
    where
      last_up : (b : ℕ) {i j : ℕ} → Block T b i j → 0 < j
      last_up b (block f d c a g) = omega arith

  -- THE RULE IS THE GRAMMAR
  pub sound : nested T ≡ true → Blocks T (block_count T) (stmt_count T)
  unfolding nested
  sound h = rw (ends (block_end T) (block_ok T) (block_count T) (stmt_count T) h) at (blocks_sound T h (block_count T) (omega arith))

  pub complete : Blocks T (block_count T) (stmt_count T) → nested T ≡ true
  unfolding nested
  complete p =
      sym (chain_all (block_end T) (block_ok T) (block_count T) (stmt_count T) (blocks_complete p) (block_count T) (stmt_count T) (omega arith) (omega arith))
      ∙ eq-eqb (stmt_count T) (stmt_count T) refl
