-- What an accepted nesting promises to the layers above: the statements of a block. Assumes nothing.
use mathlib.Core.Path.{◌≡◌, refl, sym}
use mathlib.Core.Bool.{true}
use Prim.Native.Nat.{ℕ, zero, suc, ◌+◌, ◌-◌, ◌<◌, ◌≤◌}
use mathlib.Core.Logic.{◌⊎◌, inl, inr, ⊎_elim}
use native.Mathlib.Omega.{arith}
use native.Mathlib.Numerals.{add-one}
use lib.Dec.{ltb, leb, eqb}
use borrow.Author.Tests.{ltb-true, ltb-false, leb-true, leb-false, eqb-true, eqb-false, ne_eqb, eq-eqb}
use Rattle.basics.specs.Cases.{cases}
use Rattle.basics.specs.Chain.{free}
use Rattle.basics.proofs.Chains.{passes, ends, rises}
use Rattle.table.specs.Table.{Table}
use Rattle.table.specs.Entries.{block_count, first_stmt, stmt_count, stmt_kind, stmt_a, stmt_link, stmt_limit}
use Rattle.nesting.specs.Nest.{class, block_end, block_ok, nested, block_step}
use Rattle.nesting.specs.Grammar.{Block, block}
use Rattle.nesting.specs.Blocks.{stmt_block, StmtOf}
use Rattle.nesting.proofs.Grammar.{within, body_up, block_sound}
use Rattle.nesting.proofs.Fine.{Fine, body_fine}
use Rattle.nesting.proofs.Classes.{opener_low, opener_high, arm_kind, end_kind, block_end_kind, class_opener, class_arm, class_end, class_block_end}

-- block b's statements are those from lo to hi, of which hi is its end
record Held (T : Table) (b lo hi : ℕ) : Type 0 where
  first : first_stmt T b ≡ lo
  some : lo < hi
  «end» : class T hi ≡ 4
  own : stmt_a T hi ≡ b
  fine : (k : ℕ) → lo ≤ k → k < hi → Fine T lo hi k

module _ (T : Table) where
  held : {b i j : ℕ} → Block T b i j → Held T b i (j - 1)
  held {b} {i} {j} (block {e = e} f d c a g) =
      let q : j - 1 ≡ e = omega arith in
      rw q (record { first = f; some = body_up T d; «end» = c; own = a; fine = body_fine T i e d (omega arith) (omega arith) })

  module _ (h : nested T ≡ true) where
    -- where block b begins
    unfoldable start : ℕ → ℕ
    start b = free (block_end T) b

    span : (b : ℕ) → b < block_count T → Held T b (start b) (start (b + 1) - 1)
    unfolding start free nested
    span b l = rw (add-one b) (held (block_sound T b (start b) (passes (block_end T) (block_ok T) (block_count T) (stmt_count T) h b l)))

    up : (b j : ℕ) → block_ok T b j ≡ true → j ≤ block_end T b j
    up b j g = let x = (held (block_sound T b j g)).some in omega arith

    start_end : start (block_count T) ≡ stmt_count T
    unfolding start nested
    start_end = ends (block_end T) (block_ok T) (block_count T) (stmt_count T) h

    start_up : (b c : ℕ) → b ≤ c → c ≤ block_count T → start b ≤ start c
    unfolding start nested
    start_up b c l g = rises (block_end T) (block_ok T) (block_count T) (stmt_count T) h up b c l g

    -- a block begins where the one before it ends, and the last ends with the table
    limit_is : (b : ℕ) → b < block_count T → stmt_limit T b ≡ start (b + 1)
    unfolding stmt_limit
    limit_is b l =
        cases (ltb (b + 1) (block_count T)) (λ e. rw e (span (b + 1) (ltb-true (b + 1) (block_count T) e)).first)
        (λ e. let g = ltb-false (b + 1) (block_count T) e in let q : b + 1 ≡ block_count T = omega arith in rw (e, q) (sym start_end))

    pub limit_in : (b : ℕ) → b < block_count T → stmt_limit T b ≤ stmt_count T
    limit_in b l = let s = start_up (b + 1) (block_count T) (omega arith) (omega arith) in omega (arith, limit_is b l, start_end)

    -- each block has a first statement, and its last is its block end
    module _ (b : ℕ) (l : b < block_count T) where
      pub begins : StmtOf T b (first_stmt T b)
      begins = let x = span b l in record { from = omega arith; below = omega (arith, x.first, x.some, limit_is b l) }

      last_class : (i : ℕ) → i + 1 ≡ stmt_limit T b → class T i ≡ 4
      last_class i e =
          let q : start (b + 1) - 1 ≡ i = omega (arith, limit_is b l) in
          rw q at (span b l).«end»

      pub last_kind : (i : ℕ) → i + 1 ≡ stmt_limit T b → stmt_kind T i ≡ 13
      last_kind i e = block_end_kind T i (last_class i e)

      pub last_own : (i : ℕ) → i + 1 ≡ stmt_limit T b → stmt_a T i ≡ b
      last_own i e =
          let q : start (b + 1) - 1 ≡ i = omega (arith, limit_is b l) in
          rw q at (span b l).own

      -- statement i of block b
      module _ (i : ℕ) (p : StmtOf T b i) where
        pub in_table : i < stmt_count T
        in_table = let m = limit_in b l in omega (arith, p.below)

        fine : (i + 1 ≡ stmt_limit T b → ⊥) → Fine T (start b) (start (b + 1) - 1) i
        fine u =
            let x = span b l in
            let q = limit_is b l in
            let f = x.first in
            x.fine i (omega (arith, p.from)) (omega (arith, p.below))

        not_last : (class T i ≡ 4 → ⊥) → i + 1 ≡ stmt_limit T b → ⊥
        not_last u e = u (last_class i e)

        -- no other statement of the block is a block end
        pub only_last : stmt_kind T i ≡ 13 → i + 1 ≡ stmt_limit T b
        only_last e =
            let c = class_block_end T i in_table e in
            cases (eqb (i + 1) (stmt_limit T b)) (λ g. eqb-true (i + 1) (stmt_limit T b) g)
            (λ g. let x = (fine (eqb-false (i + 1) (stmt_limit T b) g)).known in absurd (omega arith))

        pub block_end_own : stmt_kind T i ≡ 13 → stmt_a T i ≡ b
        block_end_own e = last_own i (only_last e)

        -- after any other statement of the block stands one of the block
        pub goes_on : (stmt_kind T i ≡ 13 → ⊥) → StmtOf T b (i + 1)
        goes_on u =
            let n : i + 1 ≡ stmt_limit T b → ⊥ = λ e. u (last_kind i e) in
            record { from = omega (arith, p.from); below = omega (arith, p.below) }

        -- an opener is followed by an arm
        module _ (low : 6 ≤ stmt_kind T i) (high : stmt_kind T i ≤ 9) where
          pub opener_arm : stmt_kind T (i + 1) ≡ 10
          opener_arm =
              let c = class_opener T i in_table low high in
              arm_kind T (i + 1) ((fine (not_last (λ e. omega arith))).opener c)

        -- an arm's link is a later arm or end of the block
        module _ (e : stmt_kind T i ≡ 10) where
          arm_class : class T i ≡ 2
          arm_class = class_arm T i in_table e

          arm_fine : Fine T (start b) (start (b + 1) - 1) i
          arm_fine = let c = arm_class in fine (not_last (λ g. omega arith))

          pub arm_up : i < stmt_link T i
          arm_up = arm_fine.arm_up arm_class

          pub arm_in : StmtOf T b (stmt_link T i)
          arm_in =
              let g = arm_fine.arm_in arm_class in
              record { from = omega (arith, arm_up, p.from); below = omega (arith, limit_is b l) }

          link_is : (stmt_kind T (stmt_link T i) ≡ 10) ⊎ (stmt_kind T (stmt_link T i) ≡ 11)
          link_is =
              let x = arm_fine.arm_low arm_class in
              let y = arm_fine.arm_high arm_class in
              cases (eqb (class T (stmt_link T i)) 2) (λ g. inl (arm_kind T (stmt_link T i) (eqb-true (class T (stmt_link T i)) 2 g)))
              (λ g. let z = eqb-false (class T (stmt_link T i)) 2 g in inr (end_kind T (stmt_link T i) (omega arith)))

          pub arm_low : 10 ≤ stmt_kind T (stmt_link T i)
          arm_low = ⊎_elim (λ x. omega arith) (λ x. omega arith) link_is

          pub arm_high : stmt_kind T (stmt_link T i) ≤ 11
          arm_high = ⊎_elim (λ x. omega arith) (λ x. omega arith) link_is

        -- an end's link is an earlier opener of the block
        module _ (e : stmt_kind T i ≡ 11) where
          end_class : class T i ≡ 3
          end_class = class_end T i in_table e

          end_fine : Fine T (start b) (start (b + 1) - 1) i
          end_fine = let c = end_class in fine (not_last (λ g. omega arith))

          pub end_down : stmt_link T i < i
          end_down = end_fine.end_down end_class

          pub end_in : StmtOf T b (stmt_link T i)
          end_in =
              let g = end_fine.end_in end_class in
              record { from = omega (arith, (span b l).first); below = omega (arith, end_down, p.below) }

          pub end_low : 6 ≤ stmt_kind T (stmt_link T i)
          end_low = opener_low T (stmt_link T i) (end_fine.end_opener end_class)

          pub end_high : stmt_kind T (stmt_link T i) ≤ 9
          end_high = opener_high T (stmt_link T i) (end_fine.end_opener end_class)

    -- the block of a statement, by the block ends before it
    same : (k b : ℕ) → b < block_count T → start b ≤ k → suc k < start (b + 1) → free (block_step T) k ≡ b → free (block_step T) (suc k) ≡ b
    unfolding free block_step
    same k b l p q e =
        let f = ((span b l).fine k p (omega arith)).known in
        let m = within T k (omega arith) in
        rw (ne_eqb (stmt_kind T k) 13 (λ x. omega (arith, class_block_end T k m x))) e

    start_0 : start 0 ≡ 0
    unfolding start free
    start_0 = refl

    counted : (k b : ℕ) → b < block_count T → start b ≤ k → k < start (b + 1) → free (block_step T) k ≡ b
    unfolding free block_step
    counted zero zero l p q = refl
    counted zero (suc b) l p q =
        let x = (span b (omega arith)).some in
        let e : start (b + 1) ≤ 0 = rw (add-one b) p in
        absurd (omega arith)
    counted (suc k) zero l p q = let z = start_0 in same k zero l (omega arith) (omega arith) (counted k zero l (omega arith) (omega arith))
    counted (suc k) (suc b) l p q =
        cases (leb (start (suc b)) k)
        (λ e. same k (suc b) l (leb-true (start (suc b)) k e) (omega arith) (counted k (suc b) l (leb-true (start (suc b)) k e) (omega arith)))
        (λ e.
        let x = leb-false (start (suc b)) k e in
        let y : start (b + 1) ≡ suc k = rw (add-one b) (omega arith) in
        let z = span b (omega arith) in
        let w : start (b + 1) - 1 ≡ k = omega arith in
        let c : class T k ≡ 4 = rw w at z.«end» in
        rw (eq-eqb (stmt_kind T k) 13 (block_end_kind T k c), counted k b (omega arith) (omega (arith, z.some)) (omega arith), add-one b))

    pub block_of : (b i : ℕ) → b < block_count T → StmtOf T b i → stmt_block T i ≡ b
    unfolding stmt_block
    block_of b i l p =
        let x = (span b l).first in
        let y = limit_is b l in
        counted i b l (omega (arith, p.from)) (omega (arith, p.below))

    -- every statement is one of its block's
    found : (m i : ℕ) → m ≤ block_count T → i < start m → (stmt_block T i < block_count T) × StmtOf T (stmt_block T i) i
    found zero i g l = absurd (omega (arith, start_0))
    found (suc b) i g l =
        cases (ltb i (start b)) (λ e. found b i (omega arith) (ltb-true i (start b) e))
        (λ e.
        let o = ltb-false i (start b) e in
        let q : start (suc b) ≡ start (b + 1) = rw (add-one b) in
        let x = (span b (omega arith)).first in
        let y = limit_is b (omega arith) in
        let p : StmtOf T b i = record { from = omega arith; below = omega arith } in
        rw (block_of b i (omega arith) p) (omega arith, p))

    pub block_known : (i : ℕ) → i < stmt_count T → stmt_block T i < block_count T
    block_known i l = (found (block_count T) i (omega arith) (omega (arith, start_end))).0

    pub block_in : (i : ℕ) → i < stmt_count T → StmtOf T (stmt_block T i) i
    block_in i l = (found (block_count T) i (omega arith) (omega (arith, start_end))).1
