-- THE RULE is kept where a process stands elsewhere, on a chain of calls. Assumes nothing.
use Prim.Native.Nat.{ℕ, ◌+◌, ◌≤◌, ◌<◌}
use mathlib.Core.Path.{◌≡◌, refl, sym, ◌∙◌}
use mathlib.Core.Bool.{true}
use native.Mathlib.Omega.{arith}
use lib.Dec.{eqb, ltb}
use borrow.Author.Tests.{eqb-true, eqb-false}
use Rattle.basics.specs.Cases.{cases}
use Rattle.basics.proofs.Bools.{no_true}
use Rattle.table.specs.Table.{Table}
use Rattle.table.specs.Entries.{block_count, stmt_count, first_stmt, stmt_kind, stmt_limit}
use Rattle.nesting.proofs.Promise.{begins, goes_on}
use Rattle.machine.specs.Memory.{Memory, update}
use Rattle.machine.specs.Layout.{location, record_at, statement_at, frame_at, top_at, works_at, holder_at, depth_at, created_at}
use Rattle.machine.specs.Entries.{stmt_at, statement_of}
use Rattle.machine.specs.Calls.{standing}
use Rattle.machine.specs.Rule.{calls, worked}
use Rattle.machine.proofs.Memories.{update_at, update_other}
use Rattle.verdict.specs.Accepted.{Accepted}
use Rattle.sound.specs.Claims.{PlaceLaws}
use Rattle.sound.specs.Answers.{Small}
use Rattle.sound.specs.Ruled.{CallChain, held, Process, Ruled, ProcessesStay}
use Rattle.sound.proofs.Memory.Writes.{location_low, location_up, record_high, records_apart, words_apart, update_small}
use Rattle.sound.proofs.Rule.Processes.{process_by, variables_same, chain_stays, alike_stays, process_alike, base_fits}
use Rattle.sound.proofs.Rule.WorkedProcesses.{worked_created}

-- each block has a first statement, and after a statement of a block that is not its end stands another
module _ (T : Table) (ok : Accepted T) (b : ℕ) (l : b < block_count T) where
  pub block_begins : first_stmt T b < stmt_limit T b
  unfolding stmt_limit
  block_begins = (begins T ok.nesting b l).below

  pub block_goes : (c : ℕ) → first_stmt T b ≤ c → c < stmt_limit T b → (stmt_kind T c ≡ 13 → ⊥) → c + 1 < stmt_limit T b
  unfolding stmt_limit
  block_goes c x y n = (goes_on T ok.nesting b l c (record { from = x; below = y }) n).below

-- a call is no block end
pub call_kind : (T : Table) (q c : ℕ) → calls q (stmt_at T c) ≡ true → stmt_kind T c ≡ 13 → ⊥
unfolding stmt_at statement_of calls
call_kind T q c e k =
    cases (ltb c (stmt_count T))
    (λ x. no_true (rw (x, k) at e))
    (λ x. no_true (rw x at e))

-- two words are written in either order
update_swap : (m : Memory) (i v j u : ℕ) → (i ≡ j → ⊥) → update (update m i v) j u ≡ update (update m j u) i v
update_swap m i v j u n = λ k a. at a k
  where
    at : (a : ℕ) → update (update m i v) j u a ≡ update (update m j u) i v a
    at a =
        cases (eqb a i)
        (λ e. let x : a ≡ i = eqb-true a i e in
        update_other _ j u a (λ z. n (sym x ∙ z)) ∙ update_at m i v a x ∙ sym (update_at _ i v a x))
        (λ e. let x = eqb-false a i e in
        cases (eqb a j)
        (λ g. let y : a ≡ j = eqb-true a j g in update_at _ j u a y ∙ sym (update_other _ i v a x ∙ update_at m j u a y))
        (λ g. let y = eqb-false a j g in
        update_other _ j u a y ∙ update_other m i v a x ∙ sym (update_other _ i v a x ∙ update_other m j u a y)))

module _ (s : Memory) (p c f top w d : ℕ) where
  standing_else : (j : ℕ) → (j ≡ statement_at p → ⊥) → (j ≡ frame_at p → ⊥) → (j ≡ top_at p → ⊥) → (j ≡ works_at p → ⊥) → (j ≡ depth_at p → ⊥) → standing s p c f top w d j ≡ s j
  unfolding standing
  standing_else j a b x y z =
      update_other _ (depth_at p) d j z ∙ update_other _ (works_at p) w j y ∙ update_other _ (top_at p) top j x ∙ update_other _ (frame_at p) f j b ∙ update_other s (statement_at p) c j a

  pub stand_word : (k : ℕ) → (k ≡ 2 → ⊥) → (k ≡ 3 → ⊥) → (k ≡ 4 → ⊥) → (k ≡ 5 → ⊥) → (k ≡ 7 → ⊥) → standing s p c f top w d (record_at p k) ≡ s (record_at p k)
  stand_word k a b x y z = standing_else (record_at p k) (words_apart p k 2 a) (words_apart p k 3 b) (words_apart p k 4 x) (words_apart p k 5 y) (words_apart p k 7 z)

  pub stand_depth : standing s p c f top w d (depth_at p) ≡ d
  unfolding standing
  stand_depth = update_at _ (depth_at p) d (depth_at p) refl

  pub stand_works : standing s p c f top w d (works_at p) ≡ w
  unfolding standing
  stand_works = update_other _ (depth_at p) d (works_at p) (words_apart p 5 7 (λ z. omega arith)) ∙ update_at _ (works_at p) w (works_at p) refl

  pub stand_top : standing s p c f top w d (top_at p) ≡ top
  unfolding standing
  stand_top =
      update_other _ (depth_at p) d (top_at p) (words_apart p 4 7 (λ z. omega arith))
      ∙ update_other _ (works_at p) w (top_at p) (words_apart p 4 5 (λ z. omega arith))
      ∙ update_at _ (top_at p) top (top_at p) refl

  pub stand_frame : standing s p c f top w d (frame_at p) ≡ f
  unfolding standing
  stand_frame =
      update_other _ (depth_at p) d (frame_at p) (words_apart p 3 7 (λ z. omega arith))
      ∙ update_other _ (works_at p) w (frame_at p) (words_apart p 3 5 (λ z. omega arith))
      ∙ update_other _ (top_at p) top (frame_at p) (words_apart p 3 4 (λ z. omega arith))
      ∙ update_at _ (frame_at p) f (frame_at p) refl

  pub stand_statement : standing s p c f top w d (statement_at p) ≡ c
  unfolding standing
  stand_statement =
      update_other _ (depth_at p) d (statement_at p) (words_apart p 2 7 (λ z. omega arith))
      ∙ update_other _ (works_at p) w (statement_at p) (words_apart p 2 5 (λ z. omega arith))
      ∙ update_other _ (top_at p) top (statement_at p) (words_apart p 2 4 (λ z. omega arith))
      ∙ update_other _ (frame_at p) f (statement_at p) (words_apart p 2 3 (λ z. omega arith))
      ∙ update_at _ (statement_at p) c (statement_at p) refl

  pub stand_small : Small s → c < 65536 → f < 65536 → top < 65536 → w < 65536 → d < 65536 → Small (standing s p c f top w d)
  unfolding standing
  stand_small m a b x y z = update_small _ (depth_at p) d (update_small _ (works_at p) w (update_small _ (top_at p) top (update_small _ (frame_at p) f (update_small s (statement_at p) c m a) b) x) y) z

  module _ (a : 1 ≤ p) where
    pub stand_other : (q k : ℕ) → 1 ≤ q → k < 20 → (q ≡ p → ⊥) → standing s p c f top w d (record_at q k) ≡ s (record_at q k)
    stand_other q k b l n =
        standing_else (record_at q k) (records_apart q p k 2 b a l (omega arith) n) (records_apart q p k 3 b a l (omega arith) n) (records_apart q p k 4 b a l (omega arith) n) (records_apart q p k 5 b a l (omega arith) n) (records_apart q p k 7 b a l (omega arith) n)

    pub stand_same : (q k : ℕ) → 1 ≤ q → k < 20 → (k ≡ 2 → ⊥) → (k ≡ 3 → ⊥) → (k ≡ 4 → ⊥) → (k ≡ 5 → ⊥) → (k ≡ 7 → ⊥) → standing s p c f top w d (record_at q k) ≡ s (record_at q k)
    stand_same q k b l h2 h3 h4 h5 h7 =
        cases (eqb q p)
        (λ e. rw (eqb-true q p e) (stand_word k h2 h3 h4 h5 h7))
        (λ e. stand_other q k b l (eqb-false q p e))

    pub stand_area : (q j : ℕ) → 1 ≤ q → q ≤ 64 → j < 256 → standing s p c f top w d (location q j) ≡ s (location q j)
    stand_area q j b l h =
        let y = location_up q j 256 h in
        let z = location_low q 256 b l (omega arith) in
        standing_else (location q j)
        (λ e. let x = record_high p 2 in omega arith) (λ e. let x = record_high p 3 in omega arith) (λ e. let x = record_high p 4 in omega arith)
        (λ e. let x = record_high p 5 in omega arith) (λ e. let x = record_high p 7 in omega arith)

    pub stand_carries : ProcessesStay s (standing s p c f top w d)
    stand_carries =
        let e = stand_same 1 8 (omega arith) (omega arith) (λ z. omega arith) (λ z. omega arith) (λ z. omega arith) (λ z. omega arith) (λ z. omega arith) in
        record {
          grows = omega arith;
          modules = λ q b l. stand_same q 1 b (omega arith) (λ z. omega arith) (λ z. omega arith) (λ z. omega arith) (λ z. omega arith) (λ z. omega arith);
          begun = λ q b l n e. n (sym (stand_same q 0 b (omega arith) (λ z. omega arith) (λ z. omega arith) (λ z. omega arith) (λ z. omega arith) (λ z. omega arith)) ∙ e);
        }

    pub stand_holder : (q : ℕ) → 1 ≤ q → standing s p c f top w d (holder_at q) ≡ s (holder_at q)
    stand_holder q b = stand_same q 6 b (omega arith) (λ z. omega arith) (λ z. omega arith) (λ z. omega arith) (λ z. omega arith) (λ z. omega arith)

    -- who holds the variables of r is set before or after
    pub stand_set : (r v : ℕ) → 1 ≤ r → standing (update s (holder_at r) v) p c f top w d ≡ update (standing s p c f top w d) (holder_at r) v
    unfolding standing
    stand_set r v b =
        let n : (k : ℕ) → k < 20 → (k ≡ 6 → ⊥) → holder_at r ≡ record_at p k → ⊥ = λ k l g. cases (eqb r p) (λ e. rw (eqb-true r p e) (words_apart p 6 k (λ z. g (sym z)))) (λ e. records_apart r p 6 k b a (omega arith) l (eqb-false r p e)) in
        rw (
          update_swap s (holder_at r) v (statement_at p) c (n 2 (omega arith) (λ z. omega arith)),
          update_swap _ (holder_at r) v (frame_at p) f (n 3 (omega arith) (λ z. omega arith)),
          update_swap _ (holder_at r) v (top_at p) top (n 4 (omega arith) (λ z. omega arith)),
          update_swap _ (holder_at r) v (works_at p) w (n 5 (omega arith) (λ z. omega arith)),
          update_swap _ (holder_at r) v (depth_at p) d (n 7 (omega arith) (λ z. omega arith)),
        )

    module _ (T : Table) (ok : Accepted T) (L : PlaceLaws T) (h : Ruled T s) (b : p ≤ s created_at) (k : CallChain T s p d f w c top)
        (o : (x : ℕ) → worked s p d f w x ≡ true → s (holder_at x) ≡ p) where
      stand_process : Process T (standing s p c f top w d) p
      stand_process =
          let x = h.process p a b in
          let u = h.most in
          let g = stand_carries.grows in
          let e0 = stand_word 0 (λ z. omega arith) (λ z. omega arith) (λ z. omega arith) (λ z. omega arith) (λ z. omega arith) in
          let e6 = stand_word 6 (λ z. omega arith) (λ z. omega arith) (λ z. omega arith) (λ z. omega arith) (λ z. omega arith) in
          let lo = x.low in
          let hi = x.high in
          let ho = x.holder in
          process_by T s (standing s p c f top w d) p x
          (stand_word 1 (λ z. omega arith) (λ z. omega arith) (λ z. omega arith) (λ z. omega arith) (λ z. omega arith))
          (omega arith) (omega arith) (λ z. let y = x.first_status z in omega arith) (omega arith)
          (variables_same T ok L s (standing s p c f top w d) stand_carries p a b x
          (λ j l. let y = base_fits T ok L s (standing s p c f top w d) stand_carries p a b x in stand_area p j a (omega arith) (omega arith)))
          (λ z. rw (stand_depth, stand_frame, stand_works, stand_statement, stand_top)
          (chain_stays T ok L s (standing s p c f top w d) stand_carries p a b x (λ j l m. stand_area p j a (omega arith) m) k))
          (λ z. rw (stand_depth, stand_frame, stand_works) (λ y e.
          let A = alike_stays T ok L s (standing s p c f top w d) stand_carries p a b x (λ j l m. stand_area p j a (omega arith) m) k in
          let t : worked s p d f w y ≡ true = rw (A.working y) at e in
          held (stand_holder y (worked_created T s p a b k y t).least ∙ o y t)))

      -- THE PROCESS STANDS on the chain k, and holds what it works on
      pub stand_kept : Ruled T (standing s p c f top w d)
      stand_kept =
          let e8 = stand_same 1 8 (omega arith) (omega arith) (λ z. omega arith) (λ z. omega arith) (λ z. omega arith) (λ z. omega arith) (λ z. omega arith) in
          let e9 = stand_same 1 9 (omega arith) (omega arith) (λ z. omega arith) (λ z. omega arith) (λ z. omega arith) (λ z. omega arith) (λ z. omega arith) in
          let e10 = stand_same 1 10 (omega arith) (omega arith) (λ z. omega arith) (λ z. omega arith) (λ z. omega arith) (λ z. omega arith) (λ z. omega arith) in
          let u = h.most in
          let o = h.some in
          record {
            some = omega arith;
            most = omega arith;
            failed = rw e9 h.failed;
            number = let x = h.number in omega arith;
            process = λ q x y.
                let y' : q ≤ s created_at = omega arith in
                cases (eqb q p)
                (λ e. rw (eqb-true q p e) stand_process)
                (λ e. process_alike T ok L s (standing s p c f top w d) stand_carries q x y' (h.process q x y')
                (λ i l. stand_other q i x (omega arith) (eqb-false q p e))
                (λ j l. stand_area q j x (omega arith) l)
                (λ y c. stand_holder y c.least));
          }
