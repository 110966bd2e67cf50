-- Where no procedure of its module calls itself, a process's own calls are of different procedures: with one more they take at most the
-- words of each procedure once. Assumes nothing.
use Prim.Native.Nat.{ℕ, zero, suc, ◌+◌, ◌≤◌, ◌<◌}
use mathlib.Core.Path.{◌≡◌, refl}
use mathlib.Core.Bool.{true}
use native.Mathlib.Omega.{arith}
use lib.Dec.{eqb}
use borrow.Author.Tests.{eqb-true, eqb-false, eq-eqb, ne_eqb}
use Rattle.basics.specs.Choice.{pick}
use Rattle.basics.specs.Cases.{cases}
use Rattle.basics.proofs.Bools.{no_true, both_l, both_i}
use Rattle.table.specs.Table.{Table}
use Rattle.table.specs.Entries.{block_count, owner}
use Rattle.sizes.specs.Sizes.{sum_below}
use Rattle.sizes.proofs.Sums.{sum_least, sum_joined, sum_at}
use Rattle.machine.specs.Memory.{Memory}
use Rattle.machine.specs.Layout.{module_at, caller_frame, call_statement, caller_works, called_block}
use Rattle.machine.specs.Entries.{Statement, skip, assign, local_call, process_call, create, start, opener, arm, end_arms, write, block_end, no_statement, stmt_at}
use Rattle.machine.specs.Space.{call_words, is_procedure_of, each_once, own_words}
use Rattle.machine.specs.Rule.{worked, works_by, calls}
use Rattle.sound.specs.Ruled.{CallChain, bottom, called}
use Rattle.sound.specs.Space.{HasCall, LeadsToCall, at_once, by, NoRecursion}
use Rattle.sound.proofs.Rule.RuleRecord.{procedure_there, procedure_i, lies_i}
use Rattle.sound.proofs.Rule.WorkedProcesses.{worked_own}
use Rattle.sound.proofs.Rule.Workers.{own_caller}
use Rattle.sound.proofs.Space.OwnFrames.{own_more}

module _ (T : Table) where
  procedure_of_there : (μ q : ℕ) → is_procedure_of T μ q ≡ true → q < block_count T
  unfolding is_procedure_of
  procedure_of_there μ q e = procedure_there T q (both_l _ _ e)

  -- the words of a call of block q, if it is a procedure of module μ
  words_in : ℕ → ℕ → ℕ
  words_in μ q = pick (is_procedure_of T μ q) (call_words T q) 0

  -- a module has room for each of its procedures
  pub room_for : (μ q : ℕ) → is_procedure_of T μ q ≡ true → call_words T q ≤ each_once T μ (block_count T)
  unfolding each_once words_in
  room_for μ q e = rw e at (sum_at (words_in μ) (block_count T) q (procedure_of_there μ q e))

  -- statement s is a local call of procedure q
  record CallsLocally (q : ℕ) (s : Statement) : Type 0 where
    first : ℕ
    count : ℕ
    is : s ≡ local_call q first count

  -- a call that works on what its process works on outside it was made by a local call
  by_local : (m : Memory) (p d f w q : ℕ) (s : Statement) → calls q s ≡ true → works_by T m p d f w s ≡ true
      → worked m p d (caller_frame m p f) (caller_works m p f) w ≡ true → CallsLocally q s
  unfolding calls works_by
  by_local m p d f w q skip c e h = no_true e
  by_local m p d f w q (assign a b) c e h = no_true e
  by_local m p d f w q (local_call b i k) c e h = record { first = i; count = k; is = rw (eqb-true b q c) }
  by_local m p d f w q (process_call a b i k) c e h = no_true (rw h at e)
  by_local m p d f w q (create a) c e h = no_true e
  by_local m p d f w q (start a i k) c e h = no_true e
  by_local m p d f w q (opener k) c e h = no_true e
  by_local m p d f w q (arm i l) c e h = no_true e
  by_local m p d f w q (end_arms l) c e h = no_true e
  by_local m p d f w q (write a b) c e h = no_true e
  by_local m p d f w q block_end c e h = no_true e
  by_local m p d f w q no_statement c e h = no_true e

  -- what g counts, and block q too
  counted : (ℕ → ℕ) → ℕ → ℕ → ℕ
  counted g q i = pick (eqb i q) (call_words T q) (g i)

  module _ (μ : ℕ) (none : NoRecursion T μ) (g : ℕ → ℕ) (q : ℕ) (P : is_procedure_of T μ q ≡ true) where
    counted_in : ((i : ℕ) → g i ≤ words_in μ i) → (i : ℕ) → counted g q i ≤ words_in μ i
    unfolding counted words_in
    counted_in h i =
        cases (eqb i q)
        (λ e. let z = eqb-true i q e in rw (e, z, P) (omega arith))
        (λ e. rw e (h i))

    -- q is new: it does not lead to itself
    counted_more : ((i : ℕ) → (g i ≡ 0 → ⊥) → LeadsToCall T q i)
        → sum_below (block_count T) (counted g q) ≡ sum_below (block_count T) g + call_words T q
    unfolding counted
    counted_more h =
        let z : g q ≡ 0 = cases (eqb (g q) 0) (λ e. eqb-true (g q) 0 e) (λ e. absurd (none q P (h q (eqb-false (g q) 0 e)))) in
        sum_joined g (counted g q) (block_count T) q (call_words T q) (procedure_of_there μ q P)
        (λ i n. rw (ne_eqb i q n))
        (rw (eq-eqb q q refl, z) (omega arith))

    -- a block that calls q leads to what q leads to
    counted_leads : (b : ℕ) → HasCall T b q → ((i : ℕ) → (g i ≡ 0 → ⊥) → LeadsToCall T q i)
        → (i : ℕ) → (counted g q i ≡ 0 → ⊥) → LeadsToCall T b i
    unfolding counted
    counted_leads b c h i n =
        cases (eqb i q)
        (λ e. rw (eqb-true i q e) (at_once c))
        (λ e. by c (h i (λ z. n (rw (e, z)))))

module _ (T : Table) (m : Memory) (p : ℕ) (none : NoRecursion T (m (module_at p))) where
  -- the d calls of the process stand at a local call of q, and g counts procedures that q leads to
  once : (d f w c top : ℕ) → w ≡ p → CallChain T m p d f w c top → (g : ℕ → ℕ) → ((i : ℕ) → g i ≤ words_in T (m (module_at p)) i)
      → (q first count : ℕ) → stmt_at T c ≡ local_call q first count → is_procedure_of T (m (module_at p)) q ≡ true
      → ((i : ℕ) → (g i ≡ 0 → ⊥) → LeadsToCall T q i)
      → sum_below (block_count T) g + call_words T q + own_words T m p d f ≤ sum_below (block_count T) (words_in T (m (module_at p)))
  unfolding own_words is_procedure_of
  once zero f w c top i (bottom k) g low q first count s P h =
      let x = counted_more T (m (module_at p)) none g q P h in
      let y = sum_least (counted T g q) (words_in T (m (module_at p))) (block_count T) (λ j l. counted_in T (m (module_at p)) none g q P low j) in
      omega arith
  once (suc d) f w c top i (called k r) g low q first count s P h =
      let μ = m (module_at p) in
      let b = called_block m p f in
      let o = own_caller T m p d f w c top i (called k r) in
      let made = by_local T m p d f w b (stmt_at T (call_statement m p f)) k.calling k.by (rw i (worked_own T m p r)) in
      let calls_it : HasCall T b q = record { statement = c; first = first; count = count; lies = lies_i T b c k.from k.to; is = s } in
      let x = counted_more T μ none g q P h in
      let y = once d (caller_frame m p f) (caller_works m p f) (call_statement m p f) f o r
      (counted T g q) (counted_in T μ none g q P low) b made.first made.count made.is
      (both_i _ _ (procedure_i T b k.there k.procedure) (eq-eqb (owner T b) μ (rw i at k.owned)))
      (counted_leads T μ none g q P b calls_it h) in
      let z = own_more T m p d f o in
      omega arith

  pub own_once : (d f w c top : ℕ) → w ≡ p → CallChain T m p d f w c top → (q first count : ℕ) → stmt_at T c ≡ local_call q first count
      → is_procedure_of T (m (module_at p)) q ≡ true → own_words T m p d f + call_words T q ≤ each_once T (m (module_at p)) (block_count T)
  unfolding each_once words_in
  own_once d f w c top i r q first count s P =
      let x = once d f w c top i r (λ j. 0) (λ j. omega arith) q first count s P (λ j n. absurd (n refl)) in
      omega arith
