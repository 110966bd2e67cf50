-- THE RULE is kept where one word of a control record is written: a process goes on or ends, or the run fails. Assumes nothing.
use Prim.Native.Nat.{ℕ, ◌≤◌, ◌<◌}
use mathlib.Core.Path.{◌≡◌, refl, sym, ap, ◌∙◌}
use mathlib.Core.Bool.{true, false}
use native.Mathlib.Omega.{arith}
use lib.Dec.{eqb}
use borrow.Author.Tests.{eqb-true, eqb-false, ne_eqb}
use Rattle.basics.specs.Cases.{cases}
use Rattle.table.specs.Table.{Table}
use Rattle.table.specs.Entries.{first_stmt, stmt_limit}
use Rattle.machine.specs.Memory.{Memory, update}
use Rattle.machine.specs.Layout.{location, record_at, status_at, module_at, statement_at, frame_at, top_at, works_at, holder_at, depth_at, created_at, failure_at, called_block}
use Rattle.machine.specs.Context.{block_of}
use Rattle.machine.specs.Entries.{stmt_at}
use Rattle.machine.specs.Rule.{lies_in, may_wait, worked, rule}
use Rattle.machine.specs.Outcomes.{is_failure}
use Rattle.machine.proofs.Memories.{update_at, update_other}
use Rattle.verdict.specs.Accepted.{Accepted}
use Rattle.sound.specs.Claims.{PlaceLaws, Started}
use Rattle.sound.specs.InUse.{Created}
use Rattle.sound.specs.Ruled.{CallChain, bottom, called, Held, held, Worked, Process, Ruled, ProcessesStay}
use Rattle.sound.proofs.Rule.RuleRecord.{ruled, rules, lies_from, lies_to, block_bottom}
use Rattle.sound.proofs.Memory.Writes.{location_low, location_up, record_high, records_apart, words_apart}
use Rattle.sound.proofs.Rule.Chains.{same_carries, created_low, created_high}
use Rattle.sound.proofs.Rule.Processes.{process_by, variables_same, chain_stays, alike_stays, process_same, base_fits}
use Rattle.sound.proofs.Rule.WorkedProcesses.{worked_created, held_same, held_fast}

-- word i of the record of r becomes v, and is neither its module nor the number of created processes
module _ (m : Memory) (r i v : ℕ) (a : 1 ≤ r) (l : i < 20) (no_module : i ≡ 1 → ⊥) (no-created : i ≡ 8 → ⊥) where
  pub set_other : (q k : ℕ) → 1 ≤ q → k < 20 → (q ≡ r → ⊥) → update m (record_at r i) v (record_at q k) ≡ m (record_at q k)
  set_other q k b h d = update_other m (record_at r i) v (record_at q k) (records_apart q r k i b a h l d)

  pub set_word : (k : ℕ) → (k ≡ i → ⊥) → update m (record_at r i) v (record_at r k) ≡ m (record_at r k)
  set_word k d = update_other m (record_at r i) v (record_at r k) (words_apart r k i d)

  pub set_unlike : (q k : ℕ) → 1 ≤ q → k < 20 → (k ≡ i → ⊥) → update m (record_at r i) v (record_at q k) ≡ m (record_at q k)
  set_unlike q k b h d = cases (eqb q r) (λ e. rw (eqb-true q r e) (set_word k d)) (λ e. set_other q k b h (eqb-false q r e))

  pub set_area : (q j : ℕ) → 1 ≤ q → q ≤ 64 → j < 256 → update m (record_at r i) v (location q j) ≡ m (location q j)
  set_area q j b c h =
      let x = record_high r i in
      let y = location_up q j 256 h in
      let z = location_low q 256 b c (omega arith) in
      update_other m (record_at r i) v (location q j) (λ e. omega arith)

  pub set_carries : (i ≡ 0 → v ≡ 1 → ⊥) → ProcessesStay m (update m (record_at r i) v)
  set_carries begins =
      let e = set_unlike 1 8 (omega arith) (omega arith) (λ x. no-created (sym x)) in
      record {
        grows = omega arith;
        modules = λ p b c. set_unlike p 1 b (omega arith) (λ x. no_module (sym x));
        begun = λ p b c g z.
            cases (eqb i 0)
            (λ y. let i0 = eqb-true i 0 y in
            cases (eqb p r)
            (λ q. let pr = eqb-true p r q in begins i0 (sym (update_at m (record_at r i) v (record_at p 0) (rw (pr, i0))) ∙ z))
            (λ q. g (sym (set_other p 0 b (omega arith) (eqb-false p r q)) ∙ z)))
            (λ y. g (sym (set_unlike p 0 b (omega arith) (λ x. eqb-false i 0 y (sym x))) ∙ z));
      }

  module _ (T : Table) (ok : Accepted T) (L : PlaceLaws T) (h : Ruled T m) (b : r ≤ m created_at) (begins : i ≡ 0 → v ≡ 1 → ⊥) where
    -- another process holds what it held
    abbrev Keeping : ℕ → Type 0
    Keeping p = m (status_at p) ≡ 2 → (x : ℕ) → Created m x → Worked T m p x → Held T m p x → Held T (update m (record_at r i) v) p x

    pub set_keeps : (i ≡ 6 → ⊥) → (p : ℕ) → 1 ≤ p → p ≤ m created_at → (p ≡ r → ⊥) → Keeping p
    set_keeps d p l g q s x c w =
        held_same T m (update m (record_at r i) v) p x (set_unlike x 6 c.least (omega arith) (λ z. d (sym z))) (set_other p 5 l (omega arith) q) (set_other p 2 l (omega arith) q)

    -- no other process changes
    set_process : (p : ℕ) → 1 ≤ p → p ≤ m created_at → (p ≡ r → ⊥) → Keeping p → Process T (update m (record_at r i) v) p
    set_process p x y d o =
        let z = h.most in
        process_same T ok L m (update m (record_at r i) v) (set_carries begins) p x y (h.process p x y)
        (λ k g. set_other p k x (omega arith) d) (λ j g. set_area p j x (omega arith) g) o

    pub set_ruled : Process T (update m (record_at r i) v) r → ((p : ℕ) → 1 ≤ p → p ≤ m created_at → (p ≡ r → ⊥) → Keeping p) → ((update m (record_at r i) v failure_at ≡ 0 → ⊥) → is_failure (update m (record_at r i) v failure_at) ≡ true) → (i ≡ 10 → ⊥) → Ruled T (update m (record_at r i) v)
    set_ruled n o f d =
        let e = set_unlike 1 8 (omega arith) (omega arith) (λ x. no-created (sym x)) in
        let e10 = set_unlike 1 10 (omega arith) (omega arith) (λ x. d (sym x)) in
        record {
          some = let x = h.some in omega arith;
          most = let x = h.most in omega arith;
          failed = f;
          number = let x = h.number in omega arith;
          process = λ p x y.
              let y' : p ≤ m created_at = omega arith in
              cases (eqb p r)
              (λ q. rw (eqb-true p r q) n)
              (λ q. set_process p x y' (eqb-false p r q) (o p x y' (eqb-false p r q)));
        }

    -- nor do its own variables; its chain is one of m
    pub set_own : (1 ≤ update m (record_at r i) v (status_at r)) → (update m (record_at r i) v (status_at r) ≤ 3) → (r ≡ 1 → 2 ≤ update m (record_at r i) v (status_at r))
        → update m (record_at r i) v (holder_at r) ≤ m created_at
        → (update m (record_at r i) v (status_at r) ≡ 2 → CallChain T m r (update m (record_at r i) v (depth_at r)) (update m (record_at r i) v (frame_at r)) (update m (record_at r i) v (works_at r)) (update m (record_at r i) v (statement_at r)) (update m (record_at r i) v (top_at r)))
        → (update m (record_at r i) v (status_at r) ≡ 2 → (x : ℕ) → worked m r (update m (record_at r i) v (depth_at r)) (update m (record_at r i) v (frame_at r)) (update m (record_at r i) v (works_at r)) x ≡ true → Held T (update m (record_at r i) v) r x)
        → Process T (update m (record_at r i) v) r
    set_own x y z w k o =
        let u = h.most in
        let g = (set_carries begins).grows in
        process_by T m (update m (record_at r i) v) r (h.process r a b)
        (set_word 1 (λ e. no_module (sym e))) x y z (omega arith)
        (variables_same T ok L m (update m (record_at r i) v) (set_carries begins) r a b (h.process r a b)
        (λ j g. let f = base_fits T ok L m m (same_carries m) r a b (h.process r a b) in set_area r j a (omega arith) (omega arith)))
        (λ e. chain_stays T ok L m (update m (record_at r i) v) (set_carries begins) r a b (h.process r a b) (λ j c d. set_area r j a (omega arith) d) (k e))
        (λ e t n.
        let A = alike_stays T ok L m (update m (record_at r i) v) (set_carries begins) r a b (h.process r a b) (λ j c d. set_area r j a (omega arith) d) (k e) in
        o e t (rw (A.working t) at n))

    pub set_failed : (i ≡ 9 → ⊥) → (update m (record_at r i) v failure_at ≡ 0 → ⊥) → is_failure (update m (record_at r i) v failure_at) ≡ true
    set_failed d = rw (set_unlike 1 9 (omega arith) (omega arith) (λ x. d (sym x))) h.failed

-- a chain at another statement of its block
pub chain_at : (T : Table) (m : Memory) (p : ℕ) {d f w c top : ℕ} (b c' : ℕ) → (d ≡ 0 → b ≡ m (module_at p)) → ((d ≡ 0 → ⊥) → b ≡ called_block m p f) → first_stmt T b ≤ c' → c' < stmt_limit T b → CallChain T m p d f w c top → CallChain T m p d f w c' top
chain_at T m p b c' x y l h (bottom k) =
    let e = x refl in
    bottom (record { no_frame = k.no_frame; own = k.own; ends = k.ends; from = rw e at l; to = rw e at h })
chain_at T m p b c' x y l h (called k r) =
    let e = y (λ z. omega arith) in
    called (record {
      room = k.room;
      some_works = k.some_works;
      works = k.works;
      begun = k.begun;
      there = k.there;
      procedure = k.procedure;
      owned = k.owned;
      ends = k.ends;
      fits = k.fits;
      from = rw e at l;
      to = rw e at h;
      values = k.values;
      bound = k.bound;
      calling = k.calling;
      by = k.by;
    }) r

block_inner : (m : Memory) (p : ℕ) → (m (depth_at p) ≡ 0 → ⊥) → block_of m p ≡ called_block m p (m (frame_at p))
unfolding block_of
block_inner m p n = rw (ne_eqb (m (depth_at p)) 0 n)

-- process p holds what it works on
abbrev pub Holds : Table → Memory → ℕ → Type 0
Holds T m p = (x : ℕ) → Worked T m p x → m (holder_at x) ≡ p

module _ (T : Table) (ok : Accepted T) (L : PlaceLaws T) (m : Memory) (h : Ruled T m) where
  -- a started process that holds what it works on goes to another statement of its block
  pub goto_kept : (p c : ℕ) → 1 ≤ p → p ≤ m created_at → m (status_at p) ≡ 2 → Holds T m p → lies_in T (block_of m p) c ≡ true → Ruled T (update m (statement_at p) c)
  goto_kept p c a b s o e =
      let x = h.process p a b in
      let w = set_word m p 2 c a (omega arith) (λ z. omega arith) (λ z. omega arith) in
      let e0 = w 0 (λ z. omega arith) in
      let e6 = w 6 (λ z. omega arith) in
      let hi = x.holder in
      set_ruled m p 2 c a (omega arith) (λ z. omega arith) (λ z. omega arith) T ok L h b (λ z. absurd (omega arith))
      (set_own m p 2 c a (omega arith) (λ z. omega arith) (λ z. omega arith) T ok L h b (λ z. absurd (omega arith)) (omega arith) (omega arith) (λ z. omega arith) (omega arith)
      (λ z. rw (w 7 (λ z. omega arith), w 3 (λ z. omega arith), w 5 (λ z. omega arith), update_at m (statement_at p) c (statement_at p) refl, w 4 (λ z. omega arith))
      (chain_at T m p (block_of m p) c (block_bottom m p) (block_inner m p) (lies_from T (block_of m p) c e) (lies_to T (block_of m p) c e) (x.chain s)))
      (λ z y u.
      let t : Worked T m p y = rw (w 7 (λ z. omega arith), w 3 (λ z. omega arith), w 5 (λ z. omega arith)) at u in
      held (set_unlike m p 2 c a (omega arith) (λ z. omega arith) (λ z. omega arith) y 6 (worked_created T m p a b (x.chain s) y t).least (omega arith) (λ z. omega arith) ∙ o y t)))
      (set_keeps m p 2 c a (omega arith) (λ z. omega arith) (λ z. omega arith) T ok L h b (λ z. absurd (omega arith)) (λ z. omega arith))
      (set_failed m p 2 c a (omega arith) (λ z. omega arith) (λ z. omega arith) T ok L h b (λ z. absurd (omega arith)) (λ z. omega arith))
      (λ z. omega arith)

  -- a process has ended
  pub status_kept : (p : ℕ) → 1 ≤ p → p ≤ m created_at → Ruled T (update m (status_at p) 3)
  status_kept p a b =
      let x = h.process p a b in
      let w = set_word m p 0 3 a (omega arith) (λ z. omega arith) (λ z. omega arith) in
      let e0 = update_at m (status_at p) 3 (status_at p) refl in
      let e6 = w 6 (λ z. omega arith) in
      let lo = x.holder in
      set_ruled m p 0 3 a (omega arith) (λ z. omega arith) (λ z. omega arith) T ok L h b (λ y z. omega arith)
      (set_own m p 0 3 a (omega arith) (λ z. omega arith) (λ z. omega arith) T ok L h b (λ y z. omega arith) (omega arith) (omega arith) (λ z. omega arith) (omega arith)
      (λ z. absurd (omega arith)) (λ z. absurd (omega arith)))
      (set_keeps m p 0 3 a (omega arith) (λ z. omega arith) (λ z. omega arith) T ok L h b (λ y z. omega arith) (λ z. omega arith))
      (set_failed m p 0 3 a (omega arith) (λ z. omega arith) (λ z. omega arith) T ok L h b (λ y z. omega arith) (λ z. omega arith))
      (λ z. omega arith)

  -- the run has failed
  pub fail_kept : (n : ℕ) → is_failure n ≡ true → Ruled T (update m failure_at n)
  fail_kept n g =
      let one : 1 ≤ 1 = omega arith in
      let b = h.some in
      let x = h.process 1 one b in
      let w = set_word m 1 9 n one (omega arith) (λ z. omega arith) (λ z. omega arith) in
      let e0 = w 0 (λ z. omega arith) in
      let e6 = w 6 (λ z. omega arith) in
      let e9 = update_at m failure_at n failure_at refl in
      let lo = x.low in
      let hi = x.high in
      let ho = x.holder in
      set_ruled m 1 9 n one (omega arith) (λ z. omega arith) (λ z. omega arith) T ok L h b (λ z. absurd (omega arith))
      (set_own m 1 9 n one (omega arith) (λ z. omega arith) (λ z. omega arith) T ok L h b (λ z. absurd (omega arith)) (omega arith) (omega arith) (λ z. let y = x.first_status z in omega arith) (omega arith)
      (λ z. rw (w 7 (λ z. omega arith), w 3 (λ z. omega arith), w 5 (λ z. omega arith), w 2 (λ z. omega arith), w 4 (λ z. omega arith)) (x.chain (sym e0 ∙ z)))
      (λ z y u.
      let s : m (status_at 1) ≡ 2 = sym e0 ∙ z in
      let t : Worked T m 1 y = rw (w 7 (λ z. omega arith), w 3 (λ z. omega arith), w 5 (λ z. omega arith)) at u in
      held_same T m (update m failure_at n) 1 y
      (set_unlike m 1 9 n one (omega arith) (λ z. omega arith) (λ z. omega arith) y 6 (worked_created T m 1 one b (x.chain s) y t).least (omega arith) (λ z. omega arith))
      (w 5 (λ z. omega arith)) (w 2 (λ z. omega arith)) (x.holding s y t)))
      (set_keeps m 1 9 n one (omega arith) (λ z. omega arith) (λ z. omega arith) T ok L h b (λ z. absurd (omega arith)) (λ z. omega arith))
      (λ z. ap is_failure e9 ∙ g) (λ z. omega arith)

  -- where p stands at no when or cycle, it holds what it works on
  pub passing_holds : (p : ℕ) → 1 ≤ p → p ≤ m created_at → m (status_at p) ≡ 2 → may_wait (stmt_at T (m (statement_at p))) ≡ false → Holds T m p
  passing_holds p a b s e x w = held_fast T m p x e ((h.process p a b).holding s x w)

-- the same of the rule itself
module _ (T : Table) (ok : Accepted T) (L : PlaceLaws T) (m : Memory) where
  pub goto_rule : (p c : ℕ) → Started T m p → may_wait (stmt_at T (m (statement_at p))) ≡ false → lies_in T (block_of m p) c ≡ true → rule T (update m (statement_at p) c) ≡ true
  goto_rule p c s n e =
      let h = ruled T m s.ruled in
      let a = created_low m p s.created in
      let b = created_high m p s.created in
      rules T (update m (statement_at p) c) (goto_kept T ok L m h p c a b s.started (passing_holds T ok L m h p a b s.started n) e)

  pub fail_rule : (n : ℕ) → rule T m ≡ true → is_failure n ≡ true → rule T (update m failure_at n) ≡ true
  fail_rule n r g = rules T (update m failure_at n) (fail_kept T ok L m (ruled T m r) n g)
