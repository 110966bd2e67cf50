-- The state rule and its record say the same. Assumes nothing.
use Prim.Native.Nat.{ℕ, zero, suc, ◌+◌, ◌-◌, ◌≤◌, ◌<◌}
use mathlib.Core.Path.{◌≡◌, refl, sym}
use mathlib.Core.Bool.{true}
use native.Mathlib.Omega.{arith}
use lib.Dec.{eqb}
use borrow.Author.Tests.{eqb-true, eqb-false, leb-true, ltb-true, eq-eqb, ne_eqb, le-leb, lt-ltb, not-true}
use Rattle.basics.specs.Choice.{between}
use Rattle.basics.specs.Cases.{cases}
use Rattle.basics.proofs.Bools.{both_l, both_r, both_i, all-at, all_i, either_l, either_r}
pub use Rattle.basics.proofs.Bools.{either_case}
use Rattle.table.specs.Table.{Table}
use Rattle.table.specs.Entries.{block_count, var_mode, var_type, block_kind, owner, first_var, vars, first_stmt, stmt_limit}
use Rattle.sizes.specs.Sizes.{module_words}
use Rattle.machine.specs.Memory.{Memory}
use Rattle.machine.specs.Layout.{location, status_at, module_at, statement_at, frame_at, top_at, works_at, holder_at, depth_at, created_at, failure_at, number_at, caller_frame, call_statement, caller_works, called_block}
use Rattle.machine.specs.Entries.{stmt_at}
use Rattle.machine.specs.Variables.{frame_words, offset_of, is_module, is_procedure}
use Rattle.machine.specs.Values.{holds}
use Rattle.machine.specs.Rule.{lies_in, calls, is_created, worked, lives, holds_on, works_by, module_holds, modules_hold, frame_holds, frames_hold, frame_ok, chain, module_ok, started_ok, process_ok, failure_ok, run_ok, rule}
use Rattle.numbers.proofs.BlockPromise.{program_there, program_kind, owner_self, owner_there}
use Rattle.machine.specs.Context.{block_of, contextual}
use Rattle.machine.specs.Outcomes.{is_failure}
pub use Rattle.machine.proofs.Tests.{range_low, range_high, range_i}
use Rattle.verdict.specs.Accepted.{Accepted}
use Rattle.sound.specs.InUse.{Created}
use Rattle.sound.specs.Ruled.{Bottom, Framed, CallChain, bottom, called, Held, held, given, Process, Ruled, BlockOwned}

module _ (m : Memory) (p : ℕ) where
  pub created_in : Created m p → between 1 (m created_at) p ≡ true
  created_in c = range_i 1 (m created_at) p c.least c.most

  pub in_created : between 1 (m created_at) p ≡ true → Created m p
  in_created e = record { least = range_low 1 (m created_at) p e; most = range_high 1 (m created_at) p e }

module _ (T : Table) where
  pub lies_from : (b c : ℕ) → lies_in T b c ≡ true → first_stmt T b ≤ c
  unfolding lies_in
  lies_from b c e = leb-true (first_stmt T b) c (both_l _ _ e)

  pub lies_to : (b c : ℕ) → lies_in T b c ≡ true → c < stmt_limit T b
  unfolding lies_in
  lies_to b c e = ltb-true c (stmt_limit T b) (both_r _ _ e)

  pub lies_i : (b c : ℕ) → first_stmt T b ≤ c → c < stmt_limit T b → lies_in T b c ≡ true
  unfolding lies_in
  lies_i b c x y = both_i _ _ (le-leb (first_stmt T b) c x) (lt-ltb c (stmt_limit T b) y)

  pub procedure_there : (q : ℕ) → is_procedure T q ≡ true → q < block_count T
  unfolding is_procedure
  procedure_there q e = ltb-true q (block_count T) (both_l _ _ e)

  procedure_kind : (q : ℕ) → is_procedure T q ≡ true → block_kind T q ≡ 2
  unfolding is_procedure
  procedure_kind q e = eqb-true (block_kind T q) 2 (both_r _ _ e)

  pub procedure_i : (q : ℕ) → q < block_count T → block_kind T q ≡ 2 → is_procedure T q ≡ true
  unfolding is_procedure
  procedure_i q a b = both_i _ _ (lt-ltb q (block_count T) a) (eq-eqb (block_kind T q) 2 b)

  pub module_there : (q : ℕ) → is_module T q ≡ true → q < block_count T
  unfolding is_module
  module_there q e = ltb-true q (block_count T) (both_l _ _ e)

  pub module_kind : (q : ℕ) → is_module T q ≡ true → block_kind T q ≡ 1
  unfolding is_module
  module_kind q e = eqb-true (block_kind T q) 1 (both_r _ _ e)

  pub module_i : (q : ℕ) → q < block_count T → block_kind T q ≡ 1 → is_module T q ≡ true
  unfolding is_module
  module_i q a b = both_i _ _ (lt-ltb q (block_count T) a) (eq-eqb (block_kind T q) 1 b)

  module _ (m : Memory) where
    frame_values : (p d f q v : ℕ) → frame_holds T m p d f q v ≡ true → (var_mode T v ≡ 2 → ⊥) → holds T m (var_type T v) (location p (f + 4 + offset_of T q v)) ≡ true
    unfolding frame_holds
    frame_values p d f q v e n = rw (ne_eqb (var_mode T v) 2 n) at e

    frame_bound : (p d f q v : ℕ) → frame_holds T m p d f q v ≡ true → var_mode T v ≡ 2 → lives T m p d (caller_frame m p f) (caller_works m p f) (var_type T v) (m (location p (f + 4 + offset_of T q v))) ≡ true
    unfolding frame_holds
    frame_bound p d f q v e n = rw n at e

    frame-holds : (p d f q v : ℕ) → ((var_mode T v ≡ 2 → ⊥) → holds T m (var_type T v) (location p (f + 4 + offset_of T q v)) ≡ true) → (var_mode T v ≡ 2 → lives T m p d (caller_frame m p f) (caller_works m p f) (var_type T v) (m (location p (f + 4 + offset_of T q v))) ≡ true) → frame_holds T m p d f q v ≡ true
    unfolding frame_holds
    frame-holds p d f q v a b =
        cases (eqb (var_mode T v) 2)
        (λ e. rw e (b (eqb-true (var_mode T v) 2 e)))
        (λ e. rw e (a (eqb-false (var_mode T v) 2 e)))

    bottom_of : (p f w c top : ℕ) → chain T m p 0 f w c top ≡ true → Bottom T m p f w c top
    unfolding chain
    bottom_of p f w c top e = search (both_l, both_r, eqb-true, lies_from, lies_to)

    module _ (p d f w c top q : ℕ) (o : frame_ok T m f w c top q ≡ true) (h : frames_hold T m p d f q ≡ true) (k : calls q (stmt_at T (call_statement m p f)) ≡ true) (b : works_by T m p d f w (stmt_at T (call_statement m p f)) ≡ true) where
      frame_each : (i : ℕ) → i < vars T q → frame_holds T m p d f q (first_var T q + i) ≡ true
      unfolding frames_hold
      frame_each i l = all-at (vars T q) (λ i. frame_holds T m p d f q (first_var T q + i)) h i l

      framed_of : Framed T m p d f w c top q
      unfolding frame_ok is_created
      framed_of =
          let made = both_l _ _ (both_l _ _ (both_r _ _ o)) in
          let begun = both_r _ _ (both_l _ _ (both_r _ _ o)) in
          let proc = both_l _ _ (both_r _ _ (both_r _ _ o)) in
          let r3 = both_r _ _ (both_r _ _ (both_r _ _ o)) in
          record {
            room = leb-true (f + 4) 256 (both_l _ _ o);
            some_works = range_low 1 (m created_at) w made;
            works = range_high 1 (m created_at) w made;
            begun = eqb-false (m (status_at w)) 1 (not-true _ begun);
            there = procedure_there q proc;
            procedure = procedure_kind q proc;
            owned = eqb-true (owner T q) (m (module_at w)) (both_l _ _ r3);
            ends = eqb-true (f + 4 + frame_words T q) top (both_l _ _ (both_r _ _ r3));
            fits = leb-true top 256 (both_l _ _ (both_r _ _ (both_r _ _ r3)));
            from = lies_from q c (both_r _ _ (both_r _ _ (both_r _ _ r3)));
            to = lies_to q c (both_r _ _ (both_r _ _ (both_r _ _ r3)));
            values = λ i l. frame_values p d f q (first_var T q + i) (frame_each i l);
            bound = λ i l. frame_bound p d f q (first_var T q + i) (frame_each i l);
            calling = k;
            by = b;
          }

    module _ (p d f w c top q : ℕ) (r : Framed T m p d f w c top q) where
      frame-ok : frame_ok T m f w c top q ≡ true
      unfolding frame_ok is_created
      frame-ok =
          both_i _ _ (le-leb (f + 4) 256 r.room)
          (both_i _ _ (both_i _ _ (range_i 1 (m created_at) w r.some_works r.works) (rw (ne_eqb (m (status_at w)) 1 r.begun)))
          (both_i _ _ (procedure_i q r.there r.procedure)
          (both_i _ _ (eq-eqb (owner T q) (m (module_at w)) r.owned)
          (both_i _ _ (eq-eqb (f + 4 + frame_words T q) top r.ends)
          (both_i _ _ (le-leb top 256 r.fits)
          (lies_i q c r.from r.to))))))

      frames-hold : frames_hold T m p d f q ≡ true
      unfolding frames_hold
      frames-hold = all_i (vars T q) (λ i. frame_holds T m p d f q (first_var T q + i)) (λ i l. frame-holds p d f q (first_var T q + i) (r.values i l) (r.bound i l))

    -- what a process holds
    held_of : (p r : ℕ) → holds_on T m p r ≡ true → Held T m p r
    unfolding holds_on
    held_of p r e =
        either_case (eqb (m (holder_at r)) p) _ e
        (λ h. held (eqb-true (m (holder_at r)) p h))
        (λ h. given (eqb-true r (m (works_at p)) (both_l _ _ h)) (both_r _ _ h))

    holds-on : (p r : ℕ) → Held T m p r → holds_on T m p r ≡ true
    unfolding holds_on
    holds-on p r (held e) = either_l _ _ (eq-eqb (m (holder_at r)) p e)
    holds-on p r (given e w) = either_r (eqb (m (holder_at r)) p) _ (both_i _ _ (eq-eqb r (m (works_at p)) e) w)

    -- the chain as a family, with what is held, and back
    pub chained : (p d f w c top : ℕ) → chain T m p d f w c top ≡ true → CallChain T m p d f w c top
    unfolding chain
    chained p zero f w c top e = bottom (bottom_of p f w c top e)
    chained p (suc d) f w c top e =
        let calling = both_l _ _ (both_r _ _ (both_r _ _ e)) in
        called (framed_of p d f w c top (called_block m p f) (both_l _ _ e) (both_l _ _ (both_r _ _ e)) (both_l _ _ calling) (both_r _ _ calling))
        (chained p d (caller_frame m p f) (caller_works m p f) (call_statement m p f) f (both_r _ _ (both_r _ _ (both_r _ _ (both_r _ _ e)))))

    pub holding : (p d f w c top : ℕ) → chain T m p d f w c top ≡ true → (r : ℕ) → worked m p d f w r ≡ true → Held T m p r
    unfolding chain worked
    holding p zero f w c top e r h = held_of p r (rw (eqb-true w r h) at (both_r _ _ (both_l _ _ (both_r _ _ e))))
    holding p (suc d) f w c top e r h =
        let rest = both_r _ _ (both_r _ _ (both_r _ _ e)) in
        either_case (eqb w r) _ h
        (λ i. held_of p r (rw (eqb-true w r i) at (both_l _ _ rest)))
        (λ i. holding p d (caller_frame m p f) (caller_works m p f) (call_statement m p f) f (both_r _ _ rest) r i)

    pub chains : (p d f w c top : ℕ) → CallChain T m p d f w c top → ((r : ℕ) → worked m p d f w r ≡ true → Held T m p r) → chain T m p d f w c top ≡ true
    unfolding chain worked
    chains p zero f w c top (bottom b) h =
        both_i _ _ (eq-eqb f 0 b.no_frame)
        (both_i _ _ (both_i _ _ (eq-eqb w p b.own) (holds-on p w (h w (eq-eqb w w refl))))
        (both_i _ _ (eq-eqb top (module_words T (m (module_at p))) b.ends)
        (lies_i (m (module_at p)) c b.from b.to)))
    chains p (suc d) f w c top (called r k) h =
        both_i _ _ (frame-ok p d f w c top (called_block m p f) r)
        (both_i _ _ (frames-hold p d f w c top (called_block m p f) r)
        (both_i _ _ (both_i _ _ r.calling r.by)
        (both_i _ _ (holds-on p w (h w (either_l _ _ (eq-eqb w w refl))))
        (chains p d (caller_frame m p f) (caller_works m p f) (call_statement m p f) f k (λ x e. h x (either_r (eqb w x) _ e))))))

    -- a created process
    module _ (p : ℕ) where
      module_first : module_ok T m p ≡ true → p ≡ 1 → (between 2 3 (m (status_at p)) ≡ true) × (m (module_at p) ≡ 0)
      unfolding module_ok
      module_first e n = let g = rw (eq-eqb p 1 n) at e in (both_l _ _ g, eqb-true (m (module_at p)) 0 (both_r _ _ g))

      module_other : module_ok T m p ≡ true → (p ≡ 1 → ⊥) → (between 1 3 (m (status_at p)) ≡ true) × (is_module T (m (module_at p)) ≡ true)
      unfolding module_ok
      module_other e n = let g = rw (ne_eqb p 1 n) at e in (both_l _ _ g, both_r _ _ g)

      status_in : module_ok T m p ≡ true → (1 ≤ m (status_at p)) × (m (status_at p) ≤ 3)
      status_in e =
          cases (eqb p 1)
          (λ q. let g = (module_first e (eqb-true p 1 q)).0 in let a = range_low 2 3 (m (status_at p)) g in (omega arith, range_high 2 3 (m (status_at p)) g))
          (λ q. let g = (module_other e (eqb-false p 1 q)).0 in (range_low 1 3 (m (status_at p)) g, range_high 1 3 (m (status_at p)) g))

      pub process_of : process_ok T m p ≡ true → Process T m p
      unfolding process_ok modules_hold module_holds started_ok
      process_of e =
          let o = both_l _ _ e in
          let v = both_l _ _ (both_r _ _ (both_r _ _ e)) in
          let s = both_r _ _ (both_r _ _ (both_r _ _ e)) in
          record {
            low = (status_in o).0;
            high = (status_in o).1;
            first_status = λ n. range_low 2 3 (m (status_at p)) (module_first o n).0;
            first_block = λ n. (module_first o n).1;
            there = λ n. module_there (m (module_at p)) (module_other o n).1;
            kind = λ n. module_kind (m (module_at p)) (module_other o n).1;
            holder = leb-true (m (holder_at p)) (m created_at) (both_l _ _ (both_r _ _ e));
            variables = λ i l. all-at (vars T (m (module_at p))) (λ i. module_holds T m p (m (module_at p)) (first_var T (m (module_at p)) + i)) v i l;
            chain = λ n. chained p (m (depth_at p)) (m (frame_at p)) (m (works_at p)) (m (statement_at p)) (m (top_at p)) (rw (eq-eqb (m (status_at p)) 2 n) at s);
            holding = λ n. holding p (m (depth_at p)) (m (frame_at p)) (m (works_at p)) (m (statement_at p)) (m (top_at p)) (rw (eq-eqb (m (status_at p)) 2 n) at s);
          }

      module-ok : Process T m p → module_ok T m p ≡ true
      unfolding module_ok
      module-ok r =
          cases (eqb p 1)
          (λ q. let n = eqb-true p 1 q in rw q (both_i _ _ (range_i 2 3 (m (status_at p)) (r.first_status n) r.high) (eq-eqb (m (module_at p)) 0 (r.first_block n))))
          (λ q. let n = eqb-false p 1 q in rw q (both_i _ _ (range_i 1 3 (m (status_at p)) r.low r.high) (module_i (m (module_at p)) (r.there n) (r.kind n))))

      pub process-ok : Process T m p → process_ok T m p ≡ true
      unfolding process_ok modules_hold module_holds started_ok
      process-ok r =
          both_i _ _ (module-ok r)
          (both_i _ _ (le-leb (m (holder_at p)) (m created_at) r.holder)
          (both_i _ _ (all_i (vars T (m (module_at p))) (λ i. module_holds T m p (m (module_at p)) (first_var T (m (module_at p)) + i)) r.variables)
          (cases (eqb (m (status_at p)) 2)
          (λ e. rw e (chains p (m (depth_at p)) (m (frame_at p)) (m (works_at p)) (m (statement_at p)) (m (top_at p)) (r.chain (eqb-true (m (status_at p)) 2 e)) (r.holding (eqb-true (m (status_at p)) 2 e))))
          (λ e. rw e))))

    failed_in : failure_ok m ≡ true → (m failure_at ≡ 0 → ⊥) → is_failure (m failure_at) ≡ true
    unfolding failure_ok
    failed_in e n =
        either_case (eqb (m failure_at) 0) (is_failure (m failure_at)) e
        (λ q. absurd (n (eqb-true (m failure_at) 0 q)))
        (λ q. q)

    failure-ok : ((m failure_at ≡ 0 → ⊥) → is_failure (m failure_at) ≡ true) → failure_ok m ≡ true
    unfolding failure_ok
    failure-ok h =
        cases (eqb (m failure_at) 0)
        (λ q. either_l _ _ q)
        (λ q. either_r (eqb (m failure_at) 0) _ (h (eqb-false (m failure_at) 0 q)))

    number_in : run_ok m ≡ true → m number_at ≤ 1
    unfolding run_ok
    number_in e = leb-true (m number_at) 1 (both_r _ _ e)

    run_failure : run_ok m ≡ true → failure_ok m ≡ true
    unfolding run_ok
    run_failure e = both_l _ _ e

    run-ok : failure_ok m ≡ true → m number_at ≤ 1 → run_ok m ≡ true
    unfolding run_ok
    run-ok e l = both_i _ _ e (le-leb (m number_at) 1 l)

    -- THE RULE as a record, and back
    pub ruled : rule T m ≡ true → Ruled T m
    unfolding rule
    ruled e =
        record {
          some = range_low 1 64 (m created_at) (both_l _ _ e);
          most = range_high 1 64 (m created_at) (both_l _ _ e);
          failed = failed_in (run_failure (both_l _ _ (both_r _ _ e)));
          number = number_in (both_l _ _ (both_r _ _ e));
          process = λ p l h.
              let q : p - 1 + 1 ≡ p = omega arith in
              process_of p (rw q at (all-at (m created_at) (λ i. process_ok T m (i + 1)) (both_r _ _ (both_r _ _ e)) (p - 1) (omega arith)));
        }

    pub rules : Ruled T m → rule T m ≡ true
    unfolding rule
    rules r =
        both_i _ _ (range_i 1 64 (m created_at) r.some r.most)
        (both_i _ _ (run-ok (failure-ok r.failed) r.number)
        (all_i (m created_at) (λ i. process_ok T m (i + 1)) (λ i l. process-ok (i + 1) (r.process (i + 1) (omega arith) (omega arith)))))

-- a module, or block 0, of a created process
module _ (T : Table) (ok : Accepted T) (m : Memory) (p : ℕ) (r : Process T m p) where
  pub block_there : m (module_at p) < block_count T
  block_there =
      cases (eqb p 1)
      (λ q. let e = r.first_block (eqb-true p 1 q) in let l = program_there T ok.numbers in omega arith)
      (λ q. r.there (eqb-false p 1 q))

  pub block-kind : block_kind T (m (module_at p)) ≤ 1
  block-kind =
      cases (eqb p 1)
      (λ q. let e = r.first_block (eqb-true p 1 q) in let k = program_kind T ok.numbers in rw e (omega arith))
      (λ q. let e = r.kind (eqb-false p 1 q) in omega arith)

  pub block_owner : owner T (m (module_at p)) ≡ m (module_at p)
  block_owner = let k = block-kind in owner_self T ok.numbers (m (module_at p)) block_there (λ e. omega arith)

-- the block that a process executes: its module, or the procedure of its innermost call
module _ (m : Memory) (p : ℕ) where
  pub block_bottom : m (depth_at p) ≡ 0 → block_of m p ≡ m (module_at p)
  unfolding block_of
  block_bottom e = rw e

  pub block_called : (d : ℕ) → m (depth_at p) ≡ suc d → block_of m p ≡ called_block m p (m (frame_at p))
  unfolding block_of
  block_called d e = rw (ne_eqb (m (depth_at p)) 0 (λ z. omega arith))

module _ (T : Table) (ok : Accepted T) (m : Memory) (p : ℕ) (some : 1 ≤ p) (made : p ≤ m created_at) (r : Process T m p) (s : m (status_at p) ≡ 2) where
  pub stands : BlockOwned T m p
  stands = go (m (depth_at p)) refl (r.chain s)
    where
      go : (d : ℕ) → m (depth_at p) ≡ d → CallChain T m p d (m (frame_at p)) (m (works_at p)) (m (statement_at p)) (m (top_at p)) → BlockOwned T m p
      go zero e (bottom b) =
          let x = block_bottom m p e in
          let w = b.own in
          record {
            there = rw x (block_there T ok m p r);
            owned = rw (x, w) (sym (block_owner T ok m p r));
            some_works = omega arith;
            works = omega arith;
            from = rw x b.from;
            to = rw x b.to;
            room = λ n. absurd (n e);
          }
      go (suc d) e (called k c) =
          let x = block_called m p d e in
          record {
            there = rw x k.there;
            owned = rw x (sym k.owned);
            some_works = k.some_works;
            works = k.works;
            from = rw x k.from;
            to = rw x k.to;
            room = λ n. k.room;
          }

  -- so the step is not stuck for want of a context
  pub contexts : contextual T m p ≡ true
  unfolding contextual
  contexts =
      let x = stands in
      both_i _ _
      (cases (eqb (m (depth_at p)) 0) (λ e. rw e) (λ e. rw e (le-leb (m (frame_at p) + 4) 256 (x.room (eqb-false (m (depth_at p)) 0 e)))))
      (both_i _ _ (lt-ltb (block_of m p) (block_count T) x.there)
      (both_i _ _ (lt-ltb (owner T (block_of m p)) (block_count T) (owner_there T ok.numbers (block_of m p) x.there))
      (eq-eqb (m (module_at (m (works_at p)))) (owner T (block_of m p)) x.owned)))
