-- THE RULE is kept where a process is started. Assumes nothing.
use Prim.Native.Nat.{ℕ, ◌+◌, ◌≤◌, ◌<◌}
use mathlib.Core.Path.{◌≡◌, refl, sym, ◌∙◌}
use mathlib.Core.Bool.{true, false}
use mathlib.Core.List.{List}
use native.Mathlib.Omega.{arith}
use native.Mathlib.Nat.{zero-add}
use lib.ListN.{length, get_or}
use lib.Dec.{eqb, ltb}
use borrow.Author.Tests.{eqb-true, eqb-false, ltb-true, ltb-false, leb-true}
use Rattle.basics.specs.Cases.{cases}
use Rattle.basics.proofs.Bools.{both_l, both_r}
use Rattle.table.specs.Table.{Table}
use Rattle.table.specs.Entries.{block_count, var_type, block_kind, first_var, params, vars, first_stmt}
use Rattle.sizes.specs.Sizes.{module_words}
use Rattle.machine.specs.Memory.{Memory, store, update}
use Rattle.machine.specs.Layout.{location, record_at, status_at, module_at, statement_at, frame_at, top_at, works_at, holder_at, depth_at, created_at, failure_at, number_at}
use Rattle.machine.specs.Variables.{first_words, frame_words, offset_of}
use Rattle.machine.specs.Processes.{refers, started}
use Rattle.machine.specs.Calls.{standing}
use Rattle.machine.specs.Context.{block_of}
use Rattle.machine.specs.Values.{holds}
use Rattle.machine.specs.Entries.{stmt_at}
use Rattle.machine.specs.Rule.{may_wait, lies_in, rule}
use Rattle.machine.proofs.Memories.{update_at, store_at}
use Rattle.verdict.specs.Accepted.{Accepted}
use Rattle.sound.specs.Claims.{PlaceLaws, Started}
use Rattle.sound.specs.InUse.{Created}
use Rattle.sound.specs.Ruled.{Bottom, CallChain, bottom, Held, Worked, Process, Ruled, ProcessesStay, Fills}
use Rattle.sound.specs.Ruled as records
use Rattle.sound.proofs.Rule.RuleRecord.{ruled, rules, block_there, block-kind}
use Rattle.sound.proofs.Values.ModuleVariables.{module_plain, module_fits}
use Rattle.sound.proofs.Memory.Writes.{location_add, area_after, area_other, area_record}
use Rattle.sound.proofs.Rule.Chains.{carries_keeps, created_low, created_high, value_same}
use Rattle.sound.proofs.Rule.Processes.{process_by, process_keeps, variables_same, alike_stays, process_same, base_fits}
use Rattle.sound.proofs.RuleKept.Store.{store_carries, store_ruled}
use Rattle.sound.proofs.RuleKept.RecordWord.{set_unlike, set_word, set_other, set_area, Holds, passing_holds, goto_kept}
use Rattle.sound.proofs.Rule.WorkedProcesses.{Alike, worked_bottom, worked_created, worked_begun, held_same}
use Rattle.sound.proofs.RuleKept.Position.{block_begins, stand_word, stand_other, stand_same, stand_area, stand_depth, stand_works, stand_top, stand_frame, stand_statement}
use Rattle.sound.proofs.RuleKept.Push.{fills_short}
use Rattle.sound.proofs.RuleKept.AssignEnterWait.{area_block}
use Rattle.sound.proofs.Values.BlockVariables.{begins_at, begins_up, variable_in, words_value}

-- only the record of process r is written, and its module stays
module _ (T : Table) (good : Accepted T) (L : PlaceLaws T) (m n : Memory) (h : Ruled T m) (r : ℕ)
    (fresh : m (status_at r) ≡ 1) (count : n created_at ≡ m created_at) (failure : n failure_at ≡ m failure_at) (number : n number_at ≡ m number_at) (same-module : n (module_at r) ≡ m (module_at r))
    (records : (q k : ℕ) → 1 ≤ q → k < 8 → (q ≡ r → ⊥) → n (record_at q k) ≡ m (record_at q k))
    (areas : (q j : ℕ) → 1 ≤ q → q ≤ 64 → j < 256 → n (location q j) ≡ m (location q j)) where
  pub rewritten_carries : ProcessesStay m n
  rewritten_carries =
      record {
        grows = omega arith;
        modules = λ p a b. cases (eqb p r) (λ e. rw (eqb-true p r e) same-module) (λ e. records p 1 a (omega arith) (eqb-false p r e));
        begun = λ p a b g z. cases (eqb p r) (λ e. let i : p ≡ r = eqb-true p r e in g (rw i fresh)) (λ e. g (sym (records p 0 a (omega arith) (eqb-false p r e)) ∙ z));
      }

  -- no process works on r
  rewritten_keeps : (p : ℕ) → 1 ≤ p → p ≤ m created_at → (p ≡ r → ⊥) → m (status_at p) ≡ 2 → (x : ℕ) → Created m x → Worked T m p x → Held T m p x → Held T n p x
  rewritten_keeps p a b d s x c w =
      cases (eqb x r)
      (λ e. let i : x ≡ r = eqb-true x r e in absurd (worked_begun T m p s ((h.process p a b).chain s) x w (rw i fresh)))
      (λ e. held_same T m n p x (records x 6 c.least (omega arith) (eqb-false x r e)) (records p 5 a (omega arith) d) (records p 2 a (omega arith) d))

  pub rewritten : Process T n r → Ruled T n
  rewritten x =
      let u = h.most in
      let o = h.some in
      record {
        some = omega arith;
        most = omega arith;
        failed = rw failure h.failed;
        number = let x = h.number in omega arith;
        process = λ p a b.
            let b' : p ≤ m created_at = omega arith in
            cases (eqb p r)
            (λ e. rw (eqb-true p r e) x)
            (λ e. process_same T good L m n rewritten_carries p a b' (h.process p a b')
            (λ i l. records p i a l (eqb-false p r e)) (λ j l. areas p j a (omega arith) l)
            (rewritten_keeps p a b' (eqb-false p r e)));
      }

module _ (T : Table) (good : Accepted T) (L : PlaceLaws T) (m : Memory) (h : Ruled T m) (p r μ : ℕ) (ws : List ℕ) (two : 2 ≤ r) (made : r ≤ m created_at) (of_module : m (module_at r) ≡ μ) (not-started : m (status_at r) ≡ 1) (F : Fills T m p μ ws) where
  one : 1 ≤ r
  one = omega arith

  most : r ≤ 64
  most = let u = h.most in omega arith

  old : Process T m r
  old = h.process r one made

  there : μ < block_count T
  there = rw of_module at (block_there T good m r old)

  kind : block_kind T μ ≤ 1
  kind = rw of_module at (block-kind T good m r old)

  short : length ws ≤ frame_words T μ
  short = fills_short T good m p μ ws there F

  fits : 0 + length ws ≤ 256
  fits = let x = short in let y = module_fits T good μ there kind in omega arith

  -- the parameters are stored
  abbrev passed : Memory
  passed = store m (location r 0) ws

  passed_carries : ProcessesStay m passed
  passed_carries = store_carries m r 0 ws one most fits

  passed_word : (j : ℕ) → j < length ws → passed (location r 0 + j) ≡ get_or ws j 0
  passed_word j l = store_at m (location r 0) ws j l

  passed_variables : (i : ℕ) → i < vars T μ → holds T m (var_type T (first_var T μ + i)) (location r (offset_of T μ (first_var T μ + i))) ≡ true → holds T passed (var_type T (first_var T μ + i)) (location r (offset_of T μ (first_var T μ + i))) ≡ true
  passed_variables i l e =
      let n = module_plain T good μ there kind i l in
      let o = begins_at T μ i in
      let u = variable_in T μ i l in
      let w = words_value T (first_var T μ + i) n in
      let f = module_fits T good μ there kind in
      let g = F.long in
      cases (ltb i (params T μ))
      (λ x. rw o (simp zero-add at (rw (location_add r 0 (first_words T μ i)) at (F.values i (ltb-true i (params T μ) x) n passed (location r 0) (carries_keeps m passed passed_carries) passed_word))))
      (λ x. let y = begins_up T μ (params T μ) i (ltb-false i (params T μ) x) in
      value_same T L m passed passed_carries r one made (var_type T (first_var T μ + i)) (offset_of T μ (first_var T μ + i))
      (λ j z. area_after m r 0 ws (offset_of T μ (first_var T μ + i) + j) (omega arith)) e)

  passed_process : Process T passed r
  passed_process =
      process_keeps T m passed r old (λ i l. area_record m r 0 ws r i one most fits) passed_carries
      (rw of_module (λ i l. passed_variables i l ((rw of_module at old.variables) i l)))
      (λ z. absurd (omega arith)) (λ z. absurd (omega arith))

  passed_fresh : passed (status_at r) ≡ 1
  passed_fresh = area_record m r 0 ws r 0 one most fits ∙ not-started

  pub passed_ruled : Ruled T passed
  passed_ruled = store_ruled T good L m h r 0 ws one made fits passed_process

  -- it has status 2 and holds its own variables
  abbrev held : Memory
  held = update (update passed (status_at r) 2) (holder_at r) r

  held_unlike : (q k : ℕ) → 1 ≤ q → k < 20 → (k ≡ 0 → ⊥) → (k ≡ 6 → ⊥) → held (record_at q k) ≡ passed (record_at q k)
  held_unlike q k a l x y =
      set_unlike (update passed (status_at r) 2) r 6 r one (omega arith) (λ z. omega arith) (λ z. omega arith) q k a l y
      ∙ set_unlike passed r 0 2 one (omega arith) (λ z. omega arith) (λ z. omega arith) q k a l x

  held_other : (q k : ℕ) → 1 ≤ q → k < 20 → (q ≡ r → ⊥) → held (record_at q k) ≡ passed (record_at q k)
  held_other q k a l x =
      set_other (update passed (status_at r) 2) r 6 r one (omega arith) (λ z. omega arith) (λ z. omega arith) q k a l x
      ∙ set_other passed r 0 2 one (omega arith) (λ z. omega arith) (λ z. omega arith) q k a l x

  held_area : (q j : ℕ) → 1 ≤ q → q ≤ 64 → j < 256 → held (location q j) ≡ passed (location q j)
  held_area q j a b l =
      set_area (update passed (status_at r) 2) r 6 r one (omega arith) (λ z. omega arith) (λ z. omega arith) q j a b l
      ∙ set_area passed r 0 2 one (omega arith) (λ z. omega arith) (λ z. omega arith) q j a b l

  held_status : held (status_at r) ≡ 2
  held_status =
      set_word (update passed (status_at r) 2) r 6 r one (omega arith) (λ z. omega arith) (λ z. omega arith) 0 (λ z. omega arith)
      ∙ update_at passed (status_at r) 2 (status_at r) refl

  held_holder : held (holder_at r) ≡ r
  held_holder = update_at (update passed (status_at r) 2) (holder_at r) r (holder_at r) refl

  -- and stands at its first statement
  abbrev begun : Memory
  begun = standing held r (first_stmt T μ) 0 (module_words T μ) r 0

  begun_same : (q k : ℕ) → 1 ≤ q → k < 20 → (k ≡ 0 → ⊥) → (k ≡ 2 → ⊥) → (k ≡ 3 → ⊥) → (k ≡ 4 → ⊥) → (k ≡ 5 → ⊥) → (k ≡ 6 → ⊥) → (k ≡ 7 → ⊥) → begun (record_at q k) ≡ passed (record_at q k)
  begun_same q k a l h0 h2 h3 h4 h5 h6 h7 = stand_same held r (first_stmt T μ) 0 (module_words T μ) r 0 one q k a l h2 h3 h4 h5 h7 ∙ held_unlike q k a l h0 h6

  begun_module : begun (module_at r) ≡ passed (module_at r)
  begun_module = begun_same r 1 one (omega arith) (λ z. omega arith) (λ z. omega arith) (λ z. omega arith) (λ z. omega arith) (λ z. omega arith) (λ z. omega arith) (λ z. omega arith)

  begun_count : begun created_at ≡ passed created_at
  begun_count = begun_same 1 8 (omega arith) (omega arith) (λ z. omega arith) (λ z. omega arith) (λ z. omega arith) (λ z. omega arith) (λ z. omega arith) (λ z. omega arith) (λ z. omega arith)

  begun_failure : begun failure_at ≡ passed failure_at
  begun_failure = begun_same 1 9 (omega arith) (omega arith) (λ z. omega arith) (λ z. omega arith) (λ z. omega arith) (λ z. omega arith) (λ z. omega arith) (λ z. omega arith) (λ z. omega arith)

  begun_number : begun number_at ≡ passed number_at
  begun_number = begun_same 1 10 (omega arith) (omega arith) (λ z. omega arith) (λ z. omega arith) (λ z. omega arith) (λ z. omega arith) (λ z. omega arith) (λ z. omega arith) (λ z. omega arith)

  begun_records : (q k : ℕ) → 1 ≤ q → k < 8 → (q ≡ r → ⊥) → begun (record_at q k) ≡ passed (record_at q k)
  begun_records q k a l d = stand_other held r (first_stmt T μ) 0 (module_words T μ) r 0 one q k a (omega arith) d ∙ held_other q k a (omega arith) d

  begun_areas : (q j : ℕ) → 1 ≤ q → q ≤ 64 → j < 256 → begun (location q j) ≡ passed (location q j)
  begun_areas q j a b l = stand_area held r (first_stmt T μ) 0 (module_words T μ) r 0 one q j a b l ∙ held_area q j a b l

  begun_carries : ProcessesStay passed begun
  begun_carries = rewritten_carries T good L passed begun passed_ruled r passed_fresh begun_count begun_failure begun_number begun_module begun_records begun_areas

  begun_is : begun (module_at r) ≡ μ
  begun_is = begun_module ∙ area_record m r 0 ws r 1 one most fits ∙ of_module

  begun_bottom : Bottom T begun r 0 r (first_stmt T μ) (module_words T μ)
  begun_bottom = record { no_frame = refl; own = refl; ends = rw begun_is; from = rw begun_is (omega arith); to = rw begun_is (block_begins T good μ there) }

  begun_chain : CallChain T begun r 0 0 r (first_stmt T μ) (module_words T μ)
  begun_chain = bottom begun_bottom

  begun_process : Process T begun r
  begun_process =
      let e0 = stand_word held r (first_stmt T μ) 0 (module_words T μ) r 0 0 (λ z. omega arith) (λ z. omega arith) (λ z. omega arith) (λ z. omega arith) (λ z. omega arith) ∙ held_status in
      let e6 = stand_word held r (first_stmt T μ) 0 (module_words T μ) r 0 6 (λ z. omega arith) (λ z. omega arith) (λ z. omega arith) (λ z. omega arith) (λ z. omega arith) ∙ held_holder in
      let g = begun_count in
      let f = area_record m r 0 ws 1 8 one most fits in
      let made' : r ≤ passed created_at = omega arith in
      process_by T passed begun r passed_process begun_module (omega arith) (omega arith) (λ z. omega arith) (omega arith)
      (variables_same T good L passed begun begun_carries r one made' passed_process
      (λ j l. let y = base_fits T good L passed begun begun_carries r one made' passed_process in begun_areas r j one most (omega arith)))
      (λ z. rw (stand_depth held r (first_stmt T μ) 0 (module_words T μ) r 0, stand_frame held r (first_stmt T μ) 0 (module_words T μ) r 0, stand_works held r (first_stmt T μ) 0 (module_words T μ) r 0, stand_statement held r (first_stmt T μ) 0 (module_words T μ) r 0, stand_top held r (first_stmt T μ) 0 (module_words T μ) r 0)
      begun_chain)
      (λ z. rw (stand_depth held r (first_stmt T μ) 0 (module_words T μ) r 0, stand_frame held r (first_stmt T μ) 0 (module_words T μ) r 0, stand_works held r (first_stmt T μ) 0 (module_words T μ) r 0)
      (λ x t. let i = worked_bottom begun r 0 r x t in rw (← i) (records.held e6)))

  started_carries : ProcessesStay m begun
  started_carries =
      let x = passed_carries in
      let y = begun_carries in
      let g = x.grows in
      record {
        grows = let f = y.grows in omega arith;
        modules = λ q l k. y.modules q l (omega arith) ∙ x.modules q l k;
        begun = λ q l k n. y.begun q l (omega arith) (x.begun q l k n);
      }

  -- THE START
  pub started_kept : Ruled T (started T m r μ ws)
  unfolding started
  started_kept = rewritten T good L passed begun passed_ruled r passed_fresh begun_count begun_failure begun_number begun_module begun_records begun_areas begun_process

  module _ (a : 1 ≤ p) (b : p ≤ m created_at) (st : m (status_at p) ≡ 2) where
    apart : p ≡ r → ⊥
    apart e = let x : m (status_at r) ≡ 2 = rw e at st in omega arith

    same_record : (i : ℕ) → i < 8 → started T m r μ ws (record_at p i) ≡ m (record_at p i)
    unfolding started
    same_record i l = begun_records p i a l apart ∙ area_record m r 0 ws p i one most fits

    same_area : (j : ℕ) → j < 256 → started T m r μ ws (location p j) ≡ m (location p j)
    unfolding started
    same_area j l = let u = h.most in begun_areas p j a (omega arith) l ∙ area_other m r 0 ws p j one a apart l fits

    same_count : started T m r μ ws created_at ≡ m created_at
    unfolding started
    same_count = begun_count ∙ area_record m r 0 ws 1 8 one most fits

    chain : CallChain T m p (m (depth_at p)) (m (frame_at p)) (m (works_at p)) (m (statement_at p)) (m (top_at p))
    chain = (h.process p a b).chain st

    same_alike : Alike T m (started T m r μ ws) p (m (depth_at p)) (m (frame_at p)) (m (works_at p))
    unfolding started
    same_alike =
        alike_stays T good L m (started T m r μ ws) started_carries p a b (h.process p a b) (λ j y z. same_area j z) chain

    started_holds : Holds T m p → Holds T (started T m r μ ws) p
    unfolding started
    started_holds o x t =
        let w : Worked T m p x = rw (same_record 7 (omega arith), same_record 3 (omega arith), same_record 5 (omega arith), same_alike.working x) at t in
        let c = worked_created T m p a b chain x w in
        let d : x ≡ r → ⊥ = λ i. worked_begun T m p st chain x w (rw i not-started) in
        begun_records x 6 c.least (omega arith) d ∙ area_record m r 0 ws x 6 one most fits ∙ o x w

    pub start_kept : Holds T m p → (c : ℕ) → lies_in T (block_of m p) c ≡ true → Ruled T (update (started T m r μ ws) (statement_at p) c)
    start_kept o c l =
        let e8 = same_count in
        let z = area_block T good L m h p a b st (started T m r μ ws) same_record same_area in
        goto_kept T good L (started T m r μ ws) started_kept p c a (omega arith) (same_record 0 (omega arith) ∙ st) (started_holds o) (rw z l)

pub start_rule : (T : Table) → Accepted T → PlaceLaws T → (m : Memory) (p : ℕ) → Started T m p → may_wait (stmt_at T (m (statement_at p))) ≡ false → (r μ c : ℕ) (ws : List ℕ) → refers m μ r ≡ true → m (status_at r) ≡ 1 → Fills T m p μ ws → lies_in T (block_of m p) c ≡ true
    → rule T (update (started T m r μ ws) (statement_at p) c) ≡ true
unfolding refers
start_rule T good L m p s y r μ c ws e n F l =
    let h = ruled T m s.ruled in
    let a = created_low m p s.created in
    let b = created_high m p s.created in
    rules T _
    (start_kept T good L m h p r μ ws (leb-true 2 r (both_l _ _ (both_l _ _ e))) (leb-true r (m created_at) (both_r _ _ (both_l _ _ e))) (eqb-true (m (module_at r)) μ (both_r _ _ e)) n F
    a b s.started (passing_holds T good L m h p a b s.started y) c l)
