-- THE RULE is kept at the end of a call. Assumes nothing.
use Prim.Native.Nat.{ℕ, suc, ◌+◌, ◌-◌, ◌≤◌}
use mathlib.Core.Path.{◌≡◌, refl, sym, ◌∙◌}
use mathlib.Core.Bool.{true, false}
use native.Mathlib.Omega.{arith}
use borrow.Author.Tests.{not-true}
use Rattle.table.specs.Table.{Table}
use Rattle.table.specs.Entries.{first_stmt, stmt_kind}
use Rattle.basics.proofs.Bools.{no_true}
use Rattle.machine.specs.Memory.{Memory, update}
use Rattle.machine.specs.Layout.{module_at, statement_at, frame_at, top_at, works_at, holder_at, depth_at, created_at, caller_frame, call_statement, caller_works, called_block}
use Rattle.machine.specs.Outcomes.{Outcome, ok}
use Rattle.machine.specs.Entries.{Statement, skip, assign, local_call, process_call, create, start, opener, arm, end_arms, write, block_end, no_statement, stmt_at}
use Rattle.machine.specs.Context.{context_of}
use Rattle.machine.specs.Calls.{standing, popped, returns, return}
use Rattle.machine.specs.Rule.{calls, may_wait, worked, works_by, rule}
use Rattle.verdict.specs.Accepted.{Accepted}
use Rattle.sound.specs.Claims.{PlaceLaws, Started}
use Rattle.sound.specs.Ruled.{CallChain, bottom, called, Worked, Process, Ruled}
use Rattle.sound.proofs.Rule.RuleRecord.{ruled, rules, block_there, stands}
use Rattle.sound.proofs.Rule.Chains.{created_low, created_high}
use Rattle.sound.proofs.Rule.Processes.{alike_stays}
use Rattle.sound.proofs.RuleKept.RecordWord.{passing_holds}
use Rattle.sound.proofs.RuleKept.Holders.{give_kept}
use Rattle.sound.proofs.RuleKept.Position.{block_goes, call_kind, stand_depth, stand_frame, stand_works, stand_area, stand_carries, stand_holder, stand_set, stand_kept}
use Rattle.sound.proofs.Rule.WorkedProcesses.{worked_first, worked_outer}

-- where a chain stands at no block end, it may stand at the next statement
pub chain_next : (T : Table) → Accepted T → (m : Memory) (p : ℕ) → Process T m p → {d f w c top : ℕ} → (stmt_kind T c ≡ 13 → ⊥) → CallChain T m p d f w c top → CallChain T m p d f w (c + 1) top
chain_next T good m p x {c = c} n (bottom k) =
    let fr = k.from in
    let u : first_stmt T (m (module_at p)) ≤ c + 1 = omega arith in
    bottom (record { no_frame = k.no_frame; own = k.own; ends = k.ends; from = u; to = block_goes T good (m (module_at p)) (block_there T good m p x) c k.from k.to n })
chain_next T good m p x {f = f} {c = c} n (called k r) =
    let fr = k.from in
    let u : first_stmt T (called_block m p f) ≤ c + 1 = omega arith in
    called (record {
      room = k.room;
      some_works = k.some_works;
      works = k.works;
      begun = k.begun;
      there = k.there;
      procedure = k.procedure;
      owned = k.owned;
      ends = k.ends;
      fits = k.fits;
      from = u;
      to = block_goes T good (called_block m p f) k.there c k.from k.to n;
      values = k.values;
      bound = k.bound;
      calling = k.calling;
      by = k.by;
    }) r

-- the chain without its innermost call, after the call statement
module _ (T : Table) (good : Accepted T) (L : PlaceLaws T) (m : Memory) (h : Ruled T m) (p : ℕ) (a : 1 ≤ p) (b : p ≤ m created_at) where
  popped_chain : {d f w c top : ℕ} → CallChain T m p (suc d) f w c top → CallChain T m p d (caller_frame m p f) (caller_works m p f) (call_statement m p f + 1) f
  popped_chain {f = f} (called k r) = chain_next T good m p (h.process p a b) (call_kind T (called_block m p f) (call_statement m p f) k.calling) r

  pub pop_kept : {d f w c top : ℕ} → CallChain T m p (suc d) f w c top → ((x : ℕ) → worked m p (suc d) f w x ≡ true → m (holder_at x) ≡ p) → Ruled T (standing m p (call_statement m p f + 1) (caller_frame m p f) f (caller_works m p f) d)
  pop_kept {d = d} {f = f} {w = w} k o = stand_kept m p (call_statement m p f + 1) (caller_frame m p f) f (caller_works m p f) d a T good L h b (popped_chain k) (λ x e. o x (worked_outer m p d f w x e))

-- a call's end comes to a state that meets the rule
pub record Returned (T : Table) (o : Outcome Memory) : Type 0 where
  pub state : Memory
  pub is : o ≡ ok state
  pub ruled : rule T state ≡ true

module _ (T : Table) (good : Accepted T) (L : PlaceLaws T) (m page : Memory) (p : ℕ) (st : Started T m p) (passing : may_wait (stmt_at T (m (statement_at p))) ≡ false) where
  h : Ruled T m
  h = ruled T m st.ruled

  a : 1 ≤ p
  a = created_low m p st.created

  b : p ≤ m created_at
  b = created_high m p st.created

  module _ (d : ℕ) (e : m (depth_at p) ≡ suc d) where
    chain_of : CallChain T m p (suc d) (m (frame_at p)) (m (works_at p)) (m (statement_at p)) (m (top_at p))
    chain_of = rw e at ((h.process p a b).chain st.started)

    popped_is : (s : Memory) (c : ℕ) → popped T m page (context_of m p) s c ≡ standing s p (c + 1) (caller_frame m p (m (frame_at p))) (m (frame_at p)) (caller_works m p (m (frame_at p))) d
    unfolding popped context_of
    popped_is s c = let q : m (depth_at p) - 1 ≡ d = omega arith in rw q

    strict : (x : ℕ) → worked m p (suc d) (m (frame_at p)) (m (works_at p)) x ≡ true → m (holder_at x) ≡ p
    strict = rw e at (passing_holds T good L m h p a b st.started passing)

    abbrev left : Memory
    left = standing m p (call_statement m p (m (frame_at p)) + 1) (caller_frame m p (m (frame_at p))) (m (frame_at p)) (caller_works m p (m (frame_at p))) d

    left_ruled : Ruled T left
    left_ruled = pop_kept T good L m h p a b chain_of strict

    local_return : rule T (popped T m page (context_of m p) m (call_statement m p (m (frame_at p)))) ≡ true
    local_return = rw (popped_is m (call_statement m p (m (frame_at p)))) (rules T _ left_ruled)

    -- what p works on outside the call
    left_worked : (x : ℕ) → Worked T left p x → worked m p d (caller_frame m p (m (frame_at p))) (caller_works m p (m (frame_at p))) x ≡ true
    left_worked x t =
        let c : ℕ = call_statement m p (m (frame_at p)) + 1 in
        let f : ℕ = caller_frame m p (m (frame_at p)) in
        let w : ℕ = caller_works m p (m (frame_at p)) in
        let u = h.most in
        let made = b in
        let cs = stand_carries m p c f (m (frame_at p)) w d a in
        let A = alike_stays T good L m left cs p a b (h.process p a b) (λ j l v. stand_area m p c f (m (frame_at p)) w d a p j a (omega arith) v) (popped_chain T good L m h p a b chain_of) in
        rw (stand_depth m p c f (m (frame_at p)) w d, stand_frame m p c f (m (frame_at p)) w d, stand_works m p c f (m (frame_at p)) w d, A.working x) at t

    process_return : worked m p d (caller_frame m p (m (frame_at p))) (caller_works m p (m (frame_at p))) (m (works_at p)) ≡ false → rule T (popped T m page (context_of m p) (update m (holder_at (m (works_at p))) 0) (call_statement m p (m (frame_at p)))) ≡ true
    process_return n =
        let c : ℕ = call_statement m p (m (frame_at p)) + 1 in
        let f : ℕ = caller_frame m p (m (frame_at p)) in
        let w : ℕ = caller_works m p (m (frame_at p)) in
        let k = stands T good m p a b (h.process p a b) st.started in
        let r1 = k.some_works in
        let r2 = k.works in
        let g = (stand_carries m p c f (m (frame_at p)) w d a).grows in
        let own = stand_holder m p c f (m (frame_at p)) w d a (m (works_at p)) r1 ∙ strict (m (works_at p)) (worked_first m p (suc d) (m (frame_at p)) (m (works_at p)) (m (works_at p)) refl) in
        rw (popped_is (update m (holder_at (m (works_at p))) 0) (call_statement m p (m (frame_at p))), stand_set m p c f (m (frame_at p)) w d a (m (works_at p)) 0 r1)
        (rules T _
        (give_kept T good L left left_ruled (m (works_at p)) p r1 (omega arith) a
        (λ q l z. sym (sym own ∙ z))
        (λ s t. no_true (sym n ∙ left_worked (m (works_at p)) t))))

    by_statement : (q : ℕ) (s : Statement) → calls q s ≡ true → works_by T m p d (m (frame_at p)) (m (works_at p)) s ≡ true → Returned T (returns T m page (context_of m p) (call_statement m p (m (frame_at p))) s)
    unfolding calls works_by returns context_of
    by_statement q skip c w = no_true c
    by_statement q (assign i j) c w = no_true c
    by_statement q (local_call i j k) c w = record { state = popped T m page (context_of m p) m (call_statement m p (m (frame_at p))); is = refl; ruled = local_return }
    by_statement q (process_call i j k l) c w = record { state = popped T m page (context_of m p) (update m (holder_at (m (works_at p))) 0) (call_statement m p (m (frame_at p))); is = refl; ruled = process_return (not-true _ w) }
    by_statement q (create i) c w = no_true c
    by_statement q (start i j k) c w = no_true c
    by_statement q (opener i) c w = no_true c
    by_statement q (arm i j) c w = no_true c
    by_statement q (end_arms i) c w = no_true c
    by_statement q (write i j) c w = no_true c
    by_statement q block_end c w = no_true c
    by_statement q no_statement c w = no_true c

    working_of : {d f w c top : ℕ} → CallChain T m p (suc d) f w c top → works_by T m p d f w (stmt_at T (call_statement m p f)) ≡ true
    working_of (called k r) = k.by

    calling_of : {d f w c top : ℕ} → CallChain T m p (suc d) f w c top → calls (called_block m p f) (stmt_at T (call_statement m p f)) ≡ true
    calling_of (called k r) = k.calling

    -- THE RETURN is not stuck and keeps the rule
    pub return_rule : Returned T (return T m page (context_of m p))
    unfolding return context_of
    return_rule = by_statement (called_block m p (m (frame_at p))) (stmt_at T (call_statement m p (m (frame_at p)))) (calling_of chain_of) (working_of chain_of)
