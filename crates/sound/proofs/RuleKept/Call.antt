-- A call comes to a state that meets the rule, or its frame does not fit. Assumes nothing.
use Prim.Native.Nat.{ℕ, ◌+◌, ◌≤◌, ◌<◌}
use mathlib.Core.Path.{◌≡◌, refl, ◌∙◌}
use mathlib.Core.Bool.{true, false}
use mathlib.Core.List.{List}
use native.Mathlib.Omega.{arith}
use lib.ListN.{length, get_or}
use lib.Dec.{eqb, ltb}
use borrow.Author.Tests.{eqb-true, eqb-false, ltb-false, le-leb, lt-ltb}
use Rattle.basics.specs.Cases.{cases}
use Rattle.table.specs.Table.{Table}
use Rattle.table.specs.Entries.{block_count, var_type, block_kind, owner, first_var}
use Rattle.machine.specs.Memory.{Memory, update}
use Rattle.machine.specs.Layout.{record_at, status_at, module_at, statement_at, frame_at, top_at, works_at, holder_at, depth_at, created_at}
use Rattle.machine.specs.Outcomes.{need, fail_where}
use Rattle.machine.specs.Entries.{local_call, process_call, stmt_at}
use Rattle.machine.specs.Variables.{first_words, frame_words}
use Rattle.machine.specs.Context.{context_of}
use Rattle.machine.specs.Calls.{frame, top_after, pushed, call}
use Rattle.machine.specs.Rule.{calls, may_wait, worked, rule}
use Rattle.machine.proofs.Memories.{update_at}
use Rattle.verdict.specs.Accepted.{Accepted}
use Rattle.sound.specs.Claims.{PlaceLaws, Started}
use Rattle.sound.specs.Ruled.{CallChain, Worked, Ruled, ProcessesStay, Fills, CallOutcome, enters, full}
use Rattle.sound.proofs.Rule.RuleRecord.{ruled, rules, stands}
use Rattle.sound.proofs.Rule.Chains.{Same, carries_keeps, created_low, created_high, alike_same}
use Rattle.sound.proofs.Rule.Processes.{chain_fits, base_fits}
use Rattle.sound.proofs.RuleKept.RecordWord.{set_unlike, set_other, set_area, set_carries, Holds, passing_holds}
use Rattle.sound.proofs.RuleKept.Holders.{holder_worked, take_kept}
use Rattle.sound.proofs.RuleKept.Marks.{frame_marks, marks_rule}
use Rattle.sound.proofs.Rule.WorkedProcesses.{Alike, worked_first, worked_created, worked_begun, lives_alike}
use Rattle.sound.proofs.RuleKept.Push.{chain_depth, fills_short, frame_of, push_kept}

-- arguments stay arguments where the processes, the calls and their words stay
pub fills_same : (T : Table) (m s : Memory) (p b : ℕ) (ws : List ℕ) → ProcessesStay m s → 1 ≤ p → p ≤ m created_at → s (depth_at p) ≡ m (depth_at p) → s (frame_at p) ≡ m (frame_at p) → s (works_at p) ≡ m (works_at p)
    → CallChain T m p (m (depth_at p)) (m (frame_at p)) (m (works_at p)) (m (statement_at p)) (m (top_at p)) → Alike T m s p (m (depth_at p)) (m (frame_at p)) (m (works_at p))
    → Fills T m p b ws → Fills T s p b ws
fills_same T m s p b ws cs some made e7 e3 e5 k A F =
    record {
      long = F.long;
      values = λ i l n u a k w. F.values i l n u a (record { refs = λ μ r e. k.refs μ r ((carries_keeps m s cs).refs μ r e) }) w;
      places = λ i l n. rw (e7, e3, e5) (lives_alike T m s p cs some made k A (var_type T (first_var T b + i)) (get_or ws (first_words T b i) 0) (F.places i l n));
    }

module _ (T : Table) (good : Accepted T) (L : PlaceLaws T) (m page : Memory) (p : ℕ) where
  -- from a state s where the process stands as in m
  module _ (s : Memory) (h : Ruled T s) (a : 1 ≤ p) (b : p ≤ s created_at) (st : s (status_at p) ≡ 2)
      (e2 : s (statement_at p) ≡ m (statement_at p)) (e3 : s (frame_at p) ≡ m (frame_at p)) (e4 : s (top_at p) ≡ m (top_at p)) (e5 : s (works_at p) ≡ m (works_at p)) (e7 : s (depth_at p) ≡ m (depth_at p))
      (q r : ℕ) (ws : List ℕ) (F : Fills T s p q ws) (there : q < block_count T) (kind : block_kind T q ≡ 2) (r1 : 1 ≤ r) (r2 : r ≤ s created_at) (owned : owner T q ≡ s (module_at r)) (calling : calls q (stmt_at T (m (statement_at p))) ≡ true)
      (begun : s (status_at r) ≡ 1 → ⊥) (strict : Holds T s p) (taken : s (holder_at r) ≡ p)
      (as-local : (q c n : ℕ) → stmt_at T (m (statement_at p)) ≡ local_call q c n → s (works_at p) ≡ r)
      (as-process : (i q c n : ℕ) → stmt_at T (m (statement_at p)) ≡ process_call i q c n → worked s p (s (depth_at p)) (s (frame_at p)) (s (works_at p)) r ≡ false) where
    calling_s : calls q (stmt_at T (s (statement_at p))) ≡ true
    calling_s = rw e2 calling

    pub pushed_rule : m (top_at p) + 4 + frame_words T q ≤ 256 → rule T (pushed T m page (context_of m p) s q r ws) ≡ true
    unfolding pushed frame top_after context_of frame_of
    pushed_rule l =
        rules T _ (rw (e2, e3, e4, e5, e7) at (push_kept T good L s h p a b st q r ws F there kind r1 r2 owned (let x = e4 in omega arith) calling_s
        begun strict taken (λ i c n e. as-local i c n (rw e2 at e)) (λ i j c n e. as-process i j c n (rw e2 at e))))

    shallow : m (top_at p) + 4 + frame_words T q ≤ 256 → m (depth_at p) < 64
    shallow l = let x = chain_depth T s p ((h.process p a b).chain st) in omega arith

    pub called_from : CallOutcome T (call T m page (context_of m p) s q r ws)
    unfolding call top_after context_of need fail_where
    called_from =
        let w = le-leb (length ws) (frame_words T q) (fills_short T good s p q ws there F) in
        cases (ltb 256 (m (top_at p) + 4 + frame_words T q))
        (λ x. rw (w, x) full)
        (λ x. let y = ltb-false 256 (m (top_at p) + 4 + frame_words T q) x in rw (w, x, lt-ltb (m (depth_at p)) 64 (shallow y))
        (enters _ (marks_rule T good L _ _ (frame_marks T m page (context_of m p) (pushed T m page (context_of m p) s q r ws) q ws) (pushed_rule y))))

  module _ (st : Started T m p) (q : ℕ) (ws : List ℕ) (F : Fills T m p q ws) (there : q < block_count T) (kind : block_kind T q ≡ 2) (calling : calls q (stmt_at T (m (statement_at p))) ≡ true) where
    h : Ruled T m
    h = ruled T m st.ruled

    a : 1 ≤ p
    a = created_low m p st.created

    b : p ≤ m created_at
    b = created_high m p st.created

    chain : CallChain T m p (m (depth_at p)) (m (frame_at p)) (m (works_at p)) (m (statement_at p)) (m (top_at p))
    chain = (h.process p a b).chain st.started

    -- THE LOCAL CALL
    pub local_call_rule : (c n : ℕ) → stmt_at T (m (statement_at p)) ≡ local_call q c n → owner T q ≡ m (module_at (m (works_at p))) → CallOutcome T (call T m page (context_of m p) m q (m (works_at p)) ws)
    unfolding may_wait
    local_call_rule c n is owned =
        let k = stands T good m p a b (h.process p a b) st.started in
        let strict = passing_holds T good L m h p a b st.started (rw is) in
        let first = worked_first m p (m (depth_at p)) (m (frame_at p)) (m (works_at p)) (m (works_at p)) refl in
        called_from m h a b st.started refl refl refl refl refl q (m (works_at p)) ws F there kind k.some_works k.works owned calling
        (worked_begun T m p st.started chain (m (works_at p)) first) strict (strict (m (works_at p)) first)
        (λ i j l e. refl) (λ i j l o e. let z : ◌≡◌ {A = ℕ} 0 1 = cc in absurd (omega arith))

    -- THE PROCESS CALL, of a process that p then holds
    module _ (i c n : ℕ) (is : stmt_at T (m (statement_at p)) ≡ process_call i q c n) (r : ℕ) (r1 : 1 ≤ r) (r2 : r ≤ m created_at) (idle : m (holder_at r) ≡ 0) where
      strict : Holds T m p
      unfolding may_wait
      strict = passing_holds T good L m h p a b st.started (rw is)

      -- it works on none that nobody holds
      unworked : worked m p (m (depth_at p)) (m (frame_at p)) (m (works_at p)) r ≡ false
      unworked =
          cases (worked m p (m (depth_at p)) (m (frame_at p)) (m (works_at p)) r)
          (λ e. let x = strict r e in let y = a in absurd (omega arith))
          (λ e. e)

      abbrev s : Memory
      s = update m (holder_at r) p

      word : (k : ℕ) → k < 20 → (k ≡ 6 → ⊥) → s (record_at p k) ≡ m (record_at p k)
      word k l d = set_unlike m r 6 p r1 (omega arith) (λ z. omega arith) (λ z. omega arith) p k a l d

      taken_ruled : Ruled T s
      taken_ruled = take_kept T good L m h r p r1 r2 b (λ q l z. absurd (omega arith))

      s_worked : (x : ℕ) → worked s p (s (depth_at p)) (s (frame_at p)) (s (works_at p)) x ≡ worked m p (m (depth_at p)) (m (frame_at p)) (m (works_at p)) x
      s_worked x = rw (word 7 (omega arith) (λ z. omega arith), word 3 (omega arith) (λ z. omega arith), word 5 (omega arith) (λ z. omega arith)) (holder_worked T good L m h r p p r1 a b st.started x)

      s_strict : Holds T s p
      s_strict x e =
          let w : Worked T m p x = rw (s_worked x) at e in
          let c = worked_created T m p a b chain x w in
          cases (eqb x r)
          (λ q. let i : x ≡ r = eqb-true x r q in rw i (update_at m (holder_at r) p (holder_at r) refl))
          (λ q. set_other m r 6 p r1 (omega arith) (λ z. omega arith) (λ z. omega arith) x 6 c.least (omega arith) (eqb-false x r q) ∙ strict x w)

      pub process_call_rule : (m (status_at r) ≡ 1 → ⊥) → owner T q ≡ m (module_at r) → CallOutcome T (call T m page (context_of m p) s q r ws)
      unfolding Same
      process_call_rule begun owned =
          let u = h.most in
          let cs = set_carries m r 6 p r1 (omega arith) (λ z. omega arith) (λ z. omega arith) (λ z. absurd (omega arith)) in
          let g = cs.grows in
          let e2 = word 2 (omega arith) (λ z. omega arith) in
          let e3 = word 3 (omega arith) (λ z. omega arith) in
          let e4 = word 4 (omega arith) (λ z. omega arith) in
          let e5 = word 5 (omega arith) (λ z. omega arith) in
          let e7 = word 7 (omega arith) (λ z. omega arith) in
          let f = chain_fits T m p (base_fits T good L m s cs p a b (h.process p a b)) chain in
          let b' = b in
          called_from s taken_ruled a (omega arith) (word 0 (omega arith) (λ z. omega arith) ∙ st.started) e2 e3 e4 e5 e7 q r ws
          (fills_same T m s p q ws cs a b e7 e3 e5 chain
          (alike_same T m s cs p chain (λ j y z. set_area m r 6 p r1 (omega arith) (λ z. omega arith) (λ z. omega arith) p j a (omega arith) (omega arith)))
          F)
          there kind r1 (omega arith) (rw (cs.modules r r1 r2) owned) calling
          (cs.begun r r1 r2 begun) s_strict (update_at m (holder_at r) p (holder_at r) refl)
          (λ j k l e. let z : ◌≡◌ {A = ℕ} 0 1 = cc in absurd (omega arith)) (λ j k l o e. s_worked r ∙ unworked)
