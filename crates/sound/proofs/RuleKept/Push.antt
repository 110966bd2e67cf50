-- THE RULE is kept where a frame is pushed for a procedure that is called. Assumes nothing.
use Prim.Native.Nat.{ℕ, suc, ◌+◌, ◌-◌, ◌*◌, ◌≤◌, ◌<◌}
use mathlib.Core.Path.{◌≡◌, refl, ◌∙◌}
use mathlib.Core.Bool.{true, false}
use mathlib.Core.List.{List, ◌∷◌, ◌++◌}
use native.Mathlib.Omega.{arith}
use native.Mathlib.Numerals.{add-one}
use lib.ListN.{length, get_or, replicate, length-append, length-replicate, get_or-replicate, get_or-append}
use lib.Seq.{get_or-append-add}
use lib.Dec.{ltb}
use borrow.Author.Tests.{ltb-true, ltb-false}
use Rattle.basics.specs.Cases.{cases}
use Rattle.table.specs.Table.{Table}
use Rattle.table.specs.Entries.{block_count, var_mode, var_type, block_kind, owner, first_var, params, vars, first_stmt}
use Rattle.numbers.proofs.BlockPromise.{params_vars, mode_local}
use Rattle.machine.specs.Memory.{Memory, store}
use Rattle.machine.specs.Layout.{location, link_at, status_at, module_at, statement_at, frame_at, top_at, works_at, holder_at, depth_at, created_at, caller_frame, call_statement, caller_works}
use Rattle.machine.specs.Entries.{local_call, process_call, stmt_at}
use Rattle.machine.specs.Variables.{first_words, frame_words, offset_of}
use Rattle.machine.specs.Values.{holds}
use Rattle.machine.specs.Calls.{standing}
use Rattle.machine.specs.Rule.{calls, worked, lives, works_by}
use Rattle.machine.proofs.Memories.{store_at}
use Rattle.verdict.specs.Accepted.{Accepted}
use Rattle.sound.specs.Claims.{PlaceLaws}
use Rattle.sound.specs.Ruled.{Framed, CallChain, bottom, called, Ruled, ProcessesStay, Fills}
use Rattle.sound.proofs.Memory.Writes.{location_add, area_before, area_record}
use Rattle.sound.proofs.Rule.Chains.{Same, carries_keeps, chain_over, called_by, alike_same, chain_same}
use Rattle.sound.proofs.Rule.Processes.{process_keeps, variables_same, holding_stays}
use Rattle.sound.proofs.RuleKept.RecordWord.{Holds}
use Rattle.sound.proofs.Rule.WorkedProcesses.{Alike, worked_case, lives_alike, held_same, works_by_i}
use Rattle.sound.proofs.RuleKept.Store.{store_carries, store_ruled}
use Rattle.sound.proofs.RuleKept.Position.{block_begins, stand_kept}
use Rattle.sound.proofs.Values.BlockVariables.{begins_at, next_begins, begins_up, variable_in, words_value, words_var, variable_type}

-- each call takes at least the four words of its links
pub chain_depth : (T : Table) (m : Memory) (p : ℕ) {d f w c top : ℕ} → CallChain T m p d f w c top → d * 4 ≤ top
chain_depth T m p (bottom b) = omega arith
chain_depth T m p (called k r) = let x = chain_depth T m p r in let e = k.ends in omega arith

-- arguments fit their frame
pub fills_short : (T : Table) → Accepted T → (m : Memory) (p q : ℕ) (ws : List ℕ) → q < block_count T → Fills T m p q ws → length ws ≤ frame_words T q
unfolding frame_words
fills_short T good m p q ws l F =
    let e = F.long in let u = begins_up T q (params T q) (vars T q) (params_vars T good.numbers q l) in omega arith

-- the words of a frame: its links, the arguments, and zeros
module _ (g c w q : ℕ) (ws : List ℕ) (z : ℕ) where
  unfoldable pub frame_of : List ℕ
  frame_of = g ∷ c ∷ w ∷ q ∷ ws ++ replicate z 0

  pub frame_length : length frame_of ≡ 4 + (length ws + z)
  unfolding frame_of
  frame_length = simp (length-append, length-replicate) (omega arith)

  frame_rest : (j : ℕ) → get_or frame_of (4 + j) 0 ≡ get_or (ws ++ replicate z 0) j 0
  unfolding frame_of
  frame_rest j = let e : 4 + j ≡ suc (suc (suc (suc j))) = omega arith in rw e

  pub frame_argument : (j : ℕ) → j < length ws → get_or frame_of (4 + j) 0 ≡ get_or ws j 0
  frame_argument j l = frame_rest j ∙ get_or-append ws (replicate z 0) 0 j l

  pub frame_zero : (j : ℕ) → length ws ≤ j → j < length ws + z → get_or frame_of (4 + j) 0 ≡ 0
  frame_zero j l h =
      let e : length ws + (j - length ws) ≡ j = omega arith in
      frame_rest j ∙ rw (← e) (get_or-append-add ws (replicate z 0) (j - length ws) 0 ∙ get_or-replicate z (j - length ws) 0 0 (omega arith))

module _ (T : Table) (good : Accepted T) (L : PlaceLaws T) (s : Memory) (h : Ruled T s) (p : ℕ) (a : 1 ≤ p) (b : p ≤ s created_at) (st : s (status_at p) ≡ 2) where
  top_chain : CallChain T s p (s (depth_at p)) (s (frame_at p)) (s (works_at p)) (s (statement_at p)) (s (top_at p))
  top_chain = (h.process p a b).chain st

  -- the words above its top are free
  module _ (k : ℕ) (ws : List ℕ) (over : s (top_at p) ≤ k) (fits : k + length ws ≤ 256) where
    free_carries : ProcessesStay s (store s (location p k) ws)
    free_carries = let u = h.most in store_carries s p k ws a (omega arith) fits

    free_chain : CallChain T (store s (location p k) ws) p (s (depth_at p)) (s (frame_at p)) (s (works_at p)) (s (statement_at p)) (s (top_at p))
    unfolding Same
    free_chain = chain_same T L s (store s (location p k) ws) free_carries p a b top_chain (λ j x y. area_before s p k ws j (omega arith))

    free_alike : Alike T s (store s (location p k) ws) p (s (depth_at p)) (s (frame_at p)) (s (works_at p))
    unfolding Same
    free_alike = alike_same T s (store s (location p k) ws) free_carries p top_chain (λ j x y. area_before s p k ws j (omega arith))

    pub free_kept : Ruled T (store s (location p k) ws)
    free_kept =
        let u = h.most in
        let e = chain_over T s p top_chain in
        store_ruled T good L s h p k ws a b fits
        (process_keeps T s (store s (location p k) ws) p (h.process p a b) (λ i l. area_record s p k ws p i a (omega arith) fits) free_carries
        (variables_same T good L s (store s (location p k) ws) free_carries p a b (h.process p a b) (λ j l. area_before s p k ws j (omega arith)))
        (λ y. free_chain)
        (λ y. holding_stays T good L s (store s (location p k) ws) free_carries p a b (h.process p a b) y free_alike
        (λ t z w. held_same T s (store s (location p k) ws) p t (area_record s p k ws t 6 a (omega arith) fits) (area_record s p k ws p 5 a (omega arith) fits) (area_record s p k ws p 2 a (omega arith) fits))))

    pub free_lives : (τ i : ℕ) → lives T s p (s (depth_at p)) (s (frame_at p)) (s (works_at p)) τ i ≡ true → lives T (store s (location p k) ws) p (s (depth_at p)) (s (frame_at p)) (s (works_at p)) τ i ≡ true
    free_lives = lives_alike T s (store s (location p k) ws) p free_carries a b top_chain free_alike

  -- a frame for procedure q, on process r, with the arguments ws
  module _ (q r : ℕ) (ws : List ℕ) (F : Fills T s p q ws) (there : q < block_count T) (kind : block_kind T q ≡ 2) (r1 : 1 ≤ r) (r2 : r ≤ s created_at) (owned : owner T q ≡ s (module_at r)) (room : s (top_at p) + 4 + frame_words T q ≤ 256) (calling : calls q (stmt_at T (s (statement_at p))) ≡ true)
      (begun : s (status_at r) ≡ 1 → ⊥) (strict : Holds T s p) (taken : s (holder_at r) ≡ p)
      (as-local : (q c n : ℕ) → stmt_at T (s (statement_at p)) ≡ local_call q c n → s (works_at p) ≡ r)
      (as-process : (i q c n : ℕ) → stmt_at T (s (statement_at p)) ≡ process_call i q c n → worked s p (s (depth_at p)) (s (frame_at p)) (s (works_at p)) r ≡ false) where
    abbrev fr : List ℕ
    fr = frame_of (s (frame_at p)) (s (statement_at p)) (s (works_at p)) q ws (frame_words T q - length ws)

    abbrev new : Memory
    new = store s (location p (s (top_at p))) fr

    short : length ws ≤ frame_words T q
    short = fills_short T good s p q ws there F

    fr_length : length fr ≡ 4 + frame_words T q
    fr_length = let e = frame_length (s (frame_at p)) (s (statement_at p)) (s (works_at p)) q ws (frame_words T q - length ws) in let u = short in omega arith

    fits : s (top_at p) + length fr ≤ 256
    fits = let e = fr_length in omega arith

    top-top : s (top_at p) ≤ s (top_at p)
    top-top = omega arith

    new_carries : ProcessesStay s new
    new_carries = free_carries (s (top_at p)) fr top-top fits

    new_word : (j : ℕ) → j < 4 + frame_words T q → new (location p (s (top_at p) + j)) ≡ get_or fr j 0
    new_word j l = let e = fr_length in rw (← location_add p (s (top_at p)) j) (store_at s (location p (s (top_at p))) fr j (omega arith))

    link0 : new (link_at p (s (top_at p)) 0) ≡ s (frame_at p)
    unfolding link_at frame_of
    link0 = new_word 0 (omega arith)

    link1 : new (link_at p (s (top_at p)) 1) ≡ s (statement_at p)
    unfolding link_at frame_of
    link1 = new_word 1 (omega arith)

    link2 : new (link_at p (s (top_at p)) 2) ≡ s (works_at p)
    unfolding link_at frame_of
    link2 = new_word 2 (omega arith)

    link3 : new (link_at p (s (top_at p)) 3) ≡ q
    unfolding link_at frame_of
    link3 = new_word 3 (omega arith)

    new_argument : (j : ℕ) → j < length ws → new (location p (s (top_at p) + 4 + j)) ≡ get_or ws j 0
    new_argument j l =
        let e : s (top_at p) + 4 + j ≡ s (top_at p) + (4 + j) = omega arith in
        let u = short in
        rw e (new_word (4 + j) (omega arith) ∙ frame_argument (s (frame_at p)) (s (statement_at p)) (s (works_at p)) q ws (frame_words T q - length ws) j l)

    new_zero : (j : ℕ) → length ws ≤ j → j < frame_words T q → new (location p (s (top_at p) + 4 + j)) ≡ 0
    new_zero j l g =
        let e : s (top_at p) + 4 + j ≡ s (top_at p) + (4 + j) = omega arith in
        let u = short in
        rw e (new_word (4 + j) (omega arith) ∙ frame_zero (s (frame_at p)) (s (statement_at p)) (s (works_at p)) q ws (frame_words T q - length ws) j l (omega arith))

    new-values : (i : ℕ) → i < vars T q → (var_mode T (first_var T q + i) ≡ 2 → ⊥) → holds T new (var_type T (first_var T q + i)) (location p (s (top_at p) + 4 + offset_of T q (first_var T q + i))) ≡ true
    new-values i l n =
        cases (ltb i (params T q))
        (λ x. rw (begins_at T q i, ← location_add p (s (top_at p) + 4) (first_words T q i))
        (F.values i (ltb-true i (params T q) x) n new (location p (s (top_at p) + 4)) (carries_keeps s new new_carries)
        (λ j y. rw (location_add p (s (top_at p) + 4) j) (new_argument j y))))
        (λ x. let y = ltb-false i (params T q) x in
        let u = variable_in T q i l in
        let v = words_value T (first_var T q + i) n in
        let e = begins_at T q i in
        let f = begins_up T q (params T q) i y in
        let g = F.long in
        L.zero_holds new (var_type T (first_var T q + i)) (location p (s (top_at p) + 4 + offset_of T q (first_var T q + i))) (variable_type T good q there i l)
        (λ k z.
        let w : s (top_at p) + 4 + offset_of T q (first_var T q + i) + k ≡ s (top_at p) + 4 + (offset_of T q (first_var T q + i) + k) = omega arith in
        rw (location_add p (s (top_at p) + 4 + offset_of T q (first_var T q + i)) k, w) (new_zero (offset_of T q (first_var T q + i) + k) (omega arith) (omega arith))))

    new_bound : (i : ℕ) → i < vars T q → var_mode T (first_var T q + i) ≡ 2 → lives T new p (s (depth_at p)) (caller_frame new p (s (top_at p))) (caller_works new p (s (top_at p))) (var_type T (first_var T q + i)) (new (location p (s (top_at p) + 4 + offset_of T q (first_var T q + i)))) ≡ true
    new_bound i l n =
        cases (ltb i (params T q))
        (λ x. let y = ltb-true i (params T q) x in
        let e = begins_at T q i in
        let u = variable_in T q i l in
        let v = words_var T (first_var T q + i) n in
        let w = begins_up T q (i + 1) (params T q) (omega arith) in
        let m = next_begins T q i in
        let g = F.long in
        rw (link0, link2, e, new_argument (first_words T q i) (omega arith)) (free_lives (s (top_at p)) fr top-top fits (var_type T (first_var T q + i)) (get_or ws (first_words T q i) 0) (F.places i y n)))
        (λ x. let y = mode_local T good.numbers q there i (ltb-false i (params T q) x) l in absurd (omega arith))

    new_alike : Alike T s new p (s (depth_at p)) (s (frame_at p)) (s (works_at p))
    new_alike = free_alike (s (top_at p)) fr top-top fits

    new_by : works_by T new p (s (depth_at p)) (s (top_at p)) r (stmt_at T (call_statement new p (s (top_at p)))) ≡ true
    new_by =
        rw link1
        (works_by_i T new p (s (depth_at p)) (s (top_at p)) r q (stmt_at T (s (statement_at p))) calling
        (λ i c n e. link2 ∙ as-local i c n e)
        (λ i j c n e. rw (link0, link2) (new_alike.working r ∙ as-process i j c n e)))

    new_frame : Framed T new p (s (depth_at p)) (s (top_at p)) r (first_stmt T q) (s (top_at p) + 4 + frame_words T q) q
    new_frame =
        record {
          room = omega arith;
          some_works = r1;
          works = let g = new_carries.grows in omega arith;
          begun = new_carries.begun r r1 r2 begun;
          there = there;
          procedure = kind;
          owned = rw (new_carries.modules r r1 r2) owned;
          ends = refl;
          fits = room;
          from = omega arith;
          to = block_begins T good q there;
          values = new-values;
          bound = new_bound;
          calling = rw link1 calling;
          by = new_by;
        }

    -- it holds what it works on
    new_holder : (x : ℕ) → new (holder_at x) ≡ s (holder_at x)
    new_holder x = let u = h.most in area_record s p (s (top_at p)) fr x 6 a (omega arith) fits

    new_strict : (x : ℕ) → worked new p (suc (s (depth_at p))) (s (top_at p)) r x ≡ true → new (holder_at x) ≡ p
    new_strict x e =
        worked_case new p (s (depth_at p)) (s (top_at p)) r x e
        (λ i. new_holder x ∙ rw i at taken)
        (λ i. new_holder x ∙ strict x (rw (link0, link2, new_alike.working x) at i))

    -- THE PUSH
    pub push_kept : Ruled T (standing new p (first_stmt T q) (s (top_at p)) (s (top_at p) + 4 + frame_words T q) r (s (depth_at p) + 1))
    push_kept =
        let g = new_carries.grows in
        rw (add-one (s (depth_at p)))
        (stand_kept new p (first_stmt T q) (s (top_at p)) (s (top_at p) + 4 + frame_words T q) r (suc (s (depth_at p))) a T good L
        (free_kept (s (top_at p)) fr top-top fits) (omega arith)
        (called_by T new p link0 link1 link2 link3 new_frame (free_chain (s (top_at p)) fr top-top fits)) new_strict)
