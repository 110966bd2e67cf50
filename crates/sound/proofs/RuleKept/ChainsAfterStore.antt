-- Where a value is stored in a part of a variable, the variables of its block hold values still, and the chain of calls stays. Assumes nothing.
use Prim.Native.Nat.{ℕ, suc, ◌+◌, ◌-◌, ◌≤◌, ◌<◌}
use mathlib.Core.Path.{◌≡◌}
use mathlib.Core.Bool.{true}
use mathlib.Core.List.{List}
use native.Mathlib.Omega.{arith}
use native.Mathlib.Nat.{zero-add}
use lib.Dec.{eqb, leb, ltb}
use borrow.Author.Tests.{eqb-true, eqb-false, leb-true, ltb-true, ltb-false}
use Rattle.basics.specs.Cases.{cases}
use Rattle.basics.specs.Choice.{both}
use Rattle.basics.proofs.Bools.{no_true, both_l, both_r, either_case}
use Rattle.table.specs.Table.{Table}
use Rattle.table.specs.Entries.{block_count, var_mode, var_type, first_var}
use Rattle.sizes.specs.Sizes.{words_of, module_words}
use Rattle.machine.specs.Memory.{Memory, store}
use Rattle.machine.specs.Layout.{location, link_at, module_at, created_at, caller_frame, call_statement, caller_works, called_block}
use Rattle.machine.specs.Variables.{var_words, offset_of}
use Rattle.machine.specs.Values.{holds, part_of_block}
use Rattle.machine.specs.Rule.{owns}
use Rattle.verdict.specs.Accepted.{Accepted}
use Rattle.sound.specs.Claims.{IsValue, PlaceLaws}
use Rattle.sound.specs.Ruled.{Framed, CallChain, bottom, called, ProcessesStay}
use Rattle.sound.proofs.Memory.Writes.{location_add, area_before, area_after}
use Rattle.sound.proofs.Rule.Chains.{Same, carries_keeps, chain_over, called_by, alike_same, frame_new, value_same, chain_same}
use Rattle.sound.proofs.Rule.WorkedProcesses.{Alike, alike_more}
use Rattle.sound.proofs.Values.BlockVariables.{variables_apart, words_value, words_var, variable_type, in_block, InBlock, part_inside, block_in}

module _ (T : Table) (ok : Accepted T) (L : PlaceLaws T) where
  -- the variables of block b from word o on, when a value is stored in a part of one
  module _ (m : Memory) (p o b τ k : ℕ) (there : b < block_count T) (x : InBlock T b τ k) (ws : List ℕ) (v : IsValue T m τ ws) (cs : ProcessesStay m (store m (location p (o + k)) ws)) where
    pub other_word : (i : ℕ) → (i ≡ x.i → ⊥) → (j : ℕ) → j < var_words T (first_var T b + i) → store m (location p (o + k)) ws (location p (o + offset_of T b (first_var T b + i) + j)) ≡ m (location p (o + offset_of T b (first_var T b + i) + j))
    other_word i d j l =
        let u = (part_inside T ok b there τ k x).1 in
        let g = x.from in
        let n = v.long in
        cases (ltb i x.i)
        (λ q. let h = variables_apart T b i x.i (ltb-true i x.i q) in area_before m p (o + k) ws (o + offset_of T b (first_var T b + i) + j) (omega arith))
        (λ q. let y = ltb-false i x.i q in
        let h = variables_apart T b x.i i (omega arith) in
        area_after m p (o + k) ws (o + offset_of T b (first_var T b + i) + j) (omega arith))

    pub bound_kept : (i : ℕ) → var_mode T (first_var T b + i) ≡ 2 → store m (location p (o + k)) ws (location p (o + offset_of T b (first_var T b + i))) ≡ m (location p (o + offset_of T b (first_var T b + i)))
    bound_kept i n =
        let z : o + offset_of T b (first_var T b + i) + 0 ≡ o + offset_of T b (first_var T b + i) = omega arith in
        let u = words_var T (first_var T b + i) n in
        rw z at (other_word i (λ e. x.mode (rw e at n)) 0 (omega arith))

    value_in : holds T m (var_type T (first_var T b + x.i)) (location p (o + offset_of T b (first_var T b + x.i))) ≡ true
        → holds T (store m (location p (o + k)) ws) (var_type T (first_var T b + x.i)) (location p (o + offset_of T b (first_var T b + x.i))) ≡ true
    value_in h =
        let g = x.from in
        let j : o + offset_of T b (first_var T b + x.i) + (k - offset_of T b (first_var T b + x.i)) ≡ o + k = omega arith in
        let e : location p (o + offset_of T b (first_var T b + x.i)) + (k - offset_of T b (first_var T b + x.i)) ≡ location p (o + k) = rw (location_add, j) in
        rw e at (L.stored m τ (var_type T (first_var T b + x.i)) (location p (o + offset_of T b (first_var T b + x.i))) (k - offset_of T b (first_var T b + x.i)) ws (variable_type T ok b there x.i x.there) h x.part v (rw e (carries_keeps m (store m (location p (o + k)) ws) cs)))

    pub value_kept : 1 ≤ p → p ≤ m created_at → (i : ℕ) → (var_mode T (first_var T b + i) ≡ 2 → ⊥) → holds T m (var_type T (first_var T b + i)) (location p (o + offset_of T b (first_var T b + i))) ≡ true
        → holds T (store m (location p (o + k)) ws) (var_type T (first_var T b + i)) (location p (o + offset_of T b (first_var T b + i))) ≡ true
    value_kept y z i n h =
        cases (eqb i x.i)
        (λ q. let e = eqb-true i x.i q in rw e (value_in (rw e at h)))
        (λ q. value_same T L m (store m (location p (o + k)) ws) cs p y z (var_type T (first_var T b + i)) (o + offset_of T b (first_var T b + i))
        (λ j l. other_word i (eqb-false i x.i q) j (let e = words_value T (first_var T b + i) n in omega arith)) h)

  -- the same at the beginning of an area
  pub module_kept : (m : Memory) (p b τ k : ℕ) → b < block_count T → InBlock T b τ k → (ws : List ℕ) → IsValue T m τ ws → ProcessesStay m (store m (location p k) ws) → 1 ≤ p → p ≤ m created_at
      → (i : ℕ) → (var_mode T (first_var T b + i) ≡ 2 → ⊥) → holds T m (var_type T (first_var T b + i)) (location p (offset_of T b (first_var T b + i))) ≡ true
      → holds T (store m (location p k) ws) (var_type T (first_var T b + i)) (location p (offset_of T b (first_var T b + i))) ≡ true
  module_kept m p b τ k l x ws v cs y z i n h = simp zero-add at (value_kept m p 0 b τ k l x ws v (simp zero-add cs) y z i n (simp zero-add h))

  -- what a process owns lies above its module's variables and below its top
  pub owns_in : (m : Memory) (p : ℕ) {d f w c top : ℕ} → CallChain T m p d f w c top → (τ k : ℕ) → owns T m p d f τ k ≡ true → (module_words T (m (module_at p)) ≤ k) × (k + words_of T τ ≤ top)
  unfolding owns
  owns_in m p (bottom b) τ k e = no_true e
  owns_in m p {d = suc d} {f = f} {top = top} (called q r) τ k e =
      let x = chain_over T m p r in
      let g = q.ends in
      either_case (both (leb (f + 4) k) (part_of_block T (called_block m p f) τ (k - (f + 4)))) (owns T m p d (caller_frame m p f) τ k) e
      (λ y. let u = leb-true (f + 4) k (both_l _ _ y) in
      let z = (block_in T ok (called_block m p f) q.there τ (k - (f + 4)) (both_r _ _ y)).1 in
      (omega arith, omega arith))
      (λ y. let z = owns_in m p r τ k y in (z.0, let u = z.1 in omega arith))

  -- a value stored in a value parameter or local of a call
  module _ (m : Memory) (p τ k : ℕ) (ws : List ℕ) (v : IsValue T m τ ws) (some : 1 ≤ p) (made : p ≤ m created_at) (cs : ProcessesStay m (store m (location p k) ws)) where
    link_before : (f i : ℕ) → f + i < k → store m (location p k) ws (link_at p f i) ≡ m (link_at p f i)
    unfolding link_at
    link_before f i l = area_before m p k ws (f + i) l

    link_after : (f i : ℕ) → k + words_of T τ ≤ f → store m (location p k) ws (link_at p f i) ≡ m (link_at p f i)
    unfolding link_at
    link_after f i l = let e = v.long in area_after m p k ws (f + i) (omega arith)

    below_same : (base f : ℕ) → f ≤ k → Same T m (store m (location p k) ws) cs p base f
    unfolding Same
    below_same base f l = λ j a b. area_before m p k ws j (omega arith)

    pub store_alike : {d f w c top : ℕ} → CallChain T m p d f w c top → owns T m p d f τ k ≡ true → Alike T m (store m (location p k) ws) p d f w
    unfolding owns
    store_alike (bottom b) e = no_true e
    store_alike {d = suc d} {f = f} {w = w} {top = top} (called q r) e =
        either_case (both (leb (f + 4) k) (part_of_block T (called_block m p f) τ (k - (f + 4)))) (owns T m p d (caller_frame m p f) τ k) e
        (λ y. let u = leb-true (f + 4) k (both_l _ _ y) in
        alike_more T m (store m (location p k) ws) p d f w (link_before f 0 (omega arith)) (link_before f 2 (omega arith)) (link_before f 3 (omega arith))
        (alike_same T m (store m (location p k) ws) cs p r (below_same (module_words T (m (module_at p))) f (omega arith))))
        (λ y. let z = (owns_in m p r τ k y).1 in
        alike_more T m (store m (location p k) ws) p d f w (link_after f 0 z) (link_after f 2 z) (link_after f 3 z) (store_alike r y))

    -- the frame that has the variable
    store_frame : {d f w c top q : ℕ} → Framed T m p d f w c top q → CallChain T m p d (caller_frame m p f) (caller_works m p f) (call_statement m p f) f → f + 4 ≤ k → part_of_block T q τ (k - (f + 4)) ≡ true → Framed T (store m (location p k) ws) p d f w c top q
    store_frame {f = f} {q = q} r h l e =
        let x = in_block T q τ (k - (f + 4)) e in
        let j : f + 4 + (k - (f + 4)) ≡ k = omega arith in
        frame_new T m (store m (location p k) ws) cs p some made r h
        (link_before f 0 (omega arith)) (link_before f 1 (omega arith)) (link_before f 2 (omega arith))
        (alike_same T m (store m (location p k) ws) cs p h (below_same (module_words T (m (module_at p))) f (omega arith)))
        (λ i u n. rw j at (value_kept m p (f + 4) q τ (k - (f + 4)) r.there x ws v (rw j cs) some made i n (r.values i u n)))
        (λ i u n. rw j at (bound_kept m p (f + 4) q τ (k - (f + 4)) r.there x ws v (rw j cs) i n))

    -- a frame above the variable
    store_over : {d f w c top q : ℕ} → Framed T m p d f w c top q → CallChain T m p d (caller_frame m p f) (caller_works m p f) (call_statement m p f) f → owns T m p d (caller_frame m p f) τ k ≡ true → Framed T (store m (location p k) ws) p d f w c top q
    store_over {f = f} {q = q} r h e =
        let z = (owns_in m p h τ k e).1 in
        let g = v.long in
        frame_new T m (store m (location p k) ws) cs p some made r h
        (link_after f 0 z) (link_after f 1 z) (link_after f 2 z)
        (store_alike h e)
        (λ i u n. value_same T L m (store m (location p k) ws) cs p some made (var_type T (first_var T q + i)) (f + 4 + offset_of T q (first_var T q + i)) (λ j y. area_after m p k ws (f + 4 + offset_of T q (first_var T q + i) + j) (omega arith)) (r.values i u n))
        (λ i u n. area_after m p k ws (f + 4 + offset_of T q (first_var T q + i)) (omega arith))

    pub store_chain : {d f w c top : ℕ} → CallChain T m p d f w c top → owns T m p d f τ k ≡ true → CallChain T (store m (location p k) ws) p d f w c top
    unfolding owns
    store_chain (bottom b) e = no_true e
    store_chain {d = suc d} {f = f} (called q r) e =
        either_case (both (leb (f + 4) k) (part_of_block T (called_block m p f) τ (k - (f + 4)))) (owns T m p d (caller_frame m p f) τ k) e
        (λ y. let u = leb-true (f + 4) k (both_l _ _ y) in
        called_by T (store m (location p k) ws) p (link_before f 0 (omega arith)) (link_before f 1 (omega arith)) (link_before f 2 (omega arith)) (link_before f 3 (omega arith))
        (store_frame q r u (both_r _ _ y))
        (chain_same T L m (store m (location p k) ws) cs p some made r (below_same (module_words T (m (module_at p))) f (omega arith))))
        (λ y. let z = (owns_in m p r τ k y).1 in
        called_by T (store m (location p k) ws) p (link_after f 0 z) (link_after f 1 z) (link_after f 2 z) (link_after f 3 z)
        (store_over q r y) (store_chain r y))
