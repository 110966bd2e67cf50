-- THE RULE is kept where a process is created. Assumes nothing.
use Prim.Native.Nat.{ℕ, ◌+◌, ◌≤◌, ◌<◌}
use mathlib.Core.Path.{◌≡◌, sym, ◌∙◌}
use mathlib.Core.Bool.{true, false}
use mathlib.Core.List.{[], ◌∷◌}
use native.Mathlib.Omega.{arith}
use lib.Dec.{eqb, ltb}
use borrow.Author.Tests.{eqb-true, eqb-false, ltb-true, ltb-false, eq-eqb, le-leb}
use Rattle.basics.specs.Cases.{cases}
use Rattle.basics.proofs.Bools.{both_i}
use Rattle.table.specs.Table.{Table}
use Rattle.table.specs.Entries.{block_count, var_type, block_kind, first_var, vars}
use Rattle.machine.specs.Memory.{Memory, store, update, clear}
use Rattle.machine.specs.Layout.{location, record_at, status_at, module_at, statement_at, frame_at, top_at, works_at, holder_at, depth_at, created_at, locations}
use Rattle.machine.specs.Variables.{offset_of}
use Rattle.machine.specs.Processes.{refers, created}
use Rattle.machine.specs.Context.{block_of}
use Rattle.machine.specs.Values.{holds}
use Rattle.machine.specs.Entries.{stmt_at}
use Rattle.machine.specs.Rule.{lives, may_wait, lies_in, rule}
use Rattle.machine.proofs.Memories.{update_at, update_other, store_below, store_above, store_at, clear_below, clear_above, clear_at}
use Rattle.verdict.specs.Accepted.{Accepted}
use Rattle.sound.specs.Claims.{IsValue, PlaceLaws, Started}
use Rattle.sound.specs.Answers.{Small}
use Rattle.sound.specs.InUse.{Created}
use Rattle.sound.specs.Ruled.{CallChain, Worked, Process, Ruled, ProcessesStay}
use Rattle.sound.proofs.Rule.RuleRecord.{ruled, rules}
use Rattle.sound.proofs.Values.ModuleVariables.{module_plain, module_fits}
use Rattle.sound.proofs.Memory.Writes.{location_add, location_low, location_up, areas_apart, record_high, records_apart, words_apart, update_small, clear_small}
use Rattle.sound.proofs.Rule.Chains.{created_low, created_high}
use Rattle.sound.proofs.Rule.Processes.{alike_stays, process_alike}
use Rattle.sound.proofs.RuleKept.RecordWord.{Holds, passing_holds}
use Rattle.sound.proofs.Rule.WorkedProcesses.{Alike, worked_created, lives_alike}
use Rattle.sound.proofs.RuleKept.AssignEnterWait.{area_block, assign_kept}
use Rattle.sound.proofs.Values.BlockVariables.{variable_in, words_value, variable_type}
use Rattle.sound.proofs.Memory.ProcessRecords.{created_count, created_module, created_status}

-- one word is stored as a list of one
pub update_store : (m : Memory) (i v : ℕ) → update m i v ≡ store m i (v ∷ [])
update_store m i v = λ k j. at j k
  where
    at : (j : ℕ) → update m i v j ≡ store m i (v ∷ []) j
    at j =
        cases (eqb j i)
        (λ e. let x = eqb-true j i e in let y : i + 0 ≡ j = omega arith in update_at m i v j x ∙ sym (rw y at (store_at m i (v ∷ []) 0 (omega arith))))
        (λ e. let x = eqb-false j i e in
        cases (ltb j i)
        (λ f. update_other m i v j x ∙ sym (store_below m i (v ∷ []) j (ltb-true j i f)))
        (λ f. let y = ltb-false j i f in update_other m i v j x ∙ sym (store_above m i (v ∷ []) j (omega arith))))

record_order : (p q i : ℕ) → 1 ≤ p → i < 20 → p < q → record_at p i < record_at q 0
unfolding record_at
record_order p q i a l h = omega arith

record_end : (p q i : ℕ) → 1 ≤ q → q < p → record_at q 0 + 20 ≤ record_at p i
unfolding record_at
record_end p q i a h = omega arith

record_in : (p i : ℕ) → i < 20 → (record_at p 0 ≤ record_at p i) × (record_at p i < record_at p 0 + 20)
unfolding record_at
record_in p i l = (omega arith, omega arith)

area_end : (p : ℕ) → 1 ≤ p → p ≤ 64 → location p 0 + 256 ≤ locations
unfolding location
area_end p a b = omega arith

area_in : (p j : ℕ) → j < 256 → (location p 0 ≤ location p j) × (location p j < location p 0 + 256)
unfolding location
area_in p j l = (omega arith, omega arith)

-- process n is created in m
module _ (m : Memory) (n μ : ℕ) (two : 2 ≤ n) (most : n ≤ 64) where
  pub created_rest : (k : ℕ) → 2 ≤ k → k < 20 → created m n μ (record_at n k) ≡ 0
  unfolding created
  created_rest k l h =
      update_other _ created_at n (record_at n k) (records_apart n 1 k 8 (omega arith) (omega arith) h (omega arith) (λ z. omega arith))
      ∙ update_other _ (module_at n) μ (record_at n k) (words_apart n k 1 (λ z. omega arith))
      ∙ update_other _ (status_at n) 1 (record_at n k) (words_apart n k 0 (λ z. omega arith))
      ∙ clear_at _ (record_at n 0) 20 (record_at n k) (record_in n k h).0 (record_in n k h).1

  clear_record : (q k : ℕ) → 1 ≤ q → k < 20 → (q ≡ n → ⊥) → clear (clear m (location n 0) 256) (record_at n 0) 20 (record_at q k) ≡ m (record_at q k)
  clear_record q k a l d =
      cases (ltb q n)
      (λ e. clear_below _ (record_at n 0) 20 (record_at q k) (record_order q n k a l (ltb-true q n e)))
      (λ e. let x = ltb-false q n e in clear_above _ (record_at n 0) 20 (record_at q k) (record_end q n k (omega arith) (omega arith)))
      ∙ (let x = record_high q k in let y = area_end n (omega arith) most in clear_above m (location n 0) 256 (record_at q k) (omega arith))

  pub created_record : (q k : ℕ) → 1 ≤ q → k < 20 → (k ≡ 8 → ⊥) → (q ≡ n → ⊥) → created m n μ (record_at q k) ≡ m (record_at q k)
  unfolding created
  created_record q k a l e d =
      update_other _ created_at n (record_at q k) (no_count q k a l e)
      ∙ update_other _ (module_at n) μ (record_at q k) (records_apart q n k 1 a (omega arith) l (omega arith) d)
      ∙ update_other _ (status_at n) 1 (record_at q k) (records_apart q n k 0 a (omega arith) l (omega arith) d)
      ∙ clear_record q k a l d
    where
      no_count : (q k : ℕ) → 1 ≤ q → k < 20 → (k ≡ 8 → ⊥) → record_at q k ≡ created_at → ⊥
      no_count q k a l e =
          cases (eqb q 1)
          (λ x. let y : q ≡ 1 = eqb-true q 1 x in rw y (words_apart 1 k 8 e))
          (λ x. records_apart q 1 k 8 a (omega arith) l (omega arith) (eqb-false q 1 x))

  -- the words of areas
  created_low_word : (j : ℕ) → j < locations → created m n μ j ≡ clear m (location n 0) 256 j
  unfolding created
  created_low_word j l =
      let x0 = record_high n 0 in
      let x1 = record_high n 1 in
      let x8 = record_high 1 8 in
      update_other _ created_at n j (λ e. omega arith)
      ∙ update_other _ (module_at n) μ j (λ e. omega arith)
      ∙ update_other _ (status_at n) 1 j (λ e. omega arith)
      ∙ clear_below _ (record_at n 0) 20 j (omega arith)

  area_low : (q j : ℕ) → 1 ≤ q → q ≤ 64 → j < 256 → location q j < locations
  area_low q j a b l = let x = location_up q j 256 l in let y = location_low q 256 a b (omega arith) in omega arith

  pub created_area : (q j : ℕ) → 1 ≤ q → q ≤ 64 → j < 256 → (q ≡ n → ⊥) → created m n μ (location q j) ≡ m (location q j)
  created_area q j a b l d =
      created_low_word (location q j) (area_low q j a b l)
      ∙ areas_apart q n j 0 256 a (omega arith) d l (omega arith)
      (λ x. clear_below m (location n 0) 256 (location q j) x)
      (λ x. clear_above m (location n 0) 256 (location q j) x)

  pub created_zero : (j : ℕ) → j < 256 → created m n μ (location n j) ≡ 0
  created_zero j l = created_low_word (location n j) (area_low n j (omega arith) most l) ∙ clear_at m (location n 0) 256 (location n j) (area_in n j l).0 (area_in n j l).1

  pub created_small : Small m → μ < 65536 → Small (created m n μ)
  unfolding created
  created_small s l =
      update_small _ created_at n (update_small _ (module_at n) μ (update_small _ (status_at n) 1 (clear_small _ (record_at n 0) 20 (clear_small m (location n 0) 256 s)) (omega arith)) l) (omega arith)

  pub created_refers : refers (created m n μ) μ n ≡ true
  unfolding refers
  created_refers =
      both_i _ _ (both_i _ _ (le-leb 2 n two) (le-leb n (created m n μ created_at) (let e = created_count m n μ in omega arith))) (eq-eqb (created m n μ (module_at n)) μ (created_module m n μ))

module _ (T : Table) (good : Accepted T) (L : PlaceLaws T) (m : Memory) (h : Ruled T m) (μ : ℕ) (room : m created_at < 64) (there : μ < block_count T) (kind : block_kind T μ ≡ 1) where
  abbrev next : ℕ
  next = m created_at + 1

  two : 2 ≤ next
  two = let o = h.some in omega arith

  most : next ≤ 64
  most = omega arith

  pub created_carries : ProcessesStay m (created m next μ)
  created_carries =
      let e = created_count m next μ in
      record {
        grows = omega arith;
        modules = λ p a b. created_record m next μ two most p 1 a (omega arith) (λ z. omega arith) (λ z. omega arith);
        begun = λ p a b n x. n (sym (created_record m next μ two most p 0 a (omega arith) (λ z. omega arith) (λ z. omega arith)) ∙ x);
      }

  created_holder : (x : ℕ) → Created m x → created m next μ (holder_at x) ≡ m (holder_at x)
  created_holder x c = let l = c.most in created_record m next μ two most x 6 c.least (omega arith) (λ z. omega arith) (λ z. omega arith)

  -- its variables are 0
  new_variables : (i : ℕ) → i < vars T μ → holds T (created m next μ) (var_type T (first_var T μ + i)) (location next (offset_of T μ (first_var T μ + i))) ≡ true
  new_variables i l =
      let k : block_kind T μ ≤ 1 = omega arith in
      let f = module_fits T good μ there k in
      let u = variable_in T μ i l in
      let w = words_value T (first_var T μ + i) (module_plain T good μ there k i l) in
      L.zero_holds (created m next μ) (var_type T (first_var T μ + i)) (location next (offset_of T μ (first_var T μ + i))) (variable_type T good μ there i l)
      (λ j z. rw (location_add next (offset_of T μ (first_var T μ + i)) j) (created_zero m next μ two most (offset_of T μ (first_var T μ + i) + j) (omega arith)))

  new_process : Process T (created m next μ) next
  new_process =
      let e0 = created_status m next μ in
      let e1 = created_module m next μ in
      let e6 = created_rest m next μ two most 6 (omega arith) (omega arith) in
      let o = h.some in
      record {
        low = omega arith;
        high = omega arith;
        first_status = λ z. absurd (omega arith);
        first_block = λ z. absurd (omega arith);
        there = λ z. rw e1 there;
        kind = λ z. rw e1 kind;
        holder = omega arith;
        variables = rw e1 new_variables;
        chain = λ z. absurd (omega arith);
        holding = λ z. absurd (omega arith);
      }

  -- THE CREATION
  pub created_kept : Ruled T (created m next μ)
  created_kept =
      let e8 = created_count m next μ in
      let e9 = created_record m next μ two most 1 9 (omega arith) (omega arith) (λ z. omega arith) (λ z. let o = h.some in omega arith) in
      let e10 = created_record m next μ two most 1 10 (omega arith) (omega arith) (λ z. omega arith) (λ z. let o = h.some in omega arith) in
      record {
        some = omega arith;
        most = omega arith;
        failed = rw e9 h.failed;
        number = let x = h.number in omega arith;
        process = λ p a b.
            cases (eqb p next)
            (λ e. rw (eqb-true p next e) new_process)
            (λ e. let d = eqb-false p next e in
            let b' : p ≤ m created_at = omega arith in
            process_alike T good L m (created m next μ) created_carries p a b' (h.process p a b')
            (λ i l. created_record m next μ two most p i a (omega arith) (λ z. omega arith) d)
            (λ j l. created_area m next μ two most p j a (omega arith) l d)
            created_holder);
      }

  -- with the new number in a live variable, and the process that created it at another statement
  module _ (p : ℕ) (a : 1 ≤ p) (b : p ≤ m created_at) (st : m (status_at p) ≡ 2) where
    apart : p ≡ next → ⊥
    apart e = omega arith

    same_record : (i : ℕ) → i < 8 → created m next μ (record_at p i) ≡ m (record_at p i)
    same_record i l = created_record m next μ two most p i a (omega arith) (λ z. omega arith) apart

    same_area : (j : ℕ) → j < 256 → created m next μ (location p j) ≡ m (location p j)
    same_area j l = created_area m next μ two most p j a (omega arith) l apart

    chain : CallChain T m p (m (depth_at p)) (m (frame_at p)) (m (works_at p)) (m (statement_at p)) (m (top_at p))
    chain = (h.process p a b).chain st

    same_alike : Alike T m (created m next μ) p (m (depth_at p)) (m (frame_at p)) (m (works_at p))
    same_alike = alike_stays T good L m (created m next μ) created_carries p a b (h.process p a b) (λ j y z. same_area j z) chain

    pub created_lives : (τ i : ℕ) → lives T m p (m (depth_at p)) (m (frame_at p)) (m (works_at p)) τ i ≡ true → lives T (created m next μ) p (created m next μ (depth_at p)) (created m next μ (frame_at p)) (created m next μ (works_at p)) τ i ≡ true
    created_lives τ i e =
        rw (same_record 7 (omega arith), same_record 3 (omega arith), same_record 5 (omega arith))
        (lives_alike T m (created m next μ) p created_carries a b chain same_alike τ i e)

    created_holds : Holds T m p → Holds T (created m next μ) p
    created_holds o x t =
        let w : Worked T m p x = rw (same_record 7 (omega arith), same_record 3 (omega arith), same_record 5 (omega arith), same_alike.working x) at t in
        created_holder x (worked_created T m p a b chain x w) ∙ o x w

    pub create_kept : Holds T m p → (τ i c : ℕ) → lives T m p (m (depth_at p)) (m (frame_at p)) (m (works_at p)) τ i ≡ true → IsValue T (created m next μ) τ (next ∷ []) → lies_in T (block_of m p) c ≡ true
        → Ruled T (update (update (created m next μ) i next) (statement_at p) c)
    create_kept o τ i c e v l =
        let g = created_carries.grows in
        let z = area_block T good L m h p a b st (created m next μ) same_record same_area in
        rw (update_store (created m next μ) i next)
        (assign_kept T good L (created m next μ) created_kept p a (omega arith) (same_record 0 (omega arith) ∙ st) τ (next ∷ []) v i (created_lives τ i e) (created_holds o) c (rw z l))

pub create_rule : (T : Table) → Accepted T → PlaceLaws T → (m : Memory) (p : ℕ) → Started T m p → may_wait (stmt_at T (m (statement_at p))) ≡ false → (μ τ i c : ℕ) → m created_at < 64 → μ < block_count T → block_kind T μ ≡ 1
    → lives T m p (m (depth_at p)) (m (frame_at p)) (m (works_at p)) τ i ≡ true → IsValue T (created m (m created_at + 1) μ) τ ((m created_at + 1) ∷ []) → lies_in T (block_of m p) c ≡ true
    → rule T (update (update (created m (m created_at + 1) μ) i (m created_at + 1)) (statement_at p) c) ≡ true
create_rule T good L m p s n μ τ i c room there kind e v l =
    let h = ruled T m s.ruled in
    let a = created_low m p s.created in
    let b = created_high m p s.created in
    rules T _ (create_kept T good L m h μ room there kind p a b s.started (passing_holds T good L m h p a b s.started n) τ i c e v l)
