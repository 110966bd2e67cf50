-- THE RULE is kept where a value is stored in a live variable. Assumes nothing.
use Prim.Native.Nat.{ℕ, ◌+◌, ◌/◌, ◌%◌, ◌≤◌}
use mathlib.Core.Path.{◌≡◌, sym, ◌∙◌}
use mathlib.Core.Bool.{true}
use mathlib.Core.List.{List}
use native.Mathlib.Omega.{arith}
use lib.ListN.{length}
use lib.Dec.{eqb}
use borrow.Author.Tests.{eqb-true, eqb-false}
use Rattle.basics.specs.Cases.{cases}
use Rattle.basics.specs.Choice.{both}
use Rattle.basics.proofs.Bools.{both_l, both_r, either_case}
use Rattle.table.specs.Table.{Table}
use Rattle.sizes.specs.Sizes.{module_words}
use Rattle.machine.specs.Memory.{Memory, store}
use Rattle.machine.specs.Layout.{location, status_at, module_at, frame_at, works_at, depth_at, created_at}
use Rattle.machine.specs.Values.{part_of_block}
use Rattle.machine.specs.Rule.{is_created, owns, lives, rule}
use Rattle.verdict.specs.Accepted.{Accepted}
use Rattle.sound.specs.Claims.{IsValue, PlaceLaws, Started}
use Rattle.sound.specs.Ruled.{Process, Ruled, ProcessesStay}
use Rattle.sound.proofs.Rule.RuleRecord.{ruled, rules, block_there, block-kind}
use Rattle.sound.proofs.Values.ModuleVariables.{module_plain, module_variables, module_fits}
use Rattle.sound.proofs.Memory.Writes.{location_of, area_before, area_after, area_other, area_record}
use Rattle.sound.proofs.Rule.Chains.{same_carries, created_low, created_high}
use Rattle.sound.proofs.Rule.Processes.{chain_fits, process_keeps, base_fits, variables_same, chain_stays, alike_stays, holding_stays, process_alike}
use Rattle.sound.proofs.Rule.WorkedProcesses.{lives_there, held_same}
use Rattle.sound.proofs.RuleKept.ChainsAfterStore.{module_kept, owns_in, store_alike, store_chain}
use Rattle.sound.proofs.Values.BlockVariables.{in_block, block_in}

-- the same processes, of the same modules
pub store_carries : (m : Memory) (r k : ℕ) (ws : List ℕ) → 1 ≤ r → r ≤ 64 → k + length ws ≤ 256 → ProcessesStay m (store m (location r k) ws)
store_carries m r k ws a b c =
    let e = area_record m r k ws 1 8 a b c in
    record { grows = omega arith; modules = λ p l h. area_record m r k ws p 1 a b c; begun = λ p l h n e. n (sym (area_record m r k ws p 0 a b c) ∙ e) }

module _ (T : Table) (ok : Accepted T) (L : PlaceLaws T) (m : Memory) (h : Ruled T m) where
  -- a store in an area changes no other process
  pub store_ruled : (r k : ℕ) (ws : List ℕ) → 1 ≤ r → r ≤ m created_at → k + length ws ≤ 256 → Process T (store m (location r k) ws) r → Ruled T (store m (location r k) ws)
  store_ruled r k ws a b c x =
      let u : r ≤ 64 = let y = h.most in omega arith in
      let e8 = area_record m r k ws 1 8 a u c in
      let e9 = area_record m r k ws 1 9 a u c in
      let e10 = area_record m r k ws 1 10 a u c in
      record {
        some = let y = h.some in omega arith;
        most = let y = h.most in omega arith;
        failed = rw e9 h.failed;
        number = let y = h.number in omega arith;
        process = λ p l g.
            let g' : p ≤ m created_at = omega arith in
            cases (eqb p r)
            (λ q. rw (eqb-true p r q) x)
            (λ q. process_alike T ok L m (store m (location r k) ws) (store_carries m r k ws a u c) p l g' (h.process p l g')
            (λ i z. area_record m r k ws p i a u c)
            (λ j z. area_other m r k ws p j a l (eqb-false p r q) z c)
            (λ x z. area_record m r k ws x 6 a u c));
      }

  -- a value is stored in a module variable of a created process
  pub store_module : (r τ k : ℕ) (ws : List ℕ) → 1 ≤ r → r ≤ m created_at → part_of_block T (m (module_at r)) τ k ≡ true → IsValue T m τ ws → Ruled T (store m (location r k) ws)
  store_module r τ k ws a b e v =
      let x = h.process r a b in
      let t = block_there T ok m r x in
      let y = in_block T (m (module_at r)) τ k e in
      let z = (block_in T ok (m (module_at r)) t τ k e).1 in
      let w = module_variables T ok (m (module_at r)) t (block-kind T ok m r x) in
      let f = module_fits T ok (m (module_at r)) t (block-kind T ok m r x) in
      let n = v.long in
      let u : r ≤ 64 = let y = h.most in omega arith in
      let c : k + length ws ≤ 256 = omega arith in
      let cs = store_carries m r k ws a u c in
      store_ruled r k ws a b c
      (process_keeps T m (store m (location r k) ws) r x
      (λ i z. area_record m r k ws r i a u c) cs
      (λ i l. module_kept T ok L m r (m (module_at r)) τ k t y ws v cs a b i (module_plain T ok (m (module_at r)) t (block-kind T ok m r x) i l) (x.variables i l))
      (λ s. chain_stays T ok L m (store m (location r k) ws) cs r a b x (λ j p q. area_after m r k ws j (omega arith)) (x.chain s))
      (λ s. holding_stays T ok L m (store m (location r k) ws) cs r a b x s
      (alike_stays T ok L m (store m (location r k) ws) cs r a b x (λ j p q. area_after m r k ws j (omega arith)) (x.chain s))
      (λ y z w. held_same T m (store m (location r k) ws) r y (area_record m r k ws y 6 a u c) (area_record m r k ws r 5 a u c) (area_record m r k ws r 2 a u c))))

  -- a value is stored in a value parameter or local of one of its own calls
  pub store_own : (p τ k : ℕ) (ws : List ℕ) → 1 ≤ p → p ≤ m created_at → m (status_at p) ≡ 2 → owns T m p (m (depth_at p)) (m (frame_at p)) τ k ≡ true → IsValue T m τ ws → Ruled T (store m (location p k) ws)
  store_own p τ k ws a b s e v =
      let x = h.process p a b in
      let o = owns_in T ok L m p (x.chain s) τ k e in
      let lo = o.0 in
      let hi = o.1 in
      let f = chain_fits T m p (module_base p a b) (x.chain s) in
      let n = v.long in
      let u : p ≤ 64 = let y = h.most in omega arith in
      let c : k + length ws ≤ 256 = omega arith in
      let cs = store_carries m p k ws a u c in
      store_ruled p k ws a b c
      (process_keeps T m (store m (location p k) ws) p x
      (λ i z. area_record m p k ws p i a u c) cs
      (variables_same T ok L m (store m (location p k) ws) cs p a b x (λ j l. area_before m p k ws j (omega arith)))
      (λ y. store_chain T ok L m p τ k ws v a b cs (x.chain s) e)
      (λ y. holding_stays T ok L m (store m (location p k) ws) cs p a b x s
      (store_alike T ok L m p τ k ws v a b cs (x.chain s) e)
      (λ t z w. held_same T m (store m (location p k) ws) p t (area_record m p k ws t 6 a u c) (area_record m p k ws p 5 a u c) (area_record m p k ws p 2 a u c))))
    where
      module_base : (p : ℕ) → 1 ≤ p → p ≤ m created_at → module_words T (m (module_at p)) ≤ 256
      module_base p a b = base_fits T ok L m m (same_carries m) p a b (h.process p a b)

  -- THE STORE
  pub store_kept : (p τ a : ℕ) (ws : List ℕ) → 1 ≤ p → p ≤ m created_at → m (status_at p) ≡ 2 → lives T m p (m (depth_at p)) (m (frame_at p)) (m (works_at p)) τ a ≡ true → IsValue T m τ ws → Ruled T (store m a ws)
  store_kept p τ a ws l g s e v =
      rw (location_of a) at
      (either_case (both (is_created m (a / 256 + 1)) (part_of_block T (m (module_at (a / 256 + 1))) τ (a % 256))) (both (eqb (a / 256 + 1) p) (owns T m p (m (depth_at p)) (m (frame_at p)) τ (a % 256))) (lives_there T m p l g ((h.process p l g).chain s) τ a e)
      (λ x. store_module (a / 256 + 1) τ (a % 256) ws (created_low m (a / 256 + 1) (both_l _ _ x)) (created_high m (a / 256 + 1) (both_l _ _ x)) (both_r _ _ x) v)
      (λ x. rw (eqb-true (a / 256 + 1) p (both_l _ _ x)) (store_own p τ (a % 256) ws l g s (both_r _ _ x) v)))

pub store_rule : (T : Table) → Accepted T → PlaceLaws T → (m : Memory) (p : ℕ) → Started T m p → (τ a : ℕ) (ws : List ℕ) → lives T m p (m (depth_at p)) (m (frame_at p)) (m (works_at p)) τ a ≡ true → IsValue T m τ ws → rule T (store m a ws) ≡ true
store_rule T ok L m p s τ a ws e v =
    rules T (store m a ws) (store_kept T ok L m (ruled T m s.ruled) p τ a ws (created_low m p s.created) (created_high m p s.created) s.started e v)
