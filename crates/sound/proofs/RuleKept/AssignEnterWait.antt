-- THE RULE is kept by an assignment, where a process takes what it works on and goes on, and where it waits. Assumes nothing.
use Prim.Native.Nat.{ℕ, suc, ◌+◌, ◌-◌, ◌/◌, ◌%◌, ◌≤◌, ◌<◌}
use mathlib.Core.Path.{◌≡◌, refl, ◌∙◌}
use mathlib.Core.Bool.{true, false}
use mathlib.Core.List.{List}
use native.Mathlib.Omega.{arith}
use lib.ListN.{length}
use lib.Dec.{eqb, leb}
use borrow.Author.Tests.{eqb-true, eqb-false, leb-true}
use Rattle.basics.specs.Cases.{cases}
use Rattle.basics.specs.Choice.{both}
use Rattle.basics.proofs.Bools.{both_l, both_r, either_case}
use Rattle.table.specs.Table.{Table}
use Rattle.sizes.specs.Sizes.{words_of, module_words}
use Rattle.sizes.proofs.Promise.{module_most}
use Rattle.machine.specs.Memory.{Memory, store, update}
use Rattle.machine.specs.Layout.{location, link_at, record_at, status_at, module_at, statement_at, frame_at, top_at, works_at, holder_at, depth_at, created_at, caller_frame, called_block}
use Rattle.machine.specs.Context.{block_of}
use Rattle.machine.specs.Values.{part_of_block}
use Rattle.machine.specs.Entries.{stmt_at}
use Rattle.machine.specs.Rule.{is_created, owns, lives, may_wait, lies_in, rule}
use Rattle.machine.proofs.Memories.{update_at}
use Rattle.verdict.specs.Accepted.{Accepted}
use Rattle.sound.specs.Claims.{IsValue, PlaceLaws, Started}
use Rattle.sound.specs.Ruled.{CallChain, bottom, called, Held, held, given, Worked, Ruled, BlockOwned}
use Rattle.sound.proofs.Rule.RuleRecord.{ruled, rules, block_there, block-kind, stands}
use Rattle.sound.proofs.Values.ModuleVariables.{module_variables, module_fits}
use Rattle.sound.proofs.Memory.Writes.{location_of, area_before, area_after, area_other, area_record}
use Rattle.sound.proofs.Rule.Chains.{created_low, created_high, chain_over}
use Rattle.sound.proofs.Rule.Processes.{chain_fits, alike_stays}
use Rattle.sound.proofs.RuleKept.ChainsAfterStore.{owns_in, store_alike}
use Rattle.sound.proofs.RuleKept.Store.{store_carries, store_kept}
use Rattle.sound.proofs.RuleKept.RecordWord.{set_unlike, set_other, set_area, Holds, passing_holds, goto_kept}
use Rattle.sound.proofs.RuleKept.Holders.{holder_worked, take_kept, give_kept}
use Rattle.sound.proofs.Rule.WorkedProcesses.{Alike, worked_created, lives_there}
use Rattle.sound.proofs.Values.BlockVariables.{block_in}

-- a process executes the same block where its record and the links of its frame stay
pub block_same : (m n : Memory) (p : ℕ) → n (depth_at p) ≡ m (depth_at p) → n (module_at p) ≡ m (module_at p) → n (frame_at p) ≡ m (frame_at p)
    → ((m (depth_at p) ≡ 0 → ⊥) → n (link_at p (m (frame_at p)) 3) ≡ m (link_at p (m (frame_at p)) 3)) → block_of n p ≡ block_of m p
unfolding block_of
block_same m n p e7 e1 e3 l =
    cases (eqb (m (depth_at p)) 0)
    (λ x. rw (e7, x, e1))
    (λ x. rw (e7, x, e3) (l (eqb-false (m (depth_at p)) 0 x)))

-- ws stand in an area when they are stored at i, and not on the link of p's frame that names its procedure, nor on the links that say what
-- it works on
record Inside (T : Table) (m : Memory) (p i : ℕ) (ws : List ℕ) : Type 0 where
  r : ℕ
  k : ℕ
  is : location r k ≡ i
  low : 1 ≤ r
  high : r ≤ 64
  fits : k + length ws ≤ 256
  link : (m (depth_at p) ≡ 0 → ⊥) → store m (location r k) ws (link_at p (m (frame_at p)) 3) ≡ m (link_at p (m (frame_at p)) 3)
  alike : Alike T m (store m (location r k) ws) p (m (depth_at p)) (m (frame_at p)) (m (works_at p))

module _ (T : Table) (good : Accepted T) (L : PlaceLaws T) (m : Memory) (h : Ruled T m) (p : ℕ) (a : 1 ≤ p) (b : p ≤ m created_at) (st : m (status_at p) ≡ 2) where
  top_fits : m (top_at p) ≤ 256
  top_fits =
      let x = h.process p a b in
      chain_fits T m p (module_most T good.sizes (m (module_at p)) (block_there T good m p x) (block-kind T good m p x)) (x.chain st)

  link_low : {d f w c top : ℕ} → CallChain T m p d f w c top → (d ≡ 0 → ⊥) → f + 3 < 256
  link_low (bottom x) n = absurd (n refl)
  link_low (called x r) n = let u = x.room in omega arith

  -- a process whose record and area stay executes the same block
  pub area_block : (n : Memory) → ((i : ℕ) → i < 8 → n (record_at p i) ≡ m (record_at p i)) → ((j : ℕ) → j < 256 → n (location p j) ≡ m (location p j)) → block_of n p ≡ block_of m p
  unfolding link_at
  area_block n s w =
      block_same m n p (s 7 (omega arith)) (s 1 (omega arith)) (s 3 (omega arith)) (λ d. w (m (frame_at p) + 3) (link_low ((h.process p a b).chain st) d))

  -- what is stored in a live variable leaves where the process stands
  module _ (τ : ℕ) (ws : List ℕ) (v : IsValue T m τ ws) where
    own_link : {d f w c top : ℕ} → CallChain T m p d f w c top → (d ≡ 0 → ⊥) → (k : ℕ) → owns T m p d f τ k ≡ true → store m (location p k) ws (link_at p f 3) ≡ m (link_at p f 3)
    unfolding owns link_at
    own_link (bottom x) n k e = absurd (n refl)
    own_link {d = suc d} {f = f} (called x r) n k e =
        let g = v.long in
        either_case (both (leb (f + 4) k) (part_of_block T (called_block m p f) τ (k - (f + 4)))) (owns T m p d (caller_frame m p f) τ k) e
        (λ y. let u = leb-true (f + 4) k (both_l _ _ y) in area_before m p k ws (f + 3) (omega arith))
        (λ y. let z = (owns_in T good L m p r τ k y).1 in area_after m p k ws (f + 3) (omega arith))

    module_link : {d f w c top : ℕ} → CallChain T m p d f w c top → (d ≡ 0 → ⊥) → (k : ℕ) → k + words_of T τ ≤ module_words T (m (module_at p)) → store m (location p k) ws (link_at p f 3) ≡ m (link_at p f 3)
    unfolding link_at
    module_link (bottom x) n k e = absurd (n refl)
    module_link {f = f} (called x r) n k e = let g = v.long in let u = chain_over T m p r in area_after m p k ws (f + 3) (omega arith)

    other_link : (r k : ℕ) → 1 ≤ r → (p ≡ r → ⊥) → k + length ws ≤ 256 → (m (depth_at p) ≡ 0 → ⊥) → store m (location r k) ws (link_at p (m (frame_at p)) 3) ≡ m (link_at p (m (frame_at p)) 3)
    unfolding link_at
    other_link r k r1 n q d = area_other m r k ws p (m (frame_at p) + 3) r1 a n (link_low ((h.process p a b).chain st) d) q

    in_module : (r k : ℕ) → 1 ≤ r → r ≤ m created_at → part_of_block T (m (module_at r)) τ k ≡ true → Inside T m p (location r k) ws
    in_module r k r1 r2 e =
        let x = h.process r r1 r2 in
        let t = block_there T good m r x in
        let z = (block_in T good (m (module_at r)) t τ k e).1 in
        let w = module_variables T good (m (module_at r)) t (block-kind T good m r x) in
        let f = module_fits T good (m (module_at r)) t (block-kind T good m r x) in
        let n = v.long in
        let u = h.most in
        let q : k + length ws ≤ 256 = omega arith in
        record {
          r = r;
          k = k;
          is = refl;
          low = r1;
          high = omega arith;
          fits = q;
          link = λ d. cases (eqb p r)
              (λ y. let i : p ≡ r = eqb-true p r y in rw (← i) (module_link ((h.process p a b).chain st) d k (rw i (omega arith))))
              (λ y. other_link r k r1 (eqb-false p r y) q d);
          alike =
              alike_stays T good L m (store m (location r k) ws) (store_carries m r k ws r1 (omega arith) q) p a b (h.process p a b) (λ j l g.
              cases (eqb p r)
              (λ y. let i : p ≡ r = eqb-true p r y in rw (← i) (area_after m p k ws j (let l' : module_words T (m (module_at r)) ≤ j = rw (← i) l in omega arith)))
              (λ y. area_other m r k ws p j r1 a (eqb-false p r y) g q))
              ((h.process p a b).chain st);
        }

    in_own : (k : ℕ) → owns T m p (m (depth_at p)) (m (frame_at p)) τ k ≡ true → Inside T m p (location p k) ws
    in_own k e =
        let c = (h.process p a b).chain st in
        let u = h.most in
        let o = (owns_in T good L m p c τ k e).1 in
        let n = v.long in
        let f = top_fits in
        let q : k + length ws ≤ 256 = omega arith in
        record {
          r = p;
          k = k;
          is = refl;
          low = a;
          high = omega arith;
          fits = q;
          link = λ d. own_link c d k e;
          alike = store_alike T good L m p τ k ws v a b (store_carries m p k ws a (omega arith) q) c e;
        }

    inside : (i : ℕ) → lives T m p (m (depth_at p)) (m (frame_at p)) (m (works_at p)) τ i ≡ true → Inside T m p i ws
    inside i e =
        rw (location_of i) at
        (either_case (both (is_created m (i / 256 + 1)) (part_of_block T (m (module_at (i / 256 + 1))) τ (i % 256))) (both (eqb (i / 256 + 1) p) (owns T m p (m (depth_at p)) (m (frame_at p)) τ (i % 256))) (lives_there T m p a b ((h.process p a b).chain st) τ i e)
        (λ x. in_module (i / 256 + 1) (i % 256) (created_low m (i / 256 + 1) (both_l _ _ x)) (created_high m (i / 256 + 1) (both_l _ _ x)) (both_r _ _ x))
        (λ x. rw (eqb-true (i / 256 + 1) p (both_l _ _ x)) (in_own (i % 256) (both_r _ _ x))))

    module _ (i : ℕ) (e : lives T m p (m (depth_at p)) (m (frame_at p)) (m (works_at p)) τ i ≡ true) where
      pub lives_record : (q j : ℕ) → store m i ws (record_at q j) ≡ m (record_at q j)
      lives_record q j = let x = inside i e in rw x.is at (area_record m x.r x.k ws q j x.low x.high x.fits)

      pub lives_block : block_of (store m i ws) p ≡ block_of m p
      lives_block =
          let x = inside i e in
          block_same m (store m i ws) p (lives_record p 7) (lives_record p 1) (lives_record p 3) (λ d. rw x.is at (x.link d))

      lives_holds : Holds T m p → Holds T (store m i ws) p
      lives_holds o x t =
          let y = inside i e in
          let A : Alike T m (store m i ws) p (m (depth_at p)) (m (frame_at p)) (m (works_at p)) = rw y.is at y.alike in
          lives_record x 6 ∙ o x (rw (lives_record p 7, lives_record p 3, lives_record p 5, A.working x) at t)

      -- THE ASSIGNMENT
      pub assign_kept : Holds T m p → (c : ℕ) → lies_in T (block_of m p) c ≡ true → Ruled T (update (store m i ws) (statement_at p) c)
      assign_kept o c l =
          let e8 = lives_record 1 8 in
          goto_kept T good L (store m i ws) (store_kept T good L m h p τ i ws a b st e v) p c a (omega arith) (lives_record p 0 ∙ st) (lives_holds o) (rw lives_block l)

  holder_block : (r v : ℕ) → 1 ≤ r → block_of (update m (holder_at r) v) p ≡ block_of m p
  unfolding link_at
  holder_block r v r1 =
      let u = h.most in
      let w = set_unlike m r 6 v r1 (omega arith) (λ z. omega arith) (λ z. omega arith) p in
      block_same m (update m (holder_at r) v) p (w 7 a (omega arith) (λ z. omega arith)) (w 1 a (omega arith) (λ z. omega arith)) (w 3 a (omega arith) (λ z. omega arith))
      (λ d. set_area m r 6 v r1 (omega arith) (λ z. omega arith) (λ z. omega arith) p (m (frame_at p) + 3) a (omega arith) (link_low ((h.process p a b).chain st) d))

  -- a process goes on, and holds the variables that it works on, which no other holds
  module _ (alone : (q : ℕ) → 1 ≤ q → m (holder_at (m (works_at p))) ≡ q → q ≡ p) where
    abbrev w : ℕ
    w = m (works_at p)

    place : BlockOwned T m p
    place = stands T good m p a b (h.process p a b) st

    enter_word : (k : ℕ) → k < 20 → (k ≡ 6 → ⊥) → update m (holder_at w) p (record_at p k) ≡ m (record_at p k)
    enter_word k l d = set_unlike m w 6 p place.some_works (omega arith) (λ z. omega arith) (λ z. omega arith) p k a l d

    enter_holds : Holds T (update m (holder_at w) p) p
    enter_holds x e =
        let t : Worked T m p x = rw (enter_word 7 (omega arith) (λ z. omega arith), enter_word 3 (omega arith) (λ z. omega arith), enter_word 5 (omega arith) (λ z. omega arith), holder_worked T good L m h w p p place.some_works a b st x) at e in
        cases (eqb x w)
        (λ q. let i : x ≡ w = eqb-true x w q in rw i (update_at m (holder_at w) p (holder_at w) refl))
        (λ q. outer x (worked_created T m p a b ((h.process p a b).chain st) x t).least (eqb-false x w q) ((h.process p a b).holding st x t))
      where
        outer : (x : ℕ) → 1 ≤ x → (x ≡ w → ⊥) → Held T m p x → update m (holder_at w) p (holder_at x) ≡ p
        outer x l d (held e) = set_other m w 6 p place.some_works (omega arith) (λ z. omega arith) (λ z. omega arith) x 6 l (omega arith) d ∙ e
        outer x l d (given e y) = absurd (d e)

    pub enter_kept : (c : ℕ) → lies_in T (block_of m p) c ≡ true → Ruled T (update (update m (holder_at w) p) (statement_at p) c)
    enter_kept c l =
        let r1 = place.some_works in
        let e8 = set_unlike m w 6 p r1 (omega arith) (λ z. omega arith) (λ z. omega arith) 1 8 (omega arith) (omega arith) (λ z. omega arith) in
        let made = b in
        goto_kept T good L (update m (holder_at w) p) (take_kept T good L m h w p r1 place.works b alone) p c a (omega arith) (enter_word 0 (omega arith) (λ z. omega arith) ∙ st) enter_holds (rw (holder_block w p r1) l)

    -- a process waits at a when or cycle, and gives them up
    pub wait_kept : may_wait (stmt_at T (m (statement_at p))) ≡ true → Ruled T (update m (holder_at w) 0)
    wait_kept y = give_kept T good L m h w p place.some_works place.works a alone (λ s t. (refl, y))

-- the same of the rule itself
module _ (T : Table) (good : Accepted T) (L : PlaceLaws T) (m : Memory) (p : ℕ) (s : Started T m p) where
  h : Ruled T m
  h = ruled T m s.ruled

  some : 1 ≤ p
  some = created_low m p s.created

  made : p ≤ m created_at
  made = created_high m p s.created

  pub assign_rule : (τ i c : ℕ) (ws : List ℕ) → may_wait (stmt_at T (m (statement_at p))) ≡ false → lives T m p (m (depth_at p)) (m (frame_at p)) (m (works_at p)) τ i ≡ true → IsValue T m τ ws → lies_in T (block_of m p) c ≡ true → rule T (update (store m i ws) (statement_at p) c) ≡ true
  assign_rule τ i c ws n e v l =
      rules T (update (store m i ws) (statement_at p) c)
      (assign_kept T good L m h p some made s.started τ ws v i e (passing_holds T good L m h p some made s.started n) c l)

  module _ (alone : (q : ℕ) → 1 ≤ q → m (holder_at (m (works_at p))) ≡ q → q ≡ p) where
    pub enter_rule : (c : ℕ) → lies_in T (block_of m p) c ≡ true → rule T (update (update m (holder_at (m (works_at p))) p) (statement_at p) c) ≡ true
    enter_rule c l = rules T (update (update m (holder_at (m (works_at p))) p) (statement_at p) c) (enter_kept T good L m h p some made s.started alone c l)

    pub wait_rule : may_wait (stmt_at T (m (statement_at p))) ≡ true → rule T (update m (holder_at (m (works_at p))) 0) ≡ true
    wait_rule y = rules T (update m (holder_at (m (works_at p))) 0) (wait_kept T good L m h p some made s.started alone y)
