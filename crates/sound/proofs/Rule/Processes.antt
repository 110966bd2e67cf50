-- A created process stays one where its words stay. Assumes nothing.
use Prim.Native.Nat.{ℕ, ◌+◌, ◌≤◌, ◌<◌}
use mathlib.Core.Path.{◌≡◌, sym, ◌∙◌}
use mathlib.Core.Bool.{true}
use native.Mathlib.Omega.{arith}
use Rattle.table.specs.Table.{Table}
use Rattle.table.specs.Entries.{var_type, first_var, vars}
use Rattle.sizes.specs.Sizes.{module_words}
use Rattle.sizes.proofs.Promise.{module_most}
use Rattle.machine.specs.Memory.{Memory}
use Rattle.machine.specs.Layout.{location, record_at, status_at, module_at, statement_at, frame_at, top_at, works_at, holder_at, depth_at, created_at}
use Rattle.machine.specs.Variables.{offset_of}
use Rattle.machine.specs.Values.{holds}
use Rattle.machine.specs.Rule.{worked}
use Rattle.verdict.specs.Accepted.{Accepted}
use Rattle.sound.specs.Claims.{PlaceLaws}
use Rattle.sound.specs.InUse.{Created}
use Rattle.sound.specs.Ruled.{CallChain, bottom, called, Held, Worked, Process, ProcessesStay}
use Rattle.sound.proofs.Rule.RuleRecord.{block_there, block-kind}
use Rattle.sound.proofs.Values.ModuleVariables.{module_plain, module_variables}
use Rattle.sound.proofs.Rule.Chains.{Same, value_same, chain_same, alike_same}
use Rattle.sound.proofs.Values.BlockVariables.{variable_in, words_value}
use Rattle.sound.proofs.Rule.WorkedProcesses.{Alike, worked_created, held_same}

-- a chain ends within the area
pub chain_fits : (T : Table) (m : Memory) (p : ℕ) {d f w c top : ℕ} → module_words T (m (module_at p)) ≤ 256 → CallChain T m p d f w c top → top ≤ 256
chain_fits T m p l (bottom b) = let e = b.ends in omega arith
chain_fits T m p l (called k r) = k.fits

module _ (T : Table) (m n : Memory) (p : ℕ) (r : Process T m p) where
  pub process_by :
      n (module_at p) ≡ m (module_at p)
      → (1 ≤ n (status_at p)) → (n (status_at p) ≤ 3) → (p ≡ 1 → 2 ≤ n (status_at p))
      → n (holder_at p) ≤ n created_at
      → ((i : ℕ) → i < vars T (m (module_at p)) → holds T n (var_type T (first_var T (m (module_at p)) + i)) (location p (offset_of T (m (module_at p)) (first_var T (m (module_at p)) + i))) ≡ true)
      → (n (status_at p) ≡ 2 → CallChain T n p (n (depth_at p)) (n (frame_at p)) (n (works_at p)) (n (statement_at p)) (n (top_at p)))
      → (n (status_at p) ≡ 2 → (x : ℕ) → Worked T n p x → Held T n p x)
      → Process T n p
  process_by e l h f g v k o =
      record {
        low = l;
        high = h;
        first_status = f;
        first_block = λ x. rw e (r.first_block x);
        there = λ x. rw e (r.there x);
        kind = λ x. rw e (r.kind x);
        holder = g;
        variables = rw e v;
        chain = k;
        holding = o;
      }

  -- its record stays
  module _ (same : (i : ℕ) → i < 8 → n (record_at p i) ≡ m (record_at p i)) (cs : ProcessesStay m n) where
    pub process_keeps :
        ((i : ℕ) → i < vars T (m (module_at p)) → holds T n (var_type T (first_var T (m (module_at p)) + i)) (location p (offset_of T (m (module_at p)) (first_var T (m (module_at p)) + i))) ≡ true)
        → (m (status_at p) ≡ 2 → CallChain T n p (m (depth_at p)) (m (frame_at p)) (m (works_at p)) (m (statement_at p)) (m (top_at p)))
        → (m (status_at p) ≡ 2 → (x : ℕ) → worked n p (m (depth_at p)) (m (frame_at p)) (m (works_at p)) x ≡ true → Held T n p x)
        → Process T n p
    process_keeps v k o =
        let e0 = same 0 (omega arith) in
        let g = cs.grows in
        let h = r.holder in
        let a = r.low in
        let b = r.high in
        process_by (same 1 (omega arith)) (omega arith) (omega arith) (λ x. let y = r.first_status x in omega arith)
        (let e6 = same 6 (omega arith) in omega arith) v
        (λ x. rw (same 7 (omega arith), same 3 (omega arith), same 5 (omega arith), same 2 (omega arith), same 4 (omega arith)) (k (sym e0 ∙ x)))
        (λ x. rw (same 7 (omega arith), same 3 (omega arith), same 5 (omega arith)) (o (sym e0 ∙ x)))

module _ (T : Table) (ok : Accepted T) (L : PlaceLaws T) (m n : Memory) (cs : ProcessesStay m n) (p : ℕ) (some : 1 ≤ p) (made : p ≤ m created_at) (r : Process T m p) where
  pub base_fits : module_words T (m (module_at p)) ≤ 256
  base_fits = module_most T ok.sizes (m (module_at p)) (block_there T ok m p r) (block-kind T ok m p r)

  -- the variables of its module stay where their words stay
  pub variables_same : ((j : ℕ) → j < module_words T (m (module_at p)) → n (location p j) ≡ m (location p j))
      → (i : ℕ) → i < vars T (m (module_at p)) → holds T n (var_type T (first_var T (m (module_at p)) + i)) (location p (offset_of T (m (module_at p)) (first_var T (m (module_at p)) + i))) ≡ true
  variables_same h i l =
      let b = block_there T ok m p r in
      let k = block-kind T ok m p r in
      let u = variable_in T (m (module_at p)) i l in
      let e = module_variables T ok (m (module_at p)) b k in
      let w = words_value T (first_var T (m (module_at p)) + i) (module_plain T ok (m (module_at p)) b k i l) in
      value_same T L m n cs p some made (var_type T (first_var T (m (module_at p)) + i)) (offset_of T (m (module_at p)) (first_var T (m (module_at p)) + i))
      (λ j g. h (offset_of T (m (module_at p)) (first_var T (m (module_at p)) + i) + j) (omega arith))
      (r.variables i l)

  -- its chain stays where the words above its module's variables stay
  pub chain_stays : ((j : ℕ) → module_words T (m (module_at p)) ≤ j → j < 256 → n (location p j) ≡ m (location p j))
      → {d f w c top : ℕ} → CallChain T m p d f w c top → CallChain T n p d f w c top
  unfolding Same
  chain_stays h k = let x = chain_fits T m p base_fits k in chain_same T L m n cs p some made k (λ j a b. h j a (omega arith))

  pub alike_stays : ((j : ℕ) → module_words T (m (module_at p)) ≤ j → j < 256 → n (location p j) ≡ m (location p j))
      → {d f w c top : ℕ} → CallChain T m p d f w c top → Alike T m n p d f w
  unfolding Same
  alike_stays h k = let x = chain_fits T m p base_fits k in alike_same T m n cs p k (λ j a b. h j a (omega arith))

  -- what it works on stays held, where the chain stays
  pub holding_stays : (s : m (status_at p) ≡ 2) → Alike T m n p (m (depth_at p)) (m (frame_at p)) (m (works_at p))
      → ((x : ℕ) → Created m x → Worked T m p x → Held T m p x → Held T n p x)
      → (x : ℕ) → worked n p (m (depth_at p)) (m (frame_at p)) (m (works_at p)) x ≡ true → Held T n p x
  holding_stays s A o x e =
      let w : Worked T m p x = rw (A.working x) at e in
      o x (worked_created T m p some made (r.chain s) x w) w (r.holding s x w)

  -- THE PROCESS stays where its area and its record do, and what it holds
  pub process_same : ((i : ℕ) → i < 8 → n (record_at p i) ≡ m (record_at p i)) → ((j : ℕ) → j < 256 → n (location p j) ≡ m (location p j))
      → (m (status_at p) ≡ 2 → (x : ℕ) → Created m x → Worked T m p x → Held T m p x → Held T n p x) → Process T n p
  process_same s h o =
      process_keeps T m n p r s cs
      (variables_same (λ j l. let x = base_fits in h j (omega arith)))
      (λ x. chain_stays (λ j a b. h j b) (r.chain x))
      (λ x. holding_stays x (alike_stays (λ j a b. h j b) (r.chain x)) (o x))

  -- and where the holders do
  pub process_alike : ((i : ℕ) → i < 8 → n (record_at p i) ≡ m (record_at p i)) → ((j : ℕ) → j < 256 → n (location p j) ≡ m (location p j))
      → ((x : ℕ) → Created m x → n (holder_at x) ≡ m (holder_at x)) → Process T n p
  process_alike s h o = process_same s h (λ e x c w. held_same T m n p x (o x c) (s 5 (omega arith)) (s 2 (omega arith)))
