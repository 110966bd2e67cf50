-- The whole variables that a started process can name are live places. Assumes nothing.
use Prim.Native.Nat.{ℕ, zero, suc, ◌+◌, ◌-◌, ◌/◌, ◌%◌, ◌≤◌, ◌<◌}
use mathlib.Core.Path.{◌≡◌, refl, sym, ◌∙◌}
use mathlib.Core.Bool.{true, false}
use native.Mathlib.Omega.{arith}
use lib.Dec.{eqb, leb, ltb}
use borrow.Author.Tests.{eqb-true, eqb-false, le-leb, lt-ltb, eq-eqb}
use Rattle.basics.specs.Choice.{both}
use Rattle.basics.specs.Cases.{cases}
use Rattle.basics.proofs.Bools.{no_true, both_l, both_r, both_i, either_l, either_r, either_case}
use Rattle.table.specs.Table.{Table}
use Rattle.table.specs.Entries.{var_count, block_count, var_mode, var_type, owner, first_var, vars}
use Rattle.numbers.proofs.TypePromise.{var-type}
use Rattle.machine.specs.Memory.{Memory}
use Rattle.machine.specs.Layout.{location, status_at, module_at, statement_at, frame_at, top_at, works_at, depth_at, created_at, caller_frame, caller_works, called_block}
use Rattle.machine.specs.Outcomes.{ok, need, place}
use Rattle.machine.specs.Variables.{var_words, offset_of, belongs, type_exists, fits}
use Rattle.machine.specs.Values.{part_of_block}
use Rattle.machine.specs.Context.{context_of, block_of}
use Rattle.machine.specs.Operands.{place_at, module_variable, frame_variable, whole_place}
use Rattle.machine.specs.Rule.{owns, worked, lives}
use Rattle.machine.proofs.Memories.{within-from, within_to}
use Rattle.machine.proofs.Outcomes.{need_true}
use Rattle.verdict.specs.Accepted.{Accepted}
use Rattle.sound.specs.Claims.{PlaceLaws}
use Rattle.sound.specs.Ruled.{Framed, CallChain, Worked, bottom, called, Ruled, BlockOwned}
use Rattle.sound.specs.Evaluated.{Live, GoodPlace, at_place, no_place}
use Rattle.sound.proofs.Rule.RuleRecord.{block_there, block-kind, block_owner, block_bottom, block_called, stands}
use Rattle.sound.proofs.Values.ModuleVariables.{module_plain, module_fits}
use Rattle.sound.proofs.Evaluation.OutcomeLaws.{on_need, location_area, location_word}
use Rattle.sound.proofs.Values.KnownTypes.{known-type}
use Rattle.sound.proofs.Places.LivePlaces.{whole_part, lives_housed}
use Rattle.sound.proofs.Values.BlockVariables.{variable_in, words_value, words_var, variable_type}
use Rattle.sound.proofs.Rule.WorkedProcesses.{worked_first, worked_outer}

-- the place of a variable among those of its block
pub record Placed (T : Table) (b v : ℕ) : Type 0 where
  pub number : ℕ
  pub below : number < vars T b
  pub is : v ≡ first_var T b + number

pub belongs_placed : (T : Table) (b v : ℕ) → belongs T b v ≡ true → Placed T b v
unfolding belongs
belongs_placed T b v e =
    let l = within-from (first_var T b) (vars T b) v (both_r _ _ e) in
    let h = within_to (first_var T b) (vars T b) v (both_r _ _ e) in
    record { number = v - first_var T b; below = omega arith; is = omega arith }

-- how live places arise
module _ (T : Table) (m : Memory) (p d f τ k : ℕ) (l : k < 256) where
  pub module_lives : (v w : ℕ) → 1 ≤ w → worked m p d f v w ≡ true → part_of_block T (m (module_at w)) τ k ≡ true → lives T m p d f v τ (location w k) ≡ true
  unfolding lives
  module_lives v w a t e =
      either_l _ _
      (rw (location_area w k a l, location_word w k a l)
      (both_i _ _ t e))

  pub own_lives : (v : ℕ) → 1 ≤ p → owns T m p d f τ k ≡ true → lives T m p d f v τ (location p k) ≡ true
  unfolding lives
  own_lives v a e =
      either_r _ _
      (rw (location_area p k a l, location_word p k a l)
      (both_i _ _ (eq-eqb p p refl) e))

module _ (T : Table) (m : Memory) (p d f τ : ℕ) where
  pub frame_owns : (k : ℕ) → f + 4 ≤ k → part_of_block T (called_block m p f) τ (k - (f + 4)) ≡ true → owns T m p (suc d) f τ k ≡ true
  unfolding owns
  frame_owns k l e = either_l _ _ (both_i _ _ (le-leb (f + 4) k l) e)

  -- what lives for the caller's calls lives for the call
  pub outer_lives : (w a : ℕ) → lives T m p d (caller_frame m p f) (caller_works m p f) τ a ≡ true → lives T m p (suc d) f w τ a ≡ true
  unfolding lives owns
  outer_lives w a e =
      either_case (both (worked m p d (caller_frame m p f) (caller_works m p f) (a / 256 + 1)) (part_of_block T (m (module_at (a / 256 + 1))) τ (a % 256))) (both (eqb (a / 256 + 1) p) (owns T m p d (caller_frame m p f) τ (a % 256))) e
      (λ h. either_l _ _ (both_i _ _ (worked_outer m p d f w (a / 256 + 1) (both_l _ _ h)) (both_r _ _ h)))
      (λ h. either_r _ _ (both_i _ _ (both_l _ _ h) (either_r (both (leb (f + 4) (a % 256)) (part_of_block T (called_block m p f) τ (a % 256 - (f + 4)))) _ (both_r _ _ h))))

module _ (T : Table) (acc : Accepted T) (L : PlaceLaws T) (m : Memory) (R : Ruled T m) (p : ℕ) (some : 1 ≤ p) (made : p ≤ m created_at) (s : m (status_at p) ≡ 2) where
  chain : CallChain T m p (m (depth_at p)) (m (frame_at p)) (m (works_at p)) (m (statement_at p)) (m (top_at p))
  chain = (R.process p some made).chain s

  pub live : (τ a : ℕ) → lives T m p (m (depth_at p)) (m (frame_at p)) (m (works_at p)) τ a ≡ true → Live T m p τ a
  live τ a e =
      let h = lives_housed T acc L m R p some made (m (depth_at p)) (m (frame_at p)) (m (works_at p)) (m (statement_at p)) (m (top_at p)) τ a chain e in
      record { type = h.type; alive = e; inside = h.inside; value = h.value }

  pub place_good : (τ a : ℕ) → Live T m p τ a → GoodPlace T m p τ (place_at T a τ)
  unfolding place_at
  place_good τ a l = rw (need_true (fits T a τ) (ok (place a τ)) l.inside) (at_place a l)

  works : BlockOwned T m p
  works = stands T acc m p some made (R.process p some made) s

  need_place : (k τ a : ℕ) → k < 256 → Live T m p τ a → GoodPlace T m p τ (need (ltb k 256) (place_at T a τ))
  need_place k τ a l h = rw (need_true (ltb k 256) (place_at T a τ) (lt-ltb k 256 l)) (place_good τ a h)

  -- variable i of the module of a created process
  module _ (w : ℕ) (some-w : 1 ≤ w) (made-w : w ≤ m created_at) (i : ℕ) (l : i < vars T (m (module_at w))) where
    there : m (module_at w) < block_count T
    there = block_there T acc m w (R.process w some-w made-w)

    mode : var_mode T (first_var T (m (module_at w)) + i) ≡ 2 → ⊥
    mode e = module_plain T acc (m (module_at w)) there (block-kind T acc m w (R.process w some-w made-w)) i l e

    module_word : offset_of T (m (module_at w)) (first_var T (m (module_at w)) + i) < 256
    module_word =
        let b : ℕ = m (module_at w) in
        let a = variable_in T b i l in
        let e = words_value T (first_var T b + i) mode in
        let c = L.some_words (var_type T (first_var T b + i)) (variable_type T acc b there i l) in
        let g = module_fits T acc b there (block-kind T acc m w (R.process w some-w made-w)) in
        omega arith

    module_live : Worked T m p w → Live T m p (var_type T (first_var T (m (module_at w)) + i)) (location w (offset_of T (m (module_at w)) (first_var T (m (module_at w)) + i)))
    module_live t =
        let b : ℕ = m (module_at w) in
        live (var_type T (first_var T b + i)) (location w (offset_of T b (first_var T b + i)))
        (module_lives T m p (m (depth_at p)) (m (frame_at p)) (var_type T (first_var T b + i)) (offset_of T b (first_var T b + i)) module_word (m (works_at p)) w some-w t
        (whole_part T acc L b there i l mode))

  module_good : (v : ℕ) (page : Memory) → belongs T (owner T (block_of m p)) v ≡ true → GoodPlace T m p (var_type T v) (module_variable T m page (context_of m p) (offset_of T (owner T (block_of m p)) v) (var_type T v))
  unfolding module_variable context_of
  module_good v page e =
      let k = works in
      let w : ℕ = m (works_at p) in
      let q : belongs T (m (module_at w)) v ≡ true = rw (sym k.owned) at e in
      let r = belongs_placed T (m (module_at w)) v q in
      rw (sym k.owned, r.is)
      (need_place (offset_of T (m (module_at w)) (first_var T (m (module_at w)) + r.number)) (var_type T (first_var T (m (module_at w)) + r.number)) (location w (offset_of T (m (module_at w)) (first_var T (m (module_at w)) + r.number)))
      (module_word w k.some_works k.works r.number r.below)
      (module_live w k.some_works k.works r.number r.below (worked_first m p (m (depth_at p)) (m (frame_at p)) w w refl)))

  -- variable i of the procedure of its innermost call
  module _ (d : ℕ) (deep : m (depth_at p) ≡ suc d) (F : Framed T m p d (m (frame_at p)) (m (works_at p)) (m (statement_at p)) (m (top_at p)) (called_block m p (m (frame_at p))))
      (i : ℕ) (l : i < vars T (called_block m p (m (frame_at p)))) where
    abbrev variable : ℕ
    variable = first_var T (called_block m p (m (frame_at p))) + i

    abbrev offset : ℕ
    offset = offset_of T (called_block m p (m (frame_at p))) variable

    frame_word : m (frame_at p) + 4 + offset < 256
    frame_word =
        let q : ℕ = called_block m p (m (frame_at p)) in
        let a = variable_in T q i l in
        let c = L.some_words (var_type T variable) (variable_type T acc q F.there i l) in
        let n = F.ends in
        let t = F.fits in
        let g : 1 ≤ var_words T variable = cases (eqb (var_mode T variable) 2) (λ e. let z = words_var T variable (eqb-true (var_mode T variable) 2 e) in omega arith) (λ e. let z = words_value T variable (eqb-false (var_mode T variable) 2 e) in omega arith) in
        omega arith

    frame_live : (var_mode T variable ≡ 2 → ⊥) → Live T m p (var_type T variable) (location p (m (frame_at p) + 4 + offset))
    frame_live n =
        let q : ℕ = called_block m p (m (frame_at p)) in
        let z : m (frame_at p) + 4 + offset - (m (frame_at p) + 4) ≡ offset = omega arith in
        live (var_type T variable) (location p (m (frame_at p) + 4 + offset))
        (own_lives T m p (m (depth_at p)) (m (frame_at p)) (var_type T variable) (m (frame_at p) + 4 + offset) frame_word (m (works_at p)) some
        (rw deep
        (frame_owns T m p d (m (frame_at p)) (var_type T variable) (m (frame_at p) + 4 + offset) (omega arith)
        (rw z (whole_part T acc L q F.there i l n)))))

    bound_live : var_mode T variable ≡ 2 → Live T m p (var_type T variable) (m (location p (m (frame_at p) + 4 + offset)))
    bound_live e =
        live (var_type T variable) (m (location p (m (frame_at p) + 4 + offset)))
        (rw deep (outer_lives T m p d (m (frame_at p)) (var_type T variable) (m (works_at p)) (m (location p (m (frame_at p) + 4 + offset))) (F.bound i l e)))

    variable_good : (page : Memory) → GoodPlace T m p (var_type T variable) (frame_variable T m page (context_of m p) (m (frame_at p) + 4 + offset) (var_mode T variable) (var_type T variable))
    unfolding frame_variable context_of
    variable_good page =
        cases (eqb (var_mode T variable) 2)
        (λ e. rw e (need_place (m (frame_at p) + 4 + offset) (var_type T variable) (m (location p (m (frame_at p) + 4 + offset))) frame_word (bound_live (eqb-true (var_mode T variable) 2 e))))
        (λ e. rw e (need_place (m (frame_at p) + 4 + offset) (var_type T variable) (location p (m (frame_at p) + 4 + offset)) frame_word (frame_live (eqb-false (var_mode T variable) 2 e))))

  frame_good : (v : ℕ) (page : Memory) → belongs T (owner T (block_of m p)) v ≡ false → belongs T (block_of m p) v ≡ true
      → GoodPlace T m p (var_type T v) (frame_variable T m page (context_of m p) (m (frame_at p) + 4 + offset_of T (block_of m p) v) (var_mode T v) (var_type T v))
  frame_good v page n e = go (m (depth_at p)) refl chain
    where
      go : (d : ℕ) → m (depth_at p) ≡ d → CallChain T m p d (m (frame_at p)) (m (works_at p)) (m (statement_at p)) (m (top_at p))
          → GoodPlace T m p (var_type T v) (frame_variable T m page (context_of m p) (m (frame_at p) + 4 + offset_of T (block_of m p) v) (var_mode T v) (var_type T v))
      go zero z (bottom b) =
          let x = block_bottom m p z in
          let o = block_owner T acc m p (R.process p some made) in
          let y : belongs T (m (module_at p)) v ≡ false = rw (x, o) at n in
          no_true (sym y ∙ rw x at e)
      go (suc d) z (called F C) =
          let x = block_called m p d z in
          let r = belongs_placed T (called_block m p (m (frame_at p))) v (rw x at e) in
          rw (x, r.is) (variable_good d z F r.number r.below page)

  -- WHOLE VARIABLES: one that is its owner's, or else its block's
  pub whole_good : (v : ℕ) (page : Memory) → v < var_count T → (belongs T (owner T (block_of m p)) v ≡ false → belongs T (block_of m p) v ≡ true) → GoodPlace T m p (var_type T v) (whole_place T m page (context_of m p) v)
  unfolding whole_place context_of
  whole_good v page l h =
      on_need (GoodPlace T m p (var_type T v)) no_place (type_exists T (var_type T v)) _ (known-type T acc (var_type T v) (var-type T acc.numbers v l))
      (cases (belongs T (owner T (block_of m p)) v)
      (λ e. rw e (module_good v page e))
      (λ e. rw e (on_need (GoodPlace T m p (var_type T v)) no_place (belongs T (block_of m p) v) _ (h e) (frame_good v page e (h e)))))
