-- Variables of areas and frames: the laws of each return. Assumes nothing.
use Prim.Native.Nat.{ℕ, suc, ◌+◌, ◌-◌, ◌/◌, ◌%◌, ◌≤◌, ◌<◌}
use mathlib.Core.Path.{◌≡◌, sym, ◌∙◌}
use mathlib.Core.Bool.{Bool, true, false}
use mathlib.Core.List.{List}
use lib.Dec.{eqb}
use native.Mathlib.Omega.{arith}
use native.Mathlib.Nat.{add-zero}
use borrow.Author.Tests.{eq-eqb, ne_eqb, le-leb, lt-leb}
use Rattle.basics.specs.Choice.{both, either, all_below}
use Rattle.basics.proofs.Passes.{passed_none, passed_more, passed_fail, passed_all}
use Rattle.table.specs.Table.{Table}
use Rattle.table.specs.Entries.{var_mode, var_type, first_var, vars}
use Rattle.sizes.proofs.Judging.{any_small}
use Rattle.machine.specs.Memory.{Memory}
use Rattle.machine.specs.Layout.{location, link_at, module_at}
use Rattle.machine.specs.Variables.{var_words, first_words}
use Rattle.machine.specs.Values.{holds, part_of_block}
use Rattle.machine.specs.Rule.{owns, worked, lives, module_holds, modules_hold, frame_holds, frames_hold}
use Rattle.values.specs.Walks.{SmallSizes, Near, WordCount, Walked}
use Rattle.values.specs.Heads.{Head}
use Rattle.state_rule.specs.Frames.{variable_row, variable_holds, lives_in_module, owned_in, frame_variable_ok}
use Rattle.values.proofs.Values.{all_same}
use Rattle.values.proofs.Heading.{v_free}
use Rattle.values.proofs.Parts.{first-none, first_more, offset_first}

pub near_any : (T : Table) (l : List ℕ) (x a : ℕ) → SmallSizes T l → a ≤ 15000000 → Near T x a
near_any T l x a h g = let u = any_small T l h.sizes h.sized x in record { near = omega arith }

pub variable_is : (T : Table) (m : Memory) (p v a x l : ℕ) (r : Bool) → x ≡ var_type T v → l ≡ location p a → r ≡ holds T m x l → r ≡ variable_holds T m p v a
unfolding variable_holds
variable_is T m p v a x l r e g h = rw (← e, ← g) h

pub variable-free : (T : Table) (m : Memory) (p v a x h : ℕ) → x ≡ var_type T v → Head T x h → h ≡ 0 → true ≡ variable_holds T m p v a
unfolding variable_holds
variable-free T m p v a x h e d z = rw (← e) (v_free T m x h (location p a) d z)

pub ruleset variables = (near_any, variable_is, variable-free)

-- ---- passes over the variables of a block

module _ (T : Table) (b : ℕ) (test : ℕ → ℕ → Bool) where
  pub walked_none : Walked (first_words T b) (variable_row T b test) 0 0
  walked_none = record { is = sym (first-none T b); small = omega arith; passed = passed_none (variable_row T b test) }

  module _ (i k n : ℕ) (h : Walked (first_words T b) (variable_row T b test) i k) (l : i < n) (g : n < 65536) where
    pub walked_small : k ≤ 13900000
    walked_small = let u = h.small in omega arith

    pub walked_near : k ≤ 14000000
    walked_near = let u = h.small in omega arith

  module _ (i k first : ℕ) (h : Walked (first_words T b) (variable_row T b test) i k) (hp : first ≡ first_var T b) (r : Bool) (e : r ≡ test (first + i) k) where
    row_is : r ≡ variable_row T b test i
    unfolding variable_row
    row_is = rw (← hp, ← h.is) e

    pub walked_more : (w : ℕ) → r ≡ true → WordCount (var_words T (first + i)) w → Walked (first_words T b) (variable_row T b test) (i + 1) (k + w)
    walked_more w g x =
        let u = h.is in
        let v = h.small in
        let y = x.is in
        let s = x.small in
        let z : first_words T b (i + 1) ≡ first_words T b i + w = first_more T b i ∙ rw (← hp, ← x.is) in
        record { is = omega arith; small = omega arith; passed = passed_more (variable_row T b test) i r row_is h.passed g }

    pub walked_fail : (n : ℕ) (x : Bool) → all_below (vars T b) (variable_row T b test) ≡ x → n ≡ vars T b → i < n → r ≡ false → false ≡ x
    walked_fail n x y q l g = rw (← y) (passed_fail (variable_row T b test) i r row_is (vars T b) (rw q at l) g)

  pub walked_all : (i k n : ℕ) (x : Bool) → all_below (vars T b) (variable_row T b test) ≡ x → Walked (first_words T b) (variable_row T b test) i k → n ≡ vars T b → i ≤ n → n ≤ i → true ≡ x
  walked_all i k n x y h q l g = rw (← y) (passed_all (variable_row T b test) i (vars T b) h.passed (rw q at l) (rw q at g))

-- the variables of a module, and of a frame
pub modules_is : (T : Table) (m : Memory) (p b : ℕ) → all_below (vars T b) (variable_row T b (variable_holds T m p)) ≡ modules_hold T m p b
unfolding modules_hold module_holds variable_row variable_holds
modules_is T m p b = all_same (vars T b) _ _ (λ i. rw (offset_first T b i))

pub frames_is : (T : Table) (m : Memory) (p d f q : ℕ) → all_below (vars T q) (variable_row T q (frame_variable_ok T m p d f)) ≡ frames_hold T m p d f q
unfolding frames_hold frame_holds variable_row frame_variable_ok variable_holds
frames_is T m p d f q = all_same (vars T q) _ _ (λ i. rw (offset_first T q i))

pub ruleset walking = (walked_none, walked_fail, walked_all, modules_is, frames_is)

-- ---- live variables

-- the search for what a process worked on goes from frame to frame
module _ (m : Memory) (p r d f w i g v : ℕ) (h : worked m p (d - i) g v r ≡ worked m p d f w r) where
  module _ (l : i < d) where
    fewer : d - i ≡ suc (d - (i + 1))
    fewer = omega arith

    pub worked_found : v ≡ r → true ≡ worked m p d f w r
    unfolding worked either
    worked_found x = (rw (fewer, eq-eqb v r x) at h)

    pub worked_next : (g' v' : ℕ) → (v ≡ r → ⊥) → v' ≡ m (location p (g + 2)) → g' ≡ m (location p g) → worked m p (d - (i + 1)) g' v' r ≡ worked m p d f w r
    unfolding worked either link_at
    worked_next g' v' x hv hg = rw (hv, hg) (rw (fewer, ne_eqb v r x, add-zero g) at h)

  pub worked_last : d ≤ i → eqb v r ≡ worked m p d f w r
  unfolding worked
  worked_last l = let e : d - i ≡ 0 = omega arith in (rw e at h)

pub ruleset working = (worked_found, worked_next, worked_last)

module _ (T : Table) (m : Memory) (p d f w τ a : ℕ) where
  module _ (c : Bool) (h : c ≡ worked m p d f w (a / 256 + 1)) where
    pub in_none : c ≡ false → false ≡ lives_in_module T m p d f w τ a
    unfolding lives_in_module both
    in_none e = rw (← h, e)

    pub in_some : (b : ℕ) (r : Bool) → c ≡ true → b ≡ m (module_at (a / 256 + 1)) → r ≡ part_of_block T b τ (a % 256) → r ≡ lives_in_module T m p d f w τ a
    unfolding lives_in_module both
    in_some b r e g z = rw (← h, e, ← g) z

  module _ (c : Bool) (h : c ≡ lives_in_module T m p d f w τ a) where
    pub lives_module : c ≡ true → true ≡ lives T m p d f w τ a
    unfolding lives either lives_in_module
    lives_module e = rw (← h, e)

    pub lives_frame : (r : Bool) → c ≡ false → a / 256 + 1 ≡ p → r ≡ owns T m p d f τ (a % 256) → r ≡ lives T m p d f w τ a
    unfolding lives either lives_in_module both
    lives_frame r e g z = rw (← h, e, eq-eqb (a / 256 + 1) p g) z

    pub lives_none : c ≡ false → (a / 256 + 1 ≡ p → ⊥) → false ≡ lives T m p d f w τ a
    unfolding lives either lives_in_module both
    lives_none e g = rw (← h, e, ne_eqb (a / 256 + 1) p g)

module _ (T : Table) (m : Memory) (p τ k : ℕ) where
  pub owned_none : (f : ℕ) → k < f + 4 → false ≡ owned_in T m p f τ k
  unfolding owned_in both
  owned_none f h = rw (lt-leb (f + 4) k h)

  pub owned_some : (f b : ℕ) (r : Bool) → f + 4 ≤ k → b ≡ m (location p (f + 3)) → r ≡ part_of_block T b τ (k - (f + 4)) → r ≡ owned_in T m p f τ k
  unfolding owned_in both link_at
  owned_some f b r h e z = rw (le-leb (f + 4) k h, ← e) z

  -- the search goes from frame to frame
  module _ (d f i g : ℕ) (h : owns T m p (d - i) g τ k ≡ owns T m p d f τ k) where
    module _ (c : Bool) (e : c ≡ owned_in T m p g τ k) (l : i < d) where
      less : d - i ≡ suc (d - (i + 1))
      less = omega arith

      pub owns_found : c ≡ true → true ≡ owns T m p d f τ k
      unfolding owns either owned_in
      owns_found x = (rw (less, ← e, x) at h)

      pub owns_next : (g' : ℕ) → c ≡ false → g' ≡ m (location p g) → owns T m p (d - (i + 1)) g' τ k ≡ owns T m p d f τ k
      unfolding owns either owned_in link_at
      owns_next g' x y = rw y (rw (less, ← e, x, add-zero g) at h)

    pub owns_none : d ≤ i → false ≡ owns T m p d f τ k
    unfolding owns
    owns_none l = let e : d - i ≡ 0 = omega arith in (rw e at h)

pub ruleset owning = (owns_found, owns_next, owns_none)

module _ (T : Table) (m : Memory) (p d f v a mode : ℕ) (hm : mode ≡ var_mode T v) (r : Bool) where
  pub frame_bound : (x y g w : ℕ) → mode ≡ 2 → x ≡ var_type T v → y ≡ m (location p (f + 4 + a)) → g ≡ m (location p f) → w ≡ m (location p (f + 2)) → r ≡ lives T m p d g w x y → r ≡ frame_variable_ok T m p d f v a
  unfolding frame_variable_ok link_at
  frame_bound x y g w e hx hy hg hw h = rw (← hm, eq-eqb mode 2 e, ← hx, ← hy, add-zero f, ← hg, ← hw) h

  pub frame_value : (mode ≡ 2 → ⊥) → r ≡ variable_holds T m p v (f + 4 + a) → r ≡ frame_variable_ok T m p d f v a
  unfolding frame_variable_ok
  frame_value e h = rw (← hm, ne_eqb mode 2 e) h
