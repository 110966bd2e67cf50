-- A field or element of a live place is live. Assumes nothing.
use Prim.Native.Nat.{ℕ, ◌+◌, ◌-◌, ◌*◌, ◌/◌, ◌%◌, ◌≤◌, ◌<◌}
use mathlib.Core.Path.{◌≡◌}
use mathlib.Core.Bool.{true}
use native.Mathlib.Omega.{arith}
use native.Mathlib.Nat.{zero-add}
use lib.Dec.{eqb, leb}
use borrow.Author.Tests.{leb-true, le-leb}
use Rattle.basics.specs.Choice.{both}
use Rattle.basics.proofs.Bools.{both_l, both_r, both_i, either_l, either_r, either_case}
use Rattle.table.specs.Table.{Table}
use Rattle.table.specs.Entries.{type_count, block_count, var_type, field_type, first_var}
use Rattle.types.specs.Match.{elements}
use Rattle.sizes.specs.Sizes.{words_of, offset_in}
use Rattle.machine.specs.Memory.{Memory}
use Rattle.machine.specs.Layout.{status_at, module_at, statement_at, frame_at, top_at, works_at, depth_at, created_at, caller_frame, call_statement, caller_works, called_block}
use Rattle.machine.specs.Entries.{record_type, array_type, type_at}
use Rattle.machine.specs.Variables.{offset_of, fits}
use Rattle.machine.specs.Values.{part, part_of_block}
use Rattle.machine.specs.Rule.{owns, worked, lives}
use Rattle.verdict.specs.Accepted.{Accepted}
use Rattle.sound.specs.Claims.{PlaceLaws}
use Rattle.sound.specs.Ruled.{CallChain, bottom, called, Ruled}
use Rattle.sound.specs.Evaluated.{Live}
use Rattle.sound.proofs.Rule.RuleRecord.{block_there}
use Rattle.sound.proofs.Places.WholeVariables.{live}
use Rattle.sound.proofs.Values.BlockVariables.{words_value, variable_type, in_block, block_i}
use Rattle.sound.proofs.Rule.WorkedProcesses.{worked_created}

-- wherever a part of type σ begins, one of type τ begins k words further on
pub record Further (T : Table) (σ τ k : ℕ) : Type 0 where
  pub on : (ρ j : ℕ) → ρ < 3 + type_count T → part T σ ρ j ≡ true → part T τ ρ (j + k) ≡ true

pub further_field : (T : Table) (L : PlaceLaws T) (σ first count i : ℕ) → type_at T σ ≡ record_type first count → i < count → Further T σ (field_type T (first + i)) (offset_in T σ i)
further_field T L σ first count i e l = record { on = λ ρ j h q. L.part_field σ ρ j first count i h q e l }

pub further_element : (T : Table) (L : PlaceLaws T) (σ ι ε low high i : ℕ) → type_at T σ ≡ array_type ι ε low high → i < elements T σ → Further T σ ε (i * words_of T ε)
further_element T L σ ι ε low high i e l = record { on = λ ρ j h q. L.part_element σ ρ j ι ε low high i h q e l }

module _ (T : Table) (acc : Accepted T) (L : PlaceLaws T) (σ τ k : ℕ) (t : σ < 3 + type_count T) (F : Further T σ τ k) where
  within_type : (τ < 3 + type_count T) × (k + words_of T τ ≤ words_of T σ)
  within_type = L.part-in τ σ k t (rw zero-add at (F.on σ 0 t (L.part_self σ)))

  further_block : (b j : ℕ) → b < block_count T → part_of_block T b σ j ≡ true → part_of_block T b τ (j + k) ≡ true
  further_block b j there e =
      let r = in_block T b σ j e in
      let v : ℕ = first_var T b + r.i in
      let l = r.from in
      let y = variable_type T acc b there r.i r.there in
      let z : j + k - offset_of T b v ≡ j - offset_of T b v + k = omega arith in
      let g = F.on (var_type T v) (j - offset_of T b v) y r.part in
      let i = L.part-in τ (var_type T v) (j - offset_of T b v + k) y g in
      let h = i.1 in
      let w = L.some_words τ i.0 in
      let u = words_value T v r.mode in
      block_i T b τ (j + k) (record { i = r.i; there = r.there; mode = r.mode; from = omega arith; part = rw z g }) (omega arith)

  further_owns : (m : Memory) (p d f w c top j : ℕ) → CallChain T m p d f w c top → owns T m p d f σ j ≡ true → owns T m p d f τ (j + k) ≡ true
  unfolding owns
  further_owns m p _ f w c top j (bottom b) e = e
  further_owns m p _ f w c top j (called {d} G C) e =
      either_case (both (leb (f + 4) j) (part_of_block T (called_block m p f) σ (j - (f + 4)))) (owns T m p d (caller_frame m p f) σ j) e
      (λ q.
      let l : f + 4 ≤ j = leb-true (f + 4) j (both_l _ _ q) in
      let z : j + k - (f + 4) ≡ j - (f + 4) + k = omega arith in
      either_l _ _ (both_i _ _ (le-leb (f + 4) (j + k) (omega arith)) (rw z (further_block (called_block m p f) (j - (f + 4)) G.there (both_r _ _ q)))))
      (λ q. either_r _ _ (further_owns m p d (caller_frame m p f) (caller_works m p f) (call_statement m p f) f j C q))

  module _ (m : Memory) (R : Ruled T m) (p : ℕ) (some : 1 ≤ p) (made : p ≤ m created_at) (s : m (status_at p) ≡ 2) where
    chain : CallChain T m p (m (depth_at p)) (m (frame_at p)) (m (works_at p)) (m (statement_at p)) (m (top_at p))
    chain = (R.process p some made).chain s

    module _ (a : ℕ) (fit : fits T a σ ≡ true) where
      room : a % 256 + words_of T σ ≤ 256
      unfolding fits
      room = leb-true (a % 256 + words_of T σ) 256 (both_r _ _ fit)

      area : (a + k) / 256 ≡ a / 256
      area = let h = room in let g = within_type.1 in let w = L.some_words τ within_type.0 in omega arith

      word : (a + k) % 256 ≡ a % 256 + k
      word = let h = room in let g = within_type.1 in let w = L.some_words τ within_type.0 in omega arith

      further_lives : lives T m p (m (depth_at p)) (m (frame_at p)) (m (works_at p)) σ a ≡ true → lives T m p (m (depth_at p)) (m (frame_at p)) (m (works_at p)) τ (a + k) ≡ true
      unfolding lives
      further_lives e =
          rw (area, word)
          (either_case (both (worked m p (m (depth_at p)) (m (frame_at p)) (m (works_at p)) (a / 256 + 1)) (part_of_block T (m (module_at (a / 256 + 1))) σ (a % 256))) (both (eqb (a / 256 + 1) p) (owns T m p (m (depth_at p)) (m (frame_at p)) σ (a % 256))) e
          (λ q.
          let c : ℕ = a / 256 + 1 in
          let h = both_l _ _ q in
          let n = worked_created T m p some made chain c h in
          let y = block_there T acc m c (R.process c n.least n.most) in
          either_l _ _ (both_i _ _ h (further_block (m (module_at c)) (a % 256) y (both_r _ _ q))))
          (λ q. either_r _ _ (both_i _ _ (both_l _ _ q) (further_owns m p (m (depth_at p)) (m (frame_at p)) (m (works_at p)) (m (statement_at p)) (m (top_at p)) (a % 256) chain (both_r _ _ q)))))

    -- A PART OF A LIVE PLACE is live
    pub live_part : (a : ℕ) → Live T m p σ a → Live T m p τ (a + k)
    live_part a l = live T acc L m R p some made s τ (a + k) (further_lives a l.inside l.alive)
