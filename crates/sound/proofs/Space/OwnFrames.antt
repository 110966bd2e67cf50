-- All calls of a started process that works on its own variables are its own: its first free word tells what they take. Assumes nothing.
use Prim.Native.Nat.{ℕ, zero, suc, ◌+◌}
use mathlib.Core.Path.{◌≡◌}
use mathlib.Core.Bool.{true}
use native.Mathlib.Omega.{arith}
use borrow.Author.Tests.{eq-eqb}
use Rattle.table.specs.Table.{Table}
use Rattle.sizes.specs.Sizes.{module_words}
use Rattle.machine.specs.Memory.{Memory}
use Rattle.machine.specs.Layout.{status_at, module_at, statement_at, frame_at, top_at, works_at, depth_at, caller_frame, call_statement, caller_works, called_block}
use Rattle.machine.specs.Rule.{rule}
use Rattle.machine.specs.Space.{call_words, own_words}
use Rattle.sound.specs.InUse.{Created}
use Rattle.sound.specs.Ruled.{CallChain, bottom, called}
use Rattle.sound.proofs.Rule.RuleRecord.{ruled}
use Rattle.sound.proofs.Rule.Workers.{own_caller}

module _ (T : Table) (m : Memory) (p : ℕ) where
  -- one call more
  pub own_more : (d f : ℕ) → caller_works m p f ≡ p → own_words T m p (suc d) f ≡ call_words T (called_block m p f) + own_words T m p d (caller_frame m p f)
  unfolding own_words
  own_more d f e = rw (eq-eqb (caller_works m p f) p e)

  chain_words : (d f w c top : ℕ) → w ≡ p → CallChain T m p d f w c top → top ≡ module_words T (m (module_at p)) + own_words T m p d f
  unfolding own_words call_words
  chain_words zero f w c top i (bottom k) = let e = k.ends in omega arith
  chain_words (suc d) f w c top i (called k r) =
      let o = own_caller T m p d f w c top i (called k r) in
      let x = chain_words d (caller_frame m p f) (caller_works m p f) (call_statement m p f) f o r in
      let e = k.ends in
      rw (own_more d f o) (omega arith)

pub own_frames : (T : Table) (m : Memory) → rule T m ≡ true → (p : ℕ) → Created m p → m (status_at p) ≡ 2 → m (works_at p) ≡ p
    → m (top_at p) ≡ module_words T (m (module_at p)) + own_words T m p (m (depth_at p)) (m (frame_at p))
own_frames T m e p c s w =
    chain_words T m p (m (depth_at p)) (m (frame_at p)) (m (works_at p)) (m (statement_at p)) (m (top_at p)) w
    (((ruled T m e).process p c.least c.most).chain s)
