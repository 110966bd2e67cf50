-- Who works on what, in a state that meets the rule: two processes that stand at no when or cycle work on different variables, and one that
-- works on its own variables is in calls of its own module's procedures only. Assumes nothing.
use Prim.Native.Nat.{ℕ, suc}
use mathlib.Core.Path.{◌≡◌, refl, sym, ◌∙◌}
use mathlib.Core.Bool.{true}
use Rattle.table.specs.Table.{Table}
use Rattle.table.specs.Entries.{owner}
use Rattle.machine.specs.Memory.{Memory}
use Rattle.machine.specs.Layout.{module_at, statement_at, frame_at, top_at, works_at, holder_at, depth_at, caller_frame, call_statement, caller_works, called_block}
use Rattle.machine.specs.Entries.{stmt_at}
use Rattle.machine.specs.Rule.{rule}
use Rattle.sound.specs.InUse.{CallAt, innermost, caller}
use Rattle.sound.specs.Ruled.{CallChain, called, Ruled}
use Rattle.sound.specs.StateRule.{NotWaiting}
use Rattle.sound.proofs.Rule.RuleRecord.{ruled}
use Rattle.sound.proofs.Rule.WorkedProcesses.{worked_first, worked_own, works_outer, held_fast}

-- a call that works on its process was made while the process worked on itself
pub own_caller : (T : Table) (m : Memory) (p d f w c top : ℕ) → w ≡ p → CallChain T m p (suc d) f w c top → caller_works m p f ≡ p
own_caller T m p d f w c top i (called k r) =
    works_outer T m p d f w (stmt_at T (call_statement m p f)) k.by (rw i (worked_own T m p r)) ∙ i

module _ (T : Table) (m : Memory) (e : rule T m ≡ true) where
  h : Ruled T m
  h = ruled T m e

  -- a process that stands at no when or cycle holds what it works on
  unwaiting_holds : (p : ℕ) → NotWaiting T m p → m (holder_at (m (works_at p))) ≡ p
  unwaiting_holds p g =
      held_fast T m p (m (works_at p)) g.passing
      ((h.process p g.created.least g.created.most).holding g.started (m (works_at p)) (worked_first m p (m (depth_at p)) (m (frame_at p)) (m (works_at p)) (m (works_at p)) refl))

  pub works_apart : (p q : ℕ) → NotWaiting T m p → NotWaiting T m q → m (works_at p) ≡ m (works_at q) → p ≡ q
  works_apart p q a b w = sym (unwaiting_holds p a) ∙ rw w (unwaiting_holds q b)

  -- a call of process p, with d calls below it, that works on p
  record OwnCall (p d f : ℕ) : Type 0 where
    works : ℕ
    statement : ℕ
    top : ℕ
    chained : CallChain T m p (suc d) f works statement top
    own : works ≡ p

  -- what made it works on p too
  own_outer : (p d f w c top : ℕ) → w ≡ p → CallChain T m p (suc (suc d)) f w c top → OwnCall p d (caller_frame m p f)
  own_outer p d f w c top i (called k r) =
      record {
        works = caller_works m p f;
        statement = call_statement m p f;
        top = f;
        chained = r;
        own = own_caller T m p (suc d) f w c top i (called k r);
      }

  own_call : (p d f : ℕ) → m (works_at p) ≡ p → CallAt T m p d f → OwnCall p d f
  own_call p d f w (innermost c s i z) =
      record { works = m (works_at p); statement = m (statement_at p); top = m (top_at p); chained = rw z (rw i at ((h.process p c.least c.most).chain s)); own = w }
  own_call p d f w (caller g c z) =
      let o = own_call p (suc d) g w c in
      rw z (own_outer p d g o.works o.statement o.top o.own o.chained)

  own_module : (p d f w c top : ℕ) → w ≡ p → CallChain T m p (suc d) f w c top → owner T (called_block m p f) ≡ m (module_at p)
  own_module p d f w c top i (called k r) = rw i at k.owned

  pub works_own : (p : ℕ) → m (works_at p) ≡ p → (d f : ℕ) → CallAt T m p d f → owner T (called_block m p f) ≡ m (module_at p)
  works_own p w d f c = let o = own_call p d f w c in own_module p d f o.works o.statement o.top o.own o.chained
