-- THE LAWS OF STEPS: the step of any process, from any state that meets the rule and any page, is sound and keeps bindings; the first state
-- meets the rule. Assumes nothing.
use Prim.Native.Nat.{ℕ, ◌≤◌}
use mathlib.Core.Path.{◌≡◌}
use mathlib.Core.Bool.{true}
use Rattle.table.specs.Table.{Table}
use Rattle.machine.specs.Context.{context_of}
use Rattle.machine.specs.Run.{begin}
use Rattle.machine.specs.Rule.{rule}
use Rattle.verdict.specs.Accepted.{Accepted}
use Rattle.sound.specs.Reached.{WordTable, StepLaws, BeginLaw}
use Rattle.sound.proofs.Rule.RuleRecord.{ruled}
use Rattle.sound.proofs.Rule.Chains.{created_i}
use Rattle.sound.proofs.Values.PlaceLaws.{place_laws}
use Rattle.sound.proofs.Evaluation.Claims.{performed}
use Rattle.sound.proofs.Steps.StepSound as evaluation
use Rattle.sound.proofs.Runs.FirstStateWords.{begin_reached}
use Rattle.sound.proofs.Calls.BindingsKept.{step_bindings}
use Rattle.sound.proofs.Runs.FirstStateRule as first

module _ (T : Table) (acc : Accepted T) where
  pub begin_ruled : (number : ℕ) → number ≤ 1 → rule T (begin T number) ≡ true
  begin_ruled number l = first.begin_ruled T acc number l (place_laws T acc)

  module _ (words : WordTable T) where
    pub begin_law : BeginLaw T
    begin_law = begin_reached T acc words begin_ruled

    -- THE STEP
    pub step_laws : StepLaws T
    unfolding context_of
    step_laws =
        record {
          sound = evaluation.step_sound T acc acc.scopes words;
          bindings = λ m page p r ms ps.
              step_bindings T acc (place_laws T acc) m (ruled T m r) page p
              (λ l g s. performed T acc acc.scopes (place_laws T acc) words m page p (record { ruled = r; created = created_i m p l g; started = s }) ms ps);
        }
