-- The state rule is worth what 01 says, for every table that the verdict accepts. Assumes nothing.
use Prim.Native.Nat.{ℕ}
use mathlib.Core.Path.{◌≡◌, sym, ◌∙◌}
use mathlib.Core.Bool.{true}
use mathlib.Core.List.{List}
use Rattle.words.specs.Bytes.{Bytes}
use Rattle.table.specs.Table.{Table, table_of}
use Rattle.machine.specs.Memory.{Memory}
use Rattle.machine.specs.Step.{done}
use Rattle.machine.specs.Rule.{rule}
use Rattle.verdict.specs.Accepted.{Accepted}
use Rattle.verdict.specs.Verdict.{verdict}
use Rattle.verdict.proofs.Promise.{promise}
use Rattle.sound.specs.Answers.{Small}
use Rattle.sound.specs.Reached.{WordTable}
use Rattle.sound.specs.StateRule.{Reachable, at_begin, by_step, StateRule}
use Rattle.sound.proofs.Runs.FirstStateWords.{word_table}
use Rattle.sound.proofs.Rule.ValuesInUse.{rule_values}
use Rattle.sound.proofs.Rule.Workers.{works_apart, works_own}
use Rattle.sound.proofs.Space.OwnFrames.{own_frames}
use Rattle.sound.proofs.Steps.StepLaws.{begin_law, step_laws}

same_state : (a b : ℕ) (s t d e : Memory) → done a s d ≡ done b t e → s ≡ t
same_state a b s t d e h = cc

module _ (T : Table) (acc : Accepted T) (words : WordTable T) where
  reachable_rule : (m : Memory) → Reachable T m → (rule T m ≡ true) × Small m
  reachable_rule _ (at_begin number l) = let h = (begin_law T acc words).reached number l in (h.ruled, h.words)
  reachable_rule s (by_step {m = m} {page = page} {d = d} {a = a} p r ps e) =
      let h = reachable_rule m r in
      let u = (step_laws T acc words).sound m page p h.0 h.1 ps in
      rw (same_state a u.answer s u.state d u.page (sym e ∙ u.is)) (u.ruled, u.words)

  pub accepted_rule : StateRule T
  accepted_rule = record {
    reached = λ m r. (reachable_rule m r).0;
    steps = λ m page p ms ps r. (step_laws T acc words).sound m page p r ms ps;
    values = λ m ms r. rule_values T m ms r;
    apart = λ m r. works_apart T m r;
    own = λ m r. works_own T m r;
    frames = λ m r. own_frames T m r;
  }

-- THE THEOREM
pub state_rule : (w : ℕ) (t : List ℕ) → Bytes t → verdict w t ≡ 0 → StateRule (table_of w t)
state_rule w t b v = accepted_rule (table_of w t) (promise w t v) (word_table w t b)
