-- THE RULE is kept where marks are set: it is about areas and control records. Assumes nothing.
use Prim.Native.Nat.{ℕ, ◌≤◌, ◌<◌}
use mathlib.Core.Path.{◌≡◌, sym, ◌∙◌}
use mathlib.Core.Bool.{Bool, true}
use mathlib.Core.List.{List}
use native.Mathlib.Omega.{arith}
use Rattle.table.specs.Table.{Table}
use Rattle.machine.specs.Memory.{Memory}
use Rattle.machine.specs.Layout.{location, record_at, created_at}
use Rattle.machine.specs.Marks.{set_marks}
use Rattle.machine.specs.Context.{Context}
use Rattle.machine.specs.Calls.{frame_marked}
use Rattle.machine.specs.Rule.{rule}
use Rattle.machine.proofs.MarkLaws.{SameWords, same_words, same_marks, location_plain, record_plain}
use Rattle.machine.proofs.MarkLaws as marks
use Rattle.verdict.specs.Accepted.{Accepted}
use Rattle.sound.specs.Claims.{PlaceLaws}
use Rattle.sound.specs.Answers.{Small}
use Rattle.sound.specs.Ruled.{Ruled, ProcessesStay}
use Rattle.sound.proofs.Rule.RuleRecord.{ruled, rules}
use Rattle.sound.proofs.Rule.Processes.{process_alike}

-- words stay words
pub marks_small : (m : Memory) (a n : ℕ) (v : Bool) → Small m → Small (set_marks m a n v)
marks_small m a n v h = record { small = marks.marks_small m a n v h.small }

-- the marks of a frame
module _ (T : Table) (m page : Memory) (x : Context) (s : Memory) (q : ℕ) (ws : List ℕ) where
  pub frame_marks : SameWords s (frame_marked T m page x s q ws)
  unfolding frame_marked
  frame_marks = same_marks s _ _ _ _ (same_marks s s _ _ _ (same_words s))

  pub frame_marks_small : Small s → Small (frame_marked T m page x s q ws)
  unfolding frame_marked
  frame_marks_small h = marks_small _ _ _ _ (marks_small s _ _ _ h)

module _ (m s : Memory) (h : SameWords m s) where
  pub marks_record : (p k : ℕ) → 1 ≤ p → p ≤ 64 → k < 20 → s (record_at p k) ≡ m (record_at p k)
  marks_record p k a b l = h.plain (record_at p k) (record_plain p k b l)

  pub marks_area : (p j : ℕ) → 1 ≤ p → p ≤ 64 → j < 256 → s (location p j) ≡ m (location p j)
  marks_area p j a b l = h.plain (location p j) (location_plain p j a b l)

  pub marks_carries : m created_at ≤ 64 → ProcessesStay m s
  marks_carries u =
      let e = marks_record 1 8 (omega arith) (omega arith) (omega arith) in
      record {
        grows = omega arith;
        modules = λ p a b. marks_record p 1 a (omega arith) (omega arith);
        begun = λ p a b n z. n (sym (marks_record p 0 a (omega arith) (omega arith)) ∙ z);
      }

module _ (T : Table) (ok : Accepted T) (L : PlaceLaws T) (m s : Memory) (h : SameWords m s) where
  -- THE MARKS
  pub marks_ruled : Ruled T m → Ruled T s
  marks_ruled r =
      let e8 = marks_record m s h 1 8 (omega arith) (omega arith) (omega arith) in
      let e9 = marks_record m s h 1 9 (omega arith) (omega arith) (omega arith) in
      let e10 = marks_record m s h 1 10 (omega arith) (omega arith) (omega arith) in
      let u = r.most in
      record {
        some = let y = r.some in omega arith;
        most = omega arith;
        failed = rw e9 r.failed;
        number = let y = r.number in omega arith;
        process = λ p l g.
            let g' : p ≤ m created_at = omega arith in
            process_alike T ok L m s (marks_carries m s h u) p l g' (r.process p l g')
            (λ i z. marks_record m s h p i l (omega arith) (omega arith))
            (λ j z. marks_area m s h p j l (omega arith) z)
            (λ x z. let w = z.most in marks_record m s h x 6 z.least (omega arith) (omega arith));
      }

  pub marks_rule : rule T m ≡ true → rule T s ≡ true
  marks_rule e = rules T s (marks_ruled (ruled T m e))
