-- The guards of arms in the order written: what each evaluation may ask, and each return. Assumes nothing.
use Prim.Native.Nat.{ℕ, zero, suc, ◌-◌, ◌<◌}
use mathlib.Core.Path.{◌≡◌, refl, sym, ap, ◌∙◌}
use mathlib.Core.List.{List}
use lib.Dec.{eqb, ltb}
use native.Mathlib.Omega.{arith}
use borrow.Author.Tests.{ne_eqb, ltb-true, ltb-false}
use Rattle.basics.specs.Choice.{pick}
use Rattle.basics.specs.Cases.{cases}
use Rattle.table.specs.Table.{Table}
use Rattle.table.specs.Entries.{stmt_count, stmt_kind, stmt_a, stmt_link}
use Rattle.table.specs.Reading.{Field}
use Rattle.numbers.proofs.OperandPromise.{arm_guard}
use Rattle.typing.proofs.Promise as typing
use Rattle.code.specs.Code.{decoded}
use Rattle.machine.specs.Memory.{Memory, memory_of}
use Rattle.machine.specs.Context as machine
use Rattle.machine.specs.Outcomes.{Outcome, ok, stuck, need, on_word}
use Rattle.machine.specs.Operands.{operand}
use Rattle.machine.specs.Statements.{Choice, enters, skips, choose}
use Rattle.operands.specs.declared.Context.{Context}
use Rattle.operands.specs.Answers.{first_word, Unstuck, Evaluable, OneWord}
use Rattle.operands.specs.Packed.{WordIs}
use Rattle.operands.specs.Ready.{context_in}
use Rattle.operands.proofs.OneWords.{one_standard}
use Rattle.operands.proofs.Packing.{told_word, told_failure}
use Rattle.engine.specs.Making.{HasRow}
use Rattle.evaluation.specs.Acting.{GuardRows, Rowed, Acting}
use Rattle.evaluation.proofs.Roots.{arm_rowed}
use Rattle.guards.specs.Guards.{picks, Choosable, Choosing, Picked}
use Rattle.guards.proofs.Arms.{through, same_unstuck, word_unstuck, word_failed, word_given, at_arm, arms_there, end_is}

-- after the arm i: what its guard, a word, comes to; at most n arms follow
unfoldable pub judged : Table → Memory → Memory → machine.Context → ℕ → ℕ → ℕ → Outcome Choice
judged T m page x n i w =
    pick (eqb w 0) (need (ltb i (stmt_link T i)) (choose T m page x n (stmt_link T i))) (ok (enters i))

module _ (T : Table) (k : List ℕ) (m page : Memory) (x : machine.Context) where
  -- an arm that is tried
  record Tried (n i : ℕ) : Type 0 where
    pub left : ℕ
    pub below : i < stmt_count T
    pub is : choose T m page x n i ≡ on_word (operand T m page x (stmt_a T i)) 1 (judged T m page x left i)
    pub row : HasRow T k (stmt_a T i)
    pub guards : GuardRows T k left (stmt_link T i)

  tried : (n i : ℕ) → (choose T m page x n i ≡ stuck → ⊥) → GuardRows T k n i → stmt_kind T i ≡ 10 → Tried n i
  unfolding choose judged GuardRows
  tried zero i g r e = absurd (g refl)
  tried (suc n) i g r e =
      let l = arms_there T i _ _ g in
      let d = r l e in
      record { left = n; below = l; is = at_arm T i _ _ l e; row = d.0; guards = d.1 }

  reached : (n i : ℕ) → (choose T m page x n i ≡ stuck → ⊥) → (stmt_kind T i ≡ 10 → ⊥) → (choose T m page x n i ≡ ok (skips i)) × (i < stmt_count T)
  unfolding choose
  reached zero i g e = absurd (g refl)
  reached (suc n) i g e = (end_is T i _ _ g e, arms_there T i _ _ g)

  judged_false : (n i : ℕ) → (judged T m page x n i 0 ≡ stuck → ⊥) → (i < stmt_link T i) × (judged T m page x n i 0 ≡ choose T m page x n (stmt_link T i))
  unfolding judged need
  judged_false n i g = let b = through (ltb i (stmt_link T i)) _ g in (ltb-true i (stmt_link T i) b, rw b)

  judged_true : (n i w : ℕ) → (w ≡ 0 → ⊥) → judged T m page x n i w ≡ ok (enters i)
  unfolding judged
  judged_true n i w g = rw (ne_eqb w 0 g)

  pub choosing_none : (i : ℕ) → Choosable T m page x i → GuardRows T k (stmt_count T) i → Choosing T k m page x i i
  choosing_none i c r = record { left = stmt_count T; rest = refl; guards = r; unstuck = c.unstuck }

  module _ (i j : ℕ) (c : Choosing T k m page x i j) (s : ℕ) (hs : Field (stmt_kind T j) s) where
    free : choose T m page x c.left j ≡ stuck → ⊥
    free = same_unstuck c.rest c.unstuck

    pub choose_ends : (s ≡ 10 → ⊥) → Picked T m page x i (record { at = j; value = 0 })
    unfolding picks
    choose_ends n =
        let d = reached c.left j free (λ e. n (hs.is ∙ e)) in
        record { is = sym d.0 ∙ c.rest; below = d.1; listed = record { is = λ g. absurd (omega arith) } }

    module _ (e : s ≡ 10) where
      here : Tried c.left j
      here = tried c.left j free c.guards (sym hs.is ∙ e)

      asked : on_word (operand T m page x (stmt_a T j)) 1 (judged T m page x here.left j) ≡ stuck → ⊥
      asked = same_unstuck (sym here.is) free

      pub guard_below : j < stmt_count T
      guard_below = here.below

      pub guard_row : HasRow T k (stmt_a T j)
      guard_row = here.row

      pub guard_unstuck : Unstuck (operand T m page x (stmt_a T j))
      guard_unstuck = word_unstuck 1 _ _ asked

      module _ (v : ℕ) (hv : WordIs (first_word (operand T m page x (stmt_a T j))) v) where
        gives : v < 65536 → on_word (operand T m page x (stmt_a T j)) 1 (judged T m page x here.left j) ≡ judged T m page x here.left j v
        gives l = word_given 1 _ _ v (told_word _ v hv l) asked

        -- a guard that is true, or fails
        pub choose_picks : (v ≡ 0 → ⊥) → Picked T m page x i (record { at = j; value = v })
        unfolding picks
        choose_picks n =
            cases (ltb v 65536)
            (λ q.
            let d = sym (judged_true here.left j v n) ∙ (sym (gives (ltb-true v 65536 q)) ∙ (sym here.is ∙ c.rest)) in
            record { is = rw (q, ne_eqb v 0 n) d; below = here.below; listed = hv.listed })
            (λ q.
            let d = sym (word_failed 1 (judged T m page x here.left j) _ _ (told_failure _ v hv (ltb-false v 65536 q))) ∙ (sym here.is ∙ c.rest) in
            record { is = rw q d; below = here.below; listed = hv.listed })

        module _ (z : v ≡ 0) where
          gives_false : on_word (operand T m page x (stmt_a T j)) 1 (judged T m page x here.left j) ≡ judged T m page x here.left j 0
          gives_false = gives (omega arith) ∙ ap (judged T m page x here.left j) z

          false_guard : (j < stmt_link T j) × (judged T m page x here.left j 0 ≡ choose T m page x here.left (stmt_link T j))
          false_guard = judged_false here.left j (same_unstuck (sym gives_false) asked)

          module _ (l : ℕ) (hl : Field (stmt_link T j) l) where
            pub choosing_less : stmt_count T - l < stmt_count T - j
            choosing_less = let b = here.below in let q = hl.is in let r = false_guard.0 in omega arith

            pub choosing_more : Choosing T k m page x i l
            choosing_more =
                record {
                  left = here.left;
                  rest = rw hl.is (sym false_guard.1 ∙ (sym gives_false ∙ (sym here.is ∙ c.rest)));
                  guards = rw hl.is here.guards;
                  unstuck = c.unstuck;
                }

module _ (t k m p : List ℕ) (x : Context) (h : Acting t k m p x) (i j : ℕ)
    (c : Choosing (decoded t) k (memory_of m) (memory_of p) (context_in x) i j) (s : ℕ) (hs : Field (stmt_kind (decoded t) j) s) (e : s ≡ 10) where
  below : j < stmt_count (decoded t)
  below = guard_below (decoded t) k (memory_of m) (memory_of p) (context_in x) i j c s hs e

  arm : stmt_kind (decoded t) j ≡ 10
  arm = sym hs.is ∙ e

  pub guard_evaluable : Evaluable (decoded t) (memory_of m) (memory_of p) (context_in x) (stmt_a (decoded t) j)
  guard_evaluable =
      record {
        expression = arm_guard (decoded t) h.standing.ready.ranged j below arm;
        unstuck = guard_unstuck (decoded t) k (memory_of m) (memory_of p) (context_in x) i j c s hs e;
      }

  -- a guard is boolean
  pub guard_single : OneWord (decoded t) (stmt_a (decoded t) j)
  guard_single =
      let q = typing.guard (decoded t) h.standing.ready.typed j below arm in
      one_standard (decoded t) (stmt_a (decoded t) j) (omega arith)

  pub guard_rowed : Rowed (decoded t) k (stmt_a (decoded t) j)
  guard_rowed =
      arm_rowed (decoded t) k h.standing.ready.ranged j below arm
      (guard_row (decoded t) k (memory_of m) (memory_of p) (context_in x) i j c s hs e)

pub ruleset chooses = (choosing_none, choose_ends, choose_picks, choosing_less, choosing_more, guard_evaluable, guard_single, guard_rowed)

-- ---- the laws of `guard`
module _ (T : Table) (m page : Memory) (x : machine.Context) (i a : ℕ) (ha : Field (stmt_a T i) a) where
  pub guard_asks : Evaluable T m page x (stmt_a T i) → Evaluable T m page x a
  guard_asks c = rw ha.is c

  pub guard_one : OneWord T (stmt_a T i) → OneWord T a
  guard_one c = rw ha.is c

  pub guard_has_row : (k : List ℕ) → Rowed T k (stmt_a T i) → Rowed T k a
  guard_has_row k c = rw ha.is c

  pub guard_returns : (v : ℕ) → WordIs (first_word (operand T m page x a)) v → WordIs (first_word (operand T m page x (stmt_a T i))) v
  guard_returns v h = rw ha.is at h

pub ruleset guards = (guard_asks, guard_one, guard_has_row, guard_returns)
