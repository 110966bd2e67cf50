-- Results and refusals of the calls, for every input of bytes (01, Verdicts and other refusals). Assumes nothing.
use Prim.Native.Nat.{ℕ, ◌+◌, ◌≤◌, ◌<◌}
use mathlib.Core.Path.{◌≡◌, refl, sym, ap, ◌∙◌}
use mathlib.Core.Bool.{Bool, true, false}
use mathlib.Core.Logic.{◌↔◌}
use mathlib.Core.List.{List, ◌++◌}
use native.Mathlib.Omega.{arith}
use lib.ListN.{length, drop}
use lib.Dec.{eqb}
use borrow.Author.Tests.{eq-eqb, ne_eqb, eqb-true, eqb-false}
use Rattle.basics.specs.Choice.{pick}
use Rattle.basics.specs.Cases.{cases}
use Rattle.basics.proofs.Bools.{no_true}
use Rattle.words.specs.Bytes.{Bytes}
use Rattle.table.specs.Empty.{bytes_read}
use Rattle.table.specs.Table.{Table, table_at, table_of}
use Rattle.table.specs.Bytes.{whole}
use Rattle.entries.specs.Known.{known}
use Rattle.numbers.specs.Ranges.{in_range}
use Rattle.uses.specs.Uses.{used_once}
use Rattle.nesting.specs.Nest.{nested}
use Rattle.sizes.specs.Sizes.{sized}
use Rattle.scopes.specs.Scopes.{scoped}
use Rattle.typing.specs.Typing.{typed}
use Rattle.verdict.specs.Verdict.{judged_late, judged_uses, judged, judged_bytes, verdict}
use Rattle.verdict.proofs.Promise.{promise}
use Rattle.machine.specs.Memory.{memory_of}
use Rattle.machine.specs.Public.{refusal, word_there, look, called, finished, begin_refusal, begin_call, run_refusal, run_call, look_refusal, look_call}
use Rattle.machine.proofs.Calling.{refused_none, refuses_none, begin_refused, run_refused, run-lengths, run_accepted, run_ruled}
use Rattle.machine.specs.Layout.{state_words}
use Rattle.sound.specs.Histories.{state_bytes, page_bytes, begun_result, result}
use Rattle.sound.specs.Refusals.{Checked, accepts, refuses, AllRight, Lowest, beginnable, began, BeginResult, returned, RunResult, sees, set, looked, LookResult, Results}
use Rattle.sound.proofs.Runs.CallLists.{Traced, traced}
use Rattle.sound.proofs.Runs.FirstStateWords.{word_table}
use Rattle.sound.proofs.Memory.Bytes.{memory_small, memory_sized}
use Rattle.sound.proofs.Steps.StepLaws.{step_laws}

-- ---- the numbers that check gives

pick_checked : (b : Bool) (v n : ℕ) → 2 ≤ n → n ≤ 9 → Checked v → Checked (pick b v n)
pick_checked true v n l h c = c
pick_checked false v n l h c = refuses l h

judged_checked : (T : Table) → Checked (judged T)
unfolding judged judged_uses judged_late
judged_checked T =
    pick_checked (known T) _ 3 (omega arith) (omega arith)
    (pick_checked (in_range T) _ 4 (omega arith) (omega arith)
    (pick_checked (used_once T) _ 5 (omega arith) (omega arith)
    (pick_checked (nested T) _ 6 (omega arith) (omega arith)
    (pick_checked (sized T) _ 7 (omega arith) (omega arith)
    (pick_checked (scoped T) _ 8 (omega arith) (omega arith)
    (pick_checked (typed T) _ 9 (omega arith) (omega arith)
    (accepts refl)))))))

verdict_checked : (w : ℕ) (t : List ℕ) → Checked (verdict w t)
unfolding verdict judged_bytes
verdict_checked w t = pick_checked (whole w (bytes_read w t)) _ 2 (omega arith) (omega arith) (judged_checked (table_at w (bytes_read w t)))

-- ---- the rows

-- why a call returns r
data Reason (lengths : Bool) (v : ℕ) (state : Bool) (r : ℕ) : Type 0 where
  bad_length : lengths ≡ false → r ≡ 1 → Reason lengths v state r
  bad_table : lengths ≡ true → 2 ≤ v → v ≤ 9 → r ≡ v → Reason lengths v state r
  bad_state : lengths ≡ true → v ≡ 0 → state ≡ false → r ≡ 10 → Reason lengths v state r
  none : AllRight lengths v state → ((n : ℕ) → 1 ≤ n → n ≤ 10 → r ≡ n → ⊥) → Reason lengths v state r

reason_of : (lengths : Bool) (v : ℕ) (state : Bool) → Checked v → Reason lengths v state (refusal lengths v state)
unfolding refusal
reason_of false v s c = bad_length refl refl
reason_of true v s (refuses a b) = let n : v ≡ 0 → ⊥ = λ z. omega arith in bad_table refl a b (rw (ne_eqb v 0 n))
reason_of true v false (accepts z) = bad_state refl z refl (rw (eq-eqb v 0 z))
reason_of true v true (accepts z) = none (refl, (z, refl)) (λ n a b e. let q : 0 ≡ n = rw (eq-eqb v 0 z) at e in omega arith)

lowest_of : (lengths : Bool) (v : ℕ) (state : Bool) (r : ℕ) → Reason lengths v state r → Lowest lengths v state r
lowest_of l v s r (bad_length e q) = record {
  one = (λ z. e, λ z. q);
  table = λ n a b. (λ z. absurd (omega arith), λ h. no_true (sym e ∙ h.0));
  ten = (λ z. absurd (omega arith), λ h. no_true (sym e ∙ h.0));
}
lowest_of l v s r (bad_table e a b q) = record {
  one = (λ z. absurd (omega arith), λ z. no_true (sym z ∙ e));
  table = λ n c d. (λ z. (e, sym q ∙ z), λ h. q ∙ h.1);
  ten = (λ z. absurd (omega arith), λ h. let k = h.1.0 in absurd (omega arith));
}
lowest_of l v s r (bad_state e w f q) = record {
  one = (λ z. absurd (omega arith), λ z. no_true (sym z ∙ e));
  table = λ n c d. (λ z. absurd (omega arith), λ h. let k = h.1 in absurd (omega arith));
  ten = (λ z. (e, (w, f)), λ h. q);
}
lowest_of l v s r (none k f) = record {
  one = (λ z. absurd (f 1 (omega arith) (omega arith) z), λ z. no_true (sym z ∙ k.0));
  table = λ n c d. (λ z. absurd (f n (omega arith) (omega arith) z), λ h. let w = k.1.0 in let u = h.1 in absurd (omega arith));
  ten = (λ z. absurd (f 10 (omega arith) (omega arith) z), λ h. no_true (sym h.1.1 ∙ k.1.1));
}

success_of : (lengths : Bool) (v : ℕ) (state : Bool) → (refusal lengths v state ≡ 0) ↔ AllRight lengths v state
success_of l v s = (λ e. refused_none l v s e, λ h. refuses_none l v s h.0 h.1.0 h.1.1)

-- ---- begin

module _ (w : ℕ) (table state : List ℕ) (number : ℕ) where
  begin-refusal : begin_refusal verdict w table state number ≡ refusal (beginnable verdict w table state number) (verdict w table) true
  unfolding begin_refusal refusal
  begin-refusal = ap (λ (v : ℕ). pick (beginnable verdict w table state number) v 1) (unruled (verdict w table))
    where
      unruled : (v : ℕ) → v ≡ pick (eqb v 0) 0 v
      unruled v = cases (eqb v 0) (λ e. rw e (eqb-true v 0 e)) (λ e. rw e)

  begin_is : began verdict w table state number ≡ begin_refusal verdict w table state number
  unfolding begin_call begun_result
  begin_is = cases (eqb (begin_refusal verdict w table state number) 0) (λ e. rw e (sym (eqb-true _ 0 e))) (λ e. rw e)

  begin_result : BeginResult verdict w table state number
  begin_result =
      let e : began verdict w table state number ≡ refusal (beginnable verdict w table state number) (verdict w table) true = begin_is ∙ begin-refusal in
      record {
        is = begin_is;
        lowest = rw e (lowest_of _ _ _ _ (reason_of _ _ _ (verdict_checked w table)));
        success = rw e (success_of _ _ _);
        unchanged = λ n. rw (begin_is) (begin_refused verdict w table state number (λ z. n (begin_is ∙ z)));
      }

-- ---- run

module _ (w : ℕ) (table state page schedule answers : List ℕ) (bt : Bytes table) (bs : Bytes state) (bp : Bytes page) where
  -- a call that is not refused is not stuck
  pub open_traced : run_refusal verdict w table state page schedule answers ≡ 0 → Traced (table_of w table) schedule (memory_of state) (memory_of page)
  open_traced e =
      let v = run_accepted verdict w table state page schedule answers e in
      let l = run-lengths verdict w table state page schedule answers e in
      traced (table_of w table) (step_laws (table_of w table) (promise w table v) (word_table w table bt)) schedule (memory_of state) (memory_of page)
      (record { ruled = run_ruled verdict w table state page schedule answers e; words = memory_small state bs; sized = memory_sized state state_words l.0 })
      (record { words = memory_small page bp; sized = memory_sized page 4096 l.1.0 })

  pub open_run : (e : run_refusal verdict w table state page schedule answers ≡ 0)
      → run_call verdict w table state page schedule answers
      ≡ called 0 (state_bytes (open_traced e).state) (page_bytes (open_traced e).devices) ((open_traced e).given ++ drop (length (open_traced e).given) answers)
  unfolding run_call finished state_bytes page_bytes
  open_run e = rw (eq-eqb _ 0 e, (open_traced e).is)

  run_is : returned verdict w table state page schedule answers ≡ run_refusal verdict w table state page schedule answers
  unfolding result
  run_is =
      cases (eqb (run_refusal verdict w table state page schedule answers) 0)
      (λ e. ap result (open_run (eqb-true _ 0 e)) ∙ sym (eqb-true _ 0 e))
      (λ e. ap result (run_refused verdict w table state page schedule answers (eqb-false _ 0 e)))

  run_result : RunResult verdict w table state page schedule answers
  unfolding run_refusal
  run_result = record {
    is = run_is;
    lowest = rw run_is (lowest_of _ _ _ _ (reason_of _ _ _ (verdict_checked w table)));
    success = rw run_is (success_of _ _ _);
    unchanged = λ n. rw run_is (run_refused verdict w table state page schedule answers (λ z. n (run_is ∙ z)));
  }

-- ---- look

refusal_most : (lengths : Bool) (v : ℕ) (state : Bool) → Checked v → refusal lengths v state ≤ 10
unfolding refusal
refusal_most false v s c = omega arith
refusal_most true v s (refuses a b) = let n : v ≡ 0 → ⊥ = λ z. omega arith in rw (ne_eqb v 0 n) (omega arith)
refusal_most true v false (accepts z) = rw (eq-eqb v 0 z) (omega arith)
refusal_most true v true (accepts z) = rw (eq-eqb v 0 z) (omega arith)

-- what look gives: a refusal, 11, 32, or a word
data Looks (right : ℕ) (seen given : Bool) (r : ℕ) : Type 0 where
  turned_down : (right ≡ 0 → ⊥) → r ≡ right → Looks right seen given r
  sees_none : right ≡ 0 → seen ≡ false → r ≡ 11 → Looks right seen given r
  sees_unset : right ≡ 0 → seen ≡ true → given ≡ false → r ≡ 32 → Looks right seen given r
  sees_word : right ≡ 0 → seen ≡ true → given ≡ true → 65536 ≤ r → r < 131072 → Looks right seen given r

module _ (w : ℕ) (table state : List ℕ) (process variable place : ℕ) (bs : Bytes state) where
  looks_seen : (right seen given : Bool) (n k : ℕ) → k < 65536 → eqb n 0 ≡ right → Looks n seen given (pick right (pick seen (pick given (65536 + k) 32) 11) n)
  looks_seen false seen given n k l e = turned_down (eqb-false n 0 e) refl
  looks_seen true false given n k l e = sees_none (eqb-true n 0 e) refl refl
  looks_seen true true false n k l e = sees_unset (eqb-true n 0 e) refl refl refl
  looks_seen true true true n k l e = sees_word (eqb-true n 0 e) refl refl (omega arith) (omega arith)

  looks : Looks (look_refusal verdict w table state) (sees verdict w table state process variable place) (set verdict w table state process variable place) (looked verdict w table state process variable place)
  unfolding look_call look word_there
  looks = looks_seen _ _ _ _ _ ((memory_small state bs).small _) refl

  module _ (right : ℕ) (l : Bool) (v : ℕ) (b : Bool) (seen given : Bool) (r : ℕ) (e : right ≡ refusal l v b) (c : Checked v) where
    most_right : right ≤ 10
    most_right = rw e (refusal_most l v b c)

    look_reason : Looks right seen given r → Reason l v b r
    look_reason (turned_down n q) = rw (q, e) (reason_of l v b c)
    look_reason (sees_none z f q) = none (refused_none l v b (sym e ∙ z)) (λ n x y u. omega arith)
    look_reason (sees_unset z f g q) = none (refused_none l v b (sym e ∙ z)) (λ n x y u. omega arith)
    look_reason (sees_word z f g q h) = none (refused_none l v b (sym e ∙ z)) (λ n x y u. omega arith)

    right_all : AllRight l v b → right ≡ 0
    right_all h = e ∙ refuses_none l v b h.0 h.1.0 h.1.1

    look_eleven : Looks right seen given r → (r ≡ 11) ↔ (AllRight l v b × (seen ≡ false))
    look_eleven (turned_down n q) = let m = most_right in (λ z. absurd (omega arith), λ h. absurd (n (right_all h.0)))
    look_eleven (sees_none z f q) = (λ u. (refused_none l v b (sym e ∙ z), f), λ h. q)
    look_eleven (sees_unset z f g q) = (λ u. absurd (omega arith), λ h. no_true (sym h.1 ∙ f))
    look_eleven (sees_word z f g q h) = (λ u. absurd (omega arith), λ k. no_true (sym k.1 ∙ f))

    look_unset : Looks right seen given r → (r ≡ 32) ↔ (AllRight l v b × ((seen ≡ true) × (given ≡ false)))
    look_unset (turned_down n q) = let m = most_right in (λ z. absurd (omega arith), λ h. absurd (n (right_all h.0)))
    look_unset (sees_none z f q) = (λ u. absurd (omega arith), λ h. no_true (sym f ∙ h.1.0))
    look_unset (sees_unset z f g q) = (λ u. (refused_none l v b (sym e ∙ z), (f, g)), λ h. q)
    look_unset (sees_word z f g q h) = (λ u. absurd (omega arith), λ k. no_true (sym k.1.1 ∙ g))

    look_success : Looks right seen given r → (65536 ≤ r) ↔ (AllRight l v b × ((seen ≡ true) × (given ≡ true)))
    look_success (turned_down n q) = let m = most_right in (λ z. absurd (omega arith), λ h. absurd (n (right_all h.0)))
    look_success (sees_none z f q) = (λ u. absurd (omega arith), λ h. no_true (sym f ∙ h.1.0))
    look_success (sees_unset z f g q) = (λ u. absurd (omega arith), λ h. no_true (sym g ∙ h.1.1))
    look_success (sees_word z f g q h) = (λ u. (refused_none l v b (sym e ∙ z), (f, g)), λ k. q)

    look_most : Looks right seen given r → r < 131072
    look_most (turned_down n q) = let m = most_right in omega arith
    look_most (sees_none z f q) = omega arith
    look_most (sees_unset z f g q) = omega arith
    look_most (sees_word z f g q h) = h

  look_result : LookResult verdict w table state process variable place
  unfolding look_refusal
  look_result =
      let c = verdict_checked w table in
      record {
        lowest = lowest_of _ _ _ _ (look_reason _ _ _ _ _ _ _ refl c looks);
        eleven = look_eleven _ _ _ _ _ _ _ refl c looks;
        thirty_two = look_unset _ _ _ _ _ _ _ refl c looks;
        success = look_success _ _ _ _ _ _ _ refl c looks;
        most = look_most _ _ _ _ _ _ _ refl c looks;
      }

-- THE THEOREM
pub results : (w : ℕ) → Results verdict w
results w = record { checks = verdict_checked w; begins = begin_result w; runs = run_result w; looks = look_result w }
