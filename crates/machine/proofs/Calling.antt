-- Refused calls, and an empty schedule (01, The four calls; Verdicts and other refusals). Assumes nothing.
use Prim.Native.Nat.{ℕ, ◌≤◌}
use mathlib.Core.Path.{◌≡◌}
use mathlib.Core.Bool.{Bool, true}
use mathlib.Core.List.{List, []}
use native.Mathlib.Omega.{arith}
use lib.ListN.{length}
use lib.Dec.{eqb}
use borrow.Author.Tests.{eq-eqb, ne_eqb, eqb-true, eqb-false, leb-true}
use Rattle.basics.specs.Choice.{pick}
use Rattle.basics.specs.Cases.{cases}
use Rattle.basics.proofs.Bools.{both_l, both_r, zero_test}
use Rattle.words.specs.Bytes.{Bytes}
use Rattle.table.specs.Table.{table_of}
use Rattle.machine.specs.Memory.{memory_of}
use Rattle.machine.specs.Run.{run}
use Rattle.machine.specs.Rule.{rule}
use Rattle.machine.specs.Public.{refusal, begun, called, finished, run_lengths, begin_refusal, begin_call, run_refusal, run_call}
use Rattle.machine.proofs.Memories.{bytes_memory}
use Rattle.machine.specs.Layout.{state_words, state_size, page_size}

-- ---- refusals, in the order of their numbers

module _ (lengths : Bool) (v : ℕ) (state : Bool) where
  pub refuses_none : lengths ≡ true → v ≡ 0 → state ≡ true → refusal lengths v state ≡ 0
  unfolding refusal
  refuses_none e h s = rw (e, eq-eqb v 0 h, s)

-- of two numbers the first that is not 0 is told
pub first_zero : (v k : ℕ) → pick (eqb v 0) k v ≡ 0 → (v ≡ 0) × (k ≡ 0)
first_zero v k e =
    cases (eqb v 0)
    (λ q. (eqb-true v 0 q, rw q at e))
    (λ q. absurd (eqb-false v 0 q (rw q at e)))

-- nothing is refused: the lengths are right, the table is accepted, the state meets its rule
pub refused_none :
    (lengths : Bool) (v : ℕ) (state : Bool) → refusal lengths v state ≡ 0 → (lengths ≡ true) × ((v ≡ 0) × (state ≡ true))
unfolding refusal
refused_none lengths v state e =
    let a = zero_test lengths (pick (eqb v 0) (pick state 0 10) v) 1 (λ z. omega arith) e in
    let b = first_zero v (pick state 0 10) a.1 in
    let c = zero_test state 0 10 (λ z. omega arith) b.1 in
    (a.0, (b.0, c.0))

-- ---- a refused call changes no lent byte

module _ (verdict : ℕ → List ℕ → ℕ) (w : ℕ) (table state : List ℕ) where
  pub begin_refused :
      (number : ℕ) → (begin_refusal verdict w table state number ≡ 0 → ⊥)
      → begin_call verdict w table state number ≡ begun (begin_refusal verdict w table state number) state
  unfolding begin_call
  begin_refused number h = rw (ne_eqb (begin_refusal verdict w table state number) 0 h)

  module _ (page schedule answers : List ℕ) where
    pub run_refused :
        (run_refusal verdict w table state page schedule answers ≡ 0 → ⊥)
        → run_call verdict w table state page schedule answers
        ≡ called (run_refusal verdict w table state page schedule answers) state page answers
    unfolding run_call
    run_refused h = rw (ne_eqb (run_refusal verdict w table state page schedule answers) 0 h)

    -- what a call that is not refused was lent
    pub run-lengths :
        run_refusal verdict w table state page schedule answers ≡ 0
        → (length state ≡ state_size) × ((length page ≡ page_size) × (length schedule ≤ length answers))
    unfolding run_refusal run_lengths
    run-lengths e =
        let h = (refused_none _ _ _ e).0 in
        let k = both_r (eqb (length state) state_size) _ h in
        (eqb-true _ _ (both_l _ _ h), (eqb-true _ _ (both_l (eqb (length page) page_size) _ k), leb-true _ _ (both_r (eqb (length page) page_size) _ k)))

    pub run_accepted : run_refusal verdict w table state page schedule answers ≡ 0 → verdict w table ≡ 0
    unfolding run_refusal
    run_accepted e = (refused_none _ _ _ e).1.0

    pub run_ruled :
        run_refusal verdict w table state page schedule answers ≡ 0 → rule (table_of w table) (memory_of state) ≡ true
    unfolding run_refusal
    run_ruled e = (refused_none _ _ _ e).1.1

  -- ---- an empty schedule changes nothing

  pub run_empty :
      (page answers : List ℕ) → Bytes state → Bytes page → run_refusal verdict w table state page [] answers ≡ 0
      → run_call verdict w table state page [] answers ≡ called 0 state page answers
  unfolding run_call run finished
  run_empty page answers s d e =
      let l = run-lengths page [] answers e in
      rw (
        eq-eqb (run_refusal verdict w table state page [] answers) 0 e,
        bytes_memory state_words state s l.0,
        bytes_memory 4096 page d l.1.0,
      )
