-- THE FIRST STATE meets the rule. Assumes nothing.
use Prim.Native.Nat.{ℕ, ◌+◌, ◌≤◌, ◌<◌}
use mathlib.Core.Path.{◌≡◌, refl, ◌∙◌}
use mathlib.Core.Bool.{true}
use native.Mathlib.Omega.{arith}
use lib.Dec.{leb, ltb}
use borrow.Author.Tests.{lt-leb}
use Rattle.basics.proofs.Bools.{both_false_l}
use Rattle.table.specs.Table.{Table}
use Rattle.table.specs.Entries.{var_type, block_kind, first_var, vars, first_stmt}
use Rattle.sizes.specs.Sizes.{module_words}
use Rattle.numbers.proofs.BlockPromise.{program_there, program_kind}
use Rattle.machine.specs.Memory.{Memory, update, within, fill, zeros}
use Rattle.machine.specs.Layout.{location, record_at, status_at, module_at, holder_at, created_at, failure_at, number_at, plain_words, mark_words}
use Rattle.machine.specs.Variables.{offset_of}
use Rattle.machine.specs.Values.{holds}
use Rattle.machine.specs.Calls.{standing}
use Rattle.machine.specs.Run.{begin}
use Rattle.machine.specs.Run as run
use Rattle.machine.specs.Rule.{rule}
use Rattle.machine.proofs.Memories.{update_at, update_other}
use Rattle.machine.proofs.MarkLaws.{SameWords}
use Rattle.verdict.specs.Accepted.{Accepted}
use Rattle.sound.specs.Claims.{PlaceLaws}
use Rattle.sound.specs.Ruled.{Bottom, bottom, held, Process, Ruled}
use Rattle.sound.proofs.Rule.RuleRecord.{rules}
use Rattle.sound.proofs.Values.ModuleVariables.{module_plain, module_fits}
use Rattle.sound.proofs.Memory.Writes.{location_add, location_low, location_up, record_high, words_apart}
use Rattle.sound.proofs.RuleKept.Marks.{marks_rule}
use Rattle.sound.proofs.RuleKept.Position.{block_begins, stand_word, stand_depth, stand_works, stand_top, stand_frame, stand_statement, stand_area}
use Rattle.sound.proofs.Values.BlockVariables.{variable_in, words_value, variable_type}
use Rattle.sound.proofs.Rule.WorkedProcesses.{worked_bottom}

-- the state before process 1 stands
unfoldable empty : ℕ → Memory
empty number = update (update (update (update zeros (status_at 1) 2) (holder_at 1) 1) created_at 1) number_at number

module _ (number : ℕ) where
  empty_number : empty number number_at ≡ number
  unfolding empty
  empty_number = update_at _ number_at number number_at refl

  empty_created : empty number created_at ≡ 1
  unfolding empty
  empty_created = update_other _ number_at number created_at (words_apart 1 8 10 (λ z. omega arith)) ∙ update_at _ created_at 1 created_at refl

  empty_holder : empty number (holder_at 1) ≡ 1
  unfolding empty
  empty_holder =
      update_other _ number_at number (holder_at 1) (words_apart 1 6 10 (λ z. omega arith))
      ∙ update_other _ created_at 1 (holder_at 1) (words_apart 1 6 8 (λ z. omega arith))
      ∙ update_at _ (holder_at 1) 1 (holder_at 1) refl

  empty_status : empty number (status_at 1) ≡ 2
  unfolding empty
  empty_status =
      update_other _ number_at number (status_at 1) (words_apart 1 0 10 (λ z. omega arith))
      ∙ update_other _ created_at 1 (status_at 1) (words_apart 1 0 8 (λ z. omega arith))
      ∙ update_other _ (holder_at 1) 1 (status_at 1) (words_apart 1 0 6 (λ z. omega arith))
      ∙ update_at _ (status_at 1) 2 (status_at 1) refl

  empty_else : (j : ℕ) → (j ≡ number_at → ⊥) → (j ≡ created_at → ⊥) → (j ≡ holder_at 1 → ⊥) → (j ≡ status_at 1 → ⊥) → empty number j ≡ 0
  unfolding empty zeros
  empty_else j o a b c = update_other _ number_at number j o ∙ update_other _ created_at 1 j a ∙ update_other _ (holder_at 1) 1 j b ∙ update_other zeros (status_at 1) 2 j c

  empty_word : (k : ℕ) → (k ≡ 10 → ⊥) → (k ≡ 8 → ⊥) → (k ≡ 6 → ⊥) → (k ≡ 0 → ⊥) → empty number (record_at 1 k) ≡ 0
  empty_word k o a b c = empty_else (record_at 1 k) (words_apart 1 k 10 o) (words_apart 1 k 8 a) (words_apart 1 k 6 b) (words_apart 1 k 0 c)

  empty_area : (j : ℕ) → j < 256 → empty number (location 1 j) ≡ 0
  empty_area j l =
      let y = location_up 1 j 256 l in
      let z = location_low 1 256 (omega arith) (omega arith) (omega arith) in
      empty_else (location 1 j)
      (λ e. let x = record_high 1 10 in omega arith) (λ e. let x = record_high 1 8 in omega arith) (λ e. let x = record_high 1 6 in omega arith) (λ e. let x = record_high 1 0 in omega arith)

module _ (T : Table) (ok : Accepted T) (number : ℕ) (zero-or-one : number ≤ 1) where
  first-is : run.initial_state T number ≡ standing (empty number) 1 (first_stmt T 0) 0 (module_words T 0) 1 0
  unfolding run.initial_state empty
  first-is = refl

  -- the marks stand after all other words
  begin_words : SameWords (run.initial_state T number) (begin T number)
  unfolding begin fill within
  begin_words = record { plain = λ i l. rw (both_false_l (leb plain_words i) (ltb i (plain_words + mark_words)) (lt-leb plain_words i l)) refl }

  module _ (L : PlaceLaws T) where
    abbrev first : Memory
    first = standing (empty number) 1 (first_stmt T 0) 0 (module_words T 0) 1 0

    first_word : (k : ℕ) → (k ≡ 2 → ⊥) → (k ≡ 3 → ⊥) → (k ≡ 4 → ⊥) → (k ≡ 5 → ⊥) → (k ≡ 7 → ⊥) → first (record_at 1 k) ≡ empty number (record_at 1 k)
    first_word = stand_word (empty number) 1 (first_stmt T 0) 0 (module_words T 0) 1 0

    first_created : first created_at ≡ 1
    first_created = first_word 8 (λ z. omega arith) (λ z. omega arith) (λ z. omega arith) (λ z. omega arith) (λ z. omega arith) ∙ empty_created number

    first_failure : first failure_at ≡ 0
    first_failure =
        first_word 9 (λ z. omega arith) (λ z. omega arith) (λ z. omega arith) (λ z. omega arith) (λ z. omega arith) ∙ empty_word number 9 (λ z. omega arith) (λ z. omega arith) (λ z. omega arith) (λ z. omega arith)

    first_number : first number_at ≡ number
    first_number = first_word 10 (λ z. omega arith) (λ z. omega arith) (λ z. omega arith) (λ z. omega arith) (λ z. omega arith) ∙ empty_number number

    first_status : first (status_at 1) ≡ 2
    first_status = first_word 0 (λ z. omega arith) (λ z. omega arith) (λ z. omega arith) (λ z. omega arith) (λ z. omega arith) ∙ empty_status number

    first_holder : first (holder_at 1) ≡ 1
    first_holder = first_word 6 (λ z. omega arith) (λ z. omega arith) (λ z. omega arith) (λ z. omega arith) (λ z. omega arith) ∙ empty_holder number

    first_module : first (module_at 1) ≡ 0
    first_module =
        first_word 1 (λ z. omega arith) (λ z. omega arith) (λ z. omega arith) (λ z. omega arith) (λ z. omega arith) ∙ empty_word number 1 (λ z. omega arith) (λ z. omega arith) (λ z. omega arith) (λ z. omega arith)

    first_area : (j : ℕ) → j < 256 → first (location 1 j) ≡ 0
    first_area j l = stand_area (empty number) 1 (first_stmt T 0) 0 (module_words T 0) 1 0 (omega arith) 1 j (omega arith) (omega arith) l ∙ empty_area number j l

    first_variable : (i : ℕ) → i < vars T 0 → holds T first (var_type T (first_var T 0 + i)) (location 1 (offset_of T 0 (first_var T 0 + i))) ≡ true
    first_variable i l =
        let there = program_there T ok.numbers in
        let k = program_kind T ok.numbers in
        let low : block_kind T 0 ≤ 1 = omega arith in
        let w = words_value T (first_var T 0 + i) (module_plain T ok 0 there low i l) in
        let v = variable_in T 0 i l in
        let f = module_fits T ok 0 there low in
        L.zero_holds first (var_type T (first_var T 0 + i)) (location 1 (offset_of T 0 (first_var T 0 + i))) (variable_type T ok 0 there i l)
        (λ j g. rw (location_add 1 (offset_of T 0 (first_var T 0 + i)) j) (first_area (offset_of T 0 (first_var T 0 + i) + j) (omega arith)))

    first_bottom : Bottom T first 1 0 1 (first_stmt T 0) (module_words T 0)
    first_bottom =
        let μ = first_module in
        record { no_frame = refl; own = refl; ends = rw μ; from = rw μ (omega arith); to = rw μ (block_begins T ok 0 (program_there T ok.numbers)) }

    first_process : Process T first 1
    first_process =
        let s = first_status in
        let h = first_holder in
        let c = first_created in
        let μ = first_module in
        record {
          low = omega arith;
          high = omega arith;
          first_status = λ z. omega arith;
          first_block = λ z. μ;
          there = λ n. absurd (n refl);
          kind = λ n. absurd (n refl);
          holder = omega arith;
          variables = rw μ first_variable;
          chain = λ z.
              rw (
                stand_depth (empty number) 1 (first_stmt T 0) 0 (module_words T 0) 1 0,
                stand_frame (empty number) 1 (first_stmt T 0) 0 (module_words T 0) 1 0,
                stand_works (empty number) 1 (first_stmt T 0) 0 (module_words T 0) 1 0,
                stand_statement (empty number) 1 (first_stmt T 0) 0 (module_words T 0) 1 0,
                stand_top (empty number) 1 (first_stmt T 0) 0 (module_words T 0) 1 0,
              )
              (bottom first_bottom);
          holding = λ z.
              rw (stand_depth (empty number) 1 (first_stmt T 0) 0 (module_words T 0) 1 0, stand_frame (empty number) 1 (first_stmt T 0) 0 (module_words T 0) 1 0, stand_works (empty number) 1 (first_stmt T 0) 0 (module_words T 0) 1 0)
              (λ x t. let i = worked_bottom first 1 0 1 x t in rw (← i) (held h));
        }

    first_ruled : Ruled T first
    first_ruled =
        let c = first_created in
        let f = first_failure in
        let n = first_number in
        record {
          some = omega arith;
          most = omega arith;
          failed = λ n. absurd (n f);
          number = omega arith;
          process = λ p a b. let e : p ≡ 1 = omega arith in rw e first_process;
        }

    pub begin_ruled : rule T (begin T number) ≡ true
    begin_ruled = marks_rule T ok L (run.initial_state T number) (begin T number) begin_words (rw first-is (rules T first first_ruled))
