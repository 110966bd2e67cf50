-- Begin's state is one of 18,688 words, and the numbers of a table of bytes are words. Assumes nothing.
use Prim.Native.Nat.{ℕ, ◌+◌, ◌*◌, ◌≤◌, ◌<◌}
use mathlib.Core.Path.{◌≡◌, refl}
use mathlib.Core.Bool.{true}
use mathlib.Core.List.{List}
use native.Mathlib.Omega.{arith}
use lib.Dec.{eqb, ltb}
use Rattle.basics.specs.Choice.{both}
use Rattle.basics.specs.Cases.{cases}
use Rattle.words.specs.Bytes.{Bytes}
use Rattle.table.specs.Bytes.{num, fields, begins, row_size, field_at, field_width}
use Rattle.table.specs.Empty.{bytes_read}
use Rattle.table.specs.Table.{Table, count_at, cell_at, table_at, table_of}
use Rattle.table.proofs.ReadBytes.{read_bytes}
use Rattle.table.specs.Entries.{first_stmt}
use Rattle.sizes.specs.Sizes.{module_words}
use Rattle.sizes.proofs.Promise.{module_most}
use Rattle.numbers.proofs.BlockPromise.{program_there, program_kind}
use Rattle.machine.specs.Memory.{Memory, update, within, fill, zeros}
use Rattle.machine.specs.Layout.{record_at, module_at, created_at, failure_at, number_at}
use Rattle.machine.specs.Calls.{standing}
use Rattle.machine.specs.Run.{initial_state, begin}
use Rattle.machine.specs.Rule.{rule}
use Rattle.verdict.specs.Accepted.{Accepted}
use Rattle.sound.specs.Answers.{Small}
use Rattle.sound.specs.Reached.{WordTable, BeginLaw}
use Rattle.sound.proofs.Steps.WritesInside.{begin_sized}
use Rattle.sound.proofs.Memory.Writes.{update_small}

num_word : (t : List ℕ) (p w : ℕ) → Bytes t → num t p w < 65536
num_word t p w b = cases (eqb w 2) (λ e. rw e (omega (arith, b.small p, b.small (p + 1)))) (λ e. rw e (omega (arith, b.small p)))

table_words : (w : ℕ) (t : List ℕ) → Bytes t → WordTable (table_at w t)
unfolding table_at count_at cell_at
table_words w t b = record {
  counts = λ k. cases (ltb k 8) (λ e. rw e (num_word t (begins w t k) w b)) (λ e. rw e (omega arith));
  cells = λ k i f.
      cases (ltb f (fields k))
      (λ q.
      cases (ltb i (count_at w t k))
      (λ e. rw (q, e) (num_word t (begins w t k + w + i * row_size w k + field_at w k f) (field_width w k f) b))
      (λ e. rw (q, e) (omega arith)))
      (λ q. rw q (omega arith));
}

pub word_table : (w : ℕ) (t : List ℕ) → Bytes t → WordTable (table_of w t)
unfolding table_of
word_table w t b = table_words w (bytes_read w t) (record { small = read_bytes w t b.small })

fill_small : (m : Memory) (a n v : ℕ) → Small m → v < 65536 → Small (fill m a n v)
unfolding fill
fill_small m a n v h l = record { small = λ j. cases (within a n j) (λ e. rw e l) (λ e. rw e (h.small j)) }

first_small : (T : Table) (number : ℕ) → number ≤ 1 → first_stmt T 0 < 65536 → module_words T 0 < 65536 → Small (initial_state T number)
unfolding initial_state standing zeros
first_small T number u f w =
    update_small _ _ _ (update_small _ _ _ (update_small _ _ _ (update_small _ _ _ (update_small _ _ _
    (update_small _ _ _ (update_small _ _ _ (update_small _ _ _ (update_small zeros _ _ (record { small = λ i. omega arith }) (omega arith)) (omega arith)) (omega arith)) (omega arith))
    f) (omega arith)) w) (omega arith)) (omega arith)

begin_small : (T : Table) (number : ℕ) → number ≤ 1 → first_stmt T 0 < 65536 → module_words T 0 < 65536 → Small (begin T number)
unfolding begin
begin_small T number u f w =
    fill_small _ _ _ _ (first_small T number u f w) (cases (eqb number 1) (λ e. rw e (omega arith)) (λ e. rw e (omega arith)))

pub begin_reached : (T : Table) → Accepted T → WordTable T → ((number : ℕ) → number ≤ 1 → rule T (begin T number) ≡ true) → BeginLaw T
begin_reached T ok words ruled =
    let there = program_there T ok.numbers in
    let kind = program_kind T ok.numbers in
    let most = module_most T ok.sizes 0 there (omega arith) in
    record {
      reached = λ number l. record { ruled = ruled number l; words = begin_small T number l (words.cells 3 0 5) (omega arith); sized = begin_sized T number };
    }

-- it has one process, which runs block 0
module _ (T : Table) (number : ℕ) where
  pub begin_created : begin T number created_at ≡ 1
  unfolding begin initial_state fill within both standing update zeros record_at
  begin_created = refl

  pub begin_block : begin T number (module_at 1) ≡ 0
  unfolding begin initial_state fill within both standing update zeros record_at
  begin_block = refl

  pub begin_mark : begin T number failure_at ≡ 0
  unfolding begin initial_state fill within both standing update zeros record_at
  begin_mark = refl

  -- and its number
  pub begin_number : begin T number number_at ≡ number
  unfolding begin initial_state fill within both standing update zeros record_at
  begin_number = refl
