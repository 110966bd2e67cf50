-- Zero bytes are the listing table to every call; a table of one byte is refused with 2. Assumes nothing.
use Prim.Native.Nat.{ℕ, ◌+◌, ◌≤◌}
use mathlib.Core.Path.{◌≡◌, refl}
use mathlib.Core.Bool.{false}
use mathlib.Core.List.{[], ◌∷◌}
use native.Mathlib.Omega.{arith}
use lib.ListN.{length}
use borrow.Author.Tests.{lt-leb}
use Rattle.basics.specs.Choice.{both}
use Rattle.basics.specs.Chain.{free, carried, chained}
use Rattle.basics.proofs.Bools.{both_false_l, all_fail}
use Rattle.table.specs.Bytes.{rows_end, rows_fit, is_left_out, section_end, section_fits, whole}
use Rattle.table.specs.Empty.{field, fields_of, listing, bytes_read}
use Rattle.table.specs.Table.{table_of}
use Rattle.verdict.specs.Verdict.{judged_bytes, verdict}
use Rattle.verdict.proofs.Examples.{examples}
use Rattle.machine.specs.Public.{begin_refusal, begin_call, run_refusal, run_call, look_refusal, look_call}
use Rattle.joyce.specs.EmptySlot.{EmptySlot}

-- the bytes read are the same
same_bytes : (w : ℕ) → bytes_read w [] ≡ bytes_read w (listing w)
unfolding bytes_read listing fields_of field
same_bytes w = refl

same_verdict : (w : ℕ) → verdict w [] ≡ verdict w (listing w)
unfolding verdict
same_verdict w = rw (same_bytes w)

same_table : (w : ℕ) → table_of w [] ≡ table_of w (listing w)
unfolding table_of
same_table w = rw (same_bytes w)

-- the first section ends behind its count, so that the second has no room for its own
first_end : (w b : ℕ) → w ≤ section_end w (b ∷ []) 0 0
unfolding section_end is_left_out rows_end both
first_end w b = omega arith

no_count : (w b : ℕ) → 1 ≤ w → section_fits w (b ∷ []) 1 (section_end w (b ∷ []) 0 0) ≡ false
unfolding section_fits is_left_out rows_fit both
no_count w b h = rw (lt-leb (section_end w (b ∷ []) 0 0 + w) (length (b ∷ [])) (omega (arith, first_end w b)))

not_whole : (w b : ℕ) → 1 ≤ w → whole w (b ∷ []) ≡ false
unfolding whole chained carried free
not_whole w b h = both_false_l _ _ (all_fail 8 _ 1 (omega arith) (no_count w b h))

one-byte : (w b : ℕ) → 1 ≤ w → verdict w (b ∷ []) ≡ 2
unfolding verdict judged_bytes bytes_read
one-byte w b h = rw (not_whole w b h)

-- AN EMPTY SLOT
pub empty_slot : EmptySlot
unfolding begin_call begin_refusal run_call run_refusal look_call look_refusal
empty_slot = record {
  same = same_verdict;
  accepted = examples.3;
  one_byte = one-byte;
  begins = λ w s n. rw (same_verdict w, same_table w);
  runs = λ w s d q a. rw (same_verdict w, same_table w);
  looks = λ w s p v k. rw (same_verdict w, same_table w);
}
