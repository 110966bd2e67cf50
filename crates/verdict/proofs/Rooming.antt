-- The arrays of an edition suffice for its tables; what a check leaves. Assumes nothing.
use Prim.Native.Nat.{ℕ, ◌+◌, ◌<◌}
use mathlib.Core.Path.{◌≡◌, refl, sym}
use mathlib.Core.Bool.{false}
use mathlib.Core.List.{List, [], ◌∷◌}
use lib.ListN.{length, get_or, replicate, length-replicate, get_or-replicate}
use native.Mathlib.Omega.{arith}
use Rattle.table.specs.Bytes.{whole}
use Rattle.table.specs.Empty.{listing, bytes_read}
use Rattle.table.specs.Table.{table_at, table_of}
use Rattle.table.proofs.ReadBytes.{read_bytes, count_byte}
use Rattle.table.specs.Entries.{node_count}
use Rattle.table.specs.Reading.{SectionsOf, WholeSections, ReadAnswer}
use Rattle.table.specs.declared.Sections.{Sections}
use Rattle.code.specs.Code.{decoded, Decodes}
use Rattle.code.specs.Decoding.{Blank, Decodable}
use Rattle.code.proofs.Blanks.{new_room}
use Rattle.uses.proofs.Blanks.{blank_new}
use Rattle.sizes.proofs.Counting.{kind_none}
use Rattle.verdict.specs.Edition.{rows_below, slot_words}
use Rattle.verdict.specs.Rooms.{Rooms}
use Rattle.verdict.specs.Refusals.{refusal_number}
use Rattle.verdict.specs.Checked.{CheckLeaves, CheckedBytes, Judges, CheckAnswer, BytesAnswer}
use Rattle.verdict.specs.declared.Found.{Found}
use Rattle.verdict.specs.declared.Refusal.{Refusal}
use Rattle.verdict.specs.declared.Refusal.TheVariants.{Lengths, Kinds, Numbers, Uses, Nesting, Scopes, State, Absent, Unset}
use Rattle.verdict.specs.declared.Refusal.TheVariants as refusals
use Rattle.std.specs.Prelude.{Option, Some, None, Result, Ok, Err}
use Rattle.verdict.specs.Verdict.{judged_bytes, verdict}

-- arrays of n rows, and of 2 more for the standard types, for a table whose sections have fewer
module _ (w : ℕ) (t : List ℕ) (n : ℕ) (few : (k : ℕ) → (table_at w t).count k < n) where
  rooms_new : Rooms (table_at w t) (replicate n 0) (replicate (2 + n) 0) (replicate n 0) (replicate n 0) (replicate n 0)
  rooms_new =
      let a = few 5 in
      let k = few 0 in
      let b = few 3 in
      record {
        for_types = record { room = rw (length-replicate {A = ℕ} n 0) (omega arith) };
        for_sizes = record { room = rw (length-replicate {A = ℕ} (2 + n) 0) (omega arith); beyond = kind_none w t };
        for_blocks = record {
          long = rw (length-replicate {A = ℕ} n 0) (omega arith);
          clear = λ j h. get_or-replicate {A = ℕ} n j 0 0 (rw (length-replicate {A = ℕ} n 0) at h);
        };
        for_nodes = blank_new (node_count (table_at w t)) n (omega arith);
        for_scopes = rw (length-replicate {A = ℕ} n 0) (omega arith);
      }

-- THE SMALL EDITION: a count of one byte is at most 255
pub rows_small : (t : List ℕ) → ((i : ℕ) → get_or t i 0 < 256) → (k : ℕ) → (table_of 1 t).count k < rows_below 1
unfolding table_of
rows_small t bytes k = count_byte (bytes_read 1 t) (read_bytes 1 t bytes) k

module _ (t : List ℕ) (bytes : (i : ℕ) → get_or t i 0 < 256) where
  pub rooms_small : (s : Sections) (c : List ℕ) → Decodes t s c → s.w ≡ 1 → Rooms (decoded c) (replicate 256 0) (replicate 258 0) (replicate 256 0) (replicate 256 0) (replicate 256 0)
  rooms_small s c d e = rw (d.is, e) (rooms_new 1 t 256 (count_byte t bytes))

  -- a row for each row, and then the table
  pub decodable_small : (s : Sections) (c : List ℕ) → SectionsOf t s → s.w ≡ 1 → Blank c → Decodable t s c
  decodable_small s c o e b = record { table = o; blank = b; room = rw e (new_room t bytes) }

-- a refusal is not 0
pub refusal_some : (r : Refusal) → refusal_number r ≡ 0 → ⊥
refusal_some Lengths e = absurd (omega arith)
refusal_some refusals.Sections e = absurd (omega arith)
refusal_some Kinds e = absurd (omega arith)
refusal_some Numbers e = absurd (omega arith)
refusal_some Uses e = absurd (omega arith)
refusal_some Nesting e = absurd (omega arith)
refusal_some refusals.Sizes e = absurd (omega arith)
refusal_some Scopes e = absurd (omega arith)
refusal_some refusals.Types e = absurd (omega arith)
refusal_some State e = absurd (omega arith)
refusal_some Absent e = absurd (omega arith)
refusal_some Unset e = absurd (omega arith)

-- what the reader of the sections answered
pub some_read : (w : ℕ) (t : List ℕ) (o : Option Sections) (s : Sections) → ReadAnswer t w o → o ≡ Some s → WholeSections t w s
some_read w t o s h e = rw e at h

pub none_read : (w : ℕ) (t : List ℕ) (o : Option Sections) → ReadAnswer t w o → o ≡ None → whole w t ≡ false
none_read w t o h e = rw e at h

-- an answer on bytes, from it
module _ (w : ℕ) (t c : List ℕ) (l : length c ≡ slot_words w) where
  pub checked_none : whole w t ≡ false → BytesAnswer w t (Err refusals.Sections) c
  unfolding judged_bytes
  checked_none h =
      record { is = rw h; table = λ o. absurd (omega arith); types = λ o. absurd (omega arith); sizes = λ o. absurd (omega arith); long = l }

  module _ (s : Sections) (h : WholeSections t w s) (d : decoded c ≡ table_at s.w t) where
    same : decoded c ≡ table_at w t
    same = rw h.width at d

    pub checked_found : (r : Result Found Refusal) → Judges (decoded c) r → BytesAnswer w t r c
    unfolding judged_bytes
    checked_found (Ok f) j =
        record { is = rw (h.found, ← same) (sym j.is); table = λ o. same; types = λ o. j.types; sizes = λ o. j.sizes; long = l }
    checked_found (Err r) j =
        record {
          is = rw (h.found, ← same) (sym j);
          table = λ o. absurd (refusal_some r o);
          types = λ o. absurd (refusal_some r o);
          sizes = λ o. absurd (refusal_some r o);
          long = l;
        }

-- zero bytes are read as the listing table, others as themselves
pub checked_empty : (w : ℕ) (t c y z : List ℕ) (r : ℕ) → length t ≡ 0 → CheckedBytes w (listing w) r c y z → CheckLeaves w t r c y z
unfolding verdict table_of bytes_read
checked_empty w [] c y z r e h = record { is = h.is; table = h.table; types = h.types; sizes = h.sizes; long = h.long }
checked_empty w (b ∷ t) c y z r e h = absurd (omega arith)

pub checked_some : (w : ℕ) (t c y z : List ℕ) (r : ℕ) → (length t ≡ 0 → ⊥) → CheckedBytes w t r c y z → CheckLeaves w t r c y z
unfolding verdict table_of bytes_read
checked_some w [] c y z r e h = absurd (e refl)
checked_some w (b ∷ t) c y z r e h = record { is = h.is; table = h.table; types = h.types; sizes = h.sizes; long = h.long }

pub empty_answer : (w : ℕ) (t c : List ℕ) (r : Result Found Refusal) → length t ≡ 0 → BytesAnswer w (listing w) r c → CheckAnswer w t r c
empty_answer w t c (Ok f) e h = checked_empty w t c f.types f.sizes 0 e h
empty_answer w t c (Err r) e h = checked_empty w t c [] [] (refusal_number r) e h

pub some_answer : (w : ℕ) (t c : List ℕ) (r : Result Found Refusal) → (length t ≡ 0 → ⊥) → BytesAnswer w t r c → CheckAnswer w t r c
some_answer w t c (Ok f) e h = checked_some w t c f.types f.sizes 0 e h
some_answer w t c (Err r) e h = checked_some w t c [] [] (refusal_number r) e h
