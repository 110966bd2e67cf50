-- Inner: for code and proofs only; no public promise is said with these definitions.
-- What a check leaves, in the edition of width w: the verdict r on the bytes t, and of bytes that are accepted the table in the slots c,
-- the types y of its nodes and the words z of its types.
-- Assumes nothing.
use Rattle.std.specs.Prelude.{ℕ, ◌≡◌, List, [], length, Result, Ok, Err}
use Rattle.table.specs.Table.{Table, table_at, table_of}
use Rattle.code.specs.Code.{decoded}
use Rattle.types.specs.Kept.{Types}
use Rattle.sizes.specs.Kept.{Sizes}
use Rattle.verdict.specs.Edition.{slot_words}
use Rattle.verdict.specs.Refusals.{refusal_number}
use Rattle.verdict.specs.Verdict.{judged, judged_bytes, verdict}
use Rattle.verdict.specs.declared.Found.{Found}
use Rattle.verdict.specs.declared.Refusal.{Refusal}

module _ (w : ℕ) (t : List ℕ) (r : ℕ) (c y z : List ℕ) where
  pub record CheckLeaves : Type 0 where
    pub is : r ≡ verdict w t
    pub table : r ≡ 0 → decoded c ≡ table_of w t
    pub types : r ≡ 0 → Types (decoded c) y
    pub sizes : r ≡ 0 → Sizes (decoded c) z
    pub long : length c ≡ slot_words w

  -- the same of the bytes that are read
  pub record CheckedBytes : Type 0 where
    pub is : r ≡ judged_bytes w t
    pub table : r ≡ 0 → decoded c ≡ table_at w t
    pub types : r ≡ 0 → Types (decoded c) y
    pub sizes : r ≡ 0 → Sizes (decoded c) z
    pub long : length c ≡ slot_words w

-- what an accepted table is found to have
pub record Finds (T : Table) (f : Found) : Type 0 where
  pub is : judged T ≡ 0
  pub types : Types T f.types
  pub sizes : Sizes T f.sizes

-- an answer on a table
abbrev pub Judges : Table → Result Found Refusal → Type 0
Judges T (Ok f) = Finds T f
Judges T (Err r) = judged T ≡ refusal_number r

-- an answer on bytes: what it finds of bytes that are accepted, or the number of its refusal
abbrev pub CheckAnswer : ℕ → List ℕ → Result Found Refusal → List ℕ → Type 0
CheckAnswer w t (Ok f) c = CheckLeaves w t 0 c f.types f.sizes
CheckAnswer w t (Err r) c = CheckLeaves w t (refusal_number r) c [] []

abbrev pub BytesAnswer : ℕ → List ℕ → Result Found Refusal → List ℕ → Type 0
BytesAnswer w t (Ok f) c = CheckedBytes w t 0 c f.types f.sizes
BytesAnswer w t (Err r) c = CheckedBytes w t (refusal_number r) c [] []
