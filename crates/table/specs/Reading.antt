-- Inner: for code and proofs only; no public promise is said with these definitions.
-- What the readers answer. Assumes nothing.
use Rattle.std.specs.Prelude.{ℕ, ◌+◌, ◌*◌, ◌≤◌, ◌<◌, ◌≡◌, true, false, List, length, get_or, Option, Some, None}
use Rattle.basics.specs.Choice.{pick}
use Rattle.basics.specs.Loops.{Chain}
use Rattle.table.specs.Bytes.{num, row_size, begins, rows_end, rows_fit, is_left_out, section_end, section_fits, whole}
use Rattle.table.specs.Table.{count_at}
use Rattle.table.specs.declared.Section.{Section}
use Rattle.table.specs.declared.Sections.{Sections}

-- the section k that begins a list of bytes: its count, where its rows begin and where they end; none where the bytes end before
abbrev pub section_of : ℕ → ℕ → ℕ → Section
section_of n a e = record { count = n; start = a; next = e }

unfoldable pub section_at : List ℕ → ℕ → ℕ → Option Section
section_at b w k =
    pick (is_left_out b k 0) (Some (section_of 0 0 0))
    (pick (rows_fit w b k 0) (Some (section_of (num b 0 w) w (rows_end w b k 0))) None)

-- section k of t: its count c, and where its rows begin; where the eighth has none, its count may not be there either
pub record SectionIs (t : List ℕ) (w k c a : ℕ) : Type 0 where
  pub count : c ≡ count_at w t k
  pub start : (k ≡ 7 → 1 ≤ c) → a ≡ begins w t k + w
  pub room : a + c * row_size w k ≤ length t
  pub small : c < 65536

-- s are the sections of t
pub record SectionsOf (t : List ℕ) (s : Sections) : Type 0 where
  pub low : 1 ≤ s.w
  pub high : s.w ≤ 2
  pub section : (k : ℕ) → k < 8 → SectionIs t s.w k (get_or s.counts k 0) (get_or s.starts k 0)

-- what a reader has found when k sections end before p
pub record SectionsTo (t : List ℕ) (w : ℕ) (counts starts : List ℕ) (p k : ℕ) : Type 0 where
  pub upto : k ≤ 8
  pub inside : p ≤ length t
  pub chain : Chain (section_end w t) (section_fits w t) k p
  pub counts8 : length counts ≡ 8
  pub starts8 : length starts ≡ 8
  pub section : (j : ℕ) → j < k → SectionIs t w j (get_or counts j 0) (get_or starts j 0)

-- the bytes are whole sections, and s are these
pub record WholeSections (t : List ℕ) (w : ℕ) (s : Sections) : Type 0 where
  pub found : whole w t ≡ true
  pub sections : SectionsOf t s
  pub width : s.w ≡ w

-- a reader's answer: the sections, none where the bytes are not whole ones
abbrev pub ReadAnswer : List ℕ → ℕ → Option Sections → Type 0
ReadAnswer t w None = whole w t ≡ false
ReadAnswer t w (Some s) = WholeSections t w s

-- r is the number v, and fits a word
pub record Field (v r : ℕ) : Type 0 where
  pub is : r ≡ v
  pub small : r < 65536
