-- Trusted: public promises are said with these definitions.
-- The table of a program: eight sections of rows of numbers. All above this layer speaks of it and not of bytes. Assumes nothing.
use Rattle.std.specs.Prelude.{ℕ, ◌+◌, ◌*◌, List, ltb}
use Rattle.basics.specs.Choice.{pick}
use Rattle.table.specs.Bytes.{num, sections, fields, row_size, field_at, field_width, begins}
use Rattle.table.specs.Empty.{bytes_read}

pub record Table : Type 0 where
  -- how many rows a section has, 0 for a number that no section has
  pub count : ℕ → ℕ
  -- section, row, field: the number there, 0 where the section has no such row or its rows have no such field
  pub cell : ℕ → ℕ → ℕ → ℕ

-- the table that bytes hold, in the edition of width w; bytes that end before the eighth section hold none of its rows
unfoldable pub count_at : ℕ → List ℕ → ℕ → ℕ
count_at w t k = pick (ltb k sections) (num t (begins w t k) w) 0

unfoldable pub cell_at : ℕ → List ℕ → ℕ → ℕ → ℕ → ℕ
cell_at w t k i f =
    pick (ltb f (fields k))
    (pick (ltb i (count_at w t k))
    (num t (begins w t k + w + i * row_size w k + field_at w k f) (field_width w k f))
    0)
    0

unfoldable pub table_at : ℕ → List ℕ → Table
table_at w t = record { count = count_at w t; cell = cell_at w t }

-- THE TABLE that a call reads, of the bytes that it is lent
unfoldable pub table_of : ℕ → List ℕ → Table
table_of w t = table_at w (bytes_read w t)
