-- Trusted: public promises are said with these definitions.
-- String constants, and strings that are passed to string parameters of another length (02, b). Assumes nothing.
use Rattle.std.specs.Prelude.{ℕ, ◌-◌, List, ◌++◌, length, take, replicate}
use Rattle.table.specs.Table.{Table}
use Rattle.table.specs.Entries.{character}
use Rattle.types.specs.Types.{evened}
use Rattle.machine.specs.Memory.{words_at}

-- the first n characters of a string; character 0 after the last one of a shorter one
unfoldable pub fit : ℕ → List ℕ → List ℕ
fit n ws = take n ws ++ replicate (n - length ws) 0

-- the string constant of q characters from p on: an odd one gains character 0
unfoldable pub text_at : Table → ℕ → ℕ → List ℕ
text_at T p q = fit (evened q) (words_at (λ i. character T i) p q)
