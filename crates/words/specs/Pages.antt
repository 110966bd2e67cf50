-- Inner: for code and proofs only; no public promise is said with these definitions.
-- Device words, read and written in a page of bytes. Assumes nothing.
use Rattle.std.specs.Prelude.{ℕ, List}
use Rattle.basics.specs.Choice.{pick}
use Rattle.words.specs.Memory.{word_at_byte, put_at_byte}
use Rattle.words.specs.Numbers.{int_of}
use Rattle.words.specs.Outcomes.{WordOutcome, word, fail}
use Rattle.words.specs.Devices.{is_device, position_of}

-- 10.2, val
unfoldable pub read_device : List ℕ → ℕ → WordOutcome
read_device page a = pick (is_device (int_of a)) (word (word_at_byte page (position_of (int_of a)))) (fail 21)

-- 12.3, write: what it answers, and the page that it leaves
unfoldable pub write_device : ℕ → ℕ → WordOutcome
write_device a v = pick (is_device (int_of a)) (word v) (fail 21)

unfoldable pub page_with : List ℕ → ℕ → ℕ → List ℕ
page_with page a v = pick (is_device (int_of a)) (put_at_byte page (position_of (int_of a)) v) page
