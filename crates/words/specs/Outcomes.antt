-- Trusted: public promises are said with these definitions.
-- What an operation comes to: a word, or the number of a failure (01, step answers). Assumes nothing.
use Rattle.std.specs.Prelude.{ℕ}

pub data WordOutcome : Type 0 where
  word : ℕ → WordOutcome
  fail : ℕ → WordOutcome
