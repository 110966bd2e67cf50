-- Inner: for code and proofs only; no public promise is said with these definitions.
-- What the code answers, as outcomes. Assumes nothing.
use Rattle.std.specs.Prelude.{ℕ, Result, Ok, Err}
use Rattle.words.specs.declared.values.Failure.{Failure}
use Rattle.words.specs.declared.values.Failure.TheVariants.{ResultRange, DivisorZero, IndexRange, EmptyReference, StartedTwice, DeviceAddress, AreaFull, NoValue, ProcessLimit, Unset}
use Rattle.words.specs.Outcomes.{WordOutcome, fail, word}

abbrev pub failure_number : Failure → ℕ
failure_number ResultRange = 16
failure_number DivisorZero = 17
failure_number IndexRange = 18
failure_number EmptyReference = 19
failure_number StartedTwice = 20
failure_number DeviceAddress = 21
failure_number AreaFull = 22
failure_number NoValue = 23
failure_number ProcessLimit = 24
failure_number Unset = 31

abbrev pub outcome_of : Result ℕ Failure → WordOutcome
outcome_of (Ok w) = word w
outcome_of (Err f) = fail (failure_number f)
