-- Inner: for code and proofs only; no public promise is said with these definitions.
-- The numbers of refusals, as C sees them (01, Verdicts and other refusals). Assumes nothing.
use Rattle.std.specs.Prelude.{ℕ, ◌+◌, Result, Ok, Err}
use Rattle.verdict.specs.declared.Refusal.{Refusal}
use Rattle.verdict.specs.declared.Refusal.TheVariants.{Lengths, Sections, Kinds, Numbers, Uses, Nesting, Sizes, Scopes, Types, State, Absent, Unset}

abbrev pub refusal_number : Refusal → ℕ
refusal_number Lengths = 1
refusal_number Sections = 2
refusal_number Kinds = 3
refusal_number Numbers = 4
refusal_number Uses = 5
refusal_number Nesting = 6
refusal_number Sizes = 7
refusal_number Scopes = 8
refusal_number Types = 9
refusal_number State = 10
refusal_number Absent = 11
refusal_number Unset = 32

-- the number that a call gives: 0 where it refuses nothing
abbrev pub verdict_number : {A : Type 0} → Result A Refusal → ℕ
verdict_number (Ok x) = 0
verdict_number (Err r) = refusal_number r

-- that of a look: 65,536 and the word that it found
abbrev pub look_number : Result ℕ Refusal → ℕ
look_number (Ok n) = 65536 + n
look_number (Err r) = refusal_number r
