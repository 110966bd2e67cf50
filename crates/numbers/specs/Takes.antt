-- Inner: for code and proofs only; no public promise is said with these definitions.
-- What a row takes, as the code reads it. Assumes nothing.
use Rattle.std.specs.Prelude.{ℕ, ◌<◌, ◌≡◌, Bool, true, false, Option, MatchOption, IfSome}

-- row i takes `count i` numbers from `first i` on, where it takes any
abbrev pub Takes : (ℕ → Bool) → (ℕ → ℕ) → (ℕ → ℕ) → ℕ → Option (ℕ × ℕ) → Type 0
Takes takes first count i r = MatchOption r (takes i ≡ false) (λ p. (takes i ≡ true) × (p.0 ≡ first i) × (p.1 ≡ count i))

-- what is read of a row are two fields
abbrev pub Fields : Option (ℕ × ℕ) → Type 0
Fields r = IfSome r (λ p. (p.0 < 65536) × (p.1 < 65536))
