-- A special symbol does not reach past its text. Assumes nothing.
use Prim.Native.Nat.{ℕ, ◌≤◌}
use mathlib.Core.Path.{◌≡◌}
use mathlib.Core.List.{List, [], ◌∷◌}
use native.Mathlib.Omega.{arith}
use lib.ListN.{length}
use mathlib.Core.Bool.{true}
use Rattle.basics.specs.Cases.{cases}
use Rattle.basics.proofs.Bools.{both_r, no_true}
use Rattle.symbols.specs.Vocabulary.{special_symbols, begins_with, longest, special_length}

begins_length : (s l : List ℕ) → begins_with s l ≡ true → length s ≤ length l
unfolding begins_with
begins_length [] l e = omega arith
begins_length (x ∷ s) [] e = no_true e
begins_length (x ∷ s) (y ∷ l) e = let i = begins_length s l (both_r _ _ e) in omega arith

longest_length : (ss : List (List ℕ)) (l : List ℕ) → longest ss l ≤ length l
unfolding longest
longest_length [] l = omega arith
longest_length (s ∷ ss) l =
    let i = longest_length ss l in
    cases (begins_with s l) (λ e. let b = begins_length s l e in rw e (omega arith)) (λ e. rw e (omega arith))

pub special-length : (l : List ℕ) → special_length l ≤ length l
unfolding special_length
special-length l = longest_length special_symbols l
