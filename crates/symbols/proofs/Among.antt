-- Words among others: what each of those passes, one of them does. Assumes nothing.
use Prim.Native.Nat.{ℕ}
use mathlib.Core.Path.{◌≡◌, refl}
use mathlib.Core.Bool.{Bool, true}
use mathlib.Core.List.{List, [], ◌∷◌}
use borrow.Author.Tests.{eqb-true}
use Rattle.basics.specs.Choice.{both, either}
use Rattle.basics.specs.Cases.{cases}
use Rattle.basics.proofs.Bools.{both_l, both_r, no_true}
use Rattle.symbols.specs.Vocabulary.{same_bytes, among}

pub same_is : (s u : List ℕ) → same_bytes s u ≡ true → s ≡ u
unfolding same_bytes
same_is [] [] e = refl
same_is [] (y ∷ u) e = no_true e
same_is (x ∷ s) [] e = no_true e
same_is (x ∷ s) (y ∷ u) e = let a = eqb-true x y (both_l _ _ e) in let b = same_is s u (both_r _ _ e) in cc

unfoldable pub each : (List ℕ → Bool) → List (List ℕ) → Bool
each f [] = true
each f (s ∷ ss) = both (f s) (each f ss)

pub among_each : (f : List ℕ → Bool) (ss : List (List ℕ)) (s : List ℕ) → each f ss ≡ true → among s ss ≡ true → f s ≡ true
unfolding among either each
among_each f [] s a e = no_true e
among_each f (u ∷ ss) s a e =
    cases (same_bytes s u)
    (λ q. rw (same_is s u q) (both_l (f u) (each f ss) a))
    (λ q. among_each f ss s (both_r (f u) (each f ss) a) (rw q at e))
