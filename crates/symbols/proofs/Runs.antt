-- A run of bytes of a class, as the library counts it. Assumes nothing.
use mathlib.Core.Path.{◌≡◌, refl}
use mathlib.Core.Bool.{Bool}
use mathlib.Core.List.{List, [], ◌∷◌}
use Prim.Native.Nat.{ℕ}
use native.Mathlib.Omega.{arith}
use Rattle.std.specs.List.{prefix_len}
use Rattle.basics.specs.Cases.{cases}
use Rattle.symbols.specs.Runs.{span_length}

pub prefix_span : (f : ℕ → Bool) (l : List ℕ) → prefix_len f l ≡ span_length f l
unfolding span_length
prefix_span f [] = refl
prefix_span f (x ∷ l) = let i = prefix_span f l in cases (f x) (λ e. rw e (omega arith)) (λ e. rw e)
