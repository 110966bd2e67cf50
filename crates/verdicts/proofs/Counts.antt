-- Counts by verdict, as the code makes them. Assumes nothing.
use Prim.Native.Nat.{ℕ, ◌+◌, ◌<◌, ◌≤◌, min}
use mathlib.Core.Path.{◌≡◌, sym, ◌∙◌}
use mathlib.Core.List.{List}
use native.Mathlib.Omega.{arith}
use lib.Dec.{ltb}
use lib.ListN.{get_or, set}
use borrow.Author.Tests.{eq-eqb, ne_eqb, lt-ltb, le-ltb, ltb-true, ltb-false}
use Rattle.basics.specs.Cases.{cases}
use Rattle.verdicts.specs.Tally.{one_more, counted, counted_if}

-- one more, up to the largest number of 64 bits
saturated : (n : ℕ) → n ≤ 18446744073709551615 → min (n + 1) 18446744073709551615 ≡ one_more n
unfolding one_more
saturated n h =
    cases (ltb n 18446744073709551615)
    (λ e. let l = ltb-true n 18446744073709551615 e in rw e (omega arith))
    (λ e. let l = ltb-false n 18446744073709551615 e in rw e (omega arith))

pub counts : (l : List ℕ) (v r : ℕ) → v < 10 → get_or l v 0 ≤ 18446744073709551615 → r ≡ min (get_or l v 0 + 1) 18446744073709551615 → set l v r ≡ counted l v
unfolding counted
counts l v r h n e = rw (e, lt-ltb v 10 h, saturated (get_or l v 0) n)

pub passes : (l : List ℕ) (v : ℕ) → 10 ≤ v → l ≡ counted l v
unfolding counted
passes l v h = rw (le-ltb v 10 h)

pub agrees : (r x v : ℕ) (l a : List ℕ) → x ≡ r → x ≡ v → a ≡ counted l v → a ≡ counted_if r l v
unfolding counted_if
agrees r x v l a h e u = rw (u, eq-eqb r v (sym h ∙ e))

pub differs : (r x v : ℕ) (l : List ℕ) → x ≡ r → (x ≡ v → ⊥) → l ≡ counted_if r l v
unfolding counted_if
differs r x v l h n = rw (ne_eqb r v (λ e. n (h ∙ e)))

pub ruleset counting = (counts, passes)

pub ruleset comparing = (agrees, differs)
