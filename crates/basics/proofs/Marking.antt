-- Marks count occurrences up to two. Assumes nothing.
use Prim.Native.Nat.{ℕ, ◌+◌, ◌≤◌, ◌<◌, min}
use mathlib.Core.Path.{◌≡◌, refl, sym, ap, ◌∙◌, subst}
use mathlib.Core.List.{List, [], ◌∷◌, ◌++◌}
use lib.ListN.{length, get_or, set, replicate, length-set, length-replicate, get_or-replicate}
use lib.Seq.{get_or-set_same, get_or-set_other}
use lib.Dec.{eqb, ltb}
use borrow.Author.Tests.{eq-eqb, lt-ltb, le-ltb, ltb-true, ltb-false, eqb-true, eqb-false}
use native.Mathlib.Numerals.{add-one}
use native.Mathlib.Omega.{arith}
use Rattle.basics.specs.Cases.{cases}
use Rattle.basics.specs.Marks.{occurs, gather}
use Rattle.basics.specs.Loops.{with_mark, MarksOf}

module _ (x : ℕ) (seen : List ℕ) where
  pub mark_far : length seen ≤ x → seen ≡ with_mark x seen
  unfolding with_mark
  mark_far h = rw (le-ltb x (length seen) h)

  pub mark_full : x < length seen → 2 ≤ get_or seen x 0 → seen ≡ with_mark x seen
  unfolding with_mark
  mark_full h l = rw (lt-ltb x (length seen) h, le-ltb (get_or seen x 0) 2 l)

  pub mark_one : x < length seen → get_or seen x 0 < 2 → set seen x (get_or seen x 0 + 1) ≡ with_mark x seen
  unfolding with_mark
  mark_one h l = rw (lt-ltb x (length seen) h, lt-ltb (get_or seen x 0) 2 l)

pub length_marked : (x : ℕ) (seen : List ℕ) → length (with_mark x seen) ≡ length seen
length_marked x seen =
    cases (ltb x (length seen))
    (λ p. cases (ltb (get_or seen x 0) 2)
    (λ q. ap length (sym (mark_one x seen (ltb-true x (length seen) p) (ltb-true (get_or seen x 0) 2 q))) ∙ length-set seen x (get_or seen x 0 + 1))
    (λ q. ap length (sym (mark_full x seen (ltb-true x (length seen) p) (ltb-false (get_or seen x 0) 2 q)))))
    (λ p. ap length (sym (mark_far x seen (ltb-false x (length seen) p))))

-- nothing is marked, nothing has occurred
pub seen_none : (n : ℕ) → MarksOf [] (replicate n 0)
unfolding occurs
seen_none n = record { marks = λ j h. get_or-replicate {A = ℕ} n j 0 0 (rw (length-replicate {A = ℕ} n 0) at h) }

pub seen_zeros : (seen : List ℕ) → ((j : ℕ) → j < length seen → get_or seen j 0 ≡ 0) → MarksOf [] seen
unfolding occurs
seen_zeros seen h = record { marks = h }

-- one number more
module _ (x : ℕ) (l seen : List ℕ) (s : MarksOf l seen) where
  at_x : x < length seen → get_or (with_mark x seen) x 0 ≡ min (occurs x l + 1) 2
  at_x h =
      let e = s.marks x h in
      cases (ltb (get_or seen x 0) 2)
      (λ q. rw (← mark_one x seen h (ltb-true (get_or seen x 0) 2 q), get_or-set_same seen x (get_or seen x 0 + 1) 0 h) (omega (arith, ltb-true (get_or seen x 0) 2 q)))
      (λ q. rw (← mark_full x seen h (ltb-false (get_or seen x 0) 2 q)) (omega (arith, ltb-false (get_or seen x 0) 2 q)))

  at_other : (j : ℕ) → (j ≡ x → ⊥) → get_or (with_mark x seen) j 0 ≡ get_or seen j 0
  at_other j n =
      cases (ltb x (length seen))
      (λ p. cases (ltb (get_or seen x 0) 2)
      (λ q. rw (← mark_one x seen (ltb-true x (length seen) p) (ltb-true (get_or seen x 0) 2 q)) (get_or-set_other seen x j (get_or seen x 0 + 1) 0 n))
      (λ q. rw (← mark_full x seen (ltb-true x (length seen) p) (ltb-false (get_or seen x 0) 2 q))))
      (λ p. rw (← mark_far x seen (ltb-false x (length seen) p)))

  pub seen_more : MarksOf (x ∷ l) (with_mark x seen)
  unfolding occurs
  seen_more =
      record {
        marks = λ j h.
            let g : j < length seen = rw (length_marked x seen) at h in
            cases (eqb x j)
            (λ q. let e : x ≡ j = eqb-true x j q in subst (λ (y : ℕ). get_or (with_mark x seen) y 0 ≡ min (occurs y (x ∷ l)) 2) e (rw (eq-eqb x x refl) (at_x (rw (← e) at g))))
            (λ q. rw q (at_other j (λ e. eqb-false x j q (sym e)) ∙ s.marks j g));
      }

pub gather_more : (f : ℕ → List ℕ) (i : ℕ) → gather f (i + 1) ≡ f i ++ gather f i
unfolding gather
gather_more f i = rw (add-one i)
