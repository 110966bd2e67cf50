-- What the code does, as flat laws. Assumes nothing.
use Prim.Native.Nat.{ℕ, ◌+◌, ◌-◌, ◌*◌, ◌/◌, ◌%◌, ◌^◌, ◌<◌, ◌≤◌}
use mathlib.Core.Path.{◌≡◌, refl, sym, ap, ◌∙◌}
use mathlib.Core.Bool.{Bool, true, false}
use mathlib.Core.List.{List}
use native.Mathlib.Omega.{arith}
use Rattle.std.proofs.Common.{add-one}
use borrow.Author.Rules.{rules}
use lib.Dec.{eqb, ltb}
use lib.ListN.{get_or}
use borrow.Author.Tests.{eqb-true, eqb-false, ltb-true, ltb-false}
use Rattle.basics.specs.Cases.{cases}
use Rattle.basics.specs.Choice.{both}
use Rattle.words.specs.Bytes.{Bytes}
use Rattle.machine.specs.Memory.{Memory, memory_of, update}
use Rattle.machine.specs.Layout.{plain_words, locations}
use Rattle.machine.specs.Lent.{State, Becomes}
use Rattle.machine.specs.Marks.{bit_of, mark_word, marked, set_marks, all_marked}
use Rattle.machine.specs.MarkRuns.{put_run, full_run, MarkRun}
use Rattle.machine.proofs.MarkBits.{bit_lower, bit_higher}
use Rattle.machine.proofs.MarkLaws.{marks_none, marks_add, marks_run, all_add, all_run}

-- ---- one location: its mark is bit a % 8 of byte a / 8 of the marks, for the low byte of a word comes first

module _ (s : List ℕ) (b : Bytes s) (a : ℕ) where
  byte_bit : bit_of (get_or s (plain_words * 2 + a / 8) 0) (a % 8) ≡ bit_of (memory_of s (plain_words + a / 16)) (a % 16)
  unfolding memory_of
  byte_bit =
      let x = get_or s ((plain_words + a / 16) * 2) 0 in
      let y = get_or s ((plain_words + a / 16) * 2 + 1) 0 in
      cases (ltb (a % 16) 8)
      (λ t.
      let h = ltb-true (a % 16) 8 t in
      let i : plain_words * 2 + a / 8 ≡ (plain_words + a / 16) * 2 = omega arith in
      let k : a % 8 ≡ a % 16 = omega arith in
      rw (i, k) (sym (bit_lower 8 x y (a % 16) h)))
      (λ t.
      let h = ltb-false (a % 16) 8 t in
      let i : plain_words * 2 + a / 8 ≡ (plain_words + a / 16) * 2 + 1 = omega arith in
      let k : a % 16 ≡ 8 + a % 8 = omega arith in
      rw (i, k) (sym (bit_higher 8 x y (a % 8) (b.small ((plain_words + a / 16) * 2)))))

  pub mark_is : eqb (get_or s (plain_words * 2 + a / 8) 0 / 2 ^ (a % 8) % 2) 1 ≡ marked (memory_of s) a
  unfolding marked mark_word bit_of
  mark_is = ap (λ (x : ℕ). eqb x 1) byte_bit

-- ---- in one word

module _ (s : List ℕ) (a w : ℕ) (e : w ≡ memory_of s (plain_words + a / 16)) where
  pub run_is : (r : Bool) (c : ℕ) → a % 16 + c ≤ 16 → r ≡ full_run w (a % 16) c → r ≡ all_marked (memory_of s) a c
  unfolding mark_word
  run_is r c l h = h ∙ rw e (sym (all_run (memory_of s) a c l))

  pub run_set : (s' : List ℕ) (x c : ℕ) (v : Bool) → a % 16 + c ≤ 16 → x ≡ put_run w (a % 16) c v
      → Becomes s' (update (memory_of s) (plain_words + a / 16) x) → Becomes s' (set_marks (memory_of s) a c v)
  unfolding mark_word
  run_set s' x c v l h g = record { long = g.long; is = g.is ∙ rw (h, e) (sym (marks_run (memory_of s) a c v l)) }

-- marks that are set after another change
pub then_marks : (s r : List ℕ) (m : Memory) (a n : ℕ) (v : Bool) → Becomes s m
    → Becomes r (set_marks (memory_of s) a n v) → Becomes r (set_marks m a n v)
then_marks s r m a n v c d = record { long = d.long; is = rw (d.is, c.is) }

-- no locations
pub none_set : (s : List ℕ) (a n : ℕ) (v : Bool) → State s → n ≡ 0 → Becomes s (set_marks (memory_of s) a n v)
none_set s a n v l e = record { long = l.long; is = rw e (sym (marks_none (memory_of s) a v)) }

pub none_tested : (m : Memory) (a n : ℕ) → n ≡ 0 → true ≡ all_marked m a n
unfolding all_marked
none_tested m a n e = rw e

-- ---- whole words of marks, one after the other

module _ (m : Memory) (i k : ℕ) where
  apart : (i + k) * 16 ≡ i * 16 + k * 16
  apart = omega arith

  pub fills_none : (v : Bool) → set_marks m (i * 16) (0 * 16) v ≡ m
  fills_none v = marks_none m (i * 16) v

  pub fills_more : (v : Bool) → set_marks (set_marks m (i * 16) (k * 16) v) ((i + k) * 16) 16 v ≡ set_marks m (i * 16) ((k + 1) * 16) v
  fills_more v = let e : (k + 1) * 16 ≡ k * 16 + 16 = omega arith in rw (apart, e) (sym (marks_add m (i * 16) (k * 16) 16 v))

  pub tests_none : all_marked m (i * 16) (0 * 16) ≡ true
  unfolding all_marked
  tests_none = refl

  one_more : all_marked m (i * 16) ((k + 1) * 16) ≡ both (all_marked m (i * 16) (k * 16)) (all_marked m ((i + k) * 16) 16)
  one_more = let e : (k + 1) * 16 ≡ k * 16 + 16 = omega arith in rw (apart, e) (all_add m (i * 16) (k * 16) 16)

  pub tests_more : all_marked m (i * 16) (k * 16) ≡ true → all_marked m ((i + k) * 16) 16 ≡ true → all_marked m (i * 16) ((k + 1) * 16) ≡ true
  unfolding both
  tests_more l t = rw (one_more, l) t

  pub tests_stop : (n : ℕ) → k < n → all_marked m (i * 16) (k * 16) ≡ true → all_marked m ((i + k) * 16) 16 ≡ false → all_marked m (i * 16) (n * 16) ≡ false
  unfolding both
  tests_stop n h l t =
      let d : (k + 1) * 16 + (n - (k + 1)) * 16 ≡ n * 16 = omega arith in
      rw (← d, all_add m (i * 16) ((k + 1) * 16) ((n - (k + 1)) * 16), one_more, l, t)

pub ruleset fills = (fills_none, fills_more)

pub ruleset tests = (tests_none, tests_more, tests_stop)

-- ---- the first word, whole words, the rest: c of n locations from a on, k words, what is left

module _ (a n c k : ℕ) (p : MarkRun a n c) (e : k ≡ (n - c) / 16) where
  parts : c + (k * 16 + (n - c - k * 16)) ≡ n
  parts = let u = p.upto in omega arith

  aligned : (k ≡ 0 → ⊥) → (a + c) / 16 * 16 ≡ a + c
  aligned d = let h : c < n = omega arith in let r = p.ends h in omega arith

  pub whole_fits : a + n ≤ locations → (a + c) / 16 + k ≤ 1024
  whole_fits l = let u = p.upto in let r = p.ends in omega arith

  pub rest_in : a + n ≤ locations → a + c + k * 16 + (n - c - k * 16) ≤ locations
  rest_in l = let u = p.upto in omega arith

  pub rest_room : (a + c + k * 16) % 16 + (n - c - k * 16) ≤ 16
  rest_room =
      let u = p.upto in
      cases (ltb c n)
      (λ f. let r = p.ends (ltb-true c n f) in omega arith)
      (λ f. let g = ltb-false c n f in omega arith)

  whole_marks : (m : Memory) (v : Bool) → set_marks m ((a + c) / 16 * 16) (k * 16) v ≡ set_marks m (a + c) (k * 16) v
  whole_marks m v =
      cases (eqb k 0)
      (λ f. let z : k * 16 ≡ 0 = omega (arith, eqb-true k 0 f) in rw (z, marks_none m ((a + c) / 16 * 16) v) (sym (marks_none m (a + c) v)))
      (λ f. rw (aligned (eqb-false k 0 f)))

  whole_all : (m : Memory) → all_marked m ((a + c) / 16 * 16) (k * 16) ≡ all_marked m (a + c) (k * 16)
  unfolding all_marked
  whole_all m =
      cases (eqb k 0)
      (λ f. let z : k * 16 ≡ 0 = omega (arith, eqb-true k 0 f) in rw z)
      (λ f. rw (aligned (eqb-false k 0 f)))

  pub sets_parts : (v : Bool) (s s1 s2 s3 : List ℕ) → Becomes s1 (set_marks (memory_of s) a c v)
      → Becomes s2 (set_marks (memory_of s1) ((a + c) / 16 * 16) (k * 16) v)
      → Becomes s3 (set_marks (memory_of s2) (a + c + k * 16) (n - c - k * 16) v) → Becomes s3 (set_marks (memory_of s) a n v)
  sets_parts v s s1 s2 s3 x y z = record {
    long = z.long;
    is = z.is
        ∙ rw (y.is, whole_marks (memory_of s1) v, x.is, ← marks_add (set_marks (memory_of s) a c v) (a + c) (k * 16) (n - c - k * 16) v, ← marks_add (memory_of s) a c (k * 16 + (n - c - k * 16)) v, parts);
  }

  in_parts : (m : Memory) → all_marked m a n ≡ both (all_marked m a c) (both (all_marked m ((a + c) / 16 * 16) (k * 16)) (all_marked m (a + c + k * 16) (n - c - k * 16)))
  in_parts m =
      rw (whole_all m, ← all_add m (a + c) (k * 16) (n - c - k * 16), ← all_add m a c (k * 16 + (n - c - k * 16)), parts)

  pub whole_unset : (m : Memory) (r x : Bool) → r ≡ all_marked m a c → r ≡ true → x ≡ all_marked m ((a + c) / 16 * 16) (k * 16) → x ≡ false → false ≡ all_marked m a n
  unfolding both
  whole_unset m r x q t y z = rw (in_parts m, ← q, t, ← y, z)

  pub rest_tested : (m : Memory) (r x b : Bool) → r ≡ all_marked m a c → r ≡ true → x ≡ all_marked m ((a + c) / 16 * 16) (k * 16) → x ≡ true
      → b ≡ all_marked m (a + c + k * 16) (n - c - k * 16) → b ≡ all_marked m a n
  unfolding both
  rest_tested m r x b q t y z w = rw (in_parts m, ← q, t, ← y, z) w

pub first_unset : (m : Memory) (a n c : ℕ) (r : Bool) → MarkRun a n c → r ≡ all_marked m a c → r ≡ false → false ≡ all_marked m a n
unfolding both
first_unset m a n c r p q t = let e : c + (n - c) ≡ n = omega (arith, p.upto) in rw (← e, all_add m a c (n - c), ← q, t)

pub ruleset parting = (whole_fits, rest_in, rest_room, sets_parts, first_unset, whole_unset, rest_tested, none_set, none_tested, rules)
