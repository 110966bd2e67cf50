-- The marks of a memory after marks were set. Assumes nothing.
use Prim.Native.Nat.{ℕ, zero, suc, ◌+◌, ◌-◌, ◌*◌, ◌/◌, ◌%◌, ◌^◌, ◌<◌, ◌≤◌}
use mathlib.Core.Path.{◌≡◌, refl, sym, ◌∙◌}
use mathlib.Core.Bool.{Bool, true, false}
use mathlib.Core.Logic.{◌⊎◌, inl, inr}
use native.Mathlib.Nat.{add-zero, add-suc, pow-suc}
use lib.Pow.{pow_pos}
use native.Mathlib.Omega.{arith}
use borrow.Author.Tests.{eqb-true, eqb-false, ltb-true, ltb-false}
use lib.Dec.{eqb, ltb}
use Rattle.basics.specs.Choice.{both}
use Rattle.basics.specs.Cases.{cases}
use Rattle.machine.specs.Memory.{Memory, update}
use Rattle.machine.specs.Layout.{plain_words, location, record_at}
use Rattle.machine.specs.Marks.{bit_number, bit_of, put_bit, mark_word, marked, set_mark, set_marks, all_marked}
use Rattle.machine.specs.MarkRuns.{put_run, full_run}
use Rattle.machine.proofs.Memories.{update_same, update_other, update_own, update_twice, update_swap}
use Rattle.machine.proofs.MarkBits.{bit_zero, bit_suc, bit_small, put_own, run_whole, bit_put, bit_put_other, put_lt, run_none, run_suc, full_none, full_suc, both_assoc, both_true}

-- ---- one mark

number_eqb : (v : Bool) → eqb (bit_number v) 1 ≡ v
number_eqb true = refl
number_eqb false = refl

pub marked_set : (m : Memory) (a : ℕ) (v : Bool) → marked (set_mark m a v) a ≡ v
unfolding marked set_mark
marked_set m a v =
    rw (update_same m (mark_word a) (put_bit (m (mark_word a)) (a % 16) v), bit_put (m (mark_word a)) (a % 16) v) (number_eqb v)

same_place : (a b : ℕ) → mark_word b ≡ mark_word a → b % 16 ≡ a % 16 → b ≡ a
unfolding mark_word
same_place a b e f = omega arith

pub marked_other : (m : Memory) (a b : ℕ) (v : Bool) → (b ≡ a → ⊥) → marked (set_mark m a v) b ≡ marked m b
unfolding marked set_mark
marked_other m a b v d =
    cases (eqb (mark_word b) (mark_word a))
    (λ e.
    let q : mark_word b ≡ mark_word a = eqb-true (mark_word b) (mark_word a) e in
    let f : b % 16 ≡ a % 16 → ⊥ = λ g. d (same_place a b q g) in
    rw (q, update_same m (mark_word a) (put_bit (m (mark_word a)) (a % 16) v), bit_put_other (m (mark_word a)) (a % 16) (b % 16) v f))
    (λ e. rw (update_other m (mark_word a) (put_bit (m (mark_word a)) (a % 16) v) (mark_word b) (eqb-false (mark_word b) (mark_word a) e)))

number_of : (b : ℕ) (v : Bool) → b ≤ 1 → eqb b 1 ≡ v → b ≡ bit_number v
number_of b true h e = eqb-true b 1 e
number_of b false h e = let d = eqb-false b 1 e in omega arith

pub mark_own : (m : Memory) (a : ℕ) (v : Bool) → marked m a ≡ v → set_mark m a v ≡ m
unfolding marked set_mark
mark_own m a v e =
    rw (put_own (m (mark_word a)) (a % 16) v (number_of (bit_of (m (mark_word a)) (a % 16)) v (bit_small (m (mark_word a)) (a % 16)) e))
    (update_own m (mark_word a))

mark_update : (m : Memory) (a i x : ℕ) (v : Bool) → i < plain_words → set_mark (update m i x) a v ≡ update (set_mark m a v) i x
unfolding set_mark mark_word
mark_update m a i x v h =
    rw (update_other m i x (plain_words + a / 16) (λ e. omega arith))
    (update_swap m i x (plain_words + a / 16) (put_bit (m (plain_words + a / 16)) (a % 16) v) (λ e. omega arith))

-- ---- several marks

pub marks_none : (m : Memory) (a : ℕ) (v : Bool) → set_marks m a 0 v ≡ m
unfolding set_marks
marks_none m a v = refl

pub marks_more : (m : Memory) (a n : ℕ) (v : Bool) → set_marks m a (n + 1) v ≡ set_mark (set_marks m a n v) (a + n) v
unfolding set_marks
marks_more m a n v = let e : n + 1 ≡ suc n = omega arith in rw e

pub marks_out : (m : Memory) (a n b : ℕ) (v : Bool) → ((k : ℕ) → k < n → b ≡ a + k → ⊥) → marked (set_marks m a n v) b ≡ marked m b
unfolding set_marks
marks_out m a zero b v d = refl
marks_out m a (suc n) b v d =
    marked_other (set_marks m a n v) (a + n) b v (d n (omega arith)) ∙ marks_out m a n b v (λ k h. d k (omega arith))

pub marks_below : (m : Memory) (a n b : ℕ) (v : Bool) → b < a → marked (set_marks m a n v) b ≡ marked m b
marks_below m a n b v h = marks_out m a n b v (λ k l e. omega arith)

pub marks_above : (m : Memory) (a n b : ℕ) (v : Bool) → a + n ≤ b → marked (set_marks m a n v) b ≡ marked m b
marks_above m a n b v h = marks_out m a n b v (λ k l e. omega arith)

pub marks_in : (m : Memory) (a n k : ℕ) (v : Bool) → k < n → marked (set_marks m a n v) (a + k) ≡ v
unfolding set_marks
marks_in m a zero k v h = absurd (omega arith)
marks_in m a (suc n) k v h =
    cases (eqb k n)
    (λ e. let q : k ≡ n = eqb-true k n e in rw q (marked_set (set_marks m a n v) (a + n) v))
    (λ e.
    let d : k ≡ n → ⊥ = eqb-false k n e in
    marked_other (set_marks m a n v) (a + n) (a + k) v (λ q. d (omega arith)) ∙ marks_in m a n k v (omega arith))

-- what was marked stays so where marks are set
pub marks_kept : (m : Memory) (a n b : ℕ) (v : Bool) → v ≡ true → marked m b ≡ true → marked (set_marks m a n v) b ≡ true
marks_kept m a n b v t h =
    cases (ltb b a)
    (λ e. marks_below m a n b v (ltb-true b a e) ∙ h)
    (λ e.
    let g = ltb-false b a e in
    cases (ltb b (a + n))
    (λ f.
    let l = ltb-true b (a + n) f in
    let q : a + (b - a) ≡ b = omega arith in
    (rw q at (marks_in m a n (b - a) v (omega arith))) ∙ t)
    (λ f. marks_above m a n b v (ltb-false b (a + n) f) ∙ h))

-- other words stay
pub marks_others : (m : Memory) (a n i : ℕ) (v : Bool) → ((k : ℕ) → k < n → i ≡ mark_word (a + k) → ⊥) → set_marks m a n v i ≡ m i
unfolding set_marks set_mark
marks_others m a zero i v d = refl
marks_others m a (suc n) i v d =
    update_other (set_marks m a n v) (mark_word (a + n)) (put_bit (set_marks m a n v (mark_word (a + n))) ((a + n) % 16) v) i (d n (omega arith))
    ∙ marks_others m a n i v (λ k h. d k (omega arith))

pub marks_word : (m : Memory) (a n i : ℕ) (v : Bool) → i < plain_words → set_marks m a n v i ≡ m i
unfolding mark_word
marks_word m a n i v h = marks_others m a n i v (λ k l e. omega arith)

-- and a word that is no mark's has no say in marks
pub marked_update : (m : Memory) (i x a : ℕ) → i < plain_words → marked (update m i x) a ≡ marked m a
unfolding marked mark_word
marked_update m i x a h = rw (update_other m i x (plain_words + a / 16) (λ e. omega arith))

-- words stay words
pub mark_small : (m : Memory) (a : ℕ) (v : Bool) → ((i : ℕ) → m i < 65536) → (i : ℕ) → set_mark m a v i < 65536
unfolding set_mark
mark_small m a v h i =
    cases (eqb i (mark_word a))
    (λ e.
    let q : i ≡ mark_word a = eqb-true i (mark_word a) e in
    rw (q, update_same m (mark_word a) (put_bit (m (mark_word a)) (a % 16) v)) (put_lt 16 (m (mark_word a)) (a % 16) v (omega arith) (h (mark_word a))))
    (λ e. rw (update_other m (mark_word a) (put_bit (m (mark_word a)) (a % 16) v) i (eqb-false i (mark_word a) e)) (h i))

pub marks_small : (m : Memory) (a n : ℕ) (v : Bool) → ((i : ℕ) → m i < 65536) → (i : ℕ) → set_marks m a n v i < 65536
unfolding set_marks
marks_small m a zero v h i = h i
marks_small m a (suc n) v h i = mark_small (set_marks m a n v) (a + n) v (marks_small m a n v h) i

pub marks_add : (m : Memory) (a k c : ℕ) (v : Bool) → set_marks m a (k + c) v ≡ set_marks (set_marks m a k v) (a + k) c v
unfolding set_marks
marks_add m a k zero v = rw (add-zero k)
marks_add m a k (suc c) v =
    let e : a + (k + c) ≡ a + k + c = omega arith in
    rw (add-suc k c, e, marks_add m a k c v)

-- those that have their marks in one word
same_word : (a c : ℕ) → a % 16 + c < 16 → mark_word (a + c) ≡ mark_word a
unfolding mark_word
same_word a c h = omega arith

pub marks_run : (m : Memory) (a c : ℕ) (v : Bool) → a % 16 + c ≤ 16
    → set_marks m a c v ≡ update m (mark_word a) (put_run (m (mark_word a)) (a % 16) c v)
unfolding set_marks set_mark
marks_run m a zero v h = rw (run_none (m (mark_word a)) (a % 16) v) (sym (update_own m (mark_word a)))
marks_run m a (suc c) v h =
    let e : (a + c) % 16 ≡ a % 16 + c = omega arith in
    rw (same_word a c (omega arith), e, marks_run m a c v (omega arith), update_same m (mark_word a) (put_run (m (mark_word a)) (a % 16) c v), run_suc (a % 16) c (m (mark_word a)) v)
    (update_twice m (mark_word a) (put_run (m (mark_word a)) (a % 16) c v) (put_bit (put_run (m (mark_word a)) (a % 16) c v) (a % 16 + c) v))

-- all the marks of a word
pub marks_whole : (m : Memory) (i : ℕ) (v : Bool) → m (plain_words + i) < 65536
    → set_marks m (i * 16) 16 v ≡ update m (plain_words + i) (bit_number v * 65535)
unfolding mark_word
marks_whole m i v h =
    let e : i * 16 / 16 ≡ i = omega arith in
    let d : i * 16 % 16 ≡ 0 = omega arith in
    rw (← run_whole (m (plain_words + i)) v h) (rw (e, d) at (marks_run m (i * 16) 16 v (omega arith)))

-- a word that is no mark's may be written before or after
pub marks_update : (m : Memory) (a n i x : ℕ) (v : Bool) → i < plain_words
    → set_marks (update m i x) a n v ≡ update (set_marks m a n v) i x
unfolding set_marks
marks_update m a zero i x v h = refl
marks_update m a (suc n) i x v h =
    rw (marks_update m a n i x v h) (mark_update (set_marks m a n v) (a + n) i x v h)

-- marks that stand there already
pub marks_own : (m : Memory) (a n : ℕ) (v : Bool) → ((k : ℕ) → k < n → marked m (a + k) ≡ v) → set_marks m a n v ≡ m
unfolding set_marks
marks_own m a zero v f = refl
marks_own m a (suc n) v f = rw (marks_own m a n v (λ k h. f k (omega arith))) (mark_own m (a + n) v (f n (omega arith)))

-- ---- all marked

pub all_more : (m : Memory) (a n : ℕ) → all_marked m a (n + 1) ≡ both (all_marked m a n) (marked m (a + n))
unfolding all_marked
all_more m a n = let e : n + 1 ≡ suc n = omega arith in rw e

pub all_add : (m : Memory) (a k c : ℕ) → all_marked m a (k + c) ≡ both (all_marked m a k) (all_marked m (a + k) c)
unfolding all_marked
all_add m a k zero = rw (add-zero k) (sym (both_true (all_marked m a k)))
all_add m a k (suc c) =
    let e : a + (k + c) ≡ a + k + c = omega arith in
    rw (add-suc k c, e, all_add m a k c) (both_assoc (all_marked m a k) (all_marked m (a + k) c) (marked m (a + k + c)))

pub all_run : (m : Memory) (a c : ℕ) → a % 16 + c ≤ 16 → all_marked m a c ≡ full_run (m (mark_word a)) (a % 16) c
unfolding all_marked marked
all_run m a zero h = sym (full_none (m (mark_word a)) (a % 16))
all_run m a (suc c) h =
    let e : (a + c) % 16 ≡ a % 16 + c = omega arith in
    rw (same_word a c (omega arith), e, all_run m a c (omega arith)) (sym (full_suc (a % 16) c (m (mark_word a))))

module _ (m : Memory) (a : ℕ) where
  both_parts : (x y : Bool) → both x y ≡ true → (x ≡ true) × (y ≡ true)
  unfolding both
  both_parts true y e = (refl, e)
  both_parts false y e = absurd (let z : ◌≡◌ {A = ℕ} 0 1 = cc in omega arith)

  pub all_each : (n k : ℕ) → all_marked m a n ≡ true → k < n → marked m (a + k) ≡ true
  unfolding all_marked
  all_each zero k e h = absurd (omega arith)
  all_each (suc n) k e h =
      let p = both_parts (all_marked m a n) (marked m (a + n)) e in
      cases (eqb k n)
      (λ f. let q : k ≡ n = eqb-true k n f in rw q p.1)
      (λ f. let d : k ≡ n → ⊥ = eqb-false k n f in all_each n k p.0 (omega arith))

  pub each_all : (n : ℕ) → ((k : ℕ) → k < n → marked m (a + k) ≡ true) → all_marked m a n ≡ true
  unfolding all_marked both
  each_all zero f = refl
  each_all (suc n) f = rw (each_all n (λ k h. f k (omega arith)), f n (omega arith))

pub all_update : (m : Memory) (i x a n : ℕ) → i < plain_words → all_marked (update m i x) a n ≡ all_marked m a n
unfolding all_marked
all_update m i x a zero h = refl
all_update m i x a (suc n) h = rw (all_update m i x a n h, marked_update m i x (a + n) h)

-- locations that were just marked, and locations apart from those
pub all_in : (m : Memory) (a n b k : ℕ) → a ≤ b → b + k ≤ a + n → all_marked (set_marks m a n true) b k ≡ true
all_in m a n b k h l =
    each_all (set_marks m a n true) b k
    (λ j g.
    let e : a + (b + j - a) ≡ b + j = omega arith in
    rw e at (marks_in m a n (b + j - a) true (omega arith)))

pub all_out : (m : Memory) (a n b k : ℕ) (v : Bool) → (b + k ≤ a) ⊎ (a + n ≤ b) → all_marked (set_marks m a n v) b k ≡ all_marked m b k
unfolding all_marked
all_out m a n b zero v h = refl
all_out m a n b (suc k) v (inl h) = rw (all_out m a n b k v (inl (omega arith)), marks_below m a n (b + k) v (omega arith))
all_out m a n b (suc k) v (inr h) = rw (all_out m a n b k v (inr (omega arith)), marks_above m a n (b + k) v (omega arith))

-- ---- a state with its words, and the same with other marks

-- s and m have the same areas and control records
pub record SameWords (m s : Memory) : Type 0 where
  pub plain : (i : ℕ) → i < plain_words → s i ≡ m i

pub same_words : (m : Memory) → SameWords m m
same_words m = record { plain = λ i h. refl }

pub same_marks : (m s : Memory) (a n : ℕ) (v : Bool) → SameWords m s → SameWords m (set_marks s a n v)
same_marks m s a n v h = record { plain = λ i l. marks_word s a n i v l ∙ h.plain i l }

pub same_update : (m s : Memory) (i x : ℕ) → SameWords m s → SameWords (update m i x) (update s i x)
same_update m s i x h =
    record {
      plain = λ j l.
          cases (eqb j i)
          (λ e. let q : j ≡ i = eqb-true j i e in rw q (update_same s i x ∙ sym (update_same m i x)))
          (λ e. let d = eqb-false j i e in update_other s i x j d ∙ h.plain j l ∙ sym (update_other m i x j d));
    }

-- the words of locations and of control records are plain
pub location_plain : (p k : ℕ) → 1 ≤ p → p ≤ 64 → k < 256 → location p k < plain_words
unfolding location
location_plain p k a b c = omega arith

pub record_plain : (p k : ℕ) → p ≤ 64 → k < 20 → record_at p k < plain_words
unfolding record_at
record_plain p k a b = omega arith

-- all marks of a state that begins with variables as 0
full_bit : (n k : ℕ) → k < n → bit_of (2 ^ n - 1) k ≡ 1
full_bit zero k h = absurd (omega arith)
full_bit (suc n) zero h = let p = pow-suc 2 n in let q = pow_pos n in bit_zero (2 ^ suc n - 1) ∙ omega arith
full_bit (suc n) (suc k) h =
    let p = pow-suc 2 n in
    let q = pow_pos n in
    let e : (2 ^ suc n - 1) / 2 ≡ 2 ^ n - 1 = omega arith in
    bit_suc (2 ^ suc n - 1) k ∙ rw e (full_bit n k (omega arith))

pub full_marked : (m : Memory) (a : ℕ) → m (mark_word a) ≡ 65535 → marked m a ≡ true
unfolding marked
full_marked m a e = rw (e, full_bit 16 (a % 16) (omega arith))
