-- Marks that are set after words are written (02, g). Assumes nothing.
use Prim.Native.Nat.{ℕ, ◌+◌, ◌-◌, ◌*◌, ◌≤◌}
use mathlib.Core.Path.{◌≡◌, refl, ◌∙◌}
use mathlib.Core.List.{List}
use native.Mathlib.Omega.{arith}
use lib.Dec.{eqb}
use lib.ListN.{length, take}
use lib.Seq.{length-take-le}
use Rattle.table.specs.Table.{Table}
use Rattle.types.specs.Types.{evened}
use Rattle.machine.specs.Memory.{Memory, memory_of, update, store}
use Rattle.machine.specs.Layout.{location, statement_at, top_at, number_at}
use Rattle.machine.specs.Lent.{Becomes}
use Rattle.machine.specs.Marks.{set_marks, mark, fresh}
use Rattle.machine.specs.Texts.{text_at}
use Rattle.machine.specs.Processes.{created, started}
use Rattle.marks.proofs.Marking.{then_marks}
use Rattle.machine.proofs.TextLaws.{text_long, evened_low}
use Rattle.frames.specs.Frames.{framed_marks, entered, called_in, with_process}

-- ---- locations that are made

module _ (s s1 : List ℕ) (number : ℕ) (e : number ≡ memory_of s number_at) where
  pub makes : (a n : ℕ) → Becomes s1 (set_marks (memory_of s) a n (eqb number 1)) → Becomes s1 (fresh (memory_of s) a n)
  makes a n c = rw (← e) c

  pub makes_area : (p : ℕ) → Becomes s1 (set_marks (memory_of s) ((p - 1) * 16 * 16) (16 * 16) (eqb number 1))
      → Becomes s1 (fresh (memory_of s) (location p 0) 256)
  unfolding location
  makes_area p c = let d : (p - 1) * 16 * 16 ≡ (p - 1) * 256 + 0 = omega arith in rw (← e, ← d) c

then_makes : (s r : List ℕ) (m : Memory) (a n : ℕ) → Becomes s m → Becomes r (fresh (memory_of s) a n) → Becomes r (fresh m a n)
then_makes s r m a n c d = record { long = d.long; is = rw (d.is, c.is) }

-- ---- a string constant

pub marks_text : (T : Table) (s s1 s2 : List ℕ) (at p q n : ℕ) → n ≡ evened q → Becomes s1 (store (memory_of s) at (text_at T p q))
    → Becomes s2 (mark (memory_of s1) at n)
    → Becomes s2 (mark (store (memory_of s) at (text_at T p q)) at (length (text_at T p q)))
marks_text T s s1 s2 at p q n e c1 c2 =
    record { long = c2.long; is = c2.is ∙ rw (c1.is, text_long T p q, e) }

-- ---- a frame

pub marks_frame : (s s1 s2 : List ℕ) (at n size : ℕ) → Becomes s1 (mark (memory_of s) at (4 + n))
    → Becomes s2 (fresh (memory_of s1) (at + 4 + n) (size - n)) → Becomes s2 (framed_marks (memory_of s) at size n)
unfolding framed_marks
marks_frame s s1 s2 at n size c1 c2 = then_makes s1 s2 (mark (memory_of s) at (4 + n)) (at + 4 + n) (size - n) c1 c2

pub calls_in : (s s1 s2 ws : List ℕ) (p q r c size top at : ℕ) → top ≡ memory_of s (top_at p) → at ≡ location p top
    → Becomes s1 (entered (memory_of s) p q r c size ws) → Becomes s2 (framed_marks (memory_of s1) at size (length ws))
    → Becomes s2 (called_in (memory_of s) p q r c size ws)
unfolding called_in
calls_in s s1 s2 ws p q r c size top at i j c1 c2 = record { long = c2.long; is = c2.is ∙ rw (c1.is, j, i) }

-- ---- processes

pub makes_for : (s s1 s2 s3 : List ℕ) (n μ i : ℕ) → Becomes s1 (created (memory_of s) n μ) → Becomes s2 (update (memory_of s1) i n)
    → Becomes s3 (fresh (memory_of s2) (location n 0) 256) → Becomes s3 (with_process (memory_of s) n μ i)
unfolding with_process
makes_for s s1 s2 s3 n μ i c1 c2 c3 = record { long = c3.long; is = rw (c3.is, c2.is, c1.is) }

pub creates_at : (s s1 s2 s3 : List ℕ) (p c n μ i : ℕ) → Becomes s1 (with_process (memory_of s) n μ i) → Becomes s2 (mark (memory_of s1) i 1)
    → Becomes s3 (update (memory_of s2) (statement_at p) c)
    → Becomes s3 (update (mark (fresh (update (created (memory_of s) n μ) i n) (location n 0) 256) i 1) (statement_at p) c)
unfolding with_process
creates_at s s1 s2 s3 p c n μ i c1 c2 c3 = record { long = c3.long; is = rw (c3.is, c2.is, c1.is) }

pub starts_on : (T : Table) (s s1 s2 s3 b : List ℕ) (p c r μ n at : ℕ) → n ≤ length b → at ≡ location r 0
    → Becomes s1 (started T (memory_of s) r μ (take n b)) → Becomes s2 (mark (memory_of s1) at n)
    → Becomes s3 (update (memory_of s2) (statement_at p) c)
    → Becomes s3 (update (mark (started T (memory_of s) r μ (take n b)) (location r 0) (length (take n b))) (statement_at p) c)
starts_on T s s1 s2 s3 b p c r μ n at h i c1 c2 c3 =
    record { long = c3.long; is = rw (c3.is, c2.is, c1.is, i, length-take-le n b h) }

pub location_is : (p k : ℕ) → location p k ≡ (p - 1) * 256 + k
unfolding location
location_is p k = refl

pub ruleset marks = (location_is, makes, makes_area, then_marks, evened_low, marks_text, marks_frame, calls_in, makes_for, creates_at, starts_on)
