-- Rows and fields. Assumes nothing.
use Prim.Native.Nat.{ℕ, suc, ◌+◌, ◌-◌, ◌*◌, ◌≤◌, ◌<◌}
use mathlib.Core.Path.{◌≡◌, refl, sym}
use mathlib.Core.List.{List}
use lib.ListN.{length, get_or}
use lib.Dec.{ltb}
use borrow.Author.Tests.{lt-ltb, le-ltb, ltb-true, ltb-false}
use native.Mathlib.Nat.{suc-mul, mul-le-mul_right}
use native.Mathlib.Omega.{arith}
use Rattle.basics.specs.Cases.{cases}
use Rattle.table.specs.Bytes.{num, shorts, fields, row_size, field_at, field_width, begins}
use Rattle.table.specs.Table.{Table, cell_at, table_at}
use Rattle.table.specs.Entries.{declared}
use Rattle.table.specs.Reading.{SectionsOf, Field}
use Rattle.table.specs.declared.Sections.{Sections}
use Rattle.table.proofs.Shapes.{short_at, short_width, short_in, word_at, word_width, word_in}

-- the count of section k
pub count-is : (t : List ℕ) (s : Sections) (o : SectionsOf t s) (k : ℕ) → k < 8 → Field ((table_at s.w t).count k) (get_or s.counts k 0)
unfolding table_at
count-is t s o k h = record { is = (o.section k h).count; small = (o.section k h).small }

-- field f of section k, of a row that the section has
field_in : (w k f : ℕ) → f < fields k → field_at w k f + field_width w k f ≤ row_size w k
field_in w k f hf =
    cases (ltb f (shorts k))
    (λ e. let h = ltb-true f (shorts k) e in rw (short_at w k f (shorts k) refl h, short_width w k f (shorts k) refl h) (short_in w k f (shorts k) refl h))
    (λ e. let h = ltb-false f (shorts k) e in rw (word_at w k f (shorts k) refl h, word_width w k f (shorts k) refl h) (word_in w k f (shorts k) refl h hf))

pub field_some : (w k f : ℕ) → 1 ≤ w → 1 ≤ field_width w k f
unfolding field_width
field_some w k f h = cases (ltb f (shorts k)) (λ e. rw e h) (λ e. rw e (omega arith))

module _ (t : List ℕ) (s : Sections) (o : SectionsOf t s) (k n z : ℕ) (hk : k < 8) (hn : Field ((table_at s.w t).count k) n) (hz : z ≡ row_size s.w k) (i : ℕ) (h : i < n) where
  l : i < get_or s.counts k 0
  unfolding table_at
  l = omega (arith, hn.is, (o.section k hk).count)

  pub row_room : get_or s.starts k 0 + (i + 1) * z ≤ length t
  row_room =
      let r : get_or s.starts k 0 + get_or s.counts k 0 * z ≤ length t = rw hz (o.section k hk).room in
      let q : suc i ≡ i + 1 = omega arith in
      let m : (i + 1) * z ≤ get_or s.counts k 0 * z = rw (← q) (mul-le-mul_right z l) in
      omega arith

  -- field f, as it is reckoned
  module _ (f a d : ℕ) (hf : f < fields k) (ha : a ≡ field_at s.w k f) (hd : d ≡ field_width s.w k f) where
    pub cell_room : get_or s.starts k 0 + i * z + a + d ≤ length t
    cell_room =
        let m = field_in s.w k f hf in
        let q : suc i ≡ i + 1 = omega arith in
        let e : (i + 1) * z ≡ i * z + z = rw (← q) (suc-mul i z) in
        omega (arith, row_room)

    pub cell_here : num t (get_or s.starts k 0 + i * z + a) d ≡ (table_at s.w t).cell k i f
    unfolding table_at cell_at
    cell_here =
        let e : begins s.w t k + s.w ≡ get_or s.starts k 0 = sym ((o.section k hk).start (λ q. omega (arith, l))) in
        rw (lt-ltb f (fields k) hf, ← (o.section k hk).count, lt-ltb i (get_or s.counts k 0) l, e, ← hz, ← ha, ← hd)

-- a declared type's field
module _ (T : Table) (x f : ℕ) where
  pub declared_low : x < 3 → Field (declared T x f) 0
  unfolding declared
  declared_low h = record { is = rw (lt-ltb x 3 h); small = omega arith }

  pub declared_is : (r : ℕ) → 3 ≤ x → Field (T.cell 0 (x - 3) f) r → Field (declared T x f) r
  unfolding declared
  declared_is r h e = rw (le-ltb x 3 h) e

pub ruleset counts = (count-is)
