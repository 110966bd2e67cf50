-- Reading the sections one after the other. Assumes nothing.
use Prim.Native.Nat.{ℕ, ◌+◌, ◌-◌, ◌*◌, ◌≤◌, ◌<◌, ◌^◌}
use mathlib.Core.Path.{◌≡◌, refl, sym, ◌∙◌}
use mathlib.Core.List.{List, [], ◌∷◌}
use mathlib.Core.Bool.{true, false}
use lib.ListN.{length, get_or, take, drop, length-drop, set, length-set, get_or-eq_default}
use lib.Seq.{get_or-drop, get_or-set_same, get_or-set_other}
use lib.Dec.{leb, eqb}
use borrow.Author.Tests.{lt-ltb, le-leb, leb-true, leb-false, eqb-true, eqb-false, eq-eqb, ne_eqb}
use borrow.Author.Rules.{part_to_end}
use native.Mathlib.Nat.{add-zero}
use native.Mathlib.Omega.{arith}
use mir.Val.{Fits}
use mir.Syntax.{w64}
use Rattle.basics.specs.Choice.{pick}
use Rattle.basics.specs.Cases.{cases}
use Rattle.basics.proofs.Bools.{no_true, both_l, both_r}
use Rattle.basics.proofs.Chains.{chain_none, chain_more, chain_fail, chain_all}
use Rattle.table.specs.Bytes.{num, row_size, rows_end, rows_fit, is_left_out, section_end, section_fits, whole, begins}
use Rattle.table.specs.Table.{count_at}
use Rattle.std.specs.Prelude.{Option, Some, None}
use Rattle.table.specs.Reading.{section_of, section_at, SectionIs, SectionsTo, WholeSections}
use Rattle.table.specs.declared.Section.{Section}

next : (p n : ℕ) → n ≤ p → n ≤ p + 1
next p n h = omega arith

-- two tests that hold of each other's numbers are the same test
same_test : (a b c d : ℕ) → (a ≤ b → c ≤ d) → (c ≤ d → a ≤ b) → leb a b ≡ leb c d
same_test a b c d f g =
    cases (leb a b)
    (λ e. e ∙ sym (le-leb c d (f (leb-true a b e))))
    (λ e. cases (leb c d) (λ h. let l = g (leb-true c d h) in let m = leb-false a b e in absurd (omega arith)) (λ h. e ∙ sym h))

-- a section of a part is a section of the whole
module _ (t : List ℕ) (p w k : ℕ) where
  num_drop : num (drop p t) 0 w ≡ num t p w
  num_drop = simp (get_or-drop, add-zero)

  end_drop : p + rows_end w (drop p t) k 0 ≡ rows_end w t k p
  unfolding rows_end
  end_drop = let m : num (drop p t) 0 w * row_size w k ≡ num t p w * row_size w k = rw num_drop in omega arith

  fits_drop : p ≤ length t → rows_fit w (drop p t) k 0 ≡ rows_fit w t k p
  unfolding rows_fit
  fits_drop h =
      let l : length (drop p t) ≡ length t - p = length-drop p t in
      let e = end_drop in
      let a : leb (0 + w) (length (drop p t)) ≡ leb (p + w) (length t) = same_test (0 + w) (length (drop p t)) (p + w) (length t) (λ x. omega arith) (λ x. omega arith) in
      let b : leb (rows_end w (drop p t) k 0) (length (drop p t)) ≡ leb (rows_end w t k p) (length t) = same_test (rows_end w (drop p t) k 0) (length (drop p t)) (rows_end w t k p) (length t) (λ x. omega arith) (λ x. omega arith) in
      rw (a, b)

  left_drop : p ≤ length t → is_left_out (drop p t) k 0 ≡ is_left_out t k p
  unfolding is_left_out
  left_drop h =
      let l : length (drop p t) ≡ length t - p = length-drop p t in
      let a : eqb 0 (length (drop p t)) ≡ eqb p (length t) =
      cases (eqb p (length t))
      (λ e. let x = eqb-true p (length t) e in rw e (eq-eqb 0 (length (drop p t)) (omega arith)))
      (λ e. let x = eqb-false p (length t) e in rw e (ne_eqb 0 (length (drop p t)) (λ y. x (omega arith)))) in
      rw a

-- the section is left out: it is the eighth, and nothing is left
left_true : (t : List ℕ) (k p : ℕ) → is_left_out t k p ≡ true → (k ≡ 7) × (p ≡ length t)
unfolding is_left_out
left_true t k p e = (eqb-true k 7 (both_l _ _ e), eqb-true p (length t) (both_r _ _ e))

num_past : (t : List ℕ) (p w : ℕ) → length t ≤ p → num t p w ≡ 0
num_past t p w h = cases (eqb w 2) (λ e. simp (e, get_or-eq_default t 0 h, get_or-eq_default t 0 (next p (length t) h))) (λ e. simp (e, get_or-eq_default t 0 h))

-- an answer of `read_section` on the part from p on
abbrev from : ℕ → List ℕ → List ℕ
from p t = take (length t - p) (drop p t)

-- it tells of a section that fits: its count n, where its rows begin, a after p, and its end, e after p
record Told (t : List ℕ) (p w k n a e : ℕ) : Type 0 where
  pub fits : section_fits w t k p ≡ true
  pub count : n ≡ num t p w
  pub ends : p + e ≡ section_end w t k p
  pub rows : a + n * row_size w k ≡ e
  pub start : (k ≡ 7 → 1 ≤ n) → a ≡ w

module _ (t : List ℕ) (p w k : ℕ) (r : Option Section) (h : p ≤ length t) (s : r ≡ section_at (from p t) w k) where
  told : r ≡ pick (is_left_out t k p) (Some (section_of 0 0 0)) (pick (rows_fit w t k p) (Some (section_of (num t p w) w (rows_end w (drop p t) k 0))) None)
  unfolding section_at
  told = let x : r ≡ section_at (drop p t) w k = rw part_to_end at s in x ∙ rw (left_drop t p w k h, fits_drop t p w k h, num_drop t p w k)

  early_told : r ≡ None → section_fits w t k p ≡ false
  unfolding section_fits
  early_told e =
      cases (is_left_out t k p)
      (λ f. let x = rw f at told in cc)
      (λ f. cases (rows_fit w t k p) (λ g. let x = rw (f, g) at told in cc) (λ g. rw (f, g)))

  module _ (x : Section) (g : r ≡ Some x) where
    left_told : is_left_out t k p ≡ true → Told t p w k x.count x.start x.next
    unfolding section_fits section_end
    left_told f =
        let q = rw f at told in
        let y = left_true t k p f in
        let z : x ≡ section_of 0 0 0 = cc in
        record {
          fits = rw f;
          count = rw (num_past t p w (omega (arith, y.1)), z);
          ends = rw (f, z) (omega arith);
          rows = rw z (omega arith);
          start = λ q. let n = q y.0 in let m : x.count ≡ 0 = rw z in absurd (omega arith);
        }

    rows_told : is_left_out t k p ≡ false → rows_fit w t k p ≡ true → Told t p w k x.count x.start x.next
    unfolding section_fits section_end rows_end
    rows_told f i =
        let q = rw (f, i) at told in
        let z : x ≡ section_of (num t p w) w (rows_end w (drop p t) k 0) = cc in
        rw z (record { fits = rw (f, i); count = refl; ends = rw f (end_drop t p w k); rows = let m = num_drop t p w k in rw m (omega arith); start = λ q. refl })

    whole_told : Told t p w k x.count x.start x.next
    whole_told =
        cases (is_left_out t k p) left_told
        (λ f. cases (rows_fit w t k p) (rows_told f) (λ i. let q = rw (f, i) at told in cc))

fits_room : (t : List ℕ) (p w k : ℕ) → section_fits w t k p ≡ true → section_end w t k p ≤ length t
unfolding section_fits section_end rows_fit
fits_room t p w k f =
    cases (is_left_out t k p)
    (λ e. rw e (omega (arith, (left_true t k p e).1)))
    (λ e. rw e (cases (leb (p + w) (length t)) (λ g. leb-true _ _ (rw (e, g) at f)) (λ g. no_true (rw (e, g) at f))))

num_small : (t : List ℕ) (p w : ℕ) → ((i : ℕ) → get_or t i 0 < 256) → num t p w < 65536
num_small t p w b = cases (eqb w 2) (λ e. rw e (omega (arith, b p, b (p + 1)))) (λ e. rw e (omega (arith, b p)))

module _ (t : List ℕ) (w : ℕ) where
  pub sections_none : SectionsTo t w (0 ∷ 0 ∷ 0 ∷ 0 ∷ 0 ∷ 0 ∷ 0 ∷ 0 ∷ []) (0 ∷ 0 ∷ 0 ∷ 0 ∷ 0 ∷ 0 ∷ 0 ∷ 0 ∷ []) 0 0
  sections_none =
      record {
        upto = omega arith;
        inside = omega arith;
        chain = chain_none _ _;
        counts8 = refl;
        starts8 = refl;
        section = λ j h. absurd (omega arith);
      }

  module _ (counts starts : List ℕ) (p k : ℕ) (o : SectionsTo t w counts starts p k) (l : k < 8) (r : Option Section) (s : r ≡ section_at (from p t) w k) where
    pub sections_early : r ≡ None → whole w t ≡ false
    unfolding whole
    sections_early e = sym (chain_fail _ _ k p o.chain 8 (length t) l (early_told t p w k r o.inside s e))

    module _ (y : Section) (g : r ≡ Some y) where
      pub section-end : p + y.next ≤ length t
      section-end = let x = whole_told t p w k r o.inside s y g in rw x.ends (fits_room t p w k x.fits)

      pub section-fits : length t < 2 ^ 64 → Fits w64 (p + y.next)
      section-fits h = let x = section-end in record { fits = omega arith }

      pub section_start : p + y.start ≤ length t
      section_start = let x = whole_told t p w k r o.inside s y g in let m = section-end in omega (arith, x.rows)

      pub start_fits : length t < 2 ^ 64 → Fits w64 (p + y.start)
      start_fits h = let x = section_start in record { fits = omega arith }

      here : ((i : ℕ) → get_or t i 0 < 256) → SectionIs t w k y.count (p + y.start)
      unfolding count_at begins
      here b =
          let x = whole_told t p w k r o.inside s y g in
          let m = section-end in
          record {
            count = rw (lt-ltb k 8 l, ← o.chain.is) x.count;
            start = λ q. rw (x.start q, ← o.chain.is);
            room = omega (arith, x.rows);
            small = rw x.count (num_small t p w b);
          }

      pub sections_more : ((i : ℕ) → get_or t i 0 < 256) → SectionsTo t w (set counts k y.count) (set starts k (p + y.start)) (p + y.next) (k + 1)
      sections_more b =
          let x = whole_told t p w k r o.inside s y g in
          let c8 = o.counts8 in
          let s8 = o.starts8 in
          record {
            upto = omega arith;
            inside = section-end;
            chain = chain_more _ _ k p o.chain (p + y.next) x.fits x.ends;
            counts8 = simp length-set c8;
            starts8 = simp length-set s8;
            section = λ j h.
                cases (eqb j k)
                (λ q.
                let i : j ≡ k = eqb-true j k q in
                rw (i, get_or-set_same counts k y.count 0 (omega arith), get_or-set_same starts k (p + y.start) 0 (omega arith)) (here b))
                (λ q.
                let i = eqb-false j k q in
                rw (get_or-set_other counts k j y.count 0 i, get_or-set_other starts k j (p + y.start) 0 i) (o.section j (omega arith)));
          }

  module _ (counts starts : List ℕ) (p k : ℕ) (o : SectionsTo t w counts starts p k) (l : 8 ≤ k) where
    ends : eqb p (length t) ≡ whole w t
    unfolding whole
    ends = chain_all _ _ k p o.chain 8 (length t) o.upto l

    pub sections_left : (p ≡ length t → ⊥) → whole w t ≡ false
    sections_left n = sym ends ∙ ne_eqb p (length t) n

    pub sections_all : 1 ≤ w → w ≤ 2 → p ≡ length t → WholeSections t w (record { w = w; counts = counts; starts = starts })
    sections_all a z e =
        record {
          found = sym ends ∙ eq-eqb p (length t) e;
          sections = record { low = a; high = z; section = λ j h. o.section j (omega arith) };
          width = refl;
        }
