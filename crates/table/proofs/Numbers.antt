-- A number of one or two bytes, and a section that begins a part. Assumes nothing.
use Prim.Native.Nat.{ℕ, ◌+◌, ◌-◌, ◌*◌, ◌≤◌, ◌<◌}
use mathlib.Core.Path.{◌≡◌, sym}
use mathlib.Core.Bool.{Bool, true, false}
use mathlib.Core.List.{List}
use lib.ListN.{length, get_or}
use lib.Dec.{eqb}
use borrow.Author.Tests.{eq-eqb, ne_eqb, eqb-true, eqb-false, le-leb, lt-leb}
use Rattle.basics.specs.Cases.{cases}
use native.Mathlib.Nat.{mul-le-mul}
use native.Mathlib.Omega.{arith}
use mir.Val.{Fits}
use mir.Syntax.{w64}
use Rattle.table.specs.Bytes.{num, row_size, rows_end, rows_fit, is_left_out}
use Rattle.std.specs.Prelude.{Option, Some, None}
use Rattle.table.specs.Reading.{section_of, section_at, Field}
use Rattle.table.specs.declared.Section.{Section}

pub num_two : (t : List ℕ) (p k a b : ℕ) → k ≡ 2 → a ≡ get_or t p 0 → b ≡ get_or t (p + 1) 0 → a < 256 → b < 256 → Field (num t p k) (a + 256 * b)
num_two t p k a b h ha hb la lb = record { is = simp (eq-eqb k 2 h) (omega arith); small = omega arith }

pub num_one : (t : List ℕ) (p k r : ℕ) → (k ≡ 2 → ⊥) → r ≡ get_or t p 0 → r < 256 → Field (num t p k) r
num_one t p k r h e l = record { is = simp (ne_eqb k 2 h) e; small = omega arith }

-- the section at the start of a list
abbrev some : ℕ → ℕ → ℕ → Option Section
some n a e = Some (section_of n a e)

module _ (b : List ℕ) (w k n z : ℕ) where
  pub left_out : (x : Bool) → x ≡ is_left_out b k 0 → x ≡ true → some 0 0 0 ≡ section_at b w k
  unfolding section_at
  left_out x e h = rw (← e, h)

  pub early_short : (x : Bool) → x ≡ is_left_out b k 0 → x ≡ false → length b < w → None ≡ section_at b w k
  unfolding section_at rows_fit
  early_short x q f h = rw (← q, f) (simp (lt-leb (0 + w) (length b) (omega arith)))

  module _ (x : Bool) (q : x ≡ is_left_out b k 0) (f : x ≡ false) (e : n ≡ num b 0 w) (g : z ≡ row_size w k) (l : w ≤ length b) where
    pub early_long : length b - w < n * z → None ≡ section_at b w k
    unfolding section_at rows_fit rows_end
    early_long h =
        let m : num b 0 w * row_size w k ≡ n * z = rw (e, g) in
        rw (← q, f) (simp (le-leb (0 + w) (length b) (omega arith), lt-leb (0 + w + num b 0 w * row_size w k) (length b) (omega arith)))

    pub is_whole : n * z ≤ length b - w → some n w (w + n * z) ≡ section_at b w k
    unfolding section_at rows_fit rows_end
    is_whole h =
        let m : num b 0 w * row_size w k ≡ n * z = rw (e, g) in
        let u : 0 + w + num b 0 w * row_size w k ≡ w + n * z = omega arith in
        rw (← q, f) (simp (le-leb (0 + w) (length b) (omega arith), le-leb (0 + w + num b 0 w * row_size w k) (length b) (omega arith)) (cc))

pub rows-fit : {n z : ℕ} → n < 65536 → z ≤ 16 → Fits w64 (n * z)
rows-fit {n} {z} h l = let k : n ≤ 65536 = omega arith in let m : n * z ≤ 65536 * 16 = mul-le-mul k l in record { fits = omega arith }

-- nothing is left, as `is_empty` tests it
pub emptiness : (n : ℕ) → eqb n 0 ≡ eqb 0 n
emptiness n = cases (eqb n 0) (λ e. let h = eqb-true n 0 e in rw h) (λ e. let h = eqb-false n 0 e in rw e (sym (ne_eqb 0 n (λ q. h (sym q)))))
