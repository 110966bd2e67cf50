-- The part of a call's arguments, and what is read in it. Assumes nothing.
use Prim.Native.Nat.{ℕ, zero, suc, ◌+◌, ◌-◌, ◌*◌, ◌≤◌, ◌<◌, ◌^◌, min}
use mathlib.Core.Path.{◌≡◌, refl, ap, ◌∙◌}
use mathlib.Core.List.{List}
use mathlib.Core.Bool.{Bool, true, false}
use lib.ListN.{length, get_or, take, drop, length-drop}
use lib.Seq.{get_or-take, get_or-drop, length-take-le}
use lib.Dec.{eqb, ltb}
use borrow.Author.Tests.{eqb-true, le-leb, lt-leb, lt-ltb, le-ltb, ltb-true, ltb-false}
use native.Mathlib.Nat.{add-mul, suc-mul, mul-le-mul, mul-le-mul_right, add-sub_cancel_left, add_assoc}
use native.Mathlib.Omega.{arith}
use mir.Val.{Fits}
use mir.Syntax.{w64}
use Rattle.basics.specs.Choice.{pick, all_below}
use Rattle.basics.specs.Cases.{cases}
use Rattle.table.specs.Bytes.{num, shorts, words, row_size, field_at, field_width, begins}
use Rattle.table.specs.Table.{count_at, cell_at, table_at}
use Rattle.table.specs.Entries.{arg_node}
use Rattle.table.specs.Reading.{SectionsOf, Field}
use Rattle.table.specs.Parts.{argument_from, arguments_left, argument_part, argument_in}
use Rattle.table.specs.declared.Sections.{Sections}

-- a row of section 4 is one number
size_4 : (w : ℕ) → row_size w 4 ≡ w
unfolding row_size shorts words
size_4 w = omega arith

-- the rows from f on, c of them, of n from a on
module _ (t : List ℕ) (a n f c w : ℕ) (h : a + n * w ≤ length t) (l : f + c ≤ n) where
  rows_end : a + f * w + c * w ≤ length t
  rows_end =
      let m : (f + c) * w ≤ n * w = mul-le-mul_right w l in
      let e : (f + c) * w ≡ f * w + c * w = add-mul f c w in
      omega arith

-- the code's locals
module _ (t : List ℕ) (s : Sections) (o : SectionsOf t s) (first f : ℕ) (hf : f ≡ min first (get_or s.counts 4 0)) where
  room_4 : get_or s.starts 4 0 + get_or s.counts 4 0 * s.w ≤ length t
  room_4 = rw (size_4 s.w) at (o.section 4 (omega arith)).room

  pub least_left : f ≤ get_or s.counts 4 0
  least_left = omega arith

  from_room : get_or s.starts 4 0 + f * s.w ≤ length t
  from_room =
      let m = rows_end t (get_or s.starts 4 0) (get_or s.counts 4 0) f 0 s.w room_4 (omega arith) in
      omega arith

  pub from_mul : length t < 2 ^ 64 → Fits w64 (f * s.w)
  from_mul g = let m = from_room in record { fits = omega arith }

  pub from_add : length t < 2 ^ 64 → Fits w64 (get_or s.starts 4 0 + f * s.w)
  from_add g = let m = from_room in record { fits = omega arith }

  module _ (count c : ℕ) (hc : c ≡ min count (get_or s.counts 4 0 - f)) where
    pub part_end : get_or s.starts 4 0 + f * s.w + c * s.w ≤ length t
    part_end = rows_end t (get_or s.starts 4 0) (get_or s.counts 4 0) f c s.w room_4 (omega arith)

    pub to_mul : length t < 2 ^ 64 → Fits w64 (c * s.w)
    to_mul g = let m = part_end in record { fits = omega arith }

    pub to_add : length t < 2 ^ 64 → Fits w64 (get_or s.starts 4 0 + f * s.w + c * s.w)
    to_add g = let m = part_end in record { fits = omega arith }

    pub part_is :
        take (get_or s.starts 4 0 + f * s.w + c * s.w - (get_or s.starts 4 0 + f * s.w)) (drop (get_or s.starts 4 0 + f * s.w) t)
        ≡ argument_part s.w t first count
    unfolding argument_part argument_from arguments_left
    part_is =
        rw (← (o.section 4 (omega arith)).count, ← (o.section 4 (omega arith)).start (λ e. absurd (omega arith)), ← hf, ← hc)
        (rw add-sub_cancel_left)

-- reading in a part
module _ (b : List ℕ) (w k : ℕ) (lw : w ≤ 2) (lk : k < 65536) where
  product : k * w ≤ 65536 * 2
  product = let m : k ≤ 65536 = omega arith in mul-le-mul m lw

  pub at_mul : Fits w64 (k * w)
  at_mul = let m = product in record { fits = omega arith }

  pub at_add : Fits w64 (k * w + w)
  at_add = let m = product in record { fits = omega arith }

  pub argument_some : (r : ℕ) → k * w + w ≤ length b → Field (num b (k * w) w) r → Field (argument_in b w k) r
  unfolding argument_in
  argument_some r h f = rw (le-leb (k * w + w) (length b) h) f

  pub argument_none : length b < k * w + w → Field (argument_in b w k) 0
  unfolding argument_in
  argument_none h = record { is = rw (lt-leb (k * w + w) (length b) h); small = omega arith }

pub ruleset arguments = (at_mul, at_add, argument_some, argument_none)

pub ruleset parts = (least_left, from_mul, from_add, part_end, to_mul, to_add, part_is)

-- a number in a part is the number in the whole
num_part : (t : List ℕ) (m q p w : ℕ) → 1 ≤ w → p + w ≤ m → num (take m (drop q t)) p w ≡ num t (q + p) w
num_part t m q p w o h = go (eqb w 2) refl
  where
    x : (i : ℕ) → i < m → get_or (take m (drop q t)) i 0 ≡ get_or t (q + i) 0
    x i l = get_or-take m (drop q t) i 0 l ∙ get_or-drop q t i 0

    go : (b : Bool) → eqb w 2 ≡ b
        → pick b (get_or (take m (drop q t)) p 0 + 256 * get_or (take m (drop q t)) (p + 1) 0) (get_or (take m (drop q t)) p 0)
        ≡ pick b (get_or t (q + p) 0 + 256 * get_or t (q + p + 1) 0) (get_or t (q + p) 0)
    go true e =
        let v : w ≡ 2 = eqb-true w 2 e in
        rw (x p (omega arith), x (p + 1) (omega arith), add_assoc)
    go false e = x p (omega arith)

-- row i of section 4
row_4 : (w : ℕ) (t : List ℕ) (i : ℕ) → i < count_at w t 4 → arg_node (table_at w t) i ≡ num t (begins w t 4 + w + i * w) w
unfolding table_at cell_at field_at field_width shorts
row_4 w t i h =
    let e : begins w t 4 + w + i * w + 0 * w ≡ begins w t 4 + w + i * w = omega arith in
    rw (lt-ltb i (count_at w t 4) h, size_4 w, e)

no_row_4 : (w : ℕ) (t : List ℕ) (i : ℕ) → count_at w t 4 ≤ i → arg_node (table_at w t) i ≡ 0
unfolding table_at cell_at
no_row_4 w t i h = rw (le-ltb i (count_at w t 4) h)

-- c rows from f on, of n from a on, in a part
module _ (t : List ℕ) (a n f c w k : ℕ) (h : a + n * w ≤ length t) (l : f + c ≤ n) (o : 1 ≤ w) where
  part_length : length (take (c * w) (drop (a + f * w) t)) ≡ c * w
  part_length =
      let d : length (drop (a + f * w) t) ≡ length t - (a + f * w) = length-drop (a + f * w) t in
      let r = rows_end t a n f c w h l in
      length-take-le (c * w) (drop (a + f * w) t) (omega arith)

  in_part : k < c → argument_in (take (c * w) (drop (a + f * w) t)) w k ≡ num t (a + (f + k) * w) w
  unfolding argument_in
  in_part i =
      let m : suc k * w ≤ c * w = mul-le-mul_right w i in
      let s : suc k * w ≡ k * w + w = suc-mul k w in
      let u : k * w + w ≤ c * w = omega arith in
      let p : (f + k) * w ≡ f * w + k * w = add-mul f k w in
      let q : a + f * w + k * w ≡ a + (f + k) * w = omega arith in
      rw (part_length, le-leb (k * w + w) (c * w) u, ← q) (num_part t (c * w) (a + f * w) (k * w) w o u)

  past_part : c ≤ k → argument_in (take (c * w) (drop (a + f * w) t)) w k ≡ 0
  unfolding argument_in
  past_part i =
      let m : c * w ≤ k * w = mul-le-mul_right w i in
      rw (part_length, lt-leb (k * w + w) (c * w) (omega arith))

-- THE FINDER: argument k of the part is argument first + k of the table
module _ (t : List ℕ) (s : Sections) (o : SectionsOf t s) (first count k : ℕ) (l : k < count) where
  abbrev found : Type 0
  found = argument_in (argument_part s.w t first count) s.w k ≡ arg_node (table_at s.w t) (first + k)

  rows_4 : begins s.w t 4 + s.w + count_at s.w t 4 * s.w ≤ length t
  rows_4 =
      let h : get_or s.starts 4 0 + get_or s.counts 4 0 * s.w ≤ length t = rw (size_4 s.w) at (o.section 4 (omega arith)).room in
      rw ((o.section 4 (omega arith)).start (λ e. absurd (omega arith)), (o.section 4 (omega arith)).count) at h

  found_in : first + k < count_at s.w t 4 → found
  unfolding argument_part argument_from arguments_left
  found_in g =
      let f : min first (count_at s.w t 4) ≡ first = omega arith in
      rw (row_4 s.w t (first + k) g, f)
      (in_part t (begins s.w t 4 + s.w) (count_at s.w t 4) first (min count (count_at s.w t 4 - first)) s.w k rows_4 (omega arith) o.low (omega arith))

  found_none : count_at s.w t 4 ≤ first + k → found
  unfolding argument_part argument_from arguments_left
  found_none g =
      rw (no_row_4 s.w t (first + k) g)
      (past_part t (begins s.w t 4 + s.w) (count_at s.w t 4) (min first (count_at s.w t 4)) (min count (count_at s.w t 4 - min first (count_at s.w t 4))) s.w k rows_4 (omega arith) o.low (omega arith))

  pub argument_is : argument_in (argument_part s.w t first count) s.w k ≡ arg_node (table_at s.w t) (first + k)
  argument_is = cases (ltb (first + k) (count_at s.w t 4)) (λ e. found_in (ltb-true _ _ e)) (λ e. found_none (ltb-false _ _ e))

all_same : (n : ℕ) (f g : ℕ → Bool) → ((k : ℕ) → k < n → f k ≡ g k) → all_below n f ≡ all_below n g
unfolding all_below
all_same zero f g h = refl
all_same (suc n) f g h = let e : f n ≡ g n = h n (omega arith) in let i = all_same n f g (λ k l. h k (omega arith)) in rw (e, i)

-- a test of each argument of a call: of the part's is of the table's
pub each_argument :
    (t : List ℕ) (s : Sections) → SectionsOf t s → (first count : ℕ) (f : ℕ → ℕ → Bool)
    → all_below count (λ k. f k (argument_in (argument_part s.w t first count) s.w k)) ≡ all_below count (λ k. f k (arg_node (table_at s.w t) (first + k)))
each_argument t s o first count f = all_same count _ _ (λ k l. ap (f k) (argument_is t s o first count k l))
