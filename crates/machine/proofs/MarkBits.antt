-- Bits of a word, by induction on their number: each law has its step, and the steps are linear. Assumes nothing.
use Prim.Native.Nat.{ℕ, zero, suc, ◌+◌, ◌-◌, ◌*◌, ◌/◌, ◌%◌, ◌^◌, ◌<◌, ◌≤◌}
use mathlib.Core.Path.{◌≡◌, refl, ap, sym, ◌∙◌}
use mathlib.Core.Bool.{Bool, true, false}
use native.Mathlib.Nat.{pow-suc, mod-eq_of_lt, lt_of_lt_of_le}
use native.Mathlib.Omega.{arith}
use borrow.Author.Tests.{eqb-true, eqb-false, eq-eqb, ne_eqb}
use lib.Bits.{and_mask as and-ones, bit_and, bit_or, or_add_and, and_step, and_le_l, and_le_r}
use lib.Dec.{eqb}
use lib.Pow.{shr-shr, pow_pos, pow_mono, shl_exact, high_ones}
use Rattle.basics.specs.Choice.{both}
use Rattle.basics.specs.Cases.{cases}
use Rattle.machine.specs.Marks.{bit_number, bit_of, put_bit}
use Rattle.machine.specs.MarkRuns.{mask_of, put_run, full_run}

pub bit_number_small : (v : Bool) → bit_number v ≤ 1
bit_number_small true = omega arith
bit_number_small false = omega arith

-- ---- one bit

pub bit_zero : (w : ℕ) → bit_of w 0 ≡ w % 2
unfolding bit_of
bit_zero w = omega arith

pub bit_suc : (w k : ℕ) → bit_of w (suc k) ≡ bit_of (w / 2) k
unfolding bit_of
bit_suc w k = let e : 1 + k ≡ suc k = omega arith in ap (λ (x : ℕ). x % 2) (sym (rw e at (shr-shr w 1 k)))

pub bit_small : (w k : ℕ) → bit_of w k ≤ 1
unfolding bit_of
bit_small w k = omega arith

pub bit_le : (w k : ℕ) → bit_of w k * 2 ^ k ≤ w
bit_le w zero = omega (arith, bit_zero w)
bit_le w (suc k) = rw (bit_suc w k, pow-suc 2 k) (omega (arith, bit_le (w / 2) k))

pub put_zero : (w : ℕ) (v : Bool) → put_bit w 0 v ≡ w / 2 * 2 + bit_number v
unfolding put_bit
put_zero w v = rw (bit_zero w) (omega arith)

pub put_suc : (w k : ℕ) (v : Bool) → put_bit w (suc k) v ≡ put_bit (w / 2) k v * 2 + w % 2
unfolding put_bit
put_suc w k v = rw (bit_suc w k, pow-suc 2 k) (omega (arith, bit_le (w / 2) k))

pub bit_put : (w k : ℕ) (v : Bool) → bit_of (put_bit w k v) k ≡ bit_number v
bit_put w zero v = rw (bit_zero (put_bit w 0 v), put_zero w v) (omega (arith, bit_number_small v))
bit_put w (suc k) v =
    let h : put_bit w (suc k) v / 2 ≡ put_bit (w / 2) k v = omega (arith, put_suc w k v) in
    rw (bit_suc (put_bit w (suc k) v) k, h) (bit_put (w / 2) k v)

pub bit_put_other : (w k j : ℕ) (v : Bool) → (j ≡ k → ⊥) → bit_of (put_bit w k v) j ≡ bit_of w j
bit_put_other w zero zero v d = absurd (d refl)
bit_put_other w zero (suc j) v d =
    let h : put_bit w 0 v / 2 ≡ w / 2 = omega (arith, put_zero w v, bit_number_small v) in
    rw (bit_suc (put_bit w 0 v) j, h, bit_suc w j)
bit_put_other w (suc k) zero v d = omega (arith, bit_zero (put_bit w (suc k) v), bit_zero w, put_suc w k v)
bit_put_other w (suc k) (suc j) v d =
    let h : put_bit w (suc k) v / 2 ≡ put_bit (w / 2) k v = omega (arith, put_suc w k v) in
    rw (bit_suc (put_bit w (suc k) v) j, h, bit_suc w j) (bit_put_other (w / 2) k j v (λ e. d (ap suc e)))

pub put_lt : (n w k : ℕ) (v : Bool) → k < n → w < 2 ^ n → put_bit w k v < 2 ^ n
put_lt zero w k v h l = absurd (omega arith)
put_lt (suc n) w zero v h l = let p = pow-suc 2 n in omega (arith, put_zero w v, bit_number_small v)
put_lt (suc n) w (suc k) v h l =
    let p = pow-suc 2 n in
    let i : put_bit (w / 2) k v < 2 ^ n = put_lt n (w / 2) k v (omega arith) (omega arith) in
    omega (arith, put_suc w k v)

-- the bit that stands there
pub put_own : (w k : ℕ) (v : Bool) → bit_of w k ≡ bit_number v → put_bit w k v ≡ w
unfolding put_bit
put_own w k v e = rw (← e) (omega (arith, bit_le w k))

-- ---- one bit of x and y together, x the lowest n bits

half : (n x y : ℕ) → (x + y * 2 ^ suc n) / 2 ≡ x / 2 + y * 2 ^ n
half n x y = rw (pow-suc 2 n) (omega arith)

pub bit_lower : (n x y k : ℕ) → k < n → bit_of (x + y * 2 ^ n) k ≡ bit_of x k
bit_lower zero x y k h = absurd (omega arith)
bit_lower (suc n) x y zero h = rw (bit_zero (x + y * 2 ^ suc n), bit_zero x, pow-suc 2 n) (omega arith)
bit_lower (suc n) x y (suc k) h =
    rw (bit_suc (x + y * 2 ^ suc n) k, bit_suc x k, half n x y) (bit_lower n (x / 2) y k (omega arith))

pub bit_higher : (n x y k : ℕ) → x < 2 ^ n → bit_of (x + y * 2 ^ n) (n + k) ≡ bit_of y k
bit_higher zero x y k h = let e : x + y * 2 ^ 0 ≡ y = omega arith in let f : 0 + k ≡ k = omega arith in rw (e, f)
bit_higher (suc n) x y k h =
    let p = pow-suc 2 n in
    let e : suc n + k ≡ suc (n + k) = omega arith in
    rw (e, bit_suc (x + y * 2 ^ suc n) (n + k), half n x y) (bit_higher n (x / 2) y k (omega arith))

-- ---- runs of bits

mask_none : (k : ℕ) → mask_of k 0 ≡ 0
unfolding mask_of
mask_none k = omega arith

mask_more : (c : ℕ) → mask_of 0 (suc c) ≡ mask_of 0 c * 2 + 1
unfolding mask_of
mask_more c = let p = pow-suc 2 c in let q = pow_pos c in omega arith

mask_up : (k c : ℕ) → mask_of (suc k) c ≡ mask_of k c * 2
unfolding mask_of
mask_up k c = rw (pow-suc 2 k) (omega arith)

pub and_up : (w k c : ℕ) → bit_and w (mask_of (suc k) c) ≡ bit_and (w / 2) (mask_of k c) * 2
and_up w k c =
    let h : mask_of (suc k) c / 2 ≡ mask_of k c = omega (arith, mask_up k c) in
    let s = rw h at (and_step w (mask_of (suc k) c)) in
    omega (arith, mask_up k c)

pub and_more : (w c : ℕ) → bit_and w (mask_of 0 (suc c)) ≡ bit_and (w / 2) (mask_of 0 c) * 2 + w % 2
and_more w c =
    let h : mask_of 0 (suc c) / 2 ≡ mask_of 0 c = omega (arith, mask_more c) in
    let s = rw h at (and_step w (mask_of 0 (suc c))) in
    omega (arith, mask_more c)

pub run_none : (w k : ℕ) (v : Bool) → put_run w k 0 v ≡ w
unfolding put_run
run_none w k v = rw (mask_none k) (omega (arith, and_le_r w 0))

run_up : (w k c : ℕ) (v : Bool) → put_run w (suc k) c v ≡ put_run (w / 2) k c v * 2 + w % 2
unfolding put_run
run_up w k c v = rw (and_up w k c, mask_up k c) (omega (arith, and_le_l (w / 2) (mask_of k c)))

run_more : (w c : ℕ) (v : Bool) → put_run w 0 (suc c) v ≡ put_run (w / 2) 0 c v * 2 + bit_number v
unfolding put_run
run_more w c v = rw (and_more w c, mask_more c) (omega (arith, and_le_l (w / 2) (mask_of 0 c)))

-- a bit of a word of which the rest is known
put_next : (x w d j : ℕ) (v : Bool) → w ≡ x * 2 + d → d ≤ 1 → put_bit w (suc j) v ≡ put_bit x j v * 2 + d
put_next x w d j v e h =
    let q : w / 2 ≡ x = omega arith in
    let p = rw q at (put_suc w j v) in
    omega arith

-- one bit more
pub run_suc : (k c w : ℕ) (v : Bool) → put_run w k (suc c) v ≡ put_bit (put_run w k c v) (k + c) v
run_suc zero zero w v = rw (run_none w 0 v) (run_more w 0 v ∙ rw (run_none (w / 2) 0 v) (sym (put_zero w v)))
run_suc zero (suc c) w v =
    let e : 0 + suc c ≡ suc (0 + c) = omega arith in
    let p = put_next (put_run (w / 2) 0 c v) (put_run w 0 (suc c) v) (bit_number v) (0 + c) v (run_more w c v) (bit_number_small v) in
    rw e (run_more w (suc c) v ∙ rw (run_suc 0 c (w / 2) v) (sym p))
run_suc (suc k) c w v =
    let e : suc k + c ≡ suc (k + c) = omega arith in
    let p = put_next (put_run (w / 2) k c v) (put_run w (suc k) c v) (w % 2) (k + c) v (run_up w k c v) (omega arith) in
    rw e (run_up w k (suc c) v ∙ rw (run_suc k c (w / 2) v) (sym p))

-- ---- runs that are set

eqb_cong : (a b c d : ℕ) → (a ≡ b → c ≡ d) → (c ≡ d → a ≡ b) → eqb a b ≡ eqb c d
eqb_cong a b c d f g =
    cases (eqb c d)
    (λ e. eq-eqb a b (g (eqb-true c d e)) ∙ sym e)
    (λ e. ne_eqb a b (λ h. eqb-false c d e (f h)) ∙ sym e)

pub full_none : (w k : ℕ) → full_run w k 0 ≡ true
unfolding full_run
full_none w k = rw (mask_none k) (eq-eqb (bit_and w 0) 0 (omega (arith, and_le_r w 0)))

full_up : (w k c : ℕ) → full_run w (suc k) c ≡ full_run (w / 2) k c
unfolding full_run
full_up w k c =
    rw (and_up w k c, mask_up k c)
    (eqb_cong (bit_and (w / 2) (mask_of k c) * 2) (mask_of k c * 2) (bit_and (w / 2) (mask_of k c)) (mask_of k c) (λ e. omega arith) (λ e. omega arith))

full_more : (w c : ℕ) → full_run w 0 (suc c) ≡ both (eqb (w % 2) 1) (full_run (w / 2) 0 c)
unfolding full_run both
full_more w c =
    rw (and_more w c, mask_more c)
    (cases (eqb (w % 2) 1)
    (λ e.
    let h = eqb-true (w % 2) 1 e in
    rw e
    (eqb_cong (bit_and (w / 2) (mask_of 0 c) * 2 + w % 2) (mask_of 0 c * 2 + 1) (bit_and (w / 2) (mask_of 0 c)) (mask_of 0 c) (λ q. omega arith) (λ q. omega arith)))
    (λ e.
    let h = eqb-false (w % 2) 1 e in
    rw e (ne_eqb (bit_and (w / 2) (mask_of 0 c) * 2 + w % 2) (mask_of 0 c * 2 + 1) (λ q. h (omega arith)))))

pub both_true : (b : Bool) → both b true ≡ b
unfolding both
both_true true = refl
both_true false = refl

pub both_assoc : (a b c : Bool) → both (both a b) c ≡ both a (both b c)
unfolding both
both_assoc true b c = refl
both_assoc false b c = refl

both_one : (b : Bool) → b ≡ both true b
unfolding both
both_one b = refl

pub full_suc : (k c w : ℕ) → full_run w k (suc c) ≡ both (full_run w k c) (eqb (bit_of w (k + c)) 1)
full_suc zero zero w =
    full_more w 0 ∙ rw (full_none (w / 2) 0, full_none w 0, both_true (eqb (w % 2) 1), bit_zero w) (both_one (eqb (w % 2) 1))
full_suc zero (suc c) w =
    let e : 0 + suc c ≡ suc (0 + c) = omega arith in
    rw (e, bit_suc w (0 + c))
    (full_more w (suc c) ∙ rw (full_suc 0 c (w / 2), full_more w c) (sym (both_assoc (eqb (w % 2) 1) (full_run (w / 2) 0 c) (eqb (bit_of (w / 2) (0 + c)) 1))))
full_suc (suc k) c w =
    let e : suc k + c ≡ suc (k + c) = omega arith in
    rw (e, bit_suc w (k + c), full_up w k (suc c), full_up w k c) (full_suc k c (w / 2))

-- ---- what the code computes

module _ (w k c m : ℕ) (e : m ≡ mask_of k c) where
  pub or_mask : (v : Bool) → v ≡ true → bit_or w m ≡ put_run w k c v
  unfolding put_run
  or_mask v t = rw (e, t) (omega (arith, or_add_and w (mask_of k c), and_le_l w (mask_of k c)))

  pub and_mask : (v : Bool) → v ≡ false → w - bit_and w m ≡ put_run w k c v
  unfolding put_run
  and_mask v t = rw (e, t) (omega arith)

  pub full_is : eqb (bit_and w m) m ≡ full_run w k c
  unfolding full_run
  full_is = rw e

-- a whole word
pub run_whole : (w : ℕ) (v : Bool) → w < 65536 → put_run w 0 16 v ≡ bit_number v * 65535
unfolding put_run mask_of
run_whole w v h = omega (arith, and-ones w 16, mod-eq_of_lt h)

module _ (k c : ℕ) (h : k + c ≤ 16) where
  one_shifted : 1 * 2 ^ c % 2 ^ 64 ≡ 2 ^ c
  one_shifted = let e : 1 * 2 ^ c ≡ 2 ^ c = omega arith in shl_exact 1 c 64 (omega arith) (omega arith) ∙ e

  pub one_there : 1 ≤ 1 * 2 ^ c % 2 ^ 64
  one_there = rw one_shifted (pow_pos c)

  mask_lt : mask_of k c < 65536
  unfolding mask_of
  mask_lt =
      let p : 2 ^ (c + k) ≤ 2 ^ 16 = pow_mono {i = c + k} {j = 16} (omega arith) in
      let q = pow_pos k in
      rw (← high_ones c k) (omega arith)

  pub mask_shifted : (1 * 2 ^ c % 2 ^ 64 - 1) * 2 ^ k % 2 ^ 64 ≡ mask_of k c
  unfolding mask_of
  mask_shifted = rw one_shifted (mod-eq_of_lt (lt_of_lt_of_le mask_lt (omega arith)))

  pub mask_fits : (1 * 2 ^ c % 2 ^ 64 - 1) * 2 ^ k % 2 ^ 64 < 65536
  mask_fits = rw mask_shifted mask_lt
