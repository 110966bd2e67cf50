-- Device addresses and their places in the page. Assumes nothing.
use Prim.Native.Nat.{ℕ, suc, ◌+◌, ◌-◌, ◌%◌, ◌<◌, ◌≤◌}
use mathlib.Core.Path.{◌≡◌, refl, sym, ◌∙◌}
use mathlib.Core.Bool.{Bool, true, false}
use mathlib.Core.List.{List}
use native.Mathlib.Omega.{arith}
use borrow.Author.Tests.{le-ltb, ltb-false, leb-true, eqb-true, eq-eqb, ne_eqb}
use lib.Dec.{ltb}
use lib.IntN.{ℤ, negsuc, nat_abs}
use lib.ListN.{length}
use mir.Syntax.{w16, w32}
use mir.Val.{Fits, to_z, of_z}
use Rattle.basics.specs.Cases.{cases}
use Rattle.basics.specs.Choice.{both}
use Rattle.basics.proofs.Bools.{no_true, both_l, both_r}
use Rattle.words.specs.Memory.{word_at_byte, put_at_byte}
use Rattle.words.specs.Numbers.{int_of, between_z}
use Rattle.words.specs.Outcomes.{word, fail}
use Rattle.words.specs.Devices.{is_device, position_of}
use Rattle.words.specs.Pages.{read_device, write_device, page_with}
use Rattle.words.proofs.Arithmetic.{back}

module _ (a : ℕ) (k : a < 65536) where
  parity : nat_abs (int_of a) % 2 ≡ a % 2
  parity = cases (ltb a 32768) (λ e. rw e) (λ e. let h = ltb-false a 32768 e in rw e (omega arith))

  bounds : between_z (negsuc 8191) (negsuc 1) (int_of a) ≡ true → (57344 ≤ a) × (a ≤ 65534)
  unfolding between_z
  bounds t =
      cases (ltb a 32768)
      (λ e. no_true (both_r _ _ (rw e at t)))
      (λ e.
      let h = ltb-false a 32768 e in
      let u = rw e at t in
      let x = leb-true (65536 - suc a) 8191 (both_l _ _ u) in
      let y = leb-true 1 (65536 - suc a) (both_r _ _ u) in
      (omega arith, omega arith))

  place : 57344 ≤ a → position_of (int_of a) ≡ a - 57344
  unfolding position_of
  place h = rw (le-ltb a 32768 (omega arith), le-ltb 8192 (suc (65536 - suc a)) (omega arith)) (omega arith)

-- the test, with a local z that holds the integer
module _ (a : ℕ) (f : Fits w16 a) where
  pub even_device : (b : Bool) (z : ℤ) → a % 2 ≡ 0 → z ≡ int_of a → b ≡ between_z (negsuc 8191) (negsuc 1) (to_z w32 (of_z w32 z)) → b ≡ is_device (int_of a)
  unfolding is_device both
  even_device b z h ez e = rw (parity a f.fits, eq-eqb (a % 2) 0 h) (rw (back ez f) at e)

  pub odd_none : (a % 2 ≡ 0 → ⊥) → false ≡ is_device (int_of a)
  unfolding is_device both
  odd_none h = rw (parity a f.fits, ne_eqb (a % 2) 0 h)

-- what a device address is, as a word
pub record Device (a : ℕ) : Type 0 where
  pub low : 57344 ≤ a
  pub high : a ≤ 65534
  pub even : a % 2 ≡ 0
  pub is : position_of (int_of a) ≡ a - 57344

module _ (a : ℕ) (f : Fits w16 a) (b : Bool) (e : b ≡ is_device (int_of a)) where
  module _ (t : b ≡ true) where
    pub device : Device a
    unfolding is_device
    device =
        let u = sym e ∙ t in
        let x = bounds a f.fits (both_r _ _ u) in
        record { low = x.0; high = x.1; even = sym (parity a f.fits) ∙ eqb-true _ 0 (both_l _ _ u); is = place a f.fits x.0 }

    pub device_low : 57344 ≤ a
    device_low = device.low

    pub device_room : (page : List ℕ) → length page ≡ 8192 → a - 57344 + 1 < length page
    device_room page l = let d = device in omega arith

    pub read_in : (page : List ℕ) (w : ℕ) → w ≡ word_at_byte page (a - 57344) → word w ≡ read_device page a
    unfolding read_device
    read_in page w h = rw (← e, t, device.is, h)

    pub write_in : (v : ℕ) → word v ≡ write_device a v
    unfolding write_device
    write_in v = rw (← e, t)

    pub page_in : (v : ℕ) (page after : List ℕ) → after ≡ put_at_byte page (a - 57344) v → after ≡ page_with page a v
    unfolding page_with
    page_in v page after h = rw (← e, t, device.is) h

  module _ (t : b ≡ false) where
    pub read_out : (page : List ℕ) → fail 21 ≡ read_device page a
    unfolding read_device
    read_out page = rw (← e, t)

    pub write_out : (v : ℕ) → fail 21 ≡ write_device a v
    unfolding write_device
    write_out v = rw (← e, t)

    pub page_out : (v : ℕ) (page : List ℕ) → page ≡ page_with page a v
    unfolding page_with
    page_out v page = rw (← e, t)

-- the place is even and a whole word of the page
pub position_even : (a : ℕ) → a < 65536 → is_device (int_of a) ≡ true → position_of (int_of a) % 2 ≡ 0
position_even a k t = let d = device a (record { fits = k }) true (sym t) refl in rw d.is (omega arith)

pub position_le : (a : ℕ) → a < 65536 → is_device (int_of a) ≡ true → position_of (int_of a) ≤ 8190
position_le a k t = let d = device a (record { fits = k }) true (sym t) refl in rw d.is (omega arith)

pub ruleset devices = (even_device, odd_none, device_low, device_room, read_in, read_out, write_in, write_out, page_in, page_out)
