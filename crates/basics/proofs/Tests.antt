-- A result that tests on locals picked is what a definition picks: v is the local that holds a or b. Assumes nothing.
use Prim.Native.Nat.{ℕ, ◌≤◌, ◌<◌}
use mathlib.Core.Path.{◌≡◌}
use mathlib.Core.Bool.{Bool, true, false}
use lib.Dec.{eqb, leb, ltb}
use borrow.Author.Tests.{eq-eqb, ne_eqb, le-leb, lt-leb, lt-ltb, le-ltb}
use Rattle.basics.specs.Choice.{pick}

module _ {A : Type 0} (r x y : A) (a b : ℕ) where
  pub pick_eq : a ≡ b → r ≡ x → r ≡ pick (eqb a b) x y
  pick_eq h e = rw (eq-eqb a b h) e

  pub pick_ne : (a ≡ b → ⊥) → r ≡ y → r ≡ pick (eqb a b) x y
  pick_ne h e = rw (ne_eqb a b h) e

  pub pick_le : a ≤ b → r ≡ x → r ≡ pick (leb a b) x y
  pick_le h e = rw (le-leb a b h) e

  pub pick_gt : b < a → r ≡ y → r ≡ pick (leb a b) x y
  pick_gt h e = rw (lt-leb a b h) e

  pub pick_lt : a < b → r ≡ x → r ≡ pick (ltb a b) x y
  pick_lt h e = rw (lt-ltb a b h) e

  pub pick_ge : b ≤ a → r ≡ y → r ≡ pick (ltb a b) x y
  pick_ge h e = rw (le-ltb a b h) e

-- the same where a local v holds a
module _ {A : Type 0} (r x y : A) (a b v : ℕ) (l : v ≡ a) where
  pub l_eq : v ≡ b → r ≡ x → r ≡ pick (eqb a b) x y
  l_eq h e = rw (← l, eq-eqb v b h) e

  pub l_ne : (v ≡ b → ⊥) → r ≡ y → r ≡ pick (eqb a b) x y
  l_ne h e = rw (← l, ne_eqb v b h) e

  pub l_le : v ≤ b → r ≡ x → r ≡ pick (leb a b) x y
  l_le h e = rw (← l, le-leb v b h) e

  pub l_gt : b < v → r ≡ y → r ≡ pick (leb a b) x y
  l_gt h e = rw (← l, lt-leb v b h) e

  pub l_lt : v < b → r ≡ x → r ≡ pick (ltb a b) x y
  l_lt h e = rw (← l, lt-ltb v b h) e

  pub l_ge : b ≤ v → r ≡ y → r ≡ pick (ltb a b) x y
  l_ge h e = rw (← l, le-ltb v b h) e

-- the same where a local v holds b
module _ {A : Type 0} (r x y : A) (a b v : ℕ) (l : v ≡ b) where
  pub r_eq : a ≡ v → r ≡ x → r ≡ pick (eqb a b) x y
  r_eq h e = rw (← l, eq-eqb a v h) e

  pub r_ne : (a ≡ v → ⊥) → r ≡ y → r ≡ pick (eqb a b) x y
  r_ne h e = rw (← l, ne_eqb a v h) e

  pub r_lt : a < v → r ≡ x → r ≡ pick (ltb a b) x y
  r_lt h e = rw (← l, lt-ltb a v h) e

  pub r_ge : v ≤ a → r ≡ y → r ≡ pick (ltb a b) x y
  r_ge h e = rw (← l, le-ltb a v h) e

  pub r_le : a ≤ v → r ≡ x → r ≡ pick (leb a b) x y
  r_le h e = rw (← l, le-leb a v h) e

  pub r_gt : v < a → r ≡ y → r ≡ pick (leb a b) x y
  r_gt h e = rw (← l, lt-leb a v h) e

-- a Bool itself was tested, in a local c or as it stands
module _ {A : Type 0} (r x y : A) (b : Bool) where
  pub pick_true : b ≡ true → r ≡ x → r ≡ pick b x y
  pick_true h e = rw h e

  pub pick-false : b ≡ false → r ≡ y → r ≡ pick b x y
  pick-false h e = rw h e

  module _ (c : Bool) (l : c ≡ b) where
    pub at_true : c ≡ true → r ≡ x → r ≡ pick b x y
    at_true h e = rw (← l, h) e

    pub at_false : c ≡ false → r ≡ y → r ≡ pick b x y
    at_false h e = rw (← l, h) e

-- a test that is the result
module _ (a b v : ℕ) (l : v ≡ a) where
  pub same_eqb : eqb v b ≡ eqb a b
  same_eqb = rw l

  pub same_leb : leb v b ≡ leb a b
  same_leb = rw l

  pub same_ltb : ltb v b ≡ ltb a b
  same_ltb = rw l

  module _ (w : ℕ) (m : w ≡ b) where
    pub both_eqb : eqb v w ≡ eqb a b
    both_eqb = rw (l, m)

    pub both_leb : leb v w ≡ leb a b
    both_leb = rw (l, m)

    pub both_ltb : ltb v w ≡ ltb a b
    both_ltb = rw (l, m)

module _ (a b v : ℕ) (l : v ≡ b) where
  pub right_eqb : eqb a v ≡ eqb a b
  right_eqb = rw l

  pub right_leb : leb a v ≡ leb a b
  right_leb = rw l

  pub right_ltb : ltb a v ≡ ltb a b
  right_ltb = rw l

pub ruleset picks = (pick_eq, pick_ne, pick_le, pick_gt, pick_lt, pick_ge)

pub ruleset tests = (picks, l_eq, l_ne, l_le, l_gt, l_lt, l_ge, pick_true, pick-false, at_true, at_false, same_eqb, same_leb, same_ltb, both_eqb, both_leb, both_ltb)

pub ruleset righttests = (r_eq, r_ne, r_lt, r_ge, r_le, r_gt, right_eqb, right_leb, right_ltb)
