-- Words of a state, and words of types, as the passes read them. Assumes nothing.
use Prim.Native.Nat.{ℕ, ◌+◌, ◌*◌, ◌≤◌, ◌<◌, min}
use mathlib.Core.Path.{◌≡◌}
use mathlib.Core.Bool.{Bool, true, false}
use mathlib.Core.List.{List}
use lib.ListN.{get_or, get_or-eq_default}
use lib.Dec.{eqb}
use native.Mathlib.Omega.{arith}
use borrow.Author.Tests.{eq-eqb, ne_eqb, le-leb, lt-leb}
use Rattle.basics.specs.Choice.{both}
use Rattle.table.specs.Table.{Table}
use Rattle.table.specs.Reading.{Field}
use Rattle.sizes.specs.Sizes.{words_of}
use Rattle.sizes.proofs.Judging.{any_small}
use Rattle.machine.specs.Memory.{Memory, memory_of}
use Rattle.machine.specs.Layout.{created_at, module_at, state_words}
use Rattle.machine.specs.Lent.{State}
use Rattle.machine.specs.Processes.{refers}
use Rattle.values.specs.Walks.{SmallSizes, WordCount, reference_holds}

-- beyond the last word all is 0
pub beyond : (s : List ℕ) (i : ℕ) → State s → state_words ≤ i → Field (memory_of s i) 0
unfolding memory_of
beyond s i l h =
    let e = l.long in
    let a : get_or s (i * 2) 0 ≡ 0 = get_or-eq_default s 0 (omega arith) in
    let b : get_or s (i * 2 + 1) 0 ≡ 0 = get_or-eq_default s 0 (omega arith) in
    record { is = omega arith; small = omega arith }

-- the words of a type are all kept
pub exact : (T : Table) (l : List ℕ) (x r : ℕ) → SmallSizes T l → r ≡ min (words_of T x) 201 → WordCount (words_of T x) r
exact T l x r h e = let u = any_small T l h.sizes h.sized x in record { is = omega arith; small = omega arith }

-- references
module _ (m : Memory) (μ r : ℕ) where
  pub refers_low : r < 2 → false ≡ refers m μ r
  unfolding refers both
  refers_low h = rw (lt-leb 2 r h)

  module _ (c : ℕ) (e : c ≡ m created_at) (l : 2 ≤ r) where
    pub refers_high : c < r → false ≡ refers m μ r
    unfolding refers both
    refers_high h = rw (le-leb 2 r l, ← e, lt-leb r c h)

    pub refers_to : (k : ℕ) → r ≤ c → k ≡ m (module_at r) → eqb k μ ≡ refers m μ r
    unfolding refers both
    refers_to k h g = rw (le-leb 2 r l, ← e, le-leb r c h, ← g)

pub ruleset references = (refers_low, refers_high, refers_to)

module _ (m : Memory) (μ a r : ℕ) (e : r ≡ m a) where
  pub reference_none : r ≡ 0 → true ≡ reference_holds m μ a
  unfolding reference_holds
  reference_none h = rw (← e, eq-eqb r 0 h)

  pub reference_some : (x : Bool) → (r ≡ 0 → ⊥) → x ≡ refers m μ r → x ≡ reference_holds m μ a
  unfolding reference_holds
  reference_some x h g = rw (← e, ne_eqb r 0 h) g
