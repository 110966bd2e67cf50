-- What writes change and what they leave: words, areas, records. Assumes nothing.
use Prim.Native.Nat.{ℕ, ◌+◌, ◌-◌, ◌/◌, ◌%◌, ◌≤◌, ◌<◌}
use mathlib.Core.Path.{◌≡◌}
use mathlib.Core.List.{List}
use native.Mathlib.Omega.{arith}
use native.Mathlib.Nat.{div-add-mod'}
use lib.ListN.{length, get_or}
use lib.Dec.{eqb, ltb}
use borrow.Author.Tests.{ltb-true, ltb-false}
use Rattle.basics.specs.Cases.{cases}
use Rattle.machine.specs.Memory.{Memory, update, within, store, clear}
use Rattle.machine.specs.Layout.{location, record_at, locations}
use Rattle.machine.proofs.Memories.{within-from, within_to, store_below, store_above}
use Rattle.sound.specs.Answers.{Small}

-- words
module _ (m : Memory) (i v : ℕ) where
  pub update_small : Small m → v < 65536 → Small (update m i v)
  unfolding update
  update_small s l = record { small = λ j. cases (eqb j i) (λ e. rw e l) (λ e. rw e (s.small j)) }

module _ (m : Memory) (a : ℕ) (ws : List ℕ) where
  pub store_small : Small m → ((k : ℕ) → k < length ws → get_or ws k 0 < 65536) → Small (store m a ws)
  unfolding store
  store_small s h =
      record {
        small = λ j.
            cases (within a (length ws) j)
            (λ e. let x = within-from a (length ws) j e in let y = within_to a (length ws) j e in rw e (h (j - a) (omega arith)))
            (λ e. rw e (s.small j));
      }

module _ (m : Memory) (a n : ℕ) where
  pub clear_small : Small m → Small (clear m a n)
  unfolding clear
  clear_small s =
      record { small = λ j. cases (within a n j) (λ e. rw e (omega arith)) (λ e. rw e (s.small j)) }

-- locations
pub location_add : (p j k : ℕ) → location p j + k ≡ location p (j + k)
unfolding location
location_add p j k = omega arith

pub location_of : (a : ℕ) → location (a / 256 + 1) (a % 256) ≡ a
unfolding location
location_of a = let e = div-add-mod' a 256 in omega arith

pub location_low : (p j : ℕ) → 1 ≤ p → p ≤ 64 → j ≤ 256 → location p j ≤ locations
unfolding location
location_low p j l h g = omega arith

pub location_up : (p j k : ℕ) → j < k → location p j < location p k
unfolding location
location_up p j k l = omega arith

-- a word of another area lies before or after
pub areas_apart {ℓ} : {A : Type ℓ} (p q j k n : ℕ) → 1 ≤ p → 1 ≤ q → (p ≡ q → ⊥) → j < 256 → k + n ≤ 256 → (location p j < location q k → A) → (location q k + n ≤ location p j → A) → A
unfolding location
areas_apart p q j k n u v d l h f g =
    cases (ltb p q)
    (λ e. let x = ltb-true p q e in f (omega arith))
    (λ e. let x = ltb-false p q e in let y : q < p = omega arith in g (omega arith))

pub record_high : (p k : ℕ) → locations ≤ record_at p k
unfolding record_at
record_high p k = omega arith

-- what is stored in areas leaves the records
pub store_record : (m : Memory) (a : ℕ) (ws : List ℕ) → a + length ws ≤ locations → (r k : ℕ) → store m a ws (record_at r k) ≡ m (record_at r k)
store_record m a ws l r k = let z = record_high r k in store_above m a ws (record_at r k) (omega arith)

-- words of records are apart
pub records_apart : (p q i k : ℕ) → 1 ≤ p → 1 ≤ q → i < 20 → k < 20 → (p ≡ q → ⊥) → record_at p i ≡ record_at q k → ⊥
unfolding record_at
records_apart p q i k u v l h d e =
    cases (ltb p q)
    (λ x. let y = ltb-true p q x in omega arith)
    (λ x. let y = ltb-false p q x in let z : q < p = omega arith in omega arith)

pub words_apart : (p i k : ℕ) → (i ≡ k → ⊥) → record_at p i ≡ record_at p k → ⊥
unfolding record_at
words_apart p i k d e = d (omega arith)

-- what is stored from word k of an area on leaves the words before and after, and those of other areas and of records
module _ (m : Memory) (p k : ℕ) (ws : List ℕ) where
  pub area_before : (j : ℕ) → j < k → store m (location p k) ws (location p j) ≡ m (location p j)
  area_before j l = store_below m (location p k) ws (location p j) (location_up p j k l)

  pub area_after : (j : ℕ) → k + length ws ≤ j → store m (location p k) ws (location p j) ≡ m (location p j)
  unfolding location
  area_after j l = store_above m (location p k) ws (location p j) (omega arith)

  pub area_other : (q j : ℕ) → 1 ≤ p → 1 ≤ q → (q ≡ p → ⊥) → j < 256 → k + length ws ≤ 256 → store m (location p k) ws (location q j) ≡ m (location q j)
  area_other q j u v d l h =
      areas_apart q p j k (length ws) v u d l h
      (λ x. store_below m (location p k) ws (location q j) x)
      (λ x. store_above m (location p k) ws (location q j) x)

  pub area_record : (q i : ℕ) → 1 ≤ p → p ≤ 64 → k + length ws ≤ 256 → store m (location p k) ws (record_at q i) ≡ m (record_at q i)
  area_record q i u v h =
      let y = location_low p (k + length ws) u v h in
      let z = location_add p k (length ws) in
      store_record m (location p k) ws (omega arith) q i
