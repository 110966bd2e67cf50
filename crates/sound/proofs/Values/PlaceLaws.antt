-- Words that are retrieved and stored: values of a type, and a value stored in a part of a variable. Assumes nothing.
use Prim.Native.Nat.{ℕ, suc, ◌+◌, ◌*◌, ◌≤◌, ◌<◌}
use mathlib.Core.Path.{◌≡◌, sym, ◌∙◌}
use mathlib.Core.Bool.{true}
use mathlib.Core.List.{List}
use native.Mathlib.Omega.{arith}
use native.Mathlib.Nat.{add-zero, mul-le-mul_right, suc-mul}
use lib.ListN.{length}
use lib.Dec.{eqb, ltb}
use borrow.Author.Tests.{eqb-true, eqb-false, ltb-true, ltb-false}
use Rattle.basics.specs.Cases.{cases}
use Rattle.table.specs.Table.{Table}
use Rattle.table.specs.Entries.{type_count, type_q}
use Rattle.sizes.specs.Sizes.{words_of, offset_in}
use Rattle.sizes.proofs.Counting.{part_lower, offset_more, offset_up}
use Rattle.machine.specs.Memory.{Memory, store, words_at}
use Rattle.machine.specs.Values.{part, holds}
use Rattle.machine.proofs.Memories.{length_words, words-at, store_below, store_above, words_store}
use Rattle.verdict.specs.Accepted.{Accepted}
use Rattle.sound.specs.Claims.{Keeps, IsValue, PlaceLaws}
use Rattle.sound.proofs.Values.TypeKinds.{field_at, lower_field, lower_element, some_words}
use Rattle.sound.proofs.Values.ValuesByKind.{Same, field_holds, record_holds, element_holds, array_holds, holds_moved, zero_holds}
use Rattle.sound.proofs.Values.Parts.{Part, whole, in_field, in_element, to_Part, Part-in, part_self, part-in, part_field, part_element, part_holds}

-- ---- words of memories

-- memories that have the same words
pub words_same : (m n : Memory) (a b w : ℕ) → words_at n b w ≡ words_at m a w → Same w m a n b
words_same m n a b w e k l = sym (words-at n b w k l) ∙ rw e (words-at m a w k l)

-- ---- a value stored in a part leaves the whole with one

-- n is m but for the w words from p on
pub record Else (w p : ℕ) (m n : Memory) : Type 0 where
  pub below : (j : ℕ) → j < p → n j ≡ m j
  pub above : (j : ℕ) → p + w ≤ j → n j ≡ m j

pub store_else : (m : Memory) (a w : ℕ) (ws : List ℕ) → length ws ≡ w → Else w a m (store m a ws)
store_else m a w ws e =
    record { below = λ j d. store_below m a ws j d; above = λ j d. store_above m a ws j (omega arith) }

-- a field ends where the next begins, or before
pub field_apart : (T : Table) (τ i k : ℕ) → field_at T τ i < τ → i < k → offset_in T τ i + words_of T (field_at T τ i) ≤ offset_in T τ k
field_apart T τ i k l g =
    let e : offset_in T τ (i + 1) ≡ offset_in T τ i + words_of T (field_at T τ i) = offset_more T τ i ∙ rw (part_lower T τ (field_at T τ i) l) in
    omega (arith, offset_up T τ (i + 1) k (omega arith))

pub element_apart : (n i k : ℕ) → i < k → i * n + n ≤ k * n
element_apart n i k l = let u : suc i * n ≤ k * n = mul-le-mul_right n l in omega (arith, suc-mul i n)

module _ (T : Table) (ok : Accepted T) (m n : Memory) (keeps : Keeps m n) where
  -- what lies before the stored words, or after them
  before : (σ a w p : ℕ) → a + words_of T σ ≤ p → Else w p m n → holds T m σ a ≡ true → holds T n σ a ≡ true
  before σ a w p l e h = holds_moved T m n keeps σ a a (λ k g. e.below (a + k) (omega arith)) h

  after : (σ a w p : ℕ) → p + w ≤ a → Else w p m n → holds T m σ a ≡ true → holds T n σ a ≡ true
  after σ a w p l e h = holds_moved T m n keeps σ a a (λ k g. e.above (a + k) (omega arith)) h

  pub Part-stored : {τ : ℕ} (a : ℕ) {σ k : ℕ} → σ < 3 + type_count T → Part T τ σ k → Else (words_of T τ) (a + k) m n
      → holds T m σ a ≡ true → holds T n τ (a + k) ≡ true → holds T n σ a ≡ true
  Part-stored a l whole e h v = rw (add-zero a) at v
  Part-stored {τ} a l (in_field σ i k t g p) e h v =
      let x : a + (offset_in T σ i + k) ≡ a + offset_in T σ i + k = omega arith in
      let s = Part-in T ok (let f = lower_field T ok σ l t i g in omega arith) p in
      record_holds T n a σ t (λ j d.
      let f = field_holds T m a σ t h j d in (
        f.0,
        cases (eqb j i)
            (λ q. let y : j ≡ i = eqb-true j i q in
            rw y (Part-stored (a + offset_in T σ i) (let f = lower_field T ok σ l t i g in omega arith) p (rw x at e) (field_holds T m a σ t h i g).1 (rw x at v)))
            (λ q. cases (ltb j i)
            (λ r. before (field_at T σ j) (a + offset_in T σ j) _ _ (omega (arith, field_apart T σ j i f.0 (ltb-true j i r))) e f.1)
            (λ r. after (field_at T σ j) (a + offset_in T σ j) _ _
            (omega (arith, field_apart T σ i j (lower_field T ok σ l t i g) (let u = ltb-false j i r in omega (arith, eqb-false j i q)))) e f.1)),
      ))
  Part-stored {τ} a l (in_element σ i k t g p) e h v =
      let w = words_of T (type_q T σ) in
      let x : a + (i * w + k) ≡ a + i * w + k = omega arith in
      let c = lower_element T ok σ l t in
      let s = Part-in T ok (omega arith) p in
      array_holds T n a σ t (λ j d.
      let f = element_holds T m a σ t h j d in (
        c,
        cases (eqb j i)
            (λ q. let y : j ≡ i = eqb-true j i q in
            rw y (Part-stored (a + i * w) (omega arith) p (rw x at e) (element_holds T m a σ t h i g).1 (rw x at v)))
            (λ q. cases (ltb j i)
            (λ r. before (type_q T σ) (a + j * w) _ _ (omega (arith, element_apart w j i (ltb-true j i r))) e f.1)
            (λ r. after (type_q T σ) (a + j * w) _ _
            (omega (arith, element_apart w i j (let u = ltb-false j i r in omega (arith, eqb-false j i q)))) e f.1)),
      ))

-- ---- the laws

module _ (T : Table) (m : Memory) where
  pub retrieved : (τ a : ℕ) → holds T m τ a ≡ true → IsValue T m τ (words_at m a (words_of T τ))
  retrieved τ a h =
      record {
        long = length_words m a (words_of T τ);
        anywhere = λ n b keeps e. holds_moved T m n keeps τ a b (words_same m n a b (words_of T τ) e) h;
      }

  module _ (ok : Accepted T) where
    pub stored : (τ σ a k : ℕ) (ws : List ℕ) → σ < 3 + type_count T → holds T m σ a ≡ true → part T τ σ k ≡ true → IsValue T m τ ws
        → Keeps m (store m (a + k) ws) → holds T (store m (a + k) ws) σ a ≡ true
    stored τ σ a k ws l h p v keeps =
        let n = store m (a + k) ws in
        let g = v.long in
        Part-stored T ok m n keeps a l (to_Part T τ σ k p)
        (store_else m (a + k) (words_of T τ) ws g)
        h (v.anywhere n (a + k) keeps (rw (← g) (words_store m (a + k) ws)))

-- THE LAWS of values and places, of a table that keeps the rules
pub place_laws : (T : Table) → Accepted T → PlaceLaws T
place_laws T ok =
    record {
      holds_same = λ m n τ a keeps s h. holds_moved T m n keeps τ a a s h;
      some_words = some_words T ok;
      part_self = part_self T;
      part-in = part-in T ok;
      part_field = part_field T ok;
      part_element = part_element T ok;
      part_holds = λ m τ σ a k l h p. part_holds T m τ σ a k h p;
      retrieved = λ m τ a l h. retrieved T m τ a h;
      stored = λ m τ σ a k ws l h p v keeps. stored T m ok τ σ a k ws l h p v keeps;
      zero_holds = λ m τ a l z. zero_holds T ok m τ a l z;
    }
