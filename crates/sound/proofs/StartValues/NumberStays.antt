-- The number that a run was begun with stays, and under 1 every mark, whatever is written (02, g). Assumes nothing.
use Prim.Native.Nat.{ℕ, ◌+◌, ◌/◌, ◌≤◌, ◌<◌}
use mathlib.Core.Path.{◌≡◌, refl, ◌∙◌}
use mathlib.Core.Bool.{Bool, true}
use mathlib.Core.List.{List}
use native.Mathlib.Omega.{arith}
use lib.Dec.{eqb}
use lib.ListN.{length}
use borrow.Author.Tests.{eq-eqb}
use Rattle.machine.specs.Memory.{Memory, update, store, clear}
use Rattle.machine.specs.Layout.{location, record_at, number_at, locations, plain_words}
use Rattle.machine.specs.Marks.{mark_word, marked, AllSet, set_marks, mark, fresh}
use Rattle.machine.specs.Calls.{standing}
use Rattle.machine.specs.Processes.{created}
use Rattle.machine.proofs.Memories.{update_other, store_above, clear_below, clear_above}
use Rattle.machine.proofs.MarkLaws.{marks_kept, marks_word, marked_update, record_plain}
use Rattle.sound.proofs.Memory.ProcessRecords.{location_end, unlike_words}
use Rattle.sound.proofs.Memory.Writes.{record_high, store_record}

-- s has the number of m, and where that is 1 and m has every mark, s has
pub record Numbered (m s : Memory) : Type 0 where
  pub number : s number_at ≡ m number_at
  pub set : m number_at ≡ 1 → AllSet m → AllSet s

number-plain : number_at < plain_words
unfolding record_at
number-plain = omega arith

number_before : (n : ℕ) → 2 ≤ n → number_at < record_at n 0
unfolding record_at
number_before n l = omega arith

-- the words of areas and records have no say in marks
marked_store : (s : Memory) (i : ℕ) (ws : List ℕ) (a : ℕ) → i + length ws ≤ plain_words → marked (store s i ws) a ≡ marked s a
unfolding marked mark_word
marked_store s i ws a l = rw (store_above s i ws (plain_words + a / 16) (omega arith)) refl

marked_clear : (s : Memory) (i n a : ℕ) → i + n ≤ plain_words → marked (clear s i n) a ≡ marked s a
unfolding marked mark_word
marked_clear s i n a l = rw (clear_above s i n (plain_words + a / 16) (omega arith)) refl

module _ (m : Memory) where
  pub numbered : Numbered m m
  numbered = record { number = refl; set = λ e h. h }

  module _ (s : Memory) (h : Numbered m s) where
    pub numbered_record : (q k v : ℕ) → q ≤ 64 → k < 10 → Numbered m (update s (record_at q k) v)
    numbered_record q k v l g =
        record {
          number = update_other s _ v _ (unlike_words 1 q 10 k (omega arith)) ∙ h.number;
          set = λ e f a b. marked_update s (record_at q k) v a (record_plain q k l (omega arith)) ∙ h.set e f a b;
        }

    pub numbered_word : (i v : ℕ) → i < locations → Numbered m (update s i v)
    numbered_word i v l =
        record {
          number = update_other s i v number_at (λ z. let y = record_high 1 10 in omega arith) ∙ h.number;
          set = λ e f a b. marked_update s i v a (omega arith) ∙ h.set e f a b;
        }

    pub numbered_store : (i : ℕ) (ws : List ℕ) → i + length ws ≤ locations → Numbered m (store s i ws)
    numbered_store i ws l =
        record { number = store_record s i ws l 1 10 ∙ h.number; set = λ e f a b. marked_store s i ws a (omega arith) ∙ h.set e f a b }

    numbered_clear : (i n : ℕ) → i + n ≤ plain_words → clear s i n number_at ≡ s number_at → Numbered m (clear s i n)
    numbered_clear i n l z = record { number = z ∙ h.number; set = λ e f a b. marked_clear s i n a l ∙ h.set e f a b }

    -- marks that are set, under 1
    pub numbered_marks : (i n : ℕ) (v : Bool) → (m number_at ≡ 1 → v ≡ true) → Numbered m (set_marks s i n v)
    numbered_marks i n v t = record {
      number = marks_word s i n number_at v number-plain ∙ h.number;
      set = λ e f a b. marks_kept s i n a v (t e) (h.set e f a b);
    }

    pub numbered_mark : (i n : ℕ) → Numbered m (mark s i n)
    numbered_mark i n = numbered_marks i n true (λ e. refl)

    pub numbered_fresh : (i n : ℕ) → Numbered m (fresh s i n)
    numbered_fresh i n = numbered_marks i n (eqb (s number_at) 1) (λ e. eq-eqb (s number_at) 1 (h.number ∙ e))

  pub numbered_standing : (s : Memory) (q c f t w d : ℕ) → Numbered m s → q ≤ 64 → Numbered m (standing s q c f t w d)
  unfolding standing
  numbered_standing s q c f t w d h l =
      numbered_record _ (numbered_record _ (numbered_record _ (numbered_record _ (numbered_record s h
      q 2 c l (omega arith)) q 3 f l (omega arith)) q 4 t l (omega arith)) q 5 w l (omega arith)) q 7 d l (omega arith)

  -- process n, which is not process 1, is created
  pub numbered_created : (n μ : ℕ) → 2 ≤ n → n ≤ 64 → Numbered m (created m n μ)
  unfolding created
  numbered_created n μ l g =
      let y = location_end n 0 256 g (omega arith) in
      numbered_record _ (numbered_record _ (numbered_record _
      (numbered_clear _ (numbered_clear m numbered (location n 0) 256 (omega arith) (let z = record_high 1 10 in clear_above m (location n 0) 256 number_at (omega arith)))
      (record_at n 0) 20 (record_end n g) (clear_below _ (record_at n 0) 20 number_at (number_before n l)))
      n 0 1 g (omega arith)) n 1 μ g (omega arith)) 1 8 n (omega arith) (omega arith)
    where
      record_end : (n : ℕ) → n ≤ 64 → record_at n 0 + 20 ≤ plain_words
      record_end n g = unfold record_at in omega arith

-- over one write after another
pub numbered_on : (m s u : Memory) → Numbered m s → Numbered s u → Numbered m u
numbered_on m s u h k = record { number = k.number ∙ h.number; set = λ e f. k.set (h.number ∙ e) (h.set e f) }
