-- What a write does to the processes created, as the records of processes say it: how many they are, their modules, and their status. Assumes nothing.
use Prim.Native.Nat.{ℕ, ◌+◌, ◌≤◌, ◌<◌}
use mathlib.Core.Path.{◌≡◌, refl, ◌∙◌}
use mathlib.Core.List.{List}
use mathlib.Core.Bool.{true}
use native.Mathlib.Omega.{arith}
use lib.Dec.{eqb}
use lib.ListN.{length}
use borrow.Author.Tests.{eqb-true, eqb-false, leb-true}
use Rattle.basics.specs.Cases.{cases}
use Rattle.basics.proofs.Bools.{both_l, both_r}
use Rattle.machine.specs.Memory.{Memory, update, store}
use Rattle.machine.specs.Layout.{location, record_at, status_at, module_at, statement_at, created_at, failure_at, locations}
use Rattle.machine.specs.Marks.{mark, fresh}
use Rattle.machine.specs.Calls.{standing}
use Rattle.machine.specs.Processes.{created, refers}
use Rattle.machine.proofs.Memories.{update_at, update_other, clear_below, clear_above}
use Rattle.machine.proofs.MarkLaws.{SameWords, same_words, same_marks, same_update}
use Rattle.sound.specs.InUse.{Created}
use Rattle.sound.specs.Created.{NewProcess, ProcessesKept}
use Rattle.sound.proofs.RuleKept.Marks.{marks_record}
use Rattle.sound.proofs.Memory.Writes.{record_high, store_record}

-- a process that a reference names is one of 64
pub refers_most : (m : Memory) → m created_at ≤ 64 → (μ r : ℕ) → refers m μ r ≡ true → r ≤ 64
unfolding refers
refers_most m l μ r e = let h : r ≤ m created_at = leb-true _ _ (both_r _ _ (both_l _ _ e)) in omega arith

pub refers_some : (m : Memory) (μ r : ℕ) → refers m μ r ≡ true → 1 ≤ r
unfolding refers
refers_some m μ r e = let h : 2 ≤ r = leb-true _ _ (both_l _ _ (both_l _ _ e)) in omega arith

pub location_end : (p k n : ℕ) → p ≤ 64 → k + n ≤ 256 → location p k + n ≤ locations
unfolding location
location_end p k n l h = omega arith

-- words i and k of records differ
pub record Unlike (i k : ℕ) : Type 0 where
  pub left : i < 20
  pub right : k < 20
  pub apart : i ≡ k → ⊥

pub unlike_words : (p q i k : ℕ) → Unlike i k → record_at p i ≡ record_at q k → ⊥
unfolding record_at
unlike_words p q i k u e = let a = u.left in let b = u.right in let n = u.apart in omega arith

-- ---- the records of 64 processes say the same of their modules and count, and no status falls

-- word k of a record is neither its status nor its module, nor the count
pub record Unread (k : ℕ) : Type 0 where
  pub low : 2 ≤ k
  pub high : k < 20
  pub other : k ≡ 8 → ⊥
  pub mark : k ≡ 9 → ⊥

pub record Still (m s : Memory) : Type 0 where
  pub count : s created_at ≡ m created_at
  pub block : (r : ℕ) → 1 ≤ r → r ≤ 64 → s (module_at r) ≡ m (module_at r)
  pub status : (r : ℕ) → 1 ≤ r → r ≤ 64 → m (status_at r) ≤ s (status_at r)
  pub mark : s failure_at ≡ m failure_at

module _ (m : Memory) where
  pub still : Still m m
  still = record { count = refl; block = λ r a b. refl; status = λ r a b. omega arith; mark = refl }

  module _ (s : Memory) (h : Still m s) where
    pub still_record : (q k v : ℕ) → Unread k → Still m (update s (record_at q k) v)
    still_record q k v u =
        let a = u.low in
        let b = u.high in
        let n = u.other in
        let o = u.mark in
        record {
          count = update_other s _ v _ (unlike_words 1 q 8 k (omega arith)) ∙ h.count;
          block = λ r i j. update_other s _ v _ (unlike_words r q 1 k (omega arith)) ∙ h.block r i j;
          status = λ r i j. rw (update_other s (record_at q k) v (status_at r) (unlike_words r q 0 k (omega arith))) (h.status r i j);
          mark = update_other s _ v _ (unlike_words 1 q 9 k (omega arith)) ∙ h.mark;
        }

    pub still_status : (q v : ℕ) → m (status_at q) ≤ v → Still m (update s (status_at q) v)
    still_status q v l = record {
      count = update_other s _ v _ (unlike_words 1 q 8 0 (omega arith)) ∙ h.count;
      block = λ r i j. update_other s _ v _ (unlike_words r q 1 0 (omega arith)) ∙ h.block r i j;
      status = λ r i j. cases (eqb (status_at r) (status_at q))
          (λ e. let z = eqb-true _ _ e in rw (update_at s (status_at q) v (status_at r) z, z) l)
          (λ e. rw (update_other s (status_at q) v (status_at r) (eqb-false _ _ e)) (h.status r i j));
      mark = update_other s _ v _ (unlike_words 1 q 9 0 (omega arith)) ∙ h.mark;
    }

    pub still_store : (a : ℕ) (ws : List ℕ) → a + length ws ≤ locations → Still m (store s a ws)
    still_store a ws l = record {
      count = store_record s a ws l 1 8 ∙ h.count;
      block = λ r i j. store_record s a ws l r 1 ∙ h.block r i j;
      status = λ r i j. rw (store_record s a ws l r 0) (h.status r i j);
      mark = store_record s a ws l 1 9 ∙ h.mark;
    }

    -- marks say nothing of it
    pub still_same : (u : Memory) → SameWords s u → Still m u
    still_same u w =
        let e = marks_record s u w in
        record {
          count = e 1 8 (omega arith) (omega arith) (omega arith) ∙ h.count;
          block = λ r i j. e r 1 i j (omega arith) ∙ h.block r i j;
          status = λ r i j. rw (e r 0 i j (omega arith)) (h.status r i j);
          mark = e 1 9 (omega arith) (omega arith) (omega arith) ∙ h.mark;
        }

  pub still_standing : (s : Memory) (q c f t w d : ℕ) → Still m s → Still m (standing s q c f t w d)
  unfolding standing
  still_standing s q c f t w d h =
      still_record _ (still_record _ (still_record _ (still_record _ (still_record s h q 2 c (omega arith))
      q 3 f (omega arith)) q 4 t (omega arith)) q 5 w (omega arith)) q 7 d (omega arith)

-- ---- a create: process n, which is none of those created, takes its record

module _ (m : Memory) (n μ : ℕ) where
  pub created_status : created m n μ (status_at n) ≡ 1
  unfolding created
  created_status =
      update_other _ _ n _ (unlike_words n 1 0 8 (omega arith))
      ∙ update_other _ _ μ _ (unlike_words n n 0 1 (omega arith))
      ∙ update_at _ _ 1 _ refl

  pub created_module : created m n μ (module_at n) ≡ μ
  unfolding created
  created_module = update_other _ _ n _ (unlike_words n 1 1 8 (omega arith)) ∙ update_at _ _ μ _ refl

  pub created_count : created m n μ created_at ≡ n
  unfolding created
  created_count = update_at _ _ n _ refl

module _ (m : Memory) (n μ i c p : ℕ) (over : m created_at < n) (most : n ≤ 64) (area : i < locations) where
  abbrev pub after : Memory
  after = update (update (created m n μ) i n) (statement_at p) c

  -- the record words that the variable and the next statement leave
  pub record_after : (r k : ℕ) → Unlike k 2 → after (record_at r k) ≡ created m n μ (record_at r k)
  record_after r k u =
      update_other _ _ c _ (unlike_words r p k 2 u)
      ∙ update_other _ i n _ (λ z. let a = record_high r k in omega arith)

  pub new_process : NewProcess after n μ i
  new_process = record {
    last = record_after 1 8 (omega arith) ∙ created_count m n μ;
    block = record_after n 1 (omega arith) ∙ created_module m n μ;
    unstarted = record_after n 0 (omega arith) ∙ created_status m n μ;
    named = update_other _ _ c i (λ z. let a = record_high p 2 in omega arith) ∙ update_at _ i n i refl;
  }

  other_record : (r k : ℕ) → 1 ≤ r → r < n → k < 20 → (record_at r k ≡ record_at n 0 → ⊥) × (record_at r k ≡ record_at n 1 → ⊥) × (record_at r k < record_at n 0)
  unfolding record_at
  other_record r k a b l = (λ e. omega arith, λ e. omega arith, omega arith)

  -- the records of the others
  pub old_record : (r k : ℕ) → Created m r → k < 20 → (k ≡ 8 → ⊥) → created m n μ (record_at r k) ≡ m (record_at r k)
  unfolding created
  old_record r k h l n8 =
      let a = h.most in
      let u = other_record r k h.least (omega arith) (omega arith) in
      let z = record_high r k in
      let y = location_end n 0 256 most (omega arith) in
      update_other _ _ n _ (unlike_words r 1 k 8 (omega arith))
      ∙ update_other _ _ μ _ u.1
      ∙ update_other _ _ 1 _ u.0
      ∙ clear_below _ (record_at n 0) 20 _ u.2
      ∙ clear_above m (location n 0) 256 _ (omega arith)

  pub others_kept : ProcessesKept m after
  others_kept = record {
    created = λ r h. let a = h.most in let u = new_process.last in record { least = h.least; most = omega arith };
    block = λ r h. record_after r 1 (omega arith) ∙ old_record r 1 h (omega arith) (λ z. omega arith);
    status = λ r h. rw (record_after r 0 (omega arith), old_record r 0 h (omega arith) (λ z. omega arith)) (omega arith);
  }

  pub mark_kept : 1 ≤ m created_at → after failure_at ≡ m failure_at
  mark_kept l = record_after 1 9 (omega arith) ∙ old_record 1 9 (record { least = omega arith; most = l }) (omega arith) (λ z. omega arith)

-- with the marks of its area and of the variable
pub made_marks : (m : Memory) (n μ i c p : ℕ) → SameWords (update (update (created m n μ) i n) (statement_at p) c)
    (update (mark (fresh (update (created m n μ) i n) (location n 0) 256) i 1) (statement_at p) c)
made_marks m n μ i c p = same_update _ _ (statement_at p) c (same_marks _ _ i 1 _ (same_marks _ _ _ _ _ (same_words _)))

-- marks leave the new process and the others as they are
module _ (s u : Memory) (w : SameWords s u) where
  pub new_same : (n μ i : ℕ) → 1 ≤ n → n ≤ 64 → i < locations → NewProcess s n μ i → NewProcess u n μ i
  new_same n μ i a b l h = record {
    last = marks_record s u w 1 8 (omega arith) (omega arith) (omega arith) ∙ h.last;
    block = marks_record s u w n 1 a b (omega arith) ∙ h.block;
    unstarted = marks_record s u w n 0 a b (omega arith) ∙ h.unstarted;
    named = w.plain i (omega arith) ∙ h.named;
  }

  pub kept_same : (m : Memory) → m created_at ≤ 64 → ProcessesKept m s → ProcessesKept m u
  kept_same m l h = record {
    created = λ r c. let x = h.created r c in let y = x.most in let e = marks_record s u w 1 8 (omega arith) (omega arith) (omega arith) in record { least = x.least; most = omega arith };
    block = λ r c. let y = c.most in marks_record s u w r 1 c.least (omega arith) (omega arith) ∙ h.block r c;
    status = λ r c. let y = c.most in rw (marks_record s u w r 0 c.least (omega arith) (omega arith)) (h.status r c);
  }

  pub mark_same : (m : Memory) → s failure_at ≡ m failure_at → u failure_at ≡ m failure_at
  mark_same m e = marks_record s u w 1 9 (omega arith) (omega arith) (omega arith) ∙ e

-- a failing step
module _ (m : Memory) (n : ℕ) where
  fail_word : (r k : ℕ) → Unlike k 9 → update m failure_at n (record_at r k) ≡ m (record_at r k)
  fail_word r k u = update_other m failure_at n (record_at r k) (unlike_words r 1 k 9 u)

  pub fail_count : update m failure_at n created_at ≡ m created_at
  fail_count = fail_word 1 8 (omega arith)

  pub fail_kept : ProcessesKept m (update m failure_at n)
  fail_kept = record {
    created = λ r c. let a = c.most in let e = fail_count in record { least = c.least; most = omega arith };
    block = λ r c. fail_word r 1 (omega arith);
    status = λ r c. rw (fail_word r 0 (omega arith)) (omega arith);
  }
