-- Calls that have not ended stay where the records of their processes and their links stay. Assumes nothing.
use Prim.Native.Nat.{ℕ, zero, suc, ◌+◌, ◌≤◌, ◌<◌}
use mathlib.Core.Path.{◌≡◌, refl, sym, ◌∙◌}
use mathlib.Core.List.{List}
use native.Mathlib.Omega.{arith}
use lib.Dec.{eqb}
use lib.ListN.{length}
use borrow.Author.Tests.{eqb-true, eqb-false}
use Rattle.basics.specs.Choice.{between}
use Rattle.basics.specs.Cases.{cases}
use Rattle.table.specs.Table.{Table}
use Rattle.machine.specs.Memory.{Memory, update, store}
use Rattle.machine.specs.Layout.{record_at, link_at, status_at, frame_at, depth_at, created_at, caller_frame, called_block, locations}
use Rattle.machine.specs.Calls.{standing}
use Rattle.machine.proofs.Memories.{update_other}
use Rattle.machine.proofs.MarkLaws.{SameWords}
use Rattle.sound.specs.InUse.{Created, CallAt, innermost, caller}
use Rattle.sound.specs.Bindings.{link, BindingsKept}
use Rattle.sound.specs.OpenCalls.{calls_from, open_calls}
use Rattle.sound.proofs.Memory.ProcessRecords.{unlike_words}
use Rattle.sound.proofs.RuleKept.Marks.{marks_record}
use Rattle.sound.proofs.Memory.Writes.{records_apart, store_record}
use Rattle.sound.proofs.Calls.CallsListed.{not_created, open_started, open_none}
use Rattle.sound.proofs.Rule.RuleRecord.{in_created}

-- the record of process r says the same of its calls
pub record Words (m s : Memory) (r : ℕ) : Type 0 where
  pub status : s (status_at r) ≡ m (status_at r)
  pub frame : s (frame_at r) ≡ m (frame_at r)
  pub depth : s (depth_at r) ≡ m (depth_at r)

-- as many processes are created, and the records of all of 64 but e say the same
pub record Alike (m s : Memory) (e : ℕ) : Type 0 where
  pub count : s created_at ≡ m created_at
  pub words : (r : ℕ) → 1 ≤ r → r ≤ 64 → (r ≡ e → ⊥) → Words m s r

-- word k of a record is not read for its calls
pub record Unnoted (k : ℕ) : Type 0 where
  pub high : k < 20
  pub status : k ≡ 0 → ⊥
  pub frame : k ≡ 3 → ⊥
  pub depth : k ≡ 7 → ⊥
  pub count : k ≡ 8 → ⊥

pub alike : (m : Memory) (e : ℕ) → Alike m m e
alike m e = record { count = refl; words = λ r l g n. record { status = refl; frame = refl; depth = refl } }

module _ (m s : Memory) (e : ℕ) (h : Alike m s e) where
  -- what leaves these words of the records leaves them alike
  alike_by : (u : Memory) → u created_at ≡ s created_at → ((r k : ℕ) → 1 ≤ r → r ≤ 64 → (r ≡ e → ⊥) → k < 20 → (k ≡ 8 → ⊥) → u (record_at r k) ≡ s (record_at r k)) → Alike m u e
  alike_by u c w = record {
    count = c ∙ h.count;
    words = λ r l g n. let x = h.words r l g n in record {
      status = w r 0 l g n (omega arith) (λ z. omega arith) ∙ x.status;
      frame = w r 3 l g n (omega arith) (λ z. omega arith) ∙ x.frame;
      depth = w r 7 l g n (omega arith) (λ z. omega arith) ∙ x.depth;
    };
  }

  pub alike_record : (q k v : ℕ) → Unnoted k → Alike m (update s (record_at q k) v) e
  alike_record q k v u =
      let a = u.high in
      let b = u.status in
      let c = u.frame in
      let d = u.depth in
      let f = u.count in
      record {
        count = update_other s _ v _ (unlike_words 1 q 8 k (omega arith)) ∙ h.count;
        words = λ r l g n. let x = h.words r l g n in record {
          status = update_other s _ v _ (unlike_words r q 0 k (omega arith)) ∙ x.status;
          frame = update_other s _ v _ (unlike_words r q 3 k (omega arith)) ∙ x.frame;
          depth = update_other s _ v _ (unlike_words r q 7 k (omega arith)) ∙ x.depth;
        };
      }

  -- the record of e itself
  pub alike_own : (k v : ℕ) → 1 ≤ e → k < 20 → (k ≡ 8 → ⊥) → Alike m (update s (record_at e k) v) e
  alike_own k v o l g =
      alike_by _ (update_other s _ v _ (unlike_words 1 e 8 k (omega arith)))
      (λ r j i g n a b. update_other s _ v _ (records_apart r e j k i o a l n))

  pub alike_store : (a : ℕ) (ws : List ℕ) → a + length ws ≤ locations → Alike m (store s a ws) e
  alike_store a ws l =
      alike_by _ (store_record s a ws l 1 8) (λ r k i g n b c. store_record s a ws l r k)

  -- marks say nothing of calls
  pub alike_same : (u : Memory) → SameWords s u → Alike m u e
  alike_same u w =
      alike_by u (marks_record s u w 1 8 (omega arith) (omega arith) (omega arith)) (λ r k i g n b c. marks_record s u w r k i g b)

pub alike_standing : (m s : Memory) (e c f t w d : ℕ) → 1 ≤ e → Alike m s e → Alike m (standing s e c f t w d) e
unfolding standing
alike_standing m s e c f t w d o h =
    alike_own m _ e (alike_own m _ e (alike_own m _ e (alike_own m _ e (alike_own m s e h
    2 c o (omega arith) (λ z. omega arith)) 3 f o (omega arith) (λ z. omega arith)) 4 t o (omega arith) (λ z. omega arith))
    5 w o (omega arith) (λ z. omega arith)) 7 d o (omega arith) (λ z. omega arith)

module _ (T : Table) (m s : Memory) (k : BindingsKept T m s) where
  -- the calls from one that has not ended on stay
  pub from_kept : (p d f : ℕ) → ((e : ℕ) → d ≡ suc e → CallAt T m p e f) → calls_from s p d f ≡ calls_from m p d f
  unfolding calls_from link_at
  from_kept p zero f c = refl
  from_kept p (suc d) f c =
      let a : called_block s p f ≡ called_block m p f = k.kept p d f (f + 3) (c d refl) (link 3 (omega arith) refl) in
      let b : caller_frame s p f ≡ caller_frame m p f = k.kept p d f (f + 0) (c d refl) (link 0 (omega arith) refl) in
      rw (a, b, from_kept p d (caller_frame m p f) (λ i z. caller f (rw z at (c d refl)) refl)) refl

  -- those of a process whose record says the same
  pub words_calls : (r : ℕ) → Created m r → Created s r → Words m s r → open_calls s r ≡ open_calls m r
  words_calls r c d w =
      cases (eqb (m (status_at r)) 2)
      (λ e.
      let a = eqb-true _ 2 e in
      open_started s r d (w.status ∙ a)
      ∙ rw (w.depth, w.frame) (from_kept r _ _ (λ i z. innermost c a z refl) ∙ sym (open_started m r c a)))
      (λ e.
      let n = eqb-false _ 2 e in
      open_none s r (λ z y. n (sym w.status ∙ y)) ∙ sym (open_none m r (λ z y. n y)))

  pub alike_calls : m created_at ≤ 64 → (e : ℕ) → Alike m s e → (r : ℕ) → (1 ≤ r → r ≡ e → ⊥) → open_calls s r ≡ open_calls m r
  alike_calls most e h r n =
      let q = h.count in
      cases (between 1 (m created_at) r)
      (λ i.
      let c = in_created m r i in
      let a = c.least in
      let b = c.most in
      words_calls r c (record { least = a; most = omega arith }) (h.words r a (omega arith) (n a)))
      (λ i. open_none s r (λ c y. let a = c.least in let b = c.most in not_created m r i (record { least = a; most = omega arith }))
      ∙ sym (open_none m r (λ c y. not_created m r i c)))

  -- all calls stay
  pub all_calls : m created_at ≤ 64 → Alike m s 0 → (r : ℕ) → open_calls s r ≡ open_calls m r
  all_calls most h r = alike_calls most 0 h r (λ l z. omega arith)
