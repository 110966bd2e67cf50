-- The state in which a run begins, as the code makes it. Assumes nothing.
use Prim.Native.Nat.{ℕ, zero, suc, ◌+◌, ◌*◌, ◌≤◌, ◌<◌, min}
use mathlib.Core.Path.{◌≡◌, refl, sym, ap, ◌∙◌, fun_ext}
use mathlib.Core.Bool.{Bool, true, false}
use mathlib.Core.List.{List}
use native.Mathlib.Omega.{arith}
use lib.Dec.{eqb, leb}
use lib.ListN.{length, get_or, replicate, length-replicate}
use borrow.Author.Tests.{ne_eqb, eqb-true, eqb-false, leb-true}
use Rattle.basics.specs.Cases.{cases}
use Rattle.basics.specs.Choice.{pick, both}
use Rattle.basics.proofs.Bools.{no_true, both_l, both_r}
use Rattle.table.specs.Table.{Table}
use Rattle.table.specs.Entries.{first_stmt, vars}
use Rattle.words.specs.Bytes.{Bytes}
use Rattle.code.specs.Code.{decoded}
use Rattle.code.proofs.Blanks.{new_blank}
use Rattle.sizes.specs.Kept.{Sizes}
use Rattle.sizes.specs.Sizes.{types_sized, var_offset, module_words}
use Rattle.sizes.proofs.Promise.{types_pass, module_most, var_exact}
use Rattle.numbers.proofs.BlockPromise.{program_there, program_kind}
use Rattle.verdict.specs.Verdict.{verdict}
use Rattle.verdict.specs.Accepted.{Accepted}
use Rattle.verdict.specs.Checked.{CheckLeaves}
use Rattle.verdict.specs.Refusals.{refusal_number}
use Rattle.verdict.specs.declared.Refusal.{Refusal}
use Rattle.verdict.proofs.Promise.{promise}
use Rattle.verdict.proofs.Rooming.{refusal_some}
use Rattle.machine.specs.Memory.{Memory, update, within, fill, zeros, memory_of, bytes_of}
use Rattle.machine.specs.Lent.{WordSlice, Changed, State, Becomes}
use Rattle.machine.specs.Layout.{status_at, statement_at, frame_at, top_at, works_at, holder_at, depth_at, created_at, number_at, plain_words, mark_words, state_words, state_size}
use Rattle.machine.specs.Calls.{standing}
use Rattle.machine.specs.Run.{initial_state, begin}
use Rattle.machine.specs.Public.{begun, begin_call, begin_refusal}
use Rattle.machine.proofs.Memories.{within_yes, within-from, within_to, bytes_memory}
use Rattle.states.specs.Parts.{first_made}

-- ---- clearing

all_zero : (n i : ℕ) → get_or {A = ℕ} (replicate n 0) i 0 ≡ 0
all_zero zero i = refl
all_zero (suc n) zero = refl
all_zero (suc n) (suc i) = all_zero n i

pub cleared : (n : ℕ) (s₀ s : List ℕ) → WordSlice n s₀ → s ≡ replicate (length s₀) 0 → Changed n s zeros
unfolding memory_of zeros
cleared n s₀ s l e =
    record {
      long = rw (e, length-replicate {A = ℕ} (length s₀) 0) l.long;
      is = fun_ext (λ j. rw (e, all_zero (length s₀) (j * 2), all_zero (length s₀) (j * 2 + 1)));
    }

-- ---- words set one after the other

pub first-made : (s₀ s₁ s₂ s₃ s₄ : List ℕ) (n : ℕ)
    → Becomes s₁ (update (memory_of s₀) (status_at 1) 2)
    → Becomes s₂ (update (memory_of s₁) (holder_at 1) 1)
    → Becomes s₃ (update (memory_of s₂) created_at 1)
    → Becomes s₄ (update (memory_of s₃) number_at n)
    → Becomes s₄ (first_made (memory_of s₀) n)
unfolding first_made
first-made s₀ s₁ s₂ s₃ s₄ n a b c d = rw (← a.is, ← b.is, ← c.is) d

pub first_stands : (s₀ s₁ s₂ s₃ s₄ s₅ : List ℕ) (c t : ℕ)
    → Becomes s₁ (update (memory_of s₀) (statement_at 1) c)
    → Becomes s₂ (update (memory_of s₁) (frame_at 1) 0)
    → Becomes s₃ (update (memory_of s₂) (top_at 1) t)
    → Becomes s₄ (update (memory_of s₃) (works_at 1) 1)
    → Becomes s₅ (update (memory_of s₄) (depth_at 1) 0)
    → Becomes s₅ (standing (memory_of s₀) 1 c 0 t 1 0)
unfolding standing
first_stands s₀ s₁ s₂ s₃ s₄ s₅ c t a b d e f = rw (← a.is, ← b.is, ← d.is, ← e.is) f

pub ruleset firsts = (first-made)

-- ---- marks

-- the first k words of marks are w
pub record Filling (m : Memory) (w : ℕ) (s : List ℕ) (k : ℕ) : Type 0 where
  pub upto : k ≤ mark_words
  pub is : Becomes s (fill m plain_words k w)

module _ (m : Memory) (w : ℕ) where
  fill_none : fill m plain_words 0 w ≡ m
  unfolding fill
  fill_none = fun_ext λ j. cases (within plain_words 0 j)
      (λ e. let a = within-from plain_words 0 j e in let b = within_to plain_words 0 j e in absurd (omega arith))
      (λ e. rw e)

  fill_more : (k : ℕ) → update (fill m plain_words k w) (plain_words + k) w ≡ fill m plain_words (k + 1) w
  unfolding fill update
  fill_more k = fun_ext λ j. cases (eqb j (plain_words + k))
      (λ e. let q = eqb-true j (plain_words + k) e in rw (e, within_yes plain_words (k + 1) j (omega arith) (omega arith)))
      (λ e.
      let d = eqb-false j (plain_words + k) e in
      cases (within plain_words k j)
      (λ g.
      let a = within-from plain_words k j g in
      let b = within_to plain_words k j g in
      rw (e, g, within_yes plain_words (k + 1) j a (omega arith)))
      (λ g. rw (e, g, apart j d g)))
    where
      apart : (j : ℕ) → (j ≡ plain_words + k → ⊥) → within plain_words k j ≡ false → within plain_words (k + 1) j ≡ false
      apart j d g = cases (within plain_words (k + 1) j)
          (λ h.
          let a = within-from plain_words (k + 1) j h in
          let b = within_to plain_words (k + 1) j h in
          absurd (no_true (sym g ∙ within_yes plain_words k j a (omega arith))))
          (λ h. h)

  pub fills_none : (s : List ℕ) → State s → m ≡ memory_of s → Filling m w s 0
  fills_none s l e = record { upto = omega arith; is = record { long = l.long; is = sym e ∙ sym fill_none } }

  pub fills_lent : (s : List ℕ) (k : ℕ) → Filling m w s k → State s
  fills_lent s k f = record { long = f.is.long }

  pub fills_more : (s r : List ℕ) (k : ℕ) → Filling m w s k → k < mark_words → Becomes r (update (memory_of s) (plain_words + k) w) → Filling m w r (k + 1)
  fills_more s r k f l b = record { upto = omega arith; is = record { long = b.long; is = b.is ∙ rw f.is.is (fill_more k) } }

  pub fills_all : (s : List ℕ) (k : ℕ) → Filling m w s k → mark_words ≤ k → Becomes s (fill m plain_words mark_words w)
  fills_all s k f l = let e : k ≡ mark_words = omega (arith, f.upto) in rw e at f.is

pub ruleset filling = (fills_none, fills_lent, fills_more, fills_all)

-- ---- the program's words

module _ (T : Table) (ok : Accepted T) where
  pub types_small : types_sized T ≡ true
  types_small = types_pass T ok.sizes

  pub program_words : (n r : ℕ) → n ≡ vars T 0 → r ≡ min (var_offset T 0 n) 257 → (r ≡ module_words T 0) × (r < 65536)
  unfolding module_words
  program_words n r e h =
      let k = program_kind T ok.numbers in
      let l = module_most T ok.sizes 0 (program_there T ok.numbers) (omega arith) in
      let q = var_exact T ok.sizes 0 (program_there T ok.numbers) (omega arith) n r (omega arith) h in
      (rw (← e) q, omega (arith, rw e at q))

-- ---- all of it

pub begin_bytes : (T : Table) (n : ℕ) (s₁ s₂ s₃ s₄ : List ℕ) (c t w : ℕ)
    → c ≡ first_stmt T 0 → t ≡ module_words T 0 → w ≡ pick (eqb n 1) 65535 0
    → Becomes s₁ zeros
    → Becomes s₂ (first_made (memory_of s₁) n)
    → Becomes s₃ (standing (memory_of s₂) 1 c 0 t 1 0)
    → Becomes s₄ (fill (memory_of s₃) plain_words mark_words w)
    → Bytes s₄
    → s₄ ≡ bytes_of state_words (begin T n)
unfolding begin initial_state first_made
begin_bytes T n s₁ s₂ s₃ s₄ c t w hc ht hw a b d f bytes =
    sym (bytes_memory state_words s₄ bytes f.long) ∙ ap (bytes_of state_words) (f.is ∙ rw (d.is, b.is, a.is, hc, ht, hw))

-- ---- the call

pub lent_bytes : (s : List ℕ) → length s ≡ state_size → State s
lent_bytes s e = record { long = e }

-- what a check that accepts leaves
module _ (w : ℕ) (t c y z : List ℕ) (h : CheckLeaves w t 0 c y z) where
  pub check_accepted : Accepted (decoded c)
  check_accepted = rw (h.table refl) (promise w t (sym h.is))

  pub check_sizes : Sizes (decoded c) z
  check_sizes = h.sizes refl

  pub begun_done : (s s₁ : List ℕ) (n k : ℕ) (b : Bool) → b ≡ both (eqb (length s) state_size) (leb n 1) → b ≡ true → k ≡ n
      → s₁ ≡ bytes_of state_words (begin (decoded c) k) → begun 0 s₁ ≡ begin_call verdict w t s n
  unfolding begin_call begin_refusal
  begun_done s s₁ n k b l g i e = let g' = rw (h.table refl, i) at e in rw (← l, g, ← h.is, g')

module _ (s : List ℕ) (n : ℕ) (b : Bool) (l : b ≡ both (eqb (length s) state_size) (leb n 1)) where
  pub begun_lent : b ≡ true → State s
  begun_lent g = lent_bytes s (eqb-true (length s) state_size (both_l _ _ (sym l ∙ g)))

  pub begun_word : b ≡ true → n < 65536
  begun_word g = let h = leb-true n 1 (both_r _ _ (sym l ∙ g)) in omega arith

  pub begun_refused : (w : ℕ) (t c y z : List ℕ) (r : Refusal) → b ≡ true → CheckLeaves w t (refusal_number r) c y z
      → begun (refusal_number r) s ≡ begin_call verdict w t s n
  unfolding begin_call begin_refusal
  begun_refused w t c y z r g h = rw (← l, g, ← h.is, ne_eqb (refusal_number r) 0 (refusal_some r))

  pub begun_short : (w : ℕ) (t : List ℕ) → b ≡ false → begun 1 s ≡ begin_call verdict w t s n
  unfolding begin_call begin_refusal
  begun_short w t g = rw (← l, g)

pub ruleset begins = (new_blank, check_accepted, check_sizes, begun_lent, begun_word, begun_done, begun_short)
