-- Jumps down chains of only parts: the laws of each return. Assumes nothing.
use Prim.Native.Nat.{ℕ, ◌+◌, ◌-◌, ◌*◌, ◌%◌, ◌≤◌, ◌<◌}
use mathlib.Core.Path.{◌≡◌, refl, sym, ◌∙◌}
use mathlib.Core.Bool.{Bool, true, false}
use mathlib.Core.List.{List}
use lib.ListN.{length, get_or, take}
use lib.Dec.{eqb}
use native.Mathlib.Omega.{arith}
use native.Mathlib.Nat.{sub-zero, mod-eq_of_lt, div-eq_of_lt}
use borrow.Author.Tests.{ne_eqb, lt-ltb}
use Rattle.basics.specs.Choice.{both, either}
use Rattle.basics.proofs.Bools.{both_false_l}
use Rattle.table.specs.Table.{Table}
use Rattle.table.specs.Entries.{type_kind, type_p, type_q, field_type}
use Rattle.types.specs.Match.{elements}
use Rattle.sizes.specs.Sizes.{words_of}
use Rattle.sizes.proofs.Counting.{offset_none}
use Rattle.machine.specs.Values.{some_below, part}
use Rattle.values.specs.Walks.{WordCount, field_begins, field_i_begins, fields_begin, element_begins}
use Rattle.values.specs.Jumps.{Jump, Leads, LeadsAtWord, JumpWord, Jumps}
use Rattle.values.proofs.Filling.{lookup-none, lookup_part}
use Rattle.values.proofs.Heading.{first_field, only_words, array_size}
use Rattle.values.proofs.Parts.{p_record, p_array, part_within}

-- ---- chains

module _ (T : Table) where
  pub jump_self : (σ : ℕ) → Jump T σ σ
  jump_self σ = record { low = omega arith; words = refl; is = λ τ k l h. refl }

  pub jump_jump : (σ ρ υ : ℕ) → Jump T σ ρ → Jump T ρ υ → Jump T σ υ
  jump_jump σ ρ υ a b =
      let l = a.low in
      let g = b.low in
      let w = a.words in
      record {
        low = omega arith;
        words = a.words ∙ b.words;
        is = λ τ k x h. a.is τ k (omega arith) h ∙ b.is τ k x (omega arith);
      }

  -- the parts of a type begin in its only part, the whole apart
  higher : (τ σ ρ k : ℕ) → ρ < σ → τ ≤ ρ → both (eqb σ τ) (eqb k 0) ≡ false
  higher τ σ ρ k l x = both_false_l (eqb σ τ) (eqb k 0) (ne_eqb σ τ (λ e. omega arith))

either_none : (b : Bool) → either b false ≡ b
unfolding either
either_none true = refl
either_none false = refl

module _ (T : Table) (σ f : ℕ) (e : type_kind T σ ≡ 1) (l : f < σ) (hf : f ≡ field_type T (type_p T σ)) (one : type_q T σ ≡ 1) where
  only_field : (τ k : ℕ) → τ ≤ f → k < words_of T σ → part T τ σ k ≡ part T τ f k
  unfolding fields_begin field_i_begins field_begins some_below
  only_field τ k x h =
      let w = only_words T σ f e l hf one in
      let g : k < 0 + words_of T f = omega arith in
      let u : part T τ f k ≡ field_begins T τ σ k f 0 =
      rw (lt-ltb f σ l) (part_within 0 (words_of T f) k (part T τ f (k - 0)) (part T τ f k) (omega arith) g (rw (sub-zero k))) in
      let v : fields_begin T τ σ k ≡ field_begins T τ σ k f 0 =
      rw one (either_none _ ∙ rw (first_field T σ f e l hf one, offset_none T σ)) in
      sym (p_record T τ σ k _ refl (higher T τ σ f k l x) _ refl (fields_begin T τ σ k) e refl) ∙ v ∙ sym u

  pub jump_field : Jump T σ f
  jump_field = record { low = omega arith; words = only_words T σ f e l hf one; is = only_field }

module _ (T : Table) (σ q : ℕ) (e : type_kind T σ ≡ 2) (l : q < σ) (hq : q ≡ type_q T σ) (one : elements T σ ≡ 1) where
  element_words : words_of T σ ≡ words_of T q
  element_words = let u : words_of T σ ≡ 1 * words_of T q = array_size T σ q e l hq ∙ rw one in omega arith

  only_element : (τ k : ℕ) → τ ≤ q → k < words_of T σ → part T τ σ k ≡ part T τ q k
  unfolding element_begins both
  only_element τ k x h =
      let w = element_words in
      let g : k < words_of T q = omega arith in
      let v : element_begins T τ σ k ≡ part T τ q k =
      rw (← hq, lt-ltb q σ l, one, div-eq_of_lt g, mod-eq_of_lt g) in
      sym (p_array T τ σ k _ refl (higher T τ σ q k l x) _ refl (element_begins T τ σ k) e refl) ∙ v

  pub jump_element : Jump T σ q
  jump_element = record { low = omega arith; words = element_words; is = only_element }

-- ---- the returns

module _ (T : Table) (σ : ℕ) where
  pub jump_at : (l : List ℕ) (w : ℕ) → Jumps T l → σ < length l → w ≡ get_or l σ 0 → Jump T σ (w % 512)
  jump_at l w h k e = rw e (h.is σ k).jump

  module _ (kind : ℕ) (hk : kind ≡ type_kind T σ) where
    pub o_field : (n p f : ℕ) → kind ≡ 1 → n ≡ type_q T σ → n ≡ 1 → p ≡ type_p T σ → f ≡ field_type T p → f < σ → Jump T σ f
    o_field n p f e hn one hp hf l = jump_field T σ f (sym hk ∙ e) l (rw hp at hf) (sym hn ∙ one)

    pub o_element : (q n : ℕ) → kind ≡ 2 → q ≡ type_q T σ → q < σ → n ≡ elements T σ → n ≡ 1 → Jump T σ q
    o_element q n e hq l hn one = jump_element T σ q (sym hk ∙ e) l hq (sym hn ∙ one)

  pub kept : (j v : ℕ) → Jump T σ j → (v < 65536) × (v % 512 ≡ j) → JumpWord T σ v
  kept j v h p = record { small = p.0; jump = rw p.1 h }

  pub kept_far : (p j i v : ℕ) → Jump T σ p → Jump T p j → Jump T j i → (v < 65536) × (v % 512 ≡ i) → JumpWord T σ v
  kept_far p j i v a b d e = kept i v (jump_jump T σ j i (jump_jump T σ p j a b) d) e

  pub lead : (τ ρ : ℕ) → Jump T σ ρ → τ ≤ ρ → Leads T τ σ ρ
  lead τ ρ h l = record { low = h.low; words = h.words; is = λ k g. h.is τ k l g }

  pub lead_self : (τ : ℕ) → Leads T τ σ σ
  lead_self τ = record { low = omega arith; words = refl; is = λ k g. refl }

  pub lead_lead : (τ ρ υ : ℕ) → Leads T τ σ ρ → Leads T τ ρ υ → Leads T τ σ υ
  lead_lead τ ρ υ a b =
      let l = a.low in
      let g = b.low in
      let w = a.words in
      record { low = omega arith; words = a.words ∙ b.words; is = λ k h. a.is k h ∙ b.is k (omega arith) }

  pub end_lead : (τ k ρ w : ℕ) → Leads T τ σ ρ → WordCount (words_of T σ) w → k < w → LeadsAtWord T τ σ k ρ
  end_lead τ k ρ w h x l = let u = x.is in record { low = h.low; is = h.is k (omega arith) }

  pub end_self : (τ k : ℕ) → LeadsAtWord T τ σ k σ
  end_self τ k = record { low = omega arith; is = refl }

  pub end_part : (τ k ρ : ℕ) (r : Bool) → LeadsAtWord T τ σ k ρ → r ≡ part T τ ρ k → r ≡ part T τ σ k
  end_part τ k ρ r h e = e ∙ sym h.is

pub ruleset jumping = (jump_at, jump_self, o_field, o_element)

pub ruleset leading = (lead, lead_self, lead_lead, end_lead, end_self)

-- no jumps
pub jumps_empty : (T : Table) (l : List ℕ) → Jumps T (take 0 l)
jumps_empty T l = lookup_part (JumpWord T) l 0 (lookup-none (JumpWord T) l)

pub kept_small : (T : Table) (σ v : ℕ) → JumpWord T σ v → v < 65536
kept_small T σ v h = h.small

pub jump_small : (T : Table) (σ ρ : ℕ) → Jump T σ ρ → σ < 512 → ρ < 512
jump_small T σ ρ h l = let u = h.low in omega arith
