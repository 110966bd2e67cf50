-- Values of types: what `holds` says of each kind of type, and that it depends on the words of the type and on references only. Assumes nothing.
use Prim.Native.Nat.{ℕ, ◌+◌, ◌*◌, ◌≤◌, ◌<◌}
use mathlib.Core.Path.{◌≡◌, sym, ◌∙◌}
use mathlib.Core.Bool.{Bool, true, false}
use native.Mathlib.Omega.{arith}
use native.Mathlib.Nat.{add_assoc, add-zero}
use lib.Dec.{eqb, leb, ltb}
use borrow.Author.Tests.{eq-eqb, le-leb, ltb-true, ltb-false}
use Rattle.basics.specs.Cases.{cases}
use Rattle.basics.specs.Choice.{either, all_below}
use Rattle.basics.specs.Course.{upto, course}
use Rattle.basics.proofs.Bools.{no_true, all-at, either_l, either_r, either_case, all_i}
use Rattle.basics.proofs.Courses.{upto_below, upto_above, strong}
use Rattle.table.specs.Table.{Table}
use Rattle.table.specs.Entries.{type_count, type_kind, type_p, type_q}
use Rattle.types.specs.Match.{elements}
use Rattle.sizes.specs.Sizes.{words_of, offset_in}
use Rattle.sizes.proofs.Counting.{words_standard, field_in, element_in}
use Rattle.machine.specs.Memory.{Memory}
use Rattle.machine.specs.Entries.{process_type, no_type, type_at}
use Rattle.machine.specs.Processes.{refers}
use Rattle.machine.specs.Values.{type_holds, holds_at, nowhere, holds}
use Rattle.machine.proofs.Entries.{at_integer, at_boolean, at_character, at_record, at_array, at_process}
use Rattle.verdict.specs.Accepted.{Accepted}
use Rattle.sound.specs.Claims.{Keeps}
use Rattle.sound.proofs.Values.TypeKinds.{field_at, Form, is_integer, is_boolean, is_character, is_record, is_array, is_process, is_none, form, words_process, lower_field, lower_element, some_kind}

-- w is a reference of module μ, or empty
unfoldable pub refers_or_empty : Memory → ℕ → ℕ → Bool
refers_or_empty m μ w = either (eqb w 0) (refers m μ w)

-- ---- what holds says of each kind

module _ (T : Table) (m : Memory) (a : ℕ) where
  pub integer_holds : holds T m 0 a ≡ true
  unfolding holds course holds_at type_holds
  integer_holds = rw (at_integer T)

  pub boolean_is : holds T m 1 a ≡ leb (m a) 1
  unfolding holds course holds_at type_holds
  boolean_is = rw (at_boolean T)

  pub character_is : holds T m 2 a ≡ leb (m a) 127
  unfolding holds course holds_at type_holds
  character_is = rw (at_character T)

  module _ (τ : ℕ) where
    pub process_is : (μ : ℕ) → type_at T τ ≡ process_type μ → holds T m τ a ≡ refers_or_empty m μ (m a)
    unfolding holds course holds_at type_holds refers_or_empty
    process_is μ e = rw e

    none_is : type_at T τ ≡ no_type → holds T m τ a ≡ false
    unfolding holds course holds_at type_holds
    none_is e = rw e

    -- what is said of a part: it has a lower number, and holds a value
    part_lower : (σ b : ℕ) → upto nowhere (holds_at T m) τ σ b ≡ true → (σ < τ) × (holds T m σ b ≡ true)
    unfolding holds nowhere
    part_lower σ b e =
        cases (ltb σ τ)
        (λ q. let l : σ < τ = ltb-true σ τ q in (l, (rw (upto_below nowhere (holds_at T m) τ σ l) at e)))
        (λ q. no_true (rw (upto_above nowhere (holds_at T m) τ σ (ltb-false σ τ q)) at e))

    lower_part : (σ b : ℕ) → σ < τ → holds T m σ b ≡ true → upto nowhere (holds_at T m) τ σ b ≡ true
    unfolding holds
    lower_part σ b l e = rw (upto_below nowhere (holds_at T m) τ σ l) e

    -- a record holds a value where each field does
    module _ (e : type_kind T τ ≡ 1) where
      record_is : holds T m τ a ≡ all_below (type_q T τ) (λ i. upto nowhere (holds_at T m) τ (field_at T τ i) (a + offset_in T τ i))
      unfolding holds course holds_at type_holds
      record_is = rw (at_record T τ e)

      pub field_holds : holds T m τ a ≡ true → (i : ℕ) → i < type_q T τ → (field_at T τ i < τ) × (holds T m (field_at T τ i) (a + offset_in T τ i) ≡ true)
      field_holds h i l = part_lower (field_at T τ i) (a + offset_in T τ i) (all-at (type_q T τ) _ (sym record_is ∙ h) i l)

      pub record_holds : ((i : ℕ) → i < type_q T τ → (field_at T τ i < τ) × (holds T m (field_at T τ i) (a + offset_in T τ i) ≡ true)) → holds T m τ a ≡ true
      record_holds h = record_is ∙ all_i (type_q T τ) _ (λ i l. lower_part (field_at T τ i) (a + offset_in T τ i) (h i l).0 (h i l).1)

    -- an array where each element does
    module _ (e : type_kind T τ ≡ 2) where
      array_is : holds T m τ a ≡ all_below (elements T τ) (λ i. upto nowhere (holds_at T m) τ (type_q T τ) (a + i * words_of T (type_q T τ)))
      unfolding holds course holds_at type_holds
      array_is = rw (at_array T τ e)

      pub element_holds : holds T m τ a ≡ true → (i : ℕ) → i < elements T τ → (type_q T τ < τ) × (holds T m (type_q T τ) (a + i * words_of T (type_q T τ)) ≡ true)
      element_holds h i l = part_lower (type_q T τ) (a + i * words_of T (type_q T τ)) (all-at (elements T τ) _ (sym array_is ∙ h) i l)

      pub array_holds : ((i : ℕ) → i < elements T τ → (type_q T τ < τ) × (holds T m (type_q T τ) (a + i * words_of T (type_q T τ)) ≡ true)) → holds T m τ a ≡ true
      array_holds h = array_is ∙ all_i (elements T τ) _ (λ i l. lower_part (type_q T τ) (a + i * words_of T (type_q T τ)) (h i l).0 (h i l).1)

-- ---- a value stays one wherever its words stand, and the references stay

-- the n words of m' from b on are those of m from a on
abbrev pub Same : ℕ → Memory → ℕ → Memory → ℕ → Type 0
Same n m a m' b = (k : ℕ) → k < n → m' (b + k) ≡ m (a + k)

pub keeps_refers : (m n : Memory) (μ w : ℕ) → Keeps m n → refers_or_empty m μ w ≡ true → refers_or_empty n μ w ≡ true
unfolding refers_or_empty
keeps_refers m n μ w h e =
    either_case (eqb w 0) (refers m μ w) e
    (λ q. either_l (eqb w 0) (refers n μ w) q)
    (λ q. either_r (eqb w 0) (refers n μ w) (h.refs μ w q))

module _ (T : Table) (m n : Memory) (keeps : Keeps m n) where
  unfoldable Moves : ℕ → Type 0
  Moves τ = (a b : ℕ) → Same (words_of T τ) m a n b → holds T m τ a ≡ true → holds T n τ b ≡ true

  -- the first word
  first-same : (τ a b : ℕ) → words_of T τ ≡ 1 → Same (words_of T τ) m a n b → n b ≡ m a
  first-same τ a b e s = let x : n (b + 0) ≡ m (a + 0) = s 0 (omega arith) in rw (add-zero a, add-zero b) at x

  -- the words of a part
  part_same : (w v o a b : ℕ) → o + v ≤ w → Same w m a n b → Same v m (a + o) n (b + o)
  part_same w v o a b l s k g = rw (add_assoc a o k, add_assoc b o k) (s (o + k) (omega arith))

  moves_step : (τ : ℕ) → ((k : ℕ) → k < τ → Moves k) → Form T τ → Moves τ
  unfolding Moves
  moves_step τ ih (is_integer q) a b s h = rw q (integer_holds T n b)
  moves_step τ ih (is_boolean q) a b s h =
      let x = first-same τ a b (words_standard T τ (omega arith)) s in
      let y : holds T m 1 a ≡ true = rw q at h in
      rw (q, boolean_is T n b, x) (sym (boolean_is T m a) ∙ y)
  moves_step τ ih (is_character q) a b s h =
      let x = first-same τ a b (words_standard T τ (omega arith)) s in
      let y : holds T m 2 a ≡ true = rw q at h in
      rw (q, character_is T n b, x) (sym (character_is T m a) ∙ y)
  moves_step τ ih (is_record e) a b s h =
      record_holds T n b τ e (λ i l.
      let f = field_holds T m a τ e h i l in
      (f.0, ih (field_at T τ i) f.0 (a + offset_in T τ i) (b + offset_in T τ i) (part_same (words_of T τ) _ (offset_in T τ i) a b (field_in T τ e i l f.0) s) f.1))
  moves_step τ ih (is_array e) a b s h =
      array_holds T n b τ e (λ i l.
      let f = element_holds T m a τ e h i l in
      let o = i * words_of T (type_q T τ) in
      (f.0, ih (type_q T τ) f.0 (a + o) (b + o) (part_same (words_of T τ) _ o a b (element_in T τ i e f.0 l) s) f.1))
  moves_step τ ih (is_process e) a b s h =
      let x = first-same τ a b (words_process T τ e) s in
      let p = at_process T τ e in
      rw (process_is T n b τ (type_p T τ) p, x)
      (keeps_refers m n (type_p T τ) (m a) keeps (sym (process_is T m a τ (type_p T τ) p) ∙ h))
  moves_step τ ih (is_none l x y z e) a b s h = no_true (sym (none_is T m a τ e) ∙ h)

  pub holds_moved : (τ a b : ℕ) → Same (words_of T τ) m a n b → holds T m τ a ≡ true → holds T n τ b ≡ true
  unfolding Moves
  holds_moved = strong Moves (λ τ ih. moves_step τ ih (form T τ))

-- ---- words that are 0

module _ (T : Table) (ok : Accepted T) (m : Memory) where
  unfoldable Empty : ℕ → Type 0
  Empty τ = (a : ℕ) → τ < 3 + type_count T → ((k : ℕ) → k < words_of T τ → m (a + k) ≡ 0) → holds T m τ a ≡ true

  first_zero : (τ a : ℕ) → words_of T τ ≡ 1 → ((k : ℕ) → k < words_of T τ → m (a + k) ≡ 0) → m a ≡ 0
  first_zero τ a e z = let x : m (a + 0) ≡ 0 = z 0 (omega arith) in rw (add-zero a) at x

  part_zero : (w v o a : ℕ) → o + v ≤ w → ((k : ℕ) → k < w → m (a + k) ≡ 0) → (k : ℕ) → k < v → m (a + o + k) ≡ 0
  part_zero w v o a l z k g = rw (add_assoc a o k) (z (o + k) (omega arith))

  empty_step : (τ : ℕ) → ((k : ℕ) → k < τ → Empty k) → Form T τ → Empty τ
  unfolding Empty refers_or_empty
  empty_step τ ih (is_integer q) a l z = rw q (integer_holds T m a)
  empty_step τ ih (is_boolean q) a l z =
      rw (q, boolean_is T m a) (le-leb (m a) 1 (omega (arith, first_zero τ a (words_standard T τ (omega arith)) z)))
  empty_step τ ih (is_character q) a l z =
      rw (q, character_is T m a) (le-leb (m a) 127 (omega (arith, first_zero τ a (words_standard T τ (omega arith)) z)))
  empty_step τ ih (is_record e) a l z =
      record_holds T m a τ e (λ i g.
      let f = lower_field T ok τ l e i g in
      (f, ih (field_at T τ i) f (a + offset_in T τ i) (omega arith) (part_zero (words_of T τ) _ (offset_in T τ i) a (field_in T τ e i g f) z)))
  empty_step τ ih (is_array e) a l z =
      array_holds T m a τ e (λ i g.
      let f = lower_element T ok τ l e in
      (f, ih (type_q T τ) f (a + i * words_of T (type_q T τ)) (omega arith) (part_zero (words_of T τ) _ (i * words_of T (type_q T τ)) a (element_in T τ i e f g) z)))
  empty_step τ ih (is_process e) a l z =
      process_is T m a τ (type_p T τ) (at_process T τ e)
      ∙ either_l (eqb (m a) 0) (refers m (type_p T τ) (m a)) (eq-eqb (m a) 0 (first_zero τ a (words_process T τ e) z))
  empty_step τ ih (is_none g x y w e) a l z = absurd (some_kind T ok τ l g x y w)

  -- words that are 0 are a value of every type: references are empty
  pub zero_holds : (τ a : ℕ) → τ < 3 + type_count T → ((k : ℕ) → k < words_of T τ → m (a + k) ≡ 0) → holds T m τ a ≡ true
  unfolding Empty
  zero_holds = strong Empty (λ τ ih. empty_step τ ih (form T τ))
