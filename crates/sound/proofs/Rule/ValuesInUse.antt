-- A state that meets the rule: the variables in use hold values of their types, by parts. Assumes nothing.
use Prim.Native.Nat.{ℕ, zero, suc, ◌+◌, ◌-◌, ◌*◌, ◌/◌, ◌%◌, ◌≤◌, ◌<◌}
use mathlib.Core.Path.{◌≡◌, refl, sym, ap, ◌∙◌}
use mathlib.Core.Bool.{Bool, true}
use native.Mathlib.Omega.{arith}
use native.Mathlib.Nat.{add-zero, not-suc-le-zero}
use lib.Dec.{eqb, ltb}
use borrow.Author.Tests.{eqb-true, leb-true, ltb-true, eq-eqb, ne_eqb}
use Rattle.basics.specs.Choice.{pick, either}
use Rattle.basics.specs.Cases.{cases}
use Rattle.basics.specs.Course.{upto, course}
use Rattle.basics.proofs.Bools.{both_l, both_r, no_true, all-at, either_case}
use Rattle.basics.proofs.Courses.{upto_is}
use Rattle.table.specs.Table.{Table}
use Rattle.table.specs.Entries.{field_type, var_mode, var_type, first_var, vars, type_p, type_q, type_low, type_high}
use Rattle.types.specs.Match.{elements}
use Rattle.sizes.specs.Sizes.{words_of, offset_in}
use Rattle.words.specs.Types.{in_type}
use Rattle.words.proofs.StandardTypes.{integer_is, boolean_is, character_is}
use Rattle.machine.specs.Memory.{Memory}
use Rattle.machine.specs.Layout.{location, status_at, module_at, statement_at, top_at, works_at, created_at, caller_frame, call_statement, caller_works, called_block}
use Rattle.machine.specs.Entries.{TypeEntry, integer, boolean, character, record_type, array_type, process_type, no_type, type_at}
use Rattle.machine.specs.Variables.{offset_of}
use Rattle.machine.specs.Processes.{refers}
use Rattle.machine.specs.Values.{type_holds, holds_at, nowhere, holds, part}
use Rattle.machine.specs.Rule.{owns, worked, lives, module_holds, modules_hold, frame_holds, frames_hold, chain, started_ok, process_ok, rule}
use Rattle.machine.proofs.Memories.{location_plus}
use Rattle.machine.proofs.Entries.{type_integer, type_boolean, type_character, standard_record, standard_array, at_record, at_array}
use Rattle.sound.specs.Answers.{Small}
use Rattle.sound.specs.InUse.{Created, Reference, empty, names, HoldsValue, simple, reference, each_field, each_element, Part, itself, of_field, of_element, CallAt, innermost, caller, VariableOf, module_variable_at, call_variable, InUse, of_module, of_call, Bound, ValuesHold}
use Rattle.sound.specs.Ruled.{CallChain}
use Rattle.sound.proofs.Calls.BindingsKept.{call_created}
use Rattle.sound.proofs.Rule.RuleRecord.{chained as chain_of}
use Rattle.sound.proofs.Values.BlockVariables.{variable, InBlock, in_block}
use Rattle.sound.proofs.Rule.WorkedProcesses.{worked_created}
use Rattle.sound.proofs.Values.Parts as parts

-- ---- tests

-- what recursion on smaller numbers says at one of them
lower : (F : ℕ → (ℕ → ℕ → Bool) → ℕ → Bool) (τ σ b : ℕ) → upto nowhere F τ σ b ≡ true → (σ < τ) × (course nowhere F σ b ≡ true)
unfolding nowhere
lower F τ σ b e =
    cases (ltb σ τ)
    (λ h. (ltb-true σ τ h, sym (at (ap (λ (c : Bool). pick c (course nowhere F σ) nowhere) h)) ∙ e))
    (λ h. no_true (sym (at (ap (λ (c : Bool). pick c (course nowhere F σ) nowhere) h)) ∙ e))
  where
    at : {g : ℕ → Bool} → pick (ltb σ τ) (course nowhere F σ) nowhere ≡ g → upto nowhere F τ σ b ≡ g b
    at h = ap (λ (g : ℕ → Bool). g b) (upto_is nowhere F τ σ ∙ h)

-- ---- parts

module _ (T : Table) (τ : ℕ) where
  by_part : {σ k : ℕ} → parts.Part T τ σ k → Part T τ σ k
  by_part parts.whole = itself refl refl
  by_part (parts.in_field σ i k e l p) = of_field (type_p T σ) (type_q T σ) i k (at_record T σ e) l refl (by_part p)
  by_part (parts.in_element σ i k e l p) = of_element (type_p T σ) (type_q T σ) (type_low T σ) (type_high T σ) i k (at_array T σ e) l refl (by_part p)

pub part_of : (T : Table) (τ σ k : ℕ) → part T τ σ k ≡ true → Part T τ σ k
part_of T τ σ k e = by_part T τ (parts.to_Part T τ σ k e)

module _ (T : Table) (m : Memory) where
  -- ---- values

  field_value : (σ a first count : ℕ) → HoldsValue T m σ a → type_at T σ ≡ record_type first count → (i : ℕ) → i < count → HoldsValue T m (field_type T (first + i)) (a + offset_in T σ i)
  field_value σ a first count (simple h k) e i l = absurd (standard_record T σ first count h e)
  field_value σ a first count (reference μ t r) e i l = let z : ◌≡◌ {A = ℕ} 0 1 = cc in absurd (omega arith)
  field_value σ a first count (each_field first' count' t f) e i l =
      let x : first' ≡ first = cc in
      let y : count' ≡ count = cc in
      rw x at (f i (rw y l))
  field_value σ a first count (each_element ι ρ low high t f) e i l = let z : ◌≡◌ {A = ℕ} 0 1 = cc in absurd (omega arith)

  element_value : (σ a ι ρ low high : ℕ) → HoldsValue T m σ a → type_at T σ ≡ array_type ι ρ low high → (i : ℕ) → i < elements T σ → HoldsValue T m ρ (a + i * words_of T ρ)
  element_value σ a ι ρ low high (simple h k) e i l = absurd (standard_array T σ ι ρ low high h e)
  element_value σ a ι ρ low high (reference μ t r) e i l = let z : ◌≡◌ {A = ℕ} 0 1 = cc in absurd (omega arith)
  element_value σ a ι ρ low high (each_field first count t f) e i l = let z : ◌≡◌ {A = ℕ} 0 1 = cc in absurd (omega arith)
  element_value σ a ι ρ low high (each_element ι' ρ' low' high' t f) e i l = let x : ρ' ≡ ρ = cc in rw x at (f i l)

  -- a part of what holds a value holds one
  pub part_value : (τ σ k a : ℕ) → Part T τ σ k → HoldsValue T m σ a → HoldsValue T m τ (a + k)
  part_value τ σ k a (itself e z) h = rw (e, z, add-zero a) h
  part_value τ σ k a (of_field first count i j e l z p) h =
      let y : a + k ≡ a + offset_in T σ i + j = omega arith in
      rw y (part_value τ (field_type T (first + i)) j (a + offset_in T σ i) p (field_value σ a first count h e i l))
  part_value τ σ k a (of_element ι ρ low high i j e l z p) h =
      let y : a + k ≡ a + i * words_of T ρ + j = omega arith in
      rw y (part_value τ ρ j (a + i * words_of T ρ) p (element_value σ a ι ρ low high h e i l))

  module _ (small : Small m) where
    standard : (τ a : ℕ) → in_type τ (m a) ≡ true → HoldsValue T m τ a
    unfolding in_type
    standard τ a e = simple (ltb-true τ 3 (both_l _ _ e)) (both_r _ _ e)

    reference_of : (μ w : ℕ) → either (eqb w 0) (refers m μ w) ≡ true → Reference m μ w
    unfolding refers
    reference_of μ w e =
        either_case _ _ e
        (λ h. empty (eqb-true w 0 h))
        (λ h. let b = both_l _ _ h in
        let two = leb-true 2 w (both_l _ _ b) in
        names (record { least = omega arith; most = leb-true _ _ (both_r _ _ b) }) (eqb-true _ _ (both_r _ _ h)))

    value_entry : (τ : ℕ) (E : TypeEntry) (a : ℕ) → type_at T τ ≡ E
        → ((σ b : ℕ) → σ < τ → holds T m σ b ≡ true → HoldsValue T m σ b)
        → type_holds T m τ (upto nowhere (holds_at T m) τ) E a ≡ true → HoldsValue T m τ a
    unfolding type_holds holds
    value_entry τ integer a t f e = let z = type_integer T τ t in standard τ a (rw z (integer_is (m a) (small.small a)))
    value_entry τ boolean a t f e = let z = type_boolean T τ t in standard τ a (rw z (boolean_is (m a) (small.small a) ∙ e))
    value_entry τ character a t f e = let z = type_character T τ t in standard τ a (rw z (character_is (m a) (small.small a) ∙ e))
    value_entry τ (record_type first count) a t f e =
        each_field first count t λ i l.
        let u = lower (holds_at T m) τ _ _ (all-at count _ e i l) in
        f _ _ u.0 u.1
    value_entry τ (array_type ι σ low high) a t f e =
        each_element ι σ low high t λ i l.
        let u = lower (holds_at T m) τ _ _ (all-at (elements T τ) _ e i l) in
        f _ _ u.0 u.1
    value_entry τ (process_type μ) a t f e = reference μ t (reference_of μ (m a) e)
    value_entry τ no_type a t f e = no_true e

    value_upto : (n τ a : ℕ) → τ < n → holds T m τ a ≡ true → HoldsValue T m τ a
    unfolding holds holds_at course
    value_upto zero τ a h e = absurd (not-suc-le-zero h)
    value_upto (suc n) τ a h e = value_entry τ (type_at T τ) a refl (λ σ b l g. value_upto n σ b (omega arith) g) e

    pub holds_value : (τ a : ℕ) → holds T m τ a ≡ true → HoldsValue T m τ a
    holds_value τ a e = value_upto (suc τ) τ a (omega arith) e

-- ---- variables in use

location_is : (a : ℕ) → a ≡ location (a / 256 + 1) (a % 256)
unfolding location
location_is a = omega arith

-- the variable of a part is one of the block
of_block : (T : Table) (b τ k : ℕ) (p : InBlock T b τ k) → VariableOf T b (variable T b p.i)
of_block T b τ k p = let l = p.there in record { least = omega arith; most = omega arith }

module _ (T : Table) (m : Memory) (small : Small m) (ruled : rule T m ≡ true) where
  process-ok : (p : ℕ) → Created m p → process_ok T m p ≡ true
  unfolding rule
  process-ok p c =
      let l = c.least in
      let u = c.most in
      let e : p - 1 + 1 ≡ p = omega arith in
      rw e at (all-at (m created_at) (λ i. process_ok T m (i + 1)) (both_r _ _ (both_r _ _ ruled)) (p - 1) (omega arith))

  modules-hold : (p : ℕ) → Created m p → modules_hold T m p (m (module_at p)) ≡ true
  unfolding process_ok
  modules-hold p c = both_l _ _ (both_r _ _ (both_r _ _ (process-ok p c)))

  started-ok : (p : ℕ) → Created m p → m (status_at p) ≡ 2 → started_ok T m p ≡ true
  unfolding process_ok
  started-ok p c s = rw (eq-eqb _ 2 s) at (both_r _ _ (both_r _ _ (both_r _ _ (process-ok p c))))

  -- the chain of a process's calls, from a call of it on
  record Framed (p d f : ℕ) : Type 0 where
    works : ℕ
    statement : ℕ
    top : ℕ
    chained : chain T m p (suc d) f works statement top ≡ true

  call_framed : (p d f : ℕ) → CallAt T m p d f → Framed p d f
  unfolding started_ok chain
  call_framed p d f (innermost c s e z) =
      record { works = m (works_at p); statement = m (statement_at p); top = m (top_at p); chained = rw z (rw e at (started-ok p c s)) }
  call_framed p d f (caller g c z) =
      let h = call_framed p (suc d) g c in
      record { works = caller_works m p g; statement = call_statement m p g; top = g; chained = rw z (both_r _ _ (both_r _ _ (both_r _ _ (both_r _ _ h.chained)))) }

  frame-holds : (p d f v : ℕ) → CallAt T m p d f → VariableOf T (called_block m p f) v → frame_holds T m p d f (called_block m p f) v ≡ true
  unfolding chain frames_hold
  frame-holds p d f v c o =
      let h = call_framed p d f c in
      let l = o.least in
      let u = o.most in
      let e : first_var T (called_block m p f) + (v - first_var T (called_block m p f)) ≡ v = omega arith in
      rw e at (all-at (vars T (called_block m p f)) (λ i. frame_holds T m p d f (called_block m p f) (first_var T (called_block m p f) + i)) (both_l _ _ (both_r _ _ h.chained)) (v - first_var T (called_block m p f)) (omega arith))

  module_value : (p v : ℕ) → Created m p → VariableOf T (m (module_at p)) v → HoldsValue T m (var_type T v) (module_variable_at T m p v)
  unfolding modules_hold module_holds
  module_value p v c o =
      let l = o.least in
      let u = o.most in
      let e : first_var T (m (module_at p)) + (v - first_var T (m (module_at p))) ≡ v = omega arith in
      holds_value T m small _ _ (rw e at (all-at (vars T (m (module_at p))) (λ i. module_holds T m p (m (module_at p)) (first_var T (m (module_at p)) + i)) (modules-hold p c) (v - first_var T (m (module_at p))) (omega arith)))

  call_value : (p d f v : ℕ) → CallAt T m p d f → VariableOf T (called_block m p f) v → (var_mode T v ≡ 2 → ⊥) → HoldsValue T m (var_type T v) (call_variable T m p f v)
  unfolding frame_holds
  call_value p d f v c o n = holds_value T m small _ _ (rw (ne_eqb _ 2 n) at (frame-holds p d f v c o))

  in_use_value : (σ a : ℕ) → InUse T m σ a → HoldsValue T m σ a
  in_use_value σ a (of_module p v c o e z) = rw (e, z) (module_value p v c o)
  in_use_value σ a (of_call p d f v c o n e z) = rw (e, z) (call_value p d f v c o n)

  -- ---- var parameters

  bound_at : (τ σ a b k : ℕ) → InUse T m σ b → Part T τ σ k → a ≡ b + k → Bound T m τ a
  bound_at τ σ a b k u p e = record {
    type = σ;
    begins = b;
    word = k;
    in_use = u;
    part = p;
    is = e;
    holds = rw e (part_value T m τ σ k b p (in_use_value σ b u));
  }

  owned : (p d f τ k : ℕ) → ((e : ℕ) → d ≡ suc e → CallAt T m p e f) → owns T m p d f τ k ≡ true → Bound T m τ (location p k)
  unfolding owns
  owned p zero f τ k c e = no_true e
  owned p (suc d) f τ k c e =
      either_case _ _ e
      (λ h.
      let l = leb-true (f + 4) k (both_l _ _ h) in
      let b = in_block T (called_block m p f) τ (k - (f + 4)) (both_r _ _ h) in
      let o = b.from in
      let y : k ≡ f + 4 + offset_of T (called_block m p f) (variable T (called_block m p f) b.i) + (k - (f + 4) - offset_of T (called_block m p f) (variable T (called_block m p f) b.i)) = omega arith in
      bound_at τ _ _ _ _ (of_call p d f (variable T (called_block m p f) b.i) (c d refl) (of_block T _ _ _ b) b.mode refl refl) (part_of T τ _ _ b.part) (ap (location p) y ∙ location_plus p _ _))
      (λ h. owned p d (caller_frame m p f) τ k (λ i z. caller f (rw z at (c d refl)) refl) h)

  lives_bound : (p d f w τ a : ℕ) → ((e : ℕ) → d ≡ suc e → CallAt T m p e f) → ((r : ℕ) → worked m p d f w r ≡ true → Created m r) → lives T m p d f w τ a ≡ true → Bound T m τ a
  unfolding lives
  lives_bound p d f w τ a c n e =
      either_case _ _ e
      (λ h.
      let b = in_block T (m (module_at (a / 256 + 1))) τ (a % 256) (both_r _ _ h) in
      let o = b.from in
      let y : a % 256 ≡ offset_of T (m (module_at (a / 256 + 1))) (variable T (m (module_at (a / 256 + 1))) b.i) + (a % 256 - offset_of T (m (module_at (a / 256 + 1))) (variable T (m (module_at (a / 256 + 1))) b.i)) = omega arith in
      bound_at τ _ _ _ _ (of_module (a / 256 + 1) (variable T (m (module_at (a / 256 + 1))) b.i) (n (a / 256 + 1) (both_l _ _ h)) (of_block T _ _ _ b) refl refl) (part_of T τ _ _ b.part) (location_is a ∙ ap (location (a / 256 + 1)) y ∙ location_plus (a / 256 + 1) _ _))
      (λ h.
      let q = eqb-true _ p (both_l _ _ h) in
      let x : a ≡ location p (a % 256) = location_is a ∙ ap (λ (r : ℕ). location r (a % 256)) q in
      rw x (owned p d f τ (a % 256) c (both_r _ _ h)))

  -- what the caller of a call works on is created
  call_worked : (p d f : ℕ) → CallAt T m p d f → (r : ℕ) → worked m p d (caller_frame m p f) (caller_works m p f) r ≡ true → Created m r
  call_worked p d f c =
      let h = call_framed p d f c in
      let n = call_created T m p d f c in
      outer (chain_of T m p (suc d) f h.works h.statement h.top h.chained)
      n.least n.most
    where
      outer : {d f w c top : ℕ} → CallChain T m p (suc d) f w c top → 1 ≤ p → p ≤ m created_at → (r : ℕ) → worked m p d (caller_frame m p f) (caller_works m p f) r ≡ true → Created m r
      outer (CallChain.called k q) a b = worked_created T m p a b q

  call_bound : (p d f v : ℕ) → CallAt T m p d f → VariableOf T (called_block m p f) v → var_mode T v ≡ 2 → Bound T m (var_type T v) (m (call_variable T m p f v))
  unfolding frame_holds
  call_bound p d f v c o e =
      lives_bound p d (caller_frame m p f) (caller_works m p f) (var_type T v) _ (λ i z. caller f (rw z at c) refl) (call_worked p d f c) (rw (eq-eqb _ 2 e) at (frame-holds p d f v c o))

  -- THE RULE GIVES: every variable in use holds a value of its type
  pub rule_values : ValuesHold T m
  rule_values = record { variables = in_use_value; bound = call_bound }
