-- What follows from the reference of a process variable that is not stuck. Assumes nothing.
use Prim.Native.Nat.{ℕ, ◌<◌, ◌≤◌}
use mathlib.Core.Path.{◌≡◌, refl, sym, ap, subst, ◌∙◌}
use mathlib.Core.Bool.{Bool, true, false, not}
use mathlib.Core.List.{List}
use lib.Dec.{eqb, leb}
use native.Mathlib.Omega.{arith}
use borrow.Author.Tests.{eqb-true, eqb-false, leb-true, eq-eqb, ne_eqb}
use Rattle.basics.specs.Cases.{cases}
use Rattle.basics.specs.Choice.{both}
use Rattle.basics.proofs.Bools.{both_l, both_r}
use Rattle.table.specs.Table.{Table}
use Rattle.table.specs.Entries.{node_count, type_kind, type_p}
use Rattle.types.specs.Types.{type_of}
use Rattle.numbers.specs.Nodes.{Variable}
use Rattle.numbers.specs.Ranges.{in_range}
use Rattle.words.specs.Values.{failure_number}
use Rattle.words.specs.declared.values.Failure.{Failure}
use Rattle.machine.specs.Memory.{Memory, memory_of}
use Rattle.machine.specs.Layout.{module_at, created_at, locations}
use Rattle.machine.specs.Marks.{marked}
use Rattle.machine.specs.Context as machine
use Rattle.machine.specs.Outcomes.{Outcome, ok, fail, stuck, and_then, need, fail_where, Operand, place, value, placed, on_place, text}
use Rattle.machine.specs.Entries.{process_type, type_at}
use Rattle.machine.specs.Variables.{fits}
use Rattle.machine.specs.Operands.{operand}
use Rattle.machine.specs.Processes.{on_module, on_process, refers, on_reference}
use Rattle.code.specs.Code.{decoded}
use Rattle.operands.specs.declared.Context.{Context}
use Rattle.std.specs.Prelude.{Result, Ok, Err}
use Rattle.operands.specs.Answers.{selected, Unstuck, goes, fails, Selectable}
use Rattle.operands.specs.Ready.{context_in, Ready}
use Rattle.types.proofs.Matching.{declared_from}
use Rattle.operands.proofs.Typed.{OfType, a_place, a_value, a_failure, a_stuck, typed_variable}
use Rattle.operands.proofs.Selecting.{fits_low}
use Rattle.transfers.proofs.Following.{apart, need_true, need_done, no_stuck, not_stuck, no_ok, ok_is, fail_is}
use Rattle.transfers.specs.References.{reference_of, referred_process, place_refers, referred, Referring}

-- ---- process types

module _ (T : Table) (τ : ℕ) where
  pub entry_process : type_kind T τ ≡ 3 → type_at T τ ≡ process_type (type_p T τ)
  unfolding type_at
  entry_process e =
      let l = declared_from T τ 3 e (omega arith) in
      rw (ne_eqb τ 0 (λ q. omega arith), ne_eqb τ 1 (λ q. omega arith), ne_eqb τ 2 (λ q. omega arith), e)

  -- of another kind there is no module
  no_module : (type_kind T τ ≡ 3 → ⊥) → {A : Type 0} (f : ℕ → Outcome A) → on_module (type_at T τ) f ≡ stuck
  unfolding type_at on_module
  no_module n f =
      cases (eqb τ 0) (λ a. rw a) (λ a.
      cases (eqb τ 1) (λ b. rw (a, b)) (λ b.
      cases (eqb τ 2) (λ c. rw (a, b, c)) (λ c.
      cases (eqb (type_kind T τ) 1) (λ d. rw (a, b, c, d)) (λ d.
      cases (eqb (type_kind T τ) 2) (λ e. rw (a, b, c, d, e)) (λ e.
      rw (a, b, c, d, e, ne_eqb (type_kind T τ) 3 n))))))

-- ---- process variables: o is the outcome of a variable of type τ

-- what it is where something follows that is not stuck
pub data Selected (T : Table) (τ : ℕ) : Outcome Operand → Type 0 where
  at_process : {a : ℕ} → fits T a τ ≡ true → type_kind T τ ≡ 3 → Selected T τ (ok (place a τ))
  at_failure : {k : ℕ} → Selected T τ (fail k)

module _ {T : Table} {τ : ℕ} where
  pub selected_unstuck : {o : Outcome Operand} → Selected T τ o → Unstuck o
  selected_unstuck (at_process e k) = goes
  selected_unstuck at_failure = fails

  pub selected_cases : {P : Type 0} {o : Outcome Operand} → Selected T τ o → ((a : ℕ) → o ≡ ok (place a τ) → P) → ((k : ℕ) → o ≡ fail k → P) → P
  selected_cases (at_process {a} e k) f g = f a refl
  selected_cases (at_failure {k}) f g = g k refl

  -- of any type σ, since the case at τ itself would be an equation of τ with τ
  place_fits : {a σ : ℕ} → Selected T τ (ok (place a σ)) → fits T a τ ≡ true
  place_fits (at_process e k) = e

  place_kind : {a σ : ℕ} → Selected T τ (ok (place a σ)) → type_kind T τ ≡ 3
  place_kind (at_process e k) = k

  pub selected_fits : {a : ℕ} → Selected T τ (ok (place a τ)) → fits T a τ ≡ true
  selected_fits h = place_fits h

  pub selected_kind : {a : ℕ} → Selected T τ (ok (place a τ)) → type_kind T τ ≡ 3
  selected_kind h = place_kind h

module _ (T : Table) (τ : ℕ) {A : Type 0} (f : ℕ → ℕ → Outcome A) where
  pub process_at : (a : ℕ) → type_kind T τ ≡ 3 → on_process T (ok (place a τ)) f ≡ f a (type_p T τ)
  unfolding on_process on_place and_then placed on_module
  process_at a e = rw (entry_process T τ e)

  pub process_failed : (k : ℕ) → on_process T (fail k) f ≡ fail k
  unfolding on_process on_place and_then
  process_failed k = refl

  process_kind : (a : ℕ) → (on_process T (ok (place a τ)) f ≡ stuck → ⊥) → type_kind T τ ≡ 3
  unfolding on_process on_place and_then placed
  process_kind a g =
      cases (eqb (type_kind T τ) 3)
      (λ e. eqb-true (type_kind T τ) 3 e)
      (λ e. absurd (g (no_module T τ (eqb-false (type_kind T τ) 3 e) _)))

  pub process_selected : (o : Outcome Operand) → OfType T τ o → (on_process T o f ≡ stuck → ⊥) → Selected T τ o
  unfolding on_process on_place and_then placed
  process_selected (ok (place a σ)) (a_place e) g = at_process e (process_kind a g)
  process_selected (ok (value σ ws)) (a_value e) g = absurd (g refl)
  process_selected (fail k) a_failure g = at_failure
  process_selected stuck a_stuck g = absurd (g refl)
  process_selected (ok (text _)) f g = elim f [ ]

-- ---- the laws of `reference`

pub refer_empty : (w : ℕ) → w ≡ 0 → fail 19 ≡ referred_process w
unfolding referred_process
refer_empty w e = rw (eq-eqb w 0 e)

pub refer_to : (w : ℕ) → (w ≡ 0 → ⊥) → ok w ≡ referred_process w
unfolding referred_process
refer_to w n = rw (ne_eqb w 0 n)

-- the variable is marked, or not
module _ (m : Memory) (a : ℕ) (b : Bool) (hb : b ≡ marked m a) where
  pub refer_unset : b ≡ false → fail 31 ≡ place_refers m a
  unfolding place_refers
  refer_unset e = rw (← hb, e)

  pub refer_marked : b ≡ true → (w : ℕ) (r : Result ℕ Failure) → w ≡ m a → referred r ≡ referred_process w → referred r ≡ place_refers m a
  unfolding place_refers
  refer_marked e w r hw d = d ∙ rw (← hb, e, hw)

-- the reference at a place of a process type
at_reference : (T : Table) (m : Memory) (a τ : ℕ) → type_kind T τ ≡ 3 → (reference_of T m (ok (place a τ)) ≡ stuck → ⊥)
    → reference_of T m (ok (place a τ)) ≡ place_refers m a
unfolding reference_of place_refers referred_process on_reference fail_where
at_reference T m a τ e g =
    let d = process_at T τ (λ i μ. on_reference m i μ (λ r. ok r)) a e in
    cases (marked m a)
    (λ u.
    cases (eqb (m a) 0)
    (λ z. d ∙ rw (u, z))
    (λ z. d ∙ rw (u, z) (need_done (refers m (type_p T τ) (m a)) (ok (m a)) (λ k. g (d ∙ rw (u, z) k)))))
    (λ u. d ∙ rw u)

module _ (t m p : List ℕ) (x : Context) (h : Ready t m p x) (n : ℕ)
    (c : Referring (decoded t) (memory_of m) (memory_of p) (context_in x) n) where
  is_typed : OfType (decoded t) (type_of (decoded t) n) (operand (decoded t) (memory_of m) (memory_of p) (context_in x) n)
  is_typed = typed_variable (decoded t) (memory_of m) (memory_of p) (context_in x) h.ranged n c.variable

  is_selected : Selected (decoded t) (type_of (decoded t) n) (operand (decoded t) (memory_of m) (memory_of p) (context_in x) n)
  unfolding reference_of
  is_selected = process_selected (decoded t) (type_of (decoded t) n) _ _ is_typed c.unstuck

  pub reference_selectable : Selectable (decoded t) (memory_of m) (memory_of p) (context_in x) n
  reference_selectable = record { variable = c.variable; unstuck = selected_unstuck is_selected }

  module _ (l : Result ℕ Failure) (hl : selected l (type_of (decoded t) n) ≡ operand (decoded t) (memory_of m) (memory_of p) (context_in x) n) where
    pub reference_fails : (e : Failure) → l ≡ Err e
        → fail (failure_number e) ≡ reference_of (decoded t) (memory_of m) (operand (decoded t) (memory_of m) (memory_of p) (context_in x) n)
    unfolding reference_of
    reference_fails e g =
        rw (← hl, g) (sym (process_failed (decoded t) (type_of (decoded t) n) _ (failure_number e)))

    module _ (a : ℕ) (g : l ≡ Ok a) where
      is_place : operand (decoded t) (memory_of m) (memory_of p) (context_in x) n ≡ ok (place a (type_of (decoded t) n))
      is_place = sym hl ∙ rw g

      here : Selected (decoded t) (type_of (decoded t) n) (ok (place a (type_of (decoded t) n)))
      here = subst (Selected (decoded t) (type_of (decoded t) n)) is_place is_selected

      pub reference_low : a < locations
      reference_low = fits_low (decoded t) a (type_of (decoded t) n) (selected_fits here)

      pub reference_returns : (r : Result ℕ Failure) → referred r ≡ place_refers (memory_of m) a
          → referred r ≡ reference_of (decoded t) (memory_of m) (operand (decoded t) (memory_of m) (memory_of p) (context_in x) n)
      reference_returns r d =
          rw is_place
          (d ∙ sym (at_reference (decoded t) (memory_of m) a (type_of (decoded t) n) (selected_kind here) (λ k. c.unstuck (rw is_place k))))

pub ruleset references = (refer_empty, refer_to, refer_unset, refer_marked, reference_selectable, reference_fails, reference_low, reference_returns)

-- ---- what a statement does with a reference: v is the module of the variable's type, b what must hold of it (11.3, 11.5)

-- what a reference gives: a created process of the module
pub record Refers (m : Memory) (v r : ℕ) : Type 0 where
  pub low : 2 ≤ r
  pub high : r ≤ m created_at
  pub block : m (module_at r) ≡ v

refers_is : (m : Memory) (v r : ℕ) → refers m v r ≡ true → Refers m v r
unfolding refers
refers_is m v r e =
    let d = both_l (both (leb 2 r) (leb r (m created_at))) _ e in
    record {
      low = leb-true 2 r (both_l (leb 2 r) _ d);
      high = leb-true r (m created_at) (both_r (leb 2 r) _ d);
      block = eqb-true (m (module_at r)) v (both_r (both (leb 2 r) (leb r (m created_at))) _ e);
    }

-- the variable at a is marked, and refers to process r
record Full (m : Memory) (a r : ℕ) : Type 0 where
  set : marked m a ≡ true
  full : m a ≡ 0 → ⊥
  is : m a ≡ r

module _ {A : Type 0} (m : Memory) (a v : ℕ) (b : Bool) (f : ℕ → Outcome A) (g : need b (on_reference m a v f) ≡ stuck → ⊥) where
  asks : need b (on_reference m a v f) ≡ fail_where (not (marked m a)) 31 (fail_where (eqb (m a) 0) 19 (need (refers m v (m a)) (f (m a))))
  unfolding on_reference
  asks = need_done b (on_reference m a v f) g

  unset_fails : marked m a ≡ false → need b (on_reference m a v f) ≡ fail 31
  unfolding fail_where
  unset_fails u = asks ∙ rw u

  empty_fails : marked m a ≡ true → m a ≡ 0 → need b (on_reference m a v f) ≡ fail 19
  unfolding fail_where
  empty_fails u e = asks ∙ rw (u, eq-eqb (m a) 0 e)

  -- a variable that is marked and not empty
  module _ (u : marked m a ≡ true) (e : m a ≡ 0 → ⊥) where
    full_asks : need b (on_reference m a v f) ≡ need (refers m v (m a)) (f (m a))
    unfolding fail_where
    full_asks = asks ∙ rw (u, ne_eqb (m a) 0 e)

    full_refers : refers m v (m a) ≡ true
    full_refers = need_true (refers m v (m a)) (f (m a)) (apart _ _ full_asks g)

    full_goes : need b (on_reference m a v f) ≡ f (m a)
    full_goes = full_asks ∙ need_done (refers m v (m a)) (f (m a)) (apart _ _ full_asks g)

  reference_alone : on_reference m a v (λ r. ok r) ≡ place_refers m a
  unfolding on_reference fail_where place_refers referred_process need
  reference_alone =
      cases (marked m a)
      (λ u.
      cases (eqb (m a) 0)
      (λ z. rw (u, z))
      (λ z. rw (u, z, full_refers u (eqb-false (m a) 0 z))))
      (λ u. rw u)

  word_unstuck : place_refers m a ≡ stuck → ⊥
  unfolding place_refers referred_process
  word_unstuck k =
      cases (marked m a)
      (λ u.
      cases (eqb (m a) 0)
      (λ z. no_stuck 19 (rw (u, z) at k))
      (λ z. not_stuck (m a) (rw (u, z) at k)))
      (λ u. no_stuck 31 (rw u at k))

  word_fails : (k : ℕ) → fail k ≡ place_refers m a → need b (on_reference m a v f) ≡ fail k
  unfolding place_refers referred_process
  word_fails k e =
      cases (marked m a)
      (λ u.
      cases (eqb (m a) 0)
      (λ z. empty_fails u (eqb-true (m a) 0 z) ∙ fail_is 19 k (sym (rw (u, z) at e)))
      (λ z. no_ok (m a) k (sym (rw (u, z) at e))))
      (λ u. unset_fails u ∙ fail_is 31 k (sym (rw u at e)))

  word_full : (r : ℕ) → ok r ≡ place_refers m a → Full m a r
  unfolding place_refers referred_process
  word_full r e =
      cases (marked m a)
      (λ u.
      cases (eqb (m a) 0)
      (λ z. no_ok r 19 (rw (u, z) at e))
      (λ z. record { set = u; full = eqb-false (m a) 0 z; is = ok_is (m a) r (sym (rw (u, z) at e)) }))
      (λ u. no_ok r 31 (rw u at e))

module _ {A : Type 0} (T : Table) (m page : Memory) (x : machine.Context) (n : ℕ) (b : ℕ → Bool) (f : ℕ → ℕ → Outcome A) where
  -- the statement's outcome
  unfoldable pub follows : Outcome A
  follows = on_process T (operand T m page x n) λ i v. need (b v) (on_reference m i v (f v))

  -- a process call is one (11.3), and so is a start (11.5), which tests nothing
  pub call_follows : on_process T (operand T m page x n) (λ i v. need (b v) (on_reference m i v (f v))) ≡ follows
  unfolding follows
  call_follows = refl

pub start_follows : {A : Type 0} (T : Table) (m page : Memory) (x : machine.Context) (n : ℕ) (f : ℕ → ℕ → Outcome A)
    → on_process T (operand T m page x n) (λ i v. on_reference m i v (f v)) ≡ follows T m page x n (λ v. true) f
unfolding follows need
start_follows T m page x n f = refl

module _ {A : Type 0} (T : Table) (m page : Memory) (x : machine.Context) (h : in_range T ≡ true) (n : ℕ) (v : Variable T (node_count T) n)
    (b : ℕ → Bool) (f : ℕ → ℕ → Outcome A) (g : follows T m page x n b f ≡ stuck → ⊥) where
  followed : Selected T (type_of T n) (operand T m page x n)
  unfolding follows
  followed = process_selected T (type_of T n) _ _ (typed_variable T m page x h n v) g

  module _ (a : ℕ) (e : operand T m page x n ≡ ok (place a (type_of T n))) where
    kind_there : type_kind T (type_of T n) ≡ 3
    kind_there = selected_kind (subst (Selected T (type_of T n)) e followed)

    goes_there : follows T m page x n b f ≡ need (b (type_p T (type_of T n))) (on_reference m a (type_p T (type_of T n)) (f (type_p T (type_of T n))))
    unfolding follows
    goes_there = rw e (process_at T (type_of T n) _ a kind_there)

    unstuck_there : need (b (type_p T (type_of T n))) (on_reference m a (type_p T (type_of T n)) (f (type_p T (type_of T n)))) ≡ stuck → ⊥
    unstuck_there = apart _ _ goes_there g

    reference_there : reference_of T m (operand T m page x n) ≡ place_refers m a
    unfolding reference_of
    reference_there =
        rw e
        (process_at T (type_of T n) _ a kind_there
        ∙ reference_alone m a (type_p T (type_of T n)) (b (type_p T (type_of T n))) (f (type_p T (type_of T n))) unstuck_there)

  module _ (k : ℕ) (e : operand T m page x n ≡ fail k) where
    fails_there : follows T m page x n b f ≡ fail k
    unfolding follows
    fails_there = rw e (process_failed T (type_of T n) _ k)

    reference_fails_there : reference_of T m (operand T m page x n) ≡ fail k
    unfolding reference_of
    reference_fails_there = rw e (process_failed T (type_of T n) _ k)

  -- THE REFERENCE can be asked
  pub follows_referring : Referring T m page x n
  follows_referring =
      record {
        variable = v;
        unstuck = λ k.
            selected_cases followed
            (λ a e.
            word_unstuck m a (type_p T (type_of T n)) (b (type_p T (type_of T n))) (f (type_p T (type_of T n))) (unstuck_there a e)
            (sym (reference_there a e) ∙ k))
            (λ j e. no_stuck j (sym (reference_fails_there j e) ∙ k));
      }

  module _ (r : Result ℕ Failure) (hr : referred r ≡ reference_of T m (operand T m page x n)) where
    -- it fails: so does the statement
    pub follows_fails : (k : Failure) → r ≡ Err k → follows T m page x n b f ≡ fail (failure_number k)
    follows_fails k z =
        selected_cases followed
        (λ a e.
        goes_there a e
        ∙ word_fails m a (type_p T (type_of T n)) (b (type_p T (type_of T n))) (f (type_p T (type_of T n))) (unstuck_there a e) (failure_number k)
        ((rw z at hr) ∙ reference_there a e))
        (λ j e. fails_there j e ∙ fail_is j (failure_number k) (sym ((rw z at hr) ∙ reference_fails_there j e)))

    -- it is process j
    module _ (j : ℕ) (z : r ≡ Ok j) where
      to_place : {P : Type 0} → ((a : ℕ) → operand T m page x n ≡ ok (place a (type_of T n)) → Full m a j → P) → P
      to_place q =
          selected_cases followed
          (λ a e.
          q a e
          (word_full m a (type_p T (type_of T n)) (b (type_p T (type_of T n))) (f (type_p T (type_of T n))) (unstuck_there a e) j ((rw z at hr) ∙ reference_there a e)))
          (λ k e. no_ok j k ((rw z at hr) ∙ reference_fails_there k e))

      pub follows_to : follows T m page x n b f ≡ f (type_p T (type_of T n)) j
      follows_to =
          to_place (λ a e w.
          goes_there a e
          ∙ (full_goes m a (type_p T (type_of T n)) (b (type_p T (type_of T n))) (f (type_p T (type_of T n))) (unstuck_there a e) w.set w.full
          ∙ ap (f (type_p T (type_of T n))) w.is))

      pub follows_refers : Refers m (type_p T (type_of T n)) j
      follows_refers =
          to_place (λ a e w.
          rw w.is at
          (refers_is m (type_p T (type_of T n)) (m a)
          (full_refers m a (type_p T (type_of T n)) (b (type_p T (type_of T n))) (f (type_p T (type_of T n))) (unstuck_there a e) w.set w.full)))
