-- The end of arms by their links, and where a process goes on from it. Assumes nothing.
use Prim.Native.Nat.{ℕ, zero, suc, ◌+◌, ◌-◌, ◌≤◌, ◌<◌}
use mathlib.Core.Path.{◌≡◌, refl, sym, ◌∙◌}
use mathlib.Core.Bool.{Bool, true, false}
use mathlib.Core.List.{List}
use lib.Dec.{eqb, ltb}
use native.Mathlib.Omega.{arith}
use borrow.Author.Tests.{eqb-true, eqb-false, ne_eqb, ltb-true}
use Rattle.basics.specs.Choice.{pick}
use Rattle.basics.specs.Cases.{cases}
use Rattle.table.specs.Table.{Table}
use Rattle.table.specs.Entries.{stmt_count, stmt_kind, stmt_link}
use Rattle.table.specs.Reading.{Field}
use Rattle.code.specs.Code.{decoded}
use Rattle.machine.specs.Memory.{Memory, memory_of, update}
use Rattle.machine.specs.Layout.{statement_at}
use Rattle.machine.specs.Lent.{Becomes}
use Rattle.machine.specs.Context as machine
use Rattle.machine.specs.Outcomes.{Outcome, ok, stuck, need}
use Rattle.machine.specs.Entries.{repeats, stmt_at}
use Rattle.machine.specs.Statements.{Effect, on_opener, end_of, go_to, go_on, do_end, perform}
use Rattle.operands.specs.declared.Context.{Context}
use Rattle.operands.specs.Ready.{context_in}
use Rattle.effects.specs.Effects.{statement_step, Stepped, Standing}
use Rattle.effects.proofs.Carrying.{performs_skip, performs_arm, performs_end, stepped}
use Rattle.guards.specs.Guards.{opener_of, end_at, Linked, Linking, ArmsEnd}
use Rattle.guards.proofs.Standing.{stands_lent, stands_page, stands_small}
use Rattle.guards.proofs.Arms.{through, need_is, same_unstuck, at_arm, at-end, arms_there, end_kind, end_is, opener_there, opener_is}

module _ (T : Table) where
  -- an arm that is passed
  record Passed (n i : ℕ) : Type 0 where
    pub left : ℕ
    pub below : i < stmt_count T
    pub further : i < stmt_link T i
    pub is : end_at T n i ≡ end_at T left (stmt_link T i)

  passed : (n i : ℕ) → (end_at T n i ≡ stuck → ⊥) → stmt_kind T i ≡ 10 → Passed n i
  unfolding end_at end_of need
  passed zero i g e = absurd (g refl)
  passed (suc n) i g e =
      let l = arms_there T i _ _ g in
      let d = at_arm T i _ _ l e in
      let b = through (ltb i (stmt_link T i)) _ (same_unstuck (sym d) g) in
      record { left = n; below = l; further = ltb-true i (stmt_link T i) b; is = d ∙ rw b }

  reached : (n i : ℕ) → (end_at T n i ≡ stuck → ⊥) → (stmt_kind T i ≡ 10 → ⊥) → (end_at T n i ≡ ok i) × (i < stmt_count T)
  unfolding end_at end_of
  reached zero i g e = absurd (g refl)
  reached (suc n) i g e = (end_is T i _ _ g e, arms_there T i _ _ g)

  pub linking_none : (i : ℕ) → Linked T i → Linking T i i
  linking_none i c = record { left = stmt_count T; rest = refl; unstuck = c.unstuck }

  module _ (i j : ℕ) (c : Linking T i j) (k : ℕ) (hk : Field (stmt_kind T j) k) where
    free : end_at T c.left j ≡ stuck → ⊥
    free = same_unstuck c.rest c.unstuck

    pub linking_ends : (k ≡ 10 → ⊥) → ArmsEnd T i j
    linking_ends n =
        let d = reached c.left j free (λ e. n (hk.is ∙ e)) in record { is = sym d.0 ∙ c.rest; below = d.1 }

    module _ (e : k ≡ 10) where
      here : Passed c.left j
      here = passed c.left j free (sym hk.is ∙ e)

      module _ (l : ℕ) (hl : Field (stmt_link T j) l) where
        pub linking_less : stmt_count T - l < stmt_count T - j
        linking_less = let b = here.below in let q = hl.is in let r = here.further in omega arith

        pub linking_more : Linking T i l
        linking_more = record { left = here.left; rest = rw hl.is (sym here.is ∙ c.rest); unstuck = c.unstuck }

pub ruleset links = (linking_none, linking_ends, linking_less, linking_more)

-- THE END is the same whatever follows
module _ (T : Table) (f : ℕ → ℕ → Outcome Effect) where
  record Follows (n i : ℕ) : Type 0 where
    pub end : ℕ
    pub is : end_at T n i ≡ ok end
    pub gives : end_of T n i f ≡ f end (stmt_link T end)

  follows : (n i : ℕ) → (end_of T n i f ≡ stuck → ⊥) → Follows n i
  unfolding end_at end_of
  follows zero i g = absurd (g refl)
  follows (suc n) i g =
      let l = arms_there T i _ _ g in
      cases (eqb (stmt_kind T i) 10)
      (λ q.
      let k = eqb-true (stmt_kind T i) 10 q in
      let d = at_arm T i _ _ l k in
      let b = through (ltb i (stmt_link T i)) _ (same_unstuck (sym d) g) in
      let r = follows n (stmt_link T i) (same_unstuck (sym (d ∙ need_is (ltb i (stmt_link T i)) _ b)) g) in
      record {
        end = r.end;
        is = at_arm T i _ _ l k ∙ (need_is (ltb i (stmt_link T i)) _ b ∙ r.is);
        gives = d ∙ (need_is (ltb i (stmt_link T i)) _ b ∙ r.gives);
      })
      (λ q.
      let k = end_kind T i _ _ g (eqb-false (stmt_kind T i) 10 q) in
      record { end = i; is = at-end T i _ _ l k; gives = at-end T i _ _ l k })

-- from the end i of the arms of the opener at link
unfoldable after : Table → Memory → Memory → machine.Context → ℕ → ℕ → Outcome Effect
after T m page x i link =
    on_opener (stmt_at T link) λ k. pick (repeats k) (go_to T m page x m link) (go_to T m page x m (i + 1))

module _ (T : Table) (m page : Memory) (x : machine.Context) where
  end_does : do_end T m page x ≡ end_of T (stmt_count T) x.statement (after T m page x)
  unfolding do_end after
  end_does = refl

  picked : (b : Bool) (c d : ℕ) → pick b (go_to T m page x m c) (go_to T m page x m d) ≡ go_to T m page x m (pick b c d)
  picked true c d = refl
  picked false c d = refl

  after_is : (i link : ℕ) → (after T m page x i link ≡ stuck → ⊥)
      → after T m page x i link ≡ go_to T m page x m (pick (repeats (opener_of (stmt_kind T link))) link (i + 1))
  unfolding after
  after_is i link g = opener_is T link _ g ∙ picked (repeats (opener_of (stmt_kind T link))) link (i + 1)

  module _ (g : do_end T m page x ≡ stuck → ⊥) where
    the_end : Follows T (after T m page x) (stmt_count T) x.statement
    the_end = follows T (after T m page x) (stmt_count T) x.statement (same_unstuck (sym end_does) g)

    pub end_linked : Linked T x.statement
    end_linked = record { unstuck = λ e. no_end the_end.end (sym the_end.is ∙ e) }
      where
        no_end : (i : ℕ) → ◌≡◌ {A = Outcome ℕ} (ok i) stuck → ⊥
        no_end i e = let q : ◌≡◌ {A = ℕ} 0 1 = cc in omega arith

    the_same : (i : ℕ) → ok i ≡ end_at T (stmt_count T) x.statement → i ≡ the_end.end
    the_same i h = same_end (h ∙ the_end.is)
      where
        same_end : {i j : ℕ} → ◌≡◌ {A = Outcome ℕ} (ok i) (ok j) → i ≡ j
        same_end e = cc

    goes_after : after T m page x the_end.end (stmt_link T the_end.end) ≡ stuck → ⊥
    goes_after = same_unstuck (sym (end_does ∙ the_end.gives)) g

    pub end_opener : (i : ℕ) → ok i ≡ end_at T (stmt_count T) x.statement → stmt_link T i < stmt_count T
    unfolding after
    end_opener i h = rw (the_same i h) (opener_there T (stmt_link T the_end.end) _ goes_after)

    pub end_goes : (i : ℕ) → ok i ≡ end_at T (stmt_count T) x.statement
        → do_end T m page x ≡ go_to T m page x m (pick (repeats (opener_of (stmt_kind T (stmt_link T i)))) (stmt_link T i) (i + 1))
    end_goes i h =
        rw (the_same i h)
        (end_does ∙ (the_end.gives ∙ after_is the_end.end (stmt_link T the_end.end) goes_after))

-- ---- the laws of `next`
module _ (k a b r : ℕ) where
  pub next_while : k ≡ 7 → r ≡ a → r ≡ pick (repeats (opener_of k)) a b
  unfolding opener_of repeats
  next_while e h = rw (e, h)

  pub next_cycle : k ≡ 9 → r ≡ a → r ≡ pick (repeats (opener_of k)) a b
  unfolding opener_of repeats
  next_cycle e h = rw (e, h)

  pub next_on : (k ≡ 7 → ⊥) → (k ≡ 9 → ⊥) → r ≡ b → r ≡ pick (repeats (opener_of k)) a b
  unfolding opener_of repeats
  next_on n m h =
      cases (eqb k 8) (λ e. rw (ne_eqb k 7 n, e, h)) (λ e. rw (ne_eqb k 7 n, e, ne_eqb k 9 m, h))

pub ruleset nexts = (next_while, next_cycle, next_on)

-- ---- the laws of `skip` and `end_arm`
module _ (t m p : List ℕ) (x : Context) (h : Standing t m p x) where
  pub skip_returns : stmt_kind (decoded t) x.statement ≡ 0 → (m1 : List ℕ)
      → Becomes m1 (update (memory_of m) (statement_at x.process) (x.statement + 1))
      → Stepped 0 m1 p (statement_step (decoded t) (memory_of m) (memory_of p) (context_in x))
  unfolding go_on go_to context_in
  skip_returns e m1 i =
      stepped (decoded t) m p m1 p (context_in x) 0 _ (memory_of p)
      (performs_skip (decoded t) (memory_of m) (memory_of p) (context_in x) h.unstuck e) i (stands_page t m p x h)

  module _ (l : 10 ≤ stmt_kind (decoded t) x.statement) (k : stmt_kind (decoded t) x.statement ≤ 11) where
    performs : perform (decoded t) (memory_of m) (memory_of p) (context_in x) (stmt_at (decoded t) x.statement)
        ≡ do_end (decoded t) (memory_of m) (memory_of p) (context_in x)
    unfolding context_in
    performs =
        cases (eqb (stmt_kind (decoded t) x.statement) 10)
        (λ e. performs_arm (decoded t) (memory_of m) (memory_of p) (context_in x) h.unstuck (eqb-true (stmt_kind (decoded t) x.statement) 10 e))
        (λ e. performs_end (decoded t) (memory_of m) (memory_of p) (context_in x) h.unstuck (let q = eqb-false (stmt_kind (decoded t) x.statement) 10 e in omega arith))

    unstuck_end : do_end (decoded t) (memory_of m) (memory_of p) (context_in x) ≡ stuck → ⊥
    unstuck_end = same_unstuck (sym performs) h.unstuck

    pub arms_linked : Linked (decoded t) x.statement
    unfolding context_in
    arms_linked = end_linked (decoded t) (memory_of m) (memory_of p) (context_in x) unstuck_end

    module _ (i : ℕ) (d : ArmsEnd (decoded t) x.statement i) where
      pub end_small : i < 65535
      end_small = let b = d.below in let s = h.statements in omega arith

      pub opener_small : (j : ℕ) → Field (stmt_link (decoded t) i) j → j < 65535
      unfolding context_in
      opener_small j hj =
          let b = end_opener (decoded t) (memory_of m) (memory_of p) (context_in x) unstuck_end i d.is in
          let s = h.statements in let e = hj.is in omega arith

      pub end_returns : (j v c : ℕ) → Field (stmt_link (decoded t) i) j → Field (stmt_kind (decoded t) j) v
          → c ≡ pick (repeats (opener_of v)) j (i + 1) → (m1 : List ℕ)
          → Becomes m1 (update (memory_of m) (statement_at x.process) c)
          → Stepped 0 m1 p (statement_step (decoded t) (memory_of m) (memory_of p) (context_in x))
      unfolding go_to context_in
      end_returns j v c hj hv hc m1 q =
          let e : c ≡ pick (repeats (opener_of (stmt_kind (decoded t) (stmt_link (decoded t) i)))) (stmt_link (decoded t) i) (i + 1) = rw (hc, hv.is, hj.is) in
          stepped (decoded t) m p m1 p (context_in x) 0 _ (memory_of p)
          (performs ∙ end_goes (decoded t) (memory_of m) (memory_of p) (context_in x) unstuck_end i d.is) (rw e at q) (stands_page t m p x h)

pub ruleset ends = (stands_lent, stands_small, skip_returns, arms_linked, end_small, opener_small, end_returns)
