-- A step in a state, and in its twin that has every word marked. Assumes nothing.
use Prim.Native.Nat.{ℕ, ◌+◌, ◌≤◌, ◌<◌}
use mathlib.Core.Path.{◌≡◌, refl, sym, ◌∙◌}
use mathlib.Core.Bool.{Bool, true}
use native.Mathlib.Omega.{arith}
use lib.Dec.{eqb, leb}
use borrow.Author.Tests.{eqb-true, eqb-false, ne_eqb, leb-true}
use Rattle.basics.specs.Choice.{pick, either, between}
use Rattle.basics.specs.Cases.{cases}
use Rattle.basics.proofs.Bools.{both_l, both_false_l}
use Rattle.table.specs.Table.{Table}
use Rattle.machine.specs.Memory.{Memory, update}
use Rattle.machine.specs.Layout.{record_at, status_at, frame_at, works_at, holder_at, depth_at, created_at, failure_at, link_at}
use Rattle.machine.specs.Outcomes.{Outcome}
use Rattle.machine.specs.Entries.{stmt_at}
use Rattle.machine.specs.Context.{Context, block_of, context_of, contextual}
use Rattle.machine.specs.Statements.{Effect, perform}
use Rattle.machine.specs.Step.{done, settled, answers_only, performs, proceeds, exists, turn, step}
use Rattle.machine.specs.Rule.{rule}
use Rattle.machine.proofs.Tests.{range_low, range_high}
use Rattle.sound.proofs.Rule.RuleRecord.{ruled}
use Rattle.sound.proofs.StartValues.TwinOutcomes.{Meets, gives, fails, strays, unset, m_test, m_pick}
use Rattle.sound.proofs.StartValues.Twins.{Twin, at_record, at_area, twin_word}
use Rattle.sound.proofs.StartValues.TwinStatements.{Alike, alike, performs_alike}

module _ (T : Table) (m s page : Memory) (p : ℕ) (t : Twin m s) (meets : rule T m ≡ true) where
  -- ---- the context

  in_context : (x y : Context) → y ≡ x → Meets Alike (perform T m page x (stmt_at T x.statement)) (perform T s page x (stmt_at T x.statement))
      → Meets Alike (perform T m page x (stmt_at T x.statement)) (perform T s page y (stmt_at T y.statement))
  in_context x y e h = rw e h

  module _ (some : 1 ≤ p) (most : p ≤ 64) where
    own : (k : ℕ) → k < 10 → s (record_at p k) ≡ m (record_at p k)
    own k l = at_record m s t p k (omega arith)

    -- its frame, where it has one, lies in its area
    abbrev framed : Bool
    framed = pick (eqb (m (depth_at p)) 0) true (leb (m (frame_at p) + 4) 256)

    called_same : framed ≡ true → (m (depth_at p) ≡ 0 → ⊥) → m (frame_at p) + 4 ≤ 256
    called_same e d = leb-true _ 256 (rw (ne_eqb _ 0 d) at e)

    block_same : framed ≡ true → block_of s p ≡ block_of m p
    unfolding block_of link_at
    block_same e =
        rw (own 7 (omega arith), own 1 (omega arith), own 3 (omega arith))
        (cases (eqb (m (depth_at p)) 0)
        (λ z. rw z)
        (λ z. let l = called_same e (eqb-false _ 0 z) in rw (z, at_area m s t p (m (frame_at p) + 3) most (omega arith))))

    context_same : framed ≡ true → context_of s p ≡ context_of m p
    unfolding context_of
    context_same e = rw (own 2 (omega arith), block_same e, own 3 (omega arith), own 5 (omega arith))

    module _ (works : 1 ≤ m (works_at p)) (last : m (works_at p) ≤ 64) where
      contextual_same : contextual T s p ≡ contextual T m p
      unfolding contextual
      contextual_same =
          rw (own 7 (omega arith), own 3 (omega arith), own 5 (omega arith))
          (cases framed
          (λ e. rw (block_same e, at_record m s t (m (works_at p)) 1 (omega arith)))
          (λ e. both_false_l _ _ e ∙ sym (both_false_l _ _ e)))

      framed_first : contextual T m p ≡ true → framed ≡ true
      unfolding contextual
      framed_first e = both_l _ _ e

      performs_same : p ≤ m created_at → m (status_at p) ≡ 2 → 1 ≤ m created_at → m created_at ≤ 64 → Meets Alike (performs T m page p) (performs T s page p)
      unfolding performs context_of
      performs_same made begun one few =
          rw contextual_same
          (m_test Alike (contextual T m p) _ _ (λ e.
          let f = framed_first e in
          in_context (context_of m p) (context_of s p) (context_same f)
          (performs_alike T m s page (context_of m p) t some most works last few (called_same f) (((ruled T m meets).process p some made).chain begun)
          (stmt_at T (context_of m p).statement) one)))

    proceeds_same : p ≤ m created_at → m (status_at p) ≡ 2 → 1 ≤ m created_at → m created_at ≤ 64 → Meets Alike (proceeds T m page p) (proceeds T s page p)
    unfolding proceeds answers_only
    proceeds_same made begun one few =
        rw (own 5 (omega arith), at_record m s t 1 8 (omega arith))
        (m_test Alike (between 1 (m created_at) (m (works_at p))) _ _ (λ e.
        let a = range_low _ _ _ e in
        let b = range_high _ _ _ e in
        rw (at_record m s t (m (works_at p)) 6 (omega arith))
        (m_pick Alike (either (eqb (m (holder_at (m (works_at p)))) 0) (eqb (m (holder_at (m (works_at p)))) p)) _ _ _ _
        (λ h. performs_same a (omega arith) made begun one few) (λ h. gives (alike t)))))

    exists_same : p ≤ m created_at → 1 ≤ m created_at → m created_at ≤ 64 → Meets Alike (exists T m page p) (exists T s page p)
    unfolding exists answers_only
    exists_same made one few =
        rw (own 0 (omega arith))
        (m_pick Alike (eqb (m (status_at p)) 3) _ _ _ _ (λ e. gives (alike t)) (λ e.
        m_pick Alike (eqb (m (status_at p)) 1) _ _ _ _ (λ h. gives (alike t)) (λ h.
        m_test Alike _ _ _ (λ g. proceeds_same made (eqb-true _ 2 g) one few))))

  turn_same : Meets Alike (turn T m page p) (turn T s page p)
  unfolding turn answers_only
  turn_same =
      rw (at_record m s t 1 9 (omega arith), at_record m s t 1 8 (omega arith))
      (m_pick Alike (eqb (m failure_at) 0) _ _ _ _
      (λ e. m_test Alike (between 1 64 (m created_at)) _ _ (λ c.
      let one = range_low _ _ _ c in
      let few = range_high _ _ _ c in
      m_pick Alike (between 1 (m created_at) p) _ _ _ _
      (λ h. let a = range_low _ _ _ h in let b = range_high _ _ _ h in exists_same a (omega arith) b one few)
      (λ h. gives (alike t))))
      (λ e. m_test Alike _ _ _ (λ h. gives (alike t))))

  -- what the twin's step comes to
  pub record TwinStep (a : ℕ) (m' d : Memory) : Type 0 where
    pub state : Memory
    pub is : step T s page p ≡ done a state d
    pub twin : Twin m' state

  settled_same : (o u : Outcome Effect) → Meets Alike o u → settled s page u ≡ step T s page p → (a : ℕ) (m' d : Memory) → settled m page o ≡ done a m' d
      → (a ≡ 31 → ⊥) → TwinStep a m' d
  unfolding settled
  settled_same _ _ (gives (alike {a = b} {m = n} {s = r} {d = c} h)) e a m' d q k =
      let x : b ≡ a = cc in
      let y : n ≡ m' = cc in
      let z : c ≡ d = cc in
      record { state = r; is = sym e ∙ rw (x, z); twin = rw y at h }
  settled_same _ _ (fails {n = n}) e a m' d q k =
      let x : n ≡ a = cc in
      let y : update m failure_at n ≡ m' = cc in
      let z : page ≡ d = cc in
      record { state = update s failure_at n; is = sym e ∙ rw (x, z); twin = rw y at (twin_word m s t 1 9 n (omega arith)) }
  settled_same _ _ strays e a m' d q k = let x : ◌≡◌ {A = ℕ} 0 1 = cc in absurd (omega arith)
  settled_same _ _ unset e a m' d q k = let x : 31 ≡ a = cc in absurd (k (sym x))

  -- A STEP that does not answer 31 is the twin's step too
  pub twin_step : (a : ℕ) (m' d : Memory) → step T m page p ≡ done a m' d → (a ≡ 31 → ⊥) → TwinStep a m' d
  unfolding step
  twin_step a m' d e k = settled_same (turn T m page p) (turn T s page p) turn_same refl a m' d e k
