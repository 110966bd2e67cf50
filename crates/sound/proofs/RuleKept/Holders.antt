-- THE RULE is kept where a process takes variables or gives them up, and at the end of its own block. Assumes nothing.
use Prim.Native.Nat.{ℕ, ◌≤◌}
use mathlib.Core.Path.{◌≡◌, refl, sym, ◌∙◌}
use mathlib.Core.Bool.{true, false}
use native.Mathlib.Omega.{arith}
use lib.Dec.{eqb}
use borrow.Author.Tests.{eqb-true, eqb-false}
use Rattle.basics.specs.Cases.{cases}
use Rattle.table.specs.Table.{Table}
use Rattle.machine.specs.Memory.{Memory, update}
use Rattle.machine.specs.Layout.{status_at, statement_at, frame_at, works_at, holder_at, depth_at, created_at}
use Rattle.machine.specs.Entries.{stmt_at}
use Rattle.machine.specs.Rule.{may_wait, worked, rule}
use Rattle.machine.proofs.Memories.{update_at}
use Rattle.verdict.specs.Accepted.{Accepted}
use Rattle.sound.specs.Claims.{PlaceLaws, Started}
use Rattle.sound.specs.InUse.{Created}
use Rattle.sound.specs.Ruled.{Held, held, given, Worked, Ruled}
use Rattle.sound.proofs.Rule.RuleRecord.{ruled, rules}
use Rattle.sound.proofs.Rule.Chains.{created_low, created_high}
use Rattle.sound.proofs.Rule.Processes.{alike_stays}
use Rattle.sound.proofs.RuleKept.RecordWord.{set_other, set_word, set_unlike, set_area, set_carries, set_ruled, set_own, set_failed, passing_holds, status_kept}
use Rattle.sound.proofs.Rule.WorkedProcesses.{worked_own, worked_created, held_same, given_same}

module _ (T : Table) (ok : Accepted T) (L : PlaceLaws T) (m : Memory) (h : Ruled T m) where
  -- the variables of a process are held by another, or by none, and each process that works on them holds them or has given them up
  module _ (p v : ℕ) (a : 1 ≤ p) (b : p ≤ m created_at) (g : v ≤ m created_at)
      (o : (q : ℕ) → 1 ≤ q → q ≤ m created_at → m (status_at q) ≡ 2 → Worked T m q p → Held T m q p → Held T (update m (holder_at p) v) q p) where
    holder_held : (q : ℕ) → 1 ≤ q → q ≤ m created_at → m (status_at q) ≡ 2 → (x : ℕ) → Created m x → Worked T m q x → Held T m q x → Held T (update m (holder_at p) v) q x
    holder_held q l r s x c w k =
        let f = set_unlike m p 6 v a (omega arith) (λ z. omega arith) (λ z. omega arith) q in
        cases (eqb x p)
        (λ e. let i : x ≡ p = eqb-true x p e in rw i (o q l r s (rw i at w) (rw i at k)))
        (λ e. held_same T m (update m (holder_at p) v) q x
        (set_other m p 6 v a (omega arith) (λ z. omega arith) (λ z. omega arith) x 6 c.least (omega arith) (eqb-false x p e))
        (f 5 l (omega arith) (λ z. omega arith)) (f 2 l (omega arith) (λ z. omega arith)) k)

    pub holder_kept : Ruled T (update m (holder_at p) v)
    holder_kept =
        let x = h.process p a b in
        let w = set_word m p 6 v a (omega arith) (λ z. omega arith) (λ z. omega arith) in
        let e0 = w 0 (λ z. omega arith) in
        let e6 = update_at m (holder_at p) v (holder_at p) refl in
        let lo = x.low in
        let hi = x.high in
        set_ruled m p 6 v a (omega arith) (λ z. omega arith) (λ z. omega arith) T ok L h b (λ z. absurd (omega arith))
        (set_own m p 6 v a (omega arith) (λ z. omega arith) (λ z. omega arith) T ok L h b (λ z. absurd (omega arith)) (omega arith) (omega arith) (λ z. let y = x.first_status z in omega arith) (omega arith)
        (λ z. rw (w 7 (λ z. omega arith), w 3 (λ z. omega arith), w 5 (λ z. omega arith), w 2 (λ z. omega arith), w 4 (λ z. omega arith)) (x.chain (sym e0 ∙ z)))
        (λ z y u.
        let s : m (status_at p) ≡ 2 = sym e0 ∙ z in
        let t : Worked T m p y = rw (w 7 (λ z. omega arith), w 3 (λ z. omega arith), w 5 (λ z. omega arith)) at u in
        holder_held p a b s y (worked_created T m p a b (x.chain s) y t) t (x.holding s y t)))
        (λ q l r d s. holder_held q l r s)
        (set_failed m p 6 v a (omega arith) (λ z. omega arith) (λ z. omega arith) T ok L h b (λ z. absurd (omega arith)) (λ z. omega arith))
        (λ z. omega arith)

  -- a process that does not hold them stays as it was
  holder_given : (p v q : ℕ) → 1 ≤ p → 1 ≤ q → (m (holder_at p) ≡ q → ⊥) → Held T m q p → Held T (update m (holder_at p) v) q p
  holder_given p v q a l d k =
      let f = set_unlike m p 6 v a (omega arith) (λ z. omega arith) (λ z. omega arith) q in
      given_same T m (update m (holder_at p) v) q p d (f 5 l (omega arith) (λ z. omega arith)) (f 2 l (omega arith) (λ z. omega arith)) k

  -- what a process works on stays when holders change
  pub holder_worked : (r v p : ℕ) → 1 ≤ r → 1 ≤ p → p ≤ m created_at → m (status_at p) ≡ 2 → (x : ℕ) → worked (update m (holder_at r) v) p (m (depth_at p)) (m (frame_at p)) (m (works_at p)) x ≡ worked m p (m (depth_at p)) (m (frame_at p)) (m (works_at p)) x
  holder_worked r v p a c d s =
      let u = h.most in
      (alike_stays T ok L m (update m (holder_at r) v) (set_carries m r 6 v a (omega arith) (λ z. omega arith) (λ z. omega arith) (λ z. absurd (omega arith))) p c d (h.process p c d)
      (λ j l g. set_area m r 6 v a (omega arith) (λ z. omega arith) (λ z. omega arith) p j c (omega arith) g) ((h.process p c d).chain s)).working

  -- process p takes the variables of r, which no other holds
  pub take_kept : (r p : ℕ) → 1 ≤ r → r ≤ m created_at → p ≤ m created_at → ((q : ℕ) → 1 ≤ q → m (holder_at r) ≡ q → q ≡ p) → Ruled T (update m (holder_at r) p)
  take_kept r p a b d o =
      holder_kept r p a b d (λ q l g s w k.
      cases (eqb q p)
      (λ e. held (update_at m (holder_at r) p (holder_at r) refl ∙ sym (eqb-true q p e)))
      (λ e. holder_given r p q a l (λ z. eqb-false q p e (o q l z)) k))

  -- the variables of r, which only p holds, are held by none, where p does not work on them, or works on them at a when or cycle
  pub give_kept : (r p : ℕ) → 1 ≤ r → r ≤ m created_at → 1 ≤ p → ((q : ℕ) → 1 ≤ q → m (holder_at r) ≡ q → q ≡ p)
      → (m (status_at p) ≡ 2 → Worked T m p r → (r ≡ m (works_at p)) × (may_wait (stmt_at T (m (statement_at p))) ≡ true)) → Ruled T (update m (holder_at r) 0)
  give_kept r p a b c o y =
      holder_kept r 0 a b (omega arith) (λ q l g s w k.
      cases (eqb q p)
      (λ e. let i : q ≡ p = eqb-true q p e in
      let z = y (rw i at s) (rw i at w) in
      let f = set_unlike m r 6 0 a (omega arith) (λ z. omega arith) (λ z. omega arith) p in
      rw i (given (rw (f 5 c (omega arith) (λ z. omega arith)) z.0) (rw (f 2 c (omega arith) (λ z. omega arith)) z.1)))
      (λ e. holder_given r 0 q a l (λ z. eqb-false q p e (o q l z)) k))

-- THE END of a process's own block
pub end_rule : (T : Table) → Accepted T → PlaceLaws T → (m : Memory) (p : ℕ) → Started T m p → may_wait (stmt_at T (m (statement_at p))) ≡ false → rule T (update (update m (status_at p) 3) (holder_at p) 0) ≡ true
end_rule T ok L m p s n =
    let h = ruled T m s.ruled in
    let a = created_low m p s.created in
    let b = created_high m p s.created in
    let e = (set_carries m p 0 3 a (omega arith) (λ z. omega arith) (λ z. omega arith) (λ y z. omega arith)).grows in
    let e6 = set_word m p 0 3 a (omega arith) (λ z. omega arith) (λ z. omega arith) 6 (λ z. omega arith) in
    let e0 = update_at m (status_at p) 3 (status_at p) refl in
    let own = passing_holds T ok L m h p a b s.started n p (worked_own T m p ((h.process p a b).chain s.started)) in
    rules T (update (update m (status_at p) 3) (holder_at p) 0)
    (give_kept T ok L (update m (status_at p) 3) (status_kept T ok L m h p a b) p p a (omega arith) a (λ q l z. sym (sym (e6 ∙ own) ∙ z)) (λ z. absurd (omega arith)))
