-- Arms, ends and openers by their kinds, where what follows is not stuck. Assumes nothing.
use Prim.Native.Nat.{ℕ, ◌<◌}
use mathlib.Core.Path.{◌≡◌, refl, sym, ◌∙◌}
use mathlib.Core.Bool.{Bool, true, false}
use lib.Dec.{eqb, ltb}
use native.Mathlib.Omega.{arith}
use borrow.Author.Tests.{eqb-true, eqb-false, ltb-true, lt-ltb}
use Rattle.basics.specs.Cases.{cases}
use Rattle.table.specs.Table.{Table}
use Rattle.table.specs.Entries.{stmt_count, stmt_kind, stmt_a, stmt_link}
use Rattle.words.specs.Outcomes as words
use Rattle.machine.specs.Outcomes.{Outcome, ok, fail, stuck, and_then, need, Operand, place, value, text, valued, on_value, on_word, word_of}
use Rattle.machine.specs.Entries.{Opener, statement_of, stmt_at}
use Rattle.machine.proofs.Entries.{statement_cases}
use Rattle.machine.specs.Statements.{on_arms, on_opener}
use Rattle.operands.specs.Answers.{first_word, Unstuck, goes, fails}
use Rattle.operands.proofs.Yielding.{failed}
use Rattle.guards.specs.Guards.{opener_of}

-- what is not stuck came through its tests
pub through : {A : Type 0} (b : Bool) (o : Outcome A) → (need b o ≡ stuck → ⊥) → b ≡ true
unfolding need
through true o g = refl
through false o g = absurd (g refl)

pub need_is : {A : Type 0} (b : Bool) (o : Outcome A) → b ≡ true → need b o ≡ o
unfolding need
need_is b o e = rw e

pub first_outcome : {A B : Type 0} (o : Outcome A) (f : A → Outcome B) → (and_then o f ≡ stuck → ⊥) → o ≡ stuck → ⊥
unfolding and_then
first_outcome o f g e = g (rw e)

pub same_unstuck : {A : Type 0} {o u : Outcome A} → o ≡ u → (u ≡ stuck → ⊥) → o ≡ stuck → ⊥
same_unstuck e g q = g (sym e ∙ q)

-- a word that is asked for
module _ {A : Type 0} (τ : ℕ) (f : ℕ → Outcome A) where
  pub word_unstuck : (o : Outcome Operand) → (on_word o τ f ≡ stuck → ⊥) → Unstuck o
  unfolding on_word on_value and_then
  word_unstuck (ok x) g = goes
  word_unstuck (fail k) g = fails
  word_unstuck stuck g = absurd (g refl)

  pub word_failed : (o : Outcome Operand) (k : ℕ) → words.fail k ≡ first_word o → on_word o τ f ≡ fail k
  unfolding on_word on_value and_then
  word_failed o k h = let q = failed o k h in rw q

  pub word_given : (o : Outcome Operand) (w : ℕ) → words.word w ≡ first_word o → (on_word o τ f ≡ stuck → ⊥) → on_word o τ f ≡ f w
  unfolding on_word on_value and_then valued first_word need
  word_given (ok (place a σ)) w h g = absurd (g refl)
  word_given (ok (value σ ws)) w h g =
      let b = through (eqb σ τ) (f (word_of ws)) g in let e : w ≡ word_of ws = cc in rw (b, e)
  word_given (ok (text ws)) w h g = absurd (g refl)
  word_given (fail k) w h g = let q : ◌≡◌ {A = ℕ} 0 1 = cc in absurd (omega arith)
  word_given stuck w h g = absurd (g refl)

-- ---- statements by their kinds

module _ {A : Type 0} (T : Table) (i : ℕ) (f : ℕ → ℕ → Outcome A) (g : ℕ → Outcome A) where
  pub at_arm : i < stmt_count T → stmt_kind T i ≡ 10 → on_arms (stmt_at T i) f g ≡ f (stmt_a T i) (stmt_link T i)
  unfolding stmt_at statement_of on_arms
  at_arm l e = rw (lt-ltb i (stmt_count T) l, e)

  pub at-end : i < stmt_count T → stmt_kind T i ≡ 11 → on_arms (stmt_at T i) f g ≡ g (stmt_link T i)
  unfolding stmt_at statement_of on_arms
  at-end l e = rw (lt-ltb i (stmt_count T) l, e)

  pub arms_there : (on_arms (stmt_at T i) f g ≡ stuck → ⊥) → i < stmt_count T
  unfolding stmt_at on_arms
  arms_there n =
      cases (ltb i (stmt_count T)) (λ e. ltb-true i (stmt_count T) e) (λ e. absurd (n (rw e)))

  no_arms : (k a b c d l : ℕ) → (k ≡ 10 → ⊥) → (k ≡ 11 → ⊥) → on_arms (statement_of k a b c d l) f g ≡ stuck
  unfolding on_arms
  no_arms k a b c d l n m =
      statement_cases (λ s. on_arms s f g ≡ stuck) k a b c d l
      (λ e. refl) (λ e. refl) (λ e. refl) (λ e. refl) (λ e. refl) (λ e. refl) (λ e. refl) (λ e. refl) (λ e. refl) (λ e. refl)
      (λ e. absurd (n e)) (λ e. absurd (m e)) (λ e. refl) (λ e. refl) refl

  -- what is not an arm is the end
  pub end_kind : (on_arms (stmt_at T i) f g ≡ stuck → ⊥) → (stmt_kind T i ≡ 10 → ⊥) → stmt_kind T i ≡ 11
  unfolding stmt_at
  end_kind n m =
      cases (eqb (stmt_kind T i) 11)
      (λ e. eqb-true (stmt_kind T i) 11 e)
      (λ e. absurd (n (rw (lt-ltb i (stmt_count T) (arms_there n)) (no_arms (stmt_kind T i) _ _ _ _ _ m (eqb-false (stmt_kind T i) 11 e)))))

  pub end_is : (on_arms (stmt_at T i) f g ≡ stuck → ⊥) → (stmt_kind T i ≡ 10 → ⊥) → on_arms (stmt_at T i) f g ≡ g (stmt_link T i)
  end_is n m = at-end (arms_there n) (end_kind n m)

-- an opener is followed by its first arm
pub opener_follows : {A : Type 0} (T : Table) (i : ℕ) (o : Outcome A)
    → (on_arms (stmt_at T i) (λ g l. o) (λ l. stuck) ≡ stuck → ⊥) → on_arms (stmt_at T i) (λ g l. o) (λ l. stuck) ≡ o
opener_follows T i o g =
    cases (eqb (stmt_kind T i) 10)
    (λ e. at_arm T i _ _ (arms_there T i _ _ g) (eqb-true (stmt_kind T i) 10 e))
    (λ e. absurd (g (end_is T i _ _ g (eqb-false (stmt_kind T i) 10 e))))

module _ {A : Type 0} (T : Table) (i : ℕ) (f : Opener → Outcome A) where
  pub opener_there : (on_opener (stmt_at T i) f ≡ stuck → ⊥) → i < stmt_count T
  unfolding stmt_at on_opener
  opener_there n =
      cases (ltb i (stmt_count T)) (λ e. ltb-true i (stmt_count T) e) (λ e. absurd (n (rw e)))

  opener-of : (k a b c d l : ℕ) → (on_opener (statement_of k a b c d l) f ≡ stuck → ⊥) → on_opener (statement_of k a b c d l) f ≡ f (opener_of k)
  unfolding on_opener opener_of
  opener-of k a b c d l =
      statement_cases (λ s. (on_opener s f ≡ stuck → ⊥) → on_opener s f ≡ f (opener_of k)) k a b c d l
      (λ e n. absurd (n refl)) (λ e n. absurd (n refl)) (λ e n. absurd (n refl)) (λ e n. absurd (n refl)) (λ e n. absurd (n refl)) (λ e n. absurd (n refl))
      (λ e n. rw e) (λ e n. rw e) (λ e n. rw e) (λ e n. rw e)
      (λ e n. absurd (n refl)) (λ e n. absurd (n refl)) (λ e n. absurd (n refl)) (λ e n. absurd (n refl)) (λ n. absurd (n refl))

  pub opener_is : (on_opener (stmt_at T i) f ≡ stuck → ⊥) → on_opener (stmt_at T i) f ≡ f (opener_of (stmt_kind T i))
  unfolding stmt_at
  opener_is n =
      let l = lt-ltb i (stmt_count T) (opener_there n) in
      rw l (opener-of (stmt_kind T i) _ _ _ _ _ (rw l at n))
