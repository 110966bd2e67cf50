-- The arguments of a call, gathered one after the other. Assumes nothing.
use Prim.Native.Nat.{ℕ, suc, ◌+◌, ◌-◌, ◌<◌, ◌≤◌}
use mathlib.Core.Path.{◌≡◌, refl, sym, ap, ◌∙◌}
use mathlib.Core.List.{List, [], ◌++◌, append_assoc, append-nil}
use lib.ListN.{length}
use lib.Dec.{eqb}
use native.Mathlib.Omega.{arith}
use Rattle.std.specs.Prelude.{Result, Ok, Err}
use Rattle.table.specs.Table.{Table}
use Rattle.table.specs.Entries.{arg_node, first_var, params}
use Rattle.words.specs.Values.{failure_number}
use Rattle.words.specs.declared.values.Failure.{Failure}
use Rattle.machine.specs.Memory.{Memory}
use Rattle.machine.specs.Outcomes.{Outcome, ok, fail, stuck, and_then}
use Rattle.machine.specs.Context.{Context}
use Rattle.machine.specs.Calls.{argument, argument_words, arguments}
use Rattle.engine.specs.Making.{HasRow}
use Rattle.evaluation.specs.Acting.{ArgumentRows}
use Rattle.calls.specs.Gathering.{Buffer, Added, Adds, Passing, Calling, joined, Gathering}
use Rattle.calls.proofs.Putting.{appended_none, appended_more, appended_buffer}
use Rattle.calls.proofs.Passing.{need_is, kept}

joined-none : (o : Outcome (List ℕ)) → joined [] o ≡ o
unfolding joined and_then
joined-none (ok vs) = refl
joined-none (fail k) = refl
joined-none stuck = refl

joined_fail : (us : List ℕ) (o r : Outcome (List ℕ)) (k : ℕ) → o ≡ fail k → joined us (and_then o λ vs. and_then r λ ws. ok (vs ++ ws)) ≡ fail k
unfolding joined and_then
joined_fail us o r k e = rw e

joined-more : (us vs : List ℕ) (o r : Outcome (List ℕ)) → o ≡ ok vs
    → joined us (and_then o λ vs. and_then r λ ws. ok (vs ++ ws)) ≡ joined (us ++ vs) r
unfolding joined and_then
joined-more us vs o (ok ws) e = rw e (ap ok (sym (append_assoc us vs ws)))
joined-more us vs o (fail k) e = rw e
joined-more us vs o stuck e = rw e

joined_stuck : (us : List ℕ) (o r : Outcome (List ℕ)) → o ≡ stuck → joined us (and_then o λ vs. and_then r λ ws. ok (vs ++ ws)) ≡ stuck
unfolding joined and_then
joined_stuck us o r e = rw e

module _ (T : Table) (m page : Memory) (x : Context) where
  next_words : (d v c i : ℕ) → i < d
      → argument_words T m page x (d - i) (v + i) (c + i)
      ≡ (and_then (argument T m page x (v + i) (c + i)) λ us. and_then (argument_words T m page x (d - (i + 1)) (v + (i + 1)) (c + (i + 1))) λ vs. ok (us ++ vs))
  unfolding argument_words
  next_words d v c i l =
      let e : d - i ≡ suc (d - (i + 1)) = omega arith in
      let a : v + i + 1 ≡ v + (i + 1) = omega arith in
      let b : c + i + 1 ≡ c + (i + 1) = omega arith in simp (e, a, b)

  module _ (b c d : ℕ) (h : Calling T m page x b c d) where
    arguments_are : arguments T m page x b c d ≡ argument_words T m page x d (first_var T b) c
    unfolding arguments
    arguments_are = need_is (eqb d (params T b)) _ h.unstuck

    words_unstuck : argument_words T m page x d (first_var T b) c ≡ stuck → ⊥
    words_unstuck = kept _ _ arguments_are h.unstuck

    module _ (v : ℕ) (hv : v ≡ first_var T b) (l₀ : List ℕ) where
      pub gather_none : length l₀ ≡ 256 → Gathering T m page x v c d l₀ l₀ 0 0
      gather_none long =
          let e : d - 0 ≡ d = omega arith in
          let p : v + 0 ≡ v = omega arith in
          let q : c + 0 ≡ c = omega arith in
          record {
            upto = omega arith;
            words = [];
            rest = rw (e, p, q) (joined-none (argument_words T m page x d v c));
            put = appended_none l₀ 0 (record { long = long; most = omega arith });
          }

      module _ (l : List ℕ) (i n : ℕ) (g : Gathering T m page x v c d l₀ l i n) where
        pub gather_buffer : Buffer l n
        gather_buffer = appended_buffer l₀ 0 g.words l n g.put

        pub gather_all : d ≤ i → Added l₀ 0 l n (arguments T m page x b c d)
        unfolding argument_words joined and_then
        gather_all k =
            let e : d - i ≡ 0 = omega arith in
            record { words = g.words; is = arguments_are ∙ rw (← hv) (sym g.rest ∙ rw (e, append-nil g.words)); put = g.put }

        module _ (k : i < d) where
          rest-is : joined g.words (and_then (argument T m page x (v + i) (c + i)) λ us. and_then (argument_words T m page x (d - (i + 1)) (v + (i + 1)) (c + (i + 1))) λ vs. ok (us ++ vs))
              ≡ argument_words T m page x d v c
          rest-is = rw (← next_words d v c i k) g.rest

          pub gather_passing : Passing T m page x (v + i) (c + i)
          gather_passing =
              record {
                suits = rw hv (h.fit.each i k);
                unstuck = λ e. words_unstuck (rw (← hv) (sym rest-is ∙ joined_stuck g.words _ _ e));
              }

          pub gather_row : (u : List ℕ) → ArgumentRows T u c d → HasRow T u (arg_node T (c + i))
          gather_row u r = r i k

          pub gather_fails : (r : Result ℕ Failure) (f : Failure) (q : List ℕ) → Adds r l n q (argument T m page x (v + i) (c + i)) → r ≡ Err f
              → arguments T m page x b c d ≡ fail (failure_number f)
          gather_fails r f q a e =
              let u : argument T m page x (v + i) (c + i) ≡ fail (failure_number f) = rw e at a in
              arguments_are ∙ rw (← hv) (sym rest-is ∙ joined_fail g.words _ _ _ u)

          pub gather_more : (r : Result ℕ Failure) (j : ℕ) (q : List ℕ) → Adds r l n q (argument T m page x (v + i) (c + i)) → r ≡ Ok j
              → Gathering T m page x v c d l₀ q (i + 1) j
          gather_more r j q a e =
              let u : Added l n q j (argument T m page x (v + i) (c + i)) = rw e at a in
              record {
                upto = omega arith;
                words = g.words ++ u.words;
                rest = sym (joined-more g.words u.words _ _ u.is) ∙ rest-is;
                put = appended_more l₀ 0 g.words l u.words q n j g.put u.put;
              }

pub ruleset gathers = (gather_none, gather_buffer, gather_all, gather_passing, gather_row, gather_fails, gather_more)
