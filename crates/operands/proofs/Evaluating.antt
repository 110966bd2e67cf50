-- The retrieval of a variable that is not stuck, and which expressions have several words. Assumes nothing.
use Prim.Native.Nat.{ℕ, ◌<◌, ◌≤◌}
use mathlib.Core.Path.{◌≡◌, refl, sym, subst, ◌∙◌}
use mathlib.Core.Bool.{true, false}
use mathlib.Core.List.{List}
use lib.Dec.{eqb, leb}
use native.Mathlib.Omega.{arith}
use borrow.Author.Tests.{eqb-true, leb-false}
use Rattle.basics.specs.Cases.{cases}
use Rattle.basics.proofs.Bools.{no_true}
use Rattle.table.specs.Table.{Table}
use Rattle.table.specs.Entries.{node_count, node_kind, node_p, node_q, node_v}
use Rattle.types.specs.Types.{unary_type, binary_type, type_of}
use Rattle.numbers.specs.Nodes.{Variable, Expression}
use Rattle.numbers.specs.Ranges.{in_range}
use Rattle.typing.specs.Typing.{typed}
use Rattle.numbers.proofs.OperandPromise.{constant_type, value_variable, unary_operand, binary_left, transfer_type}
use Rattle.typing.proofs.Promise as typing
use Rattle.sizes.specs.Sizes.{words_of}
use Rattle.words.specs.Values.{failure_number}
use Rattle.words.specs.declared.values.Failure.{Failure}
use Rattle.machine.specs.Memory.{memory_of, words_at}
use Rattle.machine.specs.Outcomes.{ok, fail, place, value, on_place}
use Rattle.machine.specs.Variables.{fits}
use Rattle.machine.specs.Operands.{retrieved}
use Rattle.code.specs.Code.{decoded}
use Rattle.operands.specs.declared.Context.{Context}
use Rattle.std.specs.Prelude.{Result, Ok, Err}
use Rattle.operands.specs.Answers.{single, Unstuck, Evaluable, Retrieval, Retrieved}
use Rattle.operands.specs.Ready.{context_in, Ready}
use Rattle.operands.proofs.Nodes.{is_retrieve, type_constant, type_retrieve, type_unary, type_binary, type_transfer}
use Rattle.operands.proofs.Typed.{below_eight}
use Rattle.operands.proofs.OneWords.{true_one, one_standard}
use Rattle.operands.proofs.Yielding.{first_place}
use Rattle.operands.proofs.Selecting.{out, Sel, selected_fits}

-- node n is an expression that can be evaluated
abbrev pub Ev : List ℕ → List ℕ → List ℕ → Context → ℕ → Type 0
Ev t m p x n = Evaluable (decoded t) (memory_of m) (memory_of p) (context_in x) n

-- node n retrieves the variable of node v (8.7)
module _ (t m p : List ℕ) (x : Context) (h : Ready t m p x) (n : ℕ) (c : Retrieval (decoded t) (memory_of m) (memory_of p) (context_in x) n) (v : ℕ) (hv : v ≡ node_p (decoded t) n) where
  the_retrieve : out t m p x n ≡ on_place (out t m p x v) (λ a τ. retrieved (decoded t) (memory_of m) (memory_of p) (context_in x) a τ)
  the_retrieve = is_retrieve (decoded t) (memory_of m) (memory_of p) (context_in x) n c.evaluable.expression.below h.ranged c.kind ∙ rw hv

  got_variable : Variable (decoded t) n v
  got_variable = rw hv (value_variable (decoded t) h.ranged n c.evaluable.expression.below c.kind)

  pub got_selectable : Sel t m p x v
  got_selectable =
      let b = got_variable in
      let l = c.evaluable.expression.below in
      record {
        variable = record { below = omega (arith, b.below); low = b.low; high = b.high };
        unstuck = first_place _ _ (subst Unstuck the_retrieve c.evaluable.unstuck);
      }

  pub got_type : type_of (decoded t) n ≡ type_of (decoded t) v
  got_type = type_retrieve (decoded t) n c.evaluable.expression.below (rw hv at got_variable.below) c.kind ∙ rw hv

  -- the variable stands at location a
  module _ (a : ℕ) (ha : ok (place a (type_of (decoded t) v)) ≡ out t m p x v) where
    there_fits : fits (decoded t) a (type_of (decoded t) n) ≡ true
    there_fits = rw got_type (selected_fits t m p x h v got_selectable a ha)

-- the place of a value that is retrieved
module _ (t m p : List ℕ) (x : Context) (h : Ready t m p x) (n : ℕ) (c : Retrieval (decoded t) (memory_of m) (memory_of p) (context_in x) n) where
  pub stands_fits : (a : ℕ) → out t m p x (node_p (decoded t) n) ≡ ok (place a (type_of (decoded t) (node_p (decoded t) n))) → fits (decoded t) a (type_of (decoded t) n) ≡ true
  stands_fits a e = there_fits t m p x h n c (node_p (decoded t) n) refl a (sym e)

  -- as a place, or the failure
  module _ (l : Result ℕ Failure) (hl : Retrieved (decoded t) (memory_of m) (memory_of p) (context_in x) n l) where
    pub got_failed : (e : Failure) → l ≡ Err e → out t m p x n ≡ fail (failure_number e)
    got_failed e g = sym hl.is ∙ rw g

    module _ (a : ℕ) (ha : l ≡ Ok a) where
      pub got_value : out t m p x n ≡ ok (value (type_of (decoded t) n) (words_at (memory_of m) a (words_of (decoded t) (type_of (decoded t) n))))
      got_value = sym hl.is ∙ rw ha

      got_place : out t m p x (node_p (decoded t) n) ≡ ok (place a (type_of (decoded t) (node_p (decoded t) n)))
      got_place = hl.stands a ha

      pub got_fits : fits (decoded t) a (type_of (decoded t) n) ≡ true
      got_fits = stands_fits a got_place

-- an expression that has not one word is a retrieval or a string constant
module _ (T : Table) (m n : ℕ) (hr : in_range T ≡ true) (ht : typed T ≡ true) (l : n < node_count T) (b : Expression T m n) where
  module _ (w : single T n ≡ false) where
    not-one : (τ : ℕ) → type_of T n ≡ τ → τ ≤ 2 → ⊥
    not-one τ e g = no_true (sym w ∙ true_one T n (one_standard T n (omega arith)))

    by_unary : node_kind T n ≡ 5 → ⊥
    unfolding unary_type
    by_unary e =
        let d = type_unary T n l (unary_operand T hr n l e).below e in
        cases (eqb (node_q T n) 2)
        (λ q. not-one (type_of T (node_p T n)) (d ∙ rw q) (omega (arith, typing.not_operand T ht n l e (eqb-true (node_q T n) 2 q))))
        (λ q. not-one 0 (d ∙ rw q) (omega arith))

    by_binary : node_kind T n ≡ 6 → ⊥
    unfolding binary_type
    by_binary e =
        let d = type_binary T n l (binary_left T hr n l e).below e in
        cases (leb (node_v T n) 6)
        (λ q. not-one 1 (d ∙ rw q) (omega arith))
        (λ q.
        cases (leb (node_v T n) 11)
        (λ r. not-one 0 (d ∙ rw (q, r)) (omega arith))
        (λ r. not-one (type_of T (node_p T n)) (d ∙ rw (q, r)) (omega (arith, typing.logic_operands T ht n l e (omega (arith, leb-false (node_v T n) 11 r))))))

    pub only_retrieval : (node_kind T n ≡ 8 → ⊥) → node_kind T n ≡ 4
    only_retrieval n8 =
        four (node_kind T n) b.sort (below_eight T m n b n8)
        (λ e. not-one (node_p T n) (type_constant T n l e) (constant_type T hr n l e))
        by_unary by_binary
        (λ e. not-one (node_q T n) (type_transfer T n l e) (transfer_type T hr n l e))
      where
        four : (k : ℕ) → (1 ≤ k → 4 ≤ k) → k ≤ 7 → (k ≡ 0 → ⊥) → (k ≡ 5 → ⊥) → (k ≡ 6 → ⊥) → (k ≡ 7 → ⊥) → k ≡ 4
        four k g h n0 n5 n6 n7 = let i : 1 ≤ k = omega arith in let j = g i in omega arith
