-- Variables and expressions in a state, and in its twin that has every word marked. Assumes nothing.
use Prim.Native.Nat.{ℕ, zero, suc, ◌+◌, ◌%◌, ◌≤◌, ◌<◌}
use mathlib.Core.Path.{◌≡◌, ap}
use mathlib.Core.Bool.{true, not}
use mathlib.Core.List.{List}
use native.Mathlib.Omega.{arith}
use native.Mathlib.Nat.{not-suc-le-zero}
use lib.Dec.{eqb, ltb}
use lib.ListN.{length}
use borrow.Author.Tests.{leb-true, ltb-true}
use Rattle.basics.specs.Cases.{cases}
use Rattle.basics.proofs.Bools.{both_l, both_r}
use Rattle.table.specs.Table.{Table}
use Rattle.table.specs.Entries.{owner, var_mode, var_type, arg_node, first_var}
use Rattle.types.specs.Types.{NodeType, numbered}
use Rattle.sizes.specs.Sizes.{words_of}
use Rattle.machine.specs.Memory.{Memory}
use Rattle.machine.specs.Layout.{locations}
use Rattle.machine.specs.Marks.{all_marked}
use Rattle.machine.specs.Outcomes.{Outcome, ok, stuck, need, Operand, place, on_typed}
use Rattle.machine.specs.Entries.{Binary, Node, constant, whole, field, element, retrieve, unary, binary, transfer, string, no_node, node_at, type_at}
use Rattle.machine.specs.Context.{Context}
use Rattle.machine.specs.Variables.{belongs, offset_of, fits}
use Rattle.machine.specs.Operands.{binary_value, element_place, module_variable, frame_variable, whole_place, retrieved, node_operand, operand}
use Rattle.machine.specs.Calls.{value_argument, var_argument, argument, argument_words, arguments}
use Rattle.machine.proofs.Courses.{below, operand_is}
use Rattle.sound.proofs.Evaluation.OperandSizes.{place_fits}
use Rattle.sound.proofs.StartValues.TwinOutcomes.{Equal, Same, same, strays, m_then, m_test, m_unset, m_pick, m_place, m_value, m_typed, m_word, m_array}
use Rattle.sound.proofs.StartValues.Twins.{Twin, at_area, same_words, all_set}

pub fits_room : (T : Table) (a τ : ℕ) → fits T a τ ≡ true → a + words_of T τ ≤ locations
unfolding fits
fits_room T a τ f =
    let h : a < locations = ltb-true _ _ (both_l _ _ f) in
    let k : a % 256 + words_of T τ ≤ 256 = leb-true _ _ (both_r _ _ f) in
    omega arith

-- ---- one node

module _ (T : Table) (m s page : Memory) (x : Context) (t : Twin m s) (most : x.process ≤ 64) where
  frame_same : (k mode τ : ℕ) → Same (frame_variable T m page x k mode τ) (frame_variable T s page x k mode τ)
  unfolding frame_variable
  frame_same k mode τ =
      m_test Equal (ltb k 256) _ _ (λ l. rw (at_area m s t x.process k most (ltb-true k 256 l)) (same _))

  whole_same : (v : ℕ) → Same (whole_place T m page x v) (whole_place T s page x v)
  unfolding whole_place module_variable
  whole_same v =
      m_test Equal _ _ _ (λ h.
      m_pick Equal (belongs T (owner T x.block) v)
      (module_variable T m page x (offset_of T (owner T x.block) v) (var_type T v))
      (need (belongs T x.block v) (frame_variable T m page x (x.frame + 4 + offset_of T x.block v) (var_mode T v) (var_type T v)))
      (module_variable T s page x (offset_of T (owner T x.block) v) (var_type T v))
      (need (belongs T x.block v) (frame_variable T s page x (x.frame + 4 + offset_of T x.block v) (var_mode T v) (var_type T v)))
      (λ e. same _)
      (λ e. m_test Equal _ _ _ (λ g. frame_same _ _ _)))

  retrieved_same : (a τ : ℕ) → fits T a τ ≡ true → Same (retrieved T m page x a τ) (retrieved T s page x a τ)
  unfolding retrieved
  retrieved_same a τ f =
      let l = fits_room T a τ f in
      m_unset Equal _ (not (all_marked s a (words_of T τ))) _ _ (ap not (all_set m s t a (words_of T τ) l))
      (rw (same_words m s t a (words_of T τ) l) (same _))

  module _ (r u : ℕ → Outcome Operand) (h : (n : ℕ) → Same (r n) (u n)) (places : (n a τ : ℕ) → r n ≡ ok (place a τ) → fits T a τ ≡ true) where
    right_same : (o : Binary) (k : ℕ) (τ : NodeType) (us : List ℕ)
        → Same (on_typed (r k) λ σ vs. binary_value T o τ us σ vs) (on_typed (u k) λ σ vs. binary_value T o τ us σ vs)
    right_same o k τ us = m_typed Equal (r k) (u k) _ _ (h k) (λ σ vs q. same _) (λ vs q. same _)

    node_same : (N : Node) → Same (node_operand T m page x r N) (node_operand T s page x u N)
    unfolding node_operand element_place
    node_same (constant τ v) = same _
    node_same (whole v) = whole_same v
    node_same (field n i) = m_place Equal (r n) (u n) _ _ (h n) (λ a τ e. same _)
    node_same (element n k) =
        m_place Equal (r n) (u n) _ _ (h n) (λ a τ e. m_array Equal (type_at T τ) _ _ (λ ι σ low high. m_word Equal (r k) (u k) ι _ _ (h k) (λ w. same _)))
    node_same (retrieve n) = m_place Equal (r n) (u n) _ _ (h n) (λ a τ e. retrieved_same a τ (places n a τ e))
    node_same (unary o n) = m_value Equal (r n) (u n) _ _ (h n) (λ τ us e. same _)
    node_same (binary o n k) = m_typed Equal (r n) (u n) _ _ (h n) (λ τ us e. right_same o k (numbered τ) us) (λ us e. right_same o k (NodeType.string (length us)) us)
    node_same (transfer n τ) = m_value Equal (r n) (u n) _ _ (h n) (λ σ us e. same _)
    node_same (string p q) = same _
    node_same no_node = strays

  -- ---- all nodes

  below_same : (n : ℕ) → ((k : ℕ) → k < n → Same (operand T m page x k) (operand T s page x k)) → (k : ℕ)
      → Same (below stuck n (operand T m page x) k) (below stuck n (operand T s page x) k)
  below_same n h k = m_pick Equal (ltb k n) _ _ _ _ (λ e. h k (ltb-true k n e)) (λ e. strays)

  below_place : (n k a τ : ℕ) → below stuck n (operand T m page x) k ≡ ok (place a τ) → fits T a τ ≡ true
  below_place n k a τ e =
      cases (ltb k n)
      (λ h. place_fits T m page x k a τ (rw h at e))
      (λ h. let z : stuck ≡ ok (place a τ) = rw h at e in let y : ◌≡◌ {A = ℕ} 0 1 = cc in absurd (omega arith))

  upto_same : (k n : ℕ) → n < k → Same (operand T m page x n) (operand T s page x n)
  upto_same zero n h = absurd (not-suc-le-zero h)
  upto_same (suc k) n h =
      rw (operand_is T m page x n, operand_is T s page x n)
      (node_same (below stuck n (operand T m page x)) (below stuck n (operand T s page x))
      (below_same n (λ j l. upto_same k j (omega arith))) (below_place n) (node_at T n))

  -- AN OPERAND is the same in the twin
  pub operand_same : (n : ℕ) → Same (operand T m page x n) (operand T s page x n)
  operand_same n = upto_same (suc n) n (omega arith)

  -- ---- arguments

  argument_same : (v i : ℕ) → Same (argument T m page x v i) (argument T s page x v i)
  unfolding argument value_argument var_argument
  argument_same v i =
      m_test Equal _ _ _ (λ h.
      m_pick Equal (eqb (var_mode T v) 1) _ _ _ _
      (λ e. m_typed Equal (operand T m page x (arg_node T i)) (operand T s page x (arg_node T i)) _ _ (operand_same (arg_node T i)) (λ σ ws q. same _) (λ ws q. same _))
      (λ e. m_test Equal _ _ _ (λ g.
      m_place Equal (operand T m page x (arg_node T i)) (operand T s page x (arg_node T i)) _ _ (operand_same (arg_node T i)) (λ a σ q. same _))))

  words_same : (k v i : ℕ) → Same (argument_words T m page x k v i) (argument_words T s page x k v i)
  unfolding argument_words
  words_same zero v i = same _
  words_same (suc k) v i =
      m_then Equal _ _ _ _ (argument_same v i) (λ us e. m_then Equal _ _ _ _ (words_same k (v + 1) (i + 1)) (λ vs q. same _))

  pub arguments_same : (b c d : ℕ) → Same (arguments T m page x b c d) (arguments T s page x b c d)
  unfolding arguments
  arguments_same b c d = m_test Equal _ _ _ (λ e. words_same d (first_var T b) c)
