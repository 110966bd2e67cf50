-- The type that is read off a node is one of the table, where the rules of refusals 4 and 9 are kept. Assumes nothing.
use Prim.Native.Nat.{ℕ, zero, suc, ◌+◌, ◌<◌, ◌≤◌}
use mathlib.Core.Path.{◌≡◌}
use mathlib.Core.Bool.{true}
use lib.Dec.{eqb, leb}
use native.Mathlib.Omega.{arith}
use borrow.Author.Tests.{eqb-true, leb-false, eq-eqb, lt-ltb}
use Rattle.basics.specs.Cases.{cases}
use Rattle.table.specs.Table.{Table}
use Rattle.table.specs.Entries.{node_count, type_count, type_kind, type_q, node_kind, node_p, node_q, node_v}
use Rattle.types.specs.Types.{field_of, element_of, unary_type, binary_type, type_of}
use Rattle.numbers.specs.Ranges.{in_range}
use Rattle.numbers.proofs.OperandPromise.{constant_type, whole_variable, field_variable, field-place, element_variable, value_variable, unary_operand, binary_left, transfer_type}
use Rattle.numbers.proofs.TypePromise.{var-type, field_lower, element_lower}
use Rattle.typing.specs.Typing.{typed}
use Rattle.typing.proofs.Promise as typing
use Rattle.operands.proofs.Nodes.{type_constant, type_whole, type_field, type_element, type_retrieve, type_unary, type_binary, type_transfer}
use Rattle.operands.proofs.Typed.{seven}

-- operators whose type is that of their operands ask a standard type
module _ (T : Table) (o τ : ℕ) where
  unary_there : (o ≡ 2 → τ ≤ 1) → unary_type o τ < 3 + type_count T
  unfolding unary_type
  unary_there l = cases (eqb o 2) (λ e. let u = l (eqb-true o 2 e) in rw e (omega arith)) (λ e. rw e (omega arith))

  binary_there : (12 ≤ o → τ ≤ 1) → binary_type o τ < 3 + type_count T
  unfolding binary_type
  binary_there l =
      cases (leb o 6)
      (λ e. rw e (omega arith))
      (λ e. cases (leb o 11) (λ g. rw (e, g) (omega arith)) (λ g. let u = l (leb-false o 11 g) in rw (e, g) (omega arith)))

module _ (T : Table) (h : in_range T ≡ true) (τ : ℕ) (l : τ < 3 + type_count T) where
  field-there : (i : ℕ) → type_kind T τ ≡ 1 → i < type_q T τ → field_of T τ i < 3 + type_count T
  unfolding field_of
  field-there i k g = let u = field_lower T h τ l k i g in rw (eq-eqb (type_kind T τ) 1 k, lt-ltb i (type_q T τ) g) (omega arith)

  element_there : type_kind T τ ≡ 2 → type_q T τ < 3 + type_count T
  element_there k = let u = element_lower T h τ l k in omega arith

module _ (T : Table) (h : in_range T ≡ true) (y : typed T ≡ true) where
  there_at : (n : ℕ) → n < node_count T → ((p : ℕ) → p < n → node_kind T p ≤ 7 → type_of T p < 3 + type_count T) → node_kind T n ≤ 7 → type_of T n < 3 + type_count T
  unfolding element_of
  there_at n l r k =
      cases (eqb (node_kind T n) 0) (λ e. let q = eqb-true (node_kind T n) 0 e in let u = constant_type T h n l q in rw (type_constant T n l q) (omega arith)) (λ k₀.
      cases (eqb (node_kind T n) 1) (λ e. let q = eqb-true (node_kind T n) 1 e in rw (type_whole T n l q) (var-type T h (node_p T n) (whole_variable T h n l q))) (λ k₁.
      cases (eqb (node_kind T n) 2) (λ e.
      let q = eqb-true (node_kind T n) 2 e in
      let v = field_variable T h n l q in
      let b = v.below in
      let d = typing.field_of_record T y n l q in
      rw (type_field T n l b q) (field-there T h (type_of T (node_p T n)) (r (node_p T n) b (omega arith)) (node_q T n) d (field-place T h n l q d))) (λ k₂.
      cases (eqb (node_kind T n) 3) (λ e.
      let q = eqb-true (node_kind T n) 3 e in
      let v = element_variable T h n l q in
      let b = v.below in
      let d = typing.element_of_array T y n l q in
      rw (type_element T n l b q, eq-eqb (type_kind T (type_of T (node_p T n))) 2 d) (element_there T h (type_of T (node_p T n)) (r (node_p T n) b (omega arith)) d)) (λ k₃.
      cases (eqb (node_kind T n) 4) (λ e. let q = eqb-true (node_kind T n) 4 e in let v = value_variable T h n l q in let b = v.below in rw (type_retrieve T n l b q) (r (node_p T n) b (omega arith))) (λ k₄.
      cases (eqb (node_kind T n) 5) (λ e. let q = eqb-true (node_kind T n) 5 e in let v = unary_operand T h n l q in let b = v.below in rw (type_unary T n l b q) (unary_there T (node_q T n) (type_of T (node_p T n)) (typing.not_operand T y n l q))) (λ k₅.
      cases (eqb (node_kind T n) 6) (λ e. let q = eqb-true (node_kind T n) 6 e in let v = binary_left T h n l q in let b = v.below in rw (type_binary T n l b q) (binary_there T (node_v T n) (type_of T (node_p T n)) (typing.logic_operands T y n l q))) (λ k₆.
      let q : node_kind T n ≡ 7 = seven (node_kind T n) k k₀ k₁ k₂ k₃ k₄ k₅ k₆ in
      let u = transfer_type T h n l q in rw (type_transfer T n l q) (omega arith))))))))

  there_below : (k n : ℕ) → n < k → n < node_count T → node_kind T n ≤ 7 → type_of T n < 3 + type_count T
  there_below zero n l c g = absurd (omega arith)
  there_below (suc k) n l c g = there_at n c (λ p b u. there_below k p (omega arith) (omega arith) u) g

  pub type_there : (n : ℕ) → n < node_count T → node_kind T n ≤ 7 → type_of T n < 3 + type_count T
  type_there n l k = there_below (suc n) n (omega arith) l k
