-- What a node comes to, by its kind, in a table that keeps the rule of refusal 4. Assumes nothing.
use Prim.Native.Nat.{ℕ, ◌<◌}
use mathlib.Core.Path.{◌≡◌, ◌∙◌}
use mathlib.Core.Bool.{true}
use lib.Dec.{ltb}
use borrow.Author.Tests.{lt-ltb}
use Rattle.basics.specs.Choice.{pick, both}
use Rattle.basics.specs.Course.{course}
use Rattle.basics.proofs.Courses.{course_is, upto_below}
use Rattle.table.specs.Table.{Table}
use Rattle.table.specs.Entries.{node_count, var_type, node_kind, node_p, node_q, node_v}
use Rattle.types.specs.Types.{no_type, field_of, element_of, unary_type, binary_type, operand_type, node_type, type_of}
use Rattle.numbers.specs.Ranges.{in_range}
use Rattle.numbers.proofs.OperandPromise.{field_variable, element_variable, value_variable, unary_operand, binary_left, transfer_operand, element-index, binary_right}
use Rattle.words.specs.Types.{transfer_w}
use Rattle.machine.specs.Memory.{Memory}
use Rattle.machine.specs.Texts.{text_at}
use Rattle.machine.specs.Context.{Context}
use Rattle.machine.specs.Outcomes.{ok, stuck, need, text, on_place, on_value, on_typed, word_of}
use Rattle.machine.specs.Entries.{node_of, node_at, unary_at, binary_at}
use Rattle.machine.specs.Operands.{one_word, given, unary_value, binary_value, field_place, element_place, whole_place, retrieved, node_operand, operand_at, operand}

module _ (T : Table) (m page : Memory) (x : Context) where
  operand_is : (n : ℕ) → operand T m page x n ≡ node_operand T m page x (λ p. pick (ltb p n) (operand T m page x p) stuck) (node_at T n)
  unfolding operand operand_at
  operand_is n = course_is stuck (operand_at T m page x) n

  module _ (n : ℕ) (l : n < node_count T) where
    pub is_constant : node_kind T n ≡ 0 → operand T m page x n ≡ need (ltb (node_p T n) 3) (one_word (node_p T n) (node_v T n))
    unfolding node_at node_of node_operand
    is_constant e = operand_is n ∙ rw (lt-ltb n (node_count T) l, e)

    pub is_whole : node_kind T n ≡ 1 → operand T m page x n ≡ whole_place T m page x (node_p T n)
    unfolding node_at node_of node_operand
    is_whole e = operand_is n ∙ rw (lt-ltb n (node_count T) l, e)

    pub is_string : node_kind T n ≡ 8 → operand T m page x n ≡ ok (text (text_at T (node_p T n) (node_q T n)))
    unfolding node_at node_of node_operand
    is_string e = operand_is n ∙ rw (lt-ltb n (node_count T) l, e)

    module _ (h : in_range T ≡ true) where
      pub is_field : node_kind T n ≡ 2 → operand T m page x n ≡ on_place (operand T m page x (node_p T n)) (λ a τ. field_place T a τ (node_q T n))
      unfolding node_at node_of node_operand
      is_field e = operand_is n ∙ rw (lt-ltb n (node_count T) l, e, lt-ltb (node_p T n) n (field_variable T h n l e).below)

      pub is_element : node_kind T n ≡ 3 → operand T m page x n ≡ on_place (operand T m page x (node_p T n)) (λ a τ. element_place T a τ (operand T m page x (node_q T n)))
      unfolding node_at node_of node_operand
      is_element e =
          operand_is n ∙ simp (lt-ltb n (node_count T) l, e, lt-ltb (node_p T n) n (element_variable T h n l e).below, lt-ltb (node_q T n) n (element-index T h n l e).below)

      pub is_retrieve : node_kind T n ≡ 4 → operand T m page x n ≡ on_place (operand T m page x (node_p T n)) (λ a τ. retrieved T m page x a τ)
      unfolding node_at node_of node_operand
      is_retrieve e = operand_is n ∙ rw (lt-ltb n (node_count T) l, e, lt-ltb (node_p T n) n (value_variable T h n l e).below)

      pub is_unary : node_kind T n ≡ 5 → operand T m page x n ≡ on_value (operand T m page x (node_p T n)) (λ τ us. unary_value page (unary_at (node_q T n)) τ (word_of us))
      unfolding node_at node_of node_operand
      is_unary e = operand_is n ∙ rw (lt-ltb n (node_count T) l, e, lt-ltb (node_p T n) n (unary_operand T h n l e).below)

      pub is_binary : node_kind T n ≡ 6
          → operand T m page x n ≡ on_typed (operand T m page x (node_p T n)) (λ τ us. on_typed (operand T m page x (node_q T n)) (λ σ vs. binary_value T (binary_at (node_v T n)) τ us σ vs))
      unfolding node_at node_of node_operand
      is_binary e =
          operand_is n ∙ simp (lt-ltb n (node_count T) l, e, lt-ltb (node_p T n) n (binary_left T h n l e).below, lt-ltb (node_q T n) n (binary_right T h n l e).below)

      pub is_transfer : node_kind T n ≡ 7
          → operand T m page x n ≡ on_value (operand T m page x (node_p T n)) (λ σ us. need (both (ltb σ 3) (ltb (node_q T n) 3)) (given (node_q T n) (transfer_w (node_q T n) (word_of us))))
      unfolding node_at node_of node_operand
      is_transfer e = operand_is n ∙ rw (lt-ltb n (node_count T) l, e, lt-ltb (node_p T n) n (transfer_operand T h n l e).below)

-- the type that is read off
module _ (T : Table) (n : ℕ) (l : n < node_count T) where
  pub type_constant : node_kind T n ≡ 0 → type_of T n ≡ node_p T n
  unfolding type_of course node_type
  type_constant e = rw (lt-ltb n (node_count T) l, e)

  pub type_whole : node_kind T n ≡ 1 → type_of T n ≡ var_type T (node_p T n)
  unfolding type_of course node_type
  type_whole e = rw (lt-ltb n (node_count T) l, e)

  pub type_transfer : node_kind T n ≡ 7 → type_of T n ≡ node_q T n
  unfolding type_of course node_type
  type_transfer e = rw (lt-ltb n (node_count T) l, e)

  module _ (b : node_p T n < n) where
    pub type_field : node_kind T n ≡ 2 → type_of T n ≡ field_of T (type_of T (node_p T n)) (node_q T n)
    unfolding type_of course node_type operand_type
    type_field e = rw (lt-ltb n (node_count T) l, e, upto_below no_type (node_type T) n (node_p T n) b)

    pub type_element : node_kind T n ≡ 3 → type_of T n ≡ element_of T (type_of T (node_p T n))
    unfolding type_of course node_type operand_type
    type_element e = rw (lt-ltb n (node_count T) l, e, upto_below no_type (node_type T) n (node_p T n) b)

    pub type_retrieve : node_kind T n ≡ 4 → type_of T n ≡ type_of T (node_p T n)
    unfolding type_of course node_type operand_type
    type_retrieve e = rw (lt-ltb n (node_count T) l, e, upto_below no_type (node_type T) n (node_p T n) b)

    pub type_unary : node_kind T n ≡ 5 → type_of T n ≡ unary_type (node_q T n) (type_of T (node_p T n))
    unfolding type_of course node_type operand_type
    type_unary e = rw (lt-ltb n (node_count T) l, e, upto_below no_type (node_type T) n (node_p T n) b)

    pub type_binary : node_kind T n ≡ 6 → type_of T n ≡ binary_type (node_v T n) (type_of T (node_p T n))
    unfolding type_of course node_type operand_type
    type_binary e = rw (lt-ltb n (node_count T) l, e, upto_below no_type (node_type T) n (node_p T n) b)
