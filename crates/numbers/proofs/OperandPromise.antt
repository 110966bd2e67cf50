-- What a table that escapes refusal 4 promises of arguments, nodes and statements. Assumes nothing.
use Prim.Native.Nat.{ℕ, ◌+◌, ◌≤◌, ◌<◌}
use mathlib.Core.Path.{◌≡◌, refl}
use mathlib.Core.Bool.{true, false}
use native.Mathlib.Omega.{arith}
use lib.Dec.{eqb}
use borrow.Author.Tests.{eq-eqb, eqb-true, leb-true, ltb-true}
use Rattle.basics.specs.Choice.{both, between}
use Rattle.basics.specs.Cases.{cases}
use Rattle.basics.proofs.Bools.{both_l, both_r, between_true}
use Rattle.basics.proofs.Takes.{there, apart}
use Rattle.table.specs.Table.{Table}
use Rattle.table.specs.Entries.{type_kind, type_q, block_kind, arg_node, node_kind, node_p, node_q, stmt_kind, stmt_a, stmt_b, stmt_c, stmt_d, stmt_link, var_count, block_count, arg_count, node_count, stmt_count, char_count}
use Rattle.types.specs.Types.{type_of}
use Rattle.table.specs.Kinds.{variable_kind, expression_kind, names, rows, row_of, held, is_call}
use Rattle.numbers.specs.Nodes.{Variable, Expression}
use Rattle.numbers.specs.Operands.{place_ranged, call_first, call_count, arguments_taken, is_string_node, string_first, string_count, characters_taken}
use Rattle.numbers.specs.Tested.{variable_below, expression_below, p_ranged, q_ranged, a_variable, a_expression, a_block, a_ranged, b_expression, b_ranged, link_ranged}
use Rattle.numbers.specs.Ranges.{in_range}
use Rattle.numbers.proofs.Parts.{arguments-taken, characters-taken, arg_row, node_row, stmt_row}
use Rattle.numbers.proofs.TypePromise.{block_there}

module _ (T : Table) (m n : ℕ) where
  pub variable_node : variable_below T m n ≡ true → Variable T m n
  unfolding variable_kind
  variable_node e =
      let k = between_true 1 3 (node_kind T n) (both_r _ _ e) in
      record { below = ltb-true n m (both_l _ _ e); low = k.0; high = k.1 }

  pub expression_node : expression_below T m n ≡ true → Expression T m n
  unfolding expression_kind
  expression_node e =
      let g = both_r _ _ e in
      cases (eqb (node_kind T n) 0)
      (λ q.
      let z : node_kind T n ≡ 0 = eqb-true (node_kind T n) 0 q in
      record { below = ltb-true n m (both_l _ _ e); sort = λ l. omega arith; high = omega arith })
      (λ q.
      let k = between_true 4 8 (node_kind T n) (rw q at g) in
      record { below = ltb-true n m (both_l _ _ e); sort = λ l. k.0; high = k.1 })

module _ (T : Table) (h : in_range T ≡ true) where
  pub arg-node : (i : ℕ) → i < arg_count T → arg_node T i < node_count T
  arg-node i l = arg_row T h i l

  -- nodes
  module _ (n : ℕ) (l : n < node_count T) where
    p_row : p_ranged T n ≡ true
    p_row = both_l _ _ (node_row T h n l)

    q_row : q_ranged T n ≡ true
    q_row = both_r _ _ (node_row T h n l)

    pub constant_type : node_kind T n ≡ 0 → node_p T n ≤ 2
    constant_type e = leb-true (node_p T n) 2 (rw e at p_row)

    pub whole_variable : node_kind T n ≡ 1 → node_p T n < var_count T
    whole_variable e = ltb-true (node_p T n) (var_count T) (rw e at p_row)

    pub field_variable : node_kind T n ≡ 2 → Variable T n (node_p T n)
    field_variable e = variable_node T n (node_p T n) (rw e at p_row)

    pub element_variable : node_kind T n ≡ 3 → Variable T n (node_p T n)
    element_variable e = variable_node T n (node_p T n) (rw e at p_row)

    pub value_variable : node_kind T n ≡ 4 → Variable T n (node_p T n)
    value_variable e = variable_node T n (node_p T n) (rw e at p_row)

    pub unary_operand : node_kind T n ≡ 5 → Expression T n (node_p T n)
    unary_operand e = expression_node T n (node_p T n) (rw e at p_row)

    pub binary_left : node_kind T n ≡ 6 → Expression T n (node_p T n)
    binary_left e = expression_node T n (node_p T n) (rw e at p_row)

    pub transfer_operand : node_kind T n ≡ 7 → Expression T n (node_p T n)
    transfer_operand e = expression_node T n (node_p T n) (rw e at p_row)

    pub field-place : node_kind T n ≡ 2 → type_kind T (type_of T (node_p T n)) ≡ 1 → node_q T n < type_q T (type_of T (node_p T n))
    unfolding place_ranged
    field-place e r = ltb-true (node_q T n) (type_q T (type_of T (node_p T n))) (rw r at (rw e at q_row))

    pub element-index : node_kind T n ≡ 3 → Expression T n (node_q T n)
    element-index e = expression_node T n (node_q T n) (rw e at q_row)

    pub binary_right : node_kind T n ≡ 6 → Expression T n (node_q T n)
    binary_right e = expression_node T n (node_q T n) (rw e at q_row)

    pub transfer_type : node_kind T n ≡ 7 → node_q T n ≤ 2
    transfer_type e = leb-true (node_q T n) 2 (rw e at q_row)

    pub string_length : node_kind T n ≡ 8 → (1 ≤ node_q T n) × (node_q T n ≤ 255)
    string_length e = between_true 1 255 (node_q T n) (rw e at q_row)

    -- the characters of a string
    pub string_there : node_kind T n ≡ 8 → node_p T n + node_q T n ≤ char_count T
    unfolding characters_taken is_string_node string_first string_count
    string_there e = there (is_string_node T) (λ n. node_p T n) (λ n. node_q T n) (node_count T) (char_count T) (characters-taken T h) n l (eq-eqb (node_kind T n) 8 e)

  -- statements
  module _ (i : ℕ) (l : i < stmt_count T) where
    a_row : a_ranged T i ≡ true
    a_row = both_l _ _ (stmt_row T h i l)

    b_row : b_ranged T i ≡ true
    b_row = both_l _ _ (both_r _ _ (stmt_row T h i l))

    link_row : link_ranged T i ≡ true
    link_row = both_r _ _ (both_r _ _ (stmt_row T h i l))

    a-variable : (k : ℕ) → stmt_kind T i ≡ k → a_variable k ≡ true → Variable T (node_count T) (stmt_a T i)
    a-variable k e v = variable_node T (node_count T) (stmt_a T i) (rw (e, v) at a_row)

    a-expression : (k : ℕ) → stmt_kind T i ≡ k → a_variable k ≡ false → a_expression k ≡ true → Expression T (node_count T) (stmt_a T i)
    a-expression k e v w = expression_node T (node_count T) (stmt_a T i) (rw (e, v, w) at a_row)

    a-block : (k : ℕ) → stmt_kind T i ≡ k → a_variable k ≡ false → a_expression k ≡ false → a_block T i ≡ true
    a-block k e v w = rw e (rw (e, v, w) at a_row)

    b-expression : (k : ℕ) → stmt_kind T i ≡ k → b_expression k ≡ true → Expression T (node_count T) (stmt_b T i)
    b-expression k e v = expression_node T (node_count T) (stmt_b T i) (rw (e, v) at b_row)

    pub assign_variable : stmt_kind T i ≡ 1 → Variable T (node_count T) (stmt_a T i)
    assign_variable e = a-variable 1 e refl

    pub assign_value : stmt_kind T i ≡ 1 → Expression T (node_count T) (stmt_b T i)
    assign_value e = b-expression 1 e refl

    pub local_procedure : stmt_kind T i ≡ 2 → (stmt_a T i < block_count T) × (block_kind T (stmt_a T i) ≡ 2)
    unfolding between both
    local_procedure e = block_there T 2 (stmt_a T i) (rw e at (a-block 2 e refl refl))

    pub call_variable : stmt_kind T i ≡ 3 → Variable T (node_count T) (stmt_a T i)
    unfolding between both
    call_variable e = a-variable 3 e refl

    pub call_procedure : stmt_kind T i ≡ 3 → (stmt_b T i < block_count T) × (block_kind T (stmt_b T i) ≡ 2)
    call_procedure e = block_there T 2 (stmt_b T i) (rw e at b_row)

    pub create_variable : stmt_kind T i ≡ 4 → Variable T (node_count T) (stmt_a T i)
    unfolding between both
    create_variable e = a-variable 4 e refl

    pub start_variable : stmt_kind T i ≡ 5 → Variable T (node_count T) (stmt_a T i)
    unfolding between both
    start_variable e = a-variable 5 e refl

    pub arm_guard : stmt_kind T i ≡ 10 → Expression T (node_count T) (stmt_a T i)
    unfolding between both
    arm_guard e = a-expression 10 e refl refl

    pub arm_link : stmt_kind T i ≡ 10 → stmt_link T i < stmt_count T
    unfolding between both
    arm_link e = ltb-true (stmt_link T i) (stmt_count T) (rw e at link_row)

    pub end_link : stmt_kind T i ≡ 11 → stmt_link T i < stmt_count T
    unfolding between both
    end_link e = ltb-true (stmt_link T i) (stmt_count T) (rw e at link_row)

    pub write_address : stmt_kind T i ≡ 12 → Expression T (node_count T) (stmt_a T i)
    unfolding between both
    write_address e = a-expression 12 e refl refl

    pub write_value : stmt_kind T i ≡ 12 → Expression T (node_count T) (stmt_b T i)
    write_value e = b-expression 12 e refl

    pub block_end : stmt_kind T i ≡ 13 → stmt_a T i < block_count T
    unfolding between both
    block_end e = ltb-true (stmt_a T i) (block_count T) (rw e at (a-block 13 e refl refl))

    -- the arguments of a call (kinds 2, 3, 5)
    pub args_there : is_call T i ≡ true → stmt_c T i + stmt_d T i ≤ arg_count T
    unfolding arguments_taken call_first call_count
    args_there e = there (is_call T) (call_first T) (call_count T) (stmt_count T) (arg_count T) (arguments-taken T h) i l e

    pub local_args : stmt_kind T i ≡ 2 → stmt_c T i + stmt_d T i ≤ arg_count T
    unfolding is_call names held row_of rows
    local_args e = args_there (rw e)

    pub call_args : stmt_kind T i ≡ 3 → stmt_c T i + stmt_d T i ≤ arg_count T
    unfolding is_call names held row_of rows
    call_args e = args_there (rw e)

    pub start_args : stmt_kind T i ≡ 5 → stmt_c T i + stmt_d T i ≤ arg_count T
    unfolding is_call names held row_of rows
    start_args e = args_there (rw e)

  -- no two strings take the same character
  pub strings_apart : (n k : ℕ) → n < k → k < node_count T → node_kind T n ≡ 8 → node_kind T k ≡ 8 → node_p T n + node_q T n ≤ node_p T k
  unfolding characters_taken is_string_node string_first string_count
  strings_apart n k l g e f =
      apart (is_string_node T) (λ n. node_p T n) (λ n. node_q T n) (node_count T) (char_count T) (characters-taken T h) n k l g (eq-eqb (node_kind T n) 8 e) (eq-eqb (node_kind T k) 8 f)

  -- no two calls take the same argument
  pub args_apart : (i k : ℕ) → i < k → k < stmt_count T → is_call T i ≡ true → is_call T k ≡ true → stmt_c T i + stmt_d T i ≤ stmt_c T k
  unfolding arguments_taken call_first call_count
  args_apart i k l g e f = apart (is_call T) (call_first T) (call_count T) (stmt_count T) (arg_count T) (arguments-taken T h) i k l g e f
