-- THE PROMISE of refusal 9: what holds of each node, statement and module of a table that keeps the rule. Assumes nothing.
use Prim.Native.Nat.{ℕ, ◌+◌, ◌≤◌, ◌<◌}
use mathlib.Core.Path.{◌≡◌, refl}
use mathlib.Core.Bool.{Bool, true, false}
use lib.Dec.{eqb, leb, ltb}
use borrow.Author.Tests.{eqb-true, eqb-false, leb-true, ltb-true, ltb-false, ne_eqb, le-leb, lt-leb, lt-ltb}
use native.Mathlib.Omega.{arith}
use Rattle.basics.specs.Choice.{pick, all_below, both, between}
use Rattle.basics.specs.Cases.{cases}
use Rattle.basics.proofs.Bools.{no_true, all-at}
use Rattle.table.specs.Table.{Table}
use Rattle.table.specs.Entries.{declared, type_kind, type_p, var_mode, var_type, block_kind, owner, first_var, params, arg_node, node_kind, node_p, node_q, node_v, stmt_kind, stmt_a, stmt_b, stmt_c, stmt_d, node_count, stmt_count, block_count, char_count, character}
use Rattle.types.specs.Types.{type_of, type_of_node, numbered}
use Rattle.types.specs.Match.{is_string, is_text, same_number, matching, is_equal, is_fit, in_standard}
use Rattle.types.proofs.Matching.{constant_type, constant_none, numbered_type}
use Rattle.table.specs.Kinds.{variable_kind, expression_kind}
use Rattle.typing.specs.Typing.{element_typed, unary_typed, alike_typed, binary_typed, node_typed, argument_typed, parameter_typed, arguments_typed, process_call_typed, start_typed, call_typed, write_typed, stmt_typed, simple, param_simple, params_simple, character_typed, typed}

-- the argument node n suits the parameter x
pub record Suits (T : Table) (x n : ℕ) : Type 0 where
  -- a var parameter: a variable of the same type
  pub variable : var_mode T x ≡ 2 → (1 ≤ node_kind T n) × (node_kind T n ≤ 3)
  pub same : var_mode T x ≡ 2 → type_of T n ≡ var_type T x
  -- another: an expression of an equal type, or of one that is fitted
  pub expression : (var_mode T x ≡ 2 → ⊥) → (node_kind T n ≤ 8) × (1 ≤ node_kind T n → 4 ≤ node_kind T n)
  pub fit : (var_mode T x ≡ 2 → ⊥) → is_fit (matching T (type_of_node T n) (numbered (var_type T x))) ≡ true

-- the d arguments from c on suit the parameters of block b
pub record Arguments (T : Table) (b c d : ℕ) : Type 0 where
  pub count : d ≡ params T b
  pub each : (k : ℕ) → k < d → Suits T (first_var T b + k) (arg_node T (c + k))

-- a test that led to true held, and so did what follows it
first : (c d : Bool) → pick c d false ≡ true → c ≡ true
first true d h = refl
first false d h = no_true h

next : (c d : Bool) → pick c d false ≡ true → d ≡ true
next true d h = h
next false d h = no_true h

-- operators 3 to 13 take standard types
alike_standard : (o τ : ℕ) → alike_typed o τ ≡ true → τ ≤ 2
unfolding alike_typed
alike_standard o τ h =
    cases (leb o 6) (λ e. leb-true τ 2 (rw e at h))
    (λ e. cases (leb o 11)
    (λ f. let z = eqb-true τ 0 (rw (e, f) at h) in omega arith)
    (λ f. let z = leb-true τ 1 (rw (e, f) at h) in omega arith))

module _ (T : Table) where
  -- where a standard type is asked no string constant stands: its type has no number
  pub no_constant : (n : ℕ) → type_of T n ≤ 2 → node_kind T n ≡ 8 → ⊥
  no_constant n l k =
      let z : type_of T n ≡ 65535 = constant_none T n k in
      omega arith

  variable_kinds : (n : ℕ) → variable_kind (node_kind T n) ≡ true → (1 ≤ node_kind T n) × (node_kind T n ≤ 3)
  unfolding variable_kind between both
  variable_kinds n h = (leb-true 1 (node_kind T n) (first _ _ h), leb-true (node_kind T n) 3 (next (leb 1 (node_kind T n)) _ h))

  expression_kinds : (n : ℕ) → expression_kind (node_kind T n) ≡ true → (node_kind T n ≤ 8) × (1 ≤ node_kind T n → 4 ≤ node_kind T n)
  unfolding expression_kind between both
  expression_kinds n h =
      cases (eqb (node_kind T n) 0)
      (λ e. let z = eqb-true (node_kind T n) 0 e in (omega arith, λ l. absurd (omega arith)))
      (λ e.
      let g : pick (leb 4 (node_kind T n)) (leb (node_kind T n) 8) false ≡ true = rw e at h in
      (leb-true (node_kind T n) 8 (next (leb 4 (node_kind T n)) _ g), λ l. leb-true 4 (node_kind T n) (first _ _ g)))

  suits : (x n : ℕ) → argument_typed T x n ≡ true → Suits T x n
  unfolding argument_typed
  suits x n h =
      record {
        variable = λ e. variable_kinds n (first _ _ (var e));
        same = λ e. eqb-true (type_of T n) (var_type T x) (next (variable_kind (node_kind T n)) _ (var e));
        expression = λ e. expression_kinds n (first _ _ (value e));
        fit = λ e. next (expression_kind (node_kind T n)) _ (value e);
      }
    where
      var : var_mode T x ≡ 2 → pick (variable_kind (node_kind T n)) (eqb (type_of T n) (var_type T x)) false ≡ true
      var e = rw e at h

      value : (var_mode T x ≡ 2 → ⊥) → pick (expression_kind (node_kind T n)) (is_fit (matching T (type_of_node T n) (numbered (var_type T x)))) false ≡ true
      value e = rw (ne_eqb (var_mode T x) 2 e) at h

  -- a value parameter that is no string takes its very type, so no string constant
  module _ (x n : ℕ) (s : Suits T x n) (m : var_mode T x ≡ 2 → ⊥) (p : is_string T (var_type T x) ≡ false) where
    pub plain_numbered : node_kind T n ≡ 8 → ⊥
    unfolding is_fit matching both same_number is_text
    plain_numbered k = no_true (rw (constant_type T n k, p) at (s.fit m))

    pub plain-same : type_of T n ≡ var_type T x
    unfolding is_fit matching both same_number is_text
    plain-same =
        let h : is_fit (matching T (numbered (type_of T n)) (numbered (var_type T x))) ≡ true = rw (numbered_type T n plain_numbered) at (s.fit m) in
        cases (eqb (type_of T n) (var_type T x)) (λ e. eqb-true (type_of T n) (var_type T x) e)
        (λ e. cases (is_string T (type_of T n)) (λ f. no_true (rw (e, f, p) at h)) (λ f. no_true (rw (e, f) at h)))

  arguments : (b c d : ℕ) → arguments_typed T b c d ≡ true → Arguments T b c d
  unfolding arguments_typed parameter_typed
  arguments b c d h =
      record {
        count = eqb-true d (params T b) (first _ _ h);
        each = λ k l. suits (first_var T b + k) (arg_node T (c + k)) (all-at d (parameter_typed T (first_var T b) c) (next (eqb d (params T b)) _ h) k l);
      }

module _ (T : Table) (h : typed T ≡ true) where
  nodes : all_below (node_count T) (node_typed T) ≡ true
  unfolding typed
  nodes = first _ _ h

  rest : pick (all_below (stmt_count T) (stmt_typed T)) (pick (all_below (block_count T) (params_simple T)) (all_below (char_count T) (character_typed T)) false) false ≡ true
  unfolding typed
  rest = next (all_below (node_count T) (node_typed T)) _ h

  last : pick (all_below (block_count T) (params_simple T)) (all_below (char_count T) (character_typed T)) false ≡ true
  last = next (all_below (stmt_count T) (stmt_typed T)) _ rest

  -- nodes
  module _ (n : ℕ) (l : n < node_count T) where
    node : node_typed T n ≡ true
    node = all-at (node_count T) (node_typed T) nodes n l

    module _ (k : node_kind T n ≡ 0) where
      pub boolean_constant : node_p T n ≡ 1 → node_v T n ≤ 1
      unfolding node_typed in_standard
      boolean_constant e = leb-true (node_v T n) 1 (rw (k, e) at node)

      pub character_constant : node_p T n ≡ 2 → node_v T n ≤ 127
      unfolding node_typed in_standard
      character_constant e = leb-true (node_v T n) 127 (rw (k, e) at node)

    pub field_of_record : node_kind T n ≡ 2 → type_kind T (type_of T (node_p T n)) ≡ 1
    unfolding node_typed
    field_of_record k = eqb-true (type_kind T (type_of T (node_p T n))) 1 (rw k at node)

    module _ (k : node_kind T n ≡ 3) where
      element : pick (eqb (type_kind T (type_of T (node_p T n))) 2) (eqb (type_of T (node_q T n)) (type_p T (type_of T (node_p T n)))) false ≡ true
      unfolding node_typed element_typed
      element = rw k at node

      pub element_of_array : type_kind T (type_of T (node_p T n)) ≡ 2
      element_of_array = eqb-true (type_kind T (type_of T (node_p T n))) 2 (first _ _ element)

      pub index_type : type_of T (node_q T n) ≡ type_p T (type_of T (node_p T n))
      index_type = eqb-true (type_of T (node_q T n)) (type_p T (type_of T (node_p T n))) (next (eqb (type_kind T (type_of T (node_p T n))) 2) _ element)

      pub index_numbered : type_p T (type_of T (node_p T n)) ≤ 2 → node_kind T (node_q T n) ≡ 8 → ⊥
      index_numbered e = no_constant T (node_q T n) (let z = index_type in omega arith)

    module _ (k : node_kind T n ≡ 5) where
      pub not_operand : node_q T n ≡ 2 → type_of T (node_p T n) ≤ 1
      unfolding node_typed unary_typed
      not_operand e = leb-true (type_of T (node_p T n)) 1 (rw (k, e) at node)

      pub integer_operand : (node_q T n ≡ 2 → ⊥) → type_of T (node_p T n) ≡ 0
      unfolding node_typed unary_typed
      integer_operand e = eqb-true (type_of T (node_p T n)) 0 (rw (k, ne_eqb (node_q T n) 2 e) at node)

      pub unary_numbered : node_kind T (node_p T n) ≡ 8 → ⊥
      unary_numbered =
          no_constant T (node_p T n)
          (cases (eqb (node_q T n) 2) (λ e. let z = not_operand (eqb-true (node_q T n) 2 e) in omega arith)
          (λ e. let z = integer_operand (eqb-false (node_q T n) 2 e) in omega arith))

    module _ (k : node_kind T n ≡ 6) where
      pub equality_operands : node_v T n ≤ 2 → is_equal (matching T (type_of_node T (node_p T n)) (type_of_node T (node_q T n))) ≡ true
      unfolding node_typed binary_typed
      equality_operands v = rw (k, le-leb (node_v T n) 2 v) at node

      module _ (v : 3 ≤ node_v T n) where
        alike : pick (eqb (type_of T (node_p T n)) (type_of T (node_q T n))) (alike_typed (node_v T n) (type_of T (node_p T n))) false ≡ true
        unfolding node_typed binary_typed
        alike = rw (k, lt-leb (node_v T n) 2 v) at node

        alike_type : alike_typed (node_v T n) (type_of T (node_p T n)) ≡ true
        alike_type = next (eqb (type_of T (node_p T n)) (type_of T (node_q T n))) _ alike

        pub same_operands : type_of T (node_p T n) ≡ type_of T (node_q T n)
        same_operands = eqb-true (type_of T (node_p T n)) (type_of T (node_q T n)) (first _ _ alike)

        standard_operand : type_of T (node_p T n) ≤ 2
        standard_operand = alike_standard (node_v T n) (type_of T (node_p T n)) alike_type

        pub left_numbered : node_kind T (node_p T n) ≡ 8 → ⊥
        left_numbered = no_constant T (node_p T n) standard_operand

        pub right_numbered : node_kind T (node_q T n) ≡ 8 → ⊥
        right_numbered =
            no_constant T (node_q T n)
            (let s = standard_operand in
            let z = same_operands in
            omega arith)

        pub order_operands : node_v T n ≤ 6 → type_of T (node_p T n) ≤ 2
        order_operands w = standard_operand

      pub arithmetic_operands : 7 ≤ node_v T n → node_v T n ≤ 11 → type_of T (node_p T n) ≡ 0
      unfolding alike_typed
      arithmetic_operands v w = eqb-true (type_of T (node_p T n)) 0 (rw (lt-leb (node_v T n) 6 v, le-leb (node_v T n) 11 w) at (alike_type (omega arith)))

      pub logic_operands : 12 ≤ node_v T n → type_of T (node_p T n) ≤ 1
      unfolding alike_typed
      logic_operands v =
          let w : 7 ≤ node_v T n = omega arith in
          leb-true (type_of T (node_p T n)) 1 (rw (lt-leb (node_v T n) 6 w, lt-leb (node_v T n) 11 v) at (alike_type (omega arith)))

    pub transfer_operand : node_kind T n ≡ 7 → type_of T (node_p T n) ≤ 2
    unfolding node_typed
    transfer_operand k = leb-true (type_of T (node_p T n)) 2 (rw k at node)

    pub transfer_numbered : node_kind T n ≡ 7 → node_kind T (node_p T n) ≡ 8 → ⊥
    transfer_numbered k = no_constant T (node_p T n) (transfer_operand k)

  -- statements
  module _ (i : ℕ) (l : i < stmt_count T) where
    stmt : stmt_typed T i ≡ true
    stmt = all-at (stmt_count T) (stmt_typed T) (first _ _ rest) i l

    pub assignment : stmt_kind T i ≡ 1 → is_equal (matching T (type_of_node T (stmt_a T i)) (type_of_node T (stmt_b T i))) ≡ true
    unfolding stmt_typed
    assignment k = rw k at stmt

    pub local-call : stmt_kind T i ≡ 2 → Arguments T (stmt_a T i) (stmt_c T i) (stmt_d T i)
    unfolding stmt_typed call_typed
    local-call k = arguments T (stmt_a T i) (stmt_c T i) (stmt_d T i) (rw k at stmt)

    module _ (k : stmt_kind T i ≡ 3) where
      process_call : pick (eqb (type_kind T (type_of T (stmt_a T i))) 3) (pick (eqb (owner T (stmt_b T i)) (type_p T (type_of T (stmt_a T i)))) (arguments_typed T (stmt_b T i) (stmt_c T i) (stmt_d T i)) false) false ≡ true
      unfolding stmt_typed call_typed process_call_typed
      process_call = rw k at stmt

      pub called_variable : type_kind T (type_of T (stmt_a T i)) ≡ 3
      called_variable = eqb-true (type_kind T (type_of T (stmt_a T i))) 3 (first _ _ process_call)

      called : pick (eqb (owner T (stmt_b T i)) (type_p T (type_of T (stmt_a T i)))) (arguments_typed T (stmt_b T i) (stmt_c T i) (stmt_d T i)) false ≡ true
      called = next (eqb (type_kind T (type_of T (stmt_a T i))) 3) _ process_call

      pub called_owner : owner T (stmt_b T i) ≡ type_p T (type_of T (stmt_a T i))
      called_owner = eqb-true (owner T (stmt_b T i)) (type_p T (type_of T (stmt_a T i))) (first _ _ called)

      pub called_arguments : Arguments T (stmt_b T i) (stmt_c T i) (stmt_d T i)
      called_arguments = arguments T (stmt_b T i) (stmt_c T i) (stmt_d T i) (next (eqb (owner T (stmt_b T i)) (type_p T (type_of T (stmt_a T i)))) _ called)

    pub created_variable : stmt_kind T i ≡ 4 → type_kind T (type_of T (stmt_a T i)) ≡ 3
    unfolding stmt_typed call_typed
    created_variable k = eqb-true (type_kind T (type_of T (stmt_a T i))) 3 (rw k at stmt)

    module _ (k : stmt_kind T i ≡ 5) where
      start : pick (eqb (type_kind T (type_of T (stmt_a T i))) 3) (arguments_typed T (type_p T (type_of T (stmt_a T i))) (stmt_c T i) (stmt_d T i)) false ≡ true
      unfolding stmt_typed call_typed start_typed
      start = rw k at stmt

      pub started_variable : type_kind T (type_of T (stmt_a T i)) ≡ 3
      started_variable = eqb-true (type_kind T (type_of T (stmt_a T i))) 3 (first _ _ start)

      pub started_arguments : Arguments T (type_p T (type_of T (stmt_a T i))) (stmt_c T i) (stmt_d T i)
      started_arguments = arguments T (type_p T (type_of T (stmt_a T i))) (stmt_c T i) (stmt_d T i) (next (eqb (type_kind T (type_of T (stmt_a T i))) 3) _ start)

    pub guard : stmt_kind T i ≡ 10 → type_of T (stmt_a T i) ≡ 1
    unfolding stmt_typed
    guard k = eqb-true (type_of T (stmt_a T i)) 1 (rw k at stmt)

    pub guard_numbered : stmt_kind T i ≡ 10 → node_kind T (stmt_a T i) ≡ 8 → ⊥
    guard_numbered k = no_constant T (stmt_a T i) (let z = guard k in omega arith)

    module _ (k : stmt_kind T i ≡ 12) where
      write : pick (eqb (type_of T (stmt_a T i)) 0) (eqb (type_of T (stmt_b T i)) 0) false ≡ true
      unfolding stmt_typed write_typed
      write = rw k at stmt

      pub written_address : type_of T (stmt_a T i) ≡ 0
      written_address = eqb-true (type_of T (stmt_a T i)) 0 (first _ _ write)

      pub written_value : type_of T (stmt_b T i) ≡ 0
      written_value = eqb-true (type_of T (stmt_b T i)) 0 (next (eqb (type_of T (stmt_a T i)) 0) _ write)

      pub address_numbered : node_kind T (stmt_a T i) ≡ 8 → ⊥
      address_numbered = no_constant T (stmt_a T i) (let z = written_address in omega arith)

      pub written_numbered : node_kind T (stmt_b T i) ≡ 8 → ⊥
      written_numbered = no_constant T (stmt_b T i) (let z = written_value in omega arith)

  -- the parameters of modules
  module _ (b : ℕ) (l : b < block_count T) (m : block_kind T b ≡ 1) (k : ℕ) (g : k < params T b) where
    block : params_simple T b ≡ true
    block = all-at (block_count T) (params_simple T) (first _ _ last) b l

    param : pick (eqb (var_mode T (first_var T b + k)) 1) (simple T (var_type T (first_var T b + k))) false ≡ true
    unfolding params_simple param_simple
    param = all-at (params T b) (param_simple T (first_var T b)) (rw m at block) k g

    pub module_param : var_mode T (first_var T b + k) ≡ 1
    module_param = eqb-true (var_mode T (first_var T b + k)) 1 (first _ _ param)

    pub module_param_type : 3 ≤ var_type T (first_var T b + k) → type_kind T (var_type T (first_var T b + k)) ≡ 3
    unfolding simple
    module_param_type z =
        eqb-true (type_kind T (var_type T (first_var T b + k))) 3
        (rw (lt-leb (var_type T (first_var T b + k)) 2 z) at (next (eqb (var_mode T (first_var T b + k)) 1) _ param))

    standard_kind : var_type T (first_var T b + k) < 3 → type_kind T (var_type T (first_var T b + k)) ≡ 0
    unfolding declared
    standard_kind z = rw (lt-ltb (var_type T (first_var T b + k)) 3 z)

    pub module_param_plain : is_string T (var_type T (first_var T b + k)) ≡ false
    unfolding is_string
    module_param_plain =
        cases (ltb (var_type T (first_var T b + k)) 3) (λ e. rw (standard_kind (ltb-true (var_type T (first_var T b + k)) 3 e)))
        (λ e. rw (module_param_type (ltb-false (var_type T (first_var T b + k)) 3 e)))

  -- the characters of string constants
  pub character_range : (i : ℕ) → i < char_count T → character T i ≤ 127
  unfolding character_typed in_standard
  character_range i l =
      leb-true (character T i) 127 (all-at (char_count T) (character_typed T) (next (all_below (block_count T) (params_simple T)) _ last) i l)
