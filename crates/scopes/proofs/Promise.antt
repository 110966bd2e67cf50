-- THE PROMISE of refusal 8: what holds of each statement, and of the nodes that it uses, in a table that keeps the rule. Assumes nothing.
use Prim.Native.Nat.{ℕ, ◌+◌, ◌≤◌, ◌<◌}
use mathlib.Core.Path.{◌≡◌, refl, sym, ◌∙◌}
use mathlib.Core.Bool.{Bool, true, false}
use mathlib.Core.Logic.{◌⊎◌, inl, inr}
use lib.Dec.{leb, ltb}
use borrow.Author.Tests.{eqb-true, leb-true, ltb-true, ltb-false, ne_eqb, le-leb}
use native.Mathlib.Omega.{arith}
use Rattle.basics.specs.Choice.{pick, both}
use Rattle.basics.specs.Cases.{cases}
use Rattle.basics.specs.Chain.{free}
use Rattle.basics.specs.Course.{upto}
use Rattle.basics.proofs.Bools.{no_true, both_l, both_r, all-at}
use Rattle.basics.proofs.Chains.{carried_at}
use Rattle.basics.proofs.Courses.{upto_below, upto_above}
use Rattle.table.specs.Table.{Table}
use Rattle.table.specs.Entries.{owner, first_var, vars, arg_node, node_kind, node_p, node_q, stmt_kind, stmt_a, stmt_b, stmt_c, stmt_d, stmt_count}
use Rattle.nesting.specs.Nest.{block_step}
use Rattle.table.specs.Kinds.{names, rows, row_of, held, is_call}
use Rattle.scopes.specs.Scopes.{of_block, in_scope, node_scope, node_scoped, argument_scoped, arguments_scoped, stays_in, stmt_scoped, scoped}
use Rattle.scopes.specs.Parts.{fields_scoped}
use Rattle.scopes.proofs.Rows.{node-scope, stmt_scope}

-- variable x is one of block b's
pub record Among (T : Table) (b x : ℕ) : Type 0 where
  pub low : first_var T b ≤ x
  pub high : x < first_var T b + vars T b

-- a test that led to true held, and so did what follows it
pub first : (c d : Bool) → pick c d false ≡ true → c ≡ true
first true d h = refl
first false d h = no_true h

pub next : (c d : Bool) → pick c d false ≡ true → d ≡ true
next true d h = h
next false d h = no_true h

pub is_among : (T : Table) (b x : ℕ) → of_block T b x ≡ true → Among T b x
unfolding of_block
is_among T b x h = record { low = leb-true (first_var T b) x (first _ _ h); high = ltb-true x (first_var T b + vars T b) (next (leb (first_var T b) x) _ h) }

-- nodes
module _ (T : Table) (b n : ℕ) (h : node_scoped T b n ≡ true) where
  pub visible_whole : node_kind T n ≡ 1 → in_scope T b (node_p T n) ≡ true
  visible_whole k = rw (node-scope, k) at h

  -- a whole variable is the block's or its owner's
  pub whole : node_kind T n ≡ 1 → Among T b (node_p T n) ⊎ Among T (owner T b) (node_p T n)
  unfolding in_scope
  whole k =
      let v : pick (of_block T b (node_p T n)) true (of_block T (owner T b) (node_p T n)) ≡ true = visible_whole k in
      cases (of_block T b (node_p T n))
      (λ e. inl (is_among T b (node_p T n) e))
      (λ e. inr (is_among T (owner T b) (node_p T n) (rw e at v)))

  -- the operands of the other kinds stand before the node and are in scope with it
  module _ (k : 2 ≤ node_kind T n) (u : node_kind T n ≤ 7) where
    operands : pick (upto false (node_scope T b) n (node_p T n)) (pick (names 5 (held T 5 n 2)) (upto false (node_scope T b) n (node_q T n)) true) false ≡ true
    operands = rw (node-scope, ne_eqb (node_kind T n) 0 (λ e. omega arith), ne_eqb (node_kind T n) 1 (λ e. omega arith), le-leb (node_kind T n) 7 u) at h

    operand : (p : ℕ) → upto false (node_scope T b) n p ≡ true → (p < n) × (node_scoped T b p ≡ true)
    unfolding node_scoped
    operand p e =
        cases (ltb p n)
        (λ q. let l = ltb-true p n q in (l, sym (upto_below false (node_scope T b) n p l) ∙ e))
        (λ q. no_true (sym (upto_above false (node_scope T b) n p (ltb-false p n q)) ∙ e))

    pub operand_before : node_p T n < n
    operand_before = (operand (node_p T n) (first _ _ operands)).0

    pub operand_scoped : node_scoped T b (node_p T n) ≡ true
    operand_scoped = (operand (node_p T n) (first _ _ operands)).1

    pub seconds : names 5 (held T 5 n 2) ≡ true → (node_q T n < n) × (node_scoped T b (node_q T n) ≡ true)
    seconds e = operand (node_q T n) (rw e at (next (upto false (node_scope T b) n (node_p T n)) _ operands))

  -- an index, and the second operand of a binary node
  pub index_scoped : node_kind T n ≡ 3 → (node_q T n < n) × (node_scoped T b (node_q T n) ≡ true)
  unfolding names held row_of rows
  index_scoped k = seconds (omega arith) (omega arith) (rw k)

  pub second_scoped : node_kind T n ≡ 6 → (node_q T n < n) × (node_scoped T b (node_q T n) ≡ true)
  unfolding names held row_of rows
  second_scoped k = seconds (omega arith) (omega arith) (rw k)

-- statements: i is one of block b
module _ (T : Table) (h : scoped T ≡ true) (i : ℕ) (l : i < stmt_count T) (b : ℕ) (e : free (block_step T) i ≡ b) where
  stmt : stmt_scoped T i b ≡ true
  unfolding scoped
  stmt = rw e at (carried_at (block_step T) (stmt_scoped T) (stmt_count T) h i l)

  fields : fields_scoped T i b ≡ true
  unfolding stmt_scoped
  fields = sym (stmt_scope T i b) ∙ both_l _ _ stmt

  rest : both (stays_in T i b) (pick (is_call T i) (arguments_scoped T b (stmt_c T i) (stmt_d T i)) true) ≡ true
  unfolding stmt_scoped
  rest = both_r _ _ stmt

  named : names 5 (held T 6 i 1) ≡ true → pick (node_scoped T b (stmt_a T i)) (pick (names 5 (held T 6 i 2)) (node_scoped T b (stmt_b T i)) true) false ≡ true
  unfolding fields_scoped
  named a = rw a at fields

  pub in-a : names 5 (held T 6 i 1) ≡ true → node_scoped T b (stmt_a T i) ≡ true
  in-a a = first _ _ (named a)

  pub in_b : names 5 (held T 6 i 1) ≡ true → names 5 (held T 6 i 2) ≡ true → node_scoped T b (stmt_b T i) ≡ true
  in_b a c = rw c at (next (node_scoped T b (stmt_a T i)) _ (named a))

  pub in_arguments : is_call T i ≡ true → (k : ℕ) → k < stmt_d T i → node_scoped T b (arg_node T (stmt_c T i + k)) ≡ true
  unfolding arguments_scoped argument_scoped
  in_arguments a k m = all-at (stmt_d T i) (argument_scoped T b (stmt_c T i)) (rw a at (both_r (stays_in T i b) _ rest)) k m

  module _ (k : stmt_kind T i ≡ 1) where
    pub assigned : node_scoped T b (stmt_a T i) ≡ true
    unfolding names held row_of rows
    assigned = in-a (rw k)

    pub assigned_value : node_scoped T b (stmt_b T i) ≡ true
    unfolding names held row_of rows
    assigned_value = in_b (rw k) (rw k)

  module _ (k : stmt_kind T i ≡ 2) where
    -- a local call stays in its module
    pub local_owner : owner T (stmt_a T i) ≡ owner T b
    unfolding stays_in
    local_owner = let z : stays_in T i b ≡ true = both_l _ _ rest in eqb-true (owner T (stmt_a T i)) (owner T b) (rw k at z)

    pub local_argument : (j : ℕ) → j < stmt_d T i → node_scoped T b (arg_node T (stmt_c T i + j)) ≡ true
    unfolding is_call names held row_of rows
    local_argument j m = in_arguments (rw k) j m

  module _ (k : stmt_kind T i ≡ 3) where
    pub called_variable : node_scoped T b (stmt_a T i) ≡ true
    unfolding names held row_of rows
    called_variable = in-a (rw k)

    pub called_argument : (j : ℕ) → j < stmt_d T i → node_scoped T b (arg_node T (stmt_c T i + j)) ≡ true
    unfolding is_call names held row_of rows
    called_argument j m = in_arguments (rw k) j m

  pub created_variable : stmt_kind T i ≡ 4 → node_scoped T b (stmt_a T i) ≡ true
  unfolding names held row_of rows
  created_variable k = in-a (rw k)

  module _ (k : stmt_kind T i ≡ 5) where
    pub started_variable : node_scoped T b (stmt_a T i) ≡ true
    unfolding names held row_of rows
    started_variable = in-a (rw k)

    pub started_argument : (j : ℕ) → j < stmt_d T i → node_scoped T b (arg_node T (stmt_c T i + j)) ≡ true
    unfolding is_call names held row_of rows
    started_argument j m = in_arguments (rw k) j m

  pub guard : stmt_kind T i ≡ 10 → node_scoped T b (stmt_a T i) ≡ true
  unfolding names held row_of rows
  guard k = in-a (rw k)

  module _ (k : stmt_kind T i ≡ 12) where
    pub written_address : node_scoped T b (stmt_a T i) ≡ true
    unfolding names held row_of rows
    written_address = in-a (rw k)

    pub written_value : node_scoped T b (stmt_b T i) ≡ true
    unfolding names held row_of rows
    written_value = in_b (rw k) (rw k)
