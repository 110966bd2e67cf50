-- The user of a node: it stands after the node, and there is one, so a node is used in one block. Assumes nothing.
use Prim.Native.Nat.{ℕ, zero, suc, ◌+◌, ◌-◌, ◌≤◌, ◌<◌}
use mathlib.Core.Path.{◌≡◌, refl, sym, ap, ◌∙◌, subst}
use mathlib.Core.Bool.{Bool, true, false}
use mathlib.Core.List.{[], ◌∷◌}
use mathlib.Core.Logic.{◌⊎◌, inl, inr}
use native.Mathlib.Omega.{arith}
use lib.Dec.{eqb, ltb}
use borrow.Author.Tests.{eq-eqb, eqb-true, ltb-true, ltb-false}
use Rattle.basics.specs.Choice.{pick}
use Rattle.basics.specs.Cases.{cases}
use Rattle.basics.specs.Chain.{free, step_take, test_take, taken}
use Rattle.basics.specs.Marks.{occurs}
use Rattle.basics.proofs.Bools.{no_true}
use Rattle.basics.proofs.Chains.{ends}
use Rattle.basics.proofs.Takes.{at, begins_at}
use Rattle.nesting.specs.Nest.{block_step}
use Rattle.table.specs.Table.{Table}
use Rattle.table.specs.Entries.{arg_node, node_kind, node_p, node_q, stmt_kind, stmt_a, stmt_b, stmt_c, stmt_d, arg_count, node_count, stmt_count}
use Rattle.table.specs.Kinds.{names, rows, row_of, held, is_call}
use Rattle.table.proofs.EachKind.{node_kinds, stmt_kinds}
use Rattle.numbers.specs.Operands.{arguments_taken, call_first, call_count}
use Rattle.numbers.specs.Ranges.{in_range}
use Rattle.numbers.proofs.Parts.{arguments-taken}
use Rattle.numbers.proofs.OperandPromise.{arg-node, field_variable, element_variable, value_variable, unary_operand, binary_left, transfer_operand, element-index, binary_right, assign_variable, assign_value, call_variable, create_variable, start_variable, arm_guard, write_address, write_value, args_there, args_apart}
use Rattle.uses.specs.Uses.{entry_uses, used_once}
use Rattle.uses.proofs.Rows.{arg_uses}
use Rattle.uses.proofs.Promise.{Names, occurs_append, gather_at, gather_some, sum, same_arg, same_stmt, same_node}
use Rattle.scopes.specs.Handed.{called_node, arg_nodes, roots, UsedIn, by_stmt, by_node}
use Rattle.scopes.proofs.Rows.{operands_are, fields_are}

-- ---- lists of one and two numbers

one_of : (x n : ℕ) → 1 ≤ occurs x (n ∷ []) → x ≡ n
unfolding occurs
one_of x n h = cases (eqb n x) (λ e. sym (eqb-true n x e)) (λ e. let k : 1 ≤ 0 = rw e at h in absurd (omega arith))

occurs_one : (x n : ℕ) → x ≡ n → 1 ≤ occurs x (n ∷ [])
unfolding occurs
occurs_one x n e = rw (eq-eqb n x (sym e)) (omega arith)

-- the first, or both, or none, as fields are named
module _ (x a b : ℕ) where
  pub chosen : (p q : Bool) → 1 ≤ occurs x (pick p (pick q (b ∷ a ∷ []) (a ∷ [])) []) → ((p ≡ true) × (x ≡ a)) ⊎ ((p ≡ true) × (q ≡ true) × (x ≡ b))
  unfolding occurs
  chosen false q h = absurd (omega arith)
  chosen true false h = inl (refl, one_of x a h)
  chosen true true h = cases (eqb b x) (λ e. inr (refl, refl, sym (eqb-true b x e))) (λ e. inl (refl, one_of x a (rw e at h)))

  chosen_first : (p q : Bool) → p ≡ true → x ≡ a → 1 ≤ occurs x (pick p (pick q (b ∷ a ∷ []) (a ∷ [])) [])
  unfolding occurs
  chosen_first p true h e = rw h (cases (eqb b x) (λ g. rw (g, eq-eqb a x (sym e)) (omega arith)) (λ g. rw (g, eq-eqb a x (sym e)) (omega arith)))
  chosen_first p false h e = rw h (occurs_one x a e)

  chosen_second : (p q : Bool) → p ≡ true → q ≡ true → x ≡ b → 1 ≤ occurs x (pick p (pick q (b ∷ a ∷ []) (a ∷ [])) [])
  unfolding occurs
  chosen_second p q h g e = rw (h, g, eq-eqb b x (sym e)) (omega arith)

-- ---- operands of nodes, and nodes of statements

module _ (T : Table) (n x : ℕ) where
  pub operand_of : 1 ≤ occurs x (entry_uses T 5 n) → ((names 5 (held T 5 n 1) ≡ true) × (x ≡ node_p T n)) ⊎ ((names 5 (held T 5 n 1) ≡ true) × (names 5 (held T 5 n 2) ≡ true) × (x ≡ node_q T n))
  operand_of h = chosen x (node_p T n) (node_q T n) (names 5 (held T 5 n 1)) (names 5 (held T 5 n 2)) (rw operands_are at h)

  pub first_used : names 5 (held T 5 n 1) ≡ true → x ≡ node_p T n → 1 ≤ occurs x (entry_uses T 5 n)
  first_used h e = rw operands_are (chosen_first x (node_p T n) (node_q T n) (names 5 (held T 5 n 1)) (names 5 (held T 5 n 2)) h e)

  pub second_used : names 5 (held T 5 n 1) ≡ true → names 5 (held T 5 n 2) ≡ true → x ≡ node_q T n → 1 ≤ occurs x (entry_uses T 5 n)
  second_used h g e = rw operands_are (chosen_second x (node_p T n) (node_q T n) (names 5 (held T 5 n 1)) (names 5 (held T 5 n 2)) h g e)

module _ (T : Table) (i x : ℕ) where
  pub field_of : 1 ≤ occurs x (entry_uses T 6 i) → ((names 5 (held T 6 i 1) ≡ true) × (x ≡ stmt_a T i)) ⊎ ((names 5 (held T 6 i 1) ≡ true) × (names 5 (held T 6 i 2) ≡ true) × (x ≡ stmt_b T i))
  field_of h = chosen x (stmt_a T i) (stmt_b T i) (names 5 (held T 6 i 1)) (names 5 (held T 6 i 2)) (rw fields_are at h)

  abbrev pub Argument : Type 0
  Argument = (is_call T i ≡ true) × ((k : ℕ) × (k < stmt_d T i) × (x ≡ arg_node T (stmt_c T i + k)))

  argument_of : 1 ≤ occurs x (arg_nodes T i) → Argument
  unfolding arg_nodes called_node occurs
  argument_of h =
      cases (is_call T i)
      (λ e. let g = gather_some x (called_node T (stmt_c T i)) (stmt_d T i) (rw e at h) in (e, (g.0, g.1, one_of x (arg_node T (stmt_c T i + g.0)) g.2)))
      (λ e. let k : 1 ≤ 0 = rw e at h in absurd (omega arith))

  pub root_of : 1 ≤ occurs x (roots T i) → Argument ⊎ (1 ≤ occurs x (entry_uses T 6 i))
  unfolding roots
  root_of h =
      let s = occurs_append x (arg_nodes T i) (entry_uses T 6 i) in
      cases (ltb 0 (occurs x (entry_uses T 6 i)))
      (λ e. inr (ltb-true 0 (occurs x (entry_uses T 6 i)) e))
      (λ e. inl (argument_of (omega (arith, ltb-false 0 (occurs x (entry_uses T 6 i)) e))))

  pub field_root : 1 ≤ occurs x (entry_uses T 6 i) → 1 ≤ occurs x (roots T i)
  unfolding roots
  field_root h = let s = occurs_append x (arg_nodes T i) (entry_uses T 6 i) in omega arith

  pub a_root : names 5 (held T 6 i 1) ≡ true → x ≡ stmt_a T i → 1 ≤ occurs x (roots T i)
  a_root h e = field_root (rw fields_are (chosen_first x (stmt_a T i) (stmt_b T i) (names 5 (held T 6 i 1)) (names 5 (held T 6 i 2)) h e))

  pub b_root : names 5 (held T 6 i 1) ≡ true → names 5 (held T 6 i 2) ≡ true → x ≡ stmt_b T i → 1 ≤ occurs x (roots T i)
  b_root h g e = field_root (rw fields_are (chosen_second x (stmt_a T i) (stmt_b T i) (names 5 (held T 6 i 1)) (names 5 (held T 6 i 2)) h g e))

  pub argument_root : is_call T i ≡ true → (k : ℕ) → k < stmt_d T i → x ≡ arg_node T (stmt_c T i + k) → 1 ≤ occurs x (roots T i)
  unfolding roots arg_nodes called_node
  argument_root c k l e =
      let s = occurs_append x (arg_nodes T i) (entry_uses T 6 i) in
      let g : 1 ≤ occurs x (arg_nodes T i) =
      rw c (let a = gather_at x (called_node T (stmt_c T i)) (stmt_d T i) k l in let o = occurs_one x (arg_node T (stmt_c T i + k)) e in omega arith) in
      omega arith

-- ---- numbers taken in order: each is taken by one

module _ (takes : ℕ → Bool) (first count : ℕ → ℕ) (m total : ℕ) (h : taken takes first count m total ≡ true) where
  taker_below : (i j : ℕ) → i ≤ m → j < free (step_take takes first count) i → (n : ℕ) × (n < i) × (takes n ≡ true) × (k : ℕ) × (k < count n) × (j ≡ first n + k)
  unfolding free step_take at
  taker_below zero j l g = absurd (omega arith)
  taker_below (suc i) j l g =
      cases (takes i)
      (λ e.
      let a : first i ≡ free (step_take takes first count) i = begins_at takes first count m total h i (omega arith) e in
      let b : j < first i + count i = rw e at g in
      cases (ltb j (first i))
      (λ d. let r = taker_below i j (omega arith) (omega (arith, ltb-true j (first i) d)) in (r.0, omega (arith, r.1), r.2, r.3, r.4, r.5))
      (λ d. let q = ltb-false j (first i) d in (i, omega arith, e, j - first i, omega arith, omega arith)))
      (λ e. let b : j < free (step_take takes first count) i = rw e at g in let r = taker_below i j (omega arith) b in (r.0, omega (arith, r.1), r.2, r.3, r.4, r.5))

  pub taker : (j : ℕ) → j < total → (n : ℕ) × (n < m) × (takes n ≡ true) × (k : ℕ) × (k < count n) × (j ≡ first n + k)
  unfolding taken
  taker j l = let e = ends (step_take takes first count) (test_take takes first) m total h in taker_below m j (omega arith) (omega arith)

-- ---- what rule 4 says of users

module _ (T : Table) (ranged : in_range T ≡ true) where
  module _ (n : ℕ) (l : n < node_count T) where
    p_before : (k : ℕ) → node_kind T n ≡ k → names 5 (held T 5 n 1) ≡ true → node_p T n < n
    unfolding names held row_of rows
    p_before =
        node_kinds (λ k. node_kind T n ≡ k → names 5 (held T 5 n 1) ≡ true → node_p T n < n)
        (λ e h. no_true (rw e at h)) (λ e h. no_true (rw e at h))
        (λ e h. (field_variable T ranged n l e).below) (λ e h. (element_variable T ranged n l e).below) (λ e h. (value_variable T ranged n l e).below)
        (λ e h. (unary_operand T ranged n l e).below) (λ e h. (binary_left T ranged n l e).below) (λ e h. (transfer_operand T ranged n l e).below)
        (λ e h. no_true (rw e at h)) (λ k e h. no_true (rw e at h))

    q_before : (k : ℕ) → node_kind T n ≡ k → names 5 (held T 5 n 2) ≡ true → node_q T n < n
    unfolding names held row_of rows
    q_before =
        node_kinds (λ k. node_kind T n ≡ k → names 5 (held T 5 n 2) ≡ true → node_q T n < n)
        (λ e h. no_true (rw e at h)) (λ e h. no_true (rw e at h)) (λ e h. no_true (rw e at h))
        (λ e h. (element-index T ranged n l e).below)
        (λ e h. no_true (rw e at h)) (λ e h. no_true (rw e at h))
        (λ e h. (binary_right T ranged n l e).below)
        (λ e h. no_true (rw e at h)) (λ e h. no_true (rw e at h)) (λ k e h. no_true (rw e at h))

    pub first_before : names 5 (held T 5 n 1) ≡ true → node_p T n < n
    first_before = p_before (node_kind T n) refl

    pub second_before : names 5 (held T 5 n 2) ≡ true → node_q T n < n
    second_before = q_before (node_kind T n) refl

    pub use_before : (x : ℕ) → 1 ≤ occurs x (entry_uses T 5 n) → x < n
    use_before x h = go (operand_of T n x h)
      where
        go : ((names 5 (held T 5 n 1) ≡ true) × (x ≡ node_p T n)) ⊎ ((names 5 (held T 5 n 1) ≡ true) × (names 5 (held T 5 n 2) ≡ true) × (x ≡ node_q T n)) → x < n
        go (inl (a, e)) = let b = first_before a in omega arith
        go (inr (a, c, e)) = let b = second_before c in omega arith

  module _ (i : ℕ) (l : i < stmt_count T) where
    a_there : (k : ℕ) → stmt_kind T i ≡ k → names 5 (held T 6 i 1) ≡ true → stmt_a T i < node_count T
    unfolding names held row_of rows
    a_there =
        stmt_kinds (λ k. stmt_kind T i ≡ k → names 5 (held T 6 i 1) ≡ true → stmt_a T i < node_count T)
        (λ e h. no_true (rw e at h)) (λ e h. (assign_variable T ranged i l e).below) (λ e h. no_true (rw e at h))
        (λ e h. (call_variable T ranged i l e).below) (λ e h. (create_variable T ranged i l e).below) (λ e h. (start_variable T ranged i l e).below)
        (λ e h. no_true (rw e at h)) (λ e h. no_true (rw e at h)) (λ e h. no_true (rw e at h)) (λ e h. no_true (rw e at h))
        (λ e h. (arm_guard T ranged i l e).below) (λ e h. no_true (rw e at h)) (λ e h. (write_address T ranged i l e).below)
        (λ e h. no_true (rw e at h)) (λ k e h. no_true (rw e at h))

    b_there : (k : ℕ) → stmt_kind T i ≡ k → names 5 (held T 6 i 2) ≡ true → stmt_b T i < node_count T
    unfolding names held row_of rows
    b_there =
        stmt_kinds (λ k. stmt_kind T i ≡ k → names 5 (held T 6 i 2) ≡ true → stmt_b T i < node_count T)
        (λ e h. no_true (rw e at h)) (λ e h. (assign_value T ranged i l e).below) (λ e h. no_true (rw e at h))
        (λ e h. no_true (rw e at h)) (λ e h. no_true (rw e at h)) (λ e h. no_true (rw e at h))
        (λ e h. no_true (rw e at h)) (λ e h. no_true (rw e at h)) (λ e h. no_true (rw e at h)) (λ e h. no_true (rw e at h))
        (λ e h. no_true (rw e at h)) (λ e h. no_true (rw e at h)) (λ e h. (write_value T ranged i l e).below)
        (λ e h. no_true (rw e at h)) (λ k e h. no_true (rw e at h))

    -- the nodes that a statement uses are there
    pub a_below : names 5 (held T 6 i 1) ≡ true → stmt_a T i < node_count T
    a_below = a_there (stmt_kind T i) refl

    pub b_below : names 5 (held T 6 i 2) ≡ true → stmt_b T i < node_count T
    b_below = b_there (stmt_kind T i) refl

    pub argument_below : is_call T i ≡ true → (k : ℕ) → k < stmt_d T i → stmt_c T i + k < arg_count T
    argument_below c k m = let t = args_there T ranged i l c in omega arith

    pub called_below : is_call T i ≡ true → (k : ℕ) → k < stmt_d T i → arg_node T (stmt_c T i + k) < node_count T
    called_below c k m = arg-node T ranged (stmt_c T i + k) (argument_below c k m)

  -- an argument is a call's
  pub call_of : (a : ℕ) → a < arg_count T → (i : ℕ) × (i < stmt_count T) × (is_call T i ≡ true) × (k : ℕ) × (k < stmt_d T i) × (a ≡ stmt_c T i + k)
  unfolding arguments_taken call_first call_count
  call_of a l = taker (is_call T) (call_first T) (call_count T) (stmt_count T) (arg_count T) (arguments-taken T ranged) a l

  -- and of one
  pub one_call : (i j k m : ℕ) → i < stmt_count T → j < stmt_count T → is_call T i ≡ true → is_call T j ≡ true → k < stmt_d T i → m < stmt_d T j → stmt_c T i + k ≡ stmt_c T j + m → i ≡ j
  one_call i j k m p q c d r s e =
      cases (ltb i j) (λ g. let t = args_apart T ranged i j (ltb-true i j g) q c d in absurd (omega arith))
      (λ g.
      cases (ltb j i) (λ f. let t = args_apart T ranged j i (ltb-true j i f) p d c in absurd (omega arith))
      (λ f. omega (arith, ltb-false i j g, ltb-false j i f)))

-- ---- rule 5: a node is used in one block

arg_named : (T : Table) (x a : ℕ) → x ≡ arg_node T a → Names x (entry_uses T 4) a
arg_named T x a e = rw (arg_uses T a) (occurs_one x (arg_node T a) e)

pub named_arg : (T : Table) (x a : ℕ) → Names x (entry_uses T 4) a → x ≡ arg_node T a
named_arg T x a h = one_of x (arg_node T a) (rw (arg_uses T a) at h)

module _ (T : Table) (used : used_once T ≡ true) (x : ℕ) (there : x < node_count T) where
  no_arg_stmt : (a i : ℕ) → a < arg_count T → i < stmt_count T → Names x (entry_uses T 4) a → Names x (entry_uses T 6) i → ⊥
  no_arg_stmt a i p q m n = let s = sum T used x there in let g = gather_at x (entry_uses T 4) (arg_count T) a p in let h = gather_at x (entry_uses T 6) (stmt_count T) i q in absurd (omega arith)

  no_arg_node : (a i : ℕ) → a < arg_count T → i < node_count T → Names x (entry_uses T 4) a → Names x (entry_uses T 5) i → ⊥
  no_arg_node a i p q m n = let s = sum T used x there in let g = gather_at x (entry_uses T 4) (arg_count T) a p in let h = gather_at x (entry_uses T 5) (node_count T) i q in absurd (omega arith)

  no_stmt_node : (a i : ℕ) → a < stmt_count T → i < node_count T → Names x (entry_uses T 6) a → Names x (entry_uses T 5) i → ⊥
  no_stmt_node a i p q m n = let s = sum T used x there in let g = gather_at x (entry_uses T 6) (stmt_count T) a p in let h = gather_at x (entry_uses T 5) (node_count T) i q in absurd (omega arith)

  module _ (ranged : in_range T ≡ true) where
    one_root : (i j : ℕ) → i < stmt_count T → j < stmt_count T → Argument T i x ⊎ Names x (entry_uses T 6) i → Argument T j x ⊎ Names x (entry_uses T 6) j → i ≡ j
    one_root i j p q (inl (c, (k, l, e))) (inl (d, (m, r, f))) =
        let a = argument_below T ranged i p c k l in
        let b = argument_below T ranged j q d m r in
        one_call T ranged i j k m p q c d l r (same_arg T used x there (stmt_c T i + k) (stmt_c T j + m) a b (arg_named T x (stmt_c T i + k) e) (arg_named T x (stmt_c T j + m) f))
    one_root i j p q (inl (c, (k, l, e))) (inr h) = absurd (no_arg_stmt (stmt_c T i + k) j (argument_below T ranged i p c k l) q (arg_named T x (stmt_c T i + k) e) h)
    one_root i j p q (inr h) (inl (d, (m, r, f))) = absurd (no_arg_stmt (stmt_c T j + m) i (argument_below T ranged j q d m r) p (arg_named T x (stmt_c T j + m) f) h)
    one_root i j p q (inr h) (inr g) = same_stmt T used x there i j p q h g

    no_root_node : (i n : ℕ) → i < stmt_count T → n < node_count T → Argument T i x ⊎ Names x (entry_uses T 6) i → Names x (entry_uses T 5) n → ⊥
    no_root_node i n p q (inl (c, (k, l, e))) g = no_arg_node (stmt_c T i + k) n (argument_below T ranged i p c k l) q (arg_named T x (stmt_c T i + k) e) g
    no_root_node i n p q (inr h) g = no_stmt_node i n p q h g

pub one_block : (T : Table) → in_range T ≡ true → used_once T ≡ true → (x b d : ℕ) → x < node_count T → UsedIn T x b → UsedIn T x d → b ≡ d
one_block T ranged used x b d l (by_stmt i p h e) (by_stmt j q g f) =
    let s : i ≡ j = one_root T used x l ranged i j p q (root_of T i x h) (root_of T j x g) in
    e ∙ ap (free (block_step T)) s ∙ sym f
one_block T ranged used x b d l (by_stmt i p h e) (by_node n q g u) = absurd (no_root_node T used x l ranged i n p q (root_of T i x h) g)
one_block T ranged used x b d l (by_node n q g u) (by_stmt i p h e) = absurd (no_root_node T used x l ranged i n p q (root_of T i x h) g)
one_block T ranged used x b d l (by_node n q g u) (by_node m r k w) =
    let s : m ≡ n = same_node T used x l m n r q k g in
    one_block T ranged used n b d q u (subst (λ j. UsedIn T j d) s w)
