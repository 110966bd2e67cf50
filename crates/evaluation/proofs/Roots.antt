-- The nodes of statements and of arguments have their rows, which are kept since nothing else uses them. Assumes nothing.
use Prim.Native.Nat.{ℕ, ◌+◌, ◌<◌, ◌≤◌}
use mathlib.Core.Path.{◌≡◌, refl}
use mathlib.Core.Bool.{true}
use mathlib.Core.List.{List}
use native.Mathlib.Omega.{arith}
use borrow.Author.Tests.{lt-ltb}
use Rattle.table.specs.Table.{Table}
use Rattle.table.specs.Entries.{arg_count, arg_node, node_count, stmt_count, stmt_kind, stmt_a, stmt_b, stmt_c, stmt_d}
use Rattle.numbers.specs.Ranges.{in_range}
use Rattle.numbers.proofs.OperandPromise as numbers
use Rattle.uses.specs.Marked.{stmt_nodes}
use Rattle.code.specs.Code.{decoded}
use Rattle.machine.specs.Memory.{memory_of}
use Rattle.operands.specs.declared.Context.{Context}
use Rattle.operands.specs.Ready.{context_in, Ready}
use Rattle.effects.proofs.Carrying.{statement_there}
use Rattle.engine.specs.Making.{HasRow}
use Rattle.engine.proofs.Answers.{rooted_arg, rooted_a, rooted_b}
use Rattle.evaluation.specs.Acting.{ArgumentRows, GuardRows, takes_first, takes_both, has_arguments, opens, Rowed, Acting}

-- a statement of kind j uses nodes
uses_some : (j k : ℕ) → 1 ≤ stmt_nodes j → k ≡ j → stmt_nodes k ≡ 0 → ⊥
uses_some j k l e z = let q = rw e at z in omega arith

uses_two : (j k : ℕ) → stmt_nodes j ≡ 2 → k ≡ j → stmt_nodes k ≡ 2
uses_two j k l e = rw e l

-- the guard of an arm
pub arm_rowed : (T : Table) (k : List ℕ) → in_range T ≡ true → (i : ℕ) → i < stmt_count T → stmt_kind T i ≡ 10 → HasRow T k (stmt_a T i) → Rowed T k (stmt_a T i)
unfolding stmt_nodes
arm_rowed T k h i l e r = record { rooted = rooted_a T i l (numbers.arm_guard T h i l e).below (uses_some 10 _ (omega arith) e); row = r }

module _ (c k m p : List ℕ) (x : Context) (h : Acting c k m p x) where
  there : x.statement < stmt_count (decoded c)
  unfolding context_in
  there = statement_there (decoded c) (memory_of m) (memory_of p) (context_in x) h.standing.unstuck

  ranged : in_range (decoded c) ≡ true
  ranged = h.standing.ready.ranged

  module _ (a : ℕ) (ha : a ≡ stmt_a (decoded c) x.statement) where
    first : (j : ℕ) → 1 ≤ stmt_nodes j → takes_first j ≡ true → stmt_kind (decoded c) x.statement ≡ j → stmt_a (decoded c) x.statement < node_count (decoded c) → Rowed (decoded c) k a
    first j l t e b = rw ha (record { rooted = rooted_a (decoded c) x.statement there b (uses_some j _ l e); row = h.rows.first (rw e t) })

    pub assign_rowed : stmt_kind (decoded c) x.statement ≡ 1 → Rowed (decoded c) k a
    unfolding stmt_nodes takes_first takes_both
    assign_rowed e = first 1 (omega arith) refl e (numbers.assign_variable (decoded c) ranged x.statement there e).below

    pub call_rowed : stmt_kind (decoded c) x.statement ≡ 3 → Rowed (decoded c) k a
    unfolding stmt_nodes takes_first takes_both
    call_rowed e = first 3 (omega arith) refl e (numbers.call_variable (decoded c) ranged x.statement there e).below

    pub create_rowed : stmt_kind (decoded c) x.statement ≡ 4 → Rowed (decoded c) k a
    unfolding stmt_nodes takes_first takes_both
    create_rowed e = first 4 (omega arith) refl e (numbers.create_variable (decoded c) ranged x.statement there e).below

    pub start_rowed : stmt_kind (decoded c) x.statement ≡ 5 → Rowed (decoded c) k a
    unfolding stmt_nodes takes_first takes_both
    start_rowed e = first 5 (omega arith) refl e (numbers.start_variable (decoded c) ranged x.statement there e).below

    pub write_rowed : stmt_kind (decoded c) x.statement ≡ 12 → Rowed (decoded c) k a
    unfolding stmt_nodes takes_first takes_both
    write_rowed e = first 12 (omega arith) refl e (numbers.write_address (decoded c) ranged x.statement there e).below

  module _ (b : ℕ) (hb : b ≡ stmt_b (decoded c) x.statement) where
    second : (j : ℕ) → stmt_nodes j ≡ 2 → takes_both j ≡ true → stmt_kind (decoded c) x.statement ≡ j → stmt_b (decoded c) x.statement < node_count (decoded c) → Rowed (decoded c) k b
    second j l t e a = rw hb (record { rooted = rooted_b (decoded c) x.statement there a (uses_two j _ l e); row = h.rows.second (rw e t) })

    pub assigned_rowed : stmt_kind (decoded c) x.statement ≡ 1 → Rowed (decoded c) k b
    unfolding stmt_nodes takes_both
    assigned_rowed e = second 1 refl refl e (numbers.assign_value (decoded c) ranged x.statement there e).below

    pub written_rowed : stmt_kind (decoded c) x.statement ≡ 12 → Rowed (decoded c) k b
    unfolding stmt_nodes takes_both
    written_rowed e = second 12 refl refl e (numbers.write_value (decoded c) ranged x.statement there e).below

  -- the arguments of a call or start, and the guards of what opens arms
  module _ (v d : ℕ) (hv : v ≡ stmt_c (decoded c) x.statement) (hd : d ≡ stmt_d (decoded c) x.statement) where
    pub local_arguments : stmt_kind (decoded c) x.statement ≡ 2 → ArgumentRows (decoded c) k v d
    unfolding has_arguments
    local_arguments e = rw (hv, hd) (h.rows.arguments (rw e refl))

    pub call_arguments : stmt_kind (decoded c) x.statement ≡ 3 → ArgumentRows (decoded c) k v d
    unfolding has_arguments
    call_arguments e = rw (hv, hd) (h.rows.arguments (rw e refl))

    pub start_arguments : stmt_kind (decoded c) x.statement ≡ 5 → ArgumentRows (decoded c) k v d
    unfolding has_arguments
    start_arguments e = rw (hv, hd) (h.rows.arguments (rw e refl))

  pub open_guards : 6 ≤ stmt_kind (decoded c) x.statement → stmt_kind (decoded c) x.statement ≤ 9 → GuardRows (decoded c) k (stmt_count (decoded c)) (x.statement + 1)
  unfolding opens
  open_guards a b = h.rows.guards (rw (lt-ltb 5 (stmt_kind (decoded c) x.statement) a, lt-ltb (stmt_kind (decoded c) x.statement) 10 (omega arith)))

pub arg_rowed : (c k m p : List ℕ) (x : Context) → Ready c m p x → (i n : ℕ) → i < arg_count (decoded c) → n ≡ arg_node (decoded c) i → HasRow (decoded c) k (arg_node (decoded c) i) → Rowed (decoded c) k n
arg_rowed c k m p x h i n l e r = rw e (record { rooted = rooted_arg (decoded c) h.ranged i l; row = r })

pub ruleset roots = (assign_rowed, call_rowed, create_rowed, start_rowed, write_rowed, assigned_rowed, written_rowed, arg_rowed, local_arguments, call_arguments, start_arguments, open_guards)
