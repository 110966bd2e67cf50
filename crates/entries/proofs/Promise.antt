-- What a table that escapes refusal 3 promises. Assumes nothing.
use Prim.Native.Nat.{ℕ, ◌+◌, ◌≤◌, ◌<◌}
use mathlib.Core.Path.{◌≡◌, sym, ◌∙◌}
use mathlib.Core.Bool.{true}
use borrow.Author.Tests.{leb-true}
use Rattle.basics.proofs.Bools.{both_l, both_r, between_true, all-at}
use Rattle.table.specs.Table.{Table}
use Rattle.table.specs.Entries.{type_kind, var_mode, block_kind, node_kind, node_q, node_v, stmt_kind, type_count, var_count, block_count, node_count, stmt_count}
use Rattle.entries.specs.Tested.{type_known, var_known, block_known, operator_known, node_known, stmt_known, declarations_known, tested}
use Rattle.entries.specs.Known.{known}
use Rattle.entries.proofs.Rows.{known_tested}

module _ (T : Table) (h : known T ≡ true) where
  rows : tested T ≡ true
  rows = sym (known_tested T) ∙ h

  declarations : declarations_known T ≡ true
  declarations = both_l _ _ rows

  types : (i : ℕ) → i < type_count T → type_known T i ≡ true
  types i l = all-at _ (type_known T) (both_l _ _ declarations) i l

  vars : (i : ℕ) → i < var_count T → var_known T i ≡ true
  vars i l = all-at _ (var_known T) (both_l _ _ (both_r _ _ declarations)) i l

  blocks : (i : ℕ) → i < block_count T → block_known T i ≡ true
  blocks i l = all-at _ (block_known T) (both_r _ _ (both_r _ _ declarations)) i l

  nodes : (i : ℕ) → i < node_count T → node_known T i ≡ true
  nodes i l = all-at _ (node_known T) (both_l _ _ (both_r _ _ rows)) i l

  stmts : (i : ℕ) → i < stmt_count T → stmt_known T i ≡ true
  stmts i l = all-at _ (stmt_known T) (both_r _ _ (both_r _ _ rows)) i l

  -- THE PROMISE
  pub type-kind : (i : ℕ) → i < type_count T → (1 ≤ type_kind T (3 + i)) × (type_kind T (3 + i) ≤ 3)
  type-kind i l = between_true 1 3 (type_kind T (3 + i)) (both_l _ _ (types i l))

  pub var-mode : (i : ℕ) → i < var_count T → var_mode T i ≤ 2
  var-mode i l = leb-true (var_mode T i) 2 (vars i l)

  pub block-kind : (i : ℕ) → i < block_count T → block_kind T i ≤ 2
  block-kind i l = leb-true (block_kind T i) 2 (blocks i l)

  pub node-kind : (i : ℕ) → i < node_count T → node_kind T i ≤ 8
  node-kind i l = leb-true (node_kind T i) 8 (both_l _ _ (nodes i l))

  operators : (i : ℕ) → i < node_count T → operator_known T i ≡ true
  operators i l = both_r _ _ (both_r _ _ (both_r _ _ (nodes i l)))

  pub unary_operator : (i : ℕ) → i < node_count T → node_kind T i ≡ 5 → (1 ≤ node_q T i) × (node_q T i ≤ 3)
  unary_operator i l e = between_true 1 3 (node_q T i) (rw e at (operators i l))

  pub binary_operator : (i : ℕ) → i < node_count T → node_kind T i ≡ 6 → (1 ≤ node_v T i) × (node_v T i ≤ 13)
  binary_operator i l e = between_true 1 13 (node_v T i) (rw e at (operators i l))

  pub stmt-kind : (i : ℕ) → i < stmt_count T → stmt_kind T i ≤ 13
  stmt-kind i l = leb-true (stmt_kind T i) 13 (both_l _ _ (stmts i l))
