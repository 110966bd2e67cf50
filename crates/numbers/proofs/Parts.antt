-- A table that escapes refusal 4, taken apart: each row passes its test. Assumes nothing.
use Prim.Native.Nat.{ℕ, ◌+◌, ◌≤◌, ◌<◌}
use mathlib.Core.Path.{◌≡◌, sym, ◌∙◌}
use mathlib.Core.Bool.{true}
use borrow.Author.Tests.{leb-true, ltb-true}
use Rattle.basics.proofs.Bools.{both_l, both_r, all-at}
use Rattle.table.specs.Table.{Table}
use Rattle.table.specs.Entries.{var_type, arg_node, type_count, var_count, block_count, arg_count, node_count, stmt_count}
use Rattle.numbers.specs.Sorts.{entry_ranged}
use Rattle.numbers.specs.Declarations.{fields_taken, type_ranged, named_once, modules_once}
use Rattle.numbers.specs.Blocks.{variables_taken, block_ranged}
use Rattle.numbers.specs.Operands.{node_ranged, arguments_taken, characters_taken}
use Rattle.numbers.specs.Tested.{type_tested, node_tested, stmt_tested}
use Rattle.numbers.specs.Ranges.{in_order, types_ranged, declarations_ranged, operands_ranged, in_range}
use Rattle.numbers.proofs.Rows.{type-tested, var_tested, arg_tested, node-tested, stmt-tested}

module _ (T : Table) (h : in_range T ≡ true) where
  in-order : in_order T ≡ true
  unfolding in_range
  in-order = both_l _ _ h

  types : types_ranged T ≡ true
  unfolding in_range
  types = both_l _ _ (both_r _ _ h)

  declarations : declarations_ranged T ≡ true
  unfolding in_range
  declarations = both_l _ _ (both_r _ _ (both_r _ _ h))

  operands : operands_ranged T ≡ true
  unfolding in_range
  operands = both_r _ _ (both_r _ _ (both_r _ _ h))

  pub fields-taken : fields_taken T ≡ true
  unfolding in_order
  fields-taken = both_l _ _ in-order

  pub variables-taken : variables_taken T ≡ true
  unfolding in_order
  variables-taken = both_l _ _ (both_r _ _ in-order)

  pub arguments-taken : arguments_taken T ≡ true
  unfolding in_order
  arguments-taken = both_l _ _ (both_r _ _ (both_r _ _ in-order))

  pub characters-taken : characters_taken T ≡ true
  unfolding in_order
  characters-taken = both_r _ _ (both_r _ _ (both_r _ _ in-order))

  pub type_row : (i : ℕ) → i < type_count T → type_tested T i ≡ true
  unfolding types_ranged
  type_row i l = sym (type-tested T i) ∙ all-at _ (type_ranged T) (both_l _ _ types) i l

  pub module_row : (b : ℕ) → b < block_count T → named_once T b ≡ true
  unfolding types_ranged modules_once
  module_row b l = all-at _ (named_once T) (both_r _ _ types) b l

  pub some_block : 1 ≤ block_count T
  unfolding declarations_ranged
  some_block = leb-true 1 (block_count T) (both_l _ _ declarations)

  pub var_row : (x : ℕ) → x < var_count T → var_type T x < 3 + type_count T
  unfolding declarations_ranged
  var_row x l = ltb-true _ _ (sym (var_tested T x) ∙ all-at _ (entry_ranged T 2) (both_l _ _ (both_r _ _ declarations)) x l)

  pub block_row : (b : ℕ) → b < block_count T → block_ranged T b ≡ true
  unfolding declarations_ranged
  block_row b l = all-at _ (block_ranged T) (both_r _ _ (both_r _ _ declarations)) b l

  pub arg_row : (i : ℕ) → i < arg_count T → arg_node T i < node_count T
  unfolding operands_ranged
  arg_row i l = ltb-true _ _ (sym (arg_tested T i) ∙ all-at _ (entry_ranged T 4) (both_l _ _ operands) i l)

  pub node_row : (n : ℕ) → n < node_count T → node_tested T n ≡ true
  unfolding operands_ranged
  node_row n l = sym (node-tested T n) ∙ all-at _ (node_ranged T) (both_l _ _ (both_r _ _ operands)) n l

  pub stmt_row : (i : ℕ) → i < stmt_count T → stmt_tested T i ≡ true
  unfolding operands_ranged
  stmt_row i l = sym (stmt-tested T i) ∙ all-at _ (entry_ranged T 6) (both_r _ _ (both_r _ _ operands)) i l
