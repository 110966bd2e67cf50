-- Trusted: public promises are said with these definitions.
-- Refusal 4: 'a number outside its section or given range, or (statement numbers apart) of the wrong sort or against the order rules; block 0
-- missing, no program or with parameters; another program; mode 0 among parameters or another mode after them; a wrong space'. Assumes nothing.
use Rattle.std.specs.Prelude.{Bool, leb}
use Rattle.basics.specs.Choice.{both, all_below}
use Rattle.table.specs.Table.{Table}
use Rattle.table.specs.Entries.{type_count, var_count, block_count, arg_count, node_count, stmt_count}
use Rattle.numbers.specs.Sorts.{entry_ranged}
use Rattle.numbers.specs.Declarations.{fields_taken, type_ranged, modules_once}
use Rattle.numbers.specs.Blocks.{variables_taken, block_ranged}
use Rattle.numbers.specs.Operands.{node_ranged, arguments_taken, characters_taken}

unfoldable pub in_order : Table → Bool
in_order T = both (fields_taken T) (both (variables_taken T) (both (arguments_taken T) (characters_taken T)))

unfoldable pub types_ranged : Table → Bool
types_ranged T = both (all_below (type_count T) (type_ranged T)) (modules_once T)

unfoldable pub declarations_ranged : Table → Bool
declarations_ranged T =
    both (leb 1 (block_count T)) (both (all_below (var_count T) (entry_ranged T 2)) (all_below (block_count T) (block_ranged T)))

unfoldable pub operands_ranged : Table → Bool
operands_ranged T =
    both (all_below (arg_count T) (entry_ranged T 4))
    (both (all_below (node_count T) (node_ranged T)) (all_below (stmt_count T) (entry_ranged T 6)))

-- THE RULE of refusal 4
unfoldable pub in_range : Table → Bool
in_range T = both (in_order T) (both (types_ranged T) (both (declarations_ranged T) (operands_ranged T)))
