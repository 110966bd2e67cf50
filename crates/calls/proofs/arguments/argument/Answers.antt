use Rattle.calls.proofs.Passing.{passes}
use Rattle.calls.proofs.arguments.argument.Goals as goal

pub var_argument-requires-clause-rowed : goal.var_argument-requires-clause-rowed
var_argument-requires-clause-rowed c = search passes

pub value_argument-requires-clause-passable : goal.value_argument-requires-clause-passable
value_argument-requires-clause-passable c = search passes

pub value_argument-requires-clause-rowed : goal.value_argument-requires-clause-rowed
value_argument-requires-clause-rowed c = search passes
