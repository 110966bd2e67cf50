use Rattle.scopes.proofs.Scoping.{arguments_given}
use Rattle.scopes.proofs.hand_arguments.Goals as goal

pub returns-then-has_arguments : goal.returns-then-has_arguments
returns-then-has_arguments c = search arguments_given
