use Rattle.state_rule.proofs.Chains.{lies_after}
use Rattle.state_rule.proofs.chained.lies_in.Goals as goal

pub returns-then-first_stmt-i : goal.returns-then-first_stmt-i
returns-then-first_stmt-i c = search lies_after
