use Rattle.transfers.proofs.Assigning.{assigns, assigned, assign_target}
use Rattle.evaluation.proofs.Roots.{roots}
use borrow.Author.Rules.{rules}
use Rattle.transfers.proofs.assignments.assign.Goals as goal

pub select-l-requires-clause-selectable : goal.select-l-requires-clause-selectable
select-l-requires-clause-selectable c = search assigns

pub select-l-requires-clause-rowed : goal.select-l-requires-clause-rowed
select-l-requires-clause-rowed c = search roots

pub fail_by-requires-clause-le_r : goal.fail_by-requires-clause-le_r
fail_by-requires-clause-le_r c = (search rules, c.select-l.ensures.listed.is (search rules))

pub returns-then-l-ge-FAILURES : goal.returns-then-l-ge-FAILURES
returns-then-l-ge-FAILURES c = search assigned

pub assign_at-requires-clause-assigning : goal.assign_at-requires-clause-assigning
assign_at-requires-clause-assigning c = search assign_target
