use Rattle.evaluation.proofs.Roots.{roots}
use Rattle.transfers.proofs.Steps.{stands_lent}
use Rattle.calls.proofs.Starting.{start_referring, start_starting, start_refuses}
use Rattle.calls.proofs.processes.start.Goals as goal

pub reference-requires-clause-referring : goal.reference-requires-clause-referring
reference-requires-clause-referring c = search start_referring

pub reference-requires-clause-rowed : goal.reference-requires-clause-rowed
reference-requires-clause-rowed c = search roots

pub fail-requires : goal.fail-requires
fail-requires c = search stands_lent

pub start_once-requires-clause-starting : goal.start_once-requires-clause-starting
start_once-requires-clause-starting c = start_starting _ _ _ _ c.requires.acting.standing c.requires.statement_value _ c.stmt_a-a.ensures.is _ c.reference.ensures _ c.in-Ok.is

pub returns-in-Err : goal.returns-in-Err
returns-in-Err c = search start_refuses
