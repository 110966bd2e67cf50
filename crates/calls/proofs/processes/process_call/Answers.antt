use Rattle.evaluation.proofs.Roots.{roots}
use Rattle.transfers.proofs.Steps.{stands_lent}
use Rattle.calls.proofs.Serving.{process_referring, process_serving, process_fails}
use Rattle.calls.proofs.processes.process_call.Goals as goal

pub reference-requires-clause-referring : goal.reference-requires-clause-referring
reference-requires-clause-referring c = search process_referring

pub reference-requires-clause-rowed : goal.reference-requires-clause-rowed
reference-requires-clause-rowed c = search roots

pub fail-requires : goal.fail-requires
fail-requires c = search stands_lent

pub serve-requires-clause-serving : goal.serve-requires-clause-serving
serve-requires-clause-serving c = process_serving _ _ _ _ c.requires.acting.standing c.requires.statement_value _ c.stmt_a-a.ensures.is _ c.reference.ensures _ c.in-Ok.is

pub returns-in-Err : goal.returns-in-Err
returns-in-Err c = search process_fails
