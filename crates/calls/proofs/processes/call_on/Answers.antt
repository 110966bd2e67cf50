use Rattle.evaluation.proofs.Roots.{call_arguments}
use Rattle.calls.proofs.Serving.{serving_invoking, serving_none}
use Rattle.calls.proofs.processes.call_on.Goals as goal

pub enter_process-requires-clause-entering : goal.enter_process-requires-clause-entering
enter_process-requires-clause-entering c = search serving_none

pub call_process-requires-clause-invoking : goal.call_process-requires-clause-invoking
call_process-requires-clause-invoking c = search serving_invoking

pub call_process-requires-clause-argument_rows : goal.call_process-requires-clause-argument_rows
call_process-requires-clause-argument_rows c = search call_arguments
