use Rattle.evaluation.proofs.Roots.{local_arguments}
use Rattle.calls.proofs.Entering.{local_invoking, local_none}
use Rattle.calls.proofs.procedures.local_call.Goals as goal

pub enter_local-requires : goal.enter_local-requires
enter_local-requires c = search local_none

pub call_local-requires-clause-invoking : goal.call_local-requires-clause-invoking
call_local-requires-clause-invoking c = search local_invoking

pub call_local-requires-clause-argument_rows : goal.call_local-requires-clause-argument_rows
call_local-requires-clause-argument_rows c = search local_arguments
