use Rattle.calls.proofs.Entering.{invoking_lent, invoking_calling, invoking_fails, invoking_enters}
use Rattle.calls.proofs.processes.call_process.Goals as goal

pub arguments-requires-clause-calling : goal.arguments-requires-clause-calling
arguments-requires-clause-calling c = search invoking_calling

pub fail-requires : goal.fail-requires
fail-requires c = search invoking_lent

pub enter_process-requires-clause-entering : goal.enter_process-requires-clause-entering
enter_process-requires-clause-entering c = invoking_enters _ _ _ _ _ _ _ _ _ _ c.requires.invoking _ _ _ c.arguments.ensures _ c.in-Ok.is

pub returns-in-Err : goal.returns-in-Err
returns-in-Err c = search invoking_fails
