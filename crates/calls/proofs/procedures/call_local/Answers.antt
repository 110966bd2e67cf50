use Rattle.calls.proofs.Entering.{invoking_calling, invoking_fails, invoking_enters}
use Rattle.calls.proofs.procedures.call_local.Goals as goal

pub arguments-requires-clause-calling : goal.arguments-requires-clause-calling
arguments-requires-clause-calling c = search invoking_calling

pub enter_local-requires : goal.enter_local-requires
enter_local-requires c = invoking_enters _ _ _ _ _ _ _ _ _ _ c.requires.invoking _ _ _ c.arguments.ensures _ c.in-Ok.is

pub returns-in-Err : goal.returns-in-Err
returns-in-Err c = search invoking_fails
