use Rattle.evaluation.proofs.Roots.{start_arguments}
use Rattle.calls.proofs.Starting.{starting_lent, start_calling, start_fails, start_begins}
use Rattle.calls.proofs.processes.start_created.Goals as goal

pub arguments-requires-clause-calling : goal.arguments-requires-clause-calling
arguments-requires-clause-calling c = start_calling _ _ _ _ _ c.requires.starting c.requires.r_value _ _ _ _ _ c.stmt_a-a.ensures.is c.type_of-y.ensures.is c.type_p-b.ensures.is c.stmt_c-from.ensures.is c.stmt_d-d.ensures.is

pub arguments-requires-clause-argument_rows : goal.arguments-requires-clause-argument_rows
arguments-requires-clause-argument_rows c = search start_arguments

pub fail-requires : goal.fail-requires
fail-requires c = search starting_lent

pub begin-requires : goal.begin-requires
begin-requires c = start_begins _ _ _ _ _ c.requires.starting c.requires.r_value _ _ _ _ _ c.stmt_a-a.ensures.is c.type_of-y.ensures.is c.type_p-b.ensures.is c.stmt_c-from.ensures.is c.stmt_d-d.ensures.is _ _ _ c.arguments.ensures _ c.in-Ok.is

pub returns-in-Err : goal.returns-in-Err
returns-in-Err c = start_fails _ _ _ _ _ c.requires.starting c.requires.r_value _ _ _ _ _ c.stmt_a-a.ensures.is c.type_of-y.ensures.is c.type_p-b.ensures.is c.stmt_c-from.ensures.is c.stmt_d-d.ensures.is _ _ _ c.arguments.ensures _ _ _ c.in-Err.is c.fail.ensures.0 c.fail.ensures.1
