use Rattle.calls.proofs.Entering.{entering_small, entering_over, entering_fits, entering_room, entering_held}
use Rattle.calls.proofs.Serving.{entering_process}
use borrow.Author.Rules.{rules}
use Rattle.calls.proofs.processes.enter_process.Goals as goal

pub returns-then-is_over : goal.returns-then-is_over
returns-then-is_over c = search entering_over

pub push_process-requires-clause-frame_fits : goal.push_process-requires-clause-frame_fits
push_process-requires-clause-frame_fits c = search entering_fits

pub push_process-requires-clause-n_le_size : goal.push_process-requires-clause-n_le_size
push_process-requires-clause-n_le_size c = (search entering_room, (search entering_held, (search entering_small, search rules)))

pub returns : goal.returns
returns c = search entering_process
