use Rattle.calls.proofs.Entering.{entering_owner, entering_module, entering_small, entering_over, entering_fits, entering_room, entering_held, entering_local}
use Rattle.calls.proofs.procedures.enter_local.Goals as goal

pub limit_of-requires-clause-block_bound : goal.limit_of-requires-clause-block_bound
limit_of-requires-clause-block_bound c = (search entering_owner, search entering_module)

pub returns-then-is_over : goal.returns-then-is_over
returns-then-is_over c = search entering_over

pub push_local-requires-clause-frame_fits : goal.push_local-requires-clause-frame_fits
push_local-requires-clause-frame_fits c = search entering_fits

pub push_local-requires-clause-n_le_size : goal.push_local-requires-clause-n_le_size
push_local-requires-clause-n_le_size c = (search entering_room, (search entering_held, search entering_small))

pub returns : goal.returns
returns c = search entering_local
