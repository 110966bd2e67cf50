use Rattle.evaluation.proofs.Roots.{roots}
use Rattle.transfers.proofs.Creating.{creations}
use Rattle.transfers.proofs.creations.create.Goals as goal

pub place_of-requires-clause-selectable : goal.place_of-requires-clause-selectable
place_of-requires-clause-selectable c = search creations

pub place_of-requires-clause-rowed : goal.place_of-requires-clause-rowed
place_of-requires-clause-rowed c = search roots

pub create_next-requires-clause-create_premises : goal.create_next-requires-clause-create_premises
create_next-requires-clause-create_premises c = search creations

pub returns-in-Err : goal.returns-in-Err
returns-in-Err c = search creations

pub returns-in-Ok : goal.returns-in-Ok
returns-in-Ok c = search creations
