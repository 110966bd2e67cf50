use borrow.Author.Rules.{rules}
use Rattle.frames.proofs.Meanings.{fits_held}
use Rattle.frames.proofs.push_process.Goals as goal

pub call_in-requires-clause-frame_fits : goal.call_in-requires-clause-frame_fits
call_in-requires-clause-frame_fits c = search (fits_held, rules)
