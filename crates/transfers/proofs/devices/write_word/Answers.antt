use Rattle.transfers.proofs.Writing.{writings}
use borrow.Author.Rules.{rules}
use Rattle.transfers.proofs.devices.write_word.Goals as goal

pub returns-in-Ok : goal.returns-in-Ok
returns-in-Ok c = search (writings, rules)
