use Rattle.calls.proofs.Serving.{free_not, free_holder}
use borrow.Author.Rules.{rules}
use Rattle.calls.proofs.processes.is_free.Goals as goal

pub returns-then-record_word-ne-UNSTARTED : goal.returns-then-record_word-ne-UNSTARTED
returns-then-record_word-ne-UNSTARTED c = search (free_holder, rules)

pub returns-else-record_word-ne-UNSTARTED : goal.returns-else-record_word-ne-UNSTARTED
returns-else-record_word-ne-UNSTARTED c = search (free_not, rules)
