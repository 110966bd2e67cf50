use borrow.Author.Rules.{rules}
use Rattle.frames.proofs.Meanings.{called_held}
use Rattle.frames.proofs.pop_process.Goals as goal

pub leave-requires-clause-in_call : goal.leave-requires-clause-in_call
leave-requires-clause-in_call c = search (called_held, rules)
