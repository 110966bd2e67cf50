use Rattle.transfers.proofs.Assigning.{assigns}
use borrow.Author.Rules.{rules}
use Rattle.transfers.proofs.assignments.assign_at.Goals as goal

pub assign_word-requires-clause-one_word : goal.assign_word-requires-clause-one_word
assign_word-requires-clause-one_word c = search assigns

pub assign_words-requires-clause-statement_value : goal.assign_words-requires-clause-statement_value
assign_words-requires-clause-statement_value c = search (assigns, rules)
