use Rattle.transfers.proofs.Assigning.{assigns, assigned}
use Rattle.evaluation.proofs.Roots.{roots}
use borrow.Author.Rules.{rules}
use Rattle.transfers.proofs.assignments.assign_words.Goals as goal

pub retrieve_place-l-requires-clause-retrieval : goal.retrieve_place-l-requires-clause-retrieval
retrieve_place-l-requires-clause-retrieval c = search assigns

pub retrieve_place-l-requires-clause-n_value : goal.retrieve_place-l-requires-clause-n_value
retrieve_place-l-requires-clause-n_value c = search assigns

pub retrieve_place-l-requires-clause-rowed : goal.retrieve_place-l-requires-clause-rowed
retrieve_place-l-requires-clause-rowed c = search roots

pub fail_by-requires-clause-le_r : goal.fail_by-requires-clause-le_r
fail_by-requires-clause-le_r c = (search rules, c.retrieve_place-l.ensures.listed.is (search rules))

pub returns-then-l-ge-FAILURES : goal.returns-then-l-ge-FAILURES
returns-then-l-ge-FAILURES c = search assigned

pub node_words-requires : goal.node_words-requires
node_words-requires c = search (assigns, rules)

pub copy-requires-clause-copying : goal.copy-requires-clause-copying
copy-requires-clause-copying c = search assigned

pub returns : goal.returns
returns c = search assigned
