use Rattle.transfers.proofs.Assigning.{assigns, assigned}
use Rattle.evaluation.proofs.Roots.{roots}
use borrow.Author.Rules.{rules}
use Rattle.transfers.proofs.assignments.assign_word.Goals as goal

pub eval-v-requires-clause-evaluable : goal.eval-v-requires-clause-evaluable
eval-v-requires-clause-evaluable c = search assigns

pub eval-v-requires-clause-one_word : goal.eval-v-requires-clause-one_word
eval-v-requires-clause-one_word c = search assigns

pub eval-v-requires-clause-rowed : goal.eval-v-requires-clause-rowed
eval-v-requires-clause-rowed c = search roots

pub fail_by-requires-clause-le_r : goal.fail_by-requires-clause-le_r
fail_by-requires-clause-le_r c = (search rules, c.eval-v.ensures.listed.is (search rules))

pub returns-then-v-ge-FAILURES : goal.returns-then-v-ge-FAILURES
returns-then-v-ge-FAILURES c = search assigned

pub store_word-requires : goal.store_word-requires
store_word-requires c = search (assigns, rules)

pub returns : goal.returns
returns c = search assigned
