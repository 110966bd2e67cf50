use Rattle.transfers.proofs.Writing.{writings, address_fails, address_writing}
use Rattle.evaluation.proofs.Roots.{roots}
use borrow.Author.Rules.{rules}
use Rattle.transfers.proofs.devices.write.Goals as goal

pub eval-v-requires-clause-evaluable : goal.eval-v-requires-clause-evaluable
eval-v-requires-clause-evaluable c = search writings

pub eval-v-requires-clause-one_word : goal.eval-v-requires-clause-one_word
eval-v-requires-clause-one_word c = search writings

pub eval-v-requires-clause-rowed : goal.eval-v-requires-clause-rowed
eval-v-requires-clause-rowed c = search roots

pub fail_by-requires-clause-le_r : goal.fail_by-requires-clause-le_r
fail_by-requires-clause-le_r c = (search rules, c.eval-v.ensures.listed.is (search rules))

pub returns-then-v-ge-FAILURES : goal.returns-then-v-ge-FAILURES
returns-then-v-ge-FAILURES c = search address_fails

pub write_value-requires-clause-writing : goal.write_value-requires-clause-writing
write_value-requires-clause-writing c = address_writing _ _ _ _ c.requires.acting.standing c.requires.statement_value _ c.stmt_a-a.ensures.is _ c.eval-v.ensures (search rules)
