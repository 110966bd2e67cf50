use Rattle.transfers.proofs.Creating.{create_fails, creations}
use borrow.Author.Rules.{rules}
use Rattle.transfers.proofs.creations.create_next.Goals as goal

pub returns-then-n-eq-PROCESSES : goal.returns-then-n-eq-PROCESSES
returns-then-n-eq-PROCESSES c = create_fails _ _ _ _ _ _ c.requires.word_slice c.record_word-n.ensures _ _ c.if-n-eq-PROCESSES.true c.fail.ensures.0 c.fail.ensures.1

pub returns : goal.returns
returns c = search (creations, rules)
