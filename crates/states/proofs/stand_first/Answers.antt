use Rattle.states.proofs.Beginning.{first_stands}
use Rattle.states.proofs.stand_first.Goals as goal

pub returns : goal.returns
returns c = first_stands _ _ _ _ _ _ _ _ c.set_record_word.ensures c.set_record_word-2.ensures c.set_record_word-3.ensures c.set_record_word-4.ensures c.set_record_word-5.ensures
