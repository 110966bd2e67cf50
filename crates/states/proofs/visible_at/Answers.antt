use Rattle.states.proofs.Looking.{seen_block}
use Rattle.states.proofs.visible_at.Goals as goal

pub variable_offset-at-requires-clause-b_bound : goal.variable_offset-at-requires-clause-b_bound
variable_offset-at-requires-clause-b_bound c = seen_block _ c.requires.accepted _ _ _ _ c.requires.state_value c.requires.k_value _ _ c.record_word.ensures c.from-b.ensures
