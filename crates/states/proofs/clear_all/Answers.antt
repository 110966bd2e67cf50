use Rattle.states.proofs.Beginning.{cleared}
use Rattle.states.proofs.clear_all.Goals as goal

pub returns : goal.returns
returns c = cleared _ _ _ c.requires (c.fill.ensures.after (λ y h. h))
