use borrow.Author.Rules.{rules}
use Rattle.state_rule.proofs.Frames.{walking, walked_more}
use Rattle.state_rule.proofs.areas.modules_hold.Goals as goal

pub loop-i-init : goal.loop-i-init
loop-i-init c = search walking

pub loop-i-preserved : goal.loop-i-preserved
loop-i-preserved c = walked_more _ _ _ _ _ _ c.loop-i.invariant c.first_var-first.ensures.is _ c.variable_holds.ensures _ (search rules) c.var_words-at.ensures
