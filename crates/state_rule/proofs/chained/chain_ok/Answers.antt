use borrow.Author.Rules.{rules}
use Rattle.state_rule.proofs.Chains.{left_next}
use Rattle.state_rule.proofs.chained.chain_ok.Goals as goal

pub loop-n-preserved : goal.loop-n-preserved
loop-n-preserved c =
    let next = left_next _ _ _ _ _ _ _ _ c.loop-n.invariant.1.1 _ c.loop-n-test.true c.call_ok.ensures _ _ _ (search rules) c.area_word-i.ensures.is c.area_word-w.ensures.is c.area_word-f.ensures.is in
    (c.area_word-f.ensures.small, (c.area_word-w.ensures.small, next))
