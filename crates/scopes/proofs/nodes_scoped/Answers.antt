use Rattle.std.proofs.Common.{arith, rules}
use Rattle.scopes.proofs.Handing.{long_more, down_next}
use Rattle.scopes.proofs.nodes_scoped.Goals as goal

pub loop-n-preserved : goal.loop-n-preserved
loop-n-preserved c = (search long_more, down_next _ c.requires.c_value c.requires.c_value_2 _ _ c.loop-n.invariant.1 (omega arith) (omega (arith, c.nodes-n.ensures.is)) _ c.node_scoped.ensures.fits _ (search rules) c.node_scoped.ensures.hands)
