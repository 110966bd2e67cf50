use native.Mathlib.Omega.{arith}
use borrow.Author.Rules.{rules}
use Rattle.scopes.proofs.Handing.{stays_more, rooted_more, handings}
use Rattle.scopes.proofs.hand_stmts.Goals as goal

pub loop-i-init : goal.loop-i-init
loop-i-init c = (omega arith, search rules, search handings, search handings)

pub loop-i-preserved : goal.loop-i-preserved
loop-i-preserved c = (omega arith, search handings, stays_more _ _ _ c.loop-i.invariant.2 _ _ c.stays_in.ensures (search rules) c.block_step-b.ensures.0, rooted_more _ _ _ c.loop-i.invariant.2 _ _ _ _ c.loop-i.invariant.3 (search rules) c.loop-i-test.true (cc) c.hand_stmt.ensures)

pub returns : goal.returns
returns c = search handings
