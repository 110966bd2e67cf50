use Rattle.basics.proofs.Ranges.{all_of}
use Rattle.std.proofs.Common.{rules}
use borrow.Author.Tests.{tests}
use Rattle.code.specs.Code.{decoded}
use Rattle.entries.specs.Tested.{node_known}
use Rattle.entries.proofs.nodes_known.Goals as goal

pub returns : goal.returns
returns c = all_of _ _ _ _ (node_known (decoded c.args.c.now)) c.all.ensures.ran (cc) (λ x q k. search (rules, tests)) (λ x q k. search (rules, tests))
