use Rattle.basics.proofs.Ranges.{all_of}
use Rattle.std.proofs.Common.{rules}
use borrow.Author.Tests.{tests}
use Rattle.code.specs.Code.{decoded}
use Rattle.entries.specs.Tested.{type_known}
use Rattle.entries.proofs.types_known.Goals as goal

pub returns : goal.returns
returns c = all_of _ _ _ _ (type_known (decoded c.args.c.now)) c.all.ensures.ran (cc) (λ x q k. search (rules, tests)) (λ x q k. search (rules, tests))
