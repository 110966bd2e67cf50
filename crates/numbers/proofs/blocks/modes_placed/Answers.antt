use Rattle.basics.proofs.Ranges.{all_of}
use Rattle.std.proofs.Common.{rules}
use borrow.Author.Tests.{tests}
use Rattle.code.specs.Code.{decoded}
use Rattle.numbers.specs.Blocks.{mode_placed}
use Rattle.numbers.proofs.blocks.modes_placed.Goals as goal

pub returns : goal.returns
returns c = all_of _ _ _ _ (mode_placed (decoded c.args.c.now) c.args.b) c.all.ensures.ran (cc) (λ x q k. search (rules, tests)) (λ x q k. search (rules, tests))
