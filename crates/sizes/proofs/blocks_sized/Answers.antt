use Rattle.std.proofs.Common.{rules}
use borrow.Author.Tests.{tests}
use Rattle.code.specs.Code.{decoded}
use Rattle.basics.proofs.Ranges.{all_of}
use Rattle.sizes.specs.Sizes.{block_sized, blocks_sized}
use Rattle.sizes.proofs.blocks_sized.Goals as goal

pub returns : goal.returns
unfolding blocks_sized
returns c = all_of _ _ _ _ (block_sized (decoded c.args.c.now)) c.all.ensures.ran (cc) (λ x q k. search (rules, tests)) (λ x q k. search (rules, tests))
