use Rattle.std.proofs.Common.{rules}
use borrow.Author.Tests.{tests}
use Rattle.code.specs.Code.{decoded}
use Rattle.basics.proofs.Ranges.{all_of}
use Rattle.sizes.specs.Sizes.{type_sized, types_sized}
use Rattle.sizes.proofs.Judging.{type_row}
use Rattle.sizes.proofs.types_sized.Goals as goal

pub returns : goal.returns
unfolding types_sized
returns c = all_of _ _ _ _ (type_sized (decoded c.args.c.now)) c.all.ensures.ran (cc) (λ x q k. search (rules, tests, type_row)) (λ x q k. search (rules, tests, type_row))
