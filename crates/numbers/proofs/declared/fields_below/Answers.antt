use Rattle.basics.proofs.Ranges.{all_of}
use Rattle.std.proofs.Common.{rules}
use borrow.Author.Tests.{tests}
use Rattle.code.specs.Code.{decoded}
use Rattle.numbers.specs.Declarations.{field_below}
use Rattle.numbers.proofs.declared.fields_below.Goals as goal

pub returns : goal.returns
unfolding field_below
returns c = all_of _ _ _ _ (field_below (decoded c.args.c.now) c.args.x) c.all.ensures.ran (cc) (λ x q k. search (rules, tests)) (λ x q k. search (rules, tests))
