use Rattle.std.proofs.Common.{rules}
use borrow.Author.Tests.{tests}
use Rattle.code.specs.Code.{decoded}
use Rattle.basics.proofs.Ranges.{all_of}
use Rattle.typing.specs.Typing.{param_simple}
use Rattle.typing.proofs.each_simple.Goals as goal

pub returns : goal.returns
returns c = all_of _ _ _ _ (param_simple (decoded c.args.c.now) c.args.x) c.all.ensures.ran (cc) (λ x q k. search (rules, tests)) (λ x q k. search (rules, tests))
