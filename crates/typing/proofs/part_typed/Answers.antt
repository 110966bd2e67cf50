use Rattle.std.proofs.Common.{rules}
use borrow.Author.Tests.{tests}
use Rattle.code.specs.Code.{decoded}
use Rattle.basics.proofs.Ranges.{all_of}
use Rattle.typing.specs.Parts.{parameter_in}
use Rattle.typing.proofs.part_typed.Goals as goal

pub returns : goal.returns
unfolding parameter_in
returns c = all_of _ _ _ _ (parameter_in (decoded c.args.c.now) c.args.w c.args.part.now c.args.x) c.all.ensures.ran (cc) (λ x q k. search (rules, tests)) (λ x q k. search (rules, tests))
