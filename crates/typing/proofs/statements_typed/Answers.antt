use Rattle.std.proofs.Common.{rules}
use borrow.Author.Tests.{tests}
use Rattle.code.specs.Code.{decoded}
use Rattle.basics.proofs.Ranges.{all_of}
use Rattle.typing.specs.Typing.{stmt_typed}
use Rattle.typing.proofs.statements_typed.Goals as goal

pub returns : goal.returns
returns c = all_of _ _ _ _ (stmt_typed (decoded c.args.c.now)) c.all.ensures.ran (cc) (λ x q k. search (rules, tests)) (λ x q k. search (rules, tests))
