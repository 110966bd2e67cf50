use Rattle.std.proofs.Common.{rules}
use borrow.Author.Tests.{tests}
use Rattle.code.specs.Code.{decoded}
use Rattle.basics.proofs.Ranges.{all_of}
use Rattle.typing.specs.Typing.{character_typed}
use Rattle.typing.proofs.characters_typed.Goals as goal

pub returns : goal.returns
unfolding character_typed
returns c = all_of _ _ _ _ (character_typed (decoded c.args.c.now)) c.all.ensures.ran (cc) (λ x q k. search (rules, tests)) (λ x q k. search (rules, tests))
