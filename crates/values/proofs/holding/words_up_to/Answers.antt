use borrow.Author.Tests.{tests}
use Rattle.std.proofs.Common.{rules}
use Rattle.basics.proofs.Ranges.{all_of}
use Rattle.machine.specs.Memory.{memory_of}
use Rattle.values.specs.Heads.{word_up_to}
use Rattle.values.proofs.holding.words_up_to.Goals as goal

pub returns : goal.returns
unfolding word_up_to
returns c = all_of _ _ _ _ (word_up_to (memory_of c.args.state.now) c.args.most c.args.a) c.all.ensures.ran (cc) (λ x q k. search (rules, tests)) (λ x q k. search (rules, tests))
