use borrow.Author.Tests.{tests}
use Rattle.std.proofs.Common.{rules}
use Rattle.basics.proofs.Ranges.{all_of}
use Rattle.machine.specs.Memory.{memory_of}
use Rattle.values.specs.Heads.{word_refers}
use Rattle.values.proofs.holding.references_hold.Goals as goal

pub returns : goal.returns
unfolding word_refers
returns c = all_of _ _ _ _ (word_refers (memory_of c.args.state.now) c.args.home c.args.a) c.all.ensures.ran (cc) (λ x q k. search (rules, tests)) (λ x q k. search (rules, tests))
