use lib.Dec.{eqb}
use borrow.Author.Tests.{tests}
use Rattle.std.proofs.Common.{rules}
use Rattle.uses.specs.Marked.{one_mark}
use Rattle.uses.proofs.Slices.{all_of_items}
use Rattle.uses.proofs.all_one.Goals as goal

pub returns : goal.returns
unfolding one_mark
returns c = all_of_items _ _ _ _ c.args.seen.now (λ m. eqb m 1) c.all.ensures.ran c.iter.ensures.rest c.requires (λ x q k. search (rules, tests)) (λ x q k. search (rules, tests))
