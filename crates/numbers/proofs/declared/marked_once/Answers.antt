use mathlib.Core.Path.{◌∙◌}
use lib.ListN.{get_or}
use lib.Dec.{leb}
use Rattle.basics.proofs.Ranges.{all_of, all_alike}
use Rattle.std.proofs.Common.{rules}
use borrow.Author.Tests.{tests}
use Rattle.code.specs.Code.{decoded}
use Rattle.numbers.specs.Declarations.{named_once, modules_once}
use Rattle.numbers.proofs.Marks.{mark_once}
use Rattle.numbers.proofs.declared.marked_once.Goals as goal

pub returns : goal.returns
unfolding modules_once
returns c =
    all_of _ _ _ _ (λ b. leb (get_or c.args.marks.now b 0) 1) c.all.ensures.ran (cc) (λ x q k. search (rules, tests)) (λ x q k. search (rules, tests))
    ∙ all_alike _ _ (named_once (decoded c.args.c.now)) (λ b k. mark_once (decoded c.args.c.now) c.args.marks.now c.requires b k)
