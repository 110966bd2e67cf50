use mathlib.Core.Path.{◌∙◌}
use Rattle.std.proofs.Common.{rules}
use Rattle.std.proofs.lemmas.Iterator.{YieldsList-from_slice}
use Rattle.std.proofs.lemmas.Iterator.Consumers.{count_from_yields_List}
use Rattle.std.proofs.lemmas.Iterator.Search.{YieldsList-from_take_while}
use Rattle.std.proofs.lemmas.List.Folds.{length-prefix_len}
use Rattle.symbols.proofs.Runs.{prefix_span}
use Rattle.symbols.proofs.characters.run.Goals as goal

pub returns-clause-is : goal.returns-clause-is
returns-clause-is g c = λ class told.
    count_from_yields_List c.take_while.result _ c.count.ensures.ran (YieldsList-from_take_while _ class (YieldsList-from_slice c.args.text.now (cc)) c.take_while.ensures.closure c.take_while.ensures.done (λ x b q k. search (rules, told)))
    ∙ length-prefix_len class c.args.text.now ∙ prefix_span class c.args.text.now
