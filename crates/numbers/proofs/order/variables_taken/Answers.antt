use Rattle.std.proofs.Common.{rules, refl, ◌∙◌}
use borrow.Author.Tests.{tests}
use Rattle.code.specs.Code.{decoded}
use Rattle.basics.specs.Chain.{always}
use Rattle.table.specs.Entries.{first_var, vars}
use Rattle.numbers.specs.Blocks.{variables_taken}
use Rattle.numbers.proofs.order.variables_taken.Goals as goal

pub returns : goal.returns
unfolding variables_taken always
returns c = c.taken.ensures always (first_var (decoded c.args.c.now)) (vars (decoded c.args.c.now)) (λ i r p. search (rules, tests)) ∙ rw (c.blocks-2.ensures.is, c.variables.ensures.is) refl
