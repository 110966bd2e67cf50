use Rattle.std.proofs.Common.{rules, refl, ◌∙◌}
use borrow.Author.Tests.{tests}
use Rattle.code.specs.Code.{decoded}
use Rattle.table.specs.Kinds.{is_call}
use Rattle.numbers.specs.Operands.{call_first, call_count, arguments_taken}
use Rattle.numbers.proofs.order.arguments_taken.Goals as goal

pub returns : goal.returns
unfolding arguments_taken call_first call_count
returns c = c.taken.ensures (is_call (decoded c.args.c.now)) (call_first (decoded c.args.c.now)) (call_count (decoded c.args.c.now)) (λ i r p. search (rules, tests)) ∙ rw (c.statements.ensures.is, c.arguments.ensures.is) refl
