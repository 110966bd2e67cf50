use Rattle.std.proofs.Common.{rules, refl, ◌∙◌}
use borrow.Author.Tests.{tests}
use Rattle.code.specs.Code.{decoded}
use Rattle.numbers.specs.Operands.{is_string_node, string_first, string_count, characters_taken}
use Rattle.numbers.proofs.order.characters_taken.Goals as goal

pub returns : goal.returns
unfolding characters_taken is_string_node string_first string_count
returns c = c.taken.ensures (is_string_node (decoded c.args.c.now)) (string_first (decoded c.args.c.now)) (string_count (decoded c.args.c.now)) (λ i r p. search (rules, tests)) ∙ rw (c.nodes.ensures.is, c.characters.ensures.is) refl
