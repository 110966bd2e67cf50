use Rattle.std.proofs.Common.{rules, refl, ◌∙◌}
use borrow.Author.Tests.{tests}
use Rattle.code.specs.Code.{decoded}
use Rattle.numbers.specs.Declarations.{is_record, record_first, record_count, fields_taken}
use Rattle.numbers.proofs.order.fields_taken.Goals as goal

pub returns : goal.returns
unfolding fields_taken is_record record_first record_count
returns c = c.taken.ensures (is_record (decoded c.args.c.now)) (record_first (decoded c.args.c.now)) (record_count (decoded c.args.c.now)) (λ i r p. search (rules, tests)) ∙ rw (c.types.ensures.is, c.fields.ensures.is) refl
