use Rattle.table.specs.Empty.{field, fields_of, listing}
use Rattle.verdict.proofs.Rooming.{empty_answer, some_answer}
use borrow.Author.Tests.{eqb-true, eqb-false}
use mathlib.Core.Path.{sym, ◌∙◌}
use Rattle.verdict.proofs.check_into.Goals as goal

pub returns-then-is_empty : goal.returns-then-is_empty
unfolding listing fields_of field
returns-then-is_empty c = empty_answer _ _ _ _ (eqb-true _ _ (sym c.is_empty.ensures ∙ c.if-is_empty.true)) c.check_bytes.ensures

pub returns : goal.returns
returns c = some_answer _ _ _ _ (eqb-false _ _ (sym c.is_empty.ensures ∙ c.if-is_empty.false)) c.check_bytes-2.ensures
