use mathlib.Core.Path.{sym, ap, ◌∙◌}
use mathlib.Core.Bool.{not}
use borrow.Author.Rules.{rules}
use Rattle.basics.proofs.Bools.{no_true}
use Rattle.values.proofs.Heading.{recordheads, r_words}
use Rattle.values.proofs.heads.record_head.Goals.{then-type_q-eq1, else-type_q-eq1+then-not-has_parts, else-type_q-eq1+else-not-has_parts}
use Rattle.values.proofs.heads.record_head.Goals as goal

pub returns-then-x-f : goal.returns-then-x-f
returns-then-x-f c = search recordheads

pub returns-then-fields_share : goal.returns-then-fields_share
returns-then-fields_share c = elim c.if-type_q-eq1.branch [
  | then-type_q-eq1 w ↦ search recordheads
  | else-type_q-eq1+then-not-has_parts w ↦ r_words _ _ _ _ _ c.type_p.ensures.is c.field_type-f.ensures.is (search rules) (search rules) c.head_of-h.ensures _ _ w.has_parts.ensures (search rules) w.fields_share.ensures (sym w.value-is ∙ c.if-fields_share.true)
  | else-type_q-eq1+else-not-has_parts w ↦ no_true (sym (w.value-is ∙ ap not w.if-not-has_parts.false) ∙ c.if-fields_share.true)
]

pub returns-else-fields_share : goal.returns-else-fields_share
returns-else-fields_share c = search recordheads
