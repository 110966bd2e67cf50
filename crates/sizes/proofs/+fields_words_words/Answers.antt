use Rattle.std.proofs.Common.{◌∙◌}
use Rattle.sizes.proofs.Counting.{o_more, o_skip}
use Rattle.sizes.proofs.+fields_words_words.Goals as goal
use Rattle.sizes.proofs.+fields_words_words.Goals.{fields_words-then-field-n, fields_words-else-field-n}

pub fields_words-loop-i-preserved : goal.fields_words-loop-i-preserved
fields_words-loop-i-preserved t c =
    let hp = c.type_p-first.ensures.is in
    let hs = c.loop-i.invariant in
    let hf = c.field_type-field.ensures.is in
    elim c.if-field-n.branch [
      | fields_words-then-field-n w ↦ o_more _ _ _ _ _ _ hp hs hf _ _ w.if-field-n.true w.words.ensures (w.sum-is ∙ w.min-sum.ensures)
      | fields_words-else-field-n w ↦ w.sum-is ∙ o_skip _ _ _ _ _ _ hp hs hf w.if-field-n.false
    ]
