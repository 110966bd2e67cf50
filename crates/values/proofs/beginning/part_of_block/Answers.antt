use borrow.Author.Rules.{rules}
use Rattle.values.proofs.Parts.{variablesearches, variables_next}
use Rattle.values.proofs.beginning.part_of_block.Goals as goal

pub loop-i-init : goal.loop-i-init
loop-i-init c = search variablesearches

pub loop-i-preserved : goal.loop-i-preserved
loop-i-preserved c = variables_next _ _ _ _ _ _ _ c.loop-i.invariant c.first_var-first.ensures.is _ c.part_of_variable.ensures _ (search rules) c.var_words-at.ensures
