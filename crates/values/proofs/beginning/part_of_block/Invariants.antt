use Rattle.code.specs.Code.{decoded}
use Rattle.machine.specs.Variables.{first_words}
use Rattle.values.specs.Walks.{Sought, variable_i_begins}
use Rattle.values.proofs.beginning.part_of_block.Given as goal

abbrev pub invariant-loop-i : goal.invariant-loop-i
invariant-loop-i l = Sought (first_words (decoded l.c) l.b) (variable_i_begins (decoded l.c) l.b l.y l.k) l.i l.at
