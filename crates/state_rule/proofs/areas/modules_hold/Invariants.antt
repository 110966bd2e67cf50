use Rattle.code.specs.Code.{decoded}
use Rattle.machine.specs.Memory.{memory_of}
use Rattle.machine.specs.Variables.{first_words}
use Rattle.values.specs.Walks.{Walked}
use Rattle.state_rule.specs.Frames.{variable_row, variable_holds}
use Rattle.state_rule.proofs.areas.modules_hold.Given as goal

abbrev pub invariant-loop-i : goal.invariant-loop-i
invariant-loop-i l = Walked (first_words (decoded l.c) l.b) (variable_row (decoded l.c) l.b (variable_holds (decoded l.c) (memory_of l.state) l.p)) l.i l.at
