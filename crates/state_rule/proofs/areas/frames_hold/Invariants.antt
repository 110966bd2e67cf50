use Rattle.code.specs.Code.{decoded}
use Rattle.machine.specs.Memory.{memory_of}
use Rattle.machine.specs.Variables.{first_words}
use Rattle.values.specs.Walks.{Walked}
use Rattle.state_rule.specs.Frames.{variable_row, frame_variable_ok}
use Rattle.state_rule.proofs.areas.frames_hold.Given as goal

abbrev pub invariant-loop-i : goal.invariant-loop-i
invariant-loop-i l = Walked (first_words (decoded l.c) l.q) (variable_row (decoded l.c) l.q (frame_variable_ok (decoded l.c) (memory_of l.state) l.p l.d l.f)) l.i l.at
