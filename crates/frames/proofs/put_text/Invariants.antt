use lib.ListN.{take}
use Rattle.code.specs.Code.{decoded}
use Rattle.machine.specs.Memory.{memory_of, store}
use Rattle.machine.specs.Lent.{Becomes}
use Rattle.machine.specs.Texts.{text_at}
use Rattle.frames.proofs.put_text.Given as goal

abbrev pub invariant-loop-i : goal.invariant-loop-i
invariant-loop-i l = Becomes l.state (store (memory_of l.initial.state) l.at (take l.i (text_at (decoded l.c) l.p l.q)))
