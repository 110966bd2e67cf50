use Rattle.machine.specs.Memory.{memory_of}
use Rattle.code.specs.Code.{decoded}
use Rattle.operands.specs.Ready.{context_in}
use Rattle.calls.specs.Gathering.{Gathering}
use Rattle.calls.proofs.arguments.arguments.Given as goal

abbrev pub invariant-loop-i : goal.invariant-loop-i
invariant-loop-i l = Gathering (decoded l.c) (memory_of l.state) (memory_of l.page) (context_in l.x) l.first l.from l.d l.initial.buffer l.buffer l.i l.n
