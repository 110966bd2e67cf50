use Rattle.machine.specs.Memory.{memory_of}
use Rattle.calls.proofs.Putting.{Putting}
use Rattle.calls.proofs.arguments.put_words.Given as goal

abbrev pub invariant-loop-j : goal.invariant-loop-j
invariant-loop-j l = Putting (memory_of l.state) l.a l.k l.initial.buffer l.n l.buffer l.j l.count
