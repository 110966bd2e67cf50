use Rattle.machine.specs.Memory.{memory_of}
use Rattle.states.proofs.Beginning.{Filling}
use Rattle.states.proofs.fill_marks.Given as goal

abbrev pub invariant-loop-k : goal.invariant-loop-k
invariant-loop-k l = Filling (memory_of l.initial.state) l.w l.state l.k
