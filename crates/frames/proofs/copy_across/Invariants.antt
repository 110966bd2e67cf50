use Rattle.machine.specs.Memory.{memory_of, store, words_at}
use Rattle.machine.specs.Lent.{Becomes}
use Rattle.frames.proofs.copy_across.Given as goal

abbrev pub invariant-loop-k : goal.invariant-loop-k
invariant-loop-k l = Becomes l.state (store (memory_of l.initial.state) l.to (words_at (memory_of l.initial.state) l.from l.k))
