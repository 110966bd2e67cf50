use lib.ListN.{take}
use Rattle.machine.specs.Memory.{memory_of, store}
use Rattle.machine.specs.Lent.{Becomes}
use Rattle.frames.proofs.copy_words.Given as goal

abbrev pub invariant-loop-k : goal.invariant-loop-k
invariant-loop-k l = Becomes l.state (store (memory_of l.initial.state) l.at (take l.k l.words))
