use Rattle.calls.proofs.Fitting.{zeros}
use Rattle.calls.proofs.Putting.{Putting}
use Rattle.calls.proofs.arguments.put_zeros.Given as goal

abbrev pub invariant-loop-j : goal.invariant-loop-j
invariant-loop-j l = Putting zeros 0 l.k l.initial.buffer l.n l.buffer l._j l.count
