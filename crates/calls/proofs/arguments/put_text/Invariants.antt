use Rattle.code.specs.Code.{decoded, text_word}
use Rattle.calls.proofs.Putting.{Putting}
use Rattle.calls.proofs.arguments.put_text.Given as goal

abbrev pub invariant-loop-j : goal.invariant-loop-j
invariant-loop-j l = Putting (text_word (decoded l.c) l.p l.q) 0 l.k l.initial.buffer l.n l.buffer l.j l.count
