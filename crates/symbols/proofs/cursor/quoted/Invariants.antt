use Rattle.symbols.proofs.Quoting.{Quoting}
use Rattle.symbols.proofs.cursor.quoted.Given as goal

abbrev pub invariant-loop-i : goal.invariant-loop-i
invariant-loop-i l = Quoting l.text l.i l.lines
