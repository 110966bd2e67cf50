use mathlib.Core.Path.{◌≡◌}
use Rattle.basics.specs.Marks.{gather}
use Rattle.code.specs.Code.{decoded}
use Rattle.uses.specs.Uses.{entry_uses}
use Rattle.uses.specs.Marked.{marked_all}
use Rattle.uses.proofs.mark_nodes.Given as goal

abbrev pub invariant-loop-i : goal.invariant-loop-i
invariant-loop-i l = l.seen ≡ marked_all (gather (entry_uses (decoded l.c) 5) l.i) l.initial.seen
