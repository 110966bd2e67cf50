use mathlib.Core.Path.{◌≡◌}
use lib.ListN.{length}
use Rattle.code.specs.Code.{decoded}
use Rattle.numbers.specs.Marking.{ModuleMarks}
use Rattle.numbers.proofs.declared.mark_modules.Given as goal

abbrev pub invariant-loop-i : goal.invariant-loop-i
invariant-loop-i l = (length l.marks ≡ length l.initial.marks) × ModuleMarks (decoded l.c) l.i l.marks
