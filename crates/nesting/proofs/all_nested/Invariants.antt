use Rattle.basics.specs.Loops.{Chain}
use Rattle.code.specs.Code.{decoded}
use Rattle.nesting.specs.Nest.{block_end, block_ok}
use Rattle.nesting.proofs.all_nested.Given as goal

abbrev pub invariant-loop-b : goal.invariant-loop-b
invariant-loop-b l = Chain (block_end (decoded l.c)) (block_ok (decoded l.c)) l.b l.j
