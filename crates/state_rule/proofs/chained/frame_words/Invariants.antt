use Rattle.code.specs.Code.{decoded}
use Rattle.machine.specs.Variables.{first_words}
use Rattle.state_rule.specs.Chains.{Summed}
use Rattle.state_rule.proofs.chained.frame_words.Given as goal

abbrev pub invariant-loop-i : goal.invariant-loop-i
invariant-loop-i l = Summed (first_words (decoded l.c) l.q) l.i l.sum
