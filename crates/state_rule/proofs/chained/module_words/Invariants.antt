use Rattle.code.specs.Code.{decoded}
use Rattle.sizes.specs.Sizes.{var_offset}
use Rattle.state_rule.specs.Chains.{Summed}
use Rattle.state_rule.proofs.chained.module_words.Given as goal

abbrev pub invariant-loop-i : goal.invariant-loop-i
invariant-loop-i l = Summed (var_offset (decoded l.c) l.b) l.i l.sum
