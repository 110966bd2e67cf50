use borrow.Author.Tests.{tests}
use Rattle.std.proofs.Common.{rules}
use Rattle.basics.proofs.Ranges.{all_of}
use Rattle.code.specs.Code.{decoded}
use Rattle.machine.specs.Memory.{memory_of}
use Rattle.state_rule.specs.Chains.{process_row, processes_hold}
use Rattle.state_rule.proofs.processes_hold.Goals as goal

pub returns : goal.returns
unfolding processes_hold process_row
returns c = all_of _ _ _ _ (process_row (decoded c.args.c.now) (memory_of c.args.state.now)) c.all.ensures.ran (cc) (λ x q k. search (rules, tests)) (λ x q k. search (rules, tests))
