use native.Mathlib.Omega.{arith}
use borrow.Author.Rules.{rules}
use Rattle.operands.proofs.Lending.{lends}
use Rattle.std.proofs.lemmas.Result.{err_from_is_err_and}
use Rattle.calls.proofs.Gathering.{gathers, gather_fails}
use Rattle.calls.proofs.arguments.arguments.Goals as goal

pub first_var-first-requires : goal.first_var-first-requires
first_var-first-requires c = search (gathers, lends, rules)

pub loop-i-init : goal.loop-i-init
loop-i-init c = search (gathers, lends, rules)

pub overflow_add-first : goal.overflow_add-first
overflow_add-first c = omega arith

pub overflow_add-from : goal.overflow_add-from
overflow_add-from c = omega arith

pub argument-requires-clause-passing : goal.argument-requires-clause-passing
argument-requires-clause-passing c = search gathers

pub argument-requires-clause-has_row : goal.argument-requires-clause-has_row
argument-requires-clause-has_row c = search gathers

pub argument-requires-clause-buffer : goal.argument-requires-clause-buffer
argument-requires-clause-buffer c = search gathers

pub loop-i-preserved : goal.loop-i-preserved
loop-i-preserved c = search (gathers, lends, rules)

pub returns : goal.returns
returns c = search (gathers, lends, rules)

pub returns-in_err-n : goal.returns-in_err-n
returns-in_err-n c =
    let p = err_from_is_err_and c.from_residual.result c.from_residual.ensures.1 in
    rw (p.1, p.2) (gather_fails _ _ _ _ _ _ _ c.requires.calling _ c.first_var-first.ensures.is _ _ _ _ c.loop-i.invariant c.loop-i-test.true _ _ _ c.argument.ensures c.in_err-n.was)
