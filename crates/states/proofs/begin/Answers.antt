use mathlib.Core.Path.{refl}
use Rattle.states.proofs.Beginning.{check_accepted, begun_done, begun_refused}
use Rattle.std.proofs.lemmas.Result.{err_from_is_err_and}
use Rattle.states.proofs.begin.Goals as goal

pub returns-in_err-found : goal.returns-in_err-found
returns-in_err-found c =
    let p = err_from_is_err_and c.from_residual.result c.from_residual.ensures.1 in
    rw (p.1, p.2) (begun_refused _ _ _ c.is_beginnable.ensures 1 _ _ _ _ _ c.if-not-is_beginnable.false c.in_err-found.ensures)

pub begin_state-requires-clause-accepted : goal.begin_state-requires-clause-accepted
begin_state-requires-clause-accepted c = check_accepted _ _ _ _ _ c.in_ok-found.ensures

pub returns : goal.returns
returns c = begun_done _ _ _ _ _ c.in_ok-found.ensures _ _ _ _ _ c.is_beginnable.ensures c.if-not-is_beginnable.false refl c.begin_state.ensures
