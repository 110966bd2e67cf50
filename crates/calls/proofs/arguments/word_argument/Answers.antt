use Rattle.std.proofs.lemmas.Result.{err_from_is_err_and}
use Rattle.calls.proofs.Passing.{word_fails}
use Rattle.calls.proofs.arguments.word_argument.Goals as goal

pub returns-in_err-w : goal.returns-in_err-w
returns-in_err-w c =
    let p = err_from_is_err_and c.from_residual.result c.from_residual.ensures.1 in
    rw (p.1, p.2) (word_fails _ _ _ _ c.requires.acting.standing.ready _ c.requires.valuable c.requires.one_word _ c.value_of.ensures _ c.in_err-w.was)
