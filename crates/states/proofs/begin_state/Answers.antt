use native.Mathlib.Omega.{arith}
use Rattle.states.proofs.Beginning.{begin_bytes}
use Rattle.states.proofs.begin_state.Goals as goal

pub returns : goal.returns
returns c = begin_bytes _ _ _ _ _ _ _ _ _ c.first_stmt-statement.ensures.is c.program_words-top.ensures.0 c.first_marks.ensures c.clear_all.ensures c.make_first.ensures c.stand_first.ensures c.fill_marks.ensures (record { small = λ i. omega (arith, c.type_inv.state i) })
