use native.Mathlib.Omega.{arith}
use Rattle.verdict.proofs.Rooming.{rooms_small}
use Rattle.verdict.proofs.judge_small.Goals as goal

pub judge-requires-clause-rooms : goal.judge-requires-clause-rooms
judge-requires-clause-rooms c = rooms_small c.args.t.now (λ i. omega (arith, c.type_inv.t i)) _ _ c.requires.decodes c.requires.w_value
