use native.Mathlib.Omega.{arith}
use Rattle.symbols.proofs.Keys.{pack_fits}
use Rattle.symbols.proofs.vocabulary.key.Goals as goal

pub overflow_mul-k : goal.overflow_mul-k
overflow_mul-k c = let h = pack_fits _ _ _ c.loop-b.invariant _ _ c.in-Some.ensures.steps c.requires in omega arith

pub overflow_add-k : goal.overflow_add-k
overflow_add-k c = let h = pack_fits _ _ _ c.loop-b.invariant _ _ c.in-Some.ensures.steps c.requires in omega arith
