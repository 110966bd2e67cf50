use lib.ListN.{length-set}
use native.Mathlib.Omega.{arith}
use Rattle.sizes.proofs.Counting.{sizes_more}
use Rattle.sizes.proofs.find_sizes.Goals as goal

pub loop-n-preserved : goal.loop-n-preserved
loop-n-preserved c = (simp length-set (omega arith), sizes_more _ _ _ _ _ c.loop-n.invariant.1 (omega arith) (cc) c.words.ensures)
