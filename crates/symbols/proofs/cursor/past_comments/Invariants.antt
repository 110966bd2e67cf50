use Prim.Native.Nat.{◌-◌}
use lib.ListN.{length}
use Rattle.symbols.proofs.Scanning.{Passing}
use Rattle.symbols.proofs.cursor.past_comments.Given as goal

abbrev pub invariant-loop-at : goal.invariant-loop-at
invariant-loop-at l = Passing l.text l.place l.line l.at l.n

abbrev pub decreases-loop-at : goal.decreases-loop-at
decreases-loop-at l = length l.text - l.at
