use Prim.Native.Nat.{◌≤◌}
use mathlib.Core.Path.{◌≡◌}
use lib.ListN.{length}
use Rattle.code.specs.Code.{decoded}
use Rattle.values.specs.Heads.{HeadsTo}
use Rattle.values.proofs.heads.find_heads.Given as goal

abbrev pub invariant-loop-x : goal.invariant-loop-x
invariant-loop-x l = (l.n ≤ length l.heads) × (length l.heads ≡ length l.initial.heads) × HeadsTo (decoded l.c) l.x l.heads
