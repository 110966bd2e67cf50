use Prim.Native.Nat.{◌≤◌}
use mathlib.Core.Path.{◌≡◌}
use lib.ListN.{length}
use Rattle.basics.specs.Loops.{Chain}
use Rattle.code.specs.Code.{decoded}
use Rattle.nesting.specs.Nest.{block_step}
use Rattle.scopes.specs.Scopes.{stays_in}
use Rattle.scopes.specs.Handed.{RootsHanded}
use Rattle.scopes.proofs.hand_stmts.Given as goal

abbrev pub invariant-loop-i : goal.invariant-loop-i
invariant-loop-i l = (l.b ≤ l.i) × (length l.blocks ≡ length l.initial.blocks) × Chain (block_step (decoded l.c)) (stays_in (decoded l.c)) l.i l.b × RootsHanded (decoded l.c) l.i l.blocks
