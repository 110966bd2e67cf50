use Prim.Native.Nat.{min}
use mathlib.Core.Path.{◌≡◌}
use Rattle.code.specs.Code.{decoded}
use Rattle.sizes.specs.Sizes.{var_offset}
use Rattle.sizes.proofs.var_offset.Given as goal

abbrev pub invariant-loop-i : goal.invariant-loop-i
invariant-loop-i l = l.sum ≡ min (var_offset (decoded l.c) l.b l.i) 257
