use mathlib.Core.Path.{refl}
use lib.ListN.{length-drop, drop}
use native.Mathlib.Omega.{arith}
use Rattle.values.proofs.Heading.{standard_heads}
use Rattle.values.proofs.heads.find_heads.Goals as goal

pub loop-x-init : goal.loop-x-init
loop-x-init c = rw c.copy_from_slice.ensures.after (omega (arith, length-drop 3 c.args.heads.now), refl, standard_heads _ (drop 3 c.args.heads.now))
