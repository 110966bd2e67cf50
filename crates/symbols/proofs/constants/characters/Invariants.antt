use Prim.Native.Nat.{◌-◌}
use lib.ListN.{length}
use Rattle.symbols.proofs.Strings.{Strung}
use Rattle.symbols.proofs.constants.characters.Given as goal

abbrev pub invariant-loop-size : goal.invariant-loop-size
invariant-loop-size l = Strung l.text l.at

abbrev pub decreases-loop-size : goal.decreases-loop-size
decreases-loop-size l = length l.text - l.at
