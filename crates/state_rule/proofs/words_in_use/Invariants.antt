use Prim.Native.Nat.{◌*◌, ◌≤◌}
use Rattle.state_rule.proofs.words_in_use.Given as goal

abbrev pub invariant-loop-p : goal.invariant-loop-p
invariant-loop-p l = l.sum ≤ l.p * 65536
