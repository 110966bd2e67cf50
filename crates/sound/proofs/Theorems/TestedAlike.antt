-- A board tested under 0 behaves alike under 1, of the calls with the checker's verdict (02, g). Assumes nothing.
use Prim.Native.Nat.{ℕ}
use Rattle.verdict.specs.Verdict.{verdict}
use Rattle.sound.specs.Histories.{History}
use Rattle.sound.specs.Tested.{TestedAlike}
use Rattle.sound.proofs.Theorems.Demand3.{demand3, first_ruled}
use Rattle.sound.proofs.StartValues.TwinRuns as tested

-- THE THEOREM
pub tested_alike : (w : ℕ) (h : History verdict w) → TestedAlike verdict w h
tested_alike w h = tested.tested_alike verdict w (demand3 w) (first_ruled w) h
