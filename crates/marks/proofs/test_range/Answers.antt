use mathlib.Core.Path.{◌≡◌}
use mathlib.Core.Bool.{true}
use Rattle.marks.proofs.Marking.{parting}
use Rattle.marks.proofs.test_range.Goals as goal
use Rattle.marks.proofs.test_range.Goals.{then-all_run, else-all_run}

pub returns-then-all_whole : goal.returns-then-all_whole
returns-then-all_whole c =
    elim c.if-all_run.branch [ then-all_run w ↦ let t : w.all_whole.result ≡ true = cc in search parting | else-all_run w ↦ absurd (cc) ]
