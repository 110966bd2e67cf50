use Rattle.table.specs.Reading.{SectionsTo}
use Rattle.table.proofs.read_sections.Given as goal

abbrev pub invariant-loop-k : goal.invariant-loop-k
invariant-loop-k l = SectionsTo l.t l.w l.counts l.starts l.p l.k
