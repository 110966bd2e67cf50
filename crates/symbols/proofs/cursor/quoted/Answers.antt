use Rattle.std.proofs.Common.{rules}
use Rattle.symbols.proofs.Quoting.{quoting_line, quoting_more, quoting_closed, quoting_stop, quoting_end}
use Rattle.symbols.proofs.cursor.quoted.Goals.{in-10, in_default}
use Rattle.symbols.proofs.cursor.quoted.Goals as goal

pub returns-in-34 : goal.returns-in-34
returns-in-34 c = quoting_closed _ _ _ c.loop-i.invariant c.loop-i-test.true c.in-34.is

pub returns-in_default-2 : goal.returns-in_default-2
returns-in_default-2 c = quoting_stop _ _ _ c.loop-i.invariant c.loop-i-test.true (search rules) (search rules)

pub loop-i-preserved : goal.loop-i-preserved
loop-i-preserved c = elim c.match-b.branch [
  | in-10 w ↦ rw w.lines-is (quoting_line _ _ _ c.loop-i.invariant c.loop-i-test.true w.in-10.is)
  | in_default w ↦ rw w.lines-is (quoting_more _ _ _ c.loop-i.invariant c.loop-i-test.true (search rules) (search rules))
]

pub returns : goal.returns
returns c = quoting_end _ _ _ c.loop-i.invariant c.loop-i-test.false
