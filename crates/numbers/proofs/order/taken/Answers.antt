use Rattle.std.proofs.Common.{arith, ◌∙◌}
use Rattle.basics.specs.Loops.{Chain}
use Rattle.numbers.specs.Takes.{Takes}
use Rattle.basics.specs.Chain.{step_take, test_take, taken}
use Rattle.basics.proofs.Chains.{chain_none, chain_more, chain_fail, chain_all}
use Rattle.numbers.proofs.Taking.{row_ok, row_bad, row_step, pass_ok, pass_step}
use Rattle.numbers.proofs.order.taken.Goals as goal
use Rattle.numbers.proofs.order.taken.Goals.{in-Some+else-gap, in_default}

pub loop-i-init : goal.loop-i-init
loop-i-init g c = λ takes first count h. chain_none _ _

pub returns-then-gap : goal.returns-then-gap
unfolding taken
returns-then-gap g c =
    λ takes first count h.
    chain_fail _ _ c.loop-i.i c.loop-i.free (c.loop-i.invariant takes first count h) c.args.n c.args.total (omega arith)
    (row_bad takes first count c.loop-i.i c.loop-i.free c.row.result (h c.loop-i.i c.row.result c.row.ensures) c.in-Some.first c.in-Some.count c.in-Some.is c.if-gap.true)

pub loop-i-preserved : goal.loop-i-preserved
loop-i-preserved g c =
    λ takes first count h.
    let i = c.loop-i.i in
    let j = c.loop-i.free in
    let k : Takes takes first count i c.row.result = h i c.row.result c.row.ensures in
    let s : Chain (step_take takes first count) (test_take takes first) i j = c.loop-i.invariant takes first count h in
    elim c.match-row.branch [
      | in-Some+else-gap w ↦
          chain_more _ _ i j s c.match-row.free
          (row_ok takes first count i j c.row.result k w.in-Some.first w.in-Some.count w.in-Some.is w.if-gap.false)
          (w.free-is ∙ row_step takes first count i j c.row.result k w.in-Some.first w.in-Some.count w.in-Some.is)
      | in_default w ↦
          chain_more _ _ i j s c.match-row.free
          (pass_ok takes first count i j c.row.result k w.in_default.is)
          (w.free-is ∙ pass_step takes first count i j c.row.result k w.in_default.is)
    ]

pub returns : goal.returns
unfolding taken
returns g c =
    λ takes first count h. chain_all _ _ c.loop-i.i c.loop-i.free (c.loop-i.invariant takes first count h) c.args.n c.args.total (omega arith) (omega arith)
