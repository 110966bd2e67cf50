use Prim.Native.Nat.{ℕ, ◌<◌}
use lib.ListN.{get_or}
use native.Mathlib.Omega.{arith}
use Rattle.table.proofs.Sectioning.{sections_none, sections_early, section-fits, start_fits, sections_more, sections_left, sections_all}
use Rattle.table.proofs.read_sections.Goals as goal

pub loop-k-init : goal.loop-k-init
loop-k-init c = search sections_none

pub returns-in_err-section : goal.returns-in_err-section
returns-in_err-section c = rw c.from_residual.ensures (sections_early _ _ _ _ _ _ c.loop-k.invariant (omega arith) _ c.read_section.ensures c.in_err-section.was)

pub overflow_add-starts : goal.overflow_add-starts
overflow_add-starts c = start_fits _ _ _ _ _ _ c.loop-k.invariant (omega arith) _ c.read_section.ensures _ c.in_ok-section.was (omega arith)

pub overflow_add-p : goal.overflow_add-p
overflow_add-p c = section-fits _ _ _ _ _ _ c.loop-k.invariant (omega arith) _ c.read_section.ensures _ c.in_ok-section.was (omega arith)

pub loop-k-preserved : goal.loop-k-preserved
loop-k-preserved c = let b : (i : ℕ) → get_or c.args.t.now i 0 < 256 = λ i. omega (arith, c.type_inv.t i) in sections_more _ _ _ _ _ _ c.loop-k.invariant (omega arith) _ c.read_section.ensures _ c.in_ok-section.was b

pub returns-then-p-t : goal.returns-then-p-t
returns-then-p-t c = sections_left _ _ _ _ _ _ c.loop-k.invariant (omega arith) c.if-p-t.true

pub returns : goal.returns
returns c = sections_all _ _ _ _ _ _ c.loop-k.invariant (omega arith) c.requires.0 c.requires.1 c.if-p-t.false
