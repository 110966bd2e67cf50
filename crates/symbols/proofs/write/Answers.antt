use Rattle.symbols.proofs.Answering.{laid_none, laid_more}
use Rattle.symbols.proofs.write.Goals as goal

pub loop-size-init : goal.loop-size-init
loop-size-init c = laid_none _ _ c.requires _ _ c.passed-c.ensures

pub loop-size-preserved : goal.loop-size-preserved
loop-size-preserved c =
    laid_more _ _ c.requires _ _ _ _ c.loop-size.invariant _ c.in-Some.ensures.is _ c.symbol_kind-kind.ensures _ c.put_symbol.ensures _ _ c.passed-c-in-Some.ensures
