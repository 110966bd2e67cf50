use Rattle.std.specs.Slice.Iter.{iter_rest}
use Rattle.std.specs.Iterator.Adapters.{rev_source}
use Rattle.symbols.proofs.Keys.{Packing}
use Rattle.symbols.proofs.vocabulary.key.Given as goal

abbrev pub invariant-loop-b : goal.invariant-loop-b
invariant-loop-b l = Packing l.name l.k (iter_rest (rev_source l.b-iterator))
