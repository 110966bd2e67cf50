use Prim.Native.Nat.{◌+◌, ◌-◌}
use native.Mathlib.Omega.{arith}
use Rattle.symbols.specs.Kinds.{kind_number}
use Rattle.symbols.proofs.Seven.{number_is, seven}
use Rattle.symbols.proofs.put_symbol.Goals as goal

pub returns : goal.returns
returns c =
    let a = c.args in
    seven a.out.now _ _ _ _ a.at (a.at + 7 - a.at) (kind_number a.kind) _ a.line a.place a.size c.copy_from_slice.ensures.after (number_is a.kind)
    c.to_le_bytes.ensures c.to_le_bytes-2.ensures c.to_le_bytes-3.ensures c.requires (omega arith)
