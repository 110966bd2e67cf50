use Prim.Native.Nat.{◌+◌}
use borrow.Author.Tests.{tests}
use Rattle.std.proofs.Common.{rules}
use Rattle.code.specs.Code.{decoded}
use Rattle.table.specs.Entries.{type_p, field_type}
use Rattle.values.specs.Heads.{PartHas}
use Rattle.values.proofs.Each.{each_of}
use Rattle.values.proofs.Heading.{fields_have, field_has}
use Rattle.values.proofs.heads.fields_share.Goals as goal

pub returns : goal.returns
returns c =
    let T = decoded c.args.c.now in
    fields_have T c.args.x c.args.h _ c.all.result c.type_q.ensures.is
    (each_of _ _ _ _ (λ i. PartHas T c.args.x c.args.h (field_type T (type_p T c.args.x + i))) c.all.ensures.ran (cc) (λ x q k. search (rules, tests, field_has)))
