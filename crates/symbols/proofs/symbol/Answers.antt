use mathlib.Core.Path.{◌≡◌}
use Rattle.std.proofs.Common.{rules}
use Rattle.symbols.specs.Constants.{numeral_length, constant_length}
use Rattle.symbols.specs.Vocabulary.{name_length, special_length}
use Rattle.symbols.specs.Symbols.{symbol_length}
use Rattle.symbols.specs.Steps.{if_any}
use Rattle.symbols.proofs.Scanning.{symbol_within}
use Rattle.symbols.proofs.Telling.{or_any, or_all}
use Rattle.symbols.proofs.symbol.Goals as goal

pub returns : goal.returns
returns c =
    let l = c.args.text.now in
    let e : c.or_else-3.result ≡ if_any (symbol_length l) =
    or_all l c.or_else-3.result
    (or_any _ (special_length l) _ c.or_else-3.result
    (or_any _ (constant_length l) _ c.or_else-2.result
    (or_any (name_length l) (numeral_length l) c.name.result c.or_else.result c.name.ensures c.or_else.ensures (λ k. search rules))
    c.or_else-2.ensures (λ k. search rules))
    c.or_else-3.ensures (λ k. search rules)) in
    record { is = e; within = symbol_within l c.or_else-3.result e }
