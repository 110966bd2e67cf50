use mathlib.Core.Path.{◌≡◌}
use native.Mathlib.Omega.{arith}
use Rattle.std.proofs.lemmas.Result.{err_from_is_err_and}
use Rattle.verdict.specs.declared.Refusal.TheVariants.{Sections}
use Rattle.verdict.proofs.Rooming.{decodable_small, some_read, none_read, checked_found, checked_none}
use Rattle.verdict.proofs.check_bytes.Goals as goal

pub returns-in_err-s : goal.returns-in_err-s
returns-in_err-s c =
    let p = err_from_is_err_and c.from_residual.result c.from_residual.ensures.1 in
    let e : c.in_err-s.field-0.0 ≡ Sections = cc (rw c.in_err-s.ensures.ok_part at c.in_err-s.ensures.value) in
    rw (p.1, p.2, e) (checked_none 1 _ _ c.requires.long (none_read _ _ _ c.read_sections.ensures c.in_err-s.ensures.ok_part))

pub decode-requires : goal.decode-requires
decode-requires c =
    let h = some_read _ _ _ _ c.read_sections.ensures c.in_ok-s.ensures.ok_part in
    decodable_small _ (λ i. omega (arith, c.type_inv.t i)) _ _ h.sections h.width c.requires

pub judge_small-requires-clause-decodes : goal.judge_small-requires-clause-decodes
judge_small-requires-clause-decodes c =
    let h = some_read _ _ _ _ c.read_sections.ensures c.in_ok-s.ensures.ok_part in
    record { table = h.sections; is = c.decode.ensures.0 }

pub judge_small-requires-clause-w_value : goal.judge_small-requires-clause-w_value
judge_small-requires-clause-w_value c = let h = some_read _ _ _ _ c.read_sections.ensures c.in_ok-s.ensures.ok_part in h.width

pub returns : goal.returns
returns c =
    let h = some_read _ _ _ _ c.read_sections.ensures c.in_ok-s.ensures.ok_part in
    checked_found 1 _ _ c.decode.ensures.1 _ h c.decode.ensures.0 _ c.judge_small.ensures
