-- What verdict 0 promises: the table keeps every rule. All above this layer uses these facts and what the rules' crates promise of them. Assumes nothing.
use Prim.Native.Nat.{ℕ}
use mathlib.Core.Path.{◌≡◌}
use mathlib.Core.List.{List}
use native.Mathlib.Omega.{arith}
use Rattle.basics.proofs.Bools.{zero_test}
use Rattle.table.specs.Bytes.{whole}
use Rattle.table.specs.Empty.{bytes_read}
use Rattle.table.specs.Table.{Table, table_of}
use Rattle.entries.specs.Known.{known}
use Rattle.numbers.specs.Ranges.{in_range}
use Rattle.uses.specs.Uses.{used_once}
use Rattle.nesting.specs.Nest.{nested}
use Rattle.sizes.specs.Sizes.{sized}
use Rattle.scopes.specs.Scopes.{scoped}
use Rattle.typing.specs.Typing.{typed}
use Rattle.verdict.specs.Verdict.{judged_late, judged_uses, judged, judged_bytes, verdict}
use Rattle.verdict.specs.Accepted.{Accepted}

pub accepted : (T : Table) → judged T ≡ 0 → Accepted T
unfolding judged judged_uses judged_late
accepted T h =
    let a = zero_test (known T) _ 3 (λ e. omega arith) h in
    let b = zero_test (in_range T) _ 4 (λ e. omega arith) a.1 in
    let c = zero_test (used_once T) _ 5 (λ e. omega arith) b.1 in
    let d = zero_test (nested T) _ 6 (λ e. omega arith) c.1 in
    let e = zero_test (sized T) _ 7 (λ e. omega arith) d.1 in
    let f = zero_test (scoped T) _ 8 (λ e. omega arith) e.1 in
    let g = zero_test (typed T) _ 9 (λ e. omega arith) f.1 in
    record {
      kinds = a.0;
      numbers = b.0;
      uses = c.0;
      nesting = d.0;
      sizes = e.0;
      scopes = f.0;
      types = g.0;
    }

pub promise : (w : ℕ) (t : List ℕ) → verdict w t ≡ 0 → Accepted (table_of w t)
unfolding verdict judged_bytes table_of
promise w t h = accepted (table_of w t) (zero_test (whole w (bytes_read w t)) _ 2 (λ e. omega arith) h).1
