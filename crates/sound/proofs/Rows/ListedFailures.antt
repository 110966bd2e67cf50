-- The failures of the rules are the listed ones. Assumes nothing.
use Prim.Native.Nat.{ℕ, ◌+◌}
use mathlib.Core.Path.{◌≡◌}
use mathlib.Core.Bool.{true}
use native.Mathlib.Omega.{arith}
use Rattle.table.specs.Table.{Table}
use Rattle.machine.specs.Memory.{Memory}
use Rattle.machine.specs.Context.{Context}
use Rattle.machine.specs.Entries.{Statement}
use Rattle.machine.specs.Outcomes.{is_failure}
use Rattle.machine.proofs.Tests.{failure_i, failure_unset}
use Rattle.sound.specs.Conditions.{NodeFails, result, inverted, divisor, index, device, transferred, unset, in_record, in_array, in_index, in_variable, in_unary, in_transfer, in_left, in_right, ArgumentsFail, this_argument, later_argument, GuardsFail, this_guard, later_guard, StatementFails, target, source, local_argument, local_space, local_area, callee, callee_unset, callee_empty, call_argument, call_area, createe, limit, startee, startee_unset, startee_empty, started_twice, start_argument, guard, address, datum, location}

module _ (T : Table) (m page : Memory) (x : Context) where
  node_listed : (f n : ℕ) → NodeFails T m page x f n → is_failure f ≡ true
  node_listed _ n (result e y w q r) = failure_i _ (omega arith) (omega arith)
  node_listed _ n (inverted e y r) = failure_i _ (omega arith) (omega arith)
  node_listed _ n (divisor e y w q r) = failure_i _ (omega arith) (omega arith)
  node_listed _ n (index e y t w h) = failure_i _ (omega arith) (omega arith)
  node_listed _ n (device e y h) = failure_i _ (omega arith) (omega arith)
  node_listed _ n (transferred e y h) = failure_i _ (omega arith) (omega arith)
  node_listed _ n (unset e y h) = failure_unset
  node_listed f n (in_record {a = a} e h) = node_listed f a h
  node_listed f n (in_array {a = a} e h) = node_listed f a h
  node_listed f n (in_index {k = k} e y h) = node_listed f k h
  node_listed f n (in_variable {a = a} e h) = node_listed f a h
  node_listed f n (in_unary {a = a} e h) = node_listed f a h
  node_listed f n (in_transfer {a = a} e h) = node_listed f a h
  node_listed f n (in_left {a = a} e h) = node_listed f a h
  node_listed f n (in_right {b = b} e y h) = node_listed f b h

  arguments_listed : (f k v i : ℕ) → ArgumentsFail T m page x f k v i → is_failure f ≡ true
  arguments_listed f _ v i (this_argument h) = node_listed f _ h
  arguments_listed f _ v i (later_argument {k = k} e h) = arguments_listed f k (v + 1) (i + 1) h

  guards_listed : (f i : ℕ) → GuardsFail T m page x f i → is_failure f ≡ true
  guards_listed f i (this_guard {g = g} e h) = node_listed f g h
  guards_listed f i (later_guard {l = l} e y z h) = guards_listed f l h

  pub statement_listed : (f : ℕ) (S : Statement) → StatementFails T m page x f S → is_failure f ≡ true
  statement_listed f _ (target h) = node_listed f _ h
  statement_listed f _ (source y h) = node_listed f _ h
  statement_listed f _ (local_argument h) = arguments_listed f _ _ _ h
  statement_listed _ _ (local_space e h) = failure_i _ (omega arith) (omega arith)
  statement_listed _ _ (local_area e h) = failure_i _ (omega arith) (omega arith)
  statement_listed f _ (callee h) = node_listed f _ h
  statement_listed _ _ (callee_unset y u) = failure_unset
  statement_listed _ _ (callee_empty y z) = failure_i _ (omega arith) (omega arith)
  statement_listed f _ (call_argument y z s h) = arguments_listed f _ _ _ h
  statement_listed _ _ (call_area y z s e h) = failure_i _ (omega arith) (omega arith)
  statement_listed f _ (createe h) = node_listed f _ h
  statement_listed _ _ (limit y e) = failure_i _ (omega arith) (omega arith)
  statement_listed f _ (startee h) = node_listed f _ h
  statement_listed _ _ (startee_unset y u) = failure_unset
  statement_listed _ _ (startee_empty y z) = failure_i _ (omega arith) (omega arith)
  statement_listed _ _ (started_twice y z n) = failure_i _ (omega arith) (omega arith)
  statement_listed f _ (start_argument y z s t h) = arguments_listed f _ _ _ h
  statement_listed f _ (guard h) = guards_listed f _ h
  statement_listed f _ (address h) = node_listed f _ h
  statement_listed f _ (datum y h) = node_listed f _ h
  statement_listed _ _ (location y w h) = failure_i _ (omega arith) (omega arith)
