-- What is lent serves each function that takes a part of it. Assumes nothing.
use Prim.Native.Nat.{ℕ, ◌<◌, ◌≤◌}
use mathlib.Core.Path.{◌≡◌, ◌∙◌}
use mathlib.Core.List.{List}
use lib.ListN.{length}
use native.Mathlib.Omega.{arith}
use Rattle.table.specs.Entries.{node_count, node_kind}
use Rattle.types.specs.Types.{type_of}
use Rattle.numbers.specs.Nodes.{Variable, Expression}
use Rattle.code.specs.Code.{slot_in, decoded}
use Rattle.prepare.specs.Prepared.{Prepared}
use Rattle.operands.specs.declared.Context.{Context}
use Rattle.operands.specs.Ready.{Ready, Valued, Counted}
use Rattle.operands.proofs.NodeTypes.{type_there}
use Rattle.operands.proofs.Typed.{below_eight}
use Rattle.machine.specs.Layout.{state_size, page_size}
use Rattle.machine.specs.Lent.{State}

module _ (t m p : List ℕ) (x : Context) (h : Ready t m p x) where
  pub lends_code : Prepared t
  lends_code = h.code

  pub lends_state : length m ≡ state_size
  lends_state = h.state

  pub lends_lent : State m
  lends_lent = record { long = h.state }

  pub lends_page : length p ≡ page_size
  lends_page = h.page

  -- the type of node n, as it is read
  pub lends_type : (n τ : ℕ) → n < node_count (decoded t) → τ ≡ slot_in t n 23 → τ ≡ type_of (decoded t) n
  lends_type n τ l e = e ∙ h.code.types n l

  node_valued : (n : ℕ) → n < node_count (decoded t) → node_kind (decoded t) n ≤ 7 → Valued t n
  node_valued n l k =
      record {
        there = l;
        type = record { code = h.code; sized = h.sized; there = type_there (decoded t) h.ranged h.typed n l k };
      }

  pub variable_valued : (n : ℕ) → Variable (decoded t) (node_count (decoded t)) n → Valued t n
  variable_valued n v = node_valued n v.below (omega (arith, v.high))

  pub expression_valued : (n : ℕ) → Expression (decoded t) (node_count (decoded t)) n → (node_kind (decoded t) n ≡ 8 → ⊥) → Valued t n
  expression_valued n v k = node_valued n v.below (below_eight (decoded t) (node_count (decoded t)) n v k)

  pub expression_counted : (n : ℕ) → Expression (decoded t) (node_count (decoded t)) n → Counted t n
  expression_counted n v =
      record { code = h.code; there = v.below; type = λ k. (expression_valued n v k).type.there }

pub ruleset lends = (lends_code, lends_state, lends_lent, lends_page)
