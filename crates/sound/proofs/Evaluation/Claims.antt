-- EVALUATION, in the form of the claims: operands are good, arguments fill a frame, and the statement of a started process is not stuck. Assumes nothing.
use Prim.Native.Nat.{ℕ, ◌≤◌, ◌<◌}
use mathlib.Core.Path.{◌≡◌}
use mathlib.Core.Bool.{true}
use mathlib.Core.List.{List}
use native.Mathlib.Omega.{arith}
use native.Mathlib.Nat.{zero-add}
use lib.ListN.{get_or}
use lib.Dec.{eqb, leb}
use borrow.Author.Tests.{eqb-true, eqb-false, leb-true, leb-false}
use Rattle.basics.specs.Cases.{cases}
use Rattle.table.specs.Table.{Table}
use Rattle.table.specs.Entries.{block_count, node_count, first_var, params, node_kind}
use Rattle.types.specs.Types.{type_of, NodeType, numbered, type_of_node}
use Rattle.types.proofs.Matching.{numbered_type}
use Rattle.scopes.specs.Scopes.{node_scoped, scoped}
use Rattle.machine.specs.Memory.{Memory}
use Rattle.machine.specs.Layout.{statement_at, created_at}
use Rattle.machine.specs.Outcomes.{Outcome, Operand}
use Rattle.machine.specs.Entries.{stmt_at}
use Rattle.machine.specs.Variables.{first_words}
use Rattle.machine.specs.Context.{context_of, block_of}
use Rattle.machine.specs.Operands.{operand}
use Rattle.machine.specs.Statements.{perform}
use Rattle.verdict.specs.Accepted.{Accepted}
use Rattle.sound.specs.Claims.{PlaceLaws, Started, Good, selects, yields, spells}
use Rattle.sound.specs.Answers.{Small}
use Rattle.sound.specs.Claims as claims
use Rattle.sound.specs.Ruled.{Ruled, Fills}
use Rattle.sound.specs.Reached.{WordTable}
use Rattle.sound.specs.Evaluated.{GoodPlace, at_place, no_place, GoodValue, a_value, a_text, no_value, GoodNode, ParameterWords, Performed}
use Rattle.sound.proofs.Rule.RuleRecord.{ruled, stands}
use Rattle.sound.proofs.Rule.Chains.{created_low, created_high}
use Rattle.sound.proofs.Evaluation.Nodes.{node_good}
use Rattle.sound.proofs.Evaluation.Arguments.{bound_length, bound_value, bound_place}
use Rattle.sound.proofs.Evaluation.StructuredStatements.{performs}
use Rattle.sound.proofs.Evaluation.Scopes.{node_scoping, all_scoped}

-- a good place and a good value are good
module _ (T : Table) (m : Memory) (p : ℕ) where
  place_is_good : (τ : ℕ) (o : Outcome Operand) → GoodPlace T m p τ o → Good T m p (numbered τ) o
  place_is_good τ _ (at_place a l) = selects a l.alive
  place_is_good τ _ (no_place n l) = claims.fails n l

  value_is_good : (κ : NodeType) (o : Outcome Operand) → GoodValue T m κ o → Good T m p κ o
  value_is_good _ _ (a_value ws v s) = yields ws v
  value_is_good _ _ (a_text ws t) = spells ws t
  value_is_good _ _ (no_value n l) = claims.fails n l

-- the words of arguments fill the parameters of block b
pub fills : (T : Table) (m : Memory) (p b : ℕ) (ws : List ℕ) → ParameterWords T m p (params T b) (first_var T b) ws → Fills T m p b ws
unfolding first_words
fills T m p b ws h =
    record {
      long = bound_length T m p (params T b) (first_var T b) ws h;
      values = λ i l e n a k s. bound_value T m p n k (params T b) (first_var T b) a i ws h (record { at = s }) l e;
      places = λ i l e. rw zero-add at (bound_place T m p (λ j. get_or ws j 0) (params T b) (first_var T b) 0 i ws h (record { at = λ j g. rw zero-add }) l e).alive;
    }

module _ (T : Table) (acc : Accepted T) (inner : scoped T ≡ true) (L : PlaceLaws T) (W : WordTable T) (m page : Memory) (p : ℕ) (S : Started T m p) (ms : Small m) (ps : Small page) where
  R : Ruled T m
  R = ruled T m S.ruled

  some : 1 ≤ p
  some = created_low m p S.created

  made : p ≤ m created_at
  made = created_high m p S.created

  there : block_of m p < block_count T
  there = (stands T acc m p some made (R.process p some made) S.started).there

  -- EVALUATION of a node, by its sort
  pub evaluates : (n : ℕ) → n < node_count T → node_scoped T (block_of m p) n ≡ true → GoodNode T m p n (operand T m page (context_of m p) n)
  evaluates n l c = node_good T acc L W m R ms page ps p some made S.started (λ k. node_scoped T (block_of m p) k ≡ true) (node_scoping T acc (block_of m p) there) n l c

  -- and as the claims have it
  pub good : (n : ℕ) → n < node_count T → node_scoped T (block_of m p) n ≡ true → Good T m p (type_of_node T n) (operand T m page (context_of m p) n)
  good n l c =
      let g = evaluates n l c in
      cases (eqb (node_kind T n) 0)
      (λ q. let e = eqb-true (node_kind T n) 0 q in value_is_good T m p (type_of_node T n) (operand T m page (context_of m p) n) (g.expression (λ z. omega arith)))
      (λ q.
      let e = eqb-false (node_kind T n) 0 q in
      cases (leb (node_kind T n) 3)
      (λ u.
      let f = leb-true (node_kind T n) 3 u in
      rw (numbered_type T n (λ z. omega arith)) (place_is_good T m p (type_of T n) (operand T m page (context_of m p) n) (g.variable (omega arith) f)))
      (λ u. value_is_good T m p (type_of_node T n) (operand T m page (context_of m p) n) (g.expression (λ z. leb-false (node_kind T n) 3 u))))

  -- THE STATEMENT of a started process is not stuck, and this is what it comes to
  pub performed : Performed T m page p (perform T m page (context_of m p) (stmt_at T (m (statement_at p))))
  performed = performs T acc L W m R ms page ps p some made S.started (λ k. node_scoped T (block_of m p) k ≡ true) (all_scoped T acc (block_of m p) there inner)
