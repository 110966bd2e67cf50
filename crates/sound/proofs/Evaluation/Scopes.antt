-- Evaluation: a table that keeps refusal 8 has the scopes that evaluation asks for. Assumes nothing.
use Prim.Native.Nat.{ℕ, ◌<◌}
use mathlib.Core.Path.{◌≡◌, sym, ◌∙◌}
use mathlib.Core.Bool.{true}
use mathlib.Core.Logic.{⊎_elim}
use native.Mathlib.Omega.{arith}
use borrow.Author.Tests.{lt-ltb}
use Rattle.basics.specs.Chain.{free}
use Rattle.basics.proofs.Bools.{no_true, both_i}
use Rattle.table.specs.Table.{Table}
use Rattle.table.specs.Entries.{var_count, block_count, owner, first_var, vars, node_p, stmt_count}
use Rattle.nesting.specs.Nest as nest
use Rattle.nesting.specs.Blocks as nestingBlocks
use Rattle.nesting.proofs.Promise.{in_table, block_of}
use Rattle.numbers.proofs.BlockPromise.{owner_there, vars_there}
use Rattle.scopes.specs.Scopes.{node_scoped, scoped}
use Rattle.scopes.proofs.Promise.{Among}
use Rattle.scopes.proofs.Promise as scopes
use Rattle.machine.specs.Variables.{belongs}
use Rattle.machine.specs.Rule.{lies_in}
use Rattle.machine.proofs.Memories.{within_yes}
use Rattle.verdict.specs.Accepted.{Accepted}
use Rattle.sound.specs.Evaluated.{Scoping, Scoped}
use Rattle.sound.proofs.Evaluation.StructuredStatements.{lies_of}

module _ (T : Table) (acc : Accepted T) where
  among_belongs : (b x : ℕ) → b < block_count T → Among T b x → belongs T b x ≡ true
  unfolding belongs
  among_belongs b x l a =
      let v = vars_there T acc.numbers b l in
      let h = a.high in
      both_i _ _ (lt-ltb x (var_count T) (omega arith)) (within_yes (first_var T b) (vars T b) x a.low h)

  module _ (b : ℕ) (there : b < block_count T) where
    -- the nodes in the scope of block b
    pub node_scoping : Scoping T b (λ n. node_scoped T b n ≡ true)
    node_scoping =
        record {
          whole = λ n c k e.
              ⊎_elim (λ a. among_belongs b (node_p T n) there a)
              (λ a. no_true (sym e ∙ among_belongs (owner T b) (node_p T n) (owner_there T acc.numbers b there) a))
              (scopes.whole T b n c k);
          first = λ n c k u. scopes.operand_scoped T b n c k u;
          index = λ n c k. (scopes.index_scoped T b n c k).1;
          second = λ n c k. (scopes.second_scoped T b n c k).1;
        }

    module _ (h : scoped T ≡ true) (i : ℕ) (e : lies_in T b i ≡ true) where
      inside : i < stmt_count T
      inside = in_table T acc.nesting b there i (lies_of T b i e)

      block_is : free (nest.block_step T) i ≡ b
      unfolding nestingBlocks.stmt_block
      block_is = block_of T acc.nesting b i there (lies_of T b i e)

    -- and what its statements use
    pub all_scoped : scoped T ≡ true → Scoped T b (λ n. node_scoped T b n ≡ true)
    all_scoped h =
        record {
          nodes = node_scoping;
          assigned = λ i e k. scopes.assigned T h i (inside h i e) b (block_is h i e) k;
          assigned_value = λ i e k. scopes.assigned_value T h i (inside h i e) b (block_is h i e) k;
          local_owner = λ i e k. scopes.local_owner T h i (inside h i e) b (block_is h i e) k;
          local_argument = λ i e k. scopes.local_argument T h i (inside h i e) b (block_is h i e) k;
          called_variable = λ i e k. scopes.called_variable T h i (inside h i e) b (block_is h i e) k;
          called_argument = λ i e k. scopes.called_argument T h i (inside h i e) b (block_is h i e) k;
          created_variable = λ i e k. scopes.created_variable T h i (inside h i e) b (block_is h i e) k;
          started_variable = λ i e k. scopes.started_variable T h i (inside h i e) b (block_is h i e) k;
          started_argument = λ i e k. scopes.started_argument T h i (inside h i e) b (block_is h i e) k;
          guard = λ i e k. scopes.guard T h i (inside h i e) b (block_is h i e) k;
          written_address = λ i e k. scopes.written_address T h i (inside h i e) b (block_is h i e) k;
          written_value = λ i e k. scopes.written_value T h i (inside h i e) b (block_is h i e) k;
        }
