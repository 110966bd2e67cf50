-- The words of types and of nodes. Assumes nothing.
use Prim.Native.Nat.{ℕ}
use mathlib.Core.Path.{◌≡◌}
use mathlib.Core.Bool.{true, false}
use lib.Dec.{eqb}
use borrow.Author.Tests.{eq-eqb, ne_eqb}
use Rattle.table.specs.Table.{Table}
use Rattle.table.specs.Entries.{node_kind, node_q}
use Rattle.types.specs.Types.{numbered, evened, type_of_node, type_of}
use Rattle.types.specs.Match.{matching, is_equal}
use Rattle.sizes.specs.Sizes.{words_of}
use Rattle.sizes.specs.Kept.{words_in}
use Rattle.sizes.proofs.Strings.{equal_words}
use Rattle.operands.specs.Answers.{single, node_words}

-- types that match have as many words
module _ (T : Table) where
  pub match_words : (τ σ : ℕ) → is_equal (matching T (numbered τ) (numbered σ)) ≡ true → words_of T τ ≡ words_of T σ
  unfolding words_in
  match_words τ σ e = equal_words T (numbered τ) (numbered σ) e

  -- nodes
  module _ (n : ℕ) where
    pub words_constant : node_kind T n ≡ 8 → node_words T n ≡ evened (node_q T n)
    unfolding node_words type_of_node words_in
    words_constant e = rw (eq-eqb (node_kind T n) 8 e)

    pub words_numbered : (node_kind T n ≡ 8 → ⊥) → node_words T n ≡ words_of T (type_of T n)
    unfolding node_words type_of_node words_in
    words_numbered e = rw (ne_eqb (node_kind T n) 8 e)

    pub single_numbered : (node_kind T n ≡ 8 → ⊥) → single T n ≡ eqb (words_of T (type_of T n)) 1
    unfolding single
    single_numbered e = rw (ne_eqb (node_kind T n) 8 e)

    pub single_constant : node_kind T n ≡ 8 → single T n ≡ false
    unfolding single
    single_constant e = rw (eq-eqb (node_kind T n) 8 e)

  -- nodes whose types are equal have as many words
  pub match_nodes : (p q : ℕ) → is_equal (matching T (type_of_node T p) (type_of_node T q)) ≡ true → node_words T p ≡ node_words T q
  unfolding node_words
  match_nodes p q e = equal_words T (type_of_node T p) (type_of_node T q) e
