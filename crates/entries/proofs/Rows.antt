-- The table of kinds asks of each entry what the code tests. Assumes nothing.
use Prim.Native.Nat.{ℕ, suc}
use mathlib.Core.Path.{◌≡◌, refl, ap, ◌∙◌}
use mathlib.Core.Bool.{Bool, true, false}
use native.Mathlib.Omega.{arith}
use lib.Dec.{eqb, leb}
use borrow.Author.Tests.{le-leb, lt-leb}
use Rattle.basics.specs.Choice.{both, between, all_below}
use Rattle.basics.proofs.Bools.{all_i}
use Rattle.table.specs.Table.{Table}
use Rattle.table.specs.Entries.{var_mode, block_kind, node_kind, node_q, node_v, stmt_kind, type_count, var_count, block_count, node_count, stmt_count}
use Rattle.table.specs.Kinds.{rows, row_of, held, each_field}
use Rattle.table.proofs.EachKind.{type_kinds, node_kinds, stmt_kinds}
use Rattle.table.proofs.EachField.{alone, all_four, all_five, all_six, all_first, all_seven, all_same, declared_is}
use Rattle.entries.specs.Known.{field_known, entry_known, section_known, known}
use Rattle.entries.specs.Tested.{type_known, var_known, block_known, node_known, stmt_known, tested}

-- conjunctions in another order
turned : (a b : Bool) → both a (both b true) ≡ both b a
unfolding both
turned true true = refl
turned true false = refl
turned false true = refl
turned false false = refl

grouped : (a b c d e : Bool) → both a (both b (both c (both d (both e true)))) ≡ both (both a b) (both (both c d) e)
unfolding both
grouped false b c d e = refl
grouped true false c d e = refl
grouped true true false d e = refl
grouped true true true false e = refl
grouped true true true true e = alone e

module _ (T : Table) (i : ℕ) where
  -- the test of field f of section s
  test : ℕ → ℕ → Bool
  test s f = field_known (held T s i f) (T.cell s i f)

  -- types
  type_fields : each_field field_known T 0 i ≡ both (test 0 0) (both (test 0 1) (both (test 0 2) (both (test 0 3) (both (test 0 4) true))))
  unfolding each_field test
  type_fields = all_five (test 0)

  type_row : (k : ℕ) → T.cell 0 i 0 ≡ k → entry_known T 0 i ≡ type_known T i
  unfolding entry_known test held row_of rows field_known both between
  type_row =
      type_kinds (λ k. T.cell 0 i 0 ≡ k → entry_known T 0 i ≡ type_known T i)
      (λ e. rw (declared_is T i 0, e))
      (λ e. rw (type_fields, declared_is T i 0, declared_is T i 3, declared_is T i 4, e) (ap (both (eqb (T.cell 0 i 3) 0)) (alone (eqb (T.cell 0 i 4) 0))))
      (λ e. rw (type_fields, declared_is T i 0, e))
      (λ e. rw (type_fields, declared_is T i 0, declared_is T i 2, declared_is T i 3, declared_is T i 4, e) (ap (λ x. both (eqb (T.cell 0 i 2) 0) (both (eqb (T.cell 0 i 3) 0) x)) (alone (eqb (T.cell 0 i 4) 0))))
      (λ k e. rw (declared_is T i 0, e, le-leb 1 (suc (suc (suc (suc k)))) (omega arith), lt-leb (suc (suc (suc (suc k)))) 3 (omega arith)))

  -- variables and blocks
  var_row : entry_known T 2 i ≡ var_known T i
  unfolding entry_known each_field all_below held row_of rows field_known both between
  var_row = rw (le-leb 0 (var_mode T i) (omega arith)) (alone (leb (var_mode T i) 2))

  block_row : entry_known T 3 i ≡ block_known T i
  unfolding entry_known each_field all_below held row_of rows field_known both between
  block_row = rw (le-leb 0 (block_kind T i) (omega arith)) (alone (leb (block_kind T i) 2))

  -- nodes
  node_fields : each_field field_known T 5 i ≡ both (test 5 0) (both (test 5 1) (both (test 5 2) (both (test 5 3) true)))
  unfolding each_field test
  node_fields = all_four (test 5)

  node_row : (k : ℕ) → node_kind T i ≡ k → entry_known T 5 i ≡ node_known T i
  unfolding entry_known test held row_of rows field_known both between
  node_row =
      node_kinds (λ k. node_kind T i ≡ k → entry_known T 5 i ≡ node_known T i)
      (λ e. rw (node_fields, e)) (λ e. rw (node_fields, e)) (λ e. rw (node_fields, e)) (λ e. rw (node_fields, e)) (λ e. rw (node_fields, e))
      (λ e. rw (node_fields, e) (turned (between 1 3 (node_q T i)) (eqb (node_v T i) 0)))
      (λ e. rw (node_fields, e) (alone (between 1 13 (node_v T i))))
      (λ e. rw (node_fields, e))
      (λ e. rw (node_fields, e))
      (λ k e. rw (e, lt-leb (suc (suc (suc (suc (suc (suc (suc (suc (suc k))))))))) 8 (omega arith)))

  -- statements
  stmt_fields : each_field field_known T 6 i ≡ both (test 6 0) (both (both (test 6 1) (test 6 2)) (both (both (test 6 3) (test 6 4)) (test 6 5)))
  unfolding each_field test
  stmt_fields = all_six (test 6) ∙ ap (both (test 6 0)) (grouped (test 6 1) (test 6 2) (test 6 3) (test 6 4) (test 6 5))

  stmt_row : (k : ℕ) → stmt_kind T i ≡ k → entry_known T 6 i ≡ stmt_known T i
  unfolding entry_known test held row_of rows field_known both between
  stmt_row =
      stmt_kinds (λ k. stmt_kind T i ≡ k → entry_known T 6 i ≡ stmt_known T i)
      (λ e. rw (stmt_fields, e)) (λ e. rw (stmt_fields, e)) (λ e. rw (stmt_fields, e)) (λ e. rw (stmt_fields, e)) (λ e. rw (stmt_fields, e))
      (λ e. rw (stmt_fields, e)) (λ e. rw (stmt_fields, e)) (λ e. rw (stmt_fields, e)) (λ e. rw (stmt_fields, e)) (λ e. rw (stmt_fields, e))
      (λ e. rw (stmt_fields, e)) (λ e. rw (stmt_fields, e)) (λ e. rw (stmt_fields, e)) (λ e. rw (stmt_fields, e))
      (λ k e. rw (e, lt-leb (suc (suc (suc (suc (suc (suc (suc (suc (suc (suc (suc (suc (suc (suc k)))))))))))))) 13 (omega arith)))

-- THE RULE
in-order : (t v b n s : Bool) → both t (both true (both v (both b (both true (both n (both s (both true true))))))) ≡ both (both t (both v b)) (both n s)
unfolding both
in-order false v b n s = refl
in-order true false b n s = refl
in-order true true false n s = refl
in-order true true true false s = refl
in-order true true true true s = alone s

module _ (T : Table) where
  -- fields, arguments and characters
  free : (s : ℕ) → ((i : ℕ) → entry_known T s i ≡ true) → section_known T s ≡ true
  unfolding section_known
  free s h = all_i (T.count s) (entry_known T s) (λ i l. h i)

  free_field : (i : ℕ) → entry_known T 1 i ≡ true
  unfolding entry_known each_field all_below held row_of rows field_known both
  free_field i = refl

  free_argument : (i : ℕ) → entry_known T 4 i ≡ true
  unfolding entry_known each_field all_below held row_of rows field_known both
  free_argument i = refl

  free_character : (i : ℕ) → entry_known T 7 i ≡ true
  unfolding entry_known each_field all_below held row_of rows field_known both
  free_character i = refl

  pub known_tested : known T ≡ tested T
  unfolding known section_known
  known_tested =
      all_first 7 (section_known T)
      ∙ ap (both (section_known T 0)) (all_seven (λ k. section_known T (suc k)))
      ∙ rw (free 1 free_field, free 4 free_argument, free 7 free_character, all_same (type_count T) (entry_known T 0) (type_known T) (λ i. type_row T i (T.cell 0 i 0) refl), all_same (var_count T) (entry_known T 2) (var_known T) (var_row T), all_same (block_count T) (entry_known T 3) (block_known T) (block_row T), all_same (node_count T) (entry_known T 5) (node_known T) (λ i. node_row T i (node_kind T i) refl), all_same (stmt_count T) (entry_known T 6) (stmt_known T) (λ i. stmt_row T i (stmt_kind T i) refl)) (in-order _ _ _ _ _)
