-- The table of kinds asks of each entry what the code tests. Assumes nothing.
use Prim.Native.Nat.{ℕ, suc, ◌+◌}
use mathlib.Core.Path.{◌≡◌, refl, ap, ◌∙◌}
use mathlib.Core.Bool.{Bool, true}
use native.Mathlib.Omega.{arith}
use lib.Dec.{eqb, leb, ltb}
use borrow.Author.Tests.{ne_eqb, le-leb, lt-leb}
use Rattle.basics.specs.Choice.{pick, both, between, all_below}
use Rattle.basics.specs.Chain.{always}
use Rattle.table.specs.Table.{Table}
use Rattle.table.specs.Entries.{var_type, arg_node, node_kind, node_p, node_q, stmt_kind, stmt_a, stmt_link, type_count, var_count, block_count, node_count, stmt_count}
use Rattle.table.specs.Kinds.{names, rows, row_of, held, each_field, is_call}
use Rattle.table.proofs.EachKind.{type_kinds, node_kinds, stmt_kinds}
use Rattle.table.proofs.EachField.{alone, all_four, all_five, all_six, declared_is}
use Rattle.types.specs.Types.{type_of}
use Rattle.numbers.specs.Sorts.{nameable, limit, field_ranged, entry_ranged}
use Rattle.numbers.specs.Declarations.{is_record, type_ranged}
use Rattle.numbers.specs.Operands.{place_ranged, node_ranged}
use Rattle.numbers.specs.Tested.{variable_below, expression_below, type_tested, node_tested, stmt_tested}

-- a test with two tests after it that ask nothing
lone : (a : Bool) → both (both a true) true ≡ a
lone a = alone (both a true) ∙ alone a

module _ (T : Table) (i : ℕ) where
  pub arg_tested : entry_ranged T 4 i ≡ ltb (arg_node T i) (node_count T)
  unfolding entry_ranged each_field all_below held row_of rows field_ranged limit nameable both always
  arg_tested = lone (ltb (arg_node T i) (node_count T))

  pub var_tested : entry_ranged T 2 i ≡ ltb (var_type T i) (3 + type_count T)
  unfolding entry_ranged each_field all_below held row_of rows field_ranged limit nameable both always
  var_tested = lone (ltb (var_type T i) (3 + type_count T))

  -- the test of field f of section s
  test : ℕ → ℕ → Bool
  test s f = field_ranged T s i (held T s i f) (T.cell s i f)

  -- types
  type_fields : entry_ranged T 0 i ≡ both (test 0 0) (both (test 0 1) (both (test 0 2) (both (test 0 3) (both (test 0 4) true))))
  unfolding entry_ranged each_field test
  type_fields = all_five (test 0)

  type_at : (k : ℕ) → T.cell 0 i 0 ≡ k → type_ranged T i ≡ type_tested T i
  unfolding type_ranged is_record test held row_of rows field_ranged limit nameable both always
  type_at =
      type_kinds (λ k. T.cell 0 i 0 ≡ k → type_ranged T i ≡ type_tested T i)
      (λ e. rw (type_fields, declared_is T i 0, e))
      (λ e. rw (type_fields, declared_is T i 0, e))
      (λ e. rw (type_fields, declared_is T i 0, declared_is T i 1, declared_is T i 2, e) (alone (both (leb (T.cell 0 i 1) 2) _) ∙ ap (both (leb (T.cell 0 i 1) 2)) (lone (ltb (T.cell 0 i 2) (3 + i)))))
      (λ e. rw (type_fields, declared_is T i 0, declared_is T i 1, e) (lone (both (ltb (T.cell 0 i 1) (block_count T)) (eqb (T.cell 3 (T.cell 0 i 1) 0) 1))))
      (λ k e. rw (type_fields, declared_is T i 0, e, ne_eqb (suc (suc (suc (suc k)))) 1 (λ q. omega arith), ne_eqb (suc (suc (suc (suc k)))) 2 (λ q. omega arith), ne_eqb (suc (suc (suc (suc k)))) 3 (λ q. omega arith)))

  pub type-tested : type_ranged T i ≡ type_tested T i
  type-tested = type_at (T.cell 0 i 0) refl

  -- nodes
  node_fields : entry_ranged T 5 i ≡ both (test 5 0) (both (test 5 1) (both (test 5 2) (both (test 5 3) true)))
  unfolding entry_ranged each_field test
  node_fields = all_four (test 5)

  two : (a b : Bool) → both (both a (both b true)) true ≡ both a b
  two a b = alone (both a (both b true)) ∙ ap (both a) (alone b)

  node_at : (k : ℕ) → node_kind T i ≡ k → node_ranged T i ≡ node_tested T i
  unfolding node_ranged test held row_of rows field_ranged limit nameable both always
  node_at =
      node_kinds (λ k. node_kind T i ≡ k → node_ranged T i ≡ node_tested T i)
      (λ e. rw (node_fields, e) (alone (both (leb (node_p T i) 2) true)))
      (λ e. rw (node_fields, e) (alone (both (both (ltb (node_p T i) (var_count T)) true) true) ∙ alone (both (ltb (node_p T i) (var_count T)) true)))
      (λ e. rw (node_fields, e) (ap (λ x. both x (place_ranged T (type_of T (node_p T i)) (node_q T i))) (alone (variable_below T i (node_p T i)))))
      (λ e. rw (node_fields, e) (two (variable_below T i (node_p T i)) (expression_below T i (node_q T i))))
      (λ e. rw (node_fields, e) (alone (both (variable_below T i (node_p T i)) true)))
      (λ e. rw (node_fields, e) (alone (both (expression_below T i (node_p T i)) true)))
      (λ e. rw (node_fields, e) (two (expression_below T i (node_p T i)) (expression_below T i (node_q T i))))
      (λ e. rw (node_fields, e) (two (expression_below T i (node_p T i)) (leb (node_q T i) 2)))
      (λ e. rw (node_fields, e))
      (λ k e. rw (node_fields, e, ne_eqb (suc (suc (suc (suc (suc (suc (suc (suc (suc k))))))))) 0 (λ q. omega arith), ne_eqb (suc (suc (suc (suc (suc (suc (suc (suc (suc k))))))))) 1 (λ q. omega arith), ne_eqb (suc (suc (suc (suc (suc (suc (suc (suc (suc k))))))))) 2 (λ q. omega arith), ne_eqb (suc (suc (suc (suc (suc (suc (suc (suc (suc k))))))))) 3 (λ q. omega arith), ne_eqb (suc (suc (suc (suc (suc (suc (suc (suc (suc k))))))))) 6 (λ q. omega arith), ne_eqb (suc (suc (suc (suc (suc (suc (suc (suc (suc k))))))))) 7 (λ q. omega arith), ne_eqb (suc (suc (suc (suc (suc (suc (suc (suc (suc k))))))))) 8 (λ q. omega arith), lt-leb (suc (suc (suc (suc (suc (suc (suc (suc (suc k))))))))) 4 (omega arith), lt-leb (suc (suc (suc (suc (suc (suc (suc (suc (suc k))))))))) 7 (omega arith)))

  pub node-tested : node_ranged T i ≡ node_tested T i
  node-tested = node_at (node_kind T i) refl

  -- statements
  stmt_fields : entry_ranged T 6 i ≡ both (test 6 0) (both (test 6 1) (both (test 6 2) (both (test 6 3) (both (test 6 4) (both (test 6 5) true)))))
  unfolding entry_ranged each_field test
  stmt_fields = all_six (test 6)

  stmt_at : (k : ℕ) → stmt_kind T i ≡ k → entry_ranged T 6 i ≡ stmt_tested T i
  unfolding between test held row_of rows field_ranged limit nameable both always
  stmt_at =
      stmt_kinds (λ k. stmt_kind T i ≡ k → entry_ranged T 6 i ≡ stmt_tested T i)
      (λ e. rw (stmt_fields, e)) (λ e. rw (stmt_fields, e)) (λ e. rw (stmt_fields, e)) (λ e. rw (stmt_fields, e)) (λ e. rw (stmt_fields, e)) (λ e. rw (stmt_fields, e)) (λ e. rw (stmt_fields, e)) (λ e. rw (stmt_fields, e)) (λ e. rw (stmt_fields, e)) (λ e. rw (stmt_fields, e))
      (λ e. rw (stmt_fields, e) (ap (both (expression_below T (node_count T) (stmt_a T i))) (lone (ltb (stmt_link T i) (stmt_count T)))))
      (λ e. rw (stmt_fields, e) (lone (ltb (stmt_link T i) (stmt_count T))))
      (λ e. rw (stmt_fields, e))
      (λ e. rw (stmt_fields, e) (alone (both (ltb (stmt_a T i) (block_count T)) true)))
      (λ k e. rw (stmt_fields, e, ne_eqb (suc (suc (suc (suc (suc (suc (suc (suc (suc (suc (suc (suc (suc (suc k)))))))))))))) 1 (λ q. omega arith), le-leb 3 (suc (suc (suc (suc (suc (suc (suc (suc (suc (suc (suc (suc (suc (suc k)))))))))))))) (omega arith), lt-leb (suc (suc (suc (suc (suc (suc (suc (suc (suc (suc (suc (suc (suc (suc k)))))))))))))) 5 (omega arith), ne_eqb (suc (suc (suc (suc (suc (suc (suc (suc (suc (suc (suc (suc (suc (suc k)))))))))))))) 10 (λ q. omega arith), ne_eqb (suc (suc (suc (suc (suc (suc (suc (suc (suc (suc (suc (suc (suc (suc k)))))))))))))) 12 (λ q. omega arith), ne_eqb (suc (suc (suc (suc (suc (suc (suc (suc (suc (suc (suc (suc (suc (suc k)))))))))))))) 2 (λ q. omega arith), ne_eqb (suc (suc (suc (suc (suc (suc (suc (suc (suc (suc (suc (suc (suc (suc k)))))))))))))) 13 (λ q. omega arith), ne_eqb (suc (suc (suc (suc (suc (suc (suc (suc (suc (suc (suc (suc (suc (suc k)))))))))))))) 3 (λ q. omega arith), le-leb 10 (suc (suc (suc (suc (suc (suc (suc (suc (suc (suc (suc (suc (suc (suc k)))))))))))))) (omega arith), lt-leb (suc (suc (suc (suc (suc (suc (suc (suc (suc (suc (suc (suc (suc (suc k)))))))))))))) 11 (omega arith)))

  pub stmt-tested : entry_ranged T 6 i ≡ stmt_tested T i
  stmt-tested = stmt_at (stmt_kind T i) refl

  -- calls
  call_at : (k : ℕ) → stmt_kind T i ≡ k → is_call T i ≡ pick (between 2 3 (stmt_kind T i)) true (eqb (stmt_kind T i) 5)
  unfolding is_call names held row_of rows between both
  call_at =
      stmt_kinds (λ k. stmt_kind T i ≡ k → is_call T i ≡ pick (between 2 3 (stmt_kind T i)) true (eqb (stmt_kind T i) 5))
      (λ e. rw e) (λ e. rw e) (λ e. rw e) (λ e. rw e) (λ e. rw e) (λ e. rw e) (λ e. rw e) (λ e. rw e) (λ e. rw e) (λ e. rw e) (λ e. rw e) (λ e. rw e) (λ e. rw e) (λ e. rw e) (λ k e. rw (e, le-leb 2 (suc (suc (suc (suc (suc (suc (suc (suc (suc (suc (suc (suc (suc (suc k)))))))))))))) (omega arith), lt-leb (suc (suc (suc (suc (suc (suc (suc (suc (suc (suc (suc (suc (suc (suc k)))))))))))))) 3 (omega arith), ne_eqb (suc (suc (suc (suc (suc (suc (suc (suc (suc (suc (suc (suc (suc (suc k)))))))))))))) 5 (λ q. omega arith)))

  pub call_tested : is_call T i ≡ pick (between 2 3 (stmt_kind T i)) true (eqb (stmt_kind T i) 5)
  call_tested = call_at (stmt_kind T i) refl

pub ruleset rows_tested = (type-tested, node-tested, stmt-tested)
