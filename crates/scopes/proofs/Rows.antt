-- The fields that name nodes, variables and arguments, by the table of kinds: those that the code goes by. Assumes nothing.
use Prim.Native.Nat.{ℕ, suc}
use mathlib.Core.Path.{◌≡◌, refl, ap}
use mathlib.Core.Bool.{Bool, true, false}
use mathlib.Core.List.{[], ◌∷◌}
use native.Mathlib.Omega.{arith}
use lib.Dec.{eqb, leb}
use borrow.Author.Tests.{ne_eqb, le-leb, lt-leb}
use Rattle.basics.specs.Choice.{pick, both}
use Rattle.basics.specs.Course.{upto, course}
use Rattle.basics.specs.Marks.{gather}
use Rattle.table.specs.Table.{Table}
use Rattle.table.specs.Entries.{node_kind, node_p, node_q, stmt_kind, stmt_a, stmt_b}
use Rattle.table.specs.Kinds.{names, rows, row_of, held, each_field, is_call}
use Rattle.table.proofs.EachKind.{node_kinds, stmt_kinds}
use Rattle.table.proofs.EachField.{alone, all_four, all_six}
use Rattle.uses.specs.Uses.{field_uses, entry_uses}
use Rattle.scopes.specs.Scopes.{in_scope, field_scoped, node_scope, node_scoped}
use Rattle.scopes.specs.Parts.{fields_scoped}

module _ (T : Table) (n : ℕ) where
  second_at : (k : ℕ) → node_kind T n ≡ k → names 5 (held T 5 n 2) ≡ pick (eqb (node_kind T n) 3) true (eqb (node_kind T n) 6)
  unfolding names held row_of rows
  second_at =
      node_kinds (λ k. node_kind T n ≡ k → names 5 (held T 5 n 2) ≡ pick (eqb (node_kind T n) 3) true (eqb (node_kind T n) 6))
      (λ e. rw e) (λ e. rw e) (λ e. rw e) (λ e. rw e) (λ e. rw e) (λ e. rw e) (λ e. rw e) (λ e. rw e) (λ e. rw e) (λ k e. rw (e, ne_eqb (suc (suc (suc (suc (suc (suc (suc (suc (suc k))))))))) 3 (λ q. omega arith), ne_eqb (suc (suc (suc (suc (suc (suc (suc (suc (suc k))))))))) 6 (λ q. omega arith)))

  -- element 3 and binary 6 have two operands
  pub has_second : names 5 (held T 5 n 2) ≡ pick (eqb (node_kind T n) 3) true (eqb (node_kind T n) 6)
  has_second = second_at (node_kind T n) refl

  first-at : (k : ℕ) → node_kind T n ≡ k → names 5 (held T 5 n 1) ≡ pick (leb 2 (node_kind T n)) (leb (node_kind T n) 7) false
  unfolding names held row_of rows
  first-at =
      node_kinds (λ k. node_kind T n ≡ k → names 5 (held T 5 n 1) ≡ pick (leb 2 (node_kind T n)) (leb (node_kind T n) 7) false)
      (λ e. rw e) (λ e. rw e) (λ e. rw e) (λ e. rw e) (λ e. rw e) (λ e. rw e) (λ e. rw e) (λ e. rw e) (λ e. rw e) (λ k e. rw (e, le-leb 2 (suc (suc (suc (suc (suc (suc (suc (suc (suc k))))))))) (omega arith), lt-leb (suc (suc (suc (suc (suc (suc (suc (suc (suc k))))))))) 7 (omega arith)))

  -- field 2 to transfer 7 have an operand
  pub has_first : names 5 (held T 5 n 1) ≡ pick (leb 2 (node_kind T n)) (leb (node_kind T n) 7) false
  has_first = first-at (node_kind T n) refl

  operands_at : (k : ℕ) → node_kind T n ≡ k → entry_uses T 5 n ≡ pick (names 5 (held T 5 n 1)) (pick (names 5 (held T 5 n 2)) (node_q T n ∷ node_p T n ∷ []) (node_p T n ∷ [])) []
  unfolding entry_uses gather field_uses names held row_of rows
  operands_at =
      node_kinds (λ k. node_kind T n ≡ k → entry_uses T 5 n ≡ pick (names 5 (held T 5 n 1)) (pick (names 5 (held T 5 n 2)) (node_q T n ∷ node_p T n ∷ []) (node_p T n ∷ [])) [])
      (λ e. rw e) (λ e. rw e) (λ e. rw e) (λ e. rw e) (λ e. rw e) (λ e. rw e) (λ e. rw e) (λ e. rw e) (λ e. rw e) (λ k e. rw e)

  -- the nodes that a node uses
  pub operands_are : entry_uses T 5 n ≡ pick (names 5 (held T 5 n 1)) (pick (names 5 (held T 5 n 2)) (node_q T n ∷ node_p T n ∷ []) (node_p T n ∷ [])) []
  operands_are = operands_at (node_kind T n) refl

  module _ (b : ℕ) (r : ℕ → Bool) where
    test : ℕ → Bool
    test f = field_scoped T b r (held T 5 n f) (T.cell 5 n f)

    fields : node_scope T b n r ≡ both (test 0) (both (test 1) (both (test 2) (both (test 3) true)))
    unfolding node_scope each_field test
    fields = all_four test

    tested : Bool
    tested =
        pick (eqb (node_kind T n) 0) true
        (pick (eqb (node_kind T n) 1) (in_scope T b (node_p T n))
        (pick (leb (node_kind T n) 7) (pick (r (node_p T n)) (pick (names 5 (held T 5 n 2)) (r (node_q T n)) true) false) true))

    node_at : (k : ℕ) → node_kind T n ≡ k → node_scope T b n r ≡ tested
    unfolding tested test field_scoped names held row_of rows both
    node_at =
        node_kinds (λ k. node_kind T n ≡ k → node_scope T b n r ≡ tested)
        (λ e. rw (fields, e))
        (λ e. rw (fields, e) (alone (in_scope T b (node_p T n))))
        (λ e. rw (fields, e))
        (λ e. rw (fields, e) (ap (both (r (node_p T n))) (alone (r (node_q T n)))))
        (λ e. rw (fields, e))
        (λ e. rw (fields, e))
        (λ e. rw (fields, e) (ap (both (r (node_p T n))) (alone (r (node_q T n)))))
        (λ e. rw (fields, e))
        (λ e. rw (fields, e))
        (λ k e. rw (fields, e, ne_eqb (suc (suc (suc (suc (suc (suc (suc (suc (suc k))))))))) 0 (λ q. omega arith), ne_eqb (suc (suc (suc (suc (suc (suc (suc (suc (suc k))))))))) 1 (λ q. omega arith), lt-leb (suc (suc (suc (suc (suc (suc (suc (suc (suc k))))))))) 7 (omega arith)))

  -- a constant 0 and a string 8 have no variable, a whole variable 1 is one, the others have those of their operands; a number that is no
  -- kind has none
  pub node-scope :
      (b : ℕ) → node_scoped T b n
      ≡ pick (eqb (node_kind T n) 0) true
      (pick (eqb (node_kind T n) 1) (in_scope T b (node_p T n))
      (pick (leb (node_kind T n) 7)
      (pick (upto false (node_scope T b) n (node_p T n)) (pick (names 5 (held T 5 n 2)) (upto false (node_scope T b) n (node_q T n)) true) false) true))
  unfolding node_scoped course tested
  node-scope b = node_at b (upto false (node_scope T b) n) (node_kind T n) refl

module _ (T : Table) (i : ℕ) where
  a_tests : Bool
  a_tests =
      pick (eqb (stmt_kind T i) 1) true
      (pick (eqb (stmt_kind T i) 3) true
      (pick (eqb (stmt_kind T i) 4) true
      (pick (eqb (stmt_kind T i) 5) true (pick (eqb (stmt_kind T i) 10) true (eqb (stmt_kind T i) 12)))))

  a_at : (k : ℕ) → stmt_kind T i ≡ k → names 5 (held T 6 i 1) ≡ a_tests
  unfolding a_tests names held row_of rows
  a_at =
      stmt_kinds (λ k. stmt_kind T i ≡ k → names 5 (held T 6 i 1) ≡ a_tests)
      (λ e. rw e) (λ e. rw e) (λ e. rw e) (λ e. rw e) (λ e. rw e) (λ e. rw e) (λ e. rw e) (λ e. rw e) (λ e. rw e) (λ e. rw e) (λ e. rw e) (λ e. rw e) (λ e. rw e) (λ e. rw e) (λ k e. rw (e, ne_eqb (suc (suc (suc (suc (suc (suc (suc (suc (suc (suc (suc (suc (suc (suc k)))))))))))))) 1 (λ q. omega arith), ne_eqb (suc (suc (suc (suc (suc (suc (suc (suc (suc (suc (suc (suc (suc (suc k)))))))))))))) 3 (λ q. omega arith), ne_eqb (suc (suc (suc (suc (suc (suc (suc (suc (suc (suc (suc (suc (suc (suc k)))))))))))))) 4 (λ q. omega arith), ne_eqb (suc (suc (suc (suc (suc (suc (suc (suc (suc (suc (suc (suc (suc (suc k)))))))))))))) 5 (λ q. omega arith), ne_eqb (suc (suc (suc (suc (suc (suc (suc (suc (suc (suc (suc (suc (suc (suc k)))))))))))))) 10 (λ q. omega arith), ne_eqb (suc (suc (suc (suc (suc (suc (suc (suc (suc (suc (suc (suc (suc (suc k)))))))))))))) 12 (λ q. omega arith)))

  -- statements that name a node in their field a, and in b
  pub names_a :
      names 5 (held T 6 i 1)
      ≡ pick (eqb (stmt_kind T i) 1) true
      (pick (eqb (stmt_kind T i) 3) true
      (pick (eqb (stmt_kind T i) 4) true
      (pick (eqb (stmt_kind T i) 5) true (pick (eqb (stmt_kind T i) 10) true (eqb (stmt_kind T i) 12)))))
  unfolding a_tests
  names_a = a_at (stmt_kind T i) refl

  b_at : (k : ℕ) → stmt_kind T i ≡ k → names 5 (held T 6 i 2) ≡ pick (eqb (stmt_kind T i) 1) true (eqb (stmt_kind T i) 12)
  unfolding names held row_of rows
  b_at =
      stmt_kinds (λ k. stmt_kind T i ≡ k → names 5 (held T 6 i 2) ≡ pick (eqb (stmt_kind T i) 1) true (eqb (stmt_kind T i) 12))
      (λ e. rw e) (λ e. rw e) (λ e. rw e) (λ e. rw e) (λ e. rw e) (λ e. rw e) (λ e. rw e) (λ e. rw e) (λ e. rw e) (λ e. rw e) (λ e. rw e) (λ e. rw e) (λ e. rw e) (λ e. rw e) (λ k e. rw (e, ne_eqb (suc (suc (suc (suc (suc (suc (suc (suc (suc (suc (suc (suc (suc (suc k)))))))))))))) 1 (λ q. omega arith), ne_eqb (suc (suc (suc (suc (suc (suc (suc (suc (suc (suc (suc (suc (suc (suc k)))))))))))))) 12 (λ q. omega arith)))

  pub names_b : names 5 (held T 6 i 2) ≡ pick (eqb (stmt_kind T i) 1) true (eqb (stmt_kind T i) 12)
  names_b = b_at (stmt_kind T i) refl

  fields_at : (k : ℕ) → stmt_kind T i ≡ k → entry_uses T 6 i ≡ pick (names 5 (held T 6 i 1)) (pick (names 5 (held T 6 i 2)) (stmt_b T i ∷ stmt_a T i ∷ []) (stmt_a T i ∷ [])) []
  unfolding entry_uses gather field_uses names held row_of rows
  fields_at =
      stmt_kinds (λ k. stmt_kind T i ≡ k → entry_uses T 6 i ≡ pick (names 5 (held T 6 i 1)) (pick (names 5 (held T 6 i 2)) (stmt_b T i ∷ stmt_a T i ∷ []) (stmt_a T i ∷ [])) [])
      (λ e. rw e) (λ e. rw e) (λ e. rw e) (λ e. rw e) (λ e. rw e) (λ e. rw e) (λ e. rw e) (λ e. rw e) (λ e. rw e) (λ e. rw e) (λ e. rw e) (λ e. rw e) (λ e. rw e) (λ e. rw e) (λ k e. rw e)

  -- the nodes that they name
  pub fields_are : entry_uses T 6 i ≡ pick (names 5 (held T 6 i 1)) (pick (names 5 (held T 6 i 2)) (stmt_b T i ∷ stmt_a T i ∷ []) (stmt_a T i ∷ [])) []
  fields_are = fields_at (stmt_kind T i) refl

  call_at : (k : ℕ) → stmt_kind T i ≡ k → is_call T i ≡ pick (eqb (stmt_kind T i) 2) true (pick (eqb (stmt_kind T i) 3) true (eqb (stmt_kind T i) 5))
  unfolding is_call names held row_of rows
  call_at =
      stmt_kinds (λ k. stmt_kind T i ≡ k → is_call T i ≡ pick (eqb (stmt_kind T i) 2) true (pick (eqb (stmt_kind T i) 3) true (eqb (stmt_kind T i) 5)))
      (λ e. rw e) (λ e. rw e) (λ e. rw e) (λ e. rw e) (λ e. rw e) (λ e. rw e) (λ e. rw e) (λ e. rw e) (λ e. rw e) (λ e. rw e) (λ e. rw e) (λ e. rw e) (λ e. rw e) (λ e. rw e) (λ k e. rw (e, ne_eqb (suc (suc (suc (suc (suc (suc (suc (suc (suc (suc (suc (suc (suc (suc k)))))))))))))) 2 (λ q. omega arith), ne_eqb (suc (suc (suc (suc (suc (suc (suc (suc (suc (suc (suc (suc (suc (suc k)))))))))))))) 3 (λ q. omega arith), ne_eqb (suc (suc (suc (suc (suc (suc (suc (suc (suc (suc (suc (suc (suc (suc k)))))))))))))) 5 (λ q. omega arith)))

  -- and those that have arguments
  pub has_arguments : is_call T i ≡ pick (eqb (stmt_kind T i) 2) true (pick (eqb (stmt_kind T i) 3) true (eqb (stmt_kind T i) 5))
  has_arguments = call_at (stmt_kind T i) refl

  module _ (b : ℕ) where
    stmt_test : ℕ → Bool
    stmt_test f = field_scoped T b (node_scoped T b) (held T 6 i f) (T.cell 6 i f)

    stmt_fields : each_field (field_scoped T b (node_scoped T b)) T 6 i ≡ both (stmt_test 0) (both (stmt_test 1) (both (stmt_test 2) (both (stmt_test 3) (both (stmt_test 4) (both (stmt_test 5) true)))))
    unfolding each_field stmt_test
    stmt_fields = all_six stmt_test

    stmt_at : (k : ℕ) → stmt_kind T i ≡ k → each_field (field_scoped T b (node_scoped T b)) T 6 i ≡ fields_scoped T i b
    unfolding fields_scoped stmt_test field_scoped names held row_of rows both
    stmt_at =
        stmt_kinds (λ k. stmt_kind T i ≡ k → each_field (field_scoped T b (node_scoped T b)) T 6 i ≡ fields_scoped T i b)
        (λ e. rw (stmt_fields, e))
        (λ e. rw (stmt_fields, e) (ap (both (node_scoped T b (T.cell 6 i 1))) (alone (node_scoped T b (T.cell 6 i 2)))))
        (λ e. rw (stmt_fields, e)) (λ e. rw (stmt_fields, e)) (λ e. rw (stmt_fields, e)) (λ e. rw (stmt_fields, e)) (λ e. rw (stmt_fields, e)) (λ e. rw (stmt_fields, e)) (λ e. rw (stmt_fields, e)) (λ e. rw (stmt_fields, e)) (λ e. rw (stmt_fields, e)) (λ e. rw (stmt_fields, e))
        (λ e. rw (stmt_fields, e) (ap (both (node_scoped T b (T.cell 6 i 1))) (alone (node_scoped T b (T.cell 6 i 2)))))
        (λ e. rw (stmt_fields, e))
        (λ k e. rw (stmt_fields, e))

    pub stmt_scope : each_field (field_scoped T b (node_scoped T b)) T 6 i ≡ fields_scoped T i b
    stmt_scope = stmt_at (stmt_kind T i) refl
