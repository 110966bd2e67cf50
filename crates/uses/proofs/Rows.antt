-- The uses in each entry, by the table of kinds: those that the code marks. Assumes nothing.
use Prim.Native.Nat.{ℕ, zero, suc}
use mathlib.Core.Path.{◌≡◌, refl, ap, ◌∙◌}
use mathlib.Core.List.{List, [], ◌∷◌, ◌++◌, append-nil}
use Rattle.basics.specs.Marks.{gather}
use Rattle.table.specs.Table.{Table}
use Rattle.table.specs.Entries.{arg_node, node_kind, node_p, node_q, stmt_kind, stmt_a, stmt_b}
use Rattle.table.specs.Kinds.{rows, row_of, held, names}
use Rattle.table.proofs.EachKind.{type_kinds, node_kinds, stmt_kinds}
use Rattle.uses.specs.Uses.{field_uses, entry_uses, section_uses, uses}
use Rattle.uses.specs.Marked.{operands, stmt_nodes, first_of}

module _ (T : Table) (i : ℕ) where
  node_of : (k : ℕ) → node_kind T i ≡ k → entry_uses T 5 i ≡ first_of (operands (node_kind T i)) (node_p T i) (node_q T i)
  unfolding entry_uses gather field_uses names held row_of rows operands first_of
  node_of =
      node_kinds (λ k. node_kind T i ≡ k → entry_uses T 5 i ≡ first_of (operands (node_kind T i)) (node_p T i) (node_q T i))
      (λ e. rw e) (λ e. rw e) (λ e. rw e) (λ e. rw e) (λ e. rw e) (λ e. rw e) (λ e. rw e) (λ e. rw e) (λ e. rw e) (λ k e. rw e)

  pub node_uses : entry_uses T 5 i ≡ first_of (operands (node_kind T i)) (node_p T i) (node_q T i)
  node_uses = node_of (node_kind T i) refl

  stmt_of : (k : ℕ) → stmt_kind T i ≡ k → entry_uses T 6 i ≡ first_of (stmt_nodes (stmt_kind T i)) (stmt_a T i) (stmt_b T i)
  unfolding entry_uses gather field_uses names held row_of rows stmt_nodes first_of
  stmt_of =
      stmt_kinds (λ k. stmt_kind T i ≡ k → entry_uses T 6 i ≡ first_of (stmt_nodes (stmt_kind T i)) (stmt_a T i) (stmt_b T i))
      (λ e. rw e) (λ e. rw e) (λ e. rw e) (λ e. rw e) (λ e. rw e) (λ e. rw e) (λ e. rw e) (λ e. rw e) (λ e. rw e) (λ e. rw e) (λ e. rw e)
      (λ e. rw e) (λ e. rw e) (λ e. rw e) (λ k e. rw e)

  pub stmt_uses : entry_uses T 6 i ≡ first_of (stmt_nodes (stmt_kind T i)) (stmt_a T i) (stmt_b T i)
  stmt_uses = stmt_of (stmt_kind T i) refl

  pub arg_uses : entry_uses T 4 i ≡ arg_node T i ∷ []
  unfolding entry_uses gather field_uses names held row_of rows
  arg_uses = refl

  -- declarations use no node
  type_none : (k : ℕ) → T.cell 0 i 0 ≡ k → entry_uses T 0 i ≡ []
  unfolding entry_uses gather field_uses names held row_of rows
  type_none = type_kinds (λ k. T.cell 0 i 0 ≡ k → entry_uses T 0 i ≡ []) (λ e. rw e) (λ e. rw e) (λ e. rw e) (λ e. rw e) (λ k e. rw e)

  field-none : entry_uses T 1 i ≡ []
  unfolding entry_uses gather field_uses names held row_of rows
  field-none = refl

  var_none : entry_uses T 2 i ≡ []
  unfolding entry_uses gather field_uses names held row_of rows
  var_none = refl

  block_none : entry_uses T 3 i ≡ []
  unfolding entry_uses gather field_uses names held row_of rows
  block_none = refl

  -- nor do characters
  character_none : entry_uses T 7 i ≡ []
  unfolding entry_uses gather field_uses names held row_of rows
  character_none = refl

none : (f : ℕ → List ℕ) (n : ℕ) → ((i : ℕ) → f i ≡ []) → gather f n ≡ []
unfolding gather
none f zero h = refl
none f (suc n) h = rw (h n) (none f n h)

module _ (T : Table) where
  declarations : section_uses T 3 ++ (section_uses T 2 ++ (section_uses T 1 ++ (section_uses T 0 ++ []))) ≡ []
  unfolding section_uses
  declarations =
      rw (none (entry_uses T 3) (T.count 3) (block_none T), none (entry_uses T 2) (T.count 2) (var_none T), none (entry_uses T 1) (T.count 1) (field-none T), none (entry_uses T 0) (T.count 0) (λ i. type_none T i (T.cell 0 i 0) refl))

  characters : section_uses T 7 ≡ []
  unfolding section_uses
  characters = none (entry_uses T 7) (T.count 7) (character_none T)

  pub uses_are : uses T ≡ section_uses T 6 ++ (section_uses T 5 ++ section_uses T 4)
  unfolding uses gather
  uses_are =
      ap (λ l. l ++ (section_uses T 6 ++ (section_uses T 5 ++ (section_uses T 4 ++ (section_uses T 3 ++ (section_uses T 2 ++ (section_uses T 1 ++ (section_uses T 0 ++ [])))))))) characters
      ∙ ap (λ l. section_uses T 6 ++ (section_uses T 5 ++ (section_uses T 4 ++ l))) declarations
      ∙ ap (λ l. section_uses T 6 ++ (section_uses T 5 ++ l)) (append-nil (section_uses T 4))
