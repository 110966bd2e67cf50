-- Marking all uses marks each node as often as it is used, up to two. Assumes nothing.
use Prim.Native.Nat.{ℕ, zero, suc, ◌+◌, ◌≤◌, ◌<◌}
use mathlib.Core.Path.{◌≡◌, refl, ap, ◌∙◌}
use mathlib.Core.Bool.{Bool}
use mathlib.Core.List.{List, [], ◌∷◌, ◌++◌, append-nil}
use native.Mathlib.Omega.{arith}
use lib.ListN.{length, get_or}
use lib.Dec.{eqb}
use borrow.Author.Tests.{eq-eqb, ne_eqb, eqb-true, eqb-false}
use Rattle.basics.specs.Cases.{cases}
use Rattle.basics.specs.Choice.{all_below}
use Rattle.basics.specs.Marks.{occurs, gather}
use Rattle.basics.specs.Loops.{with_mark, MarksOf}
use Rattle.basics.proofs.Marking.{length_marked, seen_zeros, seen_more, gather_more}
use Rattle.table.specs.Table.{Table}
use Rattle.table.specs.Entries.{arg_count, arg_node, node_count, node_kind, node_p, node_q, stmt_count, stmt_kind, stmt_a, stmt_b}
use Rattle.uses.specs.Uses.{entry_uses, section_uses, uses, once, used_once}
use Rattle.uses.specs.Marked.{operands, stmt_nodes, first_of, marked_all, NoMarks, one_mark}
use Rattle.uses.proofs.Rows.{node_uses, stmt_uses, arg_uses, uses_are}

-- none, one or two numbers are marked
module _ (k x y : ℕ) (seen : List ℕ) where
  pub first-none : k ≡ 0 → seen ≡ marked_all (first_of k x y) seen
  unfolding first_of marked_all
  first-none e = rw e

  pub first_one : (l : List ℕ) → k ≡ 1 → l ≡ with_mark x seen → l ≡ marked_all (first_of k x y) seen
  unfolding first_of marked_all
  first_one l e h = rw e h

  pub first_both : (l m : List ℕ) → (k ≡ 0 → ⊥) → (k ≡ 1 → ⊥) → l ≡ with_mark x seen → m ≡ with_mark y l → m ≡ marked_all (first_of k x y) seen
  unfolding first_of marked_all
  first_both l m e f h g = rw (ne_eqb k 0 e, ne_eqb k 1 f, ← h) g

-- the uses in one row
module _ (T : Table) (i : ℕ) (seen l : List ℕ) where
  pub node_marks : (c k p q : ℕ) → c ≡ node_kind T i → k ≡ operands c → p ≡ node_p T i → q ≡ node_q T i → l ≡ marked_all (first_of k p q) seen → l ≡ marked_all (entry_uses T 5 i) seen
  node_marks c k p q d e f g h = rw (node_uses, ← d, ← e, ← f, ← g) h

  pub stmt_marks : (c k a b : ℕ) → c ≡ stmt_kind T i → k ≡ stmt_nodes c → a ≡ stmt_a T i → b ≡ stmt_b T i → l ≡ marked_all (first_of k a b) seen → l ≡ marked_all (entry_uses T 6 i) seen
  stmt_marks c k p q d e f g h = rw (stmt_uses, ← d, ← e, ← f, ← g) h

  pub arg_marks : (a : ℕ) → a ≡ arg_node T i → l ≡ with_mark a seen → l ≡ marked_all (entry_uses T 4 i) seen
  unfolding marked_all
  arg_marks a e h = rw (arg_uses, ← e) h

pub length_all : (l seen : List ℕ) → length (marked_all l seen) ≡ length seen
unfolding marked_all
length_all [] seen = refl
length_all (x ∷ l) seen = length_marked x (marked_all l seen) ∙ length_all l seen

-- lists one after the other
pub marked_append : (a b seen : List ℕ) → marked_all (a ++ b) seen ≡ marked_all a (marked_all b seen)
unfolding marked_all
marked_append [] b seen = refl
marked_append (x ∷ a) b seen = ap (with_mark x) (marked_append a b seen)

-- a loop over rows that marks what each names
module _ (f : ℕ → List ℕ) (seen : List ℕ) where
  pub rows_none : seen ≡ marked_all (gather f 0) seen
  unfolding gather marked_all
  rows_none = refl

  pub rows_more : (i : ℕ) (l m : List ℕ) → l ≡ marked_all (gather f i) seen → m ≡ marked_all (f i) l → m ≡ marked_all (gather f (i + 1)) seen
  rows_more i l m h g = rw (gather_more f i, marked_append (f i) (gather f i) seen, ← h) g

  pub rows_length : (i : ℕ) (l : List ℕ) → l ≡ marked_all (gather f i) seen → length l ≡ length seen
  rows_length i l h = rw h (length_all (gather f i) seen)

  pub rows_all : (i n c : ℕ) (l : List ℕ) → l ≡ marked_all (gather f i) seen → i ≤ n → n ≤ i → n ≡ c → l ≡ marked_all (gather f c) seen
  rows_all i n c l h p q e = let g : i ≡ c = omega arith in rw (← g) h

-- what the marks say
pub seen_all : (l m seen : List ℕ) → MarksOf m seen → MarksOf (l ++ m) (marked_all l seen)
unfolding marked_all
seen_all [] m seen s = s
seen_all (x ∷ l) m seen s = seen_more x (l ++ m) (marked_all l seen) (seen_all l m seen s)

module _ (l seen : List ℕ) (s : MarksOf l seen) where
  one_once : (j : ℕ) → j < length seen → one_mark seen j ≡ once l j
  unfolding one_mark once
  one_once j h =
      let e = s.marks j h in
      cases (eqb (occurs j l) 1)
      (λ q. rw q (eq-eqb (get_or seen j 0) 1 (omega (arith, eqb-true (occurs j l) 1 q))))
      (λ q. rw q (ne_eqb (get_or seen j 0) 1 (λ x. eqb-false (occurs j l) 1 q (omega arith))))

  pub all_once : (n : ℕ) → n ≤ length seen → all_below n (one_mark seen) ≡ all_below n (once l)
  unfolding all_below
  all_once zero h = refl
  all_once (suc n) h = rw (one_once n (omega arith), all_once n (omega arith))

-- the rule
module _ (T : Table) (s0 s1 s2 s3 : List ℕ) (z : NoMarks (node_count T) s0)
    (e1 : s1 ≡ marked_all (gather (entry_uses T 4) (arg_count T)) s0)
    (e2 : s2 ≡ marked_all (gather (entry_uses T 5) (node_count T)) s1)
    (e3 : s3 ≡ marked_all (gather (entry_uses T 6) (stmt_count T)) s2) where
  together : s3 ≡ marked_all (uses T) s0
  unfolding section_uses
  together = rw (uses_are, marked_append (gather (entry_uses T 6) (stmt_count T)) (gather (entry_uses T 5) (node_count T) ++ gather (entry_uses T 4) (arg_count T)) s0, marked_append (gather (entry_uses T 5) (node_count T)) (gather (entry_uses T 4) (arg_count T)) s0, ← e1, ← e2) e3

  seen : MarksOf (uses T) s3
  seen = rw together (rw append-nil at (seen_all (uses T) [] s0 (seen_zeros s0 z.zeros)))

  marks_room : (n : ℕ) → n ≡ node_count T → n ≤ length s3
  marks_room n e = rw together (simp length_all (omega (arith, z.long)))

  pub rule_is : (n : ℕ) (r : Bool) → n ≡ node_count T → r ≡ all_below n (one_mark s3) → r ≡ used_once T
  unfolding used_once
  rule_is n r e h = h ∙ all_once (uses T) s3 seen n (marks_room n e) ∙ rw e

pub ruleset firsts = (first-none, first_one, first_both)

pub ruleset rows = (rows_none, rows_more, rows_all, rows_length)
