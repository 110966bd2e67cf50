-- Tests that are asked with locals, and handing a block to nodes. Assumes nothing.
use Prim.Native.Nat.{ℕ, zero, suc, ◌+◌, ◌≤◌, ◌<◌}
use mathlib.Core.Path.{◌≡◌, refl, sym, ap, ◌∙◌}
use mathlib.Core.Bool.{Bool, true, false}
use mathlib.Core.List.{List, [], ◌∷◌, ◌++◌}
use native.Mathlib.Omega.{arith}
use native.Mathlib.Numerals.{add-one}
use lib.ListN.{length, get_or, set, length-set}
use lib.Seq.{get_or-set_same, get_or-set_other}
use lib.Dec.{eqb}
use borrow.Author.Tests.{eqb-true, eqb-false}
use Rattle.basics.specs.Cases.{cases}
use Rattle.basics.specs.Marks.{occurs, gather}
use Rattle.table.specs.Table.{Table}
use Rattle.code.specs.Code.{decoded, Decodes}
use Rattle.table.specs.Entries.{node_kind, node_p, node_q, stmt_a, stmt_b, stmt_c, stmt_d}
use Rattle.table.specs.Reading.{Field}
use Rattle.table.specs.Kinds.{names, held, is_call}
use Rattle.table.specs.Parts.{argument_part, argument_in}
use Rattle.table.specs.declared.Sections.{Sections}
use Rattle.table.proofs.Parts.{argument_is}
use Rattle.uses.specs.Uses.{entry_uses}
use Rattle.scopes.specs.Handed.{with_block, part_node, called_node, arg_nodes, roots}
use Rattle.scopes.proofs.Rows.{has_first, operands_are, fields_are}

-- as many nodes as before
pub length_given : (b : ℕ) (xs l : List ℕ) → length (with_block b xs l) ≡ length l
unfolding with_block
length_given b [] l = refl
length_given b (x ∷ xs) l = length-set (with_block b xs l) x b ∙ length_given b xs l

pub given_long : (b : ℕ) (xs l m : List ℕ) → m ≡ with_block b xs l → length m ≡ length l
given_long b xs l m e = ap length e ∙ length_given b xs l

-- the arguments of a call
module _ (b w : ℕ) (part l₀ : List ℕ) where
  pub part_none : l₀ ≡ with_block b (gather (part_node part w) 0) l₀
  unfolding with_block gather
  part_none = refl

  pub part-more : (k n : ℕ) (l m : List ℕ) → Field (argument_in part w k) n → l ≡ with_block b (gather (part_node part w) k) l₀ → m ≡ set l n b → m ≡ with_block b (gather (part_node part w) (k + 1)) l₀
  unfolding with_block gather part_node
  part-more k n l m h e g = rw (add-one k, ← h.is, ← e) g

pub ruleset parts = (given_long, part_none, part-more)

gather_same : (f g : ℕ → List ℕ) (n : ℕ) → ((k : ℕ) → k < n → f k ≡ g k) → gather f n ≡ gather g n
unfolding gather
gather_same f g zero h = refl
gather_same f g (suc n) h = let e : f n ≡ g n = h n (omega arith) in let i = gather_same f g n (λ k l. h k (omega arith)) in rw (e, i)

module _ (t : List ℕ) (s : Sections) (c : List ℕ) (o : Decodes t s c) (first count : ℕ) where
  part_nodes : gather (part_node (argument_part s.w t first count) s.w) count ≡ gather (called_node (decoded c) first) count
  unfolding part_node called_node
  part_nodes = rw o.is (gather_same _ _ count (λ k l. ap (λ n. n ∷ []) (argument_is t s o.table first count k l)))

  pub arguments_given :
      (b i : ℕ) (part l m : List ℕ) (r : Bool) → r ≡ is_call (decoded c) i → r ≡ true → first ≡ stmt_c (decoded c) i → count ≡ stmt_d (decoded c) i
      → part ≡ argument_part s.w t first count → m ≡ with_block b (gather (part_node part s.w) count) l → m ≡ with_block b (arg_nodes (decoded c) i) l
  unfolding arg_nodes
  arguments_given b i part l m r hr e hc hd h g = g ∙ rw (h, part_nodes, ← hr, e, hc, hd)

-- the nodes of fields
module _ (T : Table) (b i : ℕ) (l : List ℕ) (r : Bool) (h : r ≡ names 5 (held T 6 i 1)) where
  pub fields_none : r ≡ false → l ≡ with_block b (entry_uses T 6 i) l
  unfolding with_block
  fields_none e = rw (fields_are, ← h, e)

  module _ (x : ℕ) (m : List ℕ) (e : r ≡ true) (hx : x ≡ stmt_a T i) (g : m ≡ set l x b) (q : Bool) (hq : q ≡ names 5 (held T 6 i 2)) where
    pub fields_one : q ≡ false → m ≡ with_block b (entry_uses T 6 i) l
    unfolding with_block
    fields_one d = rw (fields_are, ← h, e, ← hq, d, ← hx) g

    pub fields_two : (y : ℕ) (n : List ℕ) → q ≡ true → y ≡ stmt_b T i → n ≡ set m y b → n ≡ with_block b (entry_uses T 6 i) l
    unfolding with_block
    fields_two y n d hy k = rw (fields_are, ← h, e, ← hq, d, ← hx, ← hy, ← g) k

pub ruleset fields = (fields_none, fields_one, fields_two)

-- the operands of a node
module _ (T : Table) (b n : ℕ) (l : List ℕ) (r : Bool) (h : r ≡ names 5 (held T 5 n 1)) where
  pub operands_none : r ≡ false → l ≡ with_block b (entry_uses T 5 n) l
  unfolding with_block
  operands_none e = rw (operands_are, ← h, e)

  module _ (x : ℕ) (m : List ℕ) (e : r ≡ true) (hx : x ≡ node_p T n) (g : m ≡ set l x b) (q : Bool) (hq : q ≡ names 5 (held T 5 n 2)) where
    pub operands_one : q ≡ false → m ≡ with_block b (entry_uses T 5 n) l
    unfolding with_block
    operands_one d = rw (operands_are, ← h, e, ← hq, d, ← hx) g

    pub operands_two : (y : ℕ) (k : List ℕ) → q ≡ true → y ≡ node_q T n → k ≡ set m y b → k ≡ with_block b (entry_uses T 5 n) l
    unfolding with_block
    operands_two y k d hy p = rw (operands_are, ← h, e, ← hq, d, ← hx, ← hy, ← g) p

pub ruleset operands = (operands_none, operands_one, operands_two)

-- the arguments of a statement after its fields
given_append : (b : ℕ) (xs ys l : List ℕ) → with_block b (xs ++ ys) l ≡ with_block b xs (with_block b ys l)
unfolding with_block
given_append b [] ys l = refl
given_append b (x ∷ xs) ys l = ap (λ m. set m x b) (given_append b xs ys l)

pub stmt_given : (T : Table) (b i : ℕ) (l m n : List ℕ) → m ≡ with_block b (entry_uses T 6 i) l → n ≡ with_block b (arg_nodes T i) m → n ≡ with_block b (roots T i) l
unfolding roots
stmt_given T b i l m n h g = rw (given_append, ← h) g

-- a whole variable has no operand
pub whole_none : (T : Table) (n b k : ℕ) → k ≡ node_kind T n → (l : List ℕ) → k ≡ 1 → l ≡ with_block b (entry_uses T 5 n) l
unfolding with_block
whole_none T n b k hk l e = rw (operands_are, has_first, ← hk, e)

-- what a list holds when b was handed to the nodes xs
module _ (b : ℕ) where
  pub given_there : (x : ℕ) (xs l : List ℕ) → 1 ≤ occurs x xs → x < length l → get_or (with_block b xs l) x 0 ≡ b
  unfolding with_block occurs
  given_there x [] l h g = absurd (omega arith)
  given_there x (y ∷ xs) l h g =
      cases (eqb y x)
      (λ e. let q : y ≡ x = eqb-true y x e in rw q (get_or-set_same (with_block b xs l) x b 0 (rw (length_given b xs l) g)))
      (λ e.
      let k : 1 ≤ occurs x xs = rw e at h in
      get_or-set_other (with_block b xs l) y x b 0 (λ q. eqb-false y x e (sym q)) ∙ given_there x xs l k g)

  pub given_other : (x : ℕ) (xs l : List ℕ) → occurs x xs ≡ 0 → get_or (with_block b xs l) x 0 ≡ get_or l x 0
  unfolding with_block occurs
  given_other x [] l h = refl
  given_other x (y ∷ xs) l h =
      cases (eqb y x)
      (λ e. let k : occurs x xs + 1 ≡ 0 = rw e at h in absurd (omega arith))
      (λ e.
      let k : occurs x xs ≡ 0 = rw e at h in
      get_or-set_other (with_block b xs l) y x b 0 (λ q. eqb-false y x e (sym q)) ∙ given_other x xs l k)
