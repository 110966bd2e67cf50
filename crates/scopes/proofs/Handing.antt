-- Handing blocks down: each node has the block that it is used in when it is tested, and the tests of all nodes are the rule. Assumes nothing.
use Prim.Native.Nat.{ℕ, ◌+◌, ◌-◌, ◌≤◌, ◌<◌}
use mathlib.Core.Path.{◌≡◌, refl, sym, ap, ◌∙◌}
use mathlib.Core.Bool.{Bool, true, false}
use mathlib.Core.List.{List}
use mathlib.Core.Logic.{◌⊎◌, inl, inr}
use native.Mathlib.Omega.{arith}
use lib.ListN.{length, get_or}
use lib.Dec.{eqb, leb, ltb}
use borrow.Author.Tests.{eqb-true, eqb-false, le-leb, leb-true, ltb-true, ltb-false}
use Rattle.basics.specs.Choice.{pick, both}
use Rattle.basics.specs.Cases.{cases}
use Rattle.basics.specs.Chain.{free, carried}
use Rattle.basics.specs.Course.{upto}
use Rattle.basics.specs.Loops.{Chain}
use Rattle.basics.specs.Marks.{occurs}
use Rattle.basics.proofs.Bools.{no_true, both_l, both_r, both_i, all_i}
use Rattle.basics.proofs.Chains.{chain_none, chain_more, carried_at, carry_all}
use Rattle.basics.proofs.Courses.{upto_below, strong}
use Rattle.nesting.specs.Nest.{block_step}
use Rattle.table.specs.Table.{Table}
use Rattle.table.specs.Entries.{arg_node, node_kind, node_p, node_q, stmt_a, stmt_b, stmt_c, stmt_d, arg_count, node_count, stmt_count}
use Rattle.table.specs.Kinds.{names, held, each_field, is_call}
use Rattle.numbers.specs.Ranges.{in_range}
use Rattle.uses.specs.Uses.{entry_uses, used_once}
use Rattle.uses.proofs.Promise.{Names, user}
use Rattle.scopes.specs.Scopes.{in_scope, field_scoped, node_scope, node_scoped, argument_scoped, arguments_scoped, stays_in, stmt_scoped, scoped}
use Rattle.scopes.specs.Parts.{fields_scoped}
use Rattle.scopes.specs.Handed.{with_block, roots, node_visible, UsedIn, by_stmt, by_node, RootsHanded, Stays}
use Rattle.scopes.proofs.Rows.{node-scope, stmt_scope, has_first}
use Rattle.scopes.proofs.Scoping.{length_given, given_there, given_other}
use Rattle.scopes.proofs.Users.{Argument, operand_of, first_used, second_used, field_of, root_of, field_root, a_root, b_root, argument_root, first_before, second_before, use_before, a_below, b_below, called_below, call_of, named_arg, one_block}
use Rattle.scopes.proofs.Promise.{first, next, in-a, in_b, in_arguments, visible_whole, operand_scoped, seconds}

-- ---- where the rule holds, each node is in scope in the block that it is used in

module _ (T : Table) (h : scoped T ≡ true) where
  root_scoped : (x b i : ℕ) → i < stmt_count T → b ≡ free (block_step T) i → Argument T i x ⊎ (1 ≤ occurs x (entry_uses T 6 i)) → node_scoped T b x ≡ true
  root_scoped x b i l e (inl (c, (k, m, q))) = rw q (in_arguments T h i l b (sym e) c k m)
  root_scoped x b i l e (inr f) = go (field_of T i x f)
    where
      go : ((names 5 (held T 6 i 1) ≡ true) × (x ≡ stmt_a T i)) ⊎ ((names 5 (held T 6 i 1) ≡ true) × (names 5 (held T 6 i 2) ≡ true) × (x ≡ stmt_b T i)) → node_scoped T b x ≡ true
      go (inl (a, q)) = rw q (in-a T h i l b (sym e) a)
      go (inr (a, c, q)) = rw q (in_b T h i l b (sym e) a c)

  operand_in : (x b n : ℕ) → node_scoped T b n ≡ true → ((names 5 (held T 5 n 1) ≡ true) × (x ≡ node_p T n)) ⊎ ((names 5 (held T 5 n 1) ≡ true) × (names 5 (held T 5 n 2) ≡ true) × (x ≡ node_q T n)) → node_scoped T b x ≡ true
  operand_in x b n s (inl (a, q)) =
      let k : pick (leb 2 (node_kind T n)) (leb (node_kind T n) 7) false ≡ true = sym (has_first T n) ∙ a in
      rw q (operand_scoped T b n s (leb-true 2 (node_kind T n) (first _ _ k)) (leb-true (node_kind T n) 7 (next (leb 2 (node_kind T n)) _ k)))
  operand_in x b n s (inr (a, c, q)) =
      let k : pick (leb 2 (node_kind T n)) (leb (node_kind T n) 7) false ≡ true = sym (has_first T n) ∙ a in
      rw q (seconds T b n s (leb-true 2 (node_kind T n) (first _ _ k)) (leb-true (node_kind T n) 7 (next (leb 2 (node_kind T n)) _ k)) c).1

used_scoped : (T : Table) → scoped T ≡ true → (x b : ℕ) → UsedIn T x b → node_scoped T b x ≡ true
used_scoped T h x b (by_stmt i l r e) = root_scoped T h x b i l e (root_of T i x r)
used_scoped T h x b (by_node n l r u) = operand_in T h x b n (used_scoped T h n b u) (operand_of T n x r)

scoped_fits : (T : Table) (b n : ℕ) → node_scoped T b n ≡ true → node_visible T n b ≡ true
unfolding node_visible
scoped_fits T b n s = cases (eqb (node_kind T n) 1) (λ e. rw e (visible_whole T b n s (eqb-true (node_kind T n) 1 e))) (λ e. rw e)

-- ---- where each node fits in the block that it is used in, the rule holds

module _ (T : Table) (ranged : in_range T ≡ true) (fit : (x : ℕ) → x < node_count T → (b : ℕ) → UsedIn T x b → node_visible T x b ≡ true) where
  abbrev In : ℕ → Type 0
  In x = x < node_count T → (b : ℕ) → UsedIn T x b → node_scoped T b x ≡ true

  module _ (n : ℕ) (ih : (k : ℕ) → k < n → In k) (l : n < node_count T) (b : ℕ) (u : UsedIn T n b) where
    below : (x : ℕ) → x < n → 1 ≤ occurs x (entry_uses T 5 n) → upto false (node_scope T b) n x ≡ true
    unfolding node_scoped
    below x g r = upto_below false (node_scope T b) n x g ∙ ih x g (omega arith) b (by_node n l r u)

    both_in : names 5 (held T 5 n 1) ≡ true → pick (upto false (node_scope T b) n (node_p T n)) (pick (names 5 (held T 5 n 2)) (upto false (node_scope T b) n (node_q T n)) true) false ≡ true
    both_in a =
        let p = below (node_p T n) (first_before T ranged n l a) (first_used T n (node_p T n) a refl) in
        cases (names 5 (held T 5 n 2))
        (λ c. let q = below (node_q T n) (second_before T ranged n l c) (second_used T n (node_q T n) a c refl) in rw (p, c, q))
        (λ c. rw (p, c))

    node_in : node_scoped T b n ≡ true
    unfolding node_visible
    node_in =
        let f : pick (eqb (node_kind T n) 1) (in_scope T b (node_p T n)) true ≡ true = fit n l b u in
        cases (eqb (node_kind T n) 0) (λ e. rw (node-scope, e))
        (λ e.
        cases (eqb (node_kind T n) 1) (λ d. let g : in_scope T b (node_p T n) ≡ true = rw d at f in rw (node-scope, e, d) g)
        (λ d.
        cases (leb (node_kind T n) 7)
        (λ c.
        let k : 2 ≤ node_kind T n = omega (arith, eqb-false (node_kind T n) 0 e, eqb-false (node_kind T n) 1 d) in
        let a : names 5 (held T 5 n 1) ≡ true = has_first T n ∙ rw (le-leb 2 (node_kind T n) k) c in
        let g = both_in a in rw (node-scope, e, d, c) g)
        (λ c. rw (node-scope, e, d, c))))

  nodes_in : (x : ℕ) → In x
  nodes_in = strong In node_in

  module _ (i : ℕ) (l : i < stmt_count T) where
    root_in : (x : ℕ) → x < node_count T → 1 ≤ occurs x (roots T i) → node_scoped T (free (block_step T) i) x ≡ true
    root_in x g r = nodes_in x g (free (block_step T) i) (by_stmt i l r refl)

    fields_in : fields_scoped T i (free (block_step T) i) ≡ true
    unfolding fields_scoped
    fields_in =
        cases (names 5 (held T 6 i 1))
        (λ a.
        let p = root_in (stmt_a T i) (a_below T ranged i l a) (a_root T i (stmt_a T i) a refl) in
        cases (names 5 (held T 6 i 2))
        (λ c. let q = root_in (stmt_b T i) (b_below T ranged i l c) (b_root T i (stmt_b T i) a c refl) in rw (a, p, c, q))
        (λ c. rw (a, p, c)))
        (λ a. rw a)

    arguments_in : pick (is_call T i) (arguments_scoped T (free (block_step T) i) (stmt_c T i) (stmt_d T i)) true ≡ true
    unfolding arguments_scoped argument_scoped
    arguments_in =
        cases (is_call T i)
        (λ c.
        let g = all_i (stmt_d T i) (argument_scoped T (free (block_step T) i) (stmt_c T i)) (λ k m. root_in (arg_node T (stmt_c T i + k)) (called_below T ranged i l c k m) (argument_root T i (arg_node T (stmt_c T i + k)) c k m refl)) in
        rw c g)
        (λ c. rw c)

    stmt_in : stays_in T i (free (block_step T) i) ≡ true → stmt_scoped T i (free (block_step T) i) ≡ true
    unfolding stmt_scoped
    stmt_in s = both_i _ _ (stmt_scope T i (free (block_step T) i) ∙ fields_in) (both_i _ _ s arguments_in)

  fit_scoped : carried (block_step T) (stays_in T) (stmt_count T) ≡ true → scoped T ≡ true
  unfolding scoped carried
  fit_scoped s = all_i (stmt_count T) _ (λ i l. stmt_in i l (carried_at (block_step T) (stays_in T) (stmt_count T) s i l))

-- ---- a local call that leaves its module breaks the rule

leaves : (T : Table) (i : ℕ) → i < stmt_count T → stays_in T i (free (block_step T) i) ≡ false → scoped T ≡ false
unfolding scoped stmt_scoped
leaves T i l e =
    cases (scoped T)
    (λ h.
    let s : both (each_field (field_scoped T (free (block_step T) i) (node_scoped T (free (block_step T) i))) T 6 i) (both (stays_in T i (free (block_step T) i)) (pick (is_call T i) (arguments_scoped T (free (block_step T) i) (stmt_c T i) (stmt_d T i)) true)) ≡ true =
    carried_at (block_step T) (stmt_scoped T) (stmt_count T) h i l in
    no_true (sym e ∙ both_l _ _ (both_r _ _ s)))
    (λ h. h)

-- ---- one entry hands its block to its nodes: nodes that have theirs keep it

module _ (T : Table) (b : ℕ) (xs l : List ℕ) (x : ℕ) (there : x < length l) where
  has_it : 1 ≤ occurs x xs → UsedIn T x b → UsedIn T x (get_or (with_block b xs l) x 0)
  has_it o u = rw (given_there b x xs l o there) u

  keeps_it : (1 ≤ occurs x xs → UsedIn T x b) → UsedIn T x (get_or l x 0) → UsedIn T x (get_or (with_block b xs l) x 0)
  keeps_it f u =
      cases (ltb 0 (occurs x xs)) (λ e. let o = ltb-true 0 (occurs x xs) e in has_it o (f o))
      (λ e. let z = ltb-false 0 (occurs x xs) e in rw (given_other b x xs l (omega arith)) u)

-- ---- the loop over statements

module _ (T : Table) where
  pub stays_none : Chain (block_step T) (stays_in T) 0 0
  stays_none = chain_none (block_step T) (stays_in T)

  pub rooted_none : (l : List ℕ) → node_count T ≤ length l → RootsHanded T 0 l
  rooted_none l h = record { long = h; has = λ x j g o r. absurd (omega arith) }

  module _ (i b : ℕ) (h : Chain (block_step T) (stays_in T) i b) where
    pub stays_more : (x : ℕ) (r : Bool) → r ≡ stays_in T i b → r ≡ true → x ≡ block_step T i b → Chain (block_step T) (stays_in T) (i + 1) x
    stays_more x r hr e g = chain_more (block_step T) (stays_in T) i b h x (sym hr ∙ e) g

    pub rooted_more : (v c : ℕ) (l m : List ℕ) → RootsHanded T i l → c ≡ stmt_count T → i < c → v ≡ b → m ≡ with_block v (roots T i) l → RootsHanded T (i + 1) m
    rooted_more v c l m o hc g hv e =
        rw e
        (record {
          long = rw (length_given v (roots T i) l) o.long;
          has = λ x j p q r.
              cases (eqb j i)
              (λ d. let s : 1 ≤ occurs x (roots T i) = rw (eqb-true j i d) at r in has_it T v (roots T i) l x (omega (arith, o.long)) s (mine x s))
              (λ d. keeps_it T v (roots T i) l x (omega (arith, o.long)) (mine x) (o.has x j p (omega (arith, eqb-false j i d)) r));
        })
      where
        mine : (x : ℕ) → 1 ≤ occurs x (roots T i) → UsedIn T x v
        mine x s = by_stmt i (omega arith) s (hv ∙ h.is)

    pub stays_out : (r : Bool) (c : ℕ) (l : List ℕ) → r ≡ stays_in T i b → r ≡ false → c ≡ stmt_count T → i < c → Stays T false l
    stays_out r c l hr e hc g =
        record {
          out = λ q. leaves T i (omega arith) (rw h.is at (sym hr ∙ e));
          calls = λ q. no_true q;
          nodes = λ q. no_true q;
        }

    pub stays_all : (c : ℕ) (l : List ℕ) → RootsHanded T i l → c ≡ stmt_count T → i ≤ c → c ≤ i → Stays T true l
    stays_all c l o hc p q =
        let e : i ≡ stmt_count T = omega arith in
        record {
          out = λ d. no_true (sym d);
          calls = λ d. sym (carry_all (block_step T) (stays_in T) i b h (stmt_count T) (omega arith) (omega arith));
          nodes = λ d. rw (← e) o;
        }

pub long_more : (b : ℕ) (xs l m k : List ℕ) → length l ≡ length k → m ≡ with_block b xs l → length m ≡ length k
long_more b xs l m k h e = ap length e ∙ length_given b xs l ∙ h

pub ruleset handings = (stays_none, rooted_none, stays_more, rooted_more, stays_out, stays_all, long_more)

-- ---- the loop over nodes, from the last down

-- the nodes of statements and the operands of the nodes from n on have their blocks, and the nodes from n on fit in the block that they are used in
pub record Downward (T : Table) (n : ℕ) (l : List ℕ) : Type 0 where
  pub long : node_count T ≤ length l
  pub calls : carried (block_step T) (stays_in T) (stmt_count T) ≡ true
  pub roots_have : (x j : ℕ) → x < node_count T → j < stmt_count T → 1 ≤ occurs x (roots T j) → UsedIn T x (get_or l x 0)
  pub operands_have : (x m : ℕ) → x < node_count T → n ≤ m → m < node_count T → 1 ≤ occurs x (entry_uses T 5 m) → UsedIn T x (get_or l x 0)
  pub fit : (x : ℕ) → n ≤ x → x < node_count T → (b : ℕ) → UsedIn T x b → node_visible T x b ≡ true

module _ (T : Table) where
  pub down_first : (n : ℕ) (l : List ℕ) → Stays T true l → n ≡ node_count T → Downward T n l
  down_first n l s e =
      record {
        long = (s.nodes refl).long;
        calls = s.calls refl;
        roots_have = (s.nodes refl).has;
        operands_have = λ x m p q r o. absurd (omega arith);
        fit = λ x p q. absurd (omega arith);
      }

  module _ (ranged : in_range T ≡ true) where
    pub down_all : (n : ℕ) (l : List ℕ) → Downward T n l → n ≤ 0 → true ≡ scoped T
    down_all n l d e = sym (fit_scoped T ranged (λ x g b u. d.fit x (omega arith) g b u) d.calls)

    module _ (used : used_once T ≡ true) (n : ℕ) (l : List ℕ) (d : Downward T n l) (up : 0 < n) (top : n ≤ node_count T) where
      has_user : ((i : ℕ) × (i < arg_count T) × Names (n - 1) (entry_uses T 4) i) ⊎ ((i : ℕ) × (i < stmt_count T) × Names (n - 1) (entry_uses T 6) i) ⊎ ((i : ℕ) × (i < node_count T) × Names (n - 1) (entry_uses T 5) i) → UsedIn T (n - 1) (get_or l (n - 1) 0)
      has_user (inl (a, g, o)) =
          let c = call_of T ranged a g in
          d.roots_have (n - 1) c.0 (omega arith) c.1 (argument_root T c.0 (n - 1) c.2 c.3 c.4 (named_arg T (n - 1) a o ∙ ap (λ k. arg_node T k) c.5))
      has_user (inr (inl (i, g, o))) = d.roots_have (n - 1) i (omega arith) g (field_root T i (n - 1) o)
      has_user (inr (inr (m, g, o))) = let b = use_before T ranged m g (n - 1) o in d.operands_have (n - 1) m (omega arith) (omega arith) g o

      -- the next node has its block
      has_block : UsedIn T (n - 1) (get_or l (n - 1) 0)
      has_block = has_user (user T used (n - 1) (omega arith))

      module _ (r : Bool) (hr : r ≡ node_visible T (n - 1) (get_or l (n - 1) 0)) where
        pub down_fail : r ≡ false → false ≡ scoped T
        down_fail e =
            cases (scoped T)
            (λ h. no_true (sym (sym hr ∙ e) ∙ scoped_fits T (get_or l (n - 1) 0) (n - 1) (used_scoped T h (n - 1) (get_or l (n - 1) 0) has_block)))
            (λ h. sym h)

        pub down_next : (m : List ℕ) → r ≡ true → m ≡ with_block (get_or l (n - 1) 0) (entry_uses T 5 (n - 1)) l → Downward T (n - 1) m
        down_next m e g =
            rw g
            (record {
              long = rw (length_given (get_or l (n - 1) 0) (entry_uses T 5 (n - 1)) l) d.long;
              calls = d.calls;
              roots_have = λ x j p q o. keeps_it T (get_or l (n - 1) 0) (entry_uses T 5 (n - 1)) l x (omega (arith, d.long)) (mine x) (d.roots_have x j p q o);
              operands_have = λ x k p q s o.
                  cases (eqb k (n - 1))
                  (λ z. let w : 1 ≤ occurs x (entry_uses T 5 (n - 1)) = rw (eqb-true k (n - 1) z) at o in has_it T (get_or l (n - 1) 0) (entry_uses T 5 (n - 1)) l x (omega (arith, d.long)) w (mine x w))
                  (λ z. keeps_it T (get_or l (n - 1) 0) (entry_uses T 5 (n - 1)) l x (omega (arith, d.long)) (mine x) (d.operands_have x k p (omega (arith, eqb-false k (n - 1) z)) s o));
              fit = λ x p q b u.
                  cases (eqb x (n - 1))
                  (λ z.
                  let y : x ≡ n - 1 = eqb-true x (n - 1) z in
                  let v : UsedIn T (n - 1) b = rw y at u in
                  let w : b ≡ get_or l (n - 1) 0 = one_block T ranged used (n - 1) b (get_or l (n - 1) 0) (omega arith) v has_block in
                  rw (y, w) (sym hr ∙ e))
                  (λ z. d.fit x (omega (arith, eqb-false x (n - 1) z)) q b u);
            })
          where
            mine : (x : ℕ) → 1 ≤ occurs x (entry_uses T 5 (n - 1)) → UsedIn T x (get_or l (n - 1) 0)
            mine x o = by_node (n - 1) (omega arith) o has_block

  pub down_room : (n : ℕ) (l : List ℕ) → Downward T n l → 0 < n → n ≤ node_count T → n - 1 < length l
  down_room n l d up top = omega (arith, d.long)

pub ruleset downs = (down_first, down_all, down_fail, down_room, long_more)
