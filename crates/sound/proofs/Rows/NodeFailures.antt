-- The failures of nodes: the rules say when an evaluation fails, and by which number. Assumes nothing.
use Prim.Native.Nat.{ℕ, zero, suc, ◌+◌, ◌<◌}
use mathlib.Core.Path.{◌≡◌, refl, sym, ◌∙◌}
use mathlib.Core.Bool.{Bool, true, false}
use mathlib.Core.Bool as bool
use mathlib.Core.List.{List}
use lib.ListN.{length}
use native.Mathlib.Omega.{arith}
use native.Mathlib.Nat.{not-suc-le-zero}
use lib.Dec.{eqb, ltb}
use lib.IntN.{ℤ, pos, negsuc}
use borrow.Author.Tests.{eqb-true, eqb-false, ne_eqb, ltb-true}
use Rattle.basics.specs.Choice.{pick}
use Rattle.basics.specs.Cases.{cases}
use Rattle.basics.proofs.Bools.{no_true, both_l, both_r}
use Rattle.basics.proofs.Courses.{course_is}
use Rattle.words.specs.Numbers.{between_z}
use Rattle.words.specs.Types.{in_type, transfer_w}
use Rattle.words.specs.Operators.{ranged, add_w, sub_w, neg_w, mul_w, div_w, mod_w}
use Rattle.words.specs.Outcomes as words
use Rattle.table.specs.Table.{Table}
use Rattle.table.specs.Entries.{var_mode, var_type, owner}
use Rattle.types.specs.Types.{NodeType, numbered, number_of}
use Rattle.machine.specs.Memory.{Memory}
use Rattle.machine.specs.Outcomes.{Outcome, ok, fail, stuck, need, Operand, value, on_typed, word_of}
use Rattle.machine.specs.Entries.{array_type, type_at, Unary, minus, not, val, no_unary, Binary, equal, not_equal, less, not_greater, greater, not_less, add, subtract, multiply, divide, modulus, and, or, no_binary}
use Rattle.machine.specs.Entries.{Node, constant, whole, field, element, retrieve, unary, binary, transfer, string, no_node, node_at}
use Rattle.machine.specs.Context.{Context}
use Rattle.machine.specs.Variables.{belongs, offset_of}
use Rattle.machine.specs.Operands.{one_word, truth, given, unary_value, ordered, integral, logical, binary_value, outside, place_at, field_place, element_place, module_variable, frame_variable, whole_place, retrieved, node_operand, operand_at, operand}
use Rattle.machine.proofs.Outcomes.{g_test, g_need, g_where, g_pick, g_place, g_value, g_typed, g_word, g_record, g_array}
use Rattle.sound.specs.Conditions.{OutOfRange, Exact, sum, difference, product, quotient, remainder, Divides, by_divide, by_modulus, Yields, Gives, a_value, a_text, NodeFails, result, inverted, divisor, index, device, transferred, unset, in_record, in_array, in_index, in_variable, in_unary, in_transfer, in_left, in_right}
use Rattle.sound.proofs.Rows.OutcomeOrStuck.{Near, same, lost, n_need, n_where, n_place_fails, n_place, n_value_fails, n_value, n_typed_fails, n_numbered, n_text, n_word_fails, n_word, n_array}

-- a failure of this outcome meets F
pub data Met {A : Type 0} (F : ℕ → Type 0) : Outcome A → Type 0 where
  is_ok : {y : A} → Met F (ok y)
  is_fail : {f : ℕ} → F f → Met F (fail f)
  is_stuck : Met F stuck

pub met_fail : {A : Type 0} (F : ℕ → Type 0) (o : Outcome A) (f : ℕ) → Met F o → o ≡ fail f → F f
met_fail F _ f is_ok e = let z : ◌≡◌ {A = ℕ} 0 1 = cc in absurd (omega arith)
met_fail F _ f (is_fail {f = i} h) e = let z : i ≡ f = cc in rw z at h
met_fail F _ f is_stuck e = let z : ◌≡◌ {A = ℕ} 0 1 = cc in absurd (omega arith)

-- ---- operators

ranged_out : (z : ℤ) → OutOfRange z → ranged z ≡ words.fail 16
unfolding ranged
ranged_out z h = rw h

not-true : (b : Bool) → bool.not b ≡ true → b ≡ false
not-true true e = no_true e
not-true false e = refl

not-false : (b : Bool) → b ≡ false → bool.not b ≡ true
not-false b e = rw e

module _ (F : ℕ → Type 0) where
  met_simple : (τ w : ℕ) → Met F (one_word τ w)
  unfolding one_word
  met_simple τ w = is_ok

  met_truth : (b : Bool) → Met F (truth b)
  unfolding truth
  met_truth b = met_simple 1 _

  -- an operator's word, or its failure
  met_tested : (τ : ℕ) (b : Bool) (w n : ℕ) → (b ≡ false → F n) → Met F (given τ (pick b (words.word w) (words.fail n)))
  unfolding given
  met_tested τ true w n h = met_simple τ w
  met_tested τ false w n h = is_fail (h refl)

  met_ranged : (τ : ℕ) (z : ℤ) → (OutOfRange z → F 16) → Met F (given τ (ranged z))
  unfolding ranged
  met_ranged τ z h = met_tested τ (between_z (negsuc 32767) (pos 32767) z) _ 16 h

  -- with a divisor
  met_divided : (τ v : ℕ) (z : ℤ) → (v ≡ 0 → F 17) → ((v ≡ 0 → ⊥) → OutOfRange z → F 16) → Met F (given τ (pick (eqb v 0) (words.fail 17) (ranged z)))
  unfolding given
  met_divided τ v z f g = cases (eqb v 0) (λ e. rw e (is_fail (f (eqb-true v 0 e)))) (λ e. rw e (met_ranged τ z (g (eqb-false v 0 e))))

  met_place : (T : Table) (a τ : ℕ) → Met F (place_at T a τ)
  unfolding place_at
  met_place T a τ = g_need (Met F) is_stuck _ _ is_ok

  met_integral : (τ σ : ℕ) (o : words.WordOutcome) → (τ ≡ 0 → σ ≡ 0 → Met F (given 0 o)) → Met F (integral τ σ o)
  unfolding integral
  met_integral τ σ o h = g_test (Met F) is_stuck _ _ (λ e. h (eqb-true τ 0 (both_l _ _ e)) (eqb-true σ 0 (both_r _ _ e)))

  met_ordered : (τ σ : ℕ) (b : Bool) → Met F (ordered τ σ b)
  unfolding ordered
  met_ordered τ σ b = g_need (Met F) is_stuck _ _ (met_truth b)

  met_logical : (τ σ i b : ℕ) → Met F (logical τ σ i b)
  unfolding logical
  met_logical τ σ i b =
      g_need (Met F) is_stuck _ _
      (g_pick (Met F) is_stuck (eqb τ 0) _ _ (λ e. met_simple 0 i) (λ e. g_need (Met F) is_stuck _ _ (met_simple 1 b)))

module _ (T : Table) (m page : Memory) (x : Context) where
  -- what a node's operands are evaluated by
  unfoldable pub below : ℕ → ℕ → Outcome Operand
  below n a = pick (ltb a n) (operand T m page x a) stuck

  pub operand_is : (n : ℕ) → operand T m page x n ≡ node_operand T m page x (below n) (node_at T n)
  unfolding operand operand_at below
  operand_is n = course_is stuck (operand_at T m page x) n

  near_below : {R : Outcome Operand} (n a : ℕ) → Near R (operand T m page x a) → Near R (below n a)
  unfolding below
  near_below n a h = cases (ltb a n) (λ e. rw e h) (λ e. rw e lost)

  below_fail : (n a f : ℕ) → below n a ≡ fail f → (a < n) × (operand T m page x a ≡ fail f)
  unfolding below
  below_fail n a f e =
      cases (ltb a n)
      (λ h. (ltb-true a n h, rw h at e))
      (λ h. let z : ◌≡◌ {A = Outcome Operand} stuck (fail f) = rw h at e in let y : ◌≡◌ {A = ℕ} 0 1 = cc in absurd (omega arith))

  below_ok : (n a : ℕ) (y : Operand) → below n a ≡ ok y → operand T m page x a ≡ ok y
  unfolding below
  below_ok n a y e =
      cases (ltb a n)
      (λ h. rw h at e)
      (λ h. let z : ◌≡◌ {A = Outcome Operand} stuck (ok y) = rw h at e in let w : ◌≡◌ {A = ℕ} 0 1 = cc in absurd (omega arith))

  -- ---- an operand of any type, where o is what node a comes to, or stuck

  module _ {B : Type 0} (a : ℕ) (o : Outcome Operand) (k : NodeType → List ℕ → Outcome B) where
    pub g_gives : (P : Outcome B → Type 0) → P stuck → ((y : Operand) → o ≡ ok y → operand T m page x a ≡ ok y) → ((f : ℕ) → o ≡ fail f → P (fail f))
        → ((κ : NodeType) (us : List ℕ) → Gives T m page x a κ us → P (k κ us)) → P (on_typed o k)
    g_gives P s u f g = g_typed P s o k f (λ τ us e. g (numbered τ) us (a_value (u _ e))) (λ us e. g (NodeType.string (length us)) us (a_text (u _ e)))

    pub n_gives : (R : Outcome B) (κ : NodeType) (us : List ℕ) → ((y : Operand) → operand T m page x a ≡ ok y → Near (ok y) o) → Gives T m page x a κ us → Near R (k κ us)
        → Near R (on_typed o k)
    n_gives R _ us u (a_value {τ = τ} e) h = n_numbered R τ us o k (u _ e) h
    n_gives R _ us u (a_text e) h = n_text R us o k (u _ e) h

  -- no text is an integer
  integer_yields : (a : ℕ) (κ : NodeType) (us : List ℕ) → Gives T m page x a κ us → number_of κ ≡ 0 → Yields T m page x a 0 us
  unfolding number_of
  integer_yields a _ us (a_value e) z = rw z at e
  integer_yields a _ us (a_text e) z = absurd (omega arith)

  -- ---- an evaluation that fails has its rule

  module _ (n : ℕ) (F : (a f : ℕ) → a < n → operand T m page x a ≡ fail f → NodeFails T m page x f a) where
    G : ℕ → Type 0
    G f = NodeFails T m page x f n

    first_fails : (a f : ℕ) → below n a ≡ fail f → NodeFails T m page x f a
    first_fails a f e = let h = below_fail n a f e in F a f h.0 h.1

    met_unary : (o : Unary) (a τ : ℕ) (us : List ℕ) → node_at T n ≡ unary o a → Yields T m page x a τ us → Met G (unary_value page o τ (word_of us))
    unfolding unary_value neg_w G
    met_unary minus a τ us e y = g_need (Met G) is_stuck _ _ (met_ranged G 0 _ (λ r. inverted e y r))
    met_unary not a τ us e y = g_pick (Met G) is_stuck (eqb τ 0) _ _ (λ _. met_simple G 0 _) (λ _. g_need (Met G) is_stuck _ _ (met_simple G 1 _))
    met_unary val a τ us e y = g_need (Met G) is_stuck _ _ (g_where (Met G) is_stuck _ 21 _ (λ h. is_fail (device e y (not-true _ h))) (λ h. met_simple G 0 _))
    met_unary no_unary a τ us e y = is_stuck

    met_binary : (o : Binary) (a b : ℕ) (κ : NodeType) (us : List ℕ) (ι : NodeType) (vs : List ℕ) → node_at T n ≡ binary o a b → Gives T m page x a κ us → Gives T m page x b ι vs
        → Met G (binary_value T o κ us ι vs)
    unfolding binary_value G add_w sub_w mul_w div_w mod_w
    met_binary equal a b κ us ι vs e y z = g_need (Met G) is_stuck _ _ (met_truth G _)
    met_binary not_equal a b κ us ι vs e y z = g_need (Met G) is_stuck _ _ (met_truth G _)
    met_binary less a b κ us ι vs e y z = met_ordered G _ _ _
    met_binary not_greater a b κ us ι vs e y z = met_ordered G _ _ _
    met_binary greater a b κ us ι vs e y z = met_ordered G _ _ _
    met_binary not_less a b κ us ι vs e y z = met_ordered G _ _ _
    met_binary add a b κ us ι vs e y z =
        met_integral G _ _ _ (λ t u. met_ranged G 0 _ (λ r. result e (integer_yields a κ us y t) (integer_yields b ι vs z u) sum r))
    met_binary subtract a b κ us ι vs e y z =
        met_integral G _ _ _ (λ t u. met_ranged G 0 _ (λ r. result e (integer_yields a κ us y t) (integer_yields b ι vs z u) difference r))
    met_binary multiply a b κ us ι vs e y z =
        met_integral G _ _ _ (λ t u. met_ranged G 0 _ (λ r. result e (integer_yields a κ us y t) (integer_yields b ι vs z u) product r))
    met_binary divide a b κ us ι vs e y z =
        met_integral G _ _ _ (λ t u.
        let p = integer_yields a κ us y t in
        let q = integer_yields b ι vs z u in
        met_divided G 0 _ _ (λ h. divisor e p q by_divide h) (λ h r. result e p q (quotient h) r))
    met_binary modulus a b κ us ι vs e y z =
        met_integral G _ _ _ (λ t u.
        let p = integer_yields a κ us y t in
        let q = integer_yields b ι vs z u in
        met_divided G 0 _ _ (λ h. divisor e p q by_modulus h) (λ h r. result e p q (remainder h) r))
    met_binary and a b κ us ι vs e y z = met_logical G _ _ _ _
    met_binary or a b κ us ι vs e y z = met_logical G _ _ _ _
    met_binary no_binary a b κ us ι vs e y z = is_stuck

    met_module : (k τ : ℕ) → Met G (module_variable T m page x k τ)
    unfolding module_variable
    met_module k τ = g_need (Met G) is_stuck _ _ (met_place G T _ _)

    met_frame : (k mode τ : ℕ) → Met G (frame_variable T m page x k mode τ)
    unfolding frame_variable
    met_frame k mode τ = g_need (Met G) is_stuck _ _ (met_place G T _ _)

    met_whole : (v : ℕ) → Met G (whole_place T m page x v)
    unfolding whole_place
    met_whole v =
        g_need (Met G) is_stuck _ _
        (g_pick (Met G) is_stuck (belongs T (owner T x.block) v)
        (module_variable T m page x (offset_of T (owner T x.block) v) (var_type T v))
        (need (belongs T x.block v) (frame_variable T m page x (x.frame + 4 + offset_of T x.block v) (var_mode T v) (var_type T v)))
        (λ e. met_module _ _)
        (λ e. g_need (Met G) is_stuck _ _ (met_frame _ _ _)))

    met_node : (N : Node) → node_at T n ≡ N → Met G (node_operand T m page x (below n) N)
    unfolding node_operand field_place element_place retrieved G transfer_w
    met_node (constant τ v) e = g_need (Met G) is_stuck _ _ (met_simple G τ v)
    met_node (whole v) e = met_whole v
    met_node (field a i) e =
        g_place (Met G) is_stuck (below n a) _ (λ f q. is_fail (in_record e (first_fails a f q)))
        (λ l τ q. g_record (Met G) is_stuck _ _ (λ first count. g_need (Met G) is_stuck _ _ (met_place G T _ _)))
    met_node (element a k) e =
        g_place (Met G) is_stuck (below n a) _ (λ f q. is_fail (in_array e (first_fails a f q)))
        (λ l τ q. g_array (Met G) is_stuck _ _ (λ ι σ low high t.
        g_word (Met G) is_stuck (below n k) ι _ (λ f u. is_fail (in_index e (below_ok n a _ q) (first_fails k f u)))
        (λ ρ ws u. g_where (Met G) is_stuck _ 18 _ (λ h. is_fail (index e (below_ok n a _ q) t (below_ok n k _ u) h)) (λ h. met_place G T _ _))))
    met_node (retrieve a) e =
        g_place (Met G) is_stuck (below n a) _ (λ f q. is_fail (in_variable e (first_fails a f q)))
        (λ l τ q. g_where (Met G) is_stuck _ 31 _ (λ h. is_fail (unset e (below_ok n a _ q) (not-true _ h))) (λ h. is_ok))
    met_node (unary o a) e =
        g_value (Met G) is_stuck (below n a) _ (λ f q. is_fail (in_unary e (first_fails a f q))) (λ τ us q. met_unary o a τ us e (below_ok n a _ q))
    met_node (binary o a b) e =
        g_gives a (below n a) _ (Met G) is_stuck (below_ok n a) (λ f q. is_fail (in_left e (first_fails a f q)))
        (λ κ us y. g_gives b (below n b) _ (Met G) is_stuck (below_ok n b) (λ f u. is_fail (in_right e y (first_fails b f u)))
        (λ ι vs z. met_binary o a b κ us ι vs e y z))
    met_node (transfer a τ) e =
        g_value (Met G) is_stuck (below n a) _ (λ f q. is_fail (in_transfer e (first_fails a f q)))
        (λ σ us q. g_need (Met G) is_stuck _ _ (met_tested G τ (in_type τ (word_of us)) _ 23 (λ h. transferred e (below_ok n a _ q) h)))
    met_node (string p q) e = is_ok
    met_node no_node e = is_stuck

  met_upto : (k n f : ℕ) → n < k → operand T m page x n ≡ fail f → NodeFails T m page x f n
  unfolding G
  met_upto zero n f h e = absurd (not-suc-le-zero h)
  met_upto (suc k) n f h e =
      met_fail (λ i. NodeFails T m page x i n) _ f (met_node n (λ a i l q. met_upto k a i (omega arith) q) (node_at T n) refl) (sym (operand_is n) ∙ e)

  -- an evaluation that fails has its rule
  pub node_fails : (n f : ℕ) → operand T m page x n ≡ fail f → NodeFails T m page x f n
  node_fails n f e = met_upto (suc n) n f (omega arith) e

  -- ---- a rule that holds says how the evaluation fails, where it is not stuck

  integral_near : (τ σ n : ℕ) (o : words.WordOutcome) → o ≡ words.fail n → Near (fail n) (integral τ σ o)
  unfolding integral given
  integral_near τ σ n o e = n_need (fail n) _ _ (rw e (same refl))

  exact_near : (o : Binary) (u v : ℕ) (z : ℤ) (κ ι : NodeType) (us vs : List ℕ) → Exact o u v z → OutOfRange z → u ≡ word_of us → v ≡ word_of vs → Near (fail 16) (binary_value T o κ us ι vs)
  unfolding binary_value add_w sub_w mul_w div_w mod_w
  exact_near _ u v _ κ ι us vs sum r e h = integral_near _ _ 16 _ (rw (← e, ← h) (ranged_out _ r))
  exact_near _ u v _ κ ι us vs difference r e h = integral_near _ _ 16 _ (rw (← e, ← h) (ranged_out _ r))
  exact_near _ u v _ κ ι us vs product r e h = integral_near _ _ 16 _ (rw (← e, ← h) (ranged_out _ r))
  exact_near _ u v _ κ ι us vs (quotient q) r e h = integral_near _ _ 16 _ (rw (← e, ← h, ne_eqb v 0 q) (ranged_out _ r))
  exact_near _ u v _ κ ι us vs (remainder q) r e h = integral_near _ _ 16 _ (rw (← e, ← h, ne_eqb v 0 q) (ranged_out _ r))

  divides_near : (o : Binary) (κ ι : NodeType) (us vs : List ℕ) → Divides o → word_of vs ≡ 0 → Near (fail 17) (binary_value T o κ us ι vs)
  unfolding binary_value div_w mod_w
  divides_near _ κ ι us vs by_divide e = integral_near _ _ 17 _ (rw e)
  divides_near _ κ ι us vs by_modulus e = integral_near _ _ 17 _ (rw e)

  -- an index that fails
  index_near : (f l τ : ℕ) (o : Outcome Operand) → Near (fail f) o → Near (fail f) (element_place T l τ o)
  unfolding element_place
  index_near f l τ o h = g_array (Near (fail f)) lost (type_at T τ) _ (λ ι σ low high t. n_word_fails (fail f) f o ι _ refl h)

  outside_near : (l τ ι σ low high ρ : ℕ) (ws : List ℕ) (o : Outcome Operand) → type_at T τ ≡ array_type ι σ low high → Near (ok (value ρ ws)) o
      → outside low high (word_of ws) ≡ true → Near (fail 18) (element_place T l τ o)
  unfolding element_place
  outside_near l τ ι σ low high ρ ws o t y h =
      n_array (fail 18) (type_at T τ) _ ι σ low high t (n_word (fail 18) ρ ws o ι _ y (n_where (fail 18) _ 18 _ refl h))

  -- where the operands are evaluated
  at_node : (n : ℕ) (N : Node) {R : Outcome Operand} → node_at T n ≡ N → Near R (node_operand T m page x (below n) N) → Near R (operand T m page x n)
  at_node n N e h = rw (operand_is n, e) h

  pub fails_near : (f n : ℕ) → NodeFails T m page x f n → Near (fail f) (operand T m page x n)
  unfolding node_operand retrieved unary_value neg_w given transfer_w
  fails_near _ n (result {o = o} {a = a} {b = b} {τ = τ} {σ = σ} {us = us} {vs = vs} e y w q r) =
      at_node n _ e
      (n_numbered (fail 16) τ us (below n a) _ (near_below n a (same y))
      (n_numbered (fail 16) σ vs (below n b) _ (near_below n b (same w))
      (exact_near o _ _ _ _ _ us vs q r refl refl)))
  fails_near _ n (inverted {a = a} {τ = τ} {us = us} e y r) =
      at_node n _ e
      (n_value (fail 16) τ us (below n a) _ (near_below n a (same y))
      (n_need (fail 16) _ _ (rw (ranged_out _ r) (same refl))))
  fails_near _ n (divisor {o = o} {a = a} {b = b} {τ = τ} {σ = σ} {us = us} {vs = vs} e y w q r) =
      at_node n _ e
      (n_numbered (fail 17) τ us (below n a) _ (near_below n a (same y))
      (n_numbered (fail 17) σ vs (below n b) _ (near_below n b (same w))
      (divides_near o _ _ us vs q r)))
  fails_near _ n (index {a = a} {k = k} {l = l} {τ = τ} {ι = ι} {σ = σ} {low = low} {high = high} {ρ = ρ} {ws = ws} e y t w h) =
      at_node n _ e
      (n_place (fail 18) l τ (below n a) _ (near_below n a (same y))
      (outside_near l τ ι σ low high ρ ws (below n k) t (near_below n k (same w)) h))
  fails_near _ n (device {a = a} {τ = τ} {us = us} e y h) =
      at_node n _ e
      (n_value (fail 21) τ us (below n a) _ (near_below n a (same y))
      (n_need (fail 21) _ _ (n_where (fail 21) _ 21 _ refl (not-false _ h))))
  fails_near _ n (transferred {a = a} {σ = σ} {us = us} e y h) =
      at_node n _ e
      (n_value (fail 23) σ us (below n a) _ (near_below n a (same y))
      (n_need (fail 23) _ _ (rw h (same refl))))
  fails_near _ n (unset {a = a} {i = i} {τ = τ} e y h) =
      at_node n _ e (n_place (fail 31) i τ (below n a) _ (near_below n a (same y)) (n_where (fail 31) _ 31 _ refl (not-false _ h)))
  fails_near f n (in_record {a = a} e h) = at_node n _ e (n_place_fails (fail f) f (below n a) _ refl (near_below n a (fails_near f a h)))
  fails_near f n (in_array {a = a} e h) = at_node n _ e (n_place_fails (fail f) f (below n a) _ refl (near_below n a (fails_near f a h)))
  fails_near f n (in_index {a = a} {k = k} {l = l} {τ = τ} e y h) =
      at_node n _ e
      (n_place (fail f) l τ (below n a) _ (near_below n a (same y))
      (index_near f l τ (below n k) (near_below n k (fails_near f k h))))
  fails_near f n (in_variable {a = a} e h) = at_node n _ e (n_place_fails (fail f) f (below n a) _ refl (near_below n a (fails_near f a h)))
  fails_near f n (in_unary {a = a} e h) = at_node n _ e (n_value_fails (fail f) f (below n a) _ refl (near_below n a (fails_near f a h)))
  fails_near f n (in_transfer {a = a} e h) = at_node n _ e (n_value_fails (fail f) f (below n a) _ refl (near_below n a (fails_near f a h)))
  fails_near f n (in_left {a = a} e h) = at_node n _ e (n_typed_fails (fail f) f (below n a) _ refl (near_below n a (fails_near f a h)))
  fails_near f n (in_right {a = a} {b = b} {κ = κ} {us = us} e y h) =
      at_node n _ e
      (n_gives a (below n a) _ (fail f) κ us (λ _ q. near_below n a (same q)) y
      (n_typed_fails (fail f) f (below n b) _ refl (near_below n b (fails_near f b h))))
