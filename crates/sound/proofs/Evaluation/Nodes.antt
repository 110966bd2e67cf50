-- Evaluation: each node in scope comes to a live place of its type or a value of it, by its sort, or to a listed failure. Assumes nothing.
use Prim.Native.Nat.{ℕ, zero, suc, ◌+◌, ◌-◌, ◌*◌, ◌≤◌, ◌<◌}
use mathlib.Core.Path.{◌≡◌}
use mathlib.Core.Bool.{false, not}
use lib.ListN.{get_or, get_or-eq_default}
use native.Mathlib.Omega.{arith}
use native.Mathlib.Nat.{not-suc-le-zero}
use lib.Dec.{eqb, leb, ltb}
use borrow.Author.Tests.{eqb-true, eqb-false, leb-true, leb-false, ltb-true, ltb-false, lt-ltb}
use Rattle.basics.specs.Choice.{both}
use Rattle.basics.specs.Cases.{cases}
use Rattle.basics.specs.Course.{upto, course}
use Rattle.basics.proofs.Bools.{both_i}
use Rattle.basics.proofs.Courses.{upto_below}
use Rattle.table.specs.Table.{Table}
use Rattle.table.specs.Entries.{type_count, node_count, type_kind, type_p, type_q, type_low, type_high, field_type, node_kind, node_p, node_q, node_v}
use Rattle.types.specs.Types.{field_of, element_of, unary_type, binary_type, type_of, numbered, evened, type_of_node}
use Rattle.types.specs.Match.{offset}
use Rattle.types.proofs.Matching.{numbered_type}
use Rattle.types.proofs.Matching as matching
use Rattle.entries.proofs.Promise as known
use Rattle.numbers.specs.Nodes.{Variable, Expression}
use Rattle.numbers.proofs.TypePromise.{array_index}
use Rattle.numbers.proofs.OperandPromise as ranged
use Rattle.typing.proofs.Promise as typing
use Rattle.sizes.specs.Sizes.{words_of, offset_in}
use Rattle.sizes.proofs.Counting.{index_in}
use Rattle.machine.specs.Memory.{Memory, words_at}
use Rattle.machine.specs.Texts.{text_at}
use Rattle.machine.specs.Layout.{status_at, created_at}
use Rattle.machine.specs.Marks.{all_marked}
use Rattle.machine.specs.Outcomes.{Outcome, stuck, Operand, word_of}
use Rattle.machine.specs.Entries.{node_of, node_at}
use Rattle.machine.specs.Context.{context_of, block_of}
use Rattle.machine.specs.Operands.{on_record, on_array, outside, place_at, field_place, element_place, retrieved, node_operand, operand_at, operand}
use Rattle.machine.proofs.Entries.{at_record, at_array}
use Rattle.machine.proofs.Tests.{failure_i, failure_unset}
use Rattle.machine.proofs.TextLaws.{text_long, text-at}
use Rattle.verdict.specs.Accepted.{Accepted}
use Rattle.sound.specs.Claims.{PlaceLaws, Words}
use Rattle.sound.specs.Answers.{Small}
use Rattle.sound.specs.Ruled.{Ruled}
use Rattle.sound.specs.Reached.{WordTable}
use Rattle.sound.specs.Evaluated.{Live, GoodPlace, no_place, GoodValue, a_value, a_text, no_value, GoodNode, Scoping}
use Rattle.sound.proofs.Evaluation.OutcomeLaws.{on_need, on_fail, on-place, on-value, on-typed, on-word}
use Rattle.sound.proofs.Evaluation.NodeTypes.{node_is, constant_type, whole_type, transfer_type, field-type, element_type, value_type, unary-type, binary-type, word_small, words_small, declared_small}
use Rattle.sound.proofs.Places.WholeVariables.{whole_good, place_good}
use Rattle.sound.proofs.Evaluation.Operators.{constant_good, transfer_good, unary_good, equality_good, binary_good, index_low, index_high}
use Rattle.sound.proofs.Places.LiveParts.{further_field, further_element, live_part}

module _ (T : Table) (acc : Accepted T) (L : PlaceLaws T) (W : WordTable T) (m : Memory) (R : Ruled T m) (ms : Small m) (page : Memory) (ps : Small page) (p : ℕ) (some : 1 ≤ p) (made : p ≤ m created_at) (s : m (status_at p) ≡ 2) where
  -- a field of a live place
  field_good : (a σ i : ℕ) → type_kind T σ ≡ 1 → i < type_q T σ → Live T m p σ a → GoodPlace T m p (field_type T (type_p T σ + i)) (field_place T a σ i)
  unfolding field_place on_record
  field_good a σ i k l v =
      rw (at_record T σ k)
      (on_need (GoodPlace T m p (field_type T (type_p T σ + i))) no_place (ltb i (type_q T σ)) _ (lt-ltb i (type_q T σ) l)
      (place_good T acc L m R p some made s (field_type T (type_p T σ + i)) (a + offset_in T σ i)
      (live_part T acc L σ (field_type T (type_p T σ + i)) (offset_in T σ i) v.type (further_field T L σ (type_p T σ) (type_q T σ) i (at_record T σ k) l) m R p some made s a v)))

  -- an element of a live place
  element_good : (a σ : ℕ) (o : Outcome Operand) → type_kind T σ ≡ 2 → GoodValue T m (numbered (type_p T σ)) o → Live T m p σ a → GoodPlace T m p (type_q T σ) (element_place T a σ o)
  unfolding element_place on_array
  element_good a σ o k g v =
      rw (at_array T σ k)
      (on-word (GoodPlace T m p (type_q T σ)) no_place T m (type_p T σ) o _ g (λ ws u t.
      on_fail (GoodPlace T m p (type_q T σ)) no_place (outside (type_low T σ) (type_high T σ) (word_of ws)) 18 _ (failure_i 18 (omega arith) (omega arith)) (λ e. found (word_of ws) (word_small ws t) e)))
    where
      found : (i : ℕ) → i < 65536 → outside (type_low T σ) (type_high T σ) i ≡ false → GoodPlace T m p (type_q T σ) (place_at T (a + (offset i - offset (type_low T σ)) * words_of T (type_q T σ)) (type_q T σ))
      found i l e =
          let j : ℕ = offset i - offset (type_low T σ) in
          let low = index_low (type_low T σ) (type_high T σ) i (declared_small T W σ 3) (declared_small T W σ 4) l e in
          let high = index_high (type_low T σ) (type_high T σ) i (declared_small T W σ 3) (declared_small T W σ 4) l e in
          place_good T acc L m R p some made s (type_q T σ) (a + j * words_of T (type_q T σ))
          (live_part T acc L σ (type_q T σ) (j * words_of T (type_q T σ)) v.type
          (further_element T L σ (type_p T σ) (type_q T σ) (type_low T σ) (type_high T σ) j (at_array T σ k) (index_in T σ i low high))
          m R p some made s a v)

  -- the value of a live place, or 31
  retrieved_good : (a σ : ℕ) → Live T m p σ a → GoodValue T m (numbered σ) (retrieved T m page (context_of m p) a σ)
  unfolding retrieved
  retrieved_good a σ v =
      on_fail (GoodValue T m (numbered σ)) no_value (not (all_marked m a (words_of T σ))) 31 _ failure_unset
      (λ e. a_value (words_at m a (words_of T σ)) (L.retrieved m σ a v.type v.value) (words_small m ms.small a (words_of T σ)))

  module _ (scope : ℕ → Type 0) (S : Scoping T (block_of m p) scope) where
    -- one node, where r gives the outcomes of those before it
    module _ (n : ℕ) (l : n < node_count T) (c : scope n) (r : ℕ → Outcome Operand) (h : (k : ℕ) → k < n → scope k → GoodNode T m p k (r k)) where
      variable_before : 2 ≤ node_kind T n → node_kind T n ≤ 7 → Variable T n (node_p T n) → GoodPlace T m p (type_of T (node_p T n)) (r (node_p T n))
      variable_before k u v = (h (node_p T n) v.below (S.first n c k u)).variable v.low v.high

      expression_before : 2 ≤ node_kind T n → node_kind T n ≤ 7 → Expression T n (node_p T n) → GoodValue T m (type_of_node T (node_p T n)) (r (node_p T n))
      expression_before k u v = (h (node_p T n) v.below (S.first n c k u)).expression v.sort

      number_before : 2 ≤ node_kind T n → node_kind T n ≤ 7 → Expression T n (node_p T n) → (node_kind T (node_p T n) ≡ 8 → ⊥) → GoodValue T m (numbered (type_of T (node_p T n))) (r (node_p T n))
      number_before k u v e = rw (numbered_type T (node_p T n) e) at (expression_before k u v)

      constant_node : node_kind T n ≡ 0 → GoodValue T m (numbered (type_of T n)) (node_operand T m page (context_of m p) r (node_at T n))
      unfolding node_of node_operand
      constant_node e =
          let t = ranged.constant_type T acc.numbers n l e in
          rw (constant_type T n l e, node_is T n 0 l e)
          (on_need (GoodValue T m (numbered (node_p T n))) no_value (ltb (node_p T n) 3) _ (lt-ltb (node_p T n) 3 (omega arith))
          (constant_good T m (node_p T n) (node_v T n) t (W.cells 5 n 3) (typing.boolean_constant T acc.types n l e) (typing.character_constant T acc.types n l e)))

      whole_node : node_kind T n ≡ 1 → GoodPlace T m p (type_of T n) (node_operand T m page (context_of m p) r (node_at T n))
      unfolding node_of node_operand
      whole_node e =
          rw (whole_type T n l e, node_is T n 1 l e)
          (whole_good T acc L m R p some made s (node_p T n) page (ranged.whole_variable T acc.numbers n l e) (S.whole n c e))

      field_node : node_kind T n ≡ 2 → GoodPlace T m p (type_of T n) (node_operand T m page (context_of m p) r (node_at T n))
      unfolding node_of node_operand field_of
      field_node e =
          let v = ranged.field_variable T acc.numbers n l e in
          let k = typing.field_of_record T acc.types n l e in
          let q = ranged.field-place T acc.numbers n l e k in
          rw (field-type T n l v.below e, node_is T n 2 l e, k, lt-ltb (node_q T n) (type_q T (type_of T (node_p T n))) q)
          (on-place (GoodPlace T m p (field_type T (type_p T (type_of T (node_p T n)) + node_q T n))) no_place T m p (type_of T (node_p T n)) (r (node_p T n)) _
          (variable_before (omega arith) (omega arith) v)
          (λ a w. field_good a (type_of T (node_p T n)) (node_q T n) k q w))

      -- an index is of a standard type, so no string constant
      index_before : (e : node_kind T n ≡ 3) → type_of T (node_p T n) < 3 + type_count T → GoodValue T m (numbered (type_p T (type_of T (node_p T n)))) (r (node_q T n))
      index_before e t =
          let i = ranged.element-index T acc.numbers n l e in
          let k = array_index T acc.numbers (type_of T (node_p T n)) t (typing.element_of_array T acc.types n l e) in
          rw (numbered_type T (node_q T n) (typing.index_numbered T acc.types n l e k), typing.index_type T acc.types n l e) at ((h (node_q T n) i.below (S.index n c e)).expression i.sort)

      element_node : node_kind T n ≡ 3 → GoodPlace T m p (type_of T n) (node_operand T m page (context_of m p) r (node_at T n))
      unfolding node_of node_operand element_of
      element_node e =
          let v = ranged.element_variable T acc.numbers n l e in
          let k = typing.element_of_array T acc.types n l e in
          rw (element_type T n l v.below e, node_is T n 3 l e, k)
          (on-place (GoodPlace T m p (type_q T (type_of T (node_p T n)))) no_place T m p (type_of T (node_p T n)) (r (node_p T n)) _
          (variable_before (omega arith) (omega arith) v)
          (λ a w. element_good a (type_of T (node_p T n)) (r (node_q T n)) k (index_before e w.type) w))

      value_node : node_kind T n ≡ 4 → GoodValue T m (numbered (type_of T n)) (node_operand T m page (context_of m p) r (node_at T n))
      unfolding node_of node_operand
      value_node e =
          let v = ranged.value_variable T acc.numbers n l e in
          rw (value_type T n l v.below e, node_is T n 4 l e)
          (on-place (GoodValue T m (numbered (type_of T (node_p T n)))) no_value T m p (type_of T (node_p T n)) (r (node_p T n)) _
          (variable_before (omega arith) (omega arith) v)
          (λ a w. retrieved_good a (type_of T (node_p T n)) w))

      unary_node : node_kind T n ≡ 5 → GoodValue T m (numbered (type_of T n)) (node_operand T m page (context_of m p) r (node_at T n))
      unfolding node_of node_operand
      unary_node e =
          let v = ranged.unary_operand T acc.numbers n l e in
          let σ : ℕ = type_of T (node_p T n) in
          let q = known.unary_operator T acc.kinds n l e in
          rw (unary-type T n l v.below e, node_is T n 5 l e)
          (on-value (GoodValue T m (numbered (unary_type (node_q T n) σ))) no_value T m σ (r (node_p T n)) _
          (number_before (omega arith) (omega arith) v (typing.unary_numbered T acc.types n l e))
          (λ ws u t. unary_good T m page ps (word_of ws) (word_small ws t) (node_q T n) σ q.0 q.1 (typing.not_operand T acc.types n l e) (typing.integer_operand T acc.types n l e)))

      second_before : (e : node_kind T n ≡ 6) → GoodValue T m (type_of_node T (node_q T n)) (r (node_q T n))
      second_before e = let w = ranged.binary_right T acc.numbers n l e in (h (node_q T n) w.below (S.second n c e)).expression w.sort

      -- = and <> take any types that are equal, the others types that have numbers
      equality_node : node_kind T n ≡ 6 → node_v T n ≤ 2 → GoodValue T m (numbered (type_of T n)) (node_operand T m page (context_of m p) r (node_at T n))
      unfolding node_of node_operand
      equality_node e u =
          let v = ranged.binary_left T acc.numbers n l e in
          let σ : ℕ = type_of T (node_p T n) in
          let q = known.binary_operator T acc.kinds n l e in
          rw (binary-type T n l v.below e, node_is T n 6 l e)
          (on-typed (GoodValue T m (numbered (binary_type (node_v T n) σ))) no_value T m (type_of_node T (node_p T n)) (r (node_p T n)) _
          (expression_before (omega arith) (omega arith) v)
          (λ us a t. on-typed (GoodValue T m (numbered (binary_type (node_v T n) σ))) no_value T m (type_of_node T (node_q T n)) (r (node_q T n)) _ (second_before e)
          (λ vs b w. equality_good T m (type_of_node T (node_p T n)) (type_of_node T (node_q T n)) us vs (node_v T n) σ q.0 u (typing.equality_operands T acc.types n l e u))))

      operator_node : node_kind T n ≡ 6 → 3 ≤ node_v T n → GoodValue T m (numbered (type_of T n)) (node_operand T m page (context_of m p) r (node_at T n))
      unfolding node_of node_operand Words
      operator_node e u =
          let v = ranged.binary_left T acc.numbers n l e in
          let σ : ℕ = type_of T (node_p T n) in
          let τ : ℕ = type_of T (node_q T n) in
          let q = known.binary_operator T acc.kinds n l e in
          let g : GoodValue T m (numbered τ) (r (node_q T n)) = rw (numbered_type T (node_q T n) (typing.right_numbered T acc.types n l e u)) at (second_before e) in
          rw (binary-type T n l v.below e, node_is T n 6 l e)
          (on-typed (GoodValue T m (numbered (binary_type (node_v T n) σ))) no_value T m (numbered σ) (r (node_p T n)) _
          (number_before (omega arith) (omega arith) v (typing.left_numbered T acc.types n l e u))
          (λ us a t. on-typed (GoodValue T m (numbered (binary_type (node_v T n) σ))) no_value T m (numbered τ) (r (node_q T n)) _ g
          (λ vs b w. binary_good T m σ τ us vs a t w (node_v T n) u q.1
          (typing.same_operands T acc.types n l e u) (typing.order_operands T acc.types n l e u)
          (typing.arithmetic_operands T acc.types n l e) (typing.logic_operands T acc.types n l e))))

      binary_node : node_kind T n ≡ 6 → GoodValue T m (numbered (type_of T n)) (node_operand T m page (context_of m p) r (node_at T n))
      binary_node e = cases (leb (node_v T n) 2) (λ q. equality_node e (leb-true (node_v T n) 2 q)) (λ q. operator_node e (leb-false (node_v T n) 2 q))

      transfer_node : node_kind T n ≡ 7 → GoodValue T m (numbered (type_of T n)) (node_operand T m page (context_of m p) r (node_at T n))
      unfolding node_of node_operand
      transfer_node e =
          let v = ranged.transfer_operand T acc.numbers n l e in
          let σ : ℕ = type_of T (node_p T n) in
          let a = typing.transfer_operand T acc.types n l e in
          let b = ranged.transfer_type T acc.numbers n l e in
          rw (transfer_type T n l e, node_is T n 7 l e)
          (on-value (GoodValue T m (numbered (node_q T n))) no_value T m σ (r (node_p T n)) _
          (number_before (omega arith) (omega arith) v (typing.transfer_numbered T acc.types n l e))
          (λ ws u t. on_need (GoodValue T m (numbered (node_q T n))) no_value (both (ltb σ 3) (ltb (node_q T n) 3)) _ (both_i _ _ (lt-ltb σ 3 (omega arith)) (lt-ltb (node_q T n) 3 (omega arith)))
          (transfer_good T m (node_q T n) (word_of ws) b (word_small ws t))))

      -- the characters of a string constant
      letter : node_kind T n ≡ 8 → (i : ℕ) → get_or (text_at T (node_p T n) (node_q T n)) i 0 ≤ 127
      letter e i =
          let g = ranged.string_there T acc.numbers n l e in
          cases (ltb i (evened (node_q T n)))
          (λ q. rw (text-at T (node_p T n) (node_q T n) i (ltb-true i (evened (node_q T n)) q))
          (cases (ltb i (node_q T n))
          (λ u. let z = ltb-true i (node_q T n) u in rw u (typing.character_range T acc.types (node_p T n + i) (omega arith)))
          (λ u. rw u (omega arith))))
          (λ q.
          let z = ltb-false i (evened (node_q T n)) q in
          let k = text_long T (node_p T n) (node_q T n) in
          rw (get_or-eq_default (text_at T (node_p T n) (node_q T n)) 0 {n = i} (omega arith)) (omega arith))

      string_node : node_kind T n ≡ 8 → GoodValue T m (type_of_node T n) (node_operand T m page (context_of m p) r (node_at T n))
      unfolding node_of node_operand
      string_node e =
          rw (matching.constant_type T n e, node_is T n 8 l e)
          (a_text (text_at T (node_p T n) (node_q T n)) (record { long = text_long T (node_p T n) (node_q T n); letters = letter e }))

      -- an expression whose type has a number
      number_node : (node_kind T n ≡ 8 → ⊥) → (1 ≤ node_kind T n → 4 ≤ node_kind T n) → GoodValue T m (numbered (type_of T n)) (node_operand T m page (context_of m p) r (node_at T n))
      number_node d a =
          cases (eqb (node_kind T n) 0) (λ q. constant_node (eqb-true (node_kind T n) 0 q))
          (λ q.
          let z = eqb-false (node_kind T n) 0 q in
          let b : 4 ≤ node_kind T n = a (omega arith) in
          let k = known.node-kind T acc.kinds n l in
          cases (eqb (node_kind T n) 4) (λ u. value_node (eqb-true (node_kind T n) 4 u))
          (λ u. cases (eqb (node_kind T n) 5) (λ v. unary_node (eqb-true (node_kind T n) 5 v))
          (λ v. cases (eqb (node_kind T n) 6) (λ w. binary_node (eqb-true (node_kind T n) 6 w))
          (λ w. transfer_node (omega (arith, d, eqb-false (node_kind T n) 4 u, eqb-false (node_kind T n) 5 v, eqb-false (node_kind T n) 6 w))))))

      one_node : GoodNode T m p n (node_operand T m page (context_of m p) r (node_at T n))
      one_node =
          record {
            variable = λ a b.
                cases (eqb (node_kind T n) 1) (λ q. whole_node (eqb-true (node_kind T n) 1 q))
                (λ q. cases (eqb (node_kind T n) 2) (λ u. field_node (eqb-true (node_kind T n) 2 u))
                (λ u. element_node (omega (arith, eqb-false (node_kind T n) 1 q, eqb-false (node_kind T n) 2 u))));
            expression = λ a.
                cases (eqb (node_kind T n) 8) (λ q. string_node (eqb-true (node_kind T n) 8 q))
                (λ q. let d = eqb-false (node_kind T n) 8 q in rw (numbered_type T n d) (number_node d a));
          }

    below : (k n : ℕ) → n < k → n < node_count T → scope n → GoodNode T m p n (operand T m page (context_of m p) n)
    unfolding operand course operand_at
    below zero n g l c = absurd (not-suc-le-zero g)
    below (suc k) n g l c =
        one_node n l c (upto stuck (operand_at T m page (context_of m p)) n)
        (λ j b d. rw (upto_below stuck (operand_at T m page (context_of m p)) n j b) (below k j (omega arith) (omega arith) d))

    -- EVALUATION of a node in scope
    pub node_good : (n : ℕ) → n < node_count T → scope n → GoodNode T m p n (operand T m page (context_of m p) n)
    node_good n l c = below (suc n) n (omega arith) l c
