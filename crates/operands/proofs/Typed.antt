-- An outcome that is not stuck has the type that is read off the table: a place of it fits its area, a value of it has its words.
-- String constants, whose types have no number, are apart. Assumes nothing.
use Prim.Native.Nat.{ℕ, zero, suc, ◌+◌, ◌-◌, ◌*◌, ◌<◌, ◌≤◌}
use mathlib.Core.Path.{◌≡◌, refl, sym}
use mathlib.Core.Bool.{Bool, true, false}
use mathlib.Core.List.{List}
use lib.ListN.{length}
use lib.Dec.{eqb, ltb}
use native.Mathlib.Omega.{arith}
use borrow.Author.Tests.{eqb-true, eqb-false, ltb-true, ltb-false, ne_eqb}
use Rattle.basics.specs.Choice.{pick, both}
use Rattle.basics.specs.Cases.{cases}
use Rattle.basics.proofs.Bools.{both_r, no_true}
use Rattle.table.specs.Table.{Table}
use Rattle.table.specs.Entries.{declared, node_count, type_kind, type_p, type_q, type_low, type_high, field_type, var_type, owner, node_kind, node_p, node_q, node_v}
use Rattle.types.specs.Types.{no_type, field_of, element_of, unary_type, binary_type, type_of, NodeType, numbered, number_of}
use Rattle.types.proofs.Matching.{constant_none}
use Rattle.types.specs.Match.{offset}
use Rattle.numbers.specs.Ranges.{in_range}
use Rattle.numbers.specs.Nodes.{Variable, Expression}
use Rattle.numbers.proofs.OperandPromise.{field_variable, element_variable, value_variable, unary_operand, binary_left, binary_right, transfer_operand}
use Rattle.sizes.specs.Sizes.{words_of, offset_in}
use Rattle.sizes.proofs.Counting.{words_standard}
use Rattle.words.specs.Outcomes as words
use Rattle.machine.specs.Memory.{Memory}
use Rattle.machine.proofs.Memories.{length_words}
use Rattle.machine.specs.Context.{Context}
use Rattle.machine.specs.Outcomes.{Outcome, ok, fail, stuck, and_then, need, fail_where, Operand, place, value, text, placed, valued, typed_words, on_place, on_value, on_typed, on_word, word_of}
use Rattle.machine.specs.Entries.{record_type, array_type, type_at, no_unary, unary_at, no_binary, binary_at}
use Rattle.machine.specs.Variables.{fits, belongs}
use Rattle.machine.specs.Operands.{one_word, truth, given, unary_value, ordered, integral, logical, binary_value, outside, on_record, on_array, place_at, field_place, element_place, module_variable, frame_variable, whole_place, retrieved, operand}
use Rattle.operands.proofs.Nodes.{is_constant, is_string, is_whole, is_field, is_element, is_retrieve, is_unary, is_binary, is_transfer, type_constant, type_whole, type_field, type_element, type_retrieve, type_unary, type_binary, type_transfer}

pub seven : (k : ℕ) → k ≤ 7 → eqb k 0 ≡ false → eqb k 1 ≡ false → eqb k 2 ≡ false → eqb k 3 ≡ false → eqb k 4 ≡ false → eqb k 5 ≡ false → eqb k 6 ≡ false → k ≡ 7
seven k l a b c d e f g =
    let a' = eqb-false k 0 a in
    let b' = eqb-false k 1 b in
    let l₁ : 2 ≤ k = from 1 (from 0 (omega arith) a') b' in
    let l₂ = from 2 l₁ (eqb-false k 2 c) in
    let l₃ = from 3 l₂ (eqb-false k 3 d) in
    let l₄ = from 4 l₃ (eqb-false k 4 e) in
    let l₅ = from 5 l₄ (eqb-false k 5 f) in
    let l₆ = from 6 l₅ (eqb-false k 6 g) in omega arith
  where
    from : (i : ℕ) → i ≤ k → (k ≡ i → ⊥) → i + 1 ≤ k
    from i l n = omega arith

-- an expression that is no string constant
pub below_eight : (T : Table) (m n : ℕ) → Expression T m n → (node_kind T n ≡ 8 → ⊥) → node_kind T n ≤ 7
below_eight T m n v k = let h = v.high in omega arith

pub data OfType (T : Table) (τ : ℕ) : Outcome Operand → Type 0 where
  a_place : {a : ℕ} → fits T a τ ≡ true → OfType T τ (ok (place a τ))
  a_value : {ws : List ℕ} → length ws ≡ words_of T τ → OfType T τ (ok (value τ ws))
  a_failure : {k : ℕ} → OfType T τ (fail k)
  a_stuck : OfType T τ stuck

module _ (T : Table) (τ : ℕ) where
  of_need : (b : Bool) (o : Outcome Operand) → (b ≡ true → OfType T τ o) → OfType T τ (need b o)
  unfolding need
  of_need true o f = f refl
  of_need false o f = a_stuck

  of_fail_where : (b : Bool) (k : ℕ) (o : Outcome Operand) → OfType T τ o → OfType T τ (fail_where b k o)
  unfolding fail_where
  of_fail_where true k o f = a_failure
  of_fail_where false k o f = f

  of_simple : (w : ℕ) → τ < 3 → OfType T τ (one_word τ w)
  unfolding one_word
  of_simple w l = a_value (sym (words_standard T τ l))

  of_given : (o : words.WordOutcome) → τ < 3 → OfType T τ (given τ o)
  unfolding given
  of_given (words.word w) l = of_simple w l
  of_given (words.fail k) l = a_failure

  of_place_at : (a : ℕ) → OfType T τ (place_at T a τ)
  unfolding place_at
  of_place_at a = of_need (fits T a τ) (ok (place a τ)) (λ e. a_place e)

  of_on_place : (σ : ℕ) (o : Outcome Operand) (g : ℕ → ℕ → Outcome Operand) → OfType T σ o → ((a : ℕ) → OfType T τ (g a σ)) → OfType T τ (on_place o g)
  unfolding on_place and_then placed
  of_on_place σ (ok (place a ρ)) g (a_place e) f = f a
  of_on_place σ (ok (value ρ ws)) g (a_value e) f = a_stuck
  of_on_place σ (ok (text _)) g x f = elim x [ ]
  of_on_place σ (fail k) g a_failure f = a_failure
  of_on_place σ stuck g a_stuck f = a_stuck

  of_on_value : (σ : ℕ) (o : Outcome Operand) (g : ℕ → List ℕ → Outcome Operand) → OfType T σ o → ((ws : List ℕ) → OfType T τ (g σ ws)) → OfType T τ (on_value o g)
  unfolding on_value and_then valued
  of_on_value σ (ok (place a ρ)) g (a_place e) f = a_stuck
  of_on_value σ (ok (value ρ ws)) g (a_value e) f = f ws
  of_on_value σ (ok (text _)) g x f = elim x [ ]
  of_on_value σ (fail k) g a_failure f = a_failure
  of_on_value σ stuck g a_stuck f = a_stuck

  of_on_typed : (σ : ℕ) (o : Outcome Operand) (g : NodeType → List ℕ → Outcome Operand) → OfType T σ o → ((ws : List ℕ) → OfType T τ (g (numbered σ) ws)) → OfType T τ (on_typed o g)
  unfolding on_typed and_then typed_words
  of_on_typed σ (ok (place a ρ)) g (a_place e) f = a_stuck
  of_on_typed σ (ok (value ρ ws)) g (a_value e) f = f ws
  of_on_typed σ (ok (text _)) g x f = elim x [ ]
  of_on_typed σ (fail k) g a_failure f = a_failure
  of_on_typed σ stuck g a_stuck f = a_stuck

  of_on_word : (o : Outcome Operand) (ι : ℕ) (g : ℕ → Outcome Operand) → ((i : ℕ) → OfType T τ (g i)) → OfType T τ (on_word o ι g)
  unfolding on_word on_value and_then valued
  of_on_word (ok (place a ρ)) ι g f = a_stuck
  of_on_word (ok (value ρ ws)) ι g f = of_need (eqb ρ ι) (g (word_of ws)) (λ e. f (word_of ws))
  of_on_word (ok (text ws)) ι g f = a_stuck
  of_on_word (fail k) ι g f = a_failure
  of_on_word stuck ι g f = a_stuck

of_truth : (T : Table) (b : Bool) → OfType T 1 (truth b)
unfolding truth
of_truth T b = of_simple T 1 _ (omega arith)

-- the entry of a type, by its kind
module _ (T : Table) (τ : ℕ) where
  from_three : (k : ℕ) → type_kind T τ ≡ k → 1 ≤ k → 3 ≤ τ
  unfolding declared
  from_three k e h =
      cases (ltb τ 3)
      (λ g. let q : 0 ≡ k = rw g at e in absurd (omega arith))
      (λ g. ltb-false τ 3 g)

  entry_record : type_kind T τ ≡ 1 → type_at T τ ≡ record_type (type_p T τ) (type_q T τ)
  unfolding type_at
  entry_record e =
      let l = from_three 1 e (omega arith) in
      rw (ne_eqb τ 0 (λ q. omega arith), ne_eqb τ 1 (λ q. omega arith), ne_eqb τ 2 (λ q. omega arith), e)

  entry_array : type_kind T τ ≡ 2 → type_at T τ ≡ array_type (type_p T τ) (type_q T τ) (type_low T τ) (type_high T τ)
  unfolding type_at
  entry_array e =
      let l = from_three 2 e (omega arith) in
      rw (ne_eqb τ 0 (λ q. omega arith), ne_eqb τ 1 (λ q. omega arith), ne_eqb τ 2 (λ q. omega arith), e)

  -- of another kind there is no field and no element
  no_record : (type_kind T τ ≡ 1 → ⊥) → {A : Type 0} (f : ℕ → ℕ → Outcome A) → on_record (type_at T τ) f ≡ stuck
  unfolding type_at on_record
  no_record n f =
      cases (eqb τ 0) (λ a. rw a) (λ a.
      cases (eqb τ 1) (λ b. rw (a, b)) (λ b.
      cases (eqb τ 2) (λ c. rw (a, b, c)) (λ c.
      cases (eqb (type_kind T τ) 2) (λ d. rw (a, b, c, ne_eqb (type_kind T τ) 1 n, d)) (λ d.
      cases (eqb (type_kind T τ) 3) (λ e. rw (a, b, c, ne_eqb (type_kind T τ) 1 n, d, e)) (λ e.
      rw (a, b, c, ne_eqb (type_kind T τ) 1 n, d, e))))))

  pub no_array : (type_kind T τ ≡ 2 → ⊥) → {A : Type 0} (f : ℕ → ℕ → ℕ → ℕ → Outcome A) → on_array (type_at T τ) f ≡ stuck
  unfolding type_at on_array
  no_array n f =
      cases (eqb τ 0) (λ a. rw a) (λ a.
      cases (eqb τ 1) (λ b. rw (a, b)) (λ b.
      cases (eqb τ 2) (λ c. rw (a, b, c)) (λ c.
      cases (eqb (type_kind T τ) 1) (λ d. rw (a, b, c, d)) (λ d.
      cases (eqb (type_kind T τ) 3) (λ e. rw (a, b, c, d, ne_eqb (type_kind T τ) 2 n, e)) (λ e.
      rw (a, b, c, d, ne_eqb (type_kind T τ) 2 n, e))))))

-- parts of variables
of_field : (T : Table) (a τ i : ℕ) → OfType T (field_of T τ i) (field_place T a τ i)
unfolding field_place on_record field_of
of_field T a τ i =
    cases (eqb (type_kind T τ) 1)
    (λ e.
    let k = eqb-true (type_kind T τ) 1 e in
    rw (entry_record T τ k, e)
    (cases (ltb i (type_q T τ))
    (λ g. rw g (of_need T (field_type T (type_p T τ + i)) true (place_at T (a + offset_in T τ i) (field_type T (type_p T τ + i))) (λ q. of_place_at T (field_type T (type_p T τ + i)) (a + offset_in T τ i))))
    (λ g. rw g (of_need T no_type false _ (λ q. no_true q)))))
    (λ e. rw (no_record T τ (eqb-false (type_kind T τ) 1 e) (λ first count. need (ltb i count) (place_at T (a + offset_in T τ i) (field_type T (first + i))))) a_stuck)

of_element : (T : Table) (a τ : ℕ) (o : Outcome Operand) → OfType T (element_of T τ) (element_place T a τ o)
unfolding element_place element_of on_array
of_element T a τ o =
    cases (eqb (type_kind T τ) 2)
    (λ e.
    rw (entry_array T τ (eqb-true (type_kind T τ) 2 e), e)
    (of_on_word T (type_q T τ) o (type_p T τ) _
    (λ i. of_fail_where T (type_q T τ) (outside (type_low T τ) (type_high T τ) i) 18 _ (of_place_at T (type_q T τ) (a + (offset i - offset (type_low T τ)) * words_of T (type_q T τ))))))
    (λ e. rw (no_array T τ (eqb-false (type_kind T τ) 2 e) _) a_stuck)

of_whole : (T : Table) (m page : Memory) (x : Context) (v : ℕ) → OfType T (var_type T v) (whole_place T m page x v)
unfolding whole_place module_variable frame_variable
of_whole T m page x v =
    of_need T (var_type T v) _ _ (λ e.
    cases (belongs T (owner T x.block) v)
    (λ b. rw b (of_need T (var_type T v) _ _ (λ q. of_place_at T (var_type T v) _)))
    (λ b. rw b (of_need T (var_type T v) _ _ (λ q. of_need T (var_type T v) _ _ (λ r. of_place_at T (var_type T v) _)))))

-- operators
pub unary_cases : (P : ℕ → Type 0) (o : ℕ) → P 1 → P 2 → P 3 → (unary_at o ≡ no_unary → P o) → P o
unfolding unary_at
unary_cases P zero p₁ p₂ p₃ none = none refl
unary_cases P (suc zero) p₁ p₂ p₃ none = p₁
unary_cases P (suc (suc zero)) p₁ p₂ p₃ none = p₂
unary_cases P (suc (suc (suc zero))) p₁ p₂ p₃ none = p₃
unary_cases P (suc (suc (suc (suc o)))) p₁ p₂ p₃ none = none refl

pub binary_cases : (P : ℕ → Type 0) (o : ℕ) → P 1 → P 2 → P 3 → P 4 → P 5 → P 6 → P 7 → P 8 → P 9 → P 10 → P 11 → P 12 → P 13 → (binary_at o ≡ no_binary → P o) → P o
unfolding binary_at
binary_cases P zero p₁ p₂ p₃ p₄ p₅ p₆ p₇ p₈ p₉ q₀ q₁ q₂ q₃ none = none refl
binary_cases P (suc zero) p₁ p₂ p₃ p₄ p₅ p₆ p₇ p₈ p₉ q₀ q₁ q₂ q₃ none = p₁
binary_cases P (suc (suc zero)) p₁ p₂ p₃ p₄ p₅ p₆ p₇ p₈ p₉ q₀ q₁ q₂ q₃ none = p₂
binary_cases P (suc (suc (suc zero))) p₁ p₂ p₃ p₄ p₅ p₆ p₇ p₈ p₉ q₀ q₁ q₂ q₃ none = p₃
binary_cases P (suc (suc (suc (suc zero)))) p₁ p₂ p₃ p₄ p₅ p₆ p₇ p₈ p₉ q₀ q₁ q₂ q₃ none = p₄
binary_cases P (suc (suc (suc (suc (suc zero))))) p₁ p₂ p₃ p₄ p₅ p₆ p₇ p₈ p₉ q₀ q₁ q₂ q₃ none = p₅
binary_cases P (suc (suc (suc (suc (suc (suc zero)))))) p₁ p₂ p₃ p₄ p₅ p₆ p₇ p₈ p₉ q₀ q₁ q₂ q₃ none = p₆
binary_cases P (suc (suc (suc (suc (suc (suc (suc zero))))))) p₁ p₂ p₃ p₄ p₅ p₆ p₇ p₈ p₉ q₀ q₁ q₂ q₃ none = p₇
binary_cases P (suc (suc (suc (suc (suc (suc (suc (suc zero)))))))) p₁ p₂ p₃ p₄ p₅ p₆ p₇ p₈ p₉ q₀ q₁ q₂ q₃ none = p₈
binary_cases P (suc (suc (suc (suc (suc (suc (suc (suc (suc zero))))))))) p₁ p₂ p₃ p₄ p₅ p₆ p₇ p₈ p₉ q₀ q₁ q₂ q₃ none = p₉
binary_cases P (suc (suc (suc (suc (suc (suc (suc (suc (suc (suc zero)))))))))) p₁ p₂ p₃ p₄ p₅ p₆ p₇ p₈ p₉ q₀ q₁ q₂ q₃ none = q₀
binary_cases P (suc (suc (suc (suc (suc (suc (suc (suc (suc (suc (suc zero))))))))))) p₁ p₂ p₃ p₄ p₅ p₆ p₇ p₈ p₉ q₀ q₁ q₂ q₃ none = q₁
binary_cases P (suc (suc (suc (suc (suc (suc (suc (suc (suc (suc (suc (suc zero)))))))))))) p₁ p₂ p₃ p₄ p₅ p₆ p₇ p₈ p₉ q₀ q₁ q₂ q₃ none = q₂
binary_cases P (suc (suc (suc (suc (suc (suc (suc (suc (suc (suc (suc (suc (suc zero))))))))))))) p₁ p₂ p₃ p₄ p₅ p₆ p₇ p₈ p₉ q₀ q₁ q₂ q₃ none = q₃
binary_cases P (suc (suc (suc (suc (suc (suc (suc (suc (suc (suc (suc (suc (suc (suc o)))))))))))))) p₁ p₂ p₃ p₄ p₅ p₆ p₇ p₈ p₉ q₀ q₁ q₂ q₃ none = none refl

of_not : (T : Table) (τ i b : ℕ) → OfType T τ (pick (eqb τ 0) (one_word 0 i) (need (eqb τ 1) (one_word 1 b)))
of_not T τ i b =
    cases (eqb τ 0)
    (λ e. let q = eqb-true τ 0 e in rw q (of_simple T 0 i (omega arith)))
    (λ e. rw e (of_need T τ (eqb τ 1) (one_word 1 b) (λ g. let q = eqb-true τ 1 g in rw q (of_simple T 1 b (omega arith)))))

of_unary : (T : Table) (page : Memory) (o τ w : ℕ) → OfType T (unary_type o τ) (unary_value page (unary_at o) τ w)
unfolding unary_type unary_value unary_at
of_unary T page o τ w =
    unary_cases (λ k. OfType T (unary_type k τ) (unary_value page (unary_at k) τ w)) o
    (of_need T 0 _ _ (λ e. of_given T 0 _ (omega arith)))
    (of_not T τ _ _)
    (of_need T 0 _ _ (λ e. of_fail_where T 0 _ _ _ (of_simple T 0 _ (omega arith))))
    (λ e. rw e a_stuck)

of_equal : (T : Table) (b c : Bool) → OfType T 1 (need b (truth c))
of_equal T b c = of_need T 1 b (truth c) (λ e. of_truth T c)

of_ordered : (T : Table) (τ σ : ℕ) (c : Bool) → OfType T 1 (ordered τ σ c)
unfolding ordered
of_ordered T τ σ c = of_equal T (both (eqb τ σ) (ltb τ 3)) c

of_integral : (T : Table) (τ σ : ℕ) (o : words.WordOutcome) → OfType T 0 (integral τ σ o)
unfolding integral
of_integral T τ σ o = of_need T 0 _ _ (λ e. of_given T 0 o (omega arith))

of_logical : (T : Table) (τ σ i b : ℕ) → OfType T τ (logical τ σ i b)
unfolding logical
of_logical T τ σ i b = of_need T τ _ _ (λ e. of_not T τ i b)

of_binary : (T : Table) (o : ℕ) (τ : NodeType) (us : List ℕ) (σ : NodeType) (vs : List ℕ) → OfType T (binary_type o (number_of τ)) (binary_value T (binary_at o) τ us σ vs)
unfolding binary_type binary_value binary_at
of_binary T o τ us σ vs =
    binary_cases (λ k. OfType T (binary_type k (number_of τ)) (binary_value T (binary_at k) τ us σ vs)) o
    (of_equal T _ _)
    (of_equal T _ _)
    (of_ordered T (number_of τ) (number_of σ) _)
    (of_ordered T (number_of τ) (number_of σ) _)
    (of_ordered T (number_of τ) (number_of σ) _)
    (of_ordered T (number_of τ) (number_of σ) _)
    (of_integral T (number_of τ) (number_of σ) _)
    (of_integral T (number_of τ) (number_of σ) _)
    (of_integral T (number_of τ) (number_of σ) _)
    (of_integral T (number_of τ) (number_of σ) _)
    (of_integral T (number_of τ) (number_of σ) _)
    (of_logical T (number_of τ) (number_of σ) _ _)
    (of_logical T (number_of τ) (number_of σ) _ _)
    (λ e. rw e a_stuck)

of_retrieved : (T : Table) (m page : Memory) (x : Context) (a τ : ℕ) → OfType T τ (retrieved T m page x a τ)
unfolding retrieved
of_retrieved T m page x a τ = of_fail_where T τ _ _ _ (a_value (length_words m a (words_of T τ)))

-- THE TYPE of a node's outcome is the one that is read off
module _ (T : Table) (m page : Memory) (x : Context) (h : in_range T ≡ true) where
  -- an operand that may be a string constant, whose type has no number
  module _ (τ p : ℕ) (l : p < node_count T) (k : node_kind T p ≤ 8) (r : node_kind T p ≤ 7 → OfType T (type_of T p) (operand T m page x p)) where
    of_value : (g : ℕ → List ℕ → Outcome Operand) → ((ws : List ℕ) → OfType T τ (g (type_of T p) ws)) → OfType T τ (on_value (operand T m page x p) g)
    unfolding on_value and_then valued
    of_value g f =
        cases (eqb (node_kind T p) 8)
        (λ e. rw (is_string T m page x p l (eqb-true (node_kind T p) 8 e)) a_stuck)
        (λ e. let q = eqb-false (node_kind T p) 8 e in of_on_value T τ (type_of T p) _ g (r (omega arith)) f)

    of_any : (g : NodeType → List ℕ → Outcome Operand) → ((κ : NodeType) (ws : List ℕ) → number_of κ ≡ type_of T p → OfType T τ (g κ ws)) → OfType T τ (on_typed (operand T m page x p) g)
    unfolding on_typed and_then typed_words number_of
    of_any g f =
        cases (eqb (node_kind T p) 8)
        (λ e. let q = eqb-true (node_kind T p) 8 e in rw (is_string T m page x p l q) (f _ _ (sym (constant_none T p q))))
        (λ e. let q = eqb-false (node_kind T p) 8 e in of_on_typed T τ (type_of T p) _ g (r (omega arith)) (λ ws. f (numbered (type_of T p)) ws refl))

  typed_at : (n : ℕ) → n < node_count T → ((p : ℕ) → p < n → node_kind T p ≤ 7 → OfType T (type_of T p) (operand T m page x p)) → node_kind T n ≤ 7 → OfType T (type_of T n) (operand T m page x n)
  typed_at n l r k =
      cases (eqb (node_kind T n) 0) (λ e. let q = eqb-true (node_kind T n) 0 e in
      rw (type_constant T n l q, is_constant T m page x n l q) (of_need T (node_p T n) _ _ (λ g. of_simple T (node_p T n) _ (ltb-true (node_p T n) 3 g)))) (λ k₀.
      cases (eqb (node_kind T n) 1) (λ e. let q = eqb-true (node_kind T n) 1 e in
      rw (type_whole T n l q, is_whole T m page x n l q) (of_whole T m page x (node_p T n))) (λ k₁.
      cases (eqb (node_kind T n) 2) (λ e. let q = eqb-true (node_kind T n) 2 e in let v = field_variable T h n l q in let b = v.below in
      rw (type_field T n l b q, is_field T m page x n l h q) (of_on_place T _ (type_of T (node_p T n)) _ _ (r (node_p T n) b (omega arith)) (λ a. of_field T a (type_of T (node_p T n)) (node_q T n)))) (λ k₂.
      cases (eqb (node_kind T n) 3) (λ e. let q = eqb-true (node_kind T n) 3 e in let v = element_variable T h n l q in let b = v.below in
      rw (type_element T n l b q, is_element T m page x n l h q) (of_on_place T _ (type_of T (node_p T n)) _ _ (r (node_p T n) b (omega arith)) (λ a. of_element T a (type_of T (node_p T n)) (operand T m page x (node_q T n))))) (λ k₃.
      cases (eqb (node_kind T n) 4) (λ e. let q = eqb-true (node_kind T n) 4 e in let v = value_variable T h n l q in let b = v.below in
      rw (type_retrieve T n l b q, is_retrieve T m page x n l h q) (of_on_place T _ (type_of T (node_p T n)) _ _ (r (node_p T n) b (omega arith)) (λ a. of_retrieved T m page x a (type_of T (node_p T n))))) (λ k₄.
      cases (eqb (node_kind T n) 5) (λ e. let q = eqb-true (node_kind T n) 5 e in let v = unary_operand T h n l q in let b = v.below in
      rw (type_unary T n l b q, is_unary T m page x n l h q) (of_value _ (node_p T n) (omega arith) v.high (r (node_p T n) b) _ (λ us. of_unary T page (node_q T n) (type_of T (node_p T n)) (word_of us)))) (λ k₅.
      cases (eqb (node_kind T n) 6) (λ e. let q = eqb-true (node_kind T n) 6 e in let v = binary_left T h n l q in let b = v.below in
      rw (type_binary T n l b q, is_binary T m page x n l h q)
      (let u = binary_right T h n l q in let d = u.below in
      of_any _ (node_p T n) (omega arith) v.high (r (node_p T n) b) _ (λ τ us e.
      of_any _ (node_q T n) (omega arith) u.high (r (node_q T n) d) _ (λ σ vs _. rw (← e) (of_binary T (node_v T n) τ us σ vs))))) (λ k₆.
      let q : node_kind T n ≡ 7 = seven (node_kind T n) k k₀ k₁ k₂ k₃ k₄ k₅ k₆ in let v = transfer_operand T h n l q in let b = v.below in
      rw (type_transfer T n l q, is_transfer T m page x n l h q)
      (of_value (node_q T n) (node_p T n) (omega arith) v.high (r (node_p T n) b) _ (λ us. of_need T (node_q T n) _ _ (λ g. of_given T (node_q T n) _ (ltb-true (node_q T n) 3 (both_r (ltb (type_of T (node_p T n)) 3) (ltb (node_q T n) 3) g))))))))))))

  typed_below : (k n : ℕ) → n < k → n < node_count T → node_kind T n ≤ 7 → OfType T (type_of T n) (operand T m page x n)
  typed_below zero n l c g = absurd (omega arith)
  typed_below (suc k) n l c g = typed_at n c (λ p b u. typed_below k p (omega arith) (omega arith) u) g

  pub typed_variable : (n : ℕ) → Variable T (node_count T) n → OfType T (type_of T n) (operand T m page x n)
  typed_variable n v = typed_below (suc n) n (omega arith) v.below (omega (arith, v.high))

  pub typed_expression : (n : ℕ) → Expression T (node_count T) n → (node_kind T n ≡ 8 → ⊥) → OfType T (type_of T n) (operand T m page x n)
  typed_expression n v k = typed_below (suc n) n (omega arith) v.below (below_eight T (node_count T) n v k)
