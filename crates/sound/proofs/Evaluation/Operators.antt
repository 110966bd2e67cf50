-- Evaluation: operators give values of their types. Assumes nothing.
use Prim.Native.Nat.{ℕ, zero, suc, ◌-◌, ◌≤◌, ◌<◌}
use mathlib.Core.Path.{◌≡◌, refl, sym, ◌∙◌}
use mathlib.Core.Bool.{Bool, true, false}
use mathlib.Core.Bool as bool
use mathlib.Core.List.{List, [], ◌∷◌}
use native.Mathlib.Omega.{arith}
use lib.Dec.{eqb, ltb}
use lib.IntN.{ℤ, pos, negsuc}
use borrow.Author.Tests.{leb-true, ltb-true, ltb-false, lt-ltb, eq-eqb, not-false}
use Rattle.basics.specs.Choice.{pick, both}
use Rattle.basics.specs.Cases.{cases}
use Rattle.basics.proofs.Bools.{no_true, both_l, both_r, both_i}
use Rattle.table.specs.Table.{Table}
use Rattle.types.specs.Types.{unary_type, binary_type, NodeType, numbered, number_of}
use Rattle.types.specs.Match.{offset, matching, is_equal}
use Rattle.words.specs.Numbers.{int_of, between_z}
use Rattle.words.specs.Numbers as numbers
use Rattle.words.specs.Operators.{ranged, add_w, sub_w, neg_w, mul_w, div_w, mod_w, le_w, not_w, and_w, or_w, not_b, and_b, or_b}
use Rattle.words.specs.Types.{in_type, transfer_w}
use Rattle.words.specs.Devices.{is_device}
use Rattle.words.specs.Outcomes as words
use Rattle.words.proofs.Integers.{word_lt, in_range_mag}
use Rattle.words.proofs.StandardTypes.{boolean_is, character_is}
use Rattle.words.proofs.BitLaws.{and_word, or_word, not_boolean, and_boolean, or_boolean}
use Rattle.machine.specs.Memory.{Memory}
use Rattle.machine.specs.Outcomes.{need, word_of, is_failure}
use Rattle.machine.specs.Entries.{unary_at, binary_at}
use Rattle.machine.specs.Operands.{one_word, truth, given, device_word, unary_value, ordered, integral, logical, binary_value, outside}
use Rattle.machine.proofs.Tests.{failure_i}
use Rattle.sound.specs.Claims.{IsValue}
use Rattle.sound.specs.Answers.{Small}
use Rattle.sound.specs.Evaluated.{SmallWords, GoodValue, a_value, no_value}
use Rattle.sound.proofs.Evaluation.OutcomeLaws.{on_need, on_fail}
use Rattle.sound.proofs.Values.OneWord.{integer_value, boolean_value, character_value, boolean_word}
use Rattle.sound.proofs.Evaluation.NodeTypes.{one_small, word_small}

-- an operator gives a word, or a listed failure
pub data Ranged : words.WordOutcome → Type 0 where
  a_word : (w : ℕ) → w < 65536 → Ranged (words.word w)
  no_word : (n : ℕ) → is_failure n ≡ true → Ranged (words.fail n)

ranged_is : (z : ℤ) → Ranged (ranged z)
unfolding ranged
ranged_is z =
    cases (between_z (negsuc 32767) (pos 32767) z)
    (λ e. rw e (a_word (numbers.word_of_z z) (word_lt z (in_range_mag z e))))
    (λ e. rw e (no_word 16 (failure_i 16 (omega arith) (omega arith))))

divided : (b : ℕ) (z : ℤ) → Ranged (pick (eqb b 0) (words.fail 17) (ranged z))
divided b z = cases (eqb b 0) (λ e. rw e (no_word 17 (failure_i 17 (omega arith) (omega arith)))) (λ e. rw e (ranged_is z))

add_is : (a b : ℕ) → Ranged (add_w a b)
unfolding add_w
add_is a b = ranged_is _

sub_is : (a b : ℕ) → Ranged (sub_w a b)
unfolding sub_w
sub_is a b = ranged_is _

neg_is : (a : ℕ) → Ranged (neg_w a)
unfolding neg_w
neg_is a = ranged_is _

mul_is : (a b : ℕ) → Ranged (mul_w a b)
unfolding mul_w
mul_is a b = ranged_is _

div_is : (a b : ℕ) → Ranged (div_w a b)
unfolding div_w
div_is a b = divided b _

mod_is : (a b : ℕ) → Ranged (mod_w a b)
unfolding mod_w
mod_is a b = divided b _

-- words in the order of their integers
pub le_offset : (a b : ℕ) → a < 65536 → b < 65536 → le_w a b ≡ true → offset a ≤ offset b
unfolding le_w offset
le_offset a b h k e =
    cases (ltb a 32768)
    (λ p. cases (ltb b 32768)
    (λ q. let l = leb-true a b (rw (p, q) at e) in rw (p, q) (omega arith))
    (λ q. no_true (rw (p, q) at e)))
    (λ p. let g = ltb-false a 32768 p in cases (ltb b 32768)
    (λ q. let l = ltb-true b 32768 q in rw (p, q) (omega arith))
    (λ q. let l = leb-true (65536 - suc b) (65536 - suc a) (rw (p, q) at e) in let i = ltb-false b 32768 q in rw (p, q) (omega arith)))

-- an index that is not outside its range
module _ (low high i : ℕ) (a : low < 65536) (b : high < 65536) (c : i < 65536) (e : outside low high i ≡ false) where
  inside : both (le_w low i) (le_w i high) ≡ true
  unfolding outside
  inside = not-false _ e

  pub index_low : offset low ≤ offset i
  index_low = le_offset low i a c (both_l _ _ inside)

  pub index_high : offset i ≤ offset high
  index_high = le_offset i high c b (both_r _ _ inside)

module _ (T : Table) (m : Memory) where
  pub simple_good : (τ w : ℕ) → IsValue T m τ (w ∷ []) → w < 65536 → GoodValue T m (numbered τ) (one_word τ w)
  unfolding one_word
  simple_good τ w v l = a_value (w ∷ []) v (one_small w l)

  pub integer_good : (w : ℕ) → w < 65536 → GoodValue T m (numbered 0) (one_word 0 w)
  integer_good w l = simple_good 0 w (integer_value T m w) l

  pub boolean_good : (w : ℕ) → w ≤ 1 → GoodValue T m (numbered 1) (one_word 1 w)
  boolean_good w l = simple_good 1 w (boolean_value T m w l) (omega arith)

  pub character_good : (w : ℕ) → w ≤ 127 → GoodValue T m (numbered 2) (one_word 2 w)
  character_good w l = simple_good 2 w (character_value T m w l) (omega arith)

  pub truth_good : (b : Bool) → GoodValue T m (numbered 1) (truth b)
  unfolding truth
  truth_good true = boolean_good 1 (omega arith)
  truth_good false = boolean_good 0 (omega arith)

  given_good : (o : words.WordOutcome) → Ranged o → GoodValue T m (numbered 0) (given 0 o)
  unfolding given
  given_good _ (a_word w l) = integer_good w l
  given_good _ (no_word n l) = no_value n l

  transferred : (τ w : ℕ) (b : Bool) → (b ≡ true → IsValue T m τ (w ∷ [])) → w < 65536 → GoodValue T m (numbered τ) (given τ (pick b (words.word w) (words.fail 23)))
  unfolding given
  transferred τ w true h l = simple_good τ w (h refl) l
  transferred τ w false h l = no_value 23 (failure_i 23 (omega arith) (omega arith))

  pub transfer_good : (τ w : ℕ) → τ ≤ 2 → w < 65536 → GoodValue T m (numbered τ) (given τ (transfer_w τ w))
  unfolding transfer_w
  transfer_good zero w t l = transferred 0 w (in_type 0 w) (λ e. integer_value T m w) l
  transfer_good (suc zero) w t l = transferred 1 w (in_type 1 w) (λ e. boolean_value T m w (leb-true w 1 (sym (boolean_is w l) ∙ e))) l
  transfer_good (suc (suc zero)) w t l = transferred 2 w (in_type 2 w) (λ e. character_value T m w (leb-true w 127 (sym (character_is w l) ∙ e))) l
  transfer_good (suc (suc (suc τ))) w t l = absurd (omega arith)

  pub constant_good : (τ w : ℕ) → τ ≤ 2 → w < 65536 → (τ ≡ 1 → w ≤ 1) → (τ ≡ 2 → w ≤ 127) → GoodValue T m (numbered τ) (one_word τ w)
  constant_good zero w t l b c = integer_good w l
  constant_good (suc zero) w t l b c = boolean_good w (b refl)
  constant_good (suc (suc zero)) w t l b c = character_good w (c refl)
  constant_good (suc (suc (suc τ))) w t l b c = absurd (omega arith)

  -- unary operators
  module _ (page : Memory) (ps : Small page) (w : ℕ) (l : w < 65536) where
    not_good : (τ : ℕ) → τ ≤ 1 → GoodValue T m (numbered τ) (unary_value page (unary_at 2) τ w)
    unfolding unary_at unary_value
    not_good zero t = integer_good (not_w w) (omega arith)
    not_good (suc zero) t = on_need (GoodValue T m (numbered 1)) no_value true _ refl (boolean_good (not_b w) (not_boolean w))
    not_good (suc (suc τ)) t = absurd (omega arith)

    pub unary_good : (q τ : ℕ) → 1 ≤ q → q ≤ 3 → (q ≡ 2 → τ ≤ 1) → ((q ≡ 2 → ⊥) → τ ≡ 0) → GoodValue T m (numbered (unary_type q τ)) (unary_value page (unary_at q) τ w)
    unfolding unary_type unary_at unary_value
    unary_good zero τ a b h i = absurd (omega arith)
    unary_good (suc zero) τ a b h i =
        let e : τ ≡ 0 = i (λ z. omega arith) in
        rw e (on_need (GoodValue T m (numbered 0)) no_value true _ refl (given_good (neg_w w) (neg_is w)))
    unary_good (suc (suc zero)) τ a b h i = not_good τ (h refl)
    unary_good (suc (suc (suc zero))) τ a b h i =
        let e : τ ≡ 0 = i (λ z. omega arith) in
        rw e (on_need (GoodValue T m (numbered 0)) no_value true _ refl
        (on_fail (GoodValue T m (numbered 0)) no_value (bool.not (is_device (int_of w))) 21 _ (failure_i 21 (omega arith) (omega arith)) (λ z. integer_good (page (device_word w)) (ps.small (device_word w)))))
    unary_good (suc (suc (suc (suc q)))) τ a b h i = absurd (omega arith)

  -- binary operators
  ordered_good : (τ σ : ℕ) (b : Bool) → τ ≡ σ → τ ≤ 2 → GoodValue T m (numbered 1) (ordered τ σ b)
  unfolding ordered
  ordered_good τ σ b e t =
      on_need (GoodValue T m (numbered 1)) no_value (both (eqb τ σ) (ltb τ 3)) _ (both_i _ _ (eq-eqb τ σ e) (lt-ltb τ 3 (omega arith))) (truth_good b)

  integral_good : (τ σ : ℕ) (o : words.WordOutcome) → τ ≡ σ → τ ≡ 0 → Ranged o → GoodValue T m (numbered 0) (integral τ σ o)
  unfolding integral
  integral_good τ σ o e t r =
      on_need (GoodValue T m (numbered 0)) no_value (both (eqb τ 0) (eqb σ 0)) _ (both_i _ _ (eq-eqb τ 0 t) (eq-eqb σ 0 (sym e ∙ t))) (given_good o r)

  logical_good : (τ σ i b : ℕ) → τ ≡ σ → τ ≤ 1 → i < 65536 → (τ ≡ 1 → b ≤ 1) → GoodValue T m (numbered τ) (logical τ σ i b)
  unfolding logical
  logical_good zero σ i b e t l h = on_need (GoodValue T m (numbered 0)) no_value (eqb 0 σ) _ (eq-eqb 0 σ e) (integer_good i l)
  logical_good (suc zero) σ i b e t l h =
      on_need (GoodValue T m (numbered 1)) no_value (eqb 1 σ) _ (eq-eqb 1 σ e) (on_need (GoodValue T m (numbered 1)) no_value true _ refl (boolean_good b (h refl)))
  logical_good (suc (suc τ)) σ i b e t l h = absurd (omega arith)

  equal_good : (κ ν : NodeType) (b : Bool) → is_equal (matching T κ ν) ≡ true → GoodValue T m (numbered 1) (need (is_equal (matching T κ ν)) (truth b))
  equal_good κ ν b e = on_need (GoodValue T m (numbered 1)) no_value (is_equal (matching T κ ν)) _ e (truth_good b)

  -- = and <>, of whatever types that are equal
  pub equality_good : (κ ν : NodeType) (us vs : List ℕ) (v τ : ℕ) → 1 ≤ v → v ≤ 2 → is_equal (matching T κ ν) ≡ true → GoodValue T m (numbered (binary_type v τ)) (binary_value T (binary_at v) κ us ν vs)
  unfolding binary_type binary_at binary_value
  equality_good κ ν us vs zero τ a b e = absurd (omega arith)
  equality_good κ ν us vs (suc zero) τ a b e = equal_good κ ν _ e
  equality_good κ ν us vs (suc (suc zero)) τ a b e = equal_good κ ν _ e
  equality_good κ ν us vs (suc (suc (suc v))) τ a b e = absurd (omega arith)

  -- the others, of types that have numbers
  module _ (τ σ : ℕ) (us vs : List ℕ) (u : IsValue T m τ us) (su : SmallWords us) (sv : SmallWords vs) where
    small_u : word_of us < 65536
    small_u = word_small us su

    small_v : word_of vs < 65536
    small_v = word_small vs sv

    boolean_u : τ ≡ 1 → word_of us ≤ 1
    boolean_u e = boolean_word T m us (rw e at u)

    pub binary_good : (v : ℕ) → 3 ≤ v → v ≤ 13 → τ ≡ σ → (v ≤ 6 → τ ≤ 2) → (7 ≤ v → v ≤ 11 → τ ≡ 0) → (12 ≤ v → τ ≤ 1)
        → GoodValue T m (numbered (binary_type v τ)) (binary_value T (binary_at v) (numbered τ) us (numbered σ) vs)
    unfolding binary_type binary_at binary_value number_of
    binary_good zero a b s o n l = absurd (omega arith)
    binary_good (suc zero) a b s o n l = absurd (omega arith)
    binary_good (suc (suc zero)) a b s o n l = absurd (omega arith)
    binary_good (suc (suc (suc zero))) a b s o n l = ordered_good τ σ _ s (o (omega arith))
    binary_good (suc (suc (suc (suc zero)))) a b s o n l = ordered_good τ σ _ s (o (omega arith))
    binary_good (suc (suc (suc (suc (suc zero))))) a b s o n l = ordered_good τ σ _ s (o (omega arith))
    binary_good (suc (suc (suc (suc (suc (suc zero)))))) a b s o n l = ordered_good τ σ _ s (o (omega arith))
    binary_good (suc (suc (suc (suc (suc (suc (suc zero))))))) a b s o n l = integral_good τ σ _ s (n (omega arith) (omega arith)) (add_is (word_of us) (word_of vs))
    binary_good (suc (suc (suc (suc (suc (suc (suc (suc zero)))))))) a b s o n l = integral_good τ σ _ s (n (omega arith) (omega arith)) (sub_is (word_of us) (word_of vs))
    binary_good (suc (suc (suc (suc (suc (suc (suc (suc (suc zero))))))))) a b s o n l = integral_good τ σ _ s (n (omega arith) (omega arith)) (mul_is (word_of us) (word_of vs))
    binary_good (suc (suc (suc (suc (suc (suc (suc (suc (suc (suc zero)))))))))) a b s o n l = integral_good τ σ _ s (n (omega arith) (omega arith)) (div_is (word_of us) (word_of vs))
    binary_good (suc (suc (suc (suc (suc (suc (suc (suc (suc (suc (suc zero))))))))))) a b s o n l = integral_good τ σ _ s (n (omega arith) (omega arith)) (mod_is (word_of us) (word_of vs))
    binary_good (suc (suc (suc (suc (suc (suc (suc (suc (suc (suc (suc (suc zero)))))))))))) a b s o n l =
        logical_good τ σ (and_w (word_of us) (word_of vs)) (and_b (word_of us) (word_of vs)) s (l (omega arith))
        (and_word (word_of us) (word_of vs) small_u small_v) (λ t. and_boolean (word_of us) (word_of vs) (boolean_u t))
    binary_good (suc (suc (suc (suc (suc (suc (suc (suc (suc (suc (suc (suc (suc zero))))))))))))) a b s o n l =
        logical_good τ σ (or_w (word_of us) (word_of vs)) (or_b (word_of us) (word_of vs)) s (l (omega arith))
        (or_word (word_of us) (word_of vs) small_u small_v) (λ t. or_boolean (word_of us) (word_of vs) (boolean_u t))
    binary_good (suc (suc (suc (suc (suc (suc (suc (suc (suc (suc (suc (suc (suc (suc v)))))))))))))) a b s o n l = absurd (omega arith)
