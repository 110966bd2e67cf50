-- A place that is selected lies in one area, and a value that is yielded has the words of its type. Assumes nothing.
use Prim.Native.Nat.{ℕ, suc, ◌+◌, ◌≤◌, ◌<◌}
use mathlib.Core.Path.{◌≡◌, refl, sym}
use mathlib.Core.Bool.{Bool, true}
use mathlib.Core.List.{List}
use native.Mathlib.Omega.{arith}
use lib.Dec.{eqb}
use lib.IntN.{ℤ, pos, negsuc}
use lib.ListN.{length}
use borrow.Author.Tests.{leb-true, ltb-true, le-ltb}
use Rattle.basics.proofs.Bools.{no_true, both_l, both_r}
use Rattle.words.specs.Numbers.{int_of, between_z}
use Rattle.words.specs.Devices.{is_device, position_of}
use Rattle.words.specs.Outcomes as words
use Rattle.table.specs.Table.{Table}
use Rattle.table.specs.Entries.{owner, var_mode, var_type}
use Rattle.types.specs.Types.{NodeType, numbered}
use Rattle.sizes.specs.Sizes.{words_of}
use Rattle.sizes.specs.Kept.{words_in}
use Rattle.sizes.proofs.Counting.{words_standard}
use Rattle.machine.specs.Memory.{Memory}
use Rattle.machine.specs.Outcomes.{Outcome, ok, fail, stuck, need, Operand, place, value, text, on_typed}
use Rattle.machine.specs.Entries.{Unary, minus, not, val, no_unary, Binary, equal, not_equal, less, not_greater, greater, not_less, add, subtract, multiply, divide, modulus, and, or, no_binary}
use Rattle.machine.specs.Entries.{Node, constant, whole, field, element, retrieve, unary, binary, transfer, string, no_node}
use Rattle.machine.specs.Context.{Context}
use Rattle.machine.specs.Variables.{belongs, offset_of, fits}
use Rattle.machine.specs.Operands.{one_word, truth, given, device_word, unary_value, ordered, integral, logical, binary_value, place_at, field_place, element_place, module_variable, frame_variable, whole_place, retrieved, node_operand, operand}
use Rattle.machine.proofs.Memories.{length_words}
use Rattle.machine.proofs.Outcomes.{g_test, g_need, g_where, g_pick, g_place, g_value, g_typed, g_word, g_record, g_array}
use Rattle.machine.specs.Layout.{locations}
use Rattle.machine.proofs.Courses.{operand_is}
use Rattle.sound.specs.Conditions.{Gives, a_value, a_text}

-- the words of the page where device locations stand
position_most : (z : ℤ) → is_device z ≡ true → position_of z ≤ 8190
unfolding is_device position_of between_z
position_most (pos n) e = no_true (both_r _ _ (both_r _ _ e))
position_most (negsuc n) e =
    let h = both_r _ _ e in
    let l = leb-true n 8191 (both_l _ _ h) in
    let u = leb-true 1 n (both_r _ _ h) in
    rw (le-ltb 8192 (suc n) (omega arith)) (omega arith)

pub device-word : (w : ℕ) → is_device (int_of w) ≡ true → device_word w < 4096
unfolding device_word
device-word w e = let h = position_most (int_of w) e in omega arith

module _ (T : Table) (m page : Memory) (x : Context) where
  data Fine : Outcome Operand → Type 0 where
    selects : {a τ : ℕ} → fits T a τ ≡ true → Fine (ok (place a τ))
    yields : {τ : ℕ} {ws : List ℕ} → length ws ≡ words_of T τ → Fine (ok (value τ ws))
    spells : {ws : List ℕ} → Fine (ok (text ws))
    fails : {n : ℕ} → Fine (fail n)
    none : Fine stuck

  fine_simple : (τ w : ℕ) → τ < 3 → Fine (one_word τ w)
  unfolding one_word
  fine_simple τ w h = yields (sym (words_standard T τ h))

  fine_truth : (b : Bool) → Fine (truth b)
  unfolding truth
  fine_truth b = fine_simple 1 _ (omega arith)

  fine_given : (τ : ℕ) (o : words.WordOutcome) → τ < 3 → Fine (given τ o)
  unfolding given
  fine_given τ (words.word w) h = fine_simple τ w h
  fine_given τ (words.fail n) h = fails

  fine_place : (a τ : ℕ) → Fine (place_at T a τ)
  unfolding place_at
  fine_place a τ = g_test Fine none _ _ selects

  fine_unary : (o : Unary) (τ w : ℕ) → Fine (unary_value page o τ w)
  unfolding unary_value
  fine_unary minus τ w = g_need Fine none _ _ (fine_given 0 _ (omega arith))
  fine_unary not τ w = g_pick Fine none (eqb τ 0) _ _ (λ e. fine_simple 0 _ (omega arith)) (λ e. g_need Fine none _ _ (fine_simple 1 _ (omega arith)))
  fine_unary val τ w = g_need Fine none _ _ (g_where Fine none _ 21 _ (λ e. fails) (λ e. fine_simple 0 _ (omega arith)))
  fine_unary no_unary τ w = none

  fine_logical : (τ σ i b : ℕ) → Fine (logical τ σ i b)
  unfolding logical
  fine_logical τ σ i b =
      g_need Fine none _ _
      (g_pick Fine none (eqb τ 0) _ _ (λ e. fine_simple 0 i (omega arith)) (λ e. g_need Fine none _ _ (fine_simple 1 b (omega arith))))

  fine_binary : (o : Binary) (τ : NodeType) (us : List ℕ) (σ : NodeType) (vs : List ℕ) → Fine (binary_value T o τ us σ vs)
  unfolding binary_value ordered integral
  fine_binary equal τ us σ vs = g_need Fine none _ _ (fine_truth _)
  fine_binary not_equal τ us σ vs = g_need Fine none _ _ (fine_truth _)
  fine_binary less τ us σ vs = g_need Fine none _ _ (fine_truth _)
  fine_binary not_greater τ us σ vs = g_need Fine none _ _ (fine_truth _)
  fine_binary greater τ us σ vs = g_need Fine none _ _ (fine_truth _)
  fine_binary not_less τ us σ vs = g_need Fine none _ _ (fine_truth _)
  fine_binary add τ us σ vs = g_need Fine none _ _ (fine_given 0 _ (omega arith))
  fine_binary subtract τ us σ vs = g_need Fine none _ _ (fine_given 0 _ (omega arith))
  fine_binary multiply τ us σ vs = g_need Fine none _ _ (fine_given 0 _ (omega arith))
  fine_binary divide τ us σ vs = g_need Fine none _ _ (fine_given 0 _ (omega arith))
  fine_binary modulus τ us σ vs = g_need Fine none _ _ (fine_given 0 _ (omega arith))
  fine_binary and τ us σ vs = fine_logical _ _ _ _
  fine_binary or τ us σ vs = fine_logical _ _ _ _
  fine_binary no_binary τ us σ vs = none

  fine_right : (o : Binary) (τ : NodeType) (us : List ℕ) (u : Outcome Operand) → Fine (on_typed u λ σ vs. binary_value T o τ us σ vs)
  fine_right o τ us u = g_typed Fine none u _ (λ f e. fails) (λ σ vs e. fine_binary o τ us (numbered σ) vs) (λ vs e. fine_binary o τ us (NodeType.string (length vs)) vs)

  fine_whole : (v : ℕ) → Fine (whole_place T m page x v)
  unfolding whole_place module_variable frame_variable
  fine_whole v =
      g_need Fine none _ _
      (g_pick Fine none (belongs T (owner T x.block) v)
      (module_variable T m page x (offset_of T (owner T x.block) v) (var_type T v))
      (need (belongs T x.block v) (frame_variable T m page x (x.frame + 4 + offset_of T x.block v) (var_mode T v) (var_type T v)))
      (λ e. g_need Fine none _ _ (fine_place _ _))
      (λ e. g_need Fine none _ _ (g_need Fine none _ _ (fine_place _ _))))

  fine_node : (r : ℕ → Outcome Operand) (N : Node) → Fine (node_operand T m page x r N)
  unfolding node_operand field_place element_place retrieved
  fine_node r (constant τ v) = g_test Fine none _ _ (λ e. fine_simple τ v (ltb-true τ 3 e))
  fine_node r (whole v) = fine_whole v
  fine_node r (field a i) = g_place Fine none (r a) _ (λ f e. fails) (λ l τ e. g_record Fine none _ _ (λ first count. g_need Fine none _ _ (fine_place _ _)))
  fine_node r (element a k) =
      g_place Fine none (r a) _ (λ f e. fails)
      (λ l τ e. g_array Fine none _ _ (λ ι σ low high t. g_word Fine none (r k) ι _ (λ f q. fails) (λ ρ ws q. g_where Fine none _ 18 _ (λ h. fails) (λ h. fine_place _ _))))
  fine_node r (retrieve a) = g_place Fine none (r a) _ (λ f e. fails) (λ l τ e. g_where Fine none _ 31 _ (λ h. fails) (λ h. yields (length_words m l _)))
  fine_node r (unary o a) = g_value Fine none (r a) _ (λ f e. fails) (λ τ us e. fine_unary o τ _)
  fine_node r (binary o a b) = g_typed Fine none (r a) _ (λ f e. fails) (λ τ us e. fine_right o (numbered τ) us (r b)) (λ us e. fine_right o (NodeType.string (length us)) us (r b))
  fine_node r (transfer a τ) = g_value Fine none (r a) _ (λ f e. fails) (λ σ us e. g_test Fine none _ _ (λ h. fine_given τ _ (ltb-true τ 3 (both_r _ _ h))))
  fine_node r (string p q) = spells
  fine_node r no_node = none

  fine_operand : (n : ℕ) → Fine (operand T m page x n)
  fine_operand n = rw (operand_is T m page x n) (fine_node _ _)

  pub place_fits : (n a τ : ℕ) → operand T m page x n ≡ ok (place a τ) → fits T a τ ≡ true
  place_fits n a τ e = go _ (fine_operand n) e
    where
      go : (o : Outcome Operand) → Fine o → o ≡ ok (place a τ) → fits T a τ ≡ true
      go _ (selects {a = b} {τ = σ} h) q = let y : b ≡ a = cc in let z : σ ≡ τ = cc in rw (y, z) at h
      go _ (yields h) q = let y : ◌≡◌ {A = ℕ} 0 1 = cc in absurd (omega arith)
      go _ spells q = let y : ◌≡◌ {A = ℕ} 0 1 = cc in absurd (omega arith)
      go _ fails q = let y : ◌≡◌ {A = ℕ} 0 1 = cc in absurd (omega arith)
      go _ none q = let y : ◌≡◌ {A = ℕ} 0 1 = cc in absurd (omega arith)

  pub place_area : (n a τ : ℕ) → operand T m page x n ≡ ok (place a τ) → a < locations
  unfolding fits
  place_area n a τ e = ltb-true _ _ (both_l _ _ (place_fits n a τ e))

  pub value_long : (n τ : ℕ) (ws : List ℕ) → operand T m page x n ≡ ok (value τ ws) → length ws ≡ words_of T τ
  value_long n τ ws e = go _ (fine_operand n) e
    where
      go : (o : Outcome Operand) → Fine o → o ≡ ok (value τ ws) → length ws ≡ words_of T τ
      go _ (selects h) q = let y : ◌≡◌ {A = ℕ} 0 1 = cc in absurd (omega arith)
      go _ (yields {τ = σ} {ws = us} h) q = let y : us ≡ ws = cc in let z : σ ≡ τ = cc in rw (y, z) at h
      go _ spells q = let y : ◌≡◌ {A = ℕ} 0 1 = cc in absurd (omega arith)
      go _ fails q = let y : ◌≡◌ {A = ℕ} 0 1 = cc in absurd (omega arith)
      go _ none q = let y : ◌≡◌ {A = ℕ} 0 1 = cc in absurd (omega arith)

  -- what is given has the words of its type
  pub gives_long : (n : ℕ) (κ : NodeType) (ws : List ℕ) → Gives T m page x n κ ws → length ws ≡ words_in T κ
  unfolding words_in
  gives_long n _ ws (a_value {τ = τ} e) = value_long n τ ws e
  gives_long n _ ws (a_text e) = refl
