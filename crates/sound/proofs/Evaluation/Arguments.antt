-- Evaluation: the arguments of a call come to the words of its parameters, one after the other, or to a listed failure. Assumes nothing.
use Prim.Native.Nat.{ℕ, zero, suc, ◌+◌, ◌-◌, ◌≤◌, ◌<◌}
use mathlib.Core.Path.{◌≡◌, refl, sym, ap, ◌∙◌}
use mathlib.Core.Bool.{true}
use mathlib.Core.List.{List, [], ◌∷◌, ◌++◌}
use native.Mathlib.Omega.{arith}
use native.Mathlib.Nat.{not-suc-le-zero, add-zero}
use lib.ListN.{length, get_or, length-append, get_or-append}
use lib.Seq.{get_or-append-add}
use lib.Dec.{eqb, ltb}
use borrow.Author.Tests.{eqb-true, eqb-false, ltb-true, ltb-false, lt-ltb, eq-eqb}
use Rattle.basics.specs.Choice.{both}
use Rattle.basics.specs.Cases.{cases}
use Rattle.basics.proofs.Bools.{no_true, both_l, both_i}
use Rattle.table.specs.Table.{Table}
use Rattle.table.specs.Entries.{var_count, block_count, arg_count, var_mode, var_type, first_var, params, vars, arg_node}
use Rattle.types.specs.Types.{type_of, NodeType, numbered, type_of_node}
use Rattle.types.specs.Match.{Match, equal, fitted, unfit, matching, is_equal, is_fit}
use Rattle.numbers.proofs.BlockPromise.{params_vars, vars_there, mode_parameter}
use Rattle.numbers.proofs.OperandPromise.{arg-node}
use Rattle.typing.proofs.Promise.{Suits, Arguments}
use Rattle.sizes.specs.Sizes.{words_of, sum_below}
use Rattle.sizes.proofs.Sums.{sum_up}
use Rattle.machine.specs.Memory.{Memory, words_at}
use Rattle.machine.specs.Layout.{status_at, created_at, locations}
use Rattle.machine.specs.Texts.{fit}
use Rattle.machine.specs.Outcomes.{Outcome, ok, fail, and_then, is_failure}
use Rattle.machine.specs.Variables.{var_words, first_words, frame_words, fits}
use Rattle.machine.specs.Values.{holds}
use Rattle.machine.specs.Context.{context_of, block_of}
use Rattle.machine.specs.Operands.{operand}
use Rattle.machine.specs.Calls.{passed, value_argument, var_argument, argument, argument_words, arguments}
use Rattle.verdict.specs.Accepted.{Accepted}
use Rattle.sound.specs.Claims.{Keeps, IsValue, Words, PlaceLaws}
use Rattle.sound.specs.Answers.{Small}
use Rattle.sound.specs.Ruled.{Ruled}
use Rattle.sound.specs.Reached.{WordTable}
use Rattle.sound.specs.Evaluated.{SmallWords, Live, GoodNode, Scoping, ParameterWords, unbound, by_value, by_place, GoodArguments, the_words, no_words}
use Rattle.sound.proofs.Evaluation.OutcomeLaws.{text_small, on_need, on-place, on-typed}
use Rattle.sound.proofs.Evaluation.Nodes.{node_good}
use Rattle.sound.proofs.Values.BlockVariables.{words_value, words_var}
use Rattle.sound.proofs.Values.Strings.{equal_value, fitted_text, fitted_value}

-- ---- the words of parameters

-- the words of k variables from v on
abbrev pub words_from : Table → ℕ → ℕ → ℕ
words_from T v k = sum_below k (λ i. var_words T (v + i))

sum_first : (f g : ℕ → ℕ) (k : ℕ) → ((i : ℕ) → f (suc i) ≡ g i) → sum_below (suc k) f ≡ f 0 + sum_below k g
unfolding sum_below
sum_first f g zero h = omega arith
sum_first f g (suc k) h = let a = sum_first f g k h in let b = h k in omega arith

pub words_first : (T : Table) (v k : ℕ) → words_from T v (suc k) ≡ var_words T v + words_from T (v + 1) k
words_first T v k =
    let e = sum_first (λ i. var_words T (v + i)) (λ i. var_words T (v + 1 + i)) k (λ i. ap (var_words T) (omega arith)) in
    rw add-zero at e

module _ (T : Table) (m : Memory) (p : ℕ) where
  pub bound_length : (k v : ℕ) (ws : List ℕ) → ParameterWords T m p k v ws → length ws ≡ words_from T v k
  unfolding sum_below
  bound_length _ v _ unbound = refl
  bound_length _ v _ (by_value {k} us {ws} n u s b) =
      let a = bound_length k (v + 1) ws b in
      let c = u.long in
      let d = words_value T v n in
      let e = words_first T v k in
      let f = length-append us ws in
      omega arith
  bound_length _ v _ (by_place {k} a {ws} n u b) =
      let c = bound_length k (v + 1) ws b in
      let d = words_var T v n in
      let e = words_first T v k in
      omega arith

-- a list that stands at a in n
pub record Stands (n : Memory) (a : ℕ) (ws : List ℕ) : Type 0 where
  pub at : (j : ℕ) → j < length ws → n (a + j) ≡ get_or ws j 0

pub stands_words : (us : List ℕ) (n : Memory) (a : ℕ) → Stands n a us → words_at n a (length us) ≡ us
unfolding words_at
stands_words [] n a h = refl
stands_words (u ∷ us) n a h =
    let x : n a ≡ u = rw add-zero at (h.at 0 (omega arith)) in
    let y = stands_words us n (a + 1) (record { at = λ j l. let z : a + 1 + j ≡ a + suc j = omega arith in rw z (h.at (suc j) (omega arith)) }) in
    rw (x, y)

module _ (n : Memory) (a : ℕ) (us ws : List ℕ) (h : Stands n a (us ++ ws)) where
  pub stands_front : Stands n a us
  stands_front = record { at = λ j l. let z = length-append us ws in h.at j (omega arith) ∙ get_or-append us ws 0 j l }

  pub stands_back : Stands n (a + length us) ws
  stands_back =
      record {
        at = λ j l.
            let z = length-append us ws in
            let y : a + length us + j ≡ a + (length us + j) = omega arith in
            rw y (h.at (length us + j) (omega arith) ∙ get_or-append-add us ws j 0);
      }

pub small_append : (us ws : List ℕ) → SmallWords us → SmallWords ws → SmallWords (us ++ ws)
small_append us ws a b =
    record {
      words = λ i.
          cases (ltb i (length us))
          (λ e. rw (get_or-append us ws 0 i (ltb-true i (length us) e)) (a.words i))
          (λ e.
          let l = ltb-false i (length us) e in
          let z : length us + (i - length us) ≡ i = omega arith in
          let y : get_or (us ++ ws) i 0 ≡ get_or ws (i - length us) 0 = rw z at (get_or-append-add us ws (i - length us) 0) in
          rw y (b.words (i - length us)));
    }

pub small_cons : (w : ℕ) (ws : List ℕ) → w < 65536 → SmallWords ws → SmallWords (w ∷ ws)
small_cons w ws a b = record { words = go }
  where
    go : (i : ℕ) → get_or (w ∷ ws) i 0 < 65536
    go zero = a
    go (suc i) = b.words i

module _ (T : Table) (m : Memory) (p : ℕ) where
  location_small : (τ a : ℕ) → Live T m p τ a → a < locations
  unfolding fits
  location_small τ a l = ltb-true a locations (both_l _ _ l.inside)

  pub bound_small : (k v : ℕ) (ws : List ℕ) → ParameterWords T m p k v ws → SmallWords ws
  bound_small _ v _ unbound = record { words = λ i. omega arith }
  bound_small _ v _ (by_value {k} us {ws} n u s b) = small_append us ws s (bound_small k (v + 1) ws b)
  bound_small _ v _ (by_place {k} a {ws} n u b) = let l = location_small (var_type T v) a u in small_cons a ws (omega arith) (bound_small k (v + 1) ws b)

  -- where the words of the arguments stand in n, each value parameter holds a value of its type
  module _ (n : Memory) (keeps : Keeps m n) where
    first_value : (v a : ℕ) (us : List ℕ) → IsValue T m (var_type T v) us → Stands n a us → holds T n (var_type T v) a ≡ true
    first_value v a us u h = let e = u.long in u.anywhere n a keeps (rw (← e) (stands_words us n a h))

    pub bound_value : (k v a i : ℕ) (ws : List ℕ) → ParameterWords T m p k v ws → Stands n a ws → i < k → (var_mode T (v + i) ≡ 2 → ⊥) → holds T n (var_type T (v + i)) (a + words_from T v i) ≡ true
    unfolding sum_below
    bound_value _ v a i _ unbound h l e = absurd (not-suc-le-zero l)
    bound_value _ v a zero _ (by_value {k} us {ws} c u s b) h l e = rw (add-zero v, add-zero a) (first_value v a us u (stands_front n a us ws h))
    bound_value _ v a (suc i) _ (by_value {k} us {ws} c u s b) h l e =
        let x : v + suc i ≡ v + 1 + i = omega arith in
        let y = words_first T v i in
        let z = u.long in
        let w = words_value T v c in
        let q : a + words_from T v (suc i) ≡ a + length us + words_from T (v + 1) i = omega arith in
        rw (x, q) (bound_value k (v + 1) (a + length us) i ws b (stands_back n a us ws h) (omega arith) (rw x at e))
    bound_value _ v a zero _ (by_place {k} j {ws} c u b) h l e = absurd (e (rw add-zero c))
    bound_value _ v a (suc i) _ (by_place {k} j {ws} c u b) h l e =
        let x : v + suc i ≡ v + 1 + i = omega arith in
        let y = words_first T v i in
        let w = words_var T v c in
        let q : a + words_from T v (suc i) ≡ a + 1 + words_from T (v + 1) i = omega arith in
        rw (x, q) (bound_value k (v + 1) (a + 1) i ws b (stands_back n a (j ∷ []) ws h) (omega arith) (rw x at e))

  -- and each var parameter the location of a live variable of its type
  pub bound_place : (n : Memory) (k v a i : ℕ) (ws : List ℕ) → ParameterWords T m p k v ws → Stands n a ws → i < k → var_mode T (v + i) ≡ 2 → Live T m p (var_type T (v + i)) (n (a + words_from T v i))
  unfolding sum_below
  bound_place n _ v a i _ unbound h l e = absurd (not-suc-le-zero l)
  bound_place n _ v a zero _ (by_value {k} us {ws} c u s b) h l e = absurd (c (rw add-zero at e))
  bound_place n _ v a (suc i) _ (by_value {k} us {ws} c u s b) h l e =
      let x : v + suc i ≡ v + 1 + i = omega arith in
      let y = words_first T v i in
      let z = u.long in
      let w = words_value T v c in
      let q : a + words_from T v (suc i) ≡ a + length us + words_from T (v + 1) i = omega arith in
      rw (x, q) (bound_place n k (v + 1) (a + length us) i ws b (stands_back n a us ws h) (omega arith) (rw x at e))
  bound_place n _ v a zero _ (by_place {k} j {ws} c u b) h l e =
      let x : n (a + 0) ≡ j = h.at 0 (omega arith) in rw (x, add-zero v) u
  bound_place n _ v a (suc i) _ (by_place {k} j {ws} c u b) h l e =
      let x : v + suc i ≡ v + 1 + i = omega arith in
      let y = words_first T v i in
      let w = words_var T v c in
      let q : a + words_from T v (suc i) ≡ a + 1 + words_from T (v + 1) i = omega arith in
      rw (x, q) (bound_place n k (v + 1) (a + 1) i ws b (stands_back n a (j ∷ []) ws h) (omega arith) (rw x at e))

-- the parameters of block q: their words begin its frame
module _ (T : Table) (acc : Accepted T) (m : Memory) (p q : ℕ) (there : q < block_count T) (ws : List ℕ) (b : ParameterWords T m p (params T q) (first_var T q) ws) where
  pub arguments_fit : length ws ≤ frame_words T q
  unfolding frame_words first_words
  arguments_fit =
      let e = bound_length T m p (params T q) (first_var T q) ws b in
      let f = sum_up (λ i. var_words T (first_var T q + i)) (params T q) (vars T q) (params_vars T acc.numbers q there) in
      omega arith

-- ---- evaluation

-- what one argument comes to: a value of the parameter's type, or the location of a live variable of it
data GoodArgument (T : Table) (m : Memory) (p v : ℕ) : Outcome (List ℕ) → Type 0 where
  for_value : (us : List ℕ) → (var_mode T v ≡ 2 → ⊥) → IsValue T m (var_type T v) us → SmallWords us → GoodArgument T m p v (ok us)
  for_place : (a : ℕ) → var_mode T v ≡ 2 → Live T m p (var_type T v) a → GoodArgument T m p v (ok (a ∷ []))
  for_none : (n : ℕ) → is_failure n ≡ true → GoodArgument T m p v (fail n)

-- the argument i suits the parameter v
pub record Passes (T : Table) (scope : ℕ → Type 0) (v i : ℕ) : Type 0 where
  pub parameter : v < var_count T
  pub number : i < arg_count T
  pub low : 1 ≤ var_mode T v
  pub high : var_mode T v ≤ 2
  pub suits : Suits T v (arg_node T i)
  pub scoped : scope (arg_node T i)

module _ (T : Table) (acc : Accepted T) (L : PlaceLaws T) (W : WordTable T) (m : Memory) (R : Ruled T m) (ms : Small m) (page : Memory) (ps : Small page) (p : ℕ) (some : 1 ≤ p) (made : p ≤ m created_at) (s : m (status_at p) ≡ 2)
    (scope : ℕ → Type 0) (S : Scoping T (block_of m p) scope) where
  argument_node : (v i : ℕ) → Passes T scope v i → GoodNode T m p (arg_node T i) (operand T m page (context_of m p) (arg_node T i))
  argument_node v i h = node_good T acc L W m R ms page ps p some made s scope S (arg_node T i) (arg-node T acc.numbers i h.number) h.scoped

  -- a value is passed as it is, or filled or cut to the parameter's words
  passed_good : (v : ℕ) (κ : NodeType) (us : List ℕ) → (var_mode T v ≡ 2 → ⊥) → is_fit (matching T κ (numbered (var_type T v))) ≡ true → Words T m κ us → SmallWords us
      → GoodArgument T m p v (passed (words_of T (var_type T v)) us (matching T κ (numbered (var_type T v))))
  unfolding passed is_fit is_equal
  passed_good v κ us n g u w = go (matching T κ (numbered (var_type T v))) refl g
    where
      go : (k : Match) → matching T κ (numbered (var_type T v)) ≡ k → is_fit k ≡ true → GoodArgument T m p v (passed (words_of T (var_type T v)) us k)
      go equal e f = for_value us n (equal_value T m κ us u (var_type T v) (rw e)) w
      go fitted e f =
          for_value (fit (words_of T (var_type T v)) us) n (fitted_value T m κ us u (var_type T v) (rw e) (rw e))
          (text_small _ (fit (words_of T (var_type T v)) us) (fitted_text T m κ us u (var_type T v) (rw e) (rw e)))
      go unfit e f = no_true f

  value-argument : (v i : ℕ) → Passes T scope v i → (var_mode T v ≡ 2 → ⊥) → GoodArgument T m p v (value_argument T m page (context_of m p) (var_type T v) (operand T m page (context_of m p) (arg_node T i)))
  unfolding value_argument
  value-argument v i h n =
      let g = h.suits.expression n in
      on-typed (GoodArgument T m p v) for_none T m (type_of_node T (arg_node T i)) (operand T m page (context_of m p) (arg_node T i)) _
      ((argument_node v i h).expression g.1)
      (λ us u w. passed_good v (type_of_node T (arg_node T i)) us n (h.suits.fit n) u w)

  var-argument : (v i : ℕ) → Passes T scope v i → var_mode T v ≡ 2 → GoodArgument T m p v (var_argument T m page (context_of m p) (var_type T v) (operand T m page (context_of m p) (arg_node T i)))
  unfolding var_argument
  var-argument v i h e =
      let g = h.suits.variable e in
      let t = h.suits.same e in
      on-place (GoodArgument T m p v) for_none T m p (type_of T (arg_node T i)) (operand T m page (context_of m p) (arg_node T i)) _
      ((argument_node v i h).variable g.0 g.1)
      (λ a l. on_need (GoodArgument T m p v) for_none (eqb (var_type T v) (type_of T (arg_node T i))) _ (eq-eqb (var_type T v) (type_of T (arg_node T i)) (sym t)) (for_place a e (rw t at l)))

  argument_good : (v i : ℕ) → Passes T scope v i → GoodArgument T m p v (argument T m page (context_of m p) v i)
  unfolding argument
  argument_good v i h =
      on_need (GoodArgument T m p v) for_none (both (ltb v (var_count T)) (ltb i (arg_count T))) _ (both_i _ _ (lt-ltb v (var_count T) h.parameter) (lt-ltb i (arg_count T) h.number))
      (cases (eqb (var_mode T v) 1)
      (λ e. let z = eqb-true (var_mode T v) 1 e in rw e (value-argument v i h (λ q. omega arith)))
      (λ e.
      let z = eqb-false (var_mode T v) 1 e in
      let a = h.low in
      let b = h.high in
      let y : var_mode T v ≡ 2 = omega arith in
      rw e (on_need (GoodArgument T m p v) for_none (eqb (var_mode T v) 2) _ (eq-eqb (var_mode T v) 2 y) (var-argument v i h y))))

  joined : (k v : ℕ) (o q : Outcome (List ℕ)) → GoodArgument T m p v o → GoodArguments T m p k (v + 1) q → GoodArguments T m p (suc k) v (and_then o λ us. and_then q λ vs. ok (us ++ vs))
  unfolding and_then
  joined k v _ _ (for_none n l) g = no_words n l
  joined k v _ _ (for_value us n u w) (the_words ws b) = the_words (us ++ ws) (by_value us n u w b)
  joined k v _ _ (for_value us n u w) (no_words j l) = no_words j l
  joined k v _ _ (for_place a e l) (the_words ws b) = the_words (a ∷ ws) (by_place a e l b)
  joined k v _ _ (for_place a e l) (no_words j g) = no_words j g

  words_good : (k v i : ℕ) → ((j : ℕ) → j < k → Passes T scope (v + j) (i + j)) → GoodArguments T m p k v (argument_words T m page (context_of m p) k v i)
  unfolding argument_words
  words_good zero v i h = the_words [] unbound
  words_good (suc k) v i h =
      joined k v (argument T m page (context_of m p) v i) (argument_words T m page (context_of m p) k (v + 1) (i + 1))
      (argument_good v i (let x = h 0 (omega arith) in rw (add-zero v, add-zero i) at x))
      (words_good k (v + 1) (i + 1) (λ j l.
      let a : v + 1 + j ≡ v + suc j = omega arith in
      let b : i + 1 + j ≡ i + suc j = omega arith in
      rw (a, b) (h (suc j) (omega arith))))

  -- THE ARGUMENTS of a call of block q, the d arguments from c on
  pub arguments_good : (q c d : ℕ) → q < block_count T → Arguments T q c d → c + d ≤ arg_count T → ((k : ℕ) → k < d → scope (arg_node T (c + k))) → GoodArguments T m p (params T q) (first_var T q) (arguments T m page (context_of m p) q c d)
  unfolding arguments
  arguments_good q c d there a room inside =
      let e = a.count in
      on_need (GoodArguments T m p (params T q) (first_var T q)) no_words (eqb d (params T q)) _ (eq-eqb d (params T q) e)
      (rw e (words_good (params T q) (first_var T q) c passes))
    where
      passes : (j : ℕ) → j < params T q → Passes T scope (first_var T q + j) (c + j)
      passes j l =
          let e = a.count in
          let v = vars_there T acc.numbers q there in
          let w = params_vars T acc.numbers q there in
          let g = mode_parameter T acc.numbers q there j l in
          record {
            parameter = omega arith;
            number = omega arith;
            low = g.0;
            high = g.1;
            suits = a.each j (omega arith);
            scoped = inside j (omega arith);
          }
