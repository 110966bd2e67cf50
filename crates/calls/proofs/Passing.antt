-- What an argument that is not stuck comes to. Assumes nothing.
use Prim.Native.Nat.{ℕ, ◌+◌, ◌<◌, ◌≤◌}
use mathlib.Core.Path.{◌≡◌, refl, sym, ap, subst, ◌∙◌}
use mathlib.Core.Bool.{Bool, true, false}
use mathlib.Core.List.{List, [], ◌∷◌}
use lib.ListN.{length}
use lib.Dec.{eqb, ltb}
use native.Mathlib.Omega.{arith}
use borrow.Author.Tests.{eqb-true, ltb-true}
use Rattle.std.specs.Prelude.{Result, Ok, Err}
use Rattle.basics.specs.Choice.{pick, both}
use Rattle.basics.specs.Cases.{cases}
use Rattle.basics.proofs.Bools.{both_l, both_r}
use Rattle.table.specs.Table.{Table}
use Rattle.table.specs.Entries.{var_count, arg_count, node_count, var_mode, var_type, arg_node, node_kind, node_p, node_q}
use Rattle.types.specs.Types.{type_of, numbered}
use Rattle.types.specs.Match.{matching, is_fit}
use Rattle.types.proofs.Matching.{numbered_type}
use Rattle.sizes.specs.Sizes.{words_of}
use Rattle.numbers.proofs.TypePromise.{var-type}
use Rattle.numbers.proofs.OperandPromise.{arg-node}
use Rattle.words.specs.Outcomes as words
use Rattle.words.specs.Values.{failure_number, outcome_of}
use Rattle.words.specs.declared.values.Failure.{Failure}
use Rattle.machine.specs.Memory.{Memory, memory_of, words_at}
use Rattle.machine.specs.Texts.{fit, text_at}
use Rattle.machine.specs.Outcomes.{Outcome, ok, fail, stuck, and_then, need, Operand, place, value, text, placed, typed_words, on_place, on_typed, word_of}
use Rattle.machine.specs.Context as machine
use Rattle.machine.specs.Operands.{operand}
use Rattle.machine.specs.Calls.{value_argument, var_argument, argument}
use Rattle.machine.specs.Layout.{locations}
use Rattle.machine.proofs.TextLaws.{fit_same}
use Rattle.code.specs.Code.{decoded}
use Rattle.operands.specs.declared.Context.{Context}
use Rattle.operands.specs.Answers.{selected, first_word, single, Unstuck, goes, fails, OneWord, Retrieval, Retrieved}
use Rattle.operands.specs.Ready.{context_in, Ready, Sized, Valued, Counted}
use Rattle.operands.proofs.Lending.{expression_valued, expression_counted}
use Rattle.operands.proofs.Nodes.{is_string}
use Rattle.operands.proofs.OneWords.{one_true}
use Rattle.operands.proofs.Typed.{OfType, a_place, a_value, a_failure, a_stuck, typed_variable, typed_expression}
use Rattle.operands.proofs.Yielding.{place_fits, failed}
use Rattle.operands.proofs.Yielding as yielding
use Rattle.operands.proofs.Selecting.{out, Sel, fits_low, fits_high}
use Rattle.operands.proofs.Evaluating.{Ev, only_retrieval, got_failed, got_fits, got_value}
use Rattle.engine.specs.Making.{HasRow}
use Rattle.evaluation.specs.Acting.{Rowed}
use Rattle.evaluation.proofs.Roots.{arg_rowed}
use Rattle.calls.specs.Gathering.{Appended, Added, Adds, value_of, place_of, Valuable, Passable, Bindable, Passing}
use Rattle.calls.proofs.Fitting.{text_passed, value_passed, fit-one}

-- ---- outcomes that are not stuck

pub need_through : {A : Type 0} (b : Bool) (o : Outcome A) → (need b o ≡ stuck → ⊥) → b ≡ true
unfolding need
need_through true o g = refl
need_through false o g = absurd (g refl)

pub need_is : {A : Type 0} (b : Bool) (o : Outcome A) → (need b o ≡ stuck → ⊥) → need b o ≡ o
unfolding need
need_is true o g = refl
need_is false o g = absurd (g refl)

pub kept : {A : Type 0} (o p : Outcome A) → o ≡ p → (o ≡ stuck → ⊥) → p ≡ stuck → ⊥
kept o p e g h = g (e ∙ h)

value_goes : (k : ℕ) (o : Outcome Operand) → (value_of k o ≡ stuck → ⊥) → Unstuck o
unfolding value_of on_typed and_then
value_goes k (ok x) g = goes
value_goes k (fail e) g = fails
value_goes k stuck g = absurd (g refl)

place_goes : (o : Outcome Operand) → (place_of o ≡ stuck → ⊥) → Unstuck o
unfolding place_of on_place and_then
place_goes (ok x) g = goes
place_goes (fail k) g = fails
place_goes stuck g = absurd (g refl)

value_failed : (k : ℕ) (o : Outcome Operand) (e : ℕ) → o ≡ fail e → value_of k o ≡ fail e
unfolding value_of on_typed and_then
value_failed k o e d = rw d

value_given : (k : ℕ) (o : Outcome Operand) (τ : ℕ) (ws : List ℕ) → o ≡ ok (value τ ws) → value_of k o ≡ ok (fit k ws)
unfolding value_of on_typed and_then typed_words
value_given k o τ ws e = rw e

place_failed : (o : Outcome Operand) (k : ℕ) → o ≡ fail k → place_of o ≡ fail k
unfolding place_of on_place and_then
place_failed o k e = rw e

place_given : (o : Outcome Operand) (a τ : ℕ) → o ≡ ok (place a τ) → place_of o ≡ ok (a ∷ [])
unfolding place_of on_place and_then placed
place_given o a τ e = rw e

no_word : {A : Type 0} (w : ℕ) (k : ℕ) → words.word w ≡ words.fail k → A
no_word w k e = let q : ◌≡◌ {A = ℕ} 0 1 = cc in absurd (omega arith)

one_word : (us : List ℕ) (w : ℕ) → length us ≡ 1 → words.word w ≡ words.word (word_of us) → us ≡ w ∷ []
one_word us w l e = let d : word_of us ≡ w = cc in rw d at (yielding.single us l)

-- a value of one word
value_word : (T : Table) (τ : ℕ) (o : Outcome Operand) (w : ℕ) → (value_of 1 o ≡ stuck → ⊥) → OfType T τ o → words_of T τ ≡ 1
    → words.word w ≡ first_word o → value_of 1 o ≡ ok (w ∷ [])
unfolding value_of on_typed and_then typed_words first_word
value_word T τ (ok (place a σ)) w g (a_place h) l e = absurd (g refl)
value_word T τ (ok (value σ ws)) w g (a_value h) l e = ap ok (fit_same 1 ws (h ∙ l) ∙ one_word ws w (h ∙ l) e)
value_word T τ (fail k) w g a_failure l e = no_word w k e
value_word T τ stuck w g a_stuck l e = absurd (g refl)
value_word T τ (ok (text _)) w g f l e = elim f [ ]

-- ---- the argument by its parameter's mode

value-is : (T : Table) (τ σ : ℕ) (m page : Memory) (x : machine.Context) (o : Outcome Operand) → OfType T σ o
    → (value_argument T m page x τ o ≡ stuck → ⊥) → value_argument T m page x τ o ≡ value_of (words_of T τ) o
unfolding value_argument value_of on_typed and_then typed_words
value-is T τ σ m page x (ok (place a ρ)) (a_place h) g = absurd (g refl)
value-is T τ σ m page x (ok (value ρ ws)) (a_value h) g = value_passed T τ ρ ws h g
value-is T τ σ m page x (fail k) a_failure g = refl
value-is T τ σ m page x stuck a_stuck g = absurd (g refl)
value-is T τ σ m page x (ok (text _)) f g = elim f [ ]

text_is : (T : Table) (τ : ℕ) (m page : Memory) (x : machine.Context) (ws : List ℕ)
    → (value_argument T m page x τ (ok (text ws)) ≡ stuck → ⊥) → value_argument T m page x τ (ok (text ws)) ≡ ok (fit (words_of T τ) ws)
unfolding value_argument on_typed and_then typed_words
text_is T τ m page x ws g = text_passed T τ ws g

var_is : (T : Table) (τ : ℕ) (m page : Memory) (x : machine.Context) (o : Outcome Operand)
    → (var_argument T m page x τ o ≡ stuck → ⊥) → var_argument T m page x τ o ≡ place_of o
unfolding var_argument place_of on_place and_then placed
var_is T τ m page x (ok (place a σ)) g = need_is (eqb τ σ) (ok (a ∷ [])) g
var_is T τ m page x (ok (value σ ws)) g = absurd (g refl)
var_is T τ m page x (ok (text ws)) g = absurd (g refl)
var_is T τ m page x (fail k) g = refl
var_is T τ m page x stuck g = absurd (g refl)

module _ (T : Table) (m page : Memory) (x : machine.Context) (v i : ℕ) (g : argument T m page x v i ≡ stuck → ⊥) where
  abbrev by_mode : Outcome (List ℕ)
  by_mode =
      pick (eqb (var_mode T v) 1) (value_argument T m page x (var_type T v) (operand T m page x (arg_node T i)))
      (need (eqb (var_mode T v) 2) (var_argument T m page x (var_type T v) (operand T m page x (arg_node T i))))

  mode_is : argument T m page x v i ≡ by_mode
  unfolding argument
  mode_is = need_is (both (ltb v (var_count T)) (ltb i (arg_count T))) by_mode g

  numbers_there : both (ltb v (var_count T)) (ltb i (arg_count T)) ≡ true
  unfolding argument
  numbers_there = need_through (both (ltb v (var_count T)) (ltb i (arg_count T))) by_mode g

  pub argument_there : i < arg_count T
  argument_there = ltb-true i (arg_count T) (both_r (ltb v (var_count T)) _ numbers_there)

  pub parameter_there : v < var_count T
  parameter_there = ltb-true v (var_count T) (both_l _ _ numbers_there)

  pub argument_var : var_mode T v ≡ 2 → argument T m page x v i ≡ place_of (operand T m page x (arg_node T i))
  unfolding need
  argument_var e =
      let d : argument T m page x v i ≡ var_argument T m page x (var_type T v) (operand T m page x (arg_node T i)) = mode_is ∙ rw e in
      d ∙ var_is T (var_type T v) m page x _ (kept _ _ d g)

  value_mode : (var_mode T v ≡ 2 → ⊥) → eqb (var_mode T v) 1 ≡ true
  value_mode n =
      cases (eqb (var_mode T v) 1)
      (λ e. e)
      (λ e.
      let d : argument T m page x v i ≡ need (eqb (var_mode T v) 2) (var_argument T m page x (var_type T v) (operand T m page x (arg_node T i))) = mode_is ∙ rw e in
      absurd (n (eqb-true (var_mode T v) 2 (need_through _ _ (kept _ _ d g)))))

  pub argument_value : (var_mode T v ≡ 2 → ⊥) → argument T m page x v i ≡ value_argument T m page x (var_type T v) (operand T m page x (arg_node T i))
  argument_value n = mode_is ∙ rw (value_mode n)

-- ---- the laws of the code

module _ (t m p : List ℕ) (x : Context) (h : Ready t m p x) where
  -- `word_argument`
  module _ (n k : ℕ) (c : Valuable (decoded t) (memory_of m) (memory_of p) (context_in x) n k) where
    pub word_evaluable : Ev t m p x n
    word_evaluable = record { expression = c.expression; unstuck = value_goes k (out t m p x n) c.unstuck }

  module _ (n : ℕ) (c : Valuable (decoded t) (memory_of m) (memory_of p) (context_in x) n 1) (o : OneWord (decoded t) n) where
    module _ (v : Result ℕ Failure) (hv : outcome_of v ≡ first_word (out t m p x n)) where
      pub word_fails : (e : Failure) → v ≡ Err e → value_of 1 (out t m p x n) ≡ fail (failure_number e)
      word_fails e g = value_failed 1 (out t m p x n) (failure_number e) (failed _ _ (rw g at hv))

      pub word_returns : (l : List ℕ) (count : ℕ) (k : List ℕ) (w r : ℕ) → v ≡ Ok w → Appended l count (w ∷ []) k r
          → Added l count k r (value_of 1 (out t m p x n))
      word_returns l count k w r g a =
          record {
            words = w ∷ [];
            is = value_word (decoded t) (type_of (decoded t) n) (out t m p x n) w c.unstuck
                (typed_expression (decoded t) (memory_of m) (memory_of p) (context_in x) h.ranged n c.expression o.numbered)
                o.is (rw g at hv);
            put = a;
          }

  -- `copied_argument`
  module _ (n k : ℕ) (c : Valuable (decoded t) (memory_of m) (memory_of p) (context_in x) n k) (k4 : node_kind (decoded t) n ≡ 4) where
    pub copy_valued : Valued t n
    copy_valued = expression_valued t m p x h n c.expression (λ e. omega arith)

    pub copy_retrieval : Retrieval (decoded t) (memory_of m) (memory_of p) (context_in x) n
    copy_retrieval = record { evaluable = word_evaluable n k c; kind = k4 }

    module _ (b : Result ℕ Failure) (hb : Retrieved (decoded t) (memory_of m) (memory_of p) (context_in x) n b) where
      pub copy_fails : (e : Failure) → b ≡ Err e → value_of k (out t m p x n) ≡ fail (failure_number e)
      copy_fails e g = value_failed k (out t m p x n) (failure_number e) (got_failed t m p x h n copy_retrieval b hb e g)

      module _ (i w : ℕ) (hi : b ≡ Ok i) (hw : w ≡ words_of (decoded t) (type_of (decoded t) n)) where
        pub copy_room : i + w ≤ locations
        copy_room = rw hw (fits_high (decoded t) i (type_of (decoded t) n) (got_fits t m p x h n copy_retrieval b hb i hi))

        pub copy_returns : (l : List ℕ) (count : ℕ) (q : List ℕ) (r : ℕ) → Appended l count (fit k (words_at (memory_of m) i w)) q r
            → Added l count q r (value_of k (out t m p x n))
        copy_returns l count q r g =
            record {
              words = fit k (words_at (memory_of m) i w);
              is = value_given k (out t m p x n) (type_of (decoded t) n) _ (got_value t m p x h n copy_retrieval b hb i hi ∙ rw hw);
              put = g;
            }

  -- `var_argument`
  module _ (n : ℕ) (c : Bindable (decoded t) (memory_of m) (memory_of p) (context_in x) n) where
    pub bind_selectable : Sel t m p x n
    bind_selectable = record { variable = c.variable; unstuck = place_goes (out t m p x n) c.unstuck }

    module _ (b : Result ℕ Failure) (hb : selected b (type_of (decoded t) n) ≡ out t m p x n) where
      pub bind_fails : (e : Failure) → b ≡ Err e → place_of (out t m p x n) ≡ fail (failure_number e)
      bind_fails e g = place_failed (out t m p x n) (failure_number e) (sym hb ∙ rw g)

      module _ (i : ℕ) (hi : b ≡ Ok i) where
        bind_place : out t m p x n ≡ ok (place i (type_of (decoded t) n))
        bind_place = sym hb ∙ rw hi

        pub bind_low : i < 65536
        bind_low =
            let g = fits_low (decoded t) i (type_of (decoded t) n)
            (place_fits (decoded t) (type_of (decoded t) n) i (type_of (decoded t) n)
            (subst (OfType (decoded t) (type_of (decoded t) n)) bind_place
            (typed_variable (decoded t) (memory_of m) (memory_of p) (context_in x) h.ranged n c.variable))) in
            omega arith

        pub bind_returns : (l : List ℕ) (count w r : ℕ) (k : List ℕ) → w ≡ i → Appended l count (w ∷ []) k r → Added l count k r (place_of (out t m p x n))
        bind_returns l count w r k e a = record { words = w ∷ []; is = rw e (place_given (out t m p x n) i (type_of (decoded t) n) bind_place); put = a }

  -- `value_argument`
  module _ (n y : ℕ) (c : Passable (decoded t) (memory_of m) (memory_of p) (context_in x) n y) where
    pub value_sized : Sized t y
    value_sized = record { code = h.code; sized = h.sized; there = c.type }

    pub value_counted : Counted t n
    value_counted = expression_counted t m p x h n c.expression

    -- an expression whose type has a number
    module _ (k8 : node_kind (decoded t) n ≡ 8 → ⊥) where
      value_fits : value_argument (decoded t) (memory_of m) (memory_of p) (context_in x) y (out t m p x n) ≡ value_of (words_of (decoded t) y) (out t m p x n)
      value_fits =
          value-is (decoded t) y (type_of (decoded t) n) (memory_of m) (memory_of p) (context_in x) (out t m p x n)
          (typed_expression (decoded t) (memory_of m) (memory_of p) (context_in x) h.ranged n c.expression k8) c.unstuck

      module _ (w : ℕ) (hw : w ≡ words_of (decoded t) y) where
        fitted_here : value_argument (decoded t) (memory_of m) (memory_of p) (context_in x) y (out t m p x n) ≡ value_of w (out t m p x n)
        fitted_here = rw hw value_fits

        fitted_valuable : Valuable (decoded t) (memory_of m) (memory_of p) (context_in x) n w
        fitted_valuable = record { expression = c.expression; unstuck = kept _ _ fitted_here c.unstuck }

    pub constant_returns : (k w : ℕ) → k ≡ node_kind (decoded t) n → k ≡ 8 → w ≡ words_of (decoded t) y → (l : List ℕ) (count : ℕ) (r : Result ℕ Failure) (q : List ℕ)
        → Adds r l count q (ok (fit w (text_at (decoded t) (node_p (decoded t) n) (node_q (decoded t) n))))
        → Adds r l count q (value_argument (decoded t) (memory_of m) (memory_of p) (context_in x) y (out t m p x n))
    constant_returns k w hk e hw l count r q a =
        let o = is_string (decoded t) (memory_of m) (memory_of p) (context_in x) n c.expression.below (sym hk ∙ e) in
        let d = ap (value_argument (decoded t) (memory_of m) (memory_of p) (context_in x) y) o in
        rw (d ∙ text_is (decoded t) y (memory_of m) (memory_of p) (context_in x) _ (kept _ _ d c.unstuck), ← hw) a

    module _ (s : Bool) (hs : s ≡ single (decoded t) n) where
      module _ (e : s ≡ true) where
        pub value_single : OneWord (decoded t) n
        value_single = one_true (decoded t) n (sym hs ∙ e)

        one_only : 1 ≡ words_of (decoded t) y
        one_only =
            let k8 = value_single.numbered in
            let f : is_fit (matching (decoded t) (numbered (type_of (decoded t) n)) (numbered y)) ≡ true = rw (numbered_type (decoded t) n k8) at c.fit in
            sym (fit-one (decoded t) y (type_of (decoded t) n) h.sized (expression_valued t m p x h n c.expression k8).type.there value_single.is f)

        pub value_one : Valuable (decoded t) (memory_of m) (memory_of p) (context_in x) n 1
        value_one = fitted_valuable value_single.numbered 1 one_only

        pub one_returns : (l : List ℕ) (count : ℕ) (r : Result ℕ Failure) (q : List ℕ) → Adds r l count q (value_of 1 (out t m p x n))
            → Adds r l count q (value_argument (decoded t) (memory_of m) (memory_of p) (context_in x) y (out t m p x n))
        one_returns l count r q a = rw (fitted_here value_single.numbered 1 one_only) a

      pub value_several : s ≡ false → single (decoded t) n ≡ false
      value_several e = sym hs ∙ e

      module _ (e : s ≡ false) (k : ℕ) (hk : k ≡ node_kind (decoded t) n) (n8 : k ≡ 8 → ⊥) where
        pub value_retrieved : node_kind (decoded t) n ≡ 4
        value_retrieved =
            only_retrieval (decoded t) (node_count (decoded t)) n h.ranged h.typed c.expression.below c.expression (value_several e) (λ g. n8 (hk ∙ g))

        module _ (w : ℕ) (hw : w ≡ words_of (decoded t) y) where
          pub value_copied : Valuable (decoded t) (memory_of m) (memory_of p) (context_in x) n w
          value_copied = fitted_valuable (λ g. n8 (hk ∙ g)) w hw

          pub copied_returns : (l : List ℕ) (count : ℕ) (r : Result ℕ Failure) (q : List ℕ) → Adds r l count q (value_of w (out t m p x n))
              → Adds r l count q (value_argument (decoded t) (memory_of m) (memory_of p) (context_in x) y (out t m p x n))
          copied_returns l count r q a = rw (fitted_here (λ g. n8 (hk ∙ g)) w hw) a

  -- `argument`
  module _ (v i n d : ℕ) (c : Passing (decoded t) (memory_of m) (memory_of p) (context_in x) v i) (hn : n ≡ arg_node (decoded t) i) (hd : d ≡ var_mode (decoded t) v) where
    there : i < arg_count (decoded t)
    there = argument_there (decoded t) (memory_of m) (memory_of p) (context_in x) v i c.unstuck

    below : n < node_count (decoded t)
    below = rw hn (arg-node (decoded t) h.ranged i there)

    pub argument_rowed : (k : List ℕ) → HasRow (decoded t) k (arg_node (decoded t) i) → Rowed (decoded t) k n
    argument_rowed k r = arg_rowed t k m p x h i n there hn r

    module _ (e : d ≡ 2) where
      var_here : argument (decoded t) (memory_of m) (memory_of p) (context_in x) v i ≡ place_of (out t m p x n)
      var_here = rw hn (argument_var (decoded t) (memory_of m) (memory_of p) (context_in x) v i c.unstuck (sym hd ∙ e))

      pub argument_bindable : Bindable (decoded t) (memory_of m) (memory_of p) (context_in x) n
      argument_bindable =
          let q = c.suits.variable (sym hd ∙ e) in
          record { variable = record { below = below; low = rw hn q.0; high = rw hn q.1 }; unstuck = kept _ _ var_here c.unstuck }

      pub bound_returns : (l : List ℕ) (count : ℕ) (r : Result ℕ Failure) (k : List ℕ) → Adds r l count k (place_of (out t m p x n))
          → Adds r l count k (argument (decoded t) (memory_of m) (memory_of p) (context_in x) v i)
      bound_returns l count r k a = rw var_here a

    module _ (e : d ≡ 2 → ⊥) (y : ℕ) (hy : y ≡ var_type (decoded t) v) where
      value_here : argument (decoded t) (memory_of m) (memory_of p) (context_in x) v i ≡ value_argument (decoded t) (memory_of m) (memory_of p) (context_in x) y (out t m p x n)
      value_here = rw (hn, hy) (argument_value (decoded t) (memory_of m) (memory_of p) (context_in x) v i c.unstuck (λ q. e (hd ∙ q)))

      pub argument_passable : Passable (decoded t) (memory_of m) (memory_of p) (context_in x) n y
      argument_passable =
          let q = c.suits.expression (λ q. e (hd ∙ q)) in
          record {
            expression = record { below = below; sort = rw hn q.1; high = rw hn q.0 };
            type = rw hy (var-type (decoded t) h.ranged v (parameter_there (decoded t) (memory_of m) (memory_of p) (context_in x) v i c.unstuck));
            fit = rw (hn, hy) (c.suits.fit (λ q. e (hd ∙ q)));
            unstuck = kept _ _ value_here c.unstuck;
          }

      pub passed_returns : (l : List ℕ) (count : ℕ) (r : Result ℕ Failure) (k : List ℕ) → Adds r l count k (value_argument (decoded t) (memory_of m) (memory_of p) (context_in x) y (out t m p x n))
          → Adds r l count k (argument (decoded t) (memory_of m) (memory_of p) (context_in x) v i)
      passed_returns l count r k a = rw value_here a

pub ruleset passes =
    (word_evaluable, word_fails, word_returns, copy_valued, copy_retrieval, copy_fails, copy_room, copy_returns, bind_selectable, bind_fails, bind_low, bind_returns, argument_rowed, argument_bindable, bound_returns, argument_passable, passed_returns)

pub ruleset values = (value_sized, value_counted, constant_returns, value_single, value_one, one_returns, value_several, value_retrieved, value_copied, copied_returns)
