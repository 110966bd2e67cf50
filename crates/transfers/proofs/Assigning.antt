-- Assignments that are not stuck (11.2): what each call may ask, and each return. Assumes nothing.
use Prim.Native.Nat.{ℕ, ◌+◌, ◌-◌, ◌<◌, ◌≤◌}
use mathlib.Core.Path.{◌≡◌, refl, sym, ap, subst, ◌∙◌}
use mathlib.Core.Bool.{Bool, true, false}
use mathlib.Core.List.{List, [], ◌∷◌}
use lib.ListN.{length}
use native.Mathlib.Nat.{add-zero}
use native.Mathlib.Omega.{arith}
use Rattle.table.specs.Entries.{node_count, node_kind, node_p, node_q, stmt_kind, stmt_a, stmt_b}
use Rattle.types.specs.Types.{NodeType, numbered, evened, type_of}
use Rattle.types.specs.Match.{matching, is_equal}
use Rattle.sizes.specs.Sizes.{words_of}
use Rattle.numbers.proofs.OperandPromise.{assign_variable, assign_value}
use Rattle.typing.proofs.Promise.{assignment}
use Rattle.machine.specs.Memory.{Memory, memory_of, update, store, words_at}
use Rattle.machine.specs.Layout.{statement_at, failure_at, locations}
use Rattle.machine.specs.Lent.{Becomes}
use Rattle.machine.specs.Marks.{mark}
use Rattle.machine.specs.Outcomes.{ok, stuck, need, place, value, text, on_typed}
use Rattle.machine.specs.Texts.{text_at}
use Rattle.machine.specs.Entries.{stmt_at}
use Rattle.machine.specs.Variables.{fits}
use Rattle.machine.specs.Places.{SameOrApart}
use Rattle.machine.specs.Statements.{effect, go_on, do_assign, perform}
use Rattle.machine.proofs.Copies.{store_none, store_more}
use Rattle.machine.proofs.Memories.{length_words}
use Rattle.code.specs.Code.{decoded}
use Rattle.operands.specs.declared.Context.{Context}
use Rattle.operands.specs.Answers.{single, OneWord, Retrieval}
use Rattle.operands.specs.Packed.{Located, Evaluated, RetrievedFrom}
use Rattle.operands.specs.Ready.{context_in, Valued, Counted}
use Rattle.operands.proofs.Lending.{expression_valued, expression_counted}
use Rattle.operands.proofs.Nodes.{is_string}
use Rattle.operands.proofs.OneWords.{one_true}
use Rattle.operands.proofs.Packing.{told_word, told_failure, told_place, told_no_place}
use Rattle.operands.proofs.Typed.{OfType, typed_variable, typed_expression}
use Rattle.operands.proofs.TypeWords.{match_words, match_nodes, words_constant, words_numbered}
use Rattle.operands.proofs.Yielding.{place_fits, failed}
use Rattle.operands.proofs.Yielding as yielding
use Rattle.operands.proofs.Selecting.{out, Sel, fits_low, fits_high}
use Rattle.operands.proofs.Evaluating.{Ev, only_retrieval, got_type, stands_fits}
use Rattle.effects.specs.Effects.{statement_step, Stepped, Standing}
use Rattle.effects.proofs.Carrying.{performs_assign}
use Rattle.transfers.specs.Assignments.{Assigning, Copying, copied}
use Rattle.transfers.proofs.Following.{apart, need_true, need_done, place_failed, place_goes, place_unstuck, typed_failed, typed_goes, typed_reads, typed_unstuck, typed_gave}
use Rattle.transfers.proofs.Steps.{goes_on, stands_there, stands_below, stands_fail, stands_done}

-- ---- the laws of `copy`

pub copy_returns : (s s1 s2 : List ℕ) (x : Context) (from to n : ℕ)
    → Becomes s1 (mark (store (memory_of s) to (words_at (memory_of s) from n)) to n)
    → Becomes s2 (update (memory_of s1) (statement_at x.process) (x.statement + 1))
    → Becomes s2 (copied (memory_of s) x from to n)
unfolding copied
copy_returns s s1 s2 x from to n c d = record { long = d.long; is = d.is ∙ rw c.is }

-- ---- one word

store_one : (m : Memory) (a v : ℕ) → store m a (v ∷ []) ≡ update m a v
store_one m a v = store_more m a [] v ∙ rw (add-zero, store_none m a)

-- ---- the laws of `assign`

module _ (t m p : List ℕ) (x : Context) (h : Standing t m p x) (hk : stmt_kind (decoded t) x.statement ≡ 1) where
  does : perform (decoded t) (memory_of m) (memory_of p) (context_in x) (stmt_at (decoded t) x.statement)
      ≡ do_assign (decoded t) (memory_of m) (memory_of p) (context_in x) (stmt_a (decoded t) x.statement) (stmt_b (decoded t) x.statement)
  unfolding context_in
  does = performs_assign (decoded t) (memory_of m) (memory_of p) (context_in x) h.unstuck hk

  goes : do_assign (decoded t) (memory_of m) (memory_of p) (context_in x) (stmt_a (decoded t) x.statement) (stmt_b (decoded t) x.statement) ≡ stuck → ⊥
  goes = apart _ _ does h.unstuck

  variable_there : Sel t m p x (stmt_a (decoded t) x.statement)
  unfolding do_assign
  variable_there =
      record {
        variable = assign_variable (decoded t) h.ready.ranged x.statement (stands_there t m p x h) hk;
        unstuck = place_unstuck _ _ goes;
      }

  module _ (a : ℕ) (ha : a ≡ stmt_a (decoded t) x.statement) where
    pub assign_selectable : Sel t m p x a
    assign_selectable = rw ha variable_there

    module _ (l : ℕ) (hl : Located t m p x a l) where
      pub assign_fails : (r : ℕ) (s1 : List ℕ) → 65536 ≤ l → r ≡ l - 65536 → Becomes s1 (update (memory_of m) failure_at (l - 65536))
          → Stepped r s1 p (statement_step (decoded t) (memory_of m) (memory_of p) (context_in x))
      unfolding do_assign
      assign_fails r s1 g k c =
          let q = rw ha at (told_no_place (type_of (decoded t) a) _ l hl g) in
          stands_fail t m p x h (l - 65536) r s1 (does ∙ place_failed _ _ (l - 65536) q) k c

      pub assign_target : l < 65536 → Assigning t m p x l
      assign_target g = record { standing = h; kind = hk; below = stands_below t m p x h; target = rw ha at (told_place (type_of (decoded t) a) _ l hl g) }

-- ---- the laws of `assign_at`

module _ (t m p : List ℕ) (x : Context) (i : ℕ) (c : Assigning t m p x i) where
  target_fits : fits (decoded t) i (type_of (decoded t) (stmt_a (decoded t) x.statement)) ≡ true
  target_fits =
      place_fits (decoded t) (type_of (decoded t) (stmt_a (decoded t) x.statement)) i (type_of (decoded t) (stmt_a (decoded t) x.statement))
      (subst (OfType (decoded t) (type_of (decoded t) (stmt_a (decoded t) x.statement))) c.target
      (typed_variable (decoded t) (memory_of m) (memory_of p) (context_in x) c.standing.ready.ranged (stmt_a (decoded t) x.statement)
      (variable_there t m p x c.standing c.kind).variable))

  pub assigning_low : i < locations
  assigning_low = fits_low (decoded t) i (type_of (decoded t) (stmt_a (decoded t) x.statement)) target_fits

  -- the value, then the test that it matches
  then : perform (decoded t) (memory_of m) (memory_of p) (context_in x) (stmt_at (decoded t) x.statement)
      ≡ on_typed (out t m p x (stmt_b (decoded t) x.statement)) (λ κ ws. need (is_equal (matching (decoded t) (numbered (type_of (decoded t) (stmt_a (decoded t) x.statement))) κ)) (go_on (decoded t) (memory_of m) (memory_of p) (context_in x) (mark (store (memory_of m) i ws) i (length ws))))
  unfolding do_assign
  then = does t m p x c.standing c.kind ∙ place_goes _ _ i _ c.target

  value_there : Ev t m p x (stmt_b (decoded t) x.statement)
  value_there =
      record {
        expression = assign_value (decoded t) c.standing.ready.ranged x.statement (stands_there t m p x c.standing) c.kind;
        unstuck = typed_unstuck _ _ (apart _ _ then c.standing.unstuck);
      }

  -- words ws, of type κ
  stores : (κ : NodeType) (ws : List ℕ)
      → perform (decoded t) (memory_of m) (memory_of p) (context_in x) (stmt_at (decoded t) x.statement)
      ≡ need (is_equal (matching (decoded t) (numbered (type_of (decoded t) (stmt_a (decoded t) x.statement))) κ)) (go_on (decoded t) (memory_of m) (memory_of p) (context_in x) (mark (store (memory_of m) i ws) i (length ws)))
      → perform (decoded t) (memory_of m) (memory_of p) (context_in x) (stmt_at (decoded t) x.statement)
      ≡ ok (effect 0 (update (mark (store (memory_of m) i ws) i (length ws)) (statement_at x.process) (x.statement + 1)) (memory_of p))
  stores κ ws e =
      e ∙ (need_done _ _ (apart _ _ e c.standing.unstuck) ∙ goes_on (decoded t) (memory_of m) (memory_of p) (mark (store (memory_of m) i ws) i (length ws)) x)

  -- a value of words ws
  module _ (ws : List ℕ) (e : out t m p x (stmt_b (decoded t) x.statement) ≡ ok (value (type_of (decoded t) (stmt_b (decoded t) x.statement)) ws)) where
    tests : perform (decoded t) (memory_of m) (memory_of p) (context_in x) (stmt_at (decoded t) x.statement)
        ≡ need (is_equal (matching (decoded t) (numbered (type_of (decoded t) (stmt_a (decoded t) x.statement))) (numbered (type_of (decoded t) (stmt_b (decoded t) x.statement))))) (go_on (decoded t) (memory_of m) (memory_of p) (context_in x) (mark (store (memory_of m) i ws) i (length ws)))
    tests = then ∙ typed_goes _ _ _ ws e

    same_words : words_of (decoded t) (type_of (decoded t) (stmt_a (decoded t) x.statement)) ≡ words_of (decoded t) (type_of (decoded t) (stmt_b (decoded t) x.statement))
    same_words = match_words (decoded t) (type_of (decoded t) (stmt_a (decoded t) x.statement)) (type_of (decoded t) (stmt_b (decoded t) x.statement)) (need_true _ _ (apart _ _ tests c.standing.unstuck))

    keeps : perform (decoded t) (memory_of m) (memory_of p) (context_in x) (stmt_at (decoded t) x.statement)
        ≡ ok (effect 0 (update (mark (store (memory_of m) i ws) i (length ws)) (statement_at x.process) (x.statement + 1)) (memory_of p))
    keeps = stores (numbered (type_of (decoded t) (stmt_b (decoded t) x.statement))) ws tests

  module _ (b : ℕ) (hb : b ≡ stmt_b (decoded t) x.statement) where
    pub assigning_evaluable : Ev t m p x b
    assigning_evaluable = rw hb value_there

    pub assigning_counted : Counted t b
    assigning_counted = rw hb (expression_counted t m p x c.standing.ready _ value_there.expression)

    module _ (r : Bool) (hr : r ≡ single (decoded t) b) where
      pub assigning_one : r ≡ true → OneWord (decoded t) (stmt_b (decoded t) x.statement)
      assigning_one e = rw (← hb) (one_true (decoded t) b (sym hr ∙ e))

      pub assigning_several : r ≡ false → single (decoded t) (stmt_b (decoded t) x.statement) ≡ false
      assigning_several e = rw (← hb) (sym hr ∙ e)

      module _ (k : ℕ) (hk : k ≡ node_kind (decoded t) b) where
        pub assigning_text : k ≡ 8 → node_kind (decoded t) (stmt_b (decoded t) x.statement) ≡ 8
        assigning_text e = rw (← hb, ← hk) e

        pub assigning_words : r ≡ false → (k ≡ 8 → ⊥) → node_kind (decoded t) (stmt_b (decoded t) x.statement) ≡ 4
        assigning_words e n =
            only_retrieval (decoded t) (node_count (decoded t)) (stmt_b (decoded t) x.statement) c.standing.ready.ranged
            c.standing.ready.typed value_there.expression.below value_there.expression (assigning_several e) (λ g. n (hk ∙ rw hb g))

  -- ---- the laws of `assign_word`

  module _ (o : OneWord (decoded t) (stmt_b (decoded t) x.statement)) (b : ℕ) (hb : b ≡ stmt_b (decoded t) x.statement) where
    pub word_one : OneWord (decoded t) b
    word_one = rw hb o

    module _ (v : ℕ) (hv : Evaluated t m p x b v) where
      pub word_fails : (r : ℕ) (s1 : List ℕ) → 65536 ≤ v → r ≡ v - 65536 → Becomes s1 (update (memory_of m) failure_at (v - 65536))
          → Stepped r s1 p (statement_step (decoded t) (memory_of m) (memory_of p) (context_in x))
      word_fails r s1 g k d =
          let q = rw hb at (failed _ _ (told_failure _ v hv g)) in
          stands_fail t m p x c.standing (v - 65536) r s1 (then ∙ typed_failed _ _ (v - 65536) q) k d

      pub word_returns : (s1 s2 : List ℕ) → v < 65536
          → Becomes s1 (mark (update (memory_of m) i v) i 1) → Becomes s2 (update (memory_of s1) (statement_at x.process) (x.statement + 1))
          → Stepped 0 s2 p (statement_step (decoded t) (memory_of m) (memory_of p) (context_in x))
      word_returns s1 s2 g d₁ d₂ =
          let q = typed_expression (decoded t) (memory_of m) (memory_of p) (context_in x) c.standing.ready.ranged (stmt_b (decoded t) x.statement) value_there.expression o.numbered in
          let j = typed_gave (decoded t) (type_of (decoded t) (stmt_b (decoded t) x.statement)) (out t m p x (stmt_b (decoded t) x.statement)) _ v (apart _ _ then c.standing.unstuck) q (rw hb at (told_word _ v hv g)) in
          let only : j.words ≡ v ∷ [] = yielding.single j.words (j.long ∙ o.is) ∙ rw j.first in
          stands_done t m p x c.standing 0 s2 (update (mark (update (memory_of m) i v) i 1) (statement_at x.process) (x.statement + 1))
          (keeps j.words j.is ∙ rw (only, store_one (memory_of m) i v))
          (record { long = d₂.long; is = d₂.is ∙ rw d₁.is })

  -- ---- the laws of `assign_text`

  module _ (k : node_kind (decoded t) (stmt_b (decoded t) x.statement) ≡ 8) (b : ℕ) (hb : b ≡ stmt_b (decoded t) x.statement) where
    -- the variable has as many words as the constant has characters
    text_words : words_of (decoded t) (type_of (decoded t) (stmt_a (decoded t) x.statement)) ≡ evened (node_q (decoded t) (stmt_b (decoded t) x.statement))
    text_words =
        let v = (variable_there t m p x c.standing c.kind).variable in
        let e = match_nodes (decoded t) (stmt_a (decoded t) x.statement) (stmt_b (decoded t) x.statement) (assignment (decoded t) c.standing.ready.typed x.statement (stands_there t m p x c.standing) c.kind) in
        sym (words_numbered (decoded t) (stmt_a (decoded t) x.statement) (λ g. let h = v.high in omega arith)) ∙ (e ∙ words_constant (decoded t) (stmt_b (decoded t) x.statement) k)

    module _ (v : ℕ) (hv : v ≡ node_q (decoded t) b) where
      pub text_fits : i + evened v ≤ locations
      text_fits = rw (hv, hb, ← text_words) (fits_high (decoded t) i (type_of (decoded t) (stmt_a (decoded t) x.statement)) target_fits)

      module _ (u : ℕ) (hu : u ≡ node_p (decoded t) b) where
        found_text : out t m p x (stmt_b (decoded t) x.statement) ≡ ok (text (text_at (decoded t) u v))
        found_text = is_string (decoded t) (memory_of m) (memory_of p) (context_in x) (stmt_b (decoded t) x.statement) value_there.expression.below k ∙ rw (hu, hv, hb)

        pub text_returns : (s1 s2 : List ℕ)
            → Becomes s1 (mark (store (memory_of m) i (text_at (decoded t) u v)) i (length (text_at (decoded t) u v)))
            → Becomes s2 (update (memory_of s1) (statement_at x.process) (x.statement + 1))
            → Stepped 0 s2 p (statement_step (decoded t) (memory_of m) (memory_of p) (context_in x))
        text_returns s1 s2 d₁ d₂ =
            stands_done t m p x c.standing 0 s2 _ (stores _ (text_at (decoded t) u v) (then ∙ typed_reads _ _ _ found_text))
            (record { long = d₂.long; is = d₂.is ∙ rw d₁.is })

  -- ---- the laws of `assign_words`

  module _ (k : node_kind (decoded t) (stmt_b (decoded t) x.statement) ≡ 4) where
    is_retrieval : Retrieval (decoded t) (memory_of m) (memory_of p) (context_in x) (stmt_b (decoded t) x.statement)
    is_retrieval = record { evaluable = value_there; kind = k }

    module _ (b : ℕ) (hb : b ≡ stmt_b (decoded t) x.statement) where
      pub words_retrieval : Retrieval (decoded t) (memory_of m) (memory_of p) (context_in x) b
      words_retrieval = rw hb is_retrieval

      pub words_valued : Valued t b
      words_valued = rw hb (expression_valued t m p x c.standing.ready _ value_there.expression (λ e. omega arith))

      pub words_several : single (decoded t) (stmt_b (decoded t) x.statement) ≡ false → single (decoded t) b ≡ false
      words_several e = rw hb e

      module _ (l : ℕ) (hl : RetrievedFrom t m p x b l) where
        here : RetrievedFrom t m p x (stmt_b (decoded t) x.statement) l
        here = rw hb at hl

        pub words_fails : (r : ℕ) (s1 : List ℕ) → 65536 ≤ l → r ≡ l - 65536 → Becomes s1 (update (memory_of m) failure_at (l - 65536))
            → Stepped r s1 p (statement_step (decoded t) (memory_of m) (memory_of p) (context_in x))
        words_fails r s1 g h d =
            stands_fail t m p x c.standing (l - 65536) r s1 (then ∙ typed_failed _ _ (l - 65536) (here.fails g)) h d

        module _ (g : l < 65536) (n : ℕ) (hn : n ≡ words_of (decoded t) (type_of (decoded t) b)) where
          count : n ≡ words_of (decoded t) (type_of (decoded t) (stmt_b (decoded t) x.statement))
          count = hn ∙ rw hb

          found : out t m p x (stmt_b (decoded t) x.statement)
              ≡ ok (value (type_of (decoded t) (stmt_b (decoded t) x.statement)) (words_at (memory_of m) l n))
          found = rw count (here.holds g)

          source : out t m p x (node_p (decoded t) (stmt_b (decoded t) x.statement))
              ≡ ok (place l (type_of (decoded t) (node_p (decoded t) (stmt_b (decoded t) x.statement))))
          source = here.stands g

          target_words : n ≡ words_of (decoded t) (type_of (decoded t) (stmt_a (decoded t) x.statement))
          target_words = count ∙ sym (same_words (words_at (memory_of m) l n) found)

          source_words : n ≡ words_of (decoded t) (type_of (decoded t) (node_p (decoded t) (stmt_b (decoded t) x.statement)))
          source_words = count ∙ ap (words_of (decoded t)) (got_type t m p x c.standing.ready _ is_retrieval _ refl)

          -- the two variables are the same or apart
          copied_apart : SameOrApart l i n
          copied_apart =
              rw (← source_words) at (c.standing.places.apart (node_p (decoded t) (stmt_b (decoded t) x.statement)) (stmt_a (decoded t) x.statement) l i _ _
              source c.target (sym source_words ∙ target_words))

          pub words_copying : Copying x l i n
          words_copying =
              let a = fits_high (decoded t) l (type_of (decoded t) (stmt_b (decoded t) x.statement)) (stands_fits t m p x c.standing.ready _ is_retrieval l source) in
              let b = fits_high (decoded t) i (type_of (decoded t) (stmt_a (decoded t) x.statement)) target_fits in
              record {
                process_low = c.standing.ready.context.process_low;
                process_high = c.standing.ready.context.process_high;
                statement = c.below;
                words = record { source = rw count a; target = rw target_words b; apart = copied_apart };
              }

          pub words_returns : (s1 : List ℕ) → Becomes s1 (copied (memory_of m) x l i n)
              → Stepped 0 s1 p (statement_step (decoded t) (memory_of m) (memory_of p) (context_in x))
          unfolding copied
          words_returns s1 d =
              stands_done t m p x c.standing 0 s1 _ (rw (length_words (memory_of m) l n) at (keeps (words_at (memory_of m) l n) found)) d

pub ruleset assigns = (assign_selectable, assigning_low, assigning_evaluable, assigning_counted, assigning_one, assigning_several, assigning_text, assigning_words, word_one, text_fits, text_returns, words_retrieval, words_valued, words_several)

pub ruleset assigned = (assign_fails, word_fails, word_returns, words_fails, words_copying, words_returns)
