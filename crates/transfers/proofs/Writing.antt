-- Write statements that are not stuck (12.3): what each call may ask, and each return. Assumes nothing.
use Prim.Native.Nat.{ℕ, ◌+◌, ◌-◌, ◌*◌, ◌/◌, ◌<◌, ◌≤◌}
use mathlib.Core.Path.{◌≡◌, sym, ap, ◌∙◌}
use mathlib.Core.Bool.{true, false}
use mathlib.Core.List.{List}
use lib.Dec.{eqb}
use lib.ListN.{length}
use native.Mathlib.Omega.{arith}
use Rattle.basics.specs.Cases.{cases}
use Rattle.table.specs.Table.{Table}
use Rattle.table.specs.Entries.{stmt_kind, stmt_a, stmt_b}
use Rattle.types.specs.Types.{type_of}
use Rattle.numbers.proofs.OperandPromise.{write_address, write_value}
use Rattle.typing.proofs.Promise.{written_address, written_value, address_numbered, written_numbered}
use Rattle.words.specs.Memory.{put_at_byte, put_word}
use Rattle.words.specs.Numbers.{int_of}
use Rattle.words.specs.Devices.{is_device, position_of}
use Rattle.words.specs.Pages.{write_device, page_with}
use Rattle.words.specs.Outcomes as words
use Rattle.words.specs.Values.{failure_number, outcome_of}
use Rattle.words.specs.declared.values.Failure.{Failure}
use Rattle.std.specs.Prelude.{Result, Ok, Err}
use Rattle.words.proofs.MemoryLaws.{length_put_at}
use Rattle.words.proofs.DeviceLaws.{position_even, position_le}
use Rattle.machine.specs.Memory.{memory_of, update}
use Rattle.machine.specs.Layout.{statement_at, failure_at, page_size}
use Rattle.machine.specs.Lent.{Becomes}
use Rattle.machine.specs.Outcomes.{Outcome, stuck, need, fail_where, Operand, on_word, word_of}
use Rattle.machine.specs.Entries.{stmt_at}
use Rattle.machine.specs.Operands.{device_word}
use Rattle.machine.specs.Statements.{do_write, perform}
use Rattle.machine.specs.Step.{settled}
use Rattle.machine.proofs.Memories.{memory_put}
use Rattle.code.specs.Code.{decoded}
use Rattle.operands.specs.declared.Context.{Context}
use Rattle.operands.specs.Answers.{first_word, OneWord}
use Rattle.operands.specs.Packed.{Evaluated}
use Rattle.operands.specs.Ready.{context_in}
use Rattle.operands.proofs.OneWords.{one_standard}
use Rattle.operands.proofs.Packing.{told_word, told_failure}
use Rattle.operands.proofs.Typed.{OfType, typed_expression}
use Rattle.operands.proofs.Yielding.{failed}
use Rattle.operands.proofs.Selecting.{out}
use Rattle.operands.proofs.Evaluating.{Ev}
use Rattle.effects.specs.Effects.{statement_step, Stepped, Standing}
use Rattle.effects.proofs.Carrying.{performs_write}
use Rattle.transfers.specs.Devices.{writes, Writing}
use Rattle.transfers.proofs.Following.{apart, no_word, need_done, value_failed, value_goes, value_unstuck, value_gave}
use Rattle.transfers.proofs.Steps.{stands_there, stands_below, stands_fail}

-- ---- the laws of `write_word`

-- the word of the page that the store changes
page_put : (d : List ℕ) (i v : ℕ) → length d ≡ page_size → i < 65536 → v < 65536 → is_device (int_of i) ≡ true
    → memory_of (put_at_byte d (position_of (int_of i)) v) ≡ update (memory_of d) (device_word i) v
unfolding device_word put_word
page_put d i v l a b t =
    let e = position_even i a t in
    let k = position_le i a t in
    let q : position_of (int_of i) / 2 * 2 ≡ position_of (int_of i) = omega arith in
    ap (λ (k : ℕ). memory_of (put_at_byte d k v)) (sym q) ∙ memory_put d (position_of (int_of i) / 2) v (omega arith) b

no_device : (i v : ℕ) (k : ℕ) → words.fail k ≡ write_device i v → (is_device (int_of i) ≡ false) × (k ≡ 21)
unfolding write_device
no_device i v k e =
    cases (is_device (int_of i))
    (λ t. no_word v k (sym (rw t at e)))
    (λ t. (t, fails_by k 21 (rw t at e)))
  where
    fails_by : (a b : ℕ) → words.fail a ≡ words.fail b → a ≡ b
    fails_by a b e = cc

is-device : (i v w : ℕ) → words.word w ≡ write_device i v → is_device (int_of i) ≡ true
unfolding write_device
is-device i v w e =
    cases (is_device (int_of i))
    (λ t. t)
    (λ t. no_word w 21 (rw t at e))

module _ (s d d1 : List ℕ) (x : Context) (i v : ℕ) (l : length d ≡ page_size) (w : Result ℕ Failure) (hw : outcome_of w ≡ write_device i v) (hd : d1 ≡ page_with d i v) where
  pub write_fails : (e : Failure) (r : ℕ) (s1 : List ℕ) → w ≡ Err e → r ≡ failure_number e
      → Becomes s1 (update (memory_of s) failure_at (failure_number e))
      → Stepped r s1 d1 (settled (memory_of s) (memory_of d) (writes (memory_of s) (memory_of d) x i v))
  unfolding settled writes fail_where page_with
  write_fails e r s1 g k c =
      let q = no_device i v (failure_number e) (rw g at hw) in
      let same : d1 ≡ d = hd ∙ rw q.0 in
      record { long = c.long; wide = rw same l; is = rw (q.0, same, k, c.is, q.1) }

  pub write_returns : (u : ℕ) (s1 : List ℕ) → w ≡ Ok u → i < 65536 → v < 65536
      → Becomes s1 (update (memory_of s) (statement_at x.process) (x.statement + 1))
      → Stepped 0 s1 d1 (settled (memory_of s) (memory_of d) (writes (memory_of s) (memory_of d) x i v))
  unfolding settled writes fail_where page_with
  write_returns u s1 g a b c =
      let q = is-device i v u (rw g at hw) in
      let put : d1 ≡ put_at_byte d (position_of (int_of i)) v = hd ∙ rw q in
      record {
        long = c.long;
        wide = rw put (length_put_at d (position_of (int_of i)) v ∙ l);
        is = rw (q, put, c.is, page_put d i v l a b q);
      }

-- ---- the laws of `write`

-- an operand of type integer, whose word is w
word_goes : {A : Type 0} (T : Table) (τ : ℕ) (o : Outcome Operand) (f : ℕ → Outcome A) (w : ℕ)
    → (on_word o 0 f ≡ stuck → ⊥) → OfType T τ o → words.word w ≡ first_word o → on_word o 0 f ≡ f w
unfolding on_word
word_goes T τ o f w g t e =
    let j = value_gave T τ o _ w g t e in
    let d = value_goes o (λ σ ws. need (eqb σ 0) (f (word_of ws))) τ j.words j.is in
    d ∙ (need_done _ _ (apart _ _ d g) ∙ ap f j.first)

module _ (t m p : List ℕ) (x : Context) (h : Standing t m p x) (hk : stmt_kind (decoded t) x.statement ≡ 12) where
  does : perform (decoded t) (memory_of m) (memory_of p) (context_in x) (stmt_at (decoded t) x.statement)
      ≡ on_word (out t m p x (stmt_a (decoded t) x.statement)) 0 (λ i. on_word (out t m p x (stmt_b (decoded t) x.statement)) 0 (λ v. writes (memory_of m) (memory_of p) x i v))
  unfolding context_in do_write writes
  does = performs_write (decoded t) (memory_of m) (memory_of p) (context_in x) h.unstuck hk

  address_there : Ev t m p x (stmt_a (decoded t) x.statement)
  unfolding on_word
  address_there =
      record {
        expression = write_address (decoded t) h.ready.ranged x.statement (stands_there t m p x h) hk;
        unstuck = value_unstuck _ _ (apart _ _ does h.unstuck);
      }

  module _ (a : ℕ) (ha : a ≡ stmt_a (decoded t) x.statement) where
    pub address_evaluable : Ev t m p x a
    address_evaluable = rw ha address_there

    pub address_one : OneWord (decoded t) a
    address_one =
        let q = written_address (decoded t) h.ready.typed x.statement (stands_there t m p x h) hk in
        rw ha (one_standard (decoded t) (stmt_a (decoded t) x.statement) (omega arith))

    module _ (v : ℕ) (hv : Evaluated t m p x a v) where
      pub address_fails : (r : ℕ) (s1 : List ℕ) → 65536 ≤ v → r ≡ v - 65536 → Becomes s1 (update (memory_of m) failure_at (v - 65536))
          → Stepped r s1 p (statement_step (decoded t) (memory_of m) (memory_of p) (context_in x))
      unfolding on_word
      address_fails r s1 g k c =
          let q = rw ha at (failed _ _ (told_failure _ v hv g)) in
          stands_fail t m p x h (v - 65536) r s1 (does ∙ value_failed _ _ (v - 65536) q) k c

      pub address_writing : v < 65536 → Writing t m p x v
      address_writing g = record { standing = h; kind = hk; below = stands_below t m p x h; address = rw ha at (told_word _ v hv g) }

-- ---- the laws of `write_value`

module _ (t m p : List ℕ) (x : Context) (i : ℕ) (c : Writing t m p x i) where
  then : perform (decoded t) (memory_of m) (memory_of p) (context_in x) (stmt_at (decoded t) x.statement)
      ≡ on_word (out t m p x (stmt_b (decoded t) x.statement)) 0 (λ v. writes (memory_of m) (memory_of p) x i v)
  then =
      let d = does t m p x c.standing c.kind in
      d
      ∙ word_goes (decoded t) (type_of (decoded t) (stmt_a (decoded t) x.statement)) _ _ i (apart _ _ d c.standing.unstuck)
      (typed_expression (decoded t) (memory_of m) (memory_of p) (context_in x) c.standing.ready.ranged (stmt_a (decoded t) x.statement)
      (address_there t m p x c.standing c.kind).expression
      (address_numbered (decoded t) c.standing.ready.typed x.statement (stands_there t m p x c.standing) c.kind))
      c.address

  value_there : Ev t m p x (stmt_b (decoded t) x.statement)
  unfolding on_word
  value_there =
      record {
        expression = write_value (decoded t) c.standing.ready.ranged x.statement (stands_there t m p x c.standing) c.kind;
        unstuck = value_unstuck _ _ (apart _ _ then c.standing.unstuck);
      }

  module _ (b : ℕ) (hb : b ≡ stmt_b (decoded t) x.statement) where
    pub writing_evaluable : Ev t m p x b
    writing_evaluable = rw hb value_there

    pub writing_one : OneWord (decoded t) b
    writing_one =
        let q = written_value (decoded t) c.standing.ready.typed x.statement (stands_there t m p x c.standing) c.kind in
        rw hb (one_standard (decoded t) (stmt_b (decoded t) x.statement) (omega arith))

    module _ (v : ℕ) (hv : Evaluated t m p x b v) where
      pub writing_fails : (r : ℕ) (s1 : List ℕ) → 65536 ≤ v → r ≡ v - 65536 → Becomes s1 (update (memory_of m) failure_at (v - 65536))
          → Stepped r s1 p (statement_step (decoded t) (memory_of m) (memory_of p) (context_in x))
      unfolding on_word
      writing_fails r s1 g k d =
          let q = rw hb at (failed _ _ (told_failure _ v hv g)) in
          stands_fail t m p x c.standing (v - 65536) r s1 (then ∙ value_failed _ _ (v - 65536) q) k d

      pub writing_returns : (r : ℕ) (s1 d1 : List ℕ) → v < 65536
          → Stepped r s1 d1 (settled (memory_of m) (memory_of p) (writes (memory_of m) (memory_of p) x i v))
          → Stepped r s1 d1 (statement_step (decoded t) (memory_of m) (memory_of p) (context_in x))
      unfolding statement_step context_in
      writing_returns r s1 d1 g d =
          let e = then ∙ word_goes (decoded t) (type_of (decoded t) (stmt_b (decoded t) x.statement)) _ _ v (apart _ _ then c.standing.unstuck)
          (typed_expression (decoded t) (memory_of m) (memory_of p) (context_in x) c.standing.ready.ranged (stmt_b (decoded t) x.statement) value_there.expression
          (written_numbered (decoded t) c.standing.ready.typed x.statement (stands_there t m p x c.standing) c.kind))
          (rw hb at (told_word _ v hv g)) in
          rw (← e) at d

pub ruleset writings = (write_fails, write_returns, address_evaluable, address_one, writing_evaluable, writing_one)

pub ruleset written = (writing_fails, writing_returns)
