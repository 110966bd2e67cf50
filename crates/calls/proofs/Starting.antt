-- Starts: what each call may ask, and each return. Assumes nothing.
use Prim.Native.Nat.{ℕ, ◌+◌, ◌<◌, ◌≤◌}
use mathlib.Core.Path.{◌≡◌, sym, ◌∙◌}
use mathlib.Core.Bool.{true}
use mathlib.Core.List.{List}
use native.Mathlib.Omega.{arith}
use borrow.Author.Tests.{ne_eqb, ltb-true, ltb-false, leb-true}
use lib.ListN.{length, take}
use lib.Dec.{leb, ltb}
use Rattle.std.specs.Prelude.{Result, Ok, Err}
use Rattle.basics.specs.Cases.{cases}
use Rattle.table.specs.Table.{Table}
use Rattle.table.specs.Entries.{type_count, node_count, block_count, type_kind, type_p, var_type, block_kind, first_var, params, vars, stmt_count, stmt_kind, stmt_a, stmt_c, stmt_d}
use Rattle.types.specs.Types.{type_of}
use Rattle.numbers.specs.Ranges.{in_range}
use Rattle.numbers.specs.Nodes.{Variable}
use Rattle.numbers.proofs.OperandPromise.{start_variable}
use Rattle.numbers.proofs.BlockPromise.{mode_local}
use Rattle.numbers.proofs.TypePromise.{process_module}
use Rattle.typing.specs.Typing.{typed}
use Rattle.typing.proofs.Promise.{module_param, started_variable, started_arguments}
use Rattle.sizes.specs.Sizes.{words_of, var_offset, module_words}
use Rattle.sizes.proofs.Sums.{sum_same}
use Rattle.sizes.proofs.Promise.{module_most}
use Rattle.words.specs.Values.{failure_number}
use Rattle.words.specs.declared.values.Failure.{Failure}
use Rattle.machine.specs.Memory.{Memory, memory_of, update}
use Rattle.machine.specs.Layout.{location, status_at, statement_at, failure_at}
use Rattle.machine.specs.Marks.{mark}
use Rattle.machine.specs.Lent.{State, Becomes}
use Rattle.machine.specs.Outcomes.{Outcome, ok, fail, stuck, and_then, need, fail_where}
use Rattle.machine.specs.Entries.{stmt_at}
use Rattle.machine.specs.Variables.{var_words, first_words, frame_words}
use Rattle.machine.specs.Context as machine
use Rattle.machine.specs.Operands.{operand}
use Rattle.machine.specs.Calls.{arguments}
use Rattle.machine.specs.Processes.{started}
use Rattle.machine.specs.Statements.{Effect, go_on, do_start, perform}
use Rattle.code.specs.Code.{slot_in, decoded}
use Rattle.operands.specs.declared.Context.{Context}
use Rattle.operands.specs.Ready.{context_in}
use Rattle.operands.proofs.Lending.{lends_type, variable_valued}
use Rattle.effects.specs.Effects.{statement_step, Stepped, Standing}
use Rattle.effects.proofs.Carrying.{performs_start}
use Rattle.transfers.specs.References.{reference_of, referred, Referring}
use Rattle.transfers.proofs.Referring.{follows, start_follows, follows_referring, follows_fails, follows_to, follows_refers}
use Rattle.transfers.proofs.Steps.{goes_on, stands_below, stands_lent, stands_there, stands_fail, stands_done}
use Rattle.calls.specs.Gathering.{Added, Adds, Calling}
use Rattle.calls.specs.Framing.{Framing, FrameCount}
use Rattle.calls.specs.Serving.{start_effect, start_of, Starting, Beginning}
use Rattle.calls.proofs.Passing.{need_through, need_is, kept}
use Rattle.calls.proofs.Entering.{stand_framing}

-- ---- the words of a module: it has no var parameters (13)

module _ (T : Table) (h : in_range T ≡ true) (g : typed T ≡ true) (b : ℕ) (l : b < block_count T) (k : block_kind T b ≡ 1) where
  own_words : (i : ℕ) → i < vars T b → var_words T (first_var T b + i) ≡ words_of T (var_type T (first_var T b + i))
  unfolding var_words
  own_words i q =
      cases (ltb i (params T b))
      (λ e. rw (module_param T g b l k i (ltb-true i (params T b) e)))
      (λ e. rw (mode_local T h b l i (ltb-false i (params T b) e) q))

  pub module_frame : frame_words T b ≡ module_words T b
  unfolding frame_words first_words module_words var_offset
  module_frame = sum_same (λ i. var_words T (first_var T b + i)) (λ i. words_of T (var_type T (first_var T b + i))) (vars T b) own_words

-- ---- the laws of `begin`

module _ (t m p : List ℕ) (x : Context) (r b : ℕ) (l : List ℕ) (n : ℕ) (h : Beginning t m p x r b l n) where
  pub beginning_framing : Framing t b
  beginning_framing = stand_framing t m p x h.standing b h.there

  pub beginning_lent : State m
  beginning_lent = stands_lent t m p x h.standing

  pub beginning_words : (size : ℕ) → size ≤ 457 → (n ≤ 256) × ((n ≤ length l) × (size < 65536))
  beginning_words size e = (h.few, (h.room, omega arith))

  pub beginning_size : (size : ℕ) → FrameCount (decoded t) b size → size ≡ module_words (decoded t) b
  beginning_size size c = let e = c.is in let q = h.exact in let u = h.most in omega arith

  pub beginning_done : (s1 : List ℕ) (c : ℕ) → c ≡ x.statement + 1
      → Becomes s1 (update (mark (started (decoded t) (memory_of m) r b (take n l)) (location r 0) (length (take n l))) (statement_at x.process) c)
      → Stepped 0 s1 p (statement_step (decoded t) (memory_of m) (memory_of p) (context_in x))
  beginning_done s1 c e i = stands_done t m p x h.standing 0 s1 _ h.performs (rw e at i)

-- ---- the laws of `start_once` and `start_created`

start_twice : (T : Table) (m page : Memory) (x : machine.Context) (v c d r : ℕ) → (m (status_at r) ≡ 1 → ⊥) → start_of T m page x v c d r ≡ fail 20
unfolding start_of fail_where
start_twice T m page x v c d r n = rw (ne_eqb (m (status_at r)) 1 n)

start_new : (T : Table) (m page : Memory) (x : machine.Context) (v c d r : ℕ) → m (status_at r) ≡ 1
    → start_of T m page x v c d r ≡ start_effect T m page x v r (arguments T m page x v c d)
unfolding start_of fail_where
start_new T m page x v c d r e = rw e

begun_stuck : (T : Table) (m page : Memory) (x : machine.Context) (v r : ℕ) (o : Outcome (List ℕ)) → o ≡ stuck → start_effect T m page x v r o ≡ stuck
unfolding start_effect and_then
begun_stuck T m page x v r o e = rw e

begun_fail : (T : Table) (m page : Memory) (x : machine.Context) (v r : ℕ) (o : Outcome (List ℕ)) (k : ℕ) → o ≡ fail k → start_effect T m page x v r o ≡ fail k
unfolding start_effect and_then
begun_fail T m page x v r o k e = rw e

begun_ok : (T : Table) (m page : Memory) (x : machine.Context) (v r : ℕ) (o : Outcome (List ℕ)) (ws : List ℕ) → o ≡ ok ws
    → start_effect T m page x v r o ≡ need (leb (length ws) 256) (go_on T m page x (mark (started T m r v ws) (location r 0) (length ws)))
unfolding start_effect and_then
begun_ok T m page x v r o ws e = rw e

module _ (t m p : List ℕ) (x : Context) (r : ℕ) (h : Starting t m p x r) where
  pub starting_lent : State m
  starting_lent = stands_lent t m p x h.standing

  pub starting_low : 1 ≤ r
  starting_low = h.low

  pub starting_high : r ≤ 64
  starting_high = h.high

  module _ (w : ℕ) (hw : w ≡ memory_of m (status_at r)) where
    pub starting_twice : (a : ℕ) (s1 : List ℕ) → (w ≡ 1 → ⊥) → a ≡ 20 → Becomes s1 (update (memory_of m) failure_at 20)
        → Stepped a s1 p (statement_step (decoded t) (memory_of m) (memory_of p) (context_in x))
    starting_twice a s1 n e c =
        stands_fail t m p x h.standing 20 a s1 (h.performs ∙ start_twice _ _ _ _ _ _ _ r (λ q. n (hw ∙ q))) e c

    pub starting_new : w ≡ 1 → memory_of m (status_at r) ≡ 1
    starting_new e = sym hw ∙ e

  module _ (e : memory_of m (status_at r) ≡ 1) (a τ b c d : ℕ) (ha : a ≡ stmt_a (decoded t) x.statement) (hs : τ ≡ slot_in t a 23)
      (hb : b ≡ type_p (decoded t) τ) (hc : c ≡ stmt_c (decoded t) x.statement) (hd : d ≡ stmt_d (decoded t) x.statement) where
    start_there : x.statement < stmt_count (decoded t)
    start_there = stands_there t m p x h.standing

    started_node : Variable (decoded t) (node_count (decoded t)) a
    started_node = rw ha (start_variable (decoded t) h.standing.ready.ranged x.statement start_there h.kind)

    hτ : τ ≡ type_of (decoded t) a
    hτ = lends_type t m p x h.standing.ready a τ started_node.below hs

    start_kind : type_kind (decoded t) τ ≡ 3
    start_kind = rw (hτ, ha) (started_variable (decoded t) h.standing.ready.typed x.statement start_there h.kind)

    -- a process type is that of a module
    start_module : (b < block_count (decoded t)) × (block_kind (decoded t) b ≡ 1)
    start_module =
        let g : τ < 3 + type_count (decoded t) = rw hτ (variable_valued t m p x h.standing.ready a started_node).type.there in
        rw hb (process_module (decoded t) h.standing.ready.ranged τ g start_kind)

    begin_is : perform (decoded t) (memory_of m) (memory_of p) (context_in x) (stmt_at (decoded t) x.statement)
        ≡ start_effect (decoded t) (memory_of m) (memory_of p) (context_in x) b r (arguments (decoded t) (memory_of m) (memory_of p) (context_in x) b c d)
    begin_is = rw (hb, hτ, ha, hc, hd) (h.performs ∙ start_new _ _ _ _ _ _ _ r e)

    pub start_calling : Calling (decoded t) (memory_of m) (memory_of p) (context_in x) b c d
    start_calling =
        record {
          fit = rw (hb, hτ, ha, hc, hd) (started_arguments (decoded t) h.standing.ready.typed x.statement start_there h.kind);
          unstuck = λ q. h.standing.unstuck (begin_is ∙ begun_stuck _ _ _ _ _ _ _ q);
        }

    module _ (l₀ l : List ℕ) (g : Result ℕ Failure) (i : Adds g l₀ 0 l (arguments (decoded t) (memory_of m) (memory_of p) (context_in x) b c d)) where
      pub start_fails : (k : Failure) (w : ℕ) (s1 : List ℕ) → g ≡ Err k → w ≡ failure_number k
          → Becomes s1 (update (memory_of m) failure_at (failure_number k))
          → Stepped w s1 p (statement_step (decoded t) (memory_of m) (memory_of p) (context_in x))
      start_fails k w s1 q v j =
          stands_fail t m p x h.standing (failure_number k) w s1 (begin_is ∙ begun_fail _ _ _ _ _ _ _ _ (rw q at i)) v j

      pub start_begins : (n : ℕ) → g ≡ Ok n → Beginning t m p x r b l n
      start_begins n q =
          let u : Added l₀ 0 l n (arguments (decoded t) (memory_of m) (memory_of p) (context_in x) b c d) = rw q at i in
          let j = begin_is ∙ begun_ok _ _ _ _ _ _ _ _ u.is in
          let v = kept _ _ j h.standing.unstuck in
          let few : length u.words ≤ 256 = leb-true _ _ (need_through _ _ v) in
          let long = u.put.long in
          let fit : n ≤ 256 = omega (arith, u.put.count) in
          let w : take n l ≡ u.words = u.put.words fit in
          let k = start_module in
          let ranged = h.standing.ready.ranged in
          let same = module_frame (decoded t) ranged h.standing.ready.typed b k.0 k.1 in
          record {
            standing = h.standing;
            below = stands_below t m p x h.standing;
            there = k.0;
            exact = same;
            most = module_most (decoded t) h.standing.ready.sized b k.0 (omega (arith, k.1));
            low = h.low;
            high = h.high;
            few = fit;
            room = omega arith;
            performs = j ∙ (need_is _ _ v ∙ (goes_on (decoded t) (memory_of m) (memory_of p) (mark (started (decoded t) (memory_of m) r b u.words) (location r 0) (length u.words)) x ∙ rw w));
          }

-- ---- the laws of `start`

module _ (T : Table) (m page : Memory) (x : machine.Context) (c d : ℕ) where
  abbrev starts : ℕ → ℕ → Outcome Effect
  starts v r = start_of T m page x v c d r

  pub the_start : (a : ℕ) → do_start T m page x a c d ≡ follows T m page x a (λ v. true) starts
  unfolding do_start start_of start_effect
  the_start a = start_follows T m page x a starts

module _ (t m p : List ℕ) (x : Context) (h : Standing t m p x)
    (k : stmt_kind (decoded t) x.statement ≡ 5) (a : ℕ) (ha : a ≡ stmt_a (decoded t) x.statement) where
  abbrev the_starts : ℕ → ℕ → Outcome Effect
  the_starts = starts (decoded t) (memory_of m) (memory_of p) (context_in x) (stmt_c (decoded t) x.statement) (stmt_d (decoded t) x.statement)

  start_is : perform (decoded t) (memory_of m) (memory_of p) (context_in x) (stmt_at (decoded t) x.statement)
      ≡ follows (decoded t) (memory_of m) (memory_of p) (context_in x) a (λ v. true) the_starts
  unfolding context_in
  start_is =
      rw ha
      (performs_start (decoded t) (memory_of m) (memory_of p) (context_in x) h.unstuck k
      ∙ the_start (decoded t) (memory_of m) (memory_of p) (context_in x) _ _ _)

  start_node : Variable (decoded t) (node_count (decoded t)) a
  start_node = rw ha (start_variable (decoded t) h.ready.ranged x.statement (stands_there t m p x h) k)

  pub start_referring : Referring (decoded t) (memory_of m) (memory_of p) (context_in x) a
  start_referring =
      follows_referring (decoded t) (memory_of m) (memory_of p) (context_in x) h.ready.ranged a start_node (λ v. true) the_starts
      (kept _ _ start_is h.unstuck)

  module _ (l : Result ℕ Failure) (hl : referred l ≡ reference_of (decoded t) (memory_of m) (operand (decoded t) (memory_of m) (memory_of p) (context_in x) a)) where
    pub start_refuses : (e : Failure) (w : ℕ) (s1 : List ℕ) → l ≡ Err e → w ≡ failure_number e
        → Becomes s1 (update (memory_of m) failure_at (failure_number e))
        → Stepped w s1 p (statement_step (decoded t) (memory_of m) (memory_of p) (context_in x))
    start_refuses e w s1 g v c =
        stands_fail t m p x h (failure_number e) w s1
        (start_is
        ∙ follows_fails (decoded t) (memory_of m) (memory_of p) (context_in x) h.ready.ranged a start_node (λ v. true) the_starts
        (kept _ _ start_is h.unstuck) l hl e g)
        v c

    pub start_starting : (r : ℕ) → l ≡ Ok r → Starting t m p x r
    start_starting r g =
        let i = follows_refers (decoded t) (memory_of m) (memory_of p) (context_in x) h.ready.ranged a start_node (λ v. true) the_starts
        (kept _ _ start_is h.unstuck) l hl r g in
        let d = follows_to (decoded t) (memory_of m) (memory_of p) (context_in x) h.ready.ranged a start_node (λ v. true) the_starts
        (kept _ _ start_is h.unstuck) l hl r g in
        let low = i.low in
        let high = i.high in
        let most = h.created in
        record { standing = h; kind = k; low = omega arith; high = omega arith; performs = start_is ∙ (d ∙ rw ha) }
