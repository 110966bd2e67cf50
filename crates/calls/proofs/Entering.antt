-- Procedures entered: what each call may ask, and each return. Assumes nothing.
use Prim.Native.Nat.{ℕ, ◌+◌, ◌<◌, ◌≤◌}
use mathlib.Core.Path.{◌≡◌, refl, sym, ap, ◌∙◌}
use mathlib.Core.Bool.{Bool, true, false}
use mathlib.Core.List.{List, []}
use native.Mathlib.Omega.{arith}
use borrow.Author.Tests.{eqb-true, ltb-true, ltb-false}
use lib.ListN.{length, take}
use lib.Dec.{ltb}
use Rattle.std.specs.Prelude.{Result, Ok, Err}
use Rattle.basics.specs.Cases.{cases}
use Rattle.basics.proofs.Bools.{both_l, both_r}
use Rattle.table.specs.Table.{Table}
use Rattle.table.specs.Entries.{block_count, block_kind, owner, stmt_kind, stmt_a, stmt_c, stmt_d}
use Rattle.typing.proofs.Promise.{local-call}
use Rattle.words.specs.Values.{failure_number}
use Rattle.words.specs.declared.values.Failure.{Failure}
use Rattle.machine.specs.Memory.{Memory, memory_of, update}
use Rattle.machine.specs.Layout.{failure_at, frame_at, top_at, works_at}
use Rattle.machine.specs.Lent.{State, Becomes}
use Rattle.machine.specs.Outcomes.{Outcome, ok, fail, stuck, and_then, need, fail_where}
use Rattle.machine.specs.Entries.{stmt_at}
use Rattle.machine.specs.Variables.{frame_words, is_procedure}
use Rattle.machine.specs.Context as machine
use Rattle.machine.specs.Context.{context_of}
use Rattle.machine.specs.Space.{space_full}
use Rattle.machine.specs.Calls.{argument_words, arguments, pushed, frame_marked, call}
use Rattle.machine.specs.Statements.{Effect, effect, moved, do_local_call, perform}
use Rattle.code.specs.Code.{decoded}
use Rattle.prepare.specs.Prepared.{Prepared}
use Rattle.operands.specs.declared.Context.{Context}
use Rattle.operands.specs.Ready.{context_in}
use Rattle.frames.specs.Frames.{FrameFits}
use Rattle.frames.proofs.Asking.{call_room, call_over, call_fits, call_done}
use Rattle.effects.specs.Effects.{statement_step, Stepped, Standing}
use Rattle.effects.proofs.Carrying.{performs_local}
use Rattle.transfers.proofs.Steps.{stands_lent, stands_there, stands_fail, stands_done}
use Rattle.calls.specs.Gathering.{Added, Adds, Calling}
use Rattle.calls.specs.Framing.{Framing, FrameCount}
use Rattle.calls.specs.Entering.{limit_of, invoked, Invoking, Entering}
use Rattle.calls.proofs.Passing.{need_through, need_is, kept}
use Rattle.calls.proofs.Limits.{stand_works, stand_owner, stand_module, limits_local}

-- ---- what a statement has left

module _ (t m p : List ℕ) (x : Context) (h : Standing t m p x) where
  pub stand_low : 1 ≤ x.process
  stand_low = h.ready.context.process_low

  pub stand_high : x.process ≤ 64
  stand_high = h.ready.context.process_high

  pub stand_frame : x.frame ≡ memory_of m (frame_at x.process)
  unfolding context_in context_of
  stand_frame = ap (λ (y : machine.Context). y.frame) h.here

  pub stand_framing : (b : ℕ) → b < block_count (decoded t) → Framing t b
  stand_framing b l = record { code = h.ready.code; ranged = h.ready.ranged; sized = h.ready.sized; there = l }

-- ---- the laws of `is_over`

pub over-is : (m : List ℕ) (p size limit w : ℕ) → w ≡ memory_of m (top_at p) → ltb limit (w + 4 + size) ≡ ltb limit (memory_of m (top_at p) + 4 + size)
over-is m p size limit w e = rw e

-- ---- the laws of `enter_local` and `enter_process`

moved_fail : (T : Table) (m page : Memory) (x : machine.Context) (o : Outcome Memory) (k : ℕ) → o ≡ fail k → moved T m page x o ≡ fail k
unfolding moved and_then
moved_fail T m page x o k e = rw e

pub moved_ok : (T : Table) (m page : Memory) (x : machine.Context) (o : Outcome Memory) (a : Memory) → o ≡ ok a → moved T m page x o ≡ ok (effect 0 a page)
unfolding moved and_then
moved_ok T m page x o a e = rw e

pub moved_stuck : (T : Table) (m page : Memory) (x : machine.Context) (o : Outcome Memory) → o ≡ stuck → moved T m page x o ≡ stuck
unfolding moved and_then
moved_stuck T m page x o e = rw e

failed_full : (b : Bool) (o : Outcome Effect) → b ≡ true → fail_where b 22 o ≡ fail 22
unfolding fail_where
failed_full b o e = rw e

passed_full : (b : Bool) (o : Outcome Effect) → b ≡ false → fail_where b 22 o ≡ o
unfolding fail_where
passed_full b o e = rw e

module _ (t m p : List ℕ) (x : Context) (q k : ℕ) (st : Memory) (r : ℕ) (l : List ℕ) (n : ℕ)
    (h : Entering t m p x q k st r l n) where
  abbrev the_call : Outcome Memory
  the_call = call (decoded t) (memory_of m) (memory_of p) (context_of (memory_of m) x.process) st q r h.words

  call_here : call (decoded t) (memory_of m) (memory_of p) (context_in x) st q r h.words ≡ the_call
  call_here = rw h.standing.here

  pub entering_code : Prepared t
  entering_code = h.standing.ready.code

  pub entering_there : q < block_count (decoded t)
  entering_there = h.there

  pub entering_kind : block_kind (decoded t) q ≡ 2
  entering_kind = h.kind

  pub entering_owner : owner (decoded t) x.block < block_count (decoded t)
  entering_owner = stand_owner t m p x h.standing

  pub entering_module : block_kind (decoded t) (owner (decoded t) x.block) ≡ 2 → ⊥
  entering_module = stand_module t m p x h.standing

  pub entering_lent : State m
  entering_lent = stands_lent t m p x h.standing

  pub entering_low : 1 ≤ x.process
  entering_low = stand_low t m p x h.standing

  pub entering_high : x.process ≤ 64
  entering_high = stand_high t m p x h.standing

  pub entering_small : q < 65536
  entering_small = h.small

  -- what is reserved is not full: the call is made
  module _ (f : h.full ≡ false) where
    calls : perform (decoded t) (memory_of m) (memory_of p) (context_in x) (stmt_at (decoded t) x.statement)
        ≡ moved (decoded t) (memory_of m) (memory_of p) (context_in x) (call (decoded t) (memory_of m) (memory_of p) (context_in x) st q r h.words)
    calls = h.performs ∙ passed_full h.full _ f

    call_unstuck : the_call ≡ stuck → ⊥
    call_unstuck e = h.standing.unstuck (calls ∙ moved_stuck _ _ _ _ _ (call_here ∙ e))

  module _ (size limit : ℕ) (hs : FrameCount (decoded t) q size) (hl : limit ≡ k) (b : Bool)
      (hb : b ≡ ltb limit (memory_of m (top_at x.process) + 4 + size)) where
    module _ (e : b ≡ true) where
      above : k < memory_of m (top_at x.process) + 4 + frame_words (decoded t) q
      above =
          let g = ltb-true limit (memory_of m (top_at x.process) + 4 + size) (sym hb ∙ e) in
          let i = hs.is in
          let j = h.limits.most in omega arith

      fails : perform (decoded t) (memory_of m) (memory_of p) (context_in x) (stmt_at (decoded t) x.statement) ≡ fail 22
      fails =
          cases h.full
          (λ f. h.performs ∙ failed_full h.full _ f)
          (λ f.
          let d = call_over (decoded t) (memory_of m) (memory_of p) st x.process q r h.words (call_unstuck f) (h.limits.below f above) in
          calls f ∙ moved_fail _ _ _ _ _ _ (call_here ∙ d))

      pub entering_over : (a : ℕ) (s1 : List ℕ) → a ≡ 22 → Becomes s1 (update (memory_of m) failure_at 22)
          → Stepped a s1 p (statement_step (decoded t) (memory_of m) (memory_of p) (context_in x))
      entering_over a s1 e c = stands_fail t m p x h.standing 22 a s1 fails e c

    module _ (e : b ≡ false) where
      under : memory_of m (top_at x.process) + 4 + size ≤ k
      under = let g = ltb-false limit (memory_of m (top_at x.process) + 4 + size) (sym hb ∙ e) in omega arith

      pub entering_size : size ≡ frame_words (decoded t) q
      entering_size = let g = under in let i = h.limits.most in let j = hs.is in omega arith

      fits_under : memory_of m (top_at x.process) + 4 + frame_words (decoded t) q ≤ 256
      fits_under = let g = under in let j = h.limits.most in let i = entering_size in omega arith

      not_full : h.full ≡ false
      not_full = cases h.full (λ f. let g = under in let i = entering_size in let j = h.limits.above f in absurd (omega arith)) (λ f. f)

      pub entering_fits : FrameFits (memory_of m) x.process size
      entering_fits =
          rw entering_size
          (call_fits (decoded t) (memory_of m) (memory_of p) st x.process q r h.words (call_unstuck not_full) fits_under
          entering_low entering_high)

      fitting : length h.words ≤ frame_words (decoded t) q
      fitting = call_room (decoded t) (memory_of m) (memory_of p) st x.process q r h.words (call_unstuck not_full)

      few : n ≤ 256
      few = let g = fitting in let i = fits_under in let j = h.count in omega arith

      pub entering_room : n ≤ size
      entering_room = let g = fitting in let i = h.count in let j = entering_size in omega arith

      pub entering_held : n ≤ length l
      entering_held = h.room few

      pub entering_done : (s1 : List ℕ)
          → Becomes s1 (frame_marked (decoded t) (memory_of m) (memory_of p) (context_of (memory_of m) x.process) (pushed (decoded t) (memory_of m) (memory_of p) (context_of (memory_of m) x.process) st q r (take n l)) q (take n l))
          → Stepped 0 s1 p (statement_step (decoded t) (memory_of m) (memory_of p) (context_in x))
      entering_done s1 c =
          let d = call_done (decoded t) (memory_of m) (memory_of p) st x.process q r h.words (call_unstuck not_full) fits_under in
          stands_done t m p x h.standing 0 s1 _ (calls not_full ∙ moved_ok _ _ _ _ _ _ (call_here ∙ d)) (rw (h.first few) at c)

-- a local call works on the same process
module _ (t m p : List ℕ) (x : Context) (q k : ℕ) (l : List ℕ) (n : ℕ)
    (h : Entering t m p x q k (memory_of m) x.works l n) (size limit : ℕ) (hs : FrameCount (decoded t) q size) (hl : limit ≡ k) (b : Bool)
    (hb : b ≡ ltb limit (memory_of m (top_at x.process) + 4 + size)) (e : b ≡ false) where
  pub entering_local : (s1 : List ℕ)
      → ((page : Memory) → Becomes s1 (frame_marked (decoded t) (memory_of m) page (context_of (memory_of m) x.process) (pushed (decoded t) (memory_of m) page (context_of (memory_of m) x.process) (memory_of m) q (memory_of m (works_at x.process)) (take n l)) q (take n l)))
      → Stepped 0 s1 p (statement_step (decoded t) (memory_of m) (memory_of p) (context_in x))
  entering_local s1 c =
      entering_done t m p x q k (memory_of m) x.works l n h size limit hs hl b hb e s1
      (rw (stand_works t m p x h.standing) (c (memory_of p)))

-- ---- the arguments of a call

invoked_stuck : (T : Table) (m page : Memory) (x : machine.Context) (full : Bool) (st : Memory) (q r : ℕ) (o : Outcome (List ℕ)) → o ≡ stuck
    → invoked T m page x full st q r o ≡ stuck
unfolding invoked and_then
invoked_stuck T m page x full st q r o e = rw e

invoked_fail : (T : Table) (m page : Memory) (x : machine.Context) (full : Bool) (st : Memory) (q r : ℕ) (o : Outcome (List ℕ)) (k : ℕ) → o ≡ fail k
    → invoked T m page x full st q r o ≡ fail k
unfolding invoked and_then
invoked_fail T m page x full st q r o k e = rw e

invoked_ok : (T : Table) (m page : Memory) (x : machine.Context) (full : Bool) (st : Memory) (q r : ℕ) (o : Outcome (List ℕ)) (ws : List ℕ) → o ≡ ok ws
    → invoked T m page x full st q r o ≡ fail_where full 22 (moved T m page x (call T m page x st q r ws))
unfolding invoked and_then
invoked_ok T m page x full st q r o ws e = rw e

module _ (t m p : List ℕ) (x : Context) (q c d k : ℕ) (st : Memory) (r : ℕ)
    (h : Invoking t m p x q c d k st r) where
  pub invoking_lent : State m
  invoking_lent = stands_lent t m p x h.standing

  pub invoking_calling : Calling (decoded t) (memory_of m) (memory_of p) (context_in x) q c d
  invoking_calling =
      record { fit = h.fit; unstuck = λ e. h.standing.unstuck (h.performs ∙ invoked_stuck _ _ _ _ _ _ _ _ _ e) }

  pub invoking_none : (l : List ℕ) → d ≡ 0 → Entering t m p x q k st r l 0
  unfolding arguments argument_words
  invoking_none l e =
      let a : arguments (decoded t) (memory_of m) (memory_of p) (context_in x) q c d ≡ ok [] = need_is _ _ invoking_calling.unstuck ∙ rw e in
      record {
        standing = h.standing;
        there = h.there;
        kind = h.kind;
        small = h.small;
        full = h.full;
        limits = h.limits;
        words = [];
        count = omega arith;
        room = λ i. omega arith;
        first = λ i. refl;
        performs = h.performs ∙ invoked_ok _ _ _ _ _ _ _ _ _ _ a;
      }

  module _ (l₀ l : List ℕ) (g : Result ℕ Failure) (a : Adds g l₀ 0 l (arguments (decoded t) (memory_of m) (memory_of p) (context_in x) q c d)) where
    pub invoking_fails : (f : Failure) (w : ℕ) (s1 : List ℕ) → g ≡ Err f → w ≡ failure_number f
        → Becomes s1 (update (memory_of m) failure_at (failure_number f))
        → Stepped w s1 p (statement_step (decoded t) (memory_of m) (memory_of p) (context_in x))
    invoking_fails f w s1 e v i =
        stands_fail t m p x h.standing (failure_number f) w s1 (h.performs ∙ invoked_fail _ _ _ _ _ _ _ _ _ _ (rw e at a)) v i

    pub invoking_enters : (n : ℕ) → g ≡ Ok n → Entering t m p x q k st r l n
    invoking_enters n e =
        let u : Added l₀ 0 l n (arguments (decoded t) (memory_of m) (memory_of p) (context_in x) q c d) = rw e at a in
        let w = u.put.long in
        record {
          standing = h.standing;
          there = h.there;
          kind = h.kind;
          small = h.small;
          full = h.full;
          limits = h.limits;
          words = u.words;
          count = omega (arith, u.put.count);
          room = λ i. omega arith;
          first = u.put.words;
          performs = h.performs ∙ invoked_ok _ _ _ _ _ _ _ _ _ _ u.is;
        }

-- ---- the laws of `local_call`

module _ (t m p : List ℕ) (x : Context) (h : Standing t m p x)
    (k : stmt_kind (decoded t) x.statement ≡ 2) where
  local_is : perform (decoded t) (memory_of m) (memory_of p) (context_in x) (stmt_at (decoded t) x.statement)
      ≡ need (is_procedure (decoded t) (stmt_a (decoded t) x.statement))
      (invoked (decoded t) (memory_of m) (memory_of p) (context_in x) (space_full (decoded t) (memory_of m) (context_in x) (stmt_a (decoded t) x.statement))
      (memory_of m) (stmt_a (decoded t) x.statement) x.works
      (arguments (decoded t) (memory_of m) (memory_of p) (context_in x) (stmt_a (decoded t) x.statement) (stmt_c (decoded t) x.statement) (stmt_d (decoded t) x.statement)))
  unfolding context_in do_local_call invoked
  local_is = performs_local (decoded t) (memory_of m) (memory_of p) (context_in x) h.unstuck k

  pub local_invoking : (q c d : ℕ) → q ≡ stmt_a (decoded t) x.statement → c ≡ stmt_c (decoded t) x.statement
      → d ≡ stmt_d (decoded t) x.statement → q < 65536
      → Invoking t m p x q c d (limit_of (decoded t) x) (memory_of m) x.works
  unfolding is_procedure
  local_invoking q c d hq hc hd l =
      let g = kept _ _ local_is h.unstuck in
      let i = need_through _ _ g in
      rw (hq, hc, hd)
      record {
        standing = h;
        there = ltb-true _ _ (both_l _ _ i);
        kind = eqb-true _ _ (both_r _ _ i);
        small = rw hq at l;
        full = space_full (decoded t) (memory_of m) (context_in x) (stmt_a (decoded t) x.statement);
        limits = limits_local t m p x h (stmt_a (decoded t) x.statement);
        fit = local-call (decoded t) h.ready.typed x.statement (stands_there t m p x h) k;
        performs = local_is ∙ need_is _ _ g;
      }

  pub local_none : (q d : ℕ) (l : List ℕ) → q ≡ stmt_a (decoded t) x.statement → d ≡ stmt_d (decoded t) x.statement → q < 65536 → d ≡ 0
      → Entering t m p x q (limit_of (decoded t) x) (memory_of m) x.works l 0
  local_none q d l hq hd g e = invoking_none t m p x q _ d _ (memory_of m) x.works (local_invoking q _ d hq refl hd g) l e
