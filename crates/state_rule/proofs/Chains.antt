-- The calls of a process and the processes of a state: the laws of each return. Assumes nothing.
use Prim.Native.Nat.{ℕ, zero, suc, ◌+◌, ◌-◌, ◌*◌, ◌≤◌, ◌<◌}
use mathlib.Core.Path.{◌≡◌, refl, sym, ◌∙◌}
use mathlib.Core.Bool.{Bool, true, false, not}
use lib.Dec.{eqb, ltb, leb}
use native.Mathlib.Omega.{arith}
use native.Mathlib.Nat.{add-zero}
use mir.Val.{Fits}
use mir.Syntax.{w64}
use borrow.Author.Tests.{eq-eqb, ne_eqb, le-leb, lt-leb, lt-ltb, le-ltb, eqb-true, leb-true}
use Rattle.basics.specs.Choice.{both, either, between}
use Rattle.basics.specs.Cases.{cases}
use Rattle.basics.proofs.Bools.{both_l, both_r, both_i, both_false_l, both_false_r}
use Rattle.table.specs.Table.{Table}
use Rattle.table.specs.Entries.{block_count, stmt_count, var_type, owner, first_var, vars, first_stmt, stmt_kind, stmt_a, stmt_b, stmt_c, stmt_d, stmt_link, stmt_limit}
use Rattle.sizes.specs.Sizes.{words_of, var_offset, module_words}
use Rattle.sizes.proofs.Judging.{var_none, var_more}
use Rattle.machine.specs.Memory.{Memory}
use Rattle.machine.specs.Layout.{location, link_at, status_at, module_at, statement_at, frame_at, top_at, works_at, holder_at, depth_at, created_at, failure_at, number_at, caller_frame, call_statement, caller_works, called_block}
use Rattle.machine.specs.Entries.{waits, statement_of, stmt_at}
use Rattle.machine.proofs.Entries.{statement_cases}
use Rattle.machine.specs.Variables.{var_words, first_words, frame_words, is_procedure}
use Rattle.machine.specs.Rule.{lies_in, calls, may_wait, is_created, worked, holds_on, works_by, modules_hold, frames_hold, frame_ok, chain, module_ok, started_ok, process_ok, failure_ok, run_ok, rule}
use Rattle.machine.specs.Outcomes.{is_failure}
use Rattle.values.specs.Walks.{WordCount}
use Rattle.state_rule.specs.Chains.{Sum, Summed, started_of, frame_fits, called_ok, call_made, call_ok, base_ok, Left, running_ok, process_row, processes_hold}
use Rattle.values.proofs.Parts.{first-none, first_more}

-- two tests that hold together are one
same_test : (a b : Bool) → (a ≡ true → b ≡ true) → (b ≡ true → a ≡ true) → a ≡ b
same_test true b f g = sym (f refl)
same_test false true f g = g refl
same_test false false f g = refl

both_go : (a b : Bool) → a ≡ true → both a b ≡ b
unfolding both
both_go a b e = rw e

-- ---- statements

pub next_more : (T : Table) (b n r : ℕ) → n ≡ block_count T → b + 1 < n → r ≡ first_stmt T (b + 1) → r ≡ stmt_limit T b
unfolding stmt_limit
next_more T b n r e l h = rw (← e, lt-ltb (b + 1) n l) h

pub next_last : (T : Table) (b n r : ℕ) → n ≡ block_count T → n ≤ b + 1 → r ≡ stmt_count T → r ≡ stmt_limit T b
unfolding stmt_limit
next_last T b n r e l h = rw (← e, le-ltb (b + 1) n l) h

pub lies_before : (T : Table) (b c k : ℕ) → k ≡ first_stmt T b → c < k → false ≡ lies_in T b c
unfolding lies_in both
lies_before T b c k e l = rw (← e, lt-leb k c l)

pub lies_after : (T : Table) (b c k n : ℕ) → k ≡ first_stmt T b → k ≤ c → n ≡ stmt_limit T b → ltb c n ≡ lies_in T b c
unfolding lies_in both
lies_after T b c k n e l h = rw (← e, le-leb k c l, ← h)

-- a statement that is no call, or no when or cycle
no_call : (q k a b c d l : ℕ) → (k ≡ 2 → ⊥) → (k ≡ 3 → ⊥) → calls q (statement_of k a b c d l) ≡ false
unfolding calls
no_call q k a b c d l h g =
    statement_cases (λ s. calls q s ≡ false) k a b c d l
    (λ e. refl) (λ e. refl) (λ e. absurd (h e)) (λ e. absurd (g e)) (λ e. refl) (λ e. refl) (λ e. refl) (λ e. refl) (λ e. refl) (λ e. refl) (λ e. refl) (λ e. refl) (λ e. refl) (λ e. refl) refl

no_wait : (k a b c d l : ℕ) → (k ≡ 8 → ⊥) → (k ≡ 9 → ⊥) → may_wait (statement_of k a b c d l) ≡ false
unfolding may_wait waits
no_wait k a b c d l h g =
    statement_cases (λ s. may_wait s ≡ false) k a b c d l
    (λ e. refl) (λ e. refl) (λ e. refl) (λ e. refl) (λ e. refl) (λ e. refl) (λ e. refl) (λ e. refl) (λ e. absurd (h e)) (λ e. absurd (g e)) (λ e. refl) (λ e. refl) (λ e. refl) (λ e. refl) refl

module _ (T : Table) (c n : ℕ) (e : n ≡ stmt_count T) where
  pub wait_beyond : n ≤ c → false ≡ may_wait (stmt_at T c)
  unfolding stmt_at may_wait
  wait_beyond l = rw (← e, le-ltb c n l)

  module _ (l : c < n) (k : ℕ) (hk : k ≡ stmt_kind T c) where
    pub wait_when : k ≡ 8 → true ≡ may_wait (stmt_at T c)
    unfolding stmt_at statement_of may_wait waits
    wait_when h = rw (← e, lt-ltb c n l, ← hk, h)

    pub wait_cycle : k ≡ 9 → true ≡ may_wait (stmt_at T c)
    unfolding stmt_at statement_of may_wait waits
    wait_cycle h = rw (← e, lt-ltb c n l, ← hk, h)

    pub wait_none : (k ≡ 8 → ⊥) → (k ≡ 9 → ⊥) → false ≡ may_wait (stmt_at T c)
    unfolding stmt_at
    wait_none h g = rw (← e, lt-ltb c n l, ← hk) (sym (no_wait k (stmt_a T c) (stmt_b T c) (stmt_c T c) (stmt_d T c) (stmt_link T c) h g))

pub ruleset waiting = (wait_beyond, wait_when, wait_cycle, wait_none)

-- who holds what a process works on
module _ (T : Table) (m : Memory) (p w h : ℕ) (hh : h ≡ m (holder_at w)) where
  pub held_by : h ≡ p → true ≡ holds_on T m p w
  unfolding holds_on either
  held_by e = rw (← hh, eq-eqb h p e)

  module _ (e : h ≡ p → ⊥) (v : ℕ) (hv : v ≡ m (works_at p)) where
    pub held_waits : (i : ℕ) (r : Bool) → w ≡ v → i ≡ m (statement_at p) → r ≡ may_wait (stmt_at T i) → r ≡ holds_on T m p w
    unfolding holds_on either both
    held_waits i r g hi z = rw (← hh, ne_eqb h p e, ← hv, eq-eqb w v g, ← hi) z

    pub held_not : (w ≡ v → ⊥) → false ≡ holds_on T m p w
    unfolding holds_on either both
    held_not g = rw (← hh, ne_eqb h p e, ← hv, ne_eqb w v g)

pub ruleset holding = (held_by, held_waits, held_not)

-- the statement that made a call
module _ (T : Table) (m : Memory) (p d f w q c n : ℕ) (e : n ≡ stmt_count T) where
  pub made_beyond : n ≤ c → false ≡ call_made T m p d f w q c
  unfolding call_made stmt_at calls both
  made_beyond l = rw (← e, le-ltb c n l)

  module _ (l : c < n) (k : ℕ) (hk : k ≡ stmt_kind T c) where
    module _ (h : k ≡ 2) (a : ℕ) (ha : a ≡ stmt_a T c) where
      pub local_other : (a ≡ q → ⊥) → false ≡ call_made T m p d f w q c
      unfolding call_made stmt_at statement_of calls both
      local_other g = rw (← e, lt-ltb c n l, ← hk, h, ← ha, ne_eqb a q g)

      pub local_made : (v : ℕ) → a ≡ q → v ≡ m (location p (f + 2)) → eqb v w ≡ call_made T m p d f w q c
      unfolding call_made stmt_at statement_of calls works_by link_at both
      local_made v g hv = rw (← e, lt-ltb c n l, ← hk, h, ← ha, eq-eqb a q g, ← hv)

    module _ (h : k ≡ 3) (b : ℕ) (hb : b ≡ stmt_b T c) where
      pub process_other : (b ≡ q → ⊥) → false ≡ call_made T m p d f w q c
      unfolding call_made stmt_at statement_of calls both
      process_other g = rw (← e, lt-ltb c n l, ← hk, h, ← hb, ne_eqb b q g)

      pub process_made : (g v : ℕ) (r : Bool) → b ≡ q → v ≡ m (location p (f + 2)) → g ≡ m (location p f) → r ≡ worked m p d g v w → not r ≡ call_made T m p d f w q c
      unfolding call_made stmt_at statement_of calls works_by link_at both
      process_made g v r x hv hg z = rw (← e, lt-ltb c n l, ← hk, h, ← hb, eq-eqb b q x, add-zero f, ← hg, ← hv, ← z)

    pub made_none : (k ≡ 2 → ⊥) → (k ≡ 3 → ⊥) → false ≡ call_made T m p d f w q c
    unfolding call_made stmt_at
    made_none h g = rw (← e, lt-ltb c n l, ← hk) (sym (both_false_l _ _ (no_call q k (stmt_a T c) (stmt_b T c) (stmt_c T c) (stmt_d T c) (stmt_link T c) h g)))

pub ruleset making = (made_beyond, local_other, local_made, process_other, process_made, made_none)

-- ---- the words of a block's variables

module _ (begin : ℕ → ℕ) where
  summed_none : begin 0 ≡ 0 → Summed begin 0 0
  summed_none e = record { is = sym e; small = omega arith }

  summed_more : (i k w : ℕ) → Summed begin i k → w ≤ 200 → begin (i + 1) ≡ begin i + w → Summed begin (i + 1) (k + w)
  summed_more i k w h l e = let u = h.is in let v = h.small in record { is = omega arith; small = omega arith }

  pub summed_fits : (i k n v w : ℕ) → Summed begin i k → i < n → n < 65536 → WordCount v w → Fits w64 (k + w)
  summed_fits i k n v w h l g x = let u = h.small in let z = x.small in record { fits = omega arith }

  summed_all : (i k n : ℕ) → Summed begin i k → i ≤ n → n ≤ i → n < 65536 → Sum (begin n) k
  summed_all i k n h l g z = let e : i ≡ n = omega arith in let v = h.small in record { is = rw (← e) h.is; small = omega arith }

module _ (T : Table) (b : ℕ) where
  pub frame_none : Summed (first_words T b) 0 0
  frame_none = summed_none (first_words T b) (first-none T b)

  pub module_none : Summed (var_offset T b) 0 0
  module_none = summed_none (var_offset T b) (var_none T b)

  module _ (i k first : ℕ) (hp : first ≡ first_var T b) where
    pub frame_more : (w : ℕ) → Summed (first_words T b) i k → WordCount (var_words T (first + i)) w → Summed (first_words T b) (i + 1) (k + w)
    frame_more w h x = summed_more (first_words T b) i k w h x.small (first_more T b i ∙ rw (← hp, ← x.is))

    pub module_more : (y w : ℕ) → Summed (var_offset T b) i k → y ≡ var_type T (first + i) → WordCount (words_of T y) w → Summed (var_offset T b) (i + 1) (k + w)
    module_more y w h g x = summed_more (var_offset T b) i k w h x.small (var_more T b i ∙ rw (← hp, ← g, ← x.is))

  module _ (i k n : ℕ) (e : n ≡ vars T b) (l : i ≤ n) (g : n ≤ i) (z : n < 65536) where
    pub frame_all : Summed (first_words T b) i k → Sum (frame_words T b) k
    unfolding frame_words
    frame_all h = rw (← e) (summed_all (first_words T b) i k n h l g z)

    pub module_all : Summed (var_offset T b) i k → Sum (module_words T b) k
    unfolding module_words
    module_all h = rw (← e) (summed_all (var_offset T b) i k n h l g z)

pub ruleset sums = (frame_none, frame_more, frame_all, module_none, module_more, module_all)

-- ---- frames

module _ (m : Memory) (b w : ℕ) where
  pub of_low : w < 1 → false ≡ started_of m b w
  unfolding started_of between both
  of_low h = rw (lt-leb 1 w h)

  module _ (c : ℕ) (e : c ≡ m created_at) (l : 1 ≤ w) where
    pub of_high : c < w → false ≡ started_of m b w
    unfolding started_of between both
    of_high h = rw (le-leb 1 w l, ← e, lt-leb w c h)

    module _ (h : w ≤ c) (s : ℕ) (hs : s ≡ m (status_at w)) where
      pub of_fresh : s ≡ 1 → false ≡ started_of m b w
      unfolding started_of between both
      of_fresh g = rw (le-leb 1 w l, ← e, le-leb w c h, ← hs, eq-eqb s 1 g)

      pub of_block : (k : ℕ) → (s ≡ 1 → ⊥) → k ≡ m (module_at w) → eqb b k ≡ started_of m b w
      unfolding started_of between both
      of_block k g z = rw (le-leb 1 w l, ← e, le-leb w c h, ← hs, ne_eqb s 1 g, ← z)

pub ruleset members = (of_low, of_high, of_fresh, of_block)

module _ (T : Table) (m : Memory) (w q : ℕ) (x : Bool) (h : x ≡ is_procedure T q) where
  pub called_none : x ≡ false → false ≡ called_ok T m w q
  unfolding called_ok both
  called_none e = rw (← h, e)

  pub called_some : (b : ℕ) (r : Bool) → x ≡ true → b ≡ owner T q → r ≡ started_of m b w → r ≡ called_ok T m w q
  unfolding called_ok both
  called_some b r e g z = rw (← h, e, ← g) z

module _ (T : Table) (f top q : ℕ) where
  pub fits_far : 256 < f + 4 → false ≡ frame_fits T f top q
  unfolding frame_fits both
  fits_far h = rw (lt-leb (f + 4) 256 h)

  pub fits_high : f + 4 ≤ 256 → 256 < top → false ≡ frame_fits T f top q
  unfolding frame_fits both
  fits_high h g = rw (le-leb (f + 4) 256 h, lt-leb top 256 g)

  pub fits_top : (k : ℕ) → f + 4 ≤ 256 → top ≤ 256 → k ≡ frame_words T q → eqb (f + 4 + k) top ≡ frame_fits T f top q
  unfolding frame_fits both
  fits_top k h g e = rw (le-leb (f + 4) 256 h, le-leb top 256 g, ← e)

module _ (T : Table) (m : Memory) (f w c top q : ℕ) where
  -- the tests of a frame in the order of the code
  frame_tests : both (called_ok T m w q) (both (lies_in T q c) (frame_fits T f top q)) ≡ frame_ok T m f w c top q
  unfolding called_ok started_of frame_fits frame_ok is_created
  frame_tests =
      same_test _ _
      (λ e. let a = both_l _ _ e in let b = both_l _ _ (both_r _ _ e) in let d = both_r _ _ (both_r _ _ e) in
      both_i _ _ (both_l _ _ d)
      (both_i _ _ (both_l _ _ (both_r _ _ a))
      (both_i _ _ (both_l _ _ a)
      (both_i _ _ (both_r _ _ (both_r _ _ a))
      (both_i _ _ (both_r _ _ (both_r _ _ d))
      (both_i _ _ (both_l _ _ (both_r _ _ d)) b))))))
      (λ e. let e1 = both_r _ _ e in let e2 = both_r _ _ e1 in let e3 = both_r _ _ e2 in let e4 = both_r _ _ e3 in let e5 = both_r _ _ e4 in
      both_i _ _ (both_i _ _ (both_l _ _ e2) (both_i _ _ (both_l _ _ e1) (both_l _ _ e3)))
      (both_i _ _ (both_r _ _ e5)
      (both_i _ _ (both_l _ _ e) (both_i _ _ (both_l _ _ e5) (both_l _ _ e4)))))

  module _ (x : Bool) (h : x ≡ called_ok T m w q) where
    pub frame_uncalled : x ≡ false → false ≡ frame_ok T m f w c top q
    unfolding both
    frame_uncalled e = rw (← frame_tests, ← h, e)

    module _ (y : Bool) (e : x ≡ true) (g : y ≡ lies_in T q c) where
      pub frame_outside : y ≡ false → false ≡ frame_ok T m f w c top q
      unfolding both
      frame_outside z = rw (← frame_tests, ← h, e, ← g, z)

      pub frame-fits : (r : Bool) → y ≡ true → r ≡ frame_fits T f top q → r ≡ frame_ok T m f w c top q
      unfolding both
      frame-fits r z k = rw (← frame_tests, ← h, e, ← g, z) k

pub ruleset framing = (called_none, called_some, fits_far, fits_high, fits_top, frame_uncalled, frame_outside, frame-fits)

-- ---- one call, and what stands below all calls

module _ (T : Table) (m : Memory) (p d f w c top q : ℕ) (hq : q ≡ m (location p (f + 3))) (x : Bool) (h : x ≡ frame_ok T m f w c top q) where
  pub call_frame : x ≡ false → false ≡ call_ok T m p d f w c top
  unfolding call_ok both link_at
  call_frame e = rw (← hq, ← h, e)

  -- what it works on is a process
  pub call_works : x ≡ true → 1 ≤ w
  unfolding frame_ok is_created between
  call_works e = leb-true 1 w (both_l _ _ (both_l _ _ (both_l _ _ (both_r _ _ (sym h ∙ e)))))

  module _ (e : x ≡ true) (z : Bool) (hz : z ≡ holds_on T m p w) where
    pub call_free : z ≡ false → false ≡ call_ok T m p d f w c top
    unfolding call_ok both link_at
    call_free u = rw (← hq, ← h, e, ← hz, u)

    module _ (u : z ≡ true) (k : ℕ) (y : Bool) (hk : k ≡ m (location p (f + 1))) (g : y ≡ call_made T m p d f w q k) where
      pub call_other : y ≡ false → false ≡ call_ok T m p d f w c top
      unfolding call_ok both link_at
      call_other v = rw (← hq, ← h, e, ← hz, u, ← hk, ← g, v)

      pub call_holds : (r : Bool) → y ≡ true → r ≡ frames_hold T m p d f q → r ≡ call_ok T m p d f w c top
      unfolding call_ok both link_at
      call_holds r v s = rw (← hq, ← h, e, ← hz, u, ← hk, ← g, v) s

pub ruleset onecall = (call_frame, call_free, call_other, call_holds)

module _ (T : Table) (m : Memory) (p f w c top b : ℕ) (hb : b ≡ m (module_at p)) (x : Bool) (h : x ≡ both (eqb f 0) (eqb w p)) where
  pub base_calls : x ≡ false → false ≡ base_ok T m p f w c top
  unfolding base_ok
  base_calls e = sym (both_false_l _ _ (sym h ∙ e))

  module _ (e : x ≡ true) (z : Bool) (hz : z ≡ holds_on T m p p) where
    base_held : z ≡ holds_on T m p w
    base_held = let u = eqb-true w p (both_r _ _ (sym h ∙ e)) in rw u hz

    pub base_free : z ≡ false → false ≡ base_ok T m p f w c top
    unfolding base_ok
    base_free v = sym (both_false_r _ _ (both_false_l _ _ (sym base_held ∙ v)))

    module _ (u : z ≡ true) (y : Bool) (g : y ≡ lies_in T b c) where
      pub base_outside : y ≡ false → false ≡ base_ok T m p f w c top
      unfolding base_ok
      base_outside v = rw (← hb) (sym (both_false_r _ _ (both_false_r _ _ (both_false_l _ _ (sym g ∙ v)))))

      pub base_top : (k : ℕ) → y ≡ true → k ≡ module_words T b → eqb top k ≡ base_ok T m p f w c top
      unfolding base_ok
      base_top k v s = rw (← hb, ← s) (sym (both_go _ _ (sym h ∙ e) ∙ both_go _ _ (sym base_held ∙ u) ∙ both_go _ _ (sym g ∙ v)))

pub ruleset below = (base_calls, base_free, base_outside, base_top)

-- ---- the chain

module _ (T : Table) (m : Memory) (p : ℕ) where
  chain_base : (f w c top : ℕ) → chain T m p 0 f w c top ≡ base_ok T m p f w c top
  unfolding chain base_ok
  chain_base f w c top =
      same_test _ _
      (λ e. let e1 = both_r _ _ e in let h = both_l _ _ e1 in let e2 = both_r _ _ e1 in
      both_i _ _ (both_i _ _ (both_l _ _ e) (both_l _ _ h)) (both_i _ _ (both_r _ _ h) (both_i _ _ (both_r _ _ e2) (both_l _ _ e2))))
      (λ e. let a = both_l _ _ e in let b = both_r _ _ e in let d = both_r _ _ b in
      both_i _ _ (both_l _ _ a) (both_i _ _ (both_i _ _ (both_r _ _ a) (both_l _ _ b)) (both_i _ _ (both_r _ _ d) (both_l _ _ d))))

  chain_call : (d f w c top : ℕ)
      → chain T m p (suc d) f w c top ≡ both (call_ok T m p d f w c top) (chain T m p d (caller_frame m p f) (caller_works m p f) (call_statement m p f) f)
  unfolding chain call_ok call_made
  chain_call d f w c top =
      same_test _ _
      (λ e. let e1 = both_r _ _ e in let e2 = both_r _ _ e1 in let e3 = both_r _ _ e2 in
      both_i _ _ (both_i _ _ (both_l _ _ e) (both_i _ _ (both_l _ _ e3) (both_i _ _ (both_l _ _ e2) (both_l _ _ e1)))) (both_r _ _ e3))
      (λ e. let a = both_l _ _ e in let a1 = both_r _ _ a in let a2 = both_r _ _ a1 in
      both_i _ _ (both_l _ _ a) (both_i _ _ (both_r _ _ a2) (both_i _ _ (both_l _ _ a2) (both_i _ _ (both_l _ _ a1) (both_r _ _ e)))))

  -- each frame has four words, and begins where the one below it ends
  call_top : (d f w c top : ℕ) → call_ok T m p d f w c top ≡ true → (f + 4 ≤ top) × (top ≤ 256)
  unfolding call_ok frame_ok
  call_top d f w c top e =
      let a = both_r _ _ (both_r _ _ (both_r _ _ (both_r _ _ (both_l _ _ e)))) in
      let u = eqb-true (f + 4 + frame_words T (called_block m p f)) top (both_l _ _ a) in
      (omega arith, leb-true top 256 (both_l _ _ (both_r _ _ a)))

  chain_high : (d f w c top : ℕ) → chain T m p d f w c top ≡ true → d * 4 ≤ top
  chain_high zero f w c top e = omega arith
  chain_high (suc d) f w c top e =
      let a = rw (chain_call d f w c top) at e in
      let u = chain_high d (caller_frame m p f) (caller_works m p f) (call_statement m p f) f (both_r _ _ a) in
      let v = call_top d f w c top (both_l _ _ a) in
      omega (arith, v.0)

  chain_short : (d f w c top : ℕ) → chain T m p d f w c top ≡ true → d ≤ 64
  chain_short zero f w c top e = omega arith
  chain_short (suc d) f w c top e =
      let u = chain_high (suc d) f w c top e in
      let v = call_top d f w c top (both_l _ _ (rw (chain_call d f w c top) at e)) in
      omega (arith, v.1)

  module _ (n f w c top : ℕ) where
    pub left_begin : n ≡ m (depth_at p) → f ≡ m (frame_at p) → w ≡ m (works_at p) → c ≡ m (statement_at p) → top ≡ m (top_at p) → Left T m p n f w c top
    unfolding started_ok
    left_begin hn hf hw hc ht = record { is = rw (← hn, ← hf, ← hw, ← hc, ← ht) }

    pub left_deep : n ≡ m (depth_at p) → 64 < n → false ≡ started_ok T m p
    unfolding started_ok
    left_deep e l =
        cases (started_ok T m p)
        (λ h. let u = chain_short (m (depth_at p)) (m (frame_at p)) (m (works_at p)) (m (statement_at p)) (m (top_at p)) h in absurd (omega arith))
        (λ h. sym h)

    module _ (h : Left T m p n f w c top) where
      pub left_base : (r : Bool) → n ≤ 0 → r ≡ base_ok T m p f w c top → r ≡ started_ok T m p
      left_base r l e = let z : n ≡ 0 = omega arith in e ∙ sym (chain_base f w c top) ∙ (rw z at h.is)

      module _ (x : Bool) (l : 0 < n) (e : x ≡ call_ok T m p (n - 1) f w c top) where
        one_less : both x (chain T m p (n - 1) (caller_frame m p f) (caller_works m p f) (call_statement m p f) f) ≡ started_ok T m p
        one_less =
            let z : n ≡ suc (n - 1) = omega arith in
            rw e (sym (chain_call (n - 1) f w c top)) ∙ (rw z at h.is)

        pub left_fails : x ≡ false → false ≡ started_ok T m p
        unfolding both
        left_fails g = rw g at one_less

        pub left_next : (f' w' c' : ℕ) → x ≡ true → c' ≡ m (location p (f + 1)) → w' ≡ m (location p (f + 2)) → f' ≡ m (location p f) → Left T m p (n - 1) f' w' c' f
        unfolding both link_at
        left_next f' w' c' g hc hw hf = record { is = rw (hf, hw, hc) (rw (g, add-zero f) at one_less) }

pub ruleset chains = (left_begin, left_deep, left_base, left_fails, left_next)

-- ---- processes

module _ (T : Table) (m : Memory) (p k : ℕ) (h : k ≡ m (status_at p)) where
  pub running_started : (r : Bool) → k ≡ 2 → r ≡ started_ok T m p → r ≡ running_ok T m p
  unfolding running_ok
  running_started r e g = rw (← h, eq-eqb k 2 e) g

  pub running_other : (k ≡ 2 → ⊥) → true ≡ running_ok T m p
  unfolding running_ok
  running_other e = rw (← h, ne_eqb k 2 e)

module _ (T : Table) (m : Memory) (p : ℕ) (x : Bool) (h : x ≡ module_ok T m p) where
  pub process_module : x ≡ false → false ≡ process_ok T m p
  unfolding process_ok both
  process_module e = rw (← h, e)

  module _ (e : x ≡ true) (k n : ℕ) (hk : k ≡ m (holder_at p)) (hn : n ≡ m created_at) where
    pub process_holder : n < k → false ≡ process_ok T m p
    unfolding process_ok both
    process_holder l = rw (← h, e, ← hk, ← hn, lt-leb k n l)

    module _ (l : k ≤ n) (b : ℕ) (y : Bool) (hb : b ≡ m (module_at p)) (g : y ≡ modules_hold T m p b) where
      pub process_variables : y ≡ false → false ≡ process_ok T m p
      unfolding process_ok both
      process_variables z = rw (← h, e, ← hk, ← hn, le-leb k n l, ← hb, ← g, z)

      pub process_calls : (r : Bool) → y ≡ true → r ≡ running_ok T m p → r ≡ process_ok T m p
      unfolding process_ok both running_ok
      process_calls r z v = rw (← h, e, ← hk, ← hn, le-leb k n l, ← hb, ← g, z) v

pub ruleset processing = (running_started, running_other, process_module, process_holder, process_variables, process_calls)

module _ (m : Memory) (n : ℕ) (h : n ≡ m failure_at) where
  pub failure_none : n ≡ 0 → true ≡ failure_ok m
  unfolding failure_ok either
  failure_none e = rw (← h, eq-eqb n 0 e)

  pub failure_some : (r : Bool) → (n ≡ 0 → ⊥) → r ≡ is_failure n → r ≡ failure_ok m
  unfolding failure_ok either
  failure_some r e g = rw (← h, ne_eqb n 0 e) g

module _ (m : Memory) (x : Bool) (e : x ≡ failure_ok m) where
  pub run_failed : x ≡ false → false ≡ run_ok m
  unfolding run_ok both
  run_failed z = rw (← e, z)

  pub run_number : (n : ℕ) → n ≡ m number_at → x ≡ true → leb n 1 ≡ run_ok m
  unfolding run_ok both
  run_number n h z = rw (← e, z, h)

-- all processes, and the rule
pub few : (x n : ℕ) → n ≡ x → n ≤ 64 → x ≤ 64
few x n e l = rw e at l

module _ (T : Table) (m : Memory) (n : ℕ) (h : n ≡ m created_at) where
  pub rule_none : n < 1 → false ≡ rule T m
  unfolding rule between both
  rule_none l = rw (← h, lt-leb 1 n l)

  pub rule_many : 1 ≤ n → 64 < n → false ≡ rule T m
  unfolding rule between both
  rule_many l g = rw (← h, le-leb 1 n l, lt-leb n 64 g)

  module _ (l : 1 ≤ n) (g : n ≤ 64) (x : Bool) (e : x ≡ run_ok m) where
    pub rule_run : x ≡ false → false ≡ rule T m
    unfolding rule between both
    rule_run z = rw (le-leb 1 (m created_at) (rw h at l), le-leb (m created_at) 64 (rw h at g), ← e, z)

    pub rule_processes : (r : Bool) → x ≡ true → r ≡ processes_hold T m → r ≡ rule T m
    unfolding rule between both processes_hold process_row
    rule_processes r z v = rw (le-leb 1 (m created_at) (rw h at l), le-leb (m created_at) 64 (rw h at g), ← e, z) v

pub ruleset ruling = (rule_none, rule_many, rule_run, rule_processes)
