-- The calls that a state has are those of the variables in use; those that a run has made are those of its state. Assumes nothing.
use Prim.Native.Nat.{ℕ, zero, suc}
use mathlib.Core.Path.{◌≡◌, refl, sym, ap, ◌∙◌}
use mathlib.Core.Bool.{Bool, true, false}
use mathlib.Core.Logic.{◌⊎◌, inl, inr}
use mathlib.Core.List.{List, [], ◌∷◌, ◌++◌}
use native.Mathlib.Omega.{arith}
use lib.Dec.{eqb}
use lib.ListN.{length}
use borrow.Author.Tests.{eqb-true, eqb-false, eq-eqb, ne_eqb}
use Rattle.basics.specs.Choice.{both, between}
use Rattle.basics.specs.Cases.{cases}
use Rattle.basics.proofs.Bools.{no_true, both_l, both_r, both_i, both_false_l, both_false_r}
use Rattle.table.specs.Table.{Table}
use Rattle.machine.specs.Memory.{Memory, memory_of, update, within, fill, zeros}
use Rattle.machine.specs.Layout.{record_at, status_at, frame_at, depth_at, created_at, caller_frame, called_block}
use Rattle.machine.specs.Calls.{standing}
use Rattle.machine.specs.Run.{initial_state, begin}
use Rattle.sound.specs.InUse.{Created, CallAt, innermost, caller}
use Rattle.sound.specs.Histories.{Seen, finally, Threaded, Every}
use Rattle.sound.specs.OpenCalls.{OpenCall, calls_from, open_calls, Among, CallsListed, calls_after, calls_made, CallsKept}
use Rattle.sound.proofs.Runs.FirstStateWords.{begin_created}
use Rattle.sound.proofs.Calls.BindingsKept.{Under, this, next, call_under, call_created, call_started}
use Rattle.sound.proofs.Rule.RuleRecord.{created_in, in_created}

-- ---- of a state

module _ (m : Memory) (p : ℕ) where
  pub not_created : between 1 (m created_at) p ≡ false → Created m p → ⊥
  not_created e h = no_true (sym e ∙ created_in m p h)

  -- the calls of a started process; of another there are none
  pub open_started : Created m p → m (status_at p) ≡ 2 → open_calls m p ≡ calls_from m p (m (depth_at p)) (m (frame_at p))
  unfolding open_calls
  open_started c e = rw (both_i _ _ (created_in m p c) (eq-eqb (m (status_at p)) 2 e))

  pub open_none : (Created m p → m (status_at p) ≡ 2 → ⊥) → open_calls m p ≡ []
  unfolding open_calls
  open_none h =
      cases (between 1 (m created_at) p)
      (λ c. rw (both_false_r (between 1 (m created_at) p) _ (ne_eqb (m (status_at p)) 2 (h (in_created m p c)))))
      (λ c. rw (both_false_l _ (eqb (m (status_at p)) 2) c))

  from_length : (d f : ℕ) → length (calls_from m p d f) ≡ d
  unfolding calls_from
  from_length zero f = refl
  from_length (suc d) f = ap suc (from_length d (caller_frame m p f))

  abbrev call_at : ℕ → OpenCall
  call_at f = record { procedure = called_block m p f; frame = f }

  under_among : (d f d' f' : ℕ) → Under m p d f d' f' → Among (call_at f') d' (calls_from m p d f)
  unfolding calls_from
  under_among _ f d' _ this =
      let h : Among (call_at f) (length (calls_from m p d' (caller_frame m p f))) (call_at f ∷ calls_from m p d' (caller_frame m p f)) = Among.innermost in
      rw (from_length d' (caller_frame m p f)) at h
  under_among _ f d' f' (next {d = d} u) = Among.outside (under_among d (caller_frame m p f) d' f' u)

-- one of the calls b ∷ cs is b, or one of cs; there is none of no calls
among_none : (c : OpenCall) (d : ℕ) (cs : List OpenCall) → Among c d cs → cs ≡ [] → ⊥
among_none c _ _ (Among.innermost {cs = cs}) e = let y : ◌≡◌ {A = ℕ} 0 1 = cc in absurd (omega arith)
among_none c d _ (Among.outside {cs = cs} h) e = let y : ◌≡◌ {A = ℕ} 0 1 = cc in absurd (omega arith)

among_one : (c : OpenCall) (d : ℕ) (bs : List OpenCall) → Among c d bs → (b : OpenCall) (cs : List OpenCall) → bs ≡ b ∷ cs
    → ((c ≡ b) × (d ≡ length cs)) ⊎ Among c d cs
among_one c _ _ (Among.innermost {cs = bs}) b cs e =
    let x : c ≡ b = cc in
    let y : bs ≡ cs = cc in
    inl (x, ap length y)
among_one c d _ (Among.outside {cs = bs} h) b cs e = let y : bs ≡ cs = cc in inr (rw y at h)

module _ (T : Table) (m : Memory) where
  among_from : (p d f : ℕ) → ((e : ℕ) → d ≡ suc e → CallAt T m p e f) → (c : OpenCall) (e : ℕ) → Among c e (calls_from m p d f)
      → CallAt T m p e c.frame × (called_block m p c.frame ≡ c.procedure)
  unfolding calls_from
  among_from p zero f k c e h = absurd (among_none c e _ h refl)
  among_from p (suc d) f k c e h =
      go (among_one c e _ h (call_at m p f) (calls_from m p d (caller_frame m p f)) refl)
      (among_from p d (caller_frame m p f) (λ i z. caller f (rw z at (k d refl)) refl) c e)
    where
      go : ((c ≡ call_at m p f) × (e ≡ length (calls_from m p d (caller_frame m p f)))) ⊎ Among c e (calls_from m p d (caller_frame m p f))
          → (Among c e (calls_from m p d (caller_frame m p f)) → CallAt T m p e c.frame × (called_block m p c.frame ≡ c.procedure))
          → CallAt T m p e c.frame × (called_block m p c.frame ≡ c.procedure)
      go (inl h) g = rw (h.0, h.1, from_length m p d (caller_frame m p f)) (k d refl, refl)
      go (inr h) g = g h

  -- THE VARIABLES IN USE are those of the calls listed
  pub calls-listed : CallsListed T m
  calls-listed =
      record {
        listed = λ p d f c. rw (open_started m p (call_created T m p d f c) (call_started T m p d f c)) (under_among m p _ _ d f (call_under T m p d f c));
        in_use = in_use;
      }
    where
      in_use : (p d q f : ℕ) → Among (record { procedure = q; frame = f }) d (open_calls m p) → CallAt T m p d f × (called_block m p f ≡ q)
      in_use p d q f h =
          cases (both (between 1 (m created_at) p) (eqb (m (status_at p)) 2))
          (λ e.
          let c = in_created m p (both_l _ _ e) in
          let s = eqb-true _ 2 (both_r _ _ e) in
          among_from p _ _ (λ i z. innermost c s z refl) _ d (rw (open_started m p c s) at h))
          (λ e. absurd (among_none _ d _ h (open_none m p (λ c s. no_test e (both_i _ _ (created_in m p c) (eq-eqb _ 2 s))))))
        where
          no_test : {b : Bool} → b ≡ false → b ≡ true → ⊥
          no_test e h = no_true (sym e ∙ h)

-- ---- of a run

-- what holds of a step as it was seen
abbrev pub CallsIn : Table → Seen → Type 0
CallsIn T e = CallsKept T (memory_of e.before) (memory_of e.given) e.process e.answer (memory_of e.after)

-- THE CALLS of a process are those that the steps made and no later one of them ended
pub calls-made : (T : Table) (r : ℕ) (s : List ℕ) (es fs : List Seen) → Threaded s (es ++ fs) → Every (CallsIn T) (es ++ fs)
    → open_calls (memory_of (finally s es)) r ≡ calls_made T r (open_calls (memory_of s) r) es
unfolding Threaded Every finally calls_made
calls-made T r s [] fs t h = refl
calls-made T r s (e ∷ es) fs t h =
    let a = calls-made T r e.after es fs t.1 h.1 in
    let b = h.0.calls r in
    let c : open_calls (memory_of e.before) r ≡ open_calls (memory_of s) r = ap (λ (b : List ℕ). open_calls (memory_of b) r) t.0 in
    a ∙ ap (λ cs. calls_made T r cs es) (b ∙ ap (calls_after T (memory_of e.before) e.process e.answer r) c)

-- at the start there are none
first-none : (T : Table) (number : ℕ) → open_calls (begin T number) 1 ≡ []
unfolding begin initial_state fill within standing update zeros record_at open_calls calls_from between both
first-none T number = refl

pub begin_none : (T : Table) (number r : ℕ) → open_calls (begin T number) r ≡ []
begin_none T number r =
    cases (eqb r 1)
    (λ e. rw (eqb-true r 1 e) (first-none T number))
    (λ e. open_none (begin T number) r (λ c s. let a = c.least in let b = c.most in let d = begin_created T number in eqb-false r 1 e (omega arith)))
