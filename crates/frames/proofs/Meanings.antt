-- What the writes mean in the definitions of `machine`. Assumes nothing.
use Prim.Native.Nat.{ℕ, ◌+◌, ◌<◌, ◌≤◌}
use mathlib.Core.Path.{◌≡◌, refl}
use mathlib.Core.List.{List}
use lib.ListN.{length}
use native.Mathlib.Omega.{arith}
use Rattle.table.specs.Table.{Table}
use Rattle.table.specs.Entries.{first_stmt}
use Rattle.table.specs.Reading.{Field}
use Rattle.sizes.specs.Sizes.{module_words}
use Rattle.machine.specs.Memory.{Memory, memory_of, update}
use Rattle.machine.specs.Layout.{location, record_at, frame_at, top_at, works_at, holder_at, link_at}
use Rattle.machine.specs.Lent.{Becomes}
use Rattle.machine.specs.Variables.{frame_words}
use Rattle.machine.specs.Context.{context_of}
use Rattle.machine.specs.Calls.{frame, top_after, pushed, frame_marked, popped}
use Rattle.machine.specs.Processes.{started}
use Rattle.machine.proofs.Memories.{update_other, location_plus}
use Rattle.frames.specs.Frames.{padded, linked, framed, framed_marks, entered, called_in, left, with_parameters, with_start, FrameFits, InCall}

-- holders are words of their own
pub record_kept : (m : Memory) (r v p k : ℕ) → k < 20 → (k ≡ 6 → ⊥) → update m (holder_at r) v (record_at p k) ≡ m (record_at p k)
unfolding record_at
record_kept m r v p k h d = update_other m (holder_at r) v (record_at p k) (λ e. d (omega arith))

pub link_kept : (m : Memory) (r v p f k : ℕ) → p ≤ 64 → f + k ≤ 255 → update m (holder_at r) v (link_at p f k) ≡ m (link_at p f k)
unfolding record_at link_at location
link_kept m r v p f k h g = update_other m (holder_at r) v (link_at p f k) (λ e. omega arith)

module _ (T : Table) (m page : Memory) (p : ℕ) where
  local_push : (q r : ℕ) (ws : List ℕ)
      → entered m p q r (first_stmt T q) (frame_words T q) ws ≡ pushed T m page (context_of m p) m q r ws
  unfolding entered framed linked padded pushed frame top_after context_of
  local_push q r ws = refl

  process_push : (q r v : ℕ) (ws : List ℕ)
      → entered (update m (holder_at r) v) p q r (first_stmt T q) (frame_words T q) ws
      ≡ pushed T m page (context_of m p) (update m (holder_at r) v) q r ws
  unfolding entered framed linked padded pushed frame top_after context_of
  process_push q r v ws =
      rw (
        record_kept m r v p 2 (omega arith) (λ e. omega arith),
        record_kept m r v p 3 (omega arith) (λ e. omega arith),
        record_kept m r v p 4 (omega arith) (λ e. omega arith),
        record_kept m r v p 5 (omega arith) (λ e. omega arith),
        record_kept m r v p 7 (omega arith) (λ e. omega arith),
      )

  marks_there : (s : Memory) (q : ℕ) (ws : List ℕ)
      → framed_marks s (location p (m (top_at p))) (frame_words T q) (length ws) ≡ frame_marked T m page (context_of m p) s q ws
  unfolding framed_marks frame_marked context_of
  marks_there s q ws = rw (location_plus p (m (top_at p) + 4) (length ws), location_plus p (m (top_at p)) 4)

  local-call : (q r : ℕ) (ws : List ℕ)
      → called_in m p q r (first_stmt T q) (frame_words T q) ws
      ≡ frame_marked T m page (context_of m p) (pushed T m page (context_of m p) m q r ws) q ws
  unfolding called_in
  local-call q r ws = rw (local_push q r ws) (marks_there (pushed T m page (context_of m p) m q r ws) q ws)

  process_call : (q r v : ℕ) (ws : List ℕ)
      → called_in (update m (holder_at r) v) p q r (first_stmt T q) (frame_words T q) ws
      ≡ frame_marked T m page (context_of m p) (pushed T m page (context_of m p) (update m (holder_at r) v) q r ws) q ws
  unfolding called_in
  process_call q r v ws =
      rw (process_push q r v ws, record_kept m r v p 4 (omega arith) (λ e. omega arith))
      (marks_there (pushed T m page (context_of m p) (update m (holder_at r) v) q r ws) q ws)

  pub local_pop : (c : ℕ) → left m p c ≡ popped T m page (context_of m p) m c
  unfolding left popped context_of
  local_pop c = refl

  pub process_pop : (w v c : ℕ) → InCall m p
      → left (update m (holder_at w) v) p c ≡ popped T m page (context_of m p) (update m (holder_at w) v) c
  unfolding left popped context_of
  process_pop w v c h =
      let g = h.area in
      rw (
        record_kept m w v p 3 (omega arith) (λ e. omega arith),
        record_kept m w v p 7 (omega arith) (λ e. omega arith),
        link_kept m w v p (m (frame_at p)) 0 h.high (omega arith),
        link_kept m w v p (m (frame_at p)) 2 h.high (omega arith),
      )

pub starts : (T : Table) (m : Memory) (r μ : ℕ) (ws : List ℕ) → with_start m r (first_stmt T μ) (module_words T μ) ws ≡ started T m r μ ws
unfolding with_start with_parameters started
starts T m r μ ws = refl

-- what a caller shows holds while a holder changes
pub fits_kept : (m : Memory) (r v p n : ℕ) → FrameFits m p n → FrameFits (update m (holder_at r) v) p n
fits_kept m r v p n f = record {
  low = f.low;
  high = f.high;
  area = rw (record_kept m r v p 4 (omega arith) (λ e. omega arith)) f.area;
  depth = rw (record_kept m r v p 7 (omega arith) (λ e. omega arith)) f.depth;
}

pub called_kept : (m : Memory) (w v p : ℕ) → InCall m p → InCall (update m (holder_at w) v) p
called_kept m w v p f = record {
  low = f.low;
  high = f.high;
  area = rw (record_kept m w v p 3 (omega arith) (λ e. omega arith)) f.area;
  depth = rw (record_kept m w v p 7 (omega arith) (λ e. omega arith)) f.depth;
}

-- ---- flat laws: what the code has done

module _ (T : Table) (s : List ℕ) (p q : ℕ) (ws : List ℕ) where
  pub pushes_local : (s1 : List ℕ) (works c size : ℕ) → works ≡ memory_of s (works_at p) → Field (first_stmt T q) c
      → size ≡ frame_words T q → Becomes s1 (called_in (memory_of s) p q works c size ws) → (page : Memory)
      → Becomes s1
      (frame_marked T (memory_of s) page (context_of (memory_of s) p) (pushed T (memory_of s) page (context_of (memory_of s) p) (memory_of s) q (memory_of s (works_at p)) ws) q ws)
  pushes_local s1 works c size i j k h page =
      rw (i, j.is, k, local-call T (memory_of s) page p q (memory_of s (works_at p)) ws) at h

  pub pushes_process : (s1 s2 : List ℕ) (r c size : ℕ) → Field (first_stmt T q) c → size ≡ frame_words T q
      → Becomes s1 (update (memory_of s) (holder_at r) p) → Becomes s2 (called_in (memory_of s1) p q r c size ws)
      → (page : Memory)
      → Becomes s2
      (frame_marked T (memory_of s) page (context_of (memory_of s) p) (pushed T (memory_of s) page (context_of (memory_of s) p) (update (memory_of s) (holder_at r) p) q r ws) q ws)
  pushes_process s1 s2 r c size j k g h page =
      rw (g.is, j.is, k, process_call T (memory_of s) page p q r p ws) at h

-- the frame fits, or the process is in a call, after a hold
pub fits_held : (s s1 : List ℕ) (r v p n : ℕ) → FrameFits (memory_of s) p n → Becomes s1 (update (memory_of s) (holder_at r) v)
    → FrameFits (memory_of s1) p n
fits_held s s1 r v p n f c = rw c.is (fits_kept (memory_of s) r v p n f)

pub called_held : (s s1 : List ℕ) (w v p : ℕ) → InCall (memory_of s) p → Becomes s1 (update (memory_of s) (holder_at w) v)
    → InCall (memory_of s1) p
called_held s s1 w v p f c = rw c.is (called_kept (memory_of s) w v p f)

pub pops_local : (s s1 : List ℕ) (p c : ℕ) → Becomes s1 (left (memory_of s) p c) → (T : Table) (page : Memory)
    → Becomes s1 (popped T (memory_of s) page (context_of (memory_of s) p) (memory_of s) c)
pops_local s s1 p c h T page = rw (local_pop T (memory_of s) page p c) at h

pub pops_process : (s s1 s2 : List ℕ) (p c w : ℕ) → InCall (memory_of s) p → w ≡ memory_of s (works_at p)
    → Becomes s1 (update (memory_of s) (holder_at w) 0) → Becomes s2 (left (memory_of s1) p c) → (T : Table) (page : Memory)
    → Becomes s2
    (popped T (memory_of s) page (context_of (memory_of s) p) (update (memory_of s) (holder_at (memory_of s (works_at p))) 0) c)
pops_process s s1 s2 p c w f e g h T page =
    rw (← e) (rw (g.is, process_pop T (memory_of s) page p w 0 c f) at h)

pub starts_done : (T : Table) (s s1 ws : List ℕ) (r b c size : ℕ) → Field (first_stmt T b) c → size ≡ module_words T b
    → Becomes s1 (with_start (memory_of s) r c size ws) → Becomes s1 (started T (memory_of s) r b ws)
starts_done T s s1 ws r b c size j k h = rw (j.is, k, starts T (memory_of s) r b ws) at h
