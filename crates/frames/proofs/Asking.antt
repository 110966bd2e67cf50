-- What a call that is not stuck gives its code: the bounds of the push, and the outcome. Assumes nothing.
use Prim.Native.Nat.{ℕ, ◌+◌, ◌<◌, ◌≤◌}
use mathlib.Core.Path.{◌≡◌, refl}
use mathlib.Core.Bool.{Bool, true, false}
use mathlib.Core.List.{List}
use borrow.Author.Tests.{leb-true, ltb-true, le-leb, lt-ltb, le-ltb}
use lib.ListN.{length}
use lib.Dec.{leb, ltb}
use Rattle.table.specs.Table.{Table}
use Rattle.machine.specs.Memory.{Memory}
use Rattle.machine.specs.Layout.{top_at, depth_at}
use Rattle.machine.specs.Outcomes.{Outcome, ok, fail, stuck, need, fail_where}
use Rattle.machine.specs.Variables.{frame_words}
use Rattle.machine.specs.Context.{context_of}
use Rattle.machine.specs.Calls.{top_after, pushed, frame_marked, call}
use Rattle.frames.specs.Frames.{FrameFits}

need_true : {A : Type 0} (b : Bool) (o : Outcome A) → (need b o ≡ stuck → ⊥) → b ≡ true
unfolding need
need_true true o g = refl
need_true false o g = absurd (g refl)

module _ (T : Table) (m page s : Memory) (p q r : ℕ) (ws : List ℕ) (g : call T m page (context_of m p) s q r ws ≡ stuck → ⊥) where
  -- the arguments fit the procedure's variables
  pub call_room : length ws ≤ frame_words T q
  unfolding call
  call_room = leb-true (length ws) (frame_words T q) (need_true (leb (length ws) (frame_words T q)) _ g)

  -- the frame does not fit the area
  pub call_over : 256 < m (top_at p) + 4 + frame_words T q → call T m page (context_of m p) s q r ws ≡ fail 22
  unfolding call top_after context_of need fail_where
  call_over h =
      rw (le-leb (length ws) (frame_words T q) call_room, lt-ltb 256 (m (top_at p) + 4 + frame_words T q) h)

  module _ (h : m (top_at p) + 4 + frame_words T q ≤ 256) where
    deep : need (ltb (m (depth_at p)) 64) (ok (frame_marked T m page (context_of m p) (pushed T m page (context_of m p) s q r ws) q ws)) ≡ stuck → ⊥
    unfolding call top_after context_of need fail_where
    deep e =
        g
        (rw (le-leb (length ws) (frame_words T q) call_room, le-ltb 256 (m (top_at p) + 4 + frame_words T q) h) e)

    call_depth : m (depth_at p) < 64
    call_depth = ltb-true (m (depth_at p)) 64 (need_true (ltb (m (depth_at p)) 64) _ deep)

    pub call_fits : 1 ≤ p → p ≤ 64 → FrameFits m p (frame_words T q)
    call_fits l k = record { low = l; high = k; area = h; depth = call_depth }

    pub call_done : call T m page (context_of m p) s q r ws
        ≡ ok (frame_marked T m page (context_of m p) (pushed T m page (context_of m p) s q r ws) q ws)
    unfolding call top_after context_of need fail_where
    call_done =
        rw (
          le-leb (length ws) (frame_words T q) call_room,
          le-ltb 256 (m (top_at p) + 4 + frame_words T q) h,
          lt-ltb (m (depth_at p)) 64 call_depth,
        )
