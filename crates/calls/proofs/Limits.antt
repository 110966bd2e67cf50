-- Up to which word of its area a process may call: what its module reserves (02, i), and the area. Assumes nothing.
use Prim.Native.Nat.{ℕ, ◌+◌, ◌<◌, min}
use mathlib.Core.Path.{◌≡◌, sym, ap, ◌∙◌}
use mathlib.Core.Bool.{false}
use mathlib.Core.List.{List}
use native.Mathlib.Omega.{arith}
use borrow.Author.Tests.{eq-eqb, ne_eqb, eqb-true, eqb-false, ltb-true, ltb-false}
use lib.Dec.{eqb, ltb}
use Rattle.basics.specs.Choice.{both}
use Rattle.basics.specs.Cases.{cases}
use Rattle.basics.proofs.Bools.{no_true, both_l, both_r, both_false_l}
use Rattle.table.specs.Table.{Table}
use Rattle.table.specs.Entries.{block_count, block_kind, owner}
use Rattle.table.specs.Reading.{Field}
use Rattle.numbers.proofs.BlockPromise.{owner_there, owner_module}
use Rattle.sizes.specs.Sizes.{module_words}
use Rattle.machine.specs.Memory.{Memory, memory_of}
use Rattle.machine.specs.Layout.{module_at, top_at, works_at, depth_at}
use Rattle.machine.specs.Variables.{frame_words}
use Rattle.machine.specs.Context as machine
use Rattle.machine.specs.Context.{block_of, context_of, contextual}
use Rattle.machine.specs.Space.{call_words, reserve, own_words, own_after, space_full}
use Rattle.code.specs.Code.{slot_in, decoded}
use Rattle.prepare.specs.Prepared.{room_with, room_of, Prepared}
use Rattle.operands.specs.declared.Context.{Context}
use Rattle.operands.specs.Ready.{context_in}
use Rattle.effects.specs.Effects.{Standing}
use Rattle.calls.specs.Framing.{FrameCount}
use Rattle.calls.specs.Entering.{limit_of, Limits}

-- ---- the laws of `procedure_words` and `limit_of`

module _ (t : List ℕ) (h : Prepared t) (b : ℕ) (l : b < block_count (decoded t)) (r : ℕ) (hr : Field (slot_in t b 31) r) where
  room_is : r ≡ room_of (decoded t) b
  room_is = hr.is ∙ h.rooms b l

  pub room_call : block_kind (decoded t) b ≡ 2 → FrameCount (decoded t) b r
  unfolding room_of room_with
  room_call k =
      let e : r ≡ min (frame_words (decoded t) b) 257 = rw (eq-eqb (block_kind (decoded t) b) 2 k) at room_is in
      record { is = omega arith; small = omega arith }

  room_own : (block_kind (decoded t) b ≡ 2 → ⊥) → r ≡ min (module_words (decoded t) b + reserve (decoded t) b) 256
  unfolding room_of room_with reserve
  room_own k = rw (ne_eqb (block_kind (decoded t) b) 2 k) at room_is

module _ (t : List ℕ) (h : Prepared t) (x : Context) (l : owner (decoded t) x.block < block_count (decoded t)) (b r : ℕ) (hb : Field (owner (decoded t) x.block) b) (hr : Field (slot_in t b 31) r) where
  pub limit_own : (block_kind (decoded t) (owner (decoded t) x.block) ≡ 2 → ⊥) → x.works ≡ x.process → r ≡ limit_of (decoded t) x
  unfolding limit_of
  limit_own k e = rw (eq-eqb x.works x.process e) (room_own t h (owner (decoded t) x.block) l r (rw hb.is at hr) k)

pub limit_other : (T : Table) (x : Context) → (x.works ≡ x.process → ⊥) → 256 ≡ limit_of T x
unfolding limit_of
limit_other T x e = rw (ne_eqb x.works x.process e)

-- ---- limits

pub limits_area : (T : Table) (m : Memory) (p q : ℕ) → Limits T m p q false 256
limits_area T m p q = record { most = omega arith; above = λ e. no_true e; below = λ e l. l }

module _ (t m p : List ℕ) (x : Context) (h : Standing t m p x) where
  stand_block : x.block ≡ block_of (memory_of m) x.process
  unfolding context_in context_of
  stand_block = ap (λ (y : machine.Context). y.block) h.here

  pub stand_works : x.works ≡ memory_of m (works_at x.process)
  unfolding context_in context_of
  stand_works = ap (λ (y : machine.Context). y.works) h.here

  block_there : x.block < block_count (decoded t)
  unfolding contextual
  block_there = rw stand_block (ltb-true _ _ (both_l _ _ (both_r _ _ h.contextual)))

  pub stand_owner : owner (decoded t) x.block < block_count (decoded t)
  stand_owner = owner_there (decoded t) h.ready.ranged x.block block_there

  pub stand_module : block_kind (decoded t) (owner (decoded t) x.block) ≡ 2 → ⊥
  stand_module = owner_module (decoded t) h.ready.ranged x.block block_there

  module_is : memory_of m (module_at x.works) ≡ owner (decoded t) x.block
  unfolding contextual
  module_is =
      rw (stand_block, stand_works)
      (eqb-true _ _ (both_r _ _ (both_r _ _ (both_r _ _ h.contextual))))

  own_module : x.works ≡ x.process → memory_of m (module_at x.process) ≡ owner (decoded t) x.block
  own_module e = rw e at module_is

  module _ (q : ℕ) where
    abbrev the_own : ℕ
    the_own = own_words (decoded t) (memory_of m) x.process (memory_of m (depth_at x.process)) x.frame

    own_full : x.works ≡ x.process
        → space_full (decoded t) (memory_of m) (context_in x) q ≡ ltb (reserve (decoded t) (owner (decoded t) x.block)) (the_own + (4 + frame_words (decoded t) q))
    unfolding space_full own_after call_words context_in both
    own_full e = rw (eq-eqb x.works x.process e, own_module e)

    other_full : (x.works ≡ x.process → ⊥) → space_full (decoded t) (memory_of m) (context_in x) q ≡ false
    unfolding space_full context_in
    other_full e = both_false_l _ _ (ne_eqb x.works x.process e)

    own_top : x.works ≡ x.process → memory_of m (top_at x.process) ≡ module_words (decoded t) (owner (decoded t) x.block) + the_own
    own_top e = rw (own_module e) at (h.frames e)

    own_limits : x.works ≡ x.process
        → Limits (decoded t) (memory_of m) x.process q (space_full (decoded t) (memory_of m) (context_in x) q)
        (min (module_words (decoded t) (owner (decoded t) x.block) + reserve (decoded t) (owner (decoded t) x.block)) 256)
    own_limits e =
        let g = own_top e in
        let u = reserve (decoded t) (owner (decoded t) x.block) in
        let v = the_own + (4 + frame_words (decoded t) q) in
        record {
          most = omega arith;
          above = λ f. let i = ltb-true u v (sym (own_full e) ∙ f) in omega arith;
          below = λ f n. let i = ltb-false u v (sym (own_full e) ∙ f) in omega arith;
        }

    pub limits_local : Limits (decoded t) (memory_of m) x.process q (space_full (decoded t) (memory_of m) (context_in x) q) (limit_of (decoded t) x)
    unfolding limit_of
    limits_local =
        cases (eqb x.works x.process)
        (λ e. rw e (own_limits (eqb-true x.works x.process e)))
        (λ e. rw (e, other_full (eqb-false x.works x.process e)) (limits_area (decoded t) (memory_of m) x.process q))
