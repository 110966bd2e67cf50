-- What users may rely on of the space that a module reserves, for every table that the verdict accepts. Assumes nothing.
use Prim.Native.Nat.{ℕ, ◌/◌, ◌≤◌}
use mathlib.Core.Path.{◌≡◌}
use mathlib.Core.Bool.{true}
use mathlib.Core.List.{List}
use native.Mathlib.Omega.{arith}
use Rattle.words.specs.Bytes.{Bytes}
use Rattle.table.specs.Table.{Table, table_of}
use Rattle.table.specs.Entries.{space}
use Rattle.machine.specs.Memory.{Memory}
use Rattle.machine.specs.Layout.{module_at, statement_at, frame_at, top_at, works_at, depth_at}
use Rattle.machine.specs.Context.{context_of}
use Rattle.machine.specs.Space.{call_words, reserve, own_after}
use Rattle.machine.specs.Rule.{rule}
use Rattle.verdict.specs.Accepted.{Accepted}
use Rattle.verdict.specs.Verdict.{verdict}
use Rattle.verdict.proofs.Promise.{promise}
use Rattle.sound.specs.Conditions.{AreaFull, SpaceFull}
use Rattle.sound.specs.Space.{NoRecursion, AtCall, SpaceUse}
use Rattle.sound.proofs.Rule.RuleRecord.{ruled}
use Rattle.sound.proofs.Space.OwnFrames.{own_frames}
use Rattle.sound.proofs.Space.OwnCallsOnce.{room_for, own_once}
use Rattle.sound.proofs.Space.OwnProcedure.{own_procedure}

module _
    (T : Table) (acc : Accepted T) (m page : Memory) (p q : ℕ) (e : rule T m ≡ true) (a : AtCall T m p q)
    (full : SpaceFull T m page (context_of m p) q) where
  own : m (works_at p) ≡ p
  unfolding context_of
  own = full.own

  once_full : NoRecursion T (m (module_at p)) → ⊥
  unfolding context_of reserve own_after
  once_full none =
      let c = a.created in
      let x = own_once T m p none (m (depth_at p)) (m (frame_at p)) (m (works_at p)) (m (statement_at p)) (m (top_at p)) own
      (((ruled T m e).process p c.least c.most).chain a.started) q a.first a.count a.is (own_procedure T acc m e p q a own) in
      let y = full.above in
      omega arith

  -- four links and 252 words are an area
  area_full : 252 ≤ space T (m (module_at p)) / 2 → AreaFull T m page (context_of m p) q
  unfolding context_of reserve own_after call_words
  area_full l =
      let x = own_frames T m e p a.created a.started own in
      let y = room_for T (m (module_at p)) q (own_procedure T acc m e p q a own) in
      let z = full.above in
      omega arith

pub accepted_space : (T : Table) → Accepted T → SpaceUse T
accepted_space T acc = record {
  enough = λ m page p q e a none full. once_full T acc m page p q e a full none;
  all = λ m page p q e a s full. area_full T acc m page p q e a full (rw s (omega arith));
}

-- THE THEOREM
pub space_use : (w : ℕ) (t : List ℕ) → Bytes t → verdict w t ≡ 0 → SpaceUse (table_of w t)
space_use w t b v = accepted_space (table_of w t) (promise w t v)
