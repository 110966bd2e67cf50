-- A chain of calls stays where its words do, and the processes and their modules. Assumes nothing.
use Prim.Native.Nat.{ℕ, suc, ◌+◌, ◌≤◌, ◌<◌}
use mathlib.Core.Path.{◌≡◌, refl}
use mathlib.Core.Bool.{true}
use native.Mathlib.Omega.{arith}
use borrow.Author.Tests.{leb-true, le-leb}
use Rattle.basics.proofs.Bools.{both_l, both_r, both_i}
use Rattle.table.specs.Table.{Table}
use Rattle.table.specs.Entries.{var_mode, var_type, first_var, vars}
use Rattle.sizes.specs.Sizes.{words_of, module_words}
use Rattle.machine.specs.Memory.{Memory}
use Rattle.machine.specs.Layout.{location, link_at, module_at, created_at, caller_frame, call_statement, caller_works}
use Rattle.machine.specs.Entries.{stmt_at}
use Rattle.machine.specs.Variables.{offset_of}
use Rattle.machine.specs.Processes.{refers}
use Rattle.machine.specs.Values.{holds}
use Rattle.machine.specs.Rule.{is_created}
use Rattle.machine.proofs.Tests.{range_low, range_high, range_i}
use Rattle.sound.specs.Claims.{Keeps, PlaceLaws}
use Rattle.sound.specs.Ruled.{Bottom, Framed, CallChain, bottom, called, ProcessesStay}
use Rattle.sound.proofs.Memory.Writes.{location_add}
use Rattle.sound.proofs.Values.BlockVariables.{variable_in, words_value, words_var}
use Rattle.sound.proofs.Rule.WorkedProcesses.{Alike, alike_none, alike_more, lives_alike, works_by_same}

-- references stay references
pub carries_keeps : (m n : Memory) → ProcessesStay m n → Keeps m n
unfolding refers
carries_keeps m n c =
    record {
      refs = λ μ r e.
          let l = leb-true 2 r (both_l _ _ (both_l _ _ e)) in
          let h = leb-true r (m created_at) (both_r _ _ (both_l _ _ e)) in
          let g = c.grows in
          both_i _ _ (both_i _ _ (le-leb 2 r l) (le-leb r (n created_at) (omega arith))) (rw (c.modules r (omega arith) h) (both_r _ _ e));
    }

pub same_carries : (m : Memory) → ProcessesStay m m
same_carries m = record { grows = omega arith; modules = λ q l g. refl; begun = λ q l g n. n }

pub created_low : (m : Memory) (p : ℕ) → is_created m p ≡ true → 1 ≤ p
unfolding is_created
created_low m p e = range_low 1 (m created_at) p e

pub created_high : (m : Memory) (p : ℕ) → is_created m p ≡ true → p ≤ m created_at
unfolding is_created
created_high m p e = range_high 1 (m created_at) p e

pub created_i : (m : Memory) (p : ℕ) → 1 ≤ p → p ≤ m created_at → is_created m p ≡ true
unfolding is_created
created_i m p l h = range_i 1 (m created_at) p l h

-- the frames lie above the module's variables
pub chain_over : (T : Table) (m : Memory) (p : ℕ) {d f w c top : ℕ} → CallChain T m p d f w c top → module_words T (m (module_at p)) ≤ top
chain_over T m p (bottom b) = let e = b.ends in omega arith
chain_over T m p (called k r) = let x = chain_over T m p r in let e = k.ends in omega arith

-- one more call, by the links of its frame
pub called_by : (T : Table) (m : Memory) (p : ℕ) {d f w c top q g x s : ℕ} → m (link_at p f 0) ≡ g → m (link_at p f 1) ≡ s → m (link_at p f 2) ≡ x → m (link_at p f 3) ≡ q → Framed T m p d f w c top q → CallChain T m p d g x s f → CallChain T m p (suc d) f w c top
called_by T m p {d = d} {f = f} {w = w} {c = c} {top = top} e0 e1 e2 e3 r k =
    called {d = d} {f = f} {w = w} {c = c} {top = top} (rw e3 r) (rw (e0, e1, e2) k)

module _ (T : Table) (m n : Memory) (cs : ProcessesStay m n) (p : ℕ) where
  -- the words of the area of p from base on below top are the same
  unfoldable pub Same : ℕ → ℕ → Type 0
  Same base top = (j : ℕ) → base ≤ j → j < top → n (location p j) ≡ m (location p j)

  pub link_same : (base top f k : ℕ) → Same base top → base ≤ f → f + k < top → n (link_at p f k) ≡ m (link_at p f k)
  unfolding Same link_at
  link_same base top f k h l g = h (f + k) (omega arith) g

  pub same_below : (base top f : ℕ) → Same base top → f ≤ top → Same base f
  unfolding Same
  same_below base top f h l j a b = h j a (omega arith)

  pub alike_same : {d f w c top : ℕ} → CallChain T m p d f w c top → Same (module_words T (m (module_at p))) top → Alike T m n p d f w
  alike_same {f = f} {w = w} (bottom b) s = alike_none T m n p f w
  alike_same {d = suc d} {f = f} {w = w} {top = top} (called q r) s =
      let x = chain_over T m p r in
      let g = q.ends in
      alike_more T m n p d f w
      (link_same (module_words T (m (module_at p))) top f 0 s x (omega arith))
      (link_same (module_words T (m (module_at p))) top f 2 s x (omega arith))
      (link_same (module_words T (m (module_at p))) top f 3 s x (omega arith))
      (alike_same r (same_below (module_words T (m (module_at p))) top f s (omega arith)))

  -- a frame whose links and bound locations stay, and whose values are values
  module _ (some : 1 ≤ p) (made : p ≤ m created_at) {d f w c top q : ℕ} (r : Framed T m p d f w c top q) (k : CallChain T m p d (caller_frame m p f) (caller_works m p f) (call_statement m p f) f) where
    pub frame_new :
        n (link_at p f 0) ≡ m (link_at p f 0)
        → n (link_at p f 1) ≡ m (link_at p f 1)
        → n (link_at p f 2) ≡ m (link_at p f 2)
        → Alike T m n p d (caller_frame m p f) (caller_works m p f)
        → ((i : ℕ) → i < vars T q → (var_mode T (first_var T q + i) ≡ 2 → ⊥) → holds T n (var_type T (first_var T q + i)) (location p (f + 4 + offset_of T q (first_var T q + i))) ≡ true)
        → ((i : ℕ) → i < vars T q → var_mode T (first_var T q + i) ≡ 2 → n (location p (f + 4 + offset_of T q (first_var T q + i))) ≡ m (location p (f + 4 + offset_of T q (first_var T q + i))))
        → Framed T n p d f w c top q
    frame_new e0 e1 e2 A v b =
        record {
          room = r.room;
          some_works = r.some_works;
          works = let g = cs.grows in let x = r.works in omega arith;
          begun = cs.begun w r.some_works r.works r.begun;
          there = r.there;
          procedure = r.procedure;
          owned = rw (cs.modules w r.some_works r.works) r.owned;
          ends = r.ends;
          fits = r.fits;
          from = r.from;
          to = r.to;
          values = v;
          bound = λ i l g. rw (e0, e2, b i l g) (lives_alike T m n p cs some made k A (var_type T (first_var T q + i)) (m (location p (f + 4 + offset_of T q (first_var T q + i)))) (r.bound i l g));
          calling = rw e1 r.calling;
          by = rw e1 (works_by_same T m n p d f w (stmt_at T (call_statement m p f)) e0 e2 A r.by);
        }

-- THE CHAIN stays where its words, the processes and their modules stay
module _ (T : Table) (L : PlaceLaws T) (m n : Memory) (cs : ProcessesStay m n) (p : ℕ) (some : 1 ≤ p) (made : p ≤ m created_at) where
  -- a value stays where its words stay
  pub value_same : (τ j : ℕ) → ((k : ℕ) → k < words_of T τ → n (location p (j + k)) ≡ m (location p (j + k))) → holds T m τ (location p j) ≡ true → holds T n τ (location p j) ≡ true
  value_same τ j h e = L.holds_same m n τ (location p j) (carries_keeps m n cs) (λ k l. rw (location_add p j k) (h k l)) e

  pub frame_same : {d f w c top q : ℕ} → Framed T m p d f w c top q → CallChain T m p d (caller_frame m p f) (caller_works m p f) (call_statement m p f) f → Same T m n cs p (module_words T (m (module_at p))) top → Framed T n p d f w c top q
  unfolding Same
  frame_same {f = f} {top = top} {q = q} r k s =
      let x = chain_over T m p k in
      let g = r.ends in
      frame_new T m n cs p some made r k
      (link_same T m n cs p (module_words T (m (module_at p))) top f 0 s x (omega arith))
      (link_same T m n cs p (module_words T (m (module_at p))) top f 1 s x (omega arith))
      (link_same T m n cs p (module_words T (m (module_at p))) top f 2 s x (omega arith))
      (alike_same T m n cs p k (same_below T m n cs p (module_words T (m (module_at p))) top f s (omega arith)))
      (λ i l h. let u = variable_in T q i l in let v = words_value T (first_var T q + i) h in value_same (var_type T (first_var T q + i)) (f + 4 + offset_of T q (first_var T q + i)) (λ j y. s (f + 4 + offset_of T q (first_var T q + i) + j) (omega arith) (omega arith)) (r.values i l h))
      (λ i l h. let u = variable_in T q i l in let v = words_var T (first_var T q + i) h in s (f + 4 + offset_of T q (first_var T q + i)) (omega arith) (omega arith))

  bottom_same : {f w c top : ℕ} → Bottom T m p f w c top → Bottom T n p f w c top
  bottom_same b =
      let e = cs.modules p some made in
      record { no_frame = b.no_frame; own = b.own; ends = rw e b.ends; from = rw e b.from; to = rw e b.to }

  pub chain_same : {d f w c top : ℕ} → CallChain T m p d f w c top → Same T m n cs p (module_words T (m (module_at p))) top → CallChain T n p d f w c top
  chain_same (bottom b) s = bottom (bottom_same b)
  chain_same {f = f} {top = top} (called r k) s =
      let x = chain_over T m p k in
      let g = r.ends in
      let e0 = link_same T m n cs p (module_words T (m (module_at p))) top f 0 s x (omega arith) in
      let e1 = link_same T m n cs p (module_words T (m (module_at p))) top f 1 s x (omega arith) in
      let e2 = link_same T m n cs p (module_words T (m (module_at p))) top f 2 s x (omega arith) in
      let e3 = link_same T m n cs p (module_words T (m (module_at p))) top f 3 s x (omega arith) in
      called_by T n p e0 e1 e2 e3 (frame_same r k s) (chain_same k (same_below T m n cs p (module_words T (m (module_at p))) top f s (omega arith)))
