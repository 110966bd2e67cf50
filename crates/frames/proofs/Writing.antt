-- Writes one after the other are the writes of the definitions. Assumes nothing.
use Prim.Native.Nat.{ℕ, suc, ◌+◌, ◌-◌, ◌<◌, ◌≤◌}
use mathlib.Core.Path.{◌≡◌, sym, ap, ◌∙◌, fun_ext}
use mathlib.Core.List.{List, [], ◌∷◌, ◌++◌}
use native.Mathlib.Omega.{arith}
use borrow.Author.Tests.{eqb-true, eqb-false, ltb-true, ltb-false}
use lib.Dec.{eqb, ltb}
use lib.ListN.{length, replicate, length-replicate, get_or-replicate}
use Rattle.basics.specs.Cases.{cases}
use Rattle.machine.specs.Memory.{Memory, memory_of, update, store, clear}
use Rattle.machine.specs.Layout.{location, record_at, status_at, module_at, statement_at, frame_at, top_at, works_at, holder_at, depth_at, created_at, link_at, state_words}
use Rattle.machine.specs.Lent.{Becomes}
use Rattle.machine.specs.Calls.{standing}
use Rattle.machine.specs.Processes.{created}
use Rattle.machine.proofs.Memories.{update_same, update_other, store_below, store_above, store_at, clear_below, clear_above, clear_at, location_plus}
use Rattle.machine.proofs.Copies.{store_none}
use Rattle.frames.specs.Frames.{with_position, padded, linked, framed, entered, left, wiped, with_parameters, with_start, ended}

-- ---- lists stored in parts

-- the first word, then the others
store_cons : (m : Memory) (a v : ℕ) (ws : List ℕ) → store m a (v ∷ ws) ≡ store (update m a v) (a + 1) ws
store_cons m a v ws = fun_ext at
  where
    at : (j : ℕ) → store m a (v ∷ ws) j ≡ store (update m a v) (a + 1) ws j
    at j =
        cases (ltb j a)
        (λ e.
        let l : j < a = ltb-true j a e in
        store_below m a (v ∷ ws) j l
        ∙ sym (store_below (update m a v) (a + 1) ws j (omega arith) ∙ update_other m a v j (λ q. omega arith)))
        (λ e.
        let l : a ≤ j = ltb-false j a e in
        cases (eqb j a)
        (λ q.
        let d : j ≡ a + 0 = omega (arith, eqb-true j a q) in
        let z : a + 0 ≡ a = omega arith in
        rw d (store_at m a (v ∷ ws) 0 (omega arith)
        ∙ sym (store_below (update m a v) (a + 1) ws (a + 0) (omega arith) ∙ rw z (update_same m a v))))
        (λ q.
        let n : j ≡ a → ⊥ = eqb-false j a q in
        cases (ltb j (a + 1 + length ws))
        (λ u.
        let k : j < a + 1 + length ws = ltb-true j (a + 1 + length ws) u in
        let d : j ≡ a + suc (j - a - 1) = omega arith in
        let f : j ≡ a + 1 + (j - a - 1) = omega arith in
        ap (store m a (v ∷ ws)) d
        ∙ store_at m a (v ∷ ws) (suc (j - a - 1)) (omega arith)
        ∙ sym (ap (store (update m a v) (a + 1) ws) f ∙ store_at (update m a v) (a + 1) ws (j - a - 1) (omega arith)))
        (λ u.
        let k : a + 1 + length ws ≤ j = ltb-false j (a + 1 + length ws) u in
        store_above m a (v ∷ ws) j (omega arith)
        ∙ sym (store_above (update m a v) (a + 1) ws j k ∙ update_other m a v j n))))

pub store_append : (m : Memory) (a : ℕ) (us ws : List ℕ) → store m a (us ++ ws) ≡ store (store m a us) (a + length us) ws
store_append m a [] ws = let e : a + 0 ≡ a = omega arith in rw (store_none m a, e)
store_append m a (u ∷ us) ws =
    let e : a + 1 + length us ≡ a + length (u ∷ us) = omega arith in
    store_cons m a u (us ++ ws)
    ∙ store_append (update m a u) (a + 1) us ws
    ∙ rw (e, store_cons m a u us)

pub store_zeros : (m : Memory) (a n : ℕ) → store m a (replicate n 0) ≡ clear m a n
unfolding store clear
store_zeros m a n = fun_ext at
  where
    at : (j : ℕ) → store m a (replicate n 0) j ≡ clear m a n j
    at j =
        let long : length {A = ℕ} (replicate n 0) ≡ n = length-replicate {A = ℕ} n 0 in
        cases (ltb j a)
        (λ e.
        let l : j < a = ltb-true j a e in
        store_below m a (replicate n 0) j l ∙ sym (clear_below m a n j l))
        (λ e.
        let l : a ≤ j = ltb-false j a e in
        cases (ltb j (a + n))
        (λ u.
        let k : j < a + n = ltb-true j (a + n) u in
        let d : j ≡ a + (j - a) = omega arith in
        ap (store m a (replicate n 0)) d
        ∙ store_at m a (replicate n 0) (j - a) (omega (arith, long))
        ∙ get_or-replicate {A = ℕ} n (j - a) 0 0 (omega arith)
        ∙ sym (clear_at m a n j l k))
        (λ u.
        let k : a + n ≤ j = ltb-false j (a + n) u in
        store_above m a (replicate n 0) j (omega (arith, long)) ∙ sym (clear_above m a n j k)))

-- ---- flat laws: what the code has done

module _ (s : List ℕ) (p : ℕ) where
  pub puts : (s1 s2 s3 : List ℕ) (a b c : ℕ) → Becomes s1 (update (memory_of s) (statement_at p) a)
      → Becomes s2 (update (memory_of s1) (frame_at p) b) → Becomes s3 (update (memory_of s2) (top_at p) c)
      → Becomes s3 (with_position (memory_of s) p a b c)
  unfolding with_position
  puts s1 s2 s3 a b c c1 c2 c3 = record { long = c3.long; is = rw (c3.is, c2.is, c1.is) }

  pub stood : (s3 s4 s5 : List ℕ) (a b c d e : ℕ) → Becomes s3 (with_position (memory_of s) p a b c)
      → Becomes s4 (update (memory_of s3) (works_at p) d) → Becomes s5 (update (memory_of s4) (depth_at p) e)
      → Becomes s5 (standing (memory_of s) p a b c d e)
  unfolding standing with_position
  stood s3 s4 s5 a b c d e c3 c4 c5 = record { long = c5.long; is = rw (c5.is, c4.is, c3.is) }

  pub ends : (s1 s2 : List ℕ) → Becomes s1 (update (memory_of s) (status_at p) 3)
      → Becomes s2 (update (memory_of s1) (holder_at p) 0) → Becomes s2 (ended (memory_of s) p)
  unfolding ended
  ends s1 s2 c1 c2 = record { long = c2.long; is = rw (c2.is, c1.is) }

store_four : (m : Memory) (a x y z q : ℕ)
    → store m a (linked x y z q []) ≡ update (update (update (update m a x) (a + 1) y) (a + 2) z) (a + 3) q
unfolding linked
store_four m a x y z q =
    store_cons m a x (y ∷ z ∷ q ∷ [])
    ∙ store_cons (update m a x) (a + 1) y (z ∷ q ∷ [])
    ∙ third
    ∙ fourth
    ∙ store_none (update (update (update (update m a x) (a + 1) y) (a + 2) z) (a + 3) q) (a + 3 + 1)
  where
    third :
        store (update (update m a x) (a + 1) y) (a + 1 + 1) (z ∷ q ∷ [])
        ≡ store (update (update (update m a x) (a + 1) y) (a + 2) z) (a + 3) (q ∷ [])
    third =
        let two : a + 1 + 1 ≡ a + 2 = omega arith in
        let three : a + 2 + 1 ≡ a + 3 = omega arith in
        rw two (rw three at (store_cons (update (update m a x) (a + 1) y) (a + 2) z (q ∷ [])))

    fourth :
        store (update (update (update m a x) (a + 1) y) (a + 2) z) (a + 3) (q ∷ [])
        ≡ store (update (update (update (update m a x) (a + 1) y) (a + 2) z) (a + 3) q) (a + 3 + 1) []
    fourth = store_cons (update (update (update m a x) (a + 1) y) (a + 2) z) (a + 3) q []

pub links : (s s1 s2 s3 s4 : List ℕ) (p f x y z q : ℕ) → Becomes s1 (update (memory_of s) (location p f) x)
    → Becomes s2 (update (memory_of s1) (location p (f + 1)) y) → Becomes s3 (update (memory_of s2) (location p (f + 2)) z)
    → Becomes s4 (update (memory_of s3) (location p (f + 3)) q)
    → Becomes s4 (store (memory_of s) (location p f) (linked x y z q []))
links s s1 s2 s3 s4 p f x y z q c1 c2 c3 c4 = record {
  long = c4.long;
  is =
      rw (c4.is, c3.is, c2.is, c1.is, location_plus p f 1, location_plus p f 2, location_plus p f 3)
      (sym (store_four (memory_of s) (location p f) x y z q));
}

pub store_padded : (m : Memory) (a n : ℕ) (ws : List ℕ)
    → store m a (padded ws n) ≡ clear (store m a ws) (a + length ws) (n - length ws)
unfolding padded
store_padded m a n ws =
    store_append m a ws (replicate (n - length ws) 0)
    ∙ store_zeros (store m a ws) (a + length ws) (n - length ws)

pub pads : (s s1 s2 ws : List ℕ) (size at : ℕ) → Becomes s1 (store (memory_of s) at ws)
    → Becomes s2 (clear (memory_of s1) (at + length ws) (size - length ws))
    → Becomes s2 (store (memory_of s) at (padded ws size))
pads s s1 s2 ws size at c1 c2 = record { long = c2.long; is = c2.is ∙ rw c1.is (sym (store_padded (memory_of s) at size ws)) }

pub links_back : (s s1 : List ℕ) (p f x y z q : ℕ) → x ≡ memory_of s (frame_at p) → y ≡ memory_of s (statement_at p)
    → z ≡ memory_of s (works_at p) → Becomes s1 (store (memory_of s) (location p f) (linked x y z q []))
    → Becomes s1 (framed (memory_of s) p f q [])
unfolding framed
links_back s s1 p f x y z q i j k c = rw (← i, ← j, ← k) c

pub frames : (s s1 s2 ws : List ℕ) (p f q at : ℕ) → at ≡ location p f → Becomes s1 (framed (memory_of s) p f q [])
    → Becomes s2 (store (memory_of s1) (at + 4) ws) → Becomes s2 (framed (memory_of s) p f q ws)
unfolding framed linked
frames s s1 s2 ws p f q at e c1 c2 = record { long = c2.long; is = c2.is ∙ rw (c1.is, e) (sym whole) }
  where
    four : List ℕ
    four = memory_of s (frame_at p) ∷ memory_of s (statement_at p) ∷ memory_of s (works_at p) ∷ q ∷ []

    whole : store (memory_of s) (location p f) (four ++ ws) ≡ store (store (memory_of s) (location p f) four) (location p f + 4) ws
    whole = store_append (memory_of s) (location p f) four ws

pub enters : (s s1 s2 ws : List ℕ) (p q r c size top depth : ℕ) → top ≡ memory_of s (top_at p) → depth ≡ memory_of s (depth_at p)
    → Becomes s1 (framed (memory_of s) p top q (padded ws size))
    → Becomes s2 (standing (memory_of s1) p c top (top + 4 + size) r (depth + 1))
    → Becomes s2 (entered (memory_of s) p q r c size ws)
unfolding entered
enters s s1 s2 ws p q r c size top depth i j c1 c2 =
    record { long = c2.long; is = rw (← i, ← j) (c2.is ∙ rw c1.is) }

pub leaves : (s s1 : List ℕ) (p c f depth caller works : ℕ) → f ≡ memory_of s (frame_at p) → depth ≡ memory_of s (depth_at p)
    → caller ≡ memory_of s (location p f) → works ≡ memory_of s (location p (f + 2))
    → Becomes s1 (standing (memory_of s) p (c + 1) caller f works (depth - 1)) → Becomes s1 (left (memory_of s) p c)
unfolding left link_at
leaves s s1 p c f depth caller works i j k l h = let z : f + 0 ≡ f = omega arith in rw (← i, ← j, z, ← k, ← l) h

pub wipes : (s s1 s2 : List ℕ) (n a b : ℕ) → a ≡ location n 0 → b ≡ record_at n 0 → Becomes s1 (clear (memory_of s) a 256)
    → Becomes s2 (clear (memory_of s1) b 20) → Becomes s2 (wiped (memory_of s) n)
unfolding wiped
wipes s s1 s2 n a b i j c1 c2 = record { long = c2.long; is = rw (c2.is, c1.is, i, j) }

pub creates : (s s1 s2 s3 s4 : List ℕ) (n μ : ℕ) → Becomes s1 (wiped (memory_of s) n)
    → Becomes s2 (update (memory_of s1) (status_at n) 1) → Becomes s3 (update (memory_of s2) (module_at n) μ)
    → Becomes s4 (update (memory_of s3) created_at n) → Becomes s4 (created (memory_of s) n μ)
unfolding created wiped
creates s s1 s2 s3 s4 n μ c1 c2 c3 c4 = record { long = c4.long; is = rw (c4.is, c3.is, c2.is, c1.is) }

pub gives : (s s1 s2 s3 ws : List ℕ) (r at : ℕ) → at ≡ location r 0 → Becomes s1 (store (memory_of s) at ws)
    → Becomes s2 (update (memory_of s1) (status_at r) 2) → Becomes s3 (update (memory_of s2) (holder_at r) r)
    → Becomes s3 (with_parameters (memory_of s) r ws)
unfolding with_parameters
gives s s1 s2 s3 ws r at i c1 c2 c3 = record { long = c3.long; is = rw (c3.is, c2.is, c1.is, i) }

pub begins : (s s1 s2 ws : List ℕ) (r c size : ℕ) → Becomes s1 (with_parameters (memory_of s) r ws)
    → Becomes s2 (standing (memory_of s1) r c 0 size r 0) → Becomes s2 (with_start (memory_of s) r c size ws)
unfolding with_start
begins s s1 s2 ws r c size c1 c2 = record { long = c2.long; is = c2.is ∙ rw c1.is }

-- the record of a process lies in the state
pub record_room : (n b : ℕ) → 1 ≤ n → n ≤ 64 → b ≡ record_at n 0 → b + 20 ≤ state_words
unfolding record_at
record_room n b h k e = omega arith

-- ---- one write after another

module _ (s1 s2 : List ℕ) (m : Memory) (i v : ℕ) where
  pub then_update : Becomes s1 m → Becomes s2 (update (memory_of s1) i v) → Becomes s2 (update m i v)
  then_update c1 c2 = record { long = c2.long; is = rw (c2.is, c1.is) }
