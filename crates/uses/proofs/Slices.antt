-- `all` over the first items of a slice: what its clause `ran` says, as `all_below`. Assumes nothing.
use Prim.Native.Nat.{ℕ, ◌≤◌, ◌<◌}
use mathlib.Core.Path.{◌≡◌, sym}
use mathlib.Core.Bool.{Bool, true, false}
use mathlib.Core.List.{List}
use native.Mathlib.Omega.{arith}
use lib.ListN.{length, take}
use lib.Seq.{get_or-take, length-take-le}
use denote.Param.Members.{Mut, Called}
use denote.Ref.{Bor}
use Rattle.std.specs.Prelude.{Option, MatchOption, MatchBool, get_or}
use Rattle.std.specs.Iterator.{YieldsThen}
use Rattle.std.specs.List.{FoldsTo, AllWithin, HoldsAt}
use Rattle.std.specs.Slice.Iter.{iter_rest}
use Rattle.std.proofs.Common.{Iter}
use Rattle.std.proofs.iter.Yields.{fronts}
use Rattle.std.proofs.lemmas.Iterator.{YieldsList-from_slice, cases_from_all}
use Rattle.basics.specs.Choice.{all_below}
use Rattle.basics.proofs.Bools.{all_i, all_fail}

module _ (n : ℕ) (l : List ℕ) (f : ℕ → Bool) (m : n ≤ length l) where
  items_told : (r : Bool)
      → MatchBool r (AllWithin (λ x. true ≡ f x) (take n l) 0 (length (take n l))) ((k : ℕ) × (k < length (take n l)) × HoldsAt (λ x. false ≡ f x) (take n l) k)
      → r ≡ all_below n (λ i. f (get_or l i 0))
  items_told true h = sym (all_i n (λ i. f (get_or l i 0)) (λ i p. rw (← get_or-take n l i 0 p) (sym (h i 0 (omega arith) (rw (length-take-le n l m) p)))))
  items_told false h =
      let p : h.0 < n = rw (length-take-le n l m) at h.1 in
      sym (all_fail n (λ i. f (get_or l i 0)) h.0 p (rw (← get_or-take n l h.0 0 p) (sym (h.2 0))))

module _ {F : Type 0} {g : Mut F (Bor ℕ × Unit {0}) Bool} {s : Iter ℕ} (u : Iter ℕ) (j : F) (r : Bool) (n : ℕ) (l : List ℕ) (f : ℕ → Bool) where
  pub all_of_items : (xs : List (Bor ℕ)) × (o : Option (Bor ℕ)) × (k : F) × YieldsThen fronts s xs o u × FoldsTo (λ p x q. Called g p (x, tt) true q) j xs k × MatchOption o (r ≡ true) (λ x. (r ≡ false) × ((h : F) × Called g k (x, tt) false h))
      → iter_rest s ≡ take n l
      → n ≤ length l
      → ((x : Bor ℕ) (q : F) → Called g j (x, tt) true q → (q ≡ j) × (true ≡ f x.now))
      → ((x : Bor ℕ) (q : F) → Called g j (x, tt) false q → false ≡ f x.now)
      → r ≡ all_below n (λ i. f (get_or l i 0))
  all_of_items ran e m pass fail = items_told n l f m r (cases_from_all u j r (λ x. true ≡ f x) (λ x. false ≡ f x) ran (YieldsList-from_slice (take n l) e) pass fail)
