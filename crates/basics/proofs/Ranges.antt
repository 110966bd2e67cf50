-- `all` over a range of numbers: what its clause `ran` says, as `all_below`. Assumes nothing.
use Prim.Native.Nat.{ℕ, zero, suc, ◌<◌}
use mathlib.Core.Path.{◌≡◌, refl, sym, ◌∙◌, subst}
use mathlib.Core.Bool.{Bool, true, false}
use mathlib.Core.List.{List}
use lib.ListN.{length}
use native.Mathlib.Omega.{arith}
use denote.Param.Members.{Mut, Called}
use Rattle.std.specs.Prelude.{Option, MatchOption, MatchBool, get_or}
use Rattle.std.specs.declared.ops.Range.{Range}
use Rattle.std.specs.Iterator.{YieldsThen}
use Rattle.std.specs.List.{FoldsTo, range_with_len, AllWithin, HoldsAt}
use Rattle.std.proofs.iter.Yields.{nat_range_steps}
use Rattle.std.proofs.lemmas.Iterator.{YieldsList-from_range, cases_from_all}
use Rattle.std.proofs.lemmas.List.FromFn.{length-range_with_len, get_or-range_with_len}
use Rattle.basics.specs.Choice.{all_below}
use Rattle.basics.proofs.Bools.{all_i, all_fail}

module _ (n : ℕ) (f : ℕ → Bool) where
  numbers : (k : ℕ) → k < length (range_with_len 0 n) → k < n
  numbers k h = subst (λ m. k < m) (length-range_with_len 0 n) h

  number_at : (k : ℕ) → k < n → get_or (range_with_len 0 n) k 0 ≡ k
  number_at k h = get_or-range_with_len 0 n k 0 h ∙ (omega arith)

  all_told : (r : Bool)
      → MatchBool r (AllWithin (λ x. true ≡ f x) (range_with_len 0 n) 0 (length (range_with_len 0 n))) ((k : ℕ) × (k < length (range_with_len 0 n)) × HoldsAt (λ x. false ≡ f x) (range_with_len 0 n) k)
      → r ≡ all_below n f
  all_told true h = sym (all_i n f (λ i l. subst (λ x. f x ≡ true) (number_at i l) (sym (h i 0 (omega arith) (subst (λ m. i < m) (sym (length-range_with_len 0 n)) l)))))
  all_told false h = let l = numbers h.0 h.1 in sym (all_fail n f h.0 l (subst (λ x. f x ≡ false) (number_at h.0 l) (sym (h.2 0))))

module _ {F : Type 0} {g : Mut F (ℕ × Unit {0}) Bool} {s : Range ℕ} (u : Range ℕ) (j : F) (r : Bool) (n : ℕ) (f : ℕ → Bool) where
  pub all_of : (xs : List ℕ) × (o : Option ℕ) × (k : F) × YieldsThen nat_range_steps s xs o u × FoldsTo (λ p x q. Called g p (x, tt) true q) j xs k × MatchOption o (r ≡ true) (λ x. (r ≡ false) × ((h : F) × Called g k (x, tt) false h))
      → s ≡ record { start = 0; end = n }
      → ((x : ℕ) (q : F) → Called g j (x, tt) true q → (q ≡ j) × (true ≡ f x))
      → ((x : ℕ) (q : F) → Called g j (x, tt) false q → false ≡ f x)
      → r ≡ all_below n f
  all_of ran e pass fail = all_told n f r (cases_from_all u j r (λ x. true ≡ f x) (λ x. false ≡ f x) ran (YieldsList-from_range 0 n n e (omega arith)) pass fail)

-- two tests that are one below n
pub all_alike : (n : ℕ) (f g : ℕ → Bool) → ((i : ℕ) → i < n → f i ≡ g i) → all_below n f ≡ all_below n g
unfolding all_below
all_alike zero f g h = refl
all_alike (suc n) f g h = rw (h n (omega arith), all_alike n f g (λ i l. h i (omega arith)))
