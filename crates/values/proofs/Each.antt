-- `all` over a range of numbers, where a yes of the test gives a fact: what a yes for all gives. Assumes nothing.
use Prim.Native.Nat.{ℕ, ◌<◌}
use mathlib.Core.Path.{◌≡◌, sym, ◌∙◌, subst}
use mathlib.Core.Bool.{Bool, true, false}
use mathlib.Core.List.{List}
use lib.ListN.{length}
use native.Mathlib.Omega.{arith}
use denote.Param.Members.{Mut, Called}
use Rattle.std.specs.Prelude.{Option, MatchOption, MatchBool, get_or}
use Rattle.std.specs.declared.ops.Range.{Range}
use Rattle.std.specs.Iterator.{YieldsThen}
use Rattle.std.specs.List.{FoldsTo, range_with_len, AllWithin, HoldsAt}
use Rattle.std.proofs.iter.Yields.{nat_range_steps}
use Rattle.std.proofs.lemmas.Iterator.{YieldsList-from_range, cases_from_all}
use Rattle.std.proofs.lemmas.List.FromFn.{length-range_with_len, get_or-range_with_len}
use Rattle.basics.proofs.Bools.{no_true}

each_told : (n : ℕ) (P : ℕ → Type 0) (r : Bool) → MatchBool r (AllWithin P (range_with_len 0 n) 0 (length (range_with_len 0 n))) ((k : ℕ) × (k < length (range_with_len 0 n)) × HoldsAt (λ x. Unit {0}) (range_with_len 0 n) k)
    → r ≡ true → (x : ℕ) → x < n → P x
each_told n P true h e x l =
    let p : P (get_or (range_with_len 0 n) x 0) = h x 0 (omega arith) (subst (λ m. x < m) (sym (length-range_with_len 0 n)) l) in
    subst P (get_or-range_with_len 0 n x 0 l ∙ (omega arith)) p
each_told n P false h e x l = no_true e

module _ {F : Type 0} {g : Mut F (ℕ × Unit {0}) Bool} {s : Range ℕ} (u : Range ℕ) (j : F) (r : Bool) (n : ℕ) (P : ℕ → Type 0) where
  pub each_of : (xs : List ℕ) × (o : Option ℕ) × (k : F) × YieldsThen nat_range_steps s xs o u × FoldsTo (λ p x q. Called g p (x, tt) true q) j xs k × MatchOption o (r ≡ true) (λ x. (r ≡ false) × ((h : F) × Called g k (x, tt) false h))
      → s ≡ record { start = 0; end = n }
      → ((x : ℕ) (q : F) → Called g j (x, tt) true q → (q ≡ j) × P x)
      → r ≡ true → (x : ℕ) → x < n → P x
  each_of ran e pass = each_told n P r (cases_from_all u j r P (λ x. Unit {0}) ran (YieldsList-from_range 0 n n e (omega arith)) pass (λ x q k. tt))
