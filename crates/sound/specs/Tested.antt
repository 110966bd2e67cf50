-- Trusted: public promises are said with these definitions.
-- A board tested under 0 gives the same answers and device words under 1 (02, g). Assumes nothing.
use Rattle.std.specs.Prelude.{ℕ, ◌≡◌, List, take}
use Rattle.sound.specs.Histories.{asked, shown, Every, History, steps}

module _ (verdict : ℕ → List ℕ → ℕ) (w : ℕ) where
  -- OF A RUN: one with the same table, begun with 1, shows the same answers and device words, as far as it names the same order and sees
  -- the same device words and no step of this one retrieves an unmarked word (31)
  pub record TestedAlike (h : History verdict w) : Type 0 where
    pub shows : (k : History verdict w) → k.table ≡ h.table → k.number ≡ 1 → (n : ℕ)
        → take n (asked (steps verdict w k)) ≡ take n (asked (steps verdict w h)) → Every (λ e. e.answer ≡ 31 → ⊥) (take n (steps verdict w h))
        → take n (shown (steps verdict w k)) ≡ take n (shown (steps verdict w h))
