-- The shapes of rows: bounds, and that a field lies in its row. Assumes nothing.
use Prim.Native.Nat.{ℕ, zero, suc, ◌+◌, ◌-◌, ◌*◌, ◌≤◌, ◌<◌}
use mathlib.Core.Path.{◌≡◌, refl, sym}
use borrow.Author.Tests.{lt-ltb, le-ltb}
use native.Mathlib.Nat.{mul-le-mul, mul-le-mul_right, suc-mul}
use native.Mathlib.Omega.{arith}
use Rattle.table.specs.Bytes.{shorts, words, fields, row_size, field_at, field_width}

pub shorts_small : (k : ℕ) → shorts k ≤ 6
unfolding shorts
shorts_small zero = omega arith
shorts_small (suc zero) = omega arith
shorts_small (suc (suc zero)) = omega arith
shorts_small (suc (suc (suc zero))) = omega arith
shorts_small (suc (suc (suc (suc zero)))) = omega arith
shorts_small (suc (suc (suc (suc (suc zero))))) = omega arith
shorts_small (suc (suc (suc (suc (suc (suc zero)))))) = omega arith
shorts_small (suc (suc (suc (suc (suc (suc (suc zero))))))) = omega arith
shorts_small (suc (suc (suc (suc (suc (suc (suc (suc k)))))))) = omega arith

pub words_small : (k : ℕ) → words k ≤ 2
unfolding words
words_small zero = omega arith
words_small (suc zero) = omega arith
words_small (suc (suc zero)) = omega arith
words_small (suc (suc (suc zero))) = omega arith
words_small (suc (suc (suc (suc zero)))) = omega arith
words_small (suc (suc (suc (suc (suc zero))))) = omega arith
words_small (suc (suc (suc (suc (suc (suc zero)))))) = omega arith
words_small (suc (suc (suc (suc (suc (suc (suc zero))))))) = omega arith
words_small (suc (suc (suc (suc (suc (suc (suc (suc k)))))))) = omega arith

pub fields_is : (k : ℕ) → fields k ≡ shorts k + words k
unfolding shorts words
fields_is zero = refl
fields_is (suc zero) = refl
fields_is (suc (suc zero)) = refl
fields_is (suc (suc (suc zero))) = refl
fields_is (suc (suc (suc (suc zero)))) = refl
fields_is (suc (suc (suc (suc (suc zero))))) = refl
fields_is (suc (suc (suc (suc (suc (suc zero)))))) = refl
fields_is (suc (suc (suc (suc (suc (suc (suc zero))))))) = refl
fields_is (suc (suc (suc (suc (suc (suc (suc (suc k)))))))) = refl

pub product : (a w : ℕ) → a ≤ 6 → w ≤ 2 → a * w ≤ 12
product a w h l = mul-le-mul h l

pub size_is : (w k a b : ℕ) → a ≡ shorts k → b ≡ words k → a * w + b * 2 ≡ row_size w k
unfolding row_size
size_is w k a b h l = rw (h, l)

-- field f of section k
module _ (w k f n : ℕ) (hn : n ≡ shorts k) where
  module _ (h : f < n) where
    pub short_at : field_at w k f ≡ f * w
    unfolding field_at
    short_at = rw (← hn, lt-ltb f n h)

    pub short_width : field_width w k f ≡ w
    unfolding field_width
    short_width = rw (← hn, lt-ltb f n h)

    pub short_in : f * w + w ≤ row_size w k
    unfolding row_size
    short_in =
        let m : suc f * w ≤ n * w = mul-le-mul_right w h in
        let e : suc f * w ≡ f * w + w = suc-mul f w in
        rw (← hn) (omega arith)

  module _ (h : n ≤ f) where
    pub word_at : field_at w k f ≡ n * w + (f - n) * 2
    unfolding field_at
    word_at = rw (← hn, le-ltb f n h)

    pub word_width : field_width w k f ≡ 2
    unfolding field_width
    word_width = rw (← hn, le-ltb f n h)

    pub word_in : f < fields k → n * w + (f - n) * 2 + 2 ≤ row_size w k
    unfolding row_size
    word_in l = let m : f < n + words k = rw (hn, ← fields_is k) l in rw (← hn) (omega arith)

-- where field f begins, as it is reckoned
module _ (w k f n : ℕ) (hn : n ≡ shorts k) (hs : n ≤ 6) (hw : w ≤ 2) where
  pub at_short : f < n → (f * w ≡ field_at w k f) × (f * w ≤ 16)
  at_short h = (sym (short_at w k f n hn h), omega (arith, product f w (omega arith) hw))

  module _ (h : n ≤ f) (l : f < fields k) where
    pub words_left : f - n ≤ 2
    words_left = omega (arith, fields_is k, words_small k)

    pub at-word : (n * w + (f - n) * 2 ≡ field_at w k f) × (n * w + (f - n) * 2 ≤ 16)
    at-word = (sym (word_at w k f n hn h), omega (arith, product n w hs hw, words_left))

pub ruleset places = (at_short, at-word)

pub width_short : (w k f n : ℕ) → n ≡ shorts k → f < n → w ≡ field_width w k f
width_short w k f n hn h = sym (short_width w k f n hn h)

pub width_word : (w k f n : ℕ) → n ≡ shorts k → n ≤ f → 2 ≡ field_width w k f
width_word w k f n hn h = sym (word_width w k f n hn h)

-- by cases of the section
pub words_none : (k : ℕ) → (k ≡ 0 → ⊥) → (k ≡ 3 → ⊥) → (k ≡ 5 → ⊥) → (0 ≡ words k) × (0 ≤ 2)
unfolding words
words_none zero a b c = absurd (a refl)
words_none (suc zero) a b c = (refl, omega arith)
words_none (suc (suc zero)) a b c = (refl, omega arith)
words_none (suc (suc (suc zero))) a b c = absurd (b refl)
words_none (suc (suc (suc (suc zero)))) a b c = (refl, omega arith)
words_none (suc (suc (suc (suc (suc zero))))) a b c = absurd (c refl)
words_none (suc (suc (suc (suc (suc (suc zero)))))) a b c = (refl, omega arith)
words_none (suc (suc (suc (suc (suc (suc (suc zero))))))) a b c = (refl, omega arith)
words_none (suc (suc (suc (suc (suc (suc (suc (suc k)))))))) a b c = (refl, omega arith)

pub shorts_one : (k : ℕ) → k < 8 → (k ≡ 0 → ⊥) → (k ≡ 2 → ⊥) → (k ≡ 3 → ⊥) → (k ≡ 5 → ⊥) → (k ≡ 6 → ⊥) → (1 ≡ shorts k) × (1 ≤ 6)
unfolding shorts
shorts_one zero h a b c d e = absurd (a refl)
shorts_one (suc zero) h a b c d e = (refl, omega arith)
shorts_one (suc (suc zero)) h a b c d e = absurd (b refl)
shorts_one (suc (suc (suc zero))) h a b c d e = absurd (c refl)
shorts_one (suc (suc (suc (suc zero)))) h a b c d e = (refl, omega arith)
shorts_one (suc (suc (suc (suc (suc zero))))) h a b c d e = absurd (d refl)
shorts_one (suc (suc (suc (suc (suc (suc zero)))))) h a b c d e = absurd (e refl)
shorts_one (suc (suc (suc (suc (suc (suc (suc zero))))))) h a b c d e = (refl, omega arith)
shorts_one (suc (suc (suc (suc (suc (suc (suc (suc k)))))))) h a b c d e = absurd (omega arith)
