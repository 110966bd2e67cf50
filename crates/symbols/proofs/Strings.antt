-- Character symbols one after the other, and constants. Assumes nothing.
use Prim.Native.Nat.{ℕ, ◌+◌, ◌-◌, ◌<◌, ◌≤◌}
use mathlib.Core.Path.{◌≡◌, sym}
use mathlib.Core.List.{List}
use native.Mathlib.Nat.{zero-add}
use native.Mathlib.Omega.{arith}
use lib.ListN.{length, drop, take, length-drop}
use lib.Seq.{drop-drop, take-length}
use Rattle.std.specs.Prelude.{None, Some}
use Rattle.symbols.specs.Constants.{character_length, characters_length}
use Rattle.symbols.specs.Steps.{if_any}
use Rattle.symbols.proofs.Lengths.{characters_next, characters_stop}
use Rattle.symbols.proofs.Fronts.{any_some, any_none}

-- the text from a place on, as a range of a slice gives it
abbrev pub tail : List ℕ → ℕ → List ℕ
tail text at = take (length text - at) (drop at text)

pub tail_is : (text : List ℕ) (at : ℕ) → tail text at ≡ drop at text
tail_is text at = rw (← length-drop at text) (take-length (drop at text))

pub record Strung (text : List ℕ) (at : ℕ) : Type 0 where
  pub upto : at ≤ length text
  pub is : at + characters_length 0 (drop at text) ≡ characters_length 0 text

module _ (text : List ℕ) where
  pub strung_none : Strung text 0
  strung_none = record { upto = omega arith; is = zero-add (characters_length 0 text) }

  module _ (at : ℕ) (s : Strung text at) where
    pub strung_more : (x : ℕ) → Some x ≡ if_any (character_length (tail text at)) → 0 < x → x ≤ length (tail text at) → Strung text (at + x)
    strung_more x e p h =
        let n : character_length (drop at text) ≡ x = any_some (character_length (drop at text)) x (sym (rw (tail_is text at) at e)) in
        let i = characters_next (drop at text) (λ z. omega arith) in
        let d = drop-drop x at text in
        let j : characters_length 0 (drop at text) ≡ x + characters_length 0 (drop (at + x) text) = rw d at (rw n at i) in
        let g : x ≤ length (drop at text) = rw (tail_is text at) at h in
        record { upto = omega (arith, s.upto, length-drop at text); is = omega (arith, s.is) }

    pub strung_stop : None ≡ if_any (character_length (tail text at)) → at ≡ characters_length 0 text
    strung_stop e = omega (arith, s.is, characters_stop (drop at text) (any_none (character_length (drop at text)) (sym (rw (tail_is text at) at e))))

pub ruleset strings = (strung_none, strung_more, strung_stop)
