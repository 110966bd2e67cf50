-- Trusted: public promises are said with these definitions.
-- An empty cartridge slot (02, c): zero bytes are the listing table of 01 to every call. Assumes nothing.
use Rattle.std.specs.Prelude.{ℕ, ◌≤◌, ◌≡◌, List, [], ◌∷◌}
use Rattle.table.specs.Empty.{listing}
use Rattle.verdict.specs.Verdict.{verdict}
use Rattle.machine.specs.Public.{begin_call, run_call, look_call}

pub record EmptySlot : Type 0 where
  -- they have its verdict in every edition, which is 0 in the small one; a table of one byte is still refused with 2
  pub same : (w : ℕ) → verdict w [] ≡ verdict w (listing w)
  pub accepted : verdict 1 [] ≡ 0
  pub one_byte : (w b : ℕ) → 1 ≤ w → verdict w (b ∷ []) ≡ 2
  -- begin, run and look return and leave the same for both, whatever else they are lent
  pub begins : (w : ℕ) (state : List ℕ) (number : ℕ) → begin_call verdict w [] state number ≡ begin_call verdict w (listing w) state number
  pub runs : (w : ℕ) (state page schedule answers : List ℕ) → run_call verdict w [] state page schedule answers ≡ run_call verdict w (listing w) state page schedule answers
  pub looks : (w : ℕ) (state : List ℕ) (process variable place : ℕ) → look_call verdict w [] state process variable place ≡ look_call verdict w (listing w) state process variable place
