-- Trusted: public promises are said with these definitions.
-- What the result of a call says, for every input (01, Verdicts and other refusals): it is the lowest number that applies, and a refusal
-- changes no lent byte. Check and look are lent their slices for reading only. Assumes nothing.
use Rattle.std.specs.Prelude.{ℕ, ◌+◌, ◌≤◌, ◌<◌, ◌≡◌, Bool, true, false, ◌↔◌, List, length, eqb, leb}
use Rattle.basics.specs.Choice.{both}
use Rattle.words.specs.Bytes.{Bytes}
use Rattle.table.specs.Table.{table_of}
use Rattle.machine.specs.Memory.{memory_of}
use Rattle.machine.specs.Rule.{rule}
use Rattle.machine.specs.Public.{visible, begun, called, run_lengths, begin_refusal, begin_call, run_refusal, run_call, look_call}
use Rattle.machine.specs.Layout.{location, module_at, state_size}
use Rattle.machine.specs.Marks.{marked}
use Rattle.machine.specs.Variables.{offset_of}
use Rattle.sound.specs.Histories.{begun_result, result}

-- ---- the numbers that check gives
pub data Checked (v : ℕ) : Type 0 where
  accepts : v ≡ 0 → Checked v
  refuses : 2 ≤ v → v ≤ 9 → Checked v

-- ---- the rows, for a result r: are the lengths, and begin's number, right, the verdict v on the table, does the state meet its rule
module _ (lengths : Bool) (v : ℕ) (state : Bool) where
  -- nothing is refused
  abbrev pub AllRight : Type 0
  AllRight = (lengths ≡ true) × ((v ≡ 0) × (state ≡ true))

  -- each of 1 to 10 is returned exactly if it applies and no lower one does
  pub record Lowest (r : ℕ) : Type 0 where
    pub one : (r ≡ 1) ↔ (lengths ≡ false)
    pub table : (n : ℕ) → 2 ≤ n → n ≤ 9 → (r ≡ n) ↔ ((lengths ≡ true) × (v ≡ n))
    pub ten : (r ≡ 10) ↔ ((lengths ≡ true) × ((v ≡ 0) × (state ≡ false)))

module _ (verdict : ℕ → List ℕ → ℕ) (w : ℕ) (table state : List ℕ) where
  -- BEGIN
  module _ (number : ℕ) where
    -- are the state's length and the number right (02, g)
    abbrev pub beginnable : Bool
    beginnable = both (eqb (length state) state_size) (leb number 1)

    abbrev pub began : ℕ
    began = begun_result (begin_call verdict w table state number)

    pub record BeginResult : Type 0 where
      pub is : began ≡ begin_refusal verdict w table state number
      pub lowest : Lowest beginnable (verdict w table) true began
      pub success : (began ≡ 0) ↔ AllRight beginnable (verdict w table) true
      -- where it refuses, the state is as it was
      pub unchanged : (began ≡ 0 → ⊥) → begin_call verdict w table state number ≡ begun began state

  -- does the state meet its rule
  abbrev pub ruled : Bool
  ruled = rule (table_of w table) (memory_of state)

  -- RUN
  module _ (page schedule answers : List ℕ) where
    abbrev pub lengths : Bool
    lengths = run_lengths (length state) (length page) (length schedule) (length answers)

    abbrev pub returned : ℕ
    returned = result (run_call verdict w table state page schedule answers)

    pub record RunResult : Type 0 where
      pub is : returned ≡ run_refusal verdict w table state page schedule answers
      pub lowest : Lowest lengths (verdict w table) ruled returned
      pub success : (returned ≡ 0) ↔ AllRight lengths (verdict w table) ruled
      -- where it refuses, state, page and answers are as they were
      pub unchanged : (returned ≡ 0 → ⊥) → run_call verdict w table state page schedule answers ≡ called returned state page answers

  -- LOOK
  module _ (process variable place : ℕ) where
    abbrev pub sees : Bool
    sees = visible (table_of w table) (memory_of state) process variable place

    -- is the word that they name marked
    abbrev pub set : Bool
    set = marked (memory_of state) (location process (offset_of (table_of w table) (memory_of state (module_at process)) variable + place))

    abbrev pub looked : ℕ
    looked = look_call verdict w table state process variable place

    pub record LookResult : Type 0 where
      pub lowest : Lowest (eqb (length state) state_size) (verdict w table) ruled looked
      pub eleven : (looked ≡ 11) ↔ (AllRight (eqb (length state) state_size) (verdict w table) ruled × (sees ≡ false))
      pub thirty_two : (looked ≡ 32) ↔ (AllRight (eqb (length state) state_size) (verdict w table) ruled × ((sees ≡ true) × (set ≡ false)))
      pub success : (65536 ≤ looked) ↔ (AllRight (eqb (length state) state_size) (verdict w table) ruled × ((sees ≡ true) × (set ≡ true)))
      pub most : looked < 65536 + 65536

-- ALL FOUR CALLS, for every input: a table, a state and a page are bytes
pub record Results (verdict : ℕ → List ℕ → ℕ) (w : ℕ) : Type 0 where
  pub checks : (table : List ℕ) → Checked (verdict w table)
  pub begins : (table state : List ℕ) (number : ℕ) → BeginResult verdict w table state number
  pub runs : (table state page schedule answers : List ℕ) → Bytes table → Bytes state → Bytes page → RunResult verdict w table state page schedule answers
  pub looks : (table state : List ℕ) (process variable place : ℕ) → Bytes state → LookResult verdict w table state process variable place
