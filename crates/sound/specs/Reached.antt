-- Inner: for code and proofs only; no public promise is said with these definitions.
-- What a step keeps besides the state rule: a memory has no words beyond its size. Assumes nothing.
use Rattle.std.specs.Prelude.{ℕ, ◌≤◌, ◌<◌, ◌≡◌, true}
use Rattle.table.specs.Table.{Table}
use Rattle.machine.specs.Memory.{Memory}
use Rattle.machine.specs.Step.{done, step}
use Rattle.machine.specs.Run.{begin}
use Rattle.machine.specs.Rule.{rule}
use Rattle.machine.specs.Layout.{state_words, page_words}
use Rattle.sound.specs.Bindings.{BindingsKept}
use Rattle.sound.specs.Answers.{Small, Sound}

-- the words from n on are 0
pub record ZeroFrom (n : ℕ) (m : Memory) : Type 0 where
  pub beyond : (i : ℕ) → n ≤ i → m i ≡ 0

-- a state that meets the rule, of 18,688 words; a page of 4,096 words
pub record Reached (T : Table) (m : Memory) : Type 0 where
  pub ruled : rule T m ≡ true
  pub words : Small m
  pub sized : ZeroFrom state_words m

pub record Page (page : Memory) : Type 0 where
  pub words : Small page
  pub sized : ZeroFrom page_words page

-- a step writes inside the state and the page only
pub record WithinSizes (s d : Memory) : Type 0 where
  pub state : ZeroFrom state_words s
  pub page : ZeroFrom page_words d

-- each number of the table is a word, so that a state can hold it
pub record WordTable (T : Table) : Type 0 where
  pub counts : (k : ℕ) → T.count k < 65536
  pub cells : (k i f : ℕ) → T.cell k i f < 65536

-- WHAT THE SOUNDNESS OF STEPS SAYS (Claims, StepSound): from a state that meets the rule none is stuck, and its state meets the rule
pub record StepLaws (T : Table) : Type 0 where
  pub sound : (m page : Memory) (p : ℕ) → rule T m ≡ true → Small m → Small page → Sound T (step T m page p)
  -- and what var parameters are bound to stays (proofs/Calls/BindingsKept, step-bindings)
  pub bindings : (m page : Memory) (p : ℕ) → rule T m ≡ true → Small m → Small page → (a : ℕ) (s d : Memory) → step T m page p ≡ done a s d → BindingsKept T m s

-- begin's state is one that steps reach
pub record BeginLaw (T : Table) : Type 0 where
  pub reached : (number : ℕ) → number ≤ 1 → Reached T (begin T number)
