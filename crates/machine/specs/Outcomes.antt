-- Trusted: public promises are said with these definitions.
-- What an evaluation, a selection or a statement comes to, and how such outcomes are joined: everything goes from left to right, and
-- the first failure is the outcome (01, Step answers; Agreement). Assumes nothing.
use Rattle.std.specs.Prelude.{ℕ, Bool, true, false, List, length, get_or, eqb}
use Rattle.basics.specs.Choice.{either, between}
use Rattle.types.specs.Types.{NodeType, numbered, string}

-- n is the number of a failure (01, Step answers; 02, g)
unfoldable pub is_failure : ℕ → Bool
is_failure n = either (between 16 24 n) (eqb n 31)

-- a result; a failure with its number; stuck: a number lies outside its section or area, or an operand is of another type than
-- its place asks
pub data Outcome (A : Type 0) : Type 0 where
  ok : A → Outcome A
  fail : ℕ → Outcome A
  stuck : Outcome A

unfoldable pub and_then : {A B : Type 0} → Outcome A → (A → Outcome B) → Outcome B
and_then (ok x) f = f x
and_then (fail n) f = fail n
and_then stuck f = stuck

-- o where the test holds, else stuck
unfoldable pub need : {A : Type 0} → Bool → Outcome A → Outcome A
need true o = o
need false o = stuck

-- failure n where the test holds, else o
unfoldable pub fail_where : {A : Type 0} → Bool → ℕ → Outcome A → Outcome A
fail_where true n o = fail n
fail_where false n o = o

-- a variable selects a place, a location and its type (8.2); an expression yields a value, a type and the words of the value (9);
-- a string constant yields a text, the characters that it has (02, b)
pub data Operand : Type 0 where
  place : ℕ → ℕ → Operand
  value : ℕ → List ℕ → Operand
  text : List ℕ → Operand

unfoldable pub placed : {A : Type 0} → Operand → (ℕ → ℕ → Outcome A) → Outcome A
placed (place a τ) f = f a τ
placed (value τ ws) f = stuck
placed (text ws) f = stuck

unfoldable pub valued : {A : Type 0} → Operand → (ℕ → List ℕ → Outcome A) → Outcome A
valued (place a τ) f = stuck
valued (value τ ws) f = f τ ws
valued (text ws) f = stuck

unfoldable pub typed_words : {A : Type 0} → Operand → (NodeType → List ℕ → Outcome A) → Outcome A
typed_words (place a τ) f = stuck
typed_words (value τ ws) f = f (numbered τ) ws
typed_words (text ws) f = f (string (length ws)) ws

-- the operand is a variable; it is an expression whose type has a number; it is any expression; it is an expression of type τ, whose value
-- is one word
unfoldable pub on_place : {A : Type 0} → Outcome Operand → (ℕ → ℕ → Outcome A) → Outcome A
on_place o f = and_then o λ x. placed x f

unfoldable pub on_value : {A : Type 0} → Outcome Operand → (ℕ → List ℕ → Outcome A) → Outcome A
on_value o f = and_then o λ x. valued x f

unfoldable pub on_typed : {A : Type 0} → Outcome Operand → (NodeType → List ℕ → Outcome A) → Outcome A
on_typed o f = and_then o λ x. typed_words x f

unfoldable pub word_of : List ℕ → ℕ
word_of ws = get_or ws 0 0

unfoldable pub on_word : {A : Type 0} → Outcome Operand → ℕ → (ℕ → Outcome A) → Outcome A
on_word o τ f = on_value o λ σ ws. need (eqb σ τ) (f (word_of ws))
