-- Inner: for code and proofs only; no public promise is said with these definitions.
-- The head of a type: what its words must hold, said by one type with no higher number. Assumes nothing.
use Rattle.std.specs.Prelude.{ℕ, ◌+◌, ◌≤◌, ◌<◌, ◌≡◌, Bool, true, false, List, length, eqb, leb}
use Rattle.basics.specs.Choice.{pick, all_below}
use Rattle.table.specs.Table.{Table}
use Rattle.table.specs.Entries.{type_kind, type_p, type_q, field_type}
use Rattle.sizes.specs.Sizes.{words_of}
use Rattle.machine.specs.Memory.{Memory}
use Rattle.machine.specs.Lent.{State}
use Rattle.machine.specs.Values.{holds}
use Rattle.values.specs.Lookup.{Lookup}
use Rattle.values.specs.Walks.{SmallSizes, reference_holds}

-- a record or an array
unfoldable pub has_parts : Table → ℕ → Bool
has_parts T τ = pick (eqb (type_kind T τ) 1) true (eqb (type_kind T τ) 2)

-- a value of type η stands at each of the n words from location a on
unfoldable pub word_holds : Table → Memory → ℕ → ℕ → ℕ → Bool
word_holds T m η a i = holds T m η (a + i)

unfoldable pub words_hold : Table → Memory → ℕ → ℕ → ℕ → Bool
words_hold T m η a n = all_below n (word_holds T m η a)

-- each of them is at most a number; each is a reference
unfoldable pub word_up_to : Memory → ℕ → ℕ → ℕ → Bool
word_up_to m most a i = leb (m (a + i)) most

unfoldable pub word_refers : Memory → ℕ → ℕ → ℕ → Bool
word_refers m μ a i = reference_holds m μ (a + i)

-- what the head η says of a value of type τ: if it has parts, that they are one of η; else that every word is
unfoldable pub head_holds : Table → Memory → ℕ → ℕ → ℕ → Bool
head_holds T m τ η a = pick (has_parts T η) (holds T m η a) (words_hold T m η a (words_of T τ))

-- THE HEAD of type τ is η
pub record Head (T : Table) (τ η : ℕ) : Type 0 where
  pub low : η ≤ τ
  pub fits : has_parts T η ≡ true → words_of T η ≤ words_of T τ
  pub is : (m : Memory) (a : ℕ) → holds T m τ a ≡ head_holds T m τ η a

-- the heads of the types below n; those of all that the list has room for
abbrev pub HeadsTo : Table → ℕ → List ℕ → Type 0
HeadsTo T = Lookup (Head T)

abbrev pub Heads : Table → List ℕ → Type 0
Heads T l = HeadsTo T (length l) l

-- a part of τ, of type σ, has a lower type with the head η
pub record PartHas (T : Table) (τ η σ : ℕ) : Type 0 where
  pub lower : σ < τ
  pub head : Head T σ η

-- the fields of τ below n do
pub record FieldsHave (T : Table) (τ η n : ℕ) : Type 0 where
  pub is : (j : ℕ) → j < n → PartHas T τ η (field_type T (type_p T τ + j))

-- where the answer is yes
pub record PartSaid (T : Table) (τ η σ : ℕ) (r : Bool) : Type 0 where
  pub said : r ≡ true → PartHas T τ η σ

pub record FieldsSaid (T : Table) (τ η : ℕ) (r : Bool) : Type 0 where
  pub said : r ≡ true → FieldsHave T τ η (type_q T τ)

-- a head whose words are tested one after the other, integers apart
pub record Tested (T : Table) (η : ℕ) : Type 0 where
  pub simple : has_parts T η ≡ false
  pub some : 1 ≤ η

-- what a test of values goes by: the words and heads of the types, and a state
pub record ValueTest (T : Table) (ws hs s : List ℕ) : Type 0 where
  pub ready : SmallSizes T ws
  pub heads : Heads T hs
  pub state : State s
