-- Inner: for code and proofs only; no public promise is said with these definitions.
-- What the passes of the state rule carry from row to row, and the parts of values as a pass meets them. Assumes nothing.
use Rattle.std.specs.Prelude.{ℕ, ◌+◌, ◌-◌, ◌*◌, ◌/◌, ◌%◌, ◌≤◌, ◌≡◌, Bool, true, false, List, eqb, leb, ltb}
use Rattle.basics.specs.Choice.{pick, both, all_below}
use Rattle.basics.specs.Loops.{Passed}
use Rattle.table.specs.Table.{Table}
use Rattle.table.specs.Entries.{type_kind, type_p, type_q, field_type, var_mode, var_type, first_var}
use Rattle.types.specs.Match.{elements}
use Rattle.sizes.specs.Sizes.{words_of, offset_in, types_sized}
use Rattle.sizes.specs.Kept.{Sizes}
use Rattle.machine.specs.Memory.{Memory, within}
use Rattle.machine.specs.Variables.{var_words, first_words}
use Rattle.machine.specs.Processes.{refers}
use Rattle.machine.specs.Values.{holds, some_below, part}

-- the array holds the words of all types, each at most 200
pub record SmallSizes (T : Table) (l : List ℕ) : Type 0 where
  pub sizes : Sizes T l
  pub sized : types_sized T ≡ true

-- a value of type τ at location a ends where locations can still be counted
pub record Near (T : Table) (τ a : ℕ) : Type 0 where
  pub near : a + words_of T τ ≤ 20000000

-- r is v, the words of a type
pub record WordCount (v r : ℕ) : Type 0 where
  pub is : r ≡ v
  pub small : r ≤ 200

-- a value of a standard type
unfoldable pub simple_holds : Memory → ℕ → ℕ → Bool
simple_holds m τ a =
    pick (eqb τ 0) true
    (pick (eqb τ 1) (leb (m a) 1)
    (pick (eqb τ 2) (leb (m a) 127) false))

-- a process variable
unfoldable pub reference_holds : Memory → ℕ → ℕ → Bool
reference_holds m μ a = pick (eqb (m a) 0) true (refers m μ (m a))

module _ (T : Table) (m : Memory) (τ a : ℕ) where
  -- a part of a value is one of its type, of a type with a lower number
  unfoldable pub part_holds : ℕ → ℕ → Bool
  part_holds σ k = pick (ltb σ τ) (holds T m σ k) false

  unfoldable pub field_holds : ℕ → Bool
  field_holds i = part_holds (field_type T (type_p T τ + i)) (a + offset_in T τ i)

  unfoldable pub fields_hold : Bool
  fields_hold = all_below (type_q T τ) field_holds

  unfoldable pub element_holds : ℕ → Bool
  element_holds i = part_holds (type_q T τ) (a + i * words_of T (type_q T τ))

  unfoldable pub elements_hold : Bool
  elements_hold = all_below (elements T τ) element_holds

  -- a record type, an array type
  pub record RecordAt : Type 0 where
    pub kind : type_kind T τ ≡ 1
    pub near : Near T τ a

  pub record ArrayAt : Type 0 where
    pub kind : type_kind T τ ≡ 2
    pub near : Near T τ a

  -- the fields below i hold, and field i begins at k; so for elements
  pub record FieldsTo (i k : ℕ) : Type 0 where
    pub is : k ≡ a + offset_in T τ i
    pub passed : Passed field_holds i

  pub record ElementsTo (i k : ℕ) : Type 0 where
    pub is : k ≡ a + i * words_of T (type_q T τ)
    pub passed : Passed element_holds i

-- a search over rows: none of those below i passes, and row i begins at k
pub record Sought (begin : ℕ → ℕ) (test : ℕ → Bool) (i k : ℕ) : Type 0 where
  pub is : k ≡ begin i
  pub small : k ≤ i * 200
  pub none : some_below i test ≡ false

-- a pass over rows: those below i do, and row i begins at k
pub record Walked (begin : ℕ → ℕ) (test : ℕ → Bool) (i k : ℕ) : Type 0 where
  pub is : k ≡ begin i
  pub small : k ≤ i * 200
  pub passed : Passed test i

-- the parts of type τ of a variable of type σ, at word k
module _ (T : Table) (τ σ k : ℕ) where
  -- in a field of type ρ that begins at word a
  unfoldable pub field_begins : ℕ → ℕ → Bool
  field_begins ρ a = pick (ltb ρ σ) (both (within a (words_of T ρ) k) (part T τ ρ (k - a))) false

  unfoldable pub field_i_begins : ℕ → Bool
  field_i_begins i = field_begins (field_type T (type_p T σ + i)) (offset_in T σ i)

  unfoldable pub fields_begin : Bool
  fields_begin = some_below (type_q T σ) field_i_begins

  unfoldable pub element_begins : Bool
  element_begins =
      pick (ltb (type_q T σ) σ)
      (both (ltb (k / words_of T (type_q T σ)) (elements T σ)) (part T τ (type_q T σ) (k % words_of T (type_q T σ))))
      false

-- in variable v, which begins at word a
unfoldable pub variable_begins : Table → ℕ → ℕ → ℕ → ℕ → Bool
variable_begins T τ k v a =
    both (within a (var_words T v) k) (pick (eqb (var_mode T v) 2) false (part T τ (var_type T v) (k - a)))

unfoldable pub variable_i_begins : Table → ℕ → ℕ → ℕ → ℕ → Bool
variable_i_begins T b τ k i = variable_begins T τ k (first_var T b + i) (first_words T b i)
