-- Trusted: public promises are said with these definitions.
-- What a location holds: values of types, and parts of variables (01, A run; The state rule). Assumes nothing.
use Rattle.std.specs.Prelude.{ℕ, zero, suc, ◌+◌, ◌-◌, ◌*◌, ◌/◌, ◌%◌, Bool, true, false, eqb, leb, ltb}
use Rattle.basics.specs.Choice.{pick, both, either, all_below}
use Rattle.basics.specs.Course.{course}
use Rattle.table.specs.Table.{Table}
use Rattle.table.specs.Entries.{field_type, var_mode, var_type, first_var, vars}
use Rattle.types.specs.Match.{elements}
use Rattle.machine.specs.Memory.{Memory, within}
use Rattle.machine.specs.Entries.{TypeEntry, integer, boolean, character, record_type, array_type, process_type, no_type, type_at}
use Rattle.sizes.specs.Sizes.{words_of, offset_in}
use Rattle.machine.specs.Variables.{var_words, offset_of}
use Rattle.machine.specs.Processes.{refers}

-- f holds at some number below k
unfoldable pub some_below : ℕ → (ℕ → Bool) → Bool
some_below zero f = false
some_below (suc k) f = either (f k) (some_below k f)

-- a value of type τ stands at location a, where r says it of types with lower numbers: a word from the type's lowest to its highest; a
-- reference that is empty or names a created process of its module; a record or array where each part does
unfoldable pub type_holds : Table → Memory → ℕ → (ℕ → ℕ → Bool) → TypeEntry → ℕ → Bool
type_holds T m τ r integer a = true
type_holds T m τ r boolean a = leb (m a) 1
type_holds T m τ r character a = leb (m a) 127
type_holds T m τ r (record_type first count) a =
    all_below count (λ i. r (field_type T (first + i)) (a + offset_in T τ i))
type_holds T m τ r (array_type ι σ low high) a = all_below (elements T τ) (λ i. r σ (a + i * words_of T σ))
type_holds T m τ r (process_type μ) a = either (eqb (m a) 0) (refers m μ (m a))
type_holds T m τ r no_type a = false

unfoldable pub holds_at : Table → Memory → ℕ → (ℕ → ℕ → Bool) → ℕ → Bool
holds_at T m τ r a = type_holds T m τ r (type_at T τ) a

unfoldable pub nowhere : ℕ → Bool
nowhere a = false

-- THE VALUE of a variable of type τ at location a is one of its type
unfoldable pub holds : Table → Memory → ℕ → ℕ → Bool
holds T m τ = course nowhere (holds_at T m) τ

-- the field or element that has word k of a variable of type σ, where r says it of types with lower numbers
unfoldable pub part_in : Table → ℕ → (ℕ → ℕ → Bool) → TypeEntry → ℕ → Bool
part_in T σ r integer k = false
part_in T σ r boolean k = false
part_in T σ r character k = false
part_in T σ r (record_type first count) k =
    some_below count λ i.
    both (within (offset_in T σ i) (words_of T (field_type T (first + i))) k)
    (r (field_type T (first + i)) (k - offset_in T σ i))
part_in T σ r (array_type ι ρ low high) k = both (ltb (k / words_of T ρ) (elements T σ)) (r ρ (k % words_of T ρ))
part_in T σ r (process_type μ) k = false
part_in T σ r no_type k = false

unfoldable pub part_at : Table → ℕ → ℕ → (ℕ → ℕ → Bool) → ℕ → Bool
part_at T τ σ r k = either (both (eqb σ τ) (eqb k 0)) (part_in T σ r (type_at T σ) k)

-- a part of type τ begins at word k of a variable of type σ: the variable itself, or such a part of one of its parts
unfoldable pub part : Table → ℕ → ℕ → ℕ → Bool
part T τ σ = course nowhere (part_at T τ) σ

-- word k, counted from where the variables of block b begin, lies in its variable v, no var parameter, and a part of type τ begins there
unfoldable pub part_of_variable : Table → ℕ → ℕ → ℕ → ℕ → Bool
part_of_variable T b τ k v =
    both (within (offset_of T b v) (var_words T v) k)
    (pick (eqb (var_mode T v) 2) false (part T τ (var_type T v) (k - offset_of T b v)))

unfoldable pub part_of_block : Table → ℕ → ℕ → ℕ → Bool
part_of_block T b τ k = some_below (vars T b) (λ i. part_of_variable T b τ k (first_var T b + i))
