-- Trusted: public promises are said with these definitions.
-- The variables in use, and that they hold values of their types, by parts (01, A run, for demand 3). Assumes nothing.
use Rattle.std.specs.Prelude.{ℕ, suc, ◌+◌, ◌*◌, ◌≤◌, ◌<◌, ◌≡◌, true}
use Rattle.table.specs.Table.{Table}
use Rattle.table.specs.Entries.{field_type, var_mode, var_type, first_var, vars}
use Rattle.types.specs.Match.{elements}
use Rattle.sizes.specs.Sizes.{words_of, offset_in}
use Rattle.words.specs.Numbers.{int_of, between_z}
use Rattle.words.specs.Types.{lowest, highest}
use Rattle.machine.specs.Memory.{Memory}
use Rattle.machine.specs.Layout.{location, status_at, module_at, frame_at, depth_at, created_at, caller_frame, called_block}
use Rattle.machine.specs.Entries.{record_type, array_type, process_type, type_at}
use Rattle.machine.specs.Variables.{offset_of}

-- process p is created
pub record Created (m : Memory) (p : ℕ) : Type 0 where
  pub least : 1 ≤ p
  pub most : p ≤ m created_at

-- w is empty, or names a created process of module μ
pub data Reference (m : Memory) (μ w : ℕ) : Type 0 where
  empty : w ≡ 0 → Reference m μ w
  names : Created m w → m (module_at w) ≡ μ → Reference m μ w

module _ (T : Table) where
  -- a part of type τ begins at word k of a variable of type σ: the variable itself, or a part of a field or element
  pub data Part : ℕ → ℕ → ℕ → Type 0 where
    itself : {τ σ k : ℕ} → τ ≡ σ → k ≡ 0 → Part τ σ k
    of_field : {τ σ k : ℕ} (first count i j : ℕ) → type_at T σ ≡ record_type first count → i < count → k ≡ offset_in T σ i + j
        → Part τ (field_type T (first + i)) j → Part τ σ k
    of_element : {τ σ k : ℕ} (ι ρ low high i j : ℕ) → type_at T σ ≡ array_type ι ρ low high → i < elements T σ → k ≡ i * words_of T ρ + j
        → Part τ ρ j → Part τ σ k

  -- v is a variable of block b
  pub record VariableOf (b v : ℕ) : Type 0 where
    pub least : first_var T b ≤ v
    pub most : v < first_var T b + vars T b

module _ (T : Table) (m : Memory) where
  -- what stands at location a is a value of type τ: a word from the type's lowest to its highest, a reference that is empty or names
  -- a created process of its module, a record or array each part of which is one
  pub data HoldsValue : ℕ → ℕ → Type 0 where
    simple : {τ a : ℕ} → τ < 3 → between_z (lowest τ) (highest τ) (int_of (m a)) ≡ true → HoldsValue τ a
    reference : {τ a : ℕ} (μ : ℕ) → type_at T τ ≡ process_type μ → Reference m μ (m a) → HoldsValue τ a
    each_field : {τ a : ℕ} (first count : ℕ) → type_at T τ ≡ record_type first count
        → ((i : ℕ) → i < count → HoldsValue (field_type T (first + i)) (a + offset_in T τ i)) → HoldsValue τ a
    each_element : {τ a : ℕ} (ι σ low high : ℕ) → type_at T τ ≡ array_type ι σ low high
        → ((i : ℕ) → i < elements T τ → HoldsValue σ (a + i * words_of T σ)) → HoldsValue τ a

  -- process p has a call that has not ended, its frame at f, and d calls below it: the innermost, or the one that made such a call
  pub data CallAt : ℕ → ℕ → ℕ → Type 0 where
    innermost : {p d f : ℕ} → Created m p → m (status_at p) ≡ 2 → m (depth_at p) ≡ suc d → f ≡ m (frame_at p) → CallAt p d f
    caller : {p d f : ℕ} (g : ℕ) → CallAt p (suc d) g → f ≡ caller_frame m p g → CallAt p d f

  -- where variable v of process p's module stands, and where variable v of its call with the frame at f
  abbrev pub module_variable_at : ℕ → ℕ → ℕ
  module_variable_at p v = location p (offset_of T (m (module_at p)) v)

  abbrev pub call_variable : ℕ → ℕ → ℕ → ℕ
  call_variable p f v = location p (f + 4 + offset_of T (called_block m p f) v)

  -- a variable of type σ in use stands at location a: a module variable of a created process (for process 1, block 0's), or a value
  -- parameter or local of a call that has not ended
  pub data InUse (σ a : ℕ) : Type 0 where
    of_module : (p v : ℕ) → Created m p → VariableOf T (m (module_at p)) v → σ ≡ var_type T v → a ≡ module_variable_at p v → InUse σ a
    of_call : (p d f v : ℕ) → CallAt p d f → VariableOf T (called_block m p f) v → (var_mode T v ≡ 2 → ⊥) → σ ≡ var_type T v → a ≡ call_variable p f v
        → InUse σ a

  -- location a is that of a variable in use or of a part of one, of type τ, and holds a value
  pub record Bound (τ a : ℕ) : Type 0 where
    pub type : ℕ
    pub begins : ℕ
    pub word : ℕ
    pub in_use : InUse type begins
    pub part : Part T τ type word
    pub is : a ≡ begins + word
    pub holds : HoldsValue τ a

  -- EVERY VARIABLE IN USE holds a value of its type; every var parameter of a call that has not ended is bound to one of its type that does
  pub record ValuesHold : Type 0 where
    pub variables : (σ a : ℕ) → InUse σ a → HoldsValue σ a
    pub bound : (p d f v : ℕ) → CallAt p d f → VariableOf T (called_block m p f) v → var_mode T v ≡ 2 → Bound (var_type T v) (m (call_variable p f v))
