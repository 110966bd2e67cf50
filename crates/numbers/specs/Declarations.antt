-- Trusted: public promises are said with these definitions.
-- Refusal 4 in types and fields (01, The table). Assumes nothing.
use Rattle.std.specs.Prelude.{ℕ, ◌+◌, Bool, true, List, [], ◌∷◌, eqb, leb, ltb}
use Rattle.basics.specs.Choice.{pick, both, all_below}
use Rattle.basics.specs.Chain.{taken}
use Rattle.basics.specs.Marks.{occurs, gather}
use Rattle.table.specs.Table.{Table}
use Rattle.table.specs.Entries.{type_kind, type_p, type_q, field_type, type_count, field_count, block_count}
use Rattle.numbers.specs.Sorts.{entry_ranged}

-- 'Records take fields in order, consecutively, with none left'
unfoldable pub is_record : Table → ℕ → Bool
is_record T i = eqb (type_kind T (3 + i)) 1

unfoldable pub record_first : Table → ℕ → ℕ
record_first T i = type_p T (3 + i)

unfoldable pub record_count : Table → ℕ → ℕ
record_count T i = type_q T (3 + i)

unfoldable pub fields_taken : Table → Bool
fields_taken T = taken (is_record T) (record_first T) (record_count T) (type_count T) (field_count T)

-- 'Field and element types have lower numbers than their user': field j of record τ. All fields are taken by records, so all are tested.
unfoldable pub field_below : Table → ℕ → ℕ → Bool
field_below T τ j = ltb (field_type T (type_p T τ + j)) τ

-- '1 record: first field, number of fields, at least 1'
unfoldable pub record_ranged : Table → ℕ → Bool
record_ranged T τ = both (leb 1 (type_q T τ)) (all_below (type_q T τ) (field_below T τ))

-- a type: its row, and a record's fields
unfoldable pub type_ranged : Table → ℕ → Bool
type_ranged T i = both (entry_ranged T 0 i) (pick (is_record T i) (record_ranged T (3 + i)) true)

-- 'one such entry a module at most': the modules that the process types name, each once
unfoldable pub module_of : Table → ℕ → List ℕ
module_of T i = pick (eqb (type_kind T (3 + i)) 3) (type_p T (3 + i) ∷ []) []

unfoldable pub named_modules : Table → List ℕ
named_modules T = gather (module_of T) (type_count T)

unfoldable pub named_once : Table → ℕ → Bool
named_once T b = leb (occurs b (named_modules T)) 1

unfoldable pub modules_once : Table → Bool
modules_once T = all_below (block_count T) (named_once T)
