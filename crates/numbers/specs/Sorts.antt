-- Trusted: public promises are said with these definitions.
-- Numbers that name something, and of the right sort: refusal 4, for each sort of number once (01, The table and Verdicts). Assumes nothing.
use Rattle.std.specs.Prelude.{ℕ, ◌+◌, Bool, true, eqb, leb, ltb}
use Rattle.basics.specs.Choice.{pick, both}
use Rattle.table.specs.Table.{Table}
use Rattle.table.specs.Kinds.{Content, unused, number, standard, choice, entry, first, each_field}

-- how many entries of section k entry i of section s may name: all that there are, but of its own section those before it
-- ('Field and element types have lower numbers than their user', 'A node stands after its operands'; statement numbers apart)
unfoldable pub nameable : Table → ℕ → ℕ → ℕ → ℕ
nameable T s i k = pick (both (eqb s k) (ltb k 6)) i (T.count k)

-- declared types are numbered from 3
unfoldable pub limit : Table → ℕ → ℕ → ℕ → ℕ
limit T s i k = pick (eqb k 0) (3 + nameable T s i k) (nameable T s i k)

-- x in a field of entry i of section s; what an entry takes is ruled in order, below
unfoldable pub field_ranged : Table → ℕ → ℕ → Content → ℕ → Bool
field_ranged T s i unused x = true
field_ranged T s i number x = true
field_ranged T s i standard x = leb x 2
field_ranged T s i (choice a b) x = true
field_ranged T s i (entry k test) x = both (ltb x (limit T s i k)) (test (T.cell k x 0))
field_ranged T s i (first k) x = true

unfoldable pub entry_ranged : Table → ℕ → ℕ → Bool
entry_ranged T s i = each_field (field_ranged T s i) T s i
