-- The bytes that are read are bytes, and a count of one byte is below 256. Assumes nothing.
use Prim.Native.Nat.{ℕ, zero, suc, ◌<◌, ◌-◌}
use mathlib.Core.Path.{◌≡◌, refl}
use mathlib.Core.Bool.{Bool, true}
use mathlib.Core.List.{List, [], ◌∷◌, ◌++◌}
use lib.ListN.{get_or, replicate}
use lib.Dec.{ltb}
use native.Mathlib.Omega.{arith}
use borrow.Author.Tests.{ltb-true}
use Rattle.basics.specs.Cases.{cases}
use Rattle.basics.specs.Choice.{both}
use Rattle.basics.proofs.Bools.{both_l, both_r}
use Rattle.table.specs.Bytes.{begins}
use Rattle.table.specs.Empty.{field, fields_of, before_space, after_space, listing, bytes_read}
use Rattle.table.specs.Table.{count_at, table_at}

-- each number of a list is a byte
abbrev Small : List ℕ → Type 0
Small l = (i : ℕ) → get_or l i 0 < 256

small_none : Small []
small_none i = omega arith

small_more : (b : ℕ) (l : List ℕ) → b < 256 → Small l → Small (b ∷ l)
small_more b l h s zero = h
small_more b l h s (suc i) = s i

small_append : (l m : List ℕ) → Small l → Small m → Small (l ++ m)
small_append [] m a b i = b i
small_append (x ∷ l) m a b zero = a zero
small_append (x ∷ l) m a b (suc i) = small_append l m (λ j. a (suc j)) b i

small_zeros : (n : ℕ) → Small (replicate n 0)
small_zeros zero = small_none
small_zeros (suc n) = small_more 0 (replicate n 0) (omega arith) (small_zeros n)

-- computed of the numbers of a table
below : List ℕ → Bool
below [] = true
below (b ∷ l) = both (ltb b 256) (below l)

small_below : (l : List ℕ) → below l ≡ true → Small l
unfolding below
small_below [] e = small_none
small_below (b ∷ l) e = small_more b l (ltb-true b 256 (both_l _ _ e)) (small_below l (both_r _ _ e))

small_fields : (w : ℕ) (ns : List ℕ) → Small ns → Small (fields_of w ns)
unfolding fields_of field
small_fields w [] h = small_none
small_fields w (n ∷ ns) h =
    small_append (n ∷ replicate (w - 1) 0) (fields_of w ns) (small_more n (replicate (w - 1) 0) (h zero) (small_zeros (w - 1))) (small_fields w ns (λ i. h (suc i)))

small_listing : (w : ℕ) → Small (listing w)
unfolding listing below both
small_listing w =
    small_append (fields_of w before_space) (0 ∷ 0 ∷ fields_of w after_space) (small_fields w before_space (small_below before_space refl))
    (small_more 0 (0 ∷ fields_of w after_space) (omega arith) (small_more 0 (fields_of w after_space) (omega arith) (small_fields w after_space (small_below after_space refl))))

pub read_bytes : (w : ℕ) (t : List ℕ) → ((i : ℕ) → get_or t i 0 < 256) → (i : ℕ) → get_or (bytes_read w t) i 0 < 256
unfolding bytes_read
read_bytes w [] h = small_listing w
read_bytes w (b ∷ t) h = h

pub count_byte : (t : List ℕ) → ((i : ℕ) → get_or t i 0 < 256) → (k : ℕ) → (table_at 1 t).count k < 256
unfolding table_at count_at
count_byte t bytes k = cases (ltb k 8) (λ e. rw e (bytes (begins 1 t k))) (λ e. rw e (omega arith))
