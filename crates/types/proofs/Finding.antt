-- Finding the types of all nodes: the laws of each return. Assumes nothing.
use Prim.Native.Nat.{ℕ, ◌+◌, ◌%◌, ◌≤◌, ◌<◌}
use mathlib.Core.Path.{◌≡◌, refl, ◌∙◌}
use mathlib.Core.List.{List}
use lib.ListN.{length, get_or, set}
use lib.Dec.{ltb}
use native.Mathlib.Omega.{arith}
use borrow.Author.Tests.{ne_eqb, lt-ltb, le-ltb, ltb-true, ltb-false}
use Rattle.basics.specs.Cases.{cases}
use Rattle.basics.specs.Course.{upto, course}
use Rattle.basics.specs.Holds.{Holds}
use Rattle.basics.proofs.Courses.{upto_below, upto_above}
use Rattle.basics.proofs.Holding.{holds_none, holds_more, holds_in}
use Rattle.table.specs.Table.{Table}
use Rattle.table.specs.Entries.{node_count, var_type, node_kind, node_p, node_q}
use Rattle.table.specs.Reading.{Field}
use Rattle.types.specs.Types.{no_type, operand_type, node_type, type_of}
use Rattle.types.specs.Kept.{Types}
use Rattle.types.specs.Match.{offset}

-- the type of an operand
module _ (T : Table) (l : List ℕ) (n p : ℕ) (h : Holds (type_of T) n l) where
  pub operand_before : (r : ℕ) → p < n → Field (get_or l p 0) r → Field (upto no_type (node_type T) n p) r
  unfolding type_of
  operand_before r k f = rw (upto_below no_type (node_type T) n p k, ← h.is p k) f

  pub operand_none : n ≤ p → Field (upto no_type (node_type T) n p) 65535
  operand_none k = rw (upto_above no_type (node_type T) n p k) (record { is = refl; small = omega arith })

-- one node
module _ (T : Table) (n : ℕ) where
  pub type_none : (c : ℕ) → c ≡ node_count T → c ≤ n → Field (type_of T n) 65535
  unfolding type_of course node_type
  type_none c e h = rw (← e, le-ltb n c h) (record { is = refl; small = omega arith })

  module _ (c k p : ℕ) (e : c ≡ node_count T) (h : n < c) (hk : k ≡ node_kind T n) (hp : Field (node_p T n) p) where
    pub type_constant : k ≡ 0 → Field (type_of T n) p
    unfolding type_of course node_type
    type_constant q = rw (← e, lt-ltb n c h, ← hk, q) hp

    module _ (r : ℕ) where
      pub type_whole : k ≡ 1 → Field (var_type T p) r → Field (type_of T n) r
      unfolding type_of course node_type
      type_whole q f = rw (← e, lt-ltb n c h, ← hk, q, ← hp.is) f

      pub type_transfer : k ≡ 7 → Field (node_q T n) r → Field (type_of T n) r
      unfolding type_of course node_type
      type_transfer q f = rw (← e, lt-ltb n c h, ← hk, q) f

      pub type_operand : (x : ℕ) → (k ≡ 0 → ⊥) → (k ≡ 1 → ⊥) → (k ≡ 7 → ⊥) → Field (upto no_type (node_type T) n p) x → Field (operand_type T n x) r → Field (type_of T n) r
      unfolding type_of course node_type
      type_operand x a b d u f = rw (← e, lt-ltb n c h, ← hk, ne_eqb k 0 a, ne_eqb k 1 b, ne_eqb k 7 d, ← hp.is, ← u.is) f

pub ruleset nodes = (type_none, type_constant, type_whole, type_transfer, type_operand)

-- all nodes
module _ (T : Table) (l : List ℕ) where
  pub types_none : Holds (type_of T) 0 l
  types_none = holds_none (type_of T) l

  pub types_more : (n x v : ℕ) → Holds (type_of T) n l → n < length l → v ≡ x → Field (type_of T n) x → Holds (type_of T) (n + 1) (set l n v)
  types_more n x v h k e f = holds_more (type_of T) l n v h k (e ∙ f.is)

  pub types_all : (n c : ℕ) → Holds (type_of T) n l → c ≡ node_count T → n ≤ c → c ≤ n → Types T l
  types_all n c h e a b = let q : n ≡ node_count T = omega arith in record { holds = rw q at h }

  module _ (h : Types T l) (n c : ℕ) (e : c ≡ node_count T) where
    pub types_in : n < c → n < length l
    types_in k = holds_in (type_of T) l (node_count T) n h.holds (rw e at k)

    pub types_at : (r : ℕ) → n < c → Field (get_or l n 0) r → Field (type_of T n) r
    types_at r k f = rw (← h.holds.is n (rw e at k)) f

-- spans
pub offset_is : (v : ℕ) → v < 65536 → (v + 32768) % 65536 ≡ offset v
unfolding offset
offset_is v h =
    cases (ltb v 32768)
    (λ e. let l = ltb-true v 32768 e in rw e (omega arith))
    (λ e. let l = ltb-false v 32768 e in rw e (omega arith))

pub offset_small : (v : ℕ) → v < 65536 → offset v < 65536
offset_small v h = let e = offset_is v h in omega arith

pub ruleset finding = (nodes, operand_before, operand_none, types_none, types_more, types_all, types_in, types_at, offset_is, offset_small)
