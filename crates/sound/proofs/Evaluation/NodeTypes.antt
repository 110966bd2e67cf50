-- Evaluation: the types of nodes, and words. Assumes nothing.
use Prim.Native.Nat.{ℕ, zero, suc, ◌+◌, ◌-◌, ◌<◌}
use mathlib.Core.Path.{◌≡◌}
use mathlib.Core.List.{List, [], ◌∷◌}
use native.Mathlib.Omega.{arith}
use lib.ListN.{get_or}
use lib.Dec.{ltb}
use borrow.Author.Tests.{lt-ltb}
use Rattle.basics.specs.Cases.{cases}
use Rattle.basics.specs.Course.{course}
use Rattle.basics.proofs.Courses.{upto_below}
use Rattle.table.specs.Table.{Table}
use Rattle.table.specs.Entries.{declared, node_count, var_type, node_kind, node_p, node_q, node_v}
use Rattle.types.specs.Types.{field_of, element_of, unary_type, binary_type, operand_type, node_type, type_of}
use Rattle.machine.specs.Memory.{Memory, words_at}
use Rattle.machine.specs.Outcomes.{word_of}
use Rattle.machine.specs.Entries.{node_of, node_at}
use Rattle.sound.specs.Reached.{WordTable}
use Rattle.sound.specs.Evaluated.{SmallWords}

-- ---- nodes

pub node_is : (T : Table) (n k : ℕ) → n < node_count T → node_kind T n ≡ k → node_at T n ≡ node_of k (node_p T n) (node_q T n) (node_v T n)
unfolding node_at
node_is T n k l e = rw (lt-ltb n (node_count T) l, e)

-- ---- the type of a node

module _ (T : Table) (n : ℕ) (l : n < node_count T) where
  pub constant_type : node_kind T n ≡ 0 → type_of T n ≡ node_p T n
  unfolding type_of course node_type
  constant_type e = rw (lt-ltb n (node_count T) l, e)

  pub whole_type : node_kind T n ≡ 1 → type_of T n ≡ var_type T (node_p T n)
  unfolding type_of course node_type
  whole_type e = rw (lt-ltb n (node_count T) l, e)

  pub transfer_type : node_kind T n ≡ 7 → type_of T n ≡ node_q T n
  unfolding type_of course node_type
  transfer_type e = rw (lt-ltb n (node_count T) l, e)

  module _ (b : node_p T n < n) where
    pub field-type : node_kind T n ≡ 2 → type_of T n ≡ field_of T (type_of T (node_p T n)) (node_q T n)
    unfolding type_of course node_type operand_type
    field-type e = rw (lt-ltb n (node_count T) l, e, upto_below 65535 (node_type T) n (node_p T n) b)

    pub element_type : node_kind T n ≡ 3 → type_of T n ≡ element_of T (type_of T (node_p T n))
    unfolding type_of course node_type operand_type
    element_type e = rw (lt-ltb n (node_count T) l, e, upto_below 65535 (node_type T) n (node_p T n) b)

    pub value_type : node_kind T n ≡ 4 → type_of T n ≡ type_of T (node_p T n)
    unfolding type_of course node_type operand_type
    value_type e = rw (lt-ltb n (node_count T) l, e, upto_below 65535 (node_type T) n (node_p T n) b)

    pub unary-type : node_kind T n ≡ 5 → type_of T n ≡ unary_type (node_q T n) (type_of T (node_p T n))
    unfolding type_of course node_type operand_type
    unary-type e = rw (lt-ltb n (node_count T) l, e, upto_below 65535 (node_type T) n (node_p T n) b)

    pub binary-type : node_kind T n ≡ 6 → type_of T n ≡ binary_type (node_v T n) (type_of T (node_p T n))
    unfolding type_of course node_type operand_type
    binary-type e = rw (lt-ltb n (node_count T) l, e, upto_below 65535 (node_type T) n (node_p T n) b)

-- ---- small words

-- one word is small where it is
pub one_small : (w : ℕ) → w < 65536 → SmallWords (w ∷ [])
one_small w l = record { words = go }
  where
    go : (i : ℕ) → get_or (w ∷ []) i 0 < 65536
    go zero = l
    go (suc i) = omega arith

pub word_small : (ws : List ℕ) → SmallWords ws → word_of ws < 65536
unfolding word_of
word_small ws s = s.words 0

each_small : (m : Memory) → ((i : ℕ) → m i < 65536) → (n a i : ℕ) → get_or (words_at m a n) i 0 < 65536
unfolding words_at
each_small m h zero a i = omega arith
each_small m h (suc n) a zero = h a
each_small m h (suc n) a (suc i) = each_small m h n (a + 1) i

pub words_small : (m : Memory) → ((i : ℕ) → m i < 65536) → (a n : ℕ) → SmallWords (words_at m a n)
words_small m h a n = record { words = each_small m h n a }

-- ---- words of a table

pub declared_small : (T : Table) → WordTable T → (τ f : ℕ) → declared T τ f < 65536
unfolding declared
declared_small T W τ f = cases (ltb τ 3) (λ e. rw e (omega arith)) (λ e. rw e (W.cells 0 (τ - 3) f))
