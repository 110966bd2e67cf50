-- Types of nodes, and how they match. Assumes nothing.
use Prim.Native.Nat.{ℕ, ◌+◌, ◌%◌, ◌≤◌, ◌<◌}
use mathlib.Core.Path.{◌≡◌, refl, ap}
use mathlib.Core.Bool.{Bool, true, false}
use lib.Dec.{eqb, ltb}
use borrow.Author.Tests.{eq-eqb, ne_eqb, eqb-true, ltb-false}
use native.Mathlib.Omega.{arith}
use Rattle.basics.specs.Choice.{both}
use Rattle.basics.specs.Cases.{cases}
use Rattle.basics.specs.Course.{course}
use Rattle.table.specs.Table.{Table}
use Rattle.table.specs.Entries.{declared, node_count, node_kind, node_q, type_kind}
use Rattle.table.specs.Reading.{Field}
use Rattle.basics.proofs.Bools.{no_true}
use Rattle.types.specs.Types.{no_type, operand_type, node_type, type_of, NodeType, numbered, string, evened, type_of_node}
use Rattle.types.specs.Match.{elements, is_string, is_text, characters, same_number, Match, equal, fitted, unfit, matching, is_equal, is_fit}
use Rattle.types.specs.Numbered.{matches}

-- a type with a kind is a declared one
pub declared_from : (T : Table) (τ k : ℕ) → type_kind T τ ≡ k → 1 ≤ k → 3 ≤ τ
unfolding declared
declared_from T τ k e l =
    cases (ltb τ 3)
    (λ q. let z : 0 ≡ k = rw q at e in omega arith)
    (λ q. ltb-false τ 3 q)

-- ---- the type of a node

module _ (T : Table) (n : ℕ) where
  pub constant_type : node_kind T n ≡ 8 → type_of_node T n ≡ string (evened (node_q T n))
  unfolding type_of_node
  constant_type e = rw (eq-eqb (node_kind T n) 8 e)

  -- a string constant's type has no number, wherever the node stands
  pub constant_none : node_kind T n ≡ 8 → type_of T n ≡ no_type
  unfolding type_of course node_type operand_type
  constant_none e = cases (ltb n (node_count T)) (λ l. rw (l, e) refl) (λ l. rw l refl)

  pub numbered_type : (node_kind T n ≡ 8 → ⊥) → type_of_node T n ≡ numbered (type_of T n)
  unfolding type_of_node
  numbered_type e = rw (ne_eqb (node_kind T n) 8 e)

  -- by the test that code makes of its kind
  module _ (b : Bool) (h : b ≡ eqb (node_kind T n) 8) where
    pub constant_told : b ≡ true → type_of_node T n ≡ string (evened (node_q T n))
    unfolding type_of_node
    constant_told e = rw (← h, e)

    pub numbered_told : b ≡ false → type_of_node T n ≡ numbered (type_of T n)
    unfolding type_of_node
    numbered_told e = rw (← h, e)

-- ---- two types

-- what `matching` says where both types have numbers
pub equal_numbers : (T : Table) (τ σ : ℕ) → is_equal (matching T (numbered τ) (numbered σ)) ≡ matches T τ σ
unfolding matching matches same_number is_text characters both is_equal
equal_numbers T τ σ =
    cases (eqb τ σ) (λ e. rw e refl)
    (λ e. cases (is_string T τ)
    (λ f. cases (is_string T σ)
    (λ g. cases (eqb (elements T τ) (elements T σ)) (λ h. rw (e, f, g, h) refl) (λ h. rw (e, f, g, h) refl))
    (λ g. rw (e, f, g) refl))
    (λ f. rw (e, f) refl))

pub is-equal : (k : Match) → is_equal k ≡ true → k ≡ equal
unfolding is_equal
is-equal equal h = refl
is-equal fitted h = no_true h
is-equal unfit h = no_true h

same-number : (a b : NodeType) → same_number a b ≡ true → a ≡ b
unfolding same_number
same-number (numbered τ) (numbered σ) e = ap numbered (eqb-true τ σ e)
same-number (numbered τ) (string n) e = no_true e
same-number (string n) (numbered σ) e = no_true e
same-number (string n) (string k) e = no_true e

-- equal types are the same, or strings of one length
pub equal_cases : (T : Table) (a b : NodeType) {A : Type 0} → is_equal (matching T a b) ≡ true
    → (a ≡ b → A) → (is_text T a ≡ true → is_text T b ≡ true → characters T a ≡ characters T b → A) → A
unfolding matching both is_equal
equal_cases T a b h f g =
    cases (same_number a b) (λ e. f (same-number a b e))
    (λ e. cases (is_text T a)
    (λ i. cases (is_text T b)
    (λ j. cases (eqb (characters T a) (characters T b))
    (λ k. g i j (eqb-true (characters T a) (characters T b) k))
    (λ k. no_true (rw (e, i, j, k) at h)))
    (λ j. no_true (rw (e, i, j) at h)))
    (λ i. no_true (rw (e, i) at h)))

-- ---- as code tests them

pub evened_is : (n : ℕ) → n < 65536 → (n + n % 2 ≡ evened n) × (n + n % 2 ≤ 65536)
unfolding evened
evened_is n h = (refl, omega arith)

module _ (T : Table) (n : ℕ) (b : Bool) (h : b ≡ eqb (node_kind T n) 8) where
  module _ (e : b ≡ true) where
    pub text_constant : true ≡ is_text T (type_of_node T n)
    unfolding is_text
    text_constant = rw (constant_told T n b h e) refl

    pub characters_constant : (q r : ℕ) → Field (node_q T n) q → (r ≡ evened q) × (r ≤ 65536) → r ≡ characters T (type_of_node T n)
    unfolding characters
    characters_constant q r f g = rw (constant_told T n b h e, ← f.is) g.0

    pub constant_number : (y : ℕ) → false ≡ same_number (type_of_node T n) (numbered y)
    unfolding same_number
    constant_number y = rw (constant_told T n b h e) refl

    pub number_constant : (p : ℕ) → false ≡ same_number (type_of_node T p) (type_of_node T n)
    unfolding same_number
    number_constant p = rw (constant_told T n b h e) (no_number (type_of_node T p))
      where
        no_number : (a : NodeType) → false ≡ same_number a (string (evened (node_q T n)))
        no_number (numbered τ) = refl
        no_number (string k) = refl

  module _ (e : b ≡ false) (t : ℕ) (f : Field (type_of T n) t) where
    pub text_numbered : (r : Bool) → r ≡ is_string T t → r ≡ is_text T (type_of_node T n)
    unfolding is_text
    text_numbered r g = rw (numbered_told T n b h e, ← f.is) g

    pub characters_numbered : (r : ℕ) → (r ≡ elements T t) × (r ≤ 65536) → r ≡ characters T (type_of_node T n)
    unfolding characters
    characters_numbered r g = rw (numbered_told T n b h e, ← f.is) g.0

    pub number_is : (y : ℕ) → eqb t y ≡ same_number (type_of_node T n) (numbered y)
    unfolding same_number
    number_is y = rw (numbered_told T n b h e, ← f.is) refl

    pub same_numbers : (p : ℕ) (r : Bool) → r ≡ same_number (type_of_node T p) (numbered t) → r ≡ same_number (type_of_node T p) (type_of_node T n)
    same_numbers p r g = rw (numbered_told T n b h e, ← f.is) g

module _ (T : Table) (a b : NodeType) (x : Bool) (h : x ≡ same_number a b) where
  pub equal_same : x ≡ true → true ≡ is_equal (matching T a b)
  unfolding matching is_equal
  equal_same e = rw (← h, e) refl

  pub fit_same : x ≡ true → true ≡ is_fit (matching T a b)
  unfolding matching is_fit
  fit_same e = rw (← h, e) refl

  module _ (e : x ≡ false) (y : Bool) (k : y ≡ is_text T a) where
    pub equal_none : y ≡ false → false ≡ is_equal (matching T a b)
    unfolding matching is_equal both
    equal_none f = rw (← h, e, ← k, f) refl

    pub fit_none : y ≡ false → false ≡ is_fit (matching T a b)
    unfolding matching is_fit both
    fit_none f = rw (← h, e, ← k, f) refl

    pub fit_text : (z : Bool) → y ≡ true → z ≡ is_text T b → z ≡ is_fit (matching T a b)
    unfolding matching is_fit both
    fit_text z f l =
        rw (← h, e, ← k, f, ← l)
        (cases z (λ g. rw g (cases (eqb (characters T a) (characters T b)) (λ i. rw i refl) (λ i. rw i refl))) (λ g. rw g refl))

    module _ (z : Bool) (f : y ≡ true) (l : z ≡ is_text T b) where
      pub equal_other : z ≡ false → false ≡ is_equal (matching T a b)
      unfolding matching is_equal both
      equal_other g = rw (← h, e, ← k, f, ← l, g) refl

      pub equal_texts : (u v : ℕ) → z ≡ true → u ≡ characters T a → v ≡ characters T b → eqb u v ≡ is_equal (matching T a b)
      unfolding matching is_equal both
      equal_texts u v g p q = rw (← h, e, ← k, f, ← l, g, ← p, ← q) (cases (eqb u v) (λ i. rw i refl) (λ i. rw i refl))

-- the type of a number is a string type
pub fit_string : (T : Table) (a : NodeType) (τ : ℕ) (x y z : Bool) → x ≡ same_number a (numbered τ) → x ≡ false → y ≡ is_text T a → y ≡ true → z ≡ is_string T τ → z ≡ is_fit (matching T a (numbered τ))
unfolding is_text
fit_string T a τ x y z h e k f l = fit_text T a (numbered τ) x h e y k z f l

pub ruleset matchings = (
  evened_is,
  text_constant,
  characters_constant,
  constant_number,
  number_constant,
  text_numbered,
  characters_numbered,
  number_is,
  same_numbers,
  equal_same,
  fit_same,
  equal_none,
  fit_none,
  equal_other,
  equal_texts,
  fit_string,
)
