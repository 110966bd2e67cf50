-- A look at a word: which processes, variables and places name one, and where it stands. Assumes nothing.
use Prim.Native.Nat.{ℕ, ◌+◌, ◌-◌, ◌≤◌, ◌<◌, min}
use mathlib.Core.Path.{◌≡◌, refl, sym, ◌∙◌}
use mathlib.Core.Bool.{Bool, true, false}
use mathlib.Core.List.{List}
use native.Mathlib.Omega.{arith}
use lib.Dec.{eqb, leb, ltb}
use lib.ListN.{length}
use borrow.Author.Tests.{eq-eqb, ne_eqb, eqb-true, eqb-false, le-leb, lt-leb, leb-true, lt-ltb, le-ltb, ltb-true, ltb-false}
use Rattle.basics.specs.Choice.{pick, both, between}
use Rattle.basics.specs.Cases.{cases}
use Rattle.basics.proofs.Bools.{no_true, both_l, both_r, all-at}
use Rattle.table.specs.Table.{Table, table_of}
use Rattle.table.specs.Entries.{var_count, block_count, var_mode, var_type, block_kind, first_var, params, vars}
use Rattle.sizes.specs.Sizes.{words_of, var_offset}
use Rattle.sizes.specs.Kept.{Sizes}
use Rattle.sizes.proofs.Sums.{sum_same}
use Rattle.sizes.proofs.Judging.{var_in}
use Rattle.sizes.proofs.Promise.{module_most, var_exact, size_exact}
use Rattle.numbers.proofs.BlockPromise.{program_there, program_kind, program_params, no_program, mode_local}
use Rattle.typing.proofs.Promise.{module_param}
use Rattle.std.specs.Prelude.{Result}
use Rattle.verdict.specs.Verdict.{verdict}
use Rattle.verdict.specs.Refusals.{refusal_number, look_number}
use Rattle.verdict.specs.declared.Refusal.{Refusal}
use Rattle.verdict.proofs.Rooming.{refusal_some}
use Rattle.verdict.specs.Accepted.{Accepted}
use Rattle.machine.specs.Memory.{Memory, within, memory_of}
use Rattle.machine.specs.Layout.{location, module_at, created_at, locations, state_size}
use Rattle.machine.specs.Marks.{marked}
use Rattle.machine.specs.Variables.{var_words, first_words, offset_of, belongs, is_module}
use Rattle.machine.specs.Rule.{module_ok, process_ok, rule}
use Rattle.machine.specs.Public.{refusal, visible, word_there, look, look_refusal, look_call}
use Rattle.states.specs.Parts.{started_or_ended, look_judged}

-- ---- what the state rule says of a created process

module _ (T : Table) (m : Memory) (h : rule T m ≡ true) where
  pub created_most : m created_at ≤ 64
  unfolding rule between
  created_most = leb-true (m created_at) 64 (both_r _ _ (both_l _ _ h))

  process-row : (p : ℕ) → 1 ≤ p → p ≤ m created_at → process_ok T m p ≡ true
  unfolding rule
  process-row p l g =
      let q : p - 1 + 1 ≡ p = omega arith in
      rw q at (all-at (m created_at) (λ i. process_ok T m (i + 1)) (both_r _ _ (both_r _ _ h)) (p - 1) (omega arith))

  module_row : (p : ℕ) → 1 ≤ p → p ≤ m created_at → module_ok T m p ≡ true
  unfolding process_ok
  module_row p l g = both_l _ _ (process-row p l g)

  -- it is of block 0 or of a process module
  pub process_block : Accepted T → (p : ℕ) → 1 ≤ p → p ≤ m created_at → (m (module_at p) < block_count T) × (block_kind T (m (module_at p)) ≤ 1)
  unfolding module_ok is_module
  process_block ok p l g =
      cases (eqb p 1)
      (λ q.
      let e : m (module_at p) ≡ 0 = eqb-true (m (module_at p)) 0 (both_r _ _ (rw q at (module_row p l g))) in
      let k = program_kind T ok.numbers in
      let n = program_there T ok.numbers in
      (rw e n, rw e (omega arith)))
      (λ q.
      let x = both_r _ _ (rw q at (module_row p l g)) in
      let k : block_kind T (m (module_at p)) ≡ 1 = eqb-true (block_kind T (m (module_at p))) 1 (both_r _ _ x) in
      (ltb-true (m (module_at p)) (block_count T) (both_l _ _ x), omega arith))

-- ---- a variable of a block

module _ (T : Table) (b v n : ℕ) (en : n ≡ var_count T) where
  pub belongs_none : n ≤ v → false ≡ belongs T b v
  unfolding belongs both
  belongs_none g = rw (← en, le-ltb v n g)

  module _ (g : v < n) (a : ℕ) (ea : a ≡ first_var T b) where
    pub belongs_before : v < a → false ≡ belongs T b v
    unfolding belongs within both
    belongs_before f = rw (← en, lt-ltb v n g, ← ea, lt-leb a v f)

    pub belongs_last : (k : ℕ) → k ≡ vars T b → a ≤ v → ltb v (a + k) ≡ belongs T b v
    unfolding belongs within both
    belongs_last k ek f = rw (← en, lt-ltb v n g, ← ea, ← ek, le-leb a v f)

module _ (T : Table) (b v : ℕ) (h : belongs T b v ≡ true) where
  belongs_there : v < var_count T
  unfolding belongs
  belongs_there = ltb-true v (var_count T) (both_l _ _ h)

  pub belongs_from : first_var T b ≤ v
  unfolding belongs within
  belongs_from = leb-true (first_var T b) v (both_l _ _ (both_r _ _ h))

  belongs_to : v < first_var T b + vars T b
  unfolding belongs within
  belongs_to = ltb-true v (first_var T b + vars T b) (both_r _ _ (both_r _ _ h))

-- ---- where it begins

module _ (T : Table) (ok : Accepted T) (b : ℕ) (l : b < block_count T) (k : block_kind T b ≤ 1) where
  -- a program or module has no var parameter
  no_var : (i : ℕ) → i < vars T b → var_mode T (first_var T b + i) ≡ 2 → ⊥
  no_var i g e =
      cases (ltb i (params T b))
      (λ q.
      let f : i < params T b = ltb-true i (params T b) q in
      cases (eqb b 0)
      (λ z.
      let y : b ≡ 0 = eqb-true b 0 z in
      let u : params T b ≡ 0 = rw y (program_params T ok.numbers) in
      omega arith)
      (λ z.
      let d : b ≡ 0 → ⊥ = eqb-false b 0 z in
      let u = no_program T ok.numbers b l d in
      let x = module_param T ok.types b l (omega arith) i f in
      omega arith))
      (λ q. let x = mode_local T ok.numbers b l i (ltb-false i (params T b) q) g in omega arith)

  first-words : (i : ℕ) → i ≤ vars T b → first_words T b i ≡ var_offset T b i
  unfolding first_words var_offset var_words
  first-words i g =
      sum_same (λ j. var_words T (first_var T b + j)) (λ j. words_of T (var_type T (first_var T b + j))) i
      (λ j f. rw (ne_eqb (var_mode T (first_var T b + j)) 2 (no_var j (omega arith))))

  module _ (v : ℕ) (h : belongs T b v ≡ true) where
    index_in : v - first_var T b < vars T b
    index_in = omega (arith, belongs_from T b v h, belongs_to T b v h)

    offset_is : offset_of T b v ≡ var_offset T b (v - first_var T b)
    unfolding offset_of
    offset_is = first-words (v - first_var T b) (omega (arith, index_in))

    pub offset_found : (a r : ℕ) → a ≡ first_var T b → r ≡ min (var_offset T b (v - a)) 257 → r ≡ offset_of T b v
    offset_found a r e q =
        let x : r ≡ min (var_offset T b (v - first_var T b)) 257 = rw e at q in
        var_exact T ok.sizes b l k (v - first_var T b) r (omega (arith, index_in)) x ∙ sym offset_is

    offset-in : (j : ℕ) → j < words_of T (var_type T v) → offset_of T b v + j ≤ 255
    offset-in j g =
        let f = belongs_from T b v h in
        let q : first_var T b + (v - first_var T b) ≡ v = omega arith in
        let x = rw q at (var_in T b (v - first_var T b) index_in) in
        let y = module_most T ok.sizes b l k in
        omega (arith, offset_is)

-- ---- what is visible

chosen : (a b c d e f : Bool) → both (both a b) (both (both c d) (both e f)) ≡ pick (pick a (pick b (pick c d false) false) false) (pick e f false) false
unfolding both
chosen false b c d e f = refl
chosen true false c d e f = refl
chosen true true false d e f = refl
chosen true true true false e f = refl
chosen true true true true e f = refl

visible_is : (T : Table) (m : Memory) (p v k : ℕ) → visible T m p v k ≡ pick (started_or_ended m p) (pick (belongs T (m (module_at p)) v) (ltb k (words_of T (var_type T v))) false) false
unfolding visible between started_or_ended
visible_is T m p v k = chosen _ _ _ _ _ _

first : (a b : Bool) → pick a b false ≡ true → a ≡ true
first true b e = refl
first false b e = e

next : (a b : Bool) → pick a b false ≡ true → b ≡ true
next true b e = e
next false b e = no_true e

shown_in : (m : Memory) (p : ℕ) → started_or_ended m p ≡ true → (1 ≤ p) × (p ≤ m created_at)
unfolding started_or_ended
shown_in m p h = (leb-true 1 p (first (leb 1 p) _ h), leb-true p (m created_at) (first (leb p (m created_at)) _ (next (leb 1 p) _ h)))

-- a process that is shown has a record
pub shown_record : (T : Table) (m : Memory) (p : ℕ) → rule T m ≡ true → (c : Bool) → c ≡ started_or_ended m p → c ≡ true → (1 ≤ p) × ((p ≤ 64) × (1 < 20))
shown_record T m p h c e z =
    let x = shown_in m p (sym e ∙ z) in
    let y = created_most T m h in
    (x.0, (omega (arith, x.1), omega arith))

module _ (T : Table) (m : Memory) (p v k : ℕ) (c : Bool) (ec : c ≡ started_or_ended m p) where
  pub visible_hidden : c ≡ false → false ≡ visible T m p v k
  visible_hidden z = rw (visible_is T m p v k, ← ec, z)

  module _ (z : c ≡ true) (a b : ℕ) (ea : a ≡ m (module_at p)) (eb : b ≡ a) (d : Bool) (ed : d ≡ belongs T b v) where
    module_is : m (module_at p) ≡ b
    module_is = sym ea ∙ sym eb

    pub visible_other : d ≡ false → false ≡ visible T m p v k
    visible_other y = rw (visible_is T m p v k, ← ec, z, module_is, ← ed, y)

    pub visible_place : Accepted T → (u : List ℕ) → Sizes T u → d ≡ true → (x r : ℕ) → x ≡ var_type T v → r ≡ min (words_of T x) 201 → ltb k r ≡ visible T m p v k
    visible_place ok u s y x r ex er =
        let q : r ≡ words_of T (var_type T v) = size_exact T ok.sizes u s (var_type T v) r (rw ex at er) in
        rw (visible_is T m p v k, ← ec, z, module_is, ← ed, y, ← q)

-- ---- the word

module _ (T : Table) (ok : Accepted T) (m : Memory) (p v k : ℕ) (h : rule T m ≡ true) (e : visible T m p v k ≡ true) where
  seen_from : 1 ≤ p
  unfolding visible between
  seen_from = leb-true 1 p (both_l _ _ (both_l _ _ e))

  seen_to : p ≤ m created_at
  unfolding visible between
  seen_to = leb-true p (m created_at) (both_r _ _ (both_l _ _ e))

  seen_variable : belongs T (m (module_at p)) v ≡ true
  unfolding visible
  seen_variable = both_l _ _ (both_r _ _ (both_r _ _ e))

  seen_place : k < words_of T (var_type T v)
  unfolding visible
  seen_place = ltb-true k (words_of T (var_type T v)) (both_r _ _ (both_r _ _ (both_r _ _ e)))

  pub seen_record : (1 ≤ p) × ((p ≤ 64) × (1 < 20))
  seen_record = (seen_from, (omega (arith, seen_to, created_most T m h), omega arith))

  module _ (a b : ℕ) (ea : a ≡ m (module_at p)) (eb : b ≡ a) where
    block_is : m (module_at p) ≡ b
    block_is = sym ea ∙ sym eb

    pub seen_block : (b < block_count T) × (block_kind T b ≤ 1)
    seen_block = rw block_is at (process_block T m h ok p seen_from seen_to)

    pub seen_belongs : belongs T b v ≡ true
    seen_belongs = rw block_is at seen_variable

    module _ (o : ℕ) (eo : o ≡ offset_of T b v) where
      pub seen_in : o + k ≤ 255
      seen_in = rw eo (offset-in T ok b seen_block.0 seen_block.1 v seen_belongs k seen_place)

      pub seen_area : (1 ≤ p) × ((p ≤ 64) × (o + k ≤ 255))
      seen_area = (seen_from, (omega (arith, seen_to, created_most T m h), seen_in))

      pub seen_at : (r : ℕ) → (r ≡ location p (o + k)) × (r < locations) → (r ≡ location p (offset_of T (m (module_at p)) v + k)) × (r < locations)
      seen_at r q = rw (block_is, ← eo) q

module _ (T : Table) (m : Memory) (p v k : ℕ) (c : Bool) (ec : c ≡ visible T m p v k) where
  pub look_none : c ≡ false → 11 ≡ look T m p v k
  unfolding look
  look_none z = rw (← ec, z)

  pub look_seen : c ≡ true → (a : ℕ) (r : Result ℕ Refusal) → a ≡ location p (offset_of T (m (module_at p)) v + k) → look_number r ≡ word_there m a → look_number r ≡ look T m p v k
  unfolding look
  look_seen z a r q e = rw (← ec, z, ← q) e

-- the word at a location
module _ (m : Memory) (a : ℕ) (c : Bool) (ec : c ≡ marked m a) where
  pub there_set : c ≡ true → (r : ℕ) → r ≡ m a → 65536 + r ≡ word_there m a
  unfolding word_there
  there_set z r q = rw (← ec, z, q)

  pub there_unset : c ≡ false → 32 ≡ word_there m a
  unfolding word_there
  there_unset z = rw (← ec, z)

-- ---- the call, where it is known whether the state meets its rule

module _ (w : ℕ) (table state : List ℕ) (p v k : ℕ) where
  pub looked_short : (length state ≡ state_size → ⊥) → 1 ≡ look_call verdict w table state p v k
  unfolding look_call look_refusal refusal
  looked_short n = rw (ne_eqb (length state) state_size n)

  module _ (l : length state ≡ state_size) where
    pub looked_refused : (x : Refusal) → refusal_number x ≡ verdict w table → refusal_number x ≡ look_call verdict w table state p v k
    unfolding look_call look_refusal refusal
    looked_refused x e =
        let n : eqb (refusal_number x) 0 ≡ false = ne_eqb (refusal_number x) 0 (refusal_some x) in
        rw (eq-eqb (length state) state_size l, ← e, n, n)

    pub looked_judged : (r : ℕ) → 0 ≡ verdict w table → r ≡ look_judged (table_of w table) (memory_of state) p v k → r ≡ look_call verdict w table state p v k
    unfolding look_call look_refusal refusal look_judged
    looked_judged r e h =
        h ∙ cases (rule (table_of w table) (memory_of state))
        (λ q. rw (eq-eqb (length state) state_size l, ← e, q))
        (λ q. rw (eq-eqb (length state) state_size l, ← e, q))

pub judged_rule : (T : Table) (m : Memory) (c : Bool) → c ≡ rule T m → c ≡ true → rule T m ≡ true
judged_rule T m c e z = sym e ∙ z

pub seen_visible : (T : Table) (m : Memory) (p v k : ℕ) (c : Bool) → c ≡ visible T m p v k → c ≡ true → visible T m p v k ≡ true
seen_visible T m p v k c e z = sym e ∙ z

module _ (T : Table) (m : Memory) (p v k : ℕ) (c : Bool) (ec : c ≡ rule T m) where
  pub judged_broken : c ≡ false → 10 ≡ look_judged T m p v k
  unfolding look_judged
  judged_broken z = rw (← ec, z)

  pub judged_look : c ≡ true → (r : Result ℕ Refusal) → look_number r ≡ look T m p v k → look_number r ≡ look_judged T m p v k
  unfolding look_judged
  judged_look z r h = rw (← ec, z) h

pub ruleset belonging = (belongs_none, belongs_before, belongs_last)

pub ruleset seeing = (created_most, shown_record, visible_hidden, visible_other, visible_place)

pub ruleset looking = (seen_visible, look_none, look_seen)

pub ruleset seen = (seen_record, seen_block, seen_belongs, seen_in, seen_area, seen_at)
