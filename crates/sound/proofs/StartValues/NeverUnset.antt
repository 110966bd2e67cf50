-- A run that was begun with 1 has every location marked: no step answers 31, no look 32 (02, g). Assumes nothing.
use Prim.Native.Nat.{ℕ, ◌+◌, ◌-◌, ◌/◌, ◌%◌, ◌≤◌, ◌<◌}
use mathlib.Core.Path.{◌≡◌, refl, sym, ◌∙◌}
use mathlib.Core.Bool.{Bool, true, false}
use mathlib.Core.List.{List, [], ◌∷◌, ◌++◌}
use native.Mathlib.Omega.{arith}
use borrow.Author.Tests.{leb-true, ltb-true, le-leb, lt-ltb}
use Rattle.basics.specs.Cases.{cases}
use Rattle.basics.specs.Choice.{both}
use Rattle.basics.proofs.Bools.{no_true, both_l, both_r}
use Rattle.table.specs.Table.{Table}
use Rattle.table.specs.Entries.{var_type, first_var, vars}
use Rattle.sizes.specs.Sizes.{words_of}
use Rattle.machine.specs.Memory.{Memory, memory_of, within, fill}
use Rattle.machine.specs.Layout.{location, module_at, locations, plain_words, mark_words}
use Rattle.machine.specs.Marks.{AllSet, mark_word, marked, all_marked}
use Rattle.machine.specs.Entries.{Statement}
use Rattle.machine.specs.Variables.{offset_of, belongs, fits}
use Rattle.machine.specs.Context.{Context, context_of}
use Rattle.machine.specs.Run.{begin}
use Rattle.machine.specs.Public.{visible, word_there, look}
use Rattle.machine.proofs.Memories.{within-from, within_to}
use Rattle.machine.proofs.MarkLaws.{each_all, full_marked}
use Rattle.verdict.specs.Accepted.{Accepted}
use Rattle.sound.specs.Conditions.{Selects, NodeFails, result, inverted, divisor, index, device, transferred, unset, in_record, in_array, in_index, in_variable, in_unary, in_transfer, in_left, in_right, ArgumentsFail, this_argument, later_argument, GuardsFail, this_guard, later_guard, StatementFails, target, source, local_argument, local_space, local_area, callee, callee_unset, callee_empty, call_argument, call_area, createe, limit, startee, startee_unset, startee_empty, started_twice, start_argument, guard, address, datum}
use Rattle.sound.specs.Conditions as conditions
use Rattle.sound.specs.Histories.{Seen, finally, Threaded, Every}
use Rattle.sound.specs.Rows.{Row, row0, row1, row2, row3, row16}
use Rattle.sound.specs.Ruled.{Ruled}
use Rattle.sound.proofs.Evaluation.OperandSizes.{place_fits, place_area}
use Rattle.sound.proofs.Memory.ProcessRecords.{location_end}
use Rattle.sound.proofs.StartValues.NumberStays.{Numbered, numbered, numbered_on}
use Rattle.sound.proofs.Rule.RuleRecord.{block_there, block-kind, in_created}
use Rattle.sound.proofs.Values.ModuleVariables.{module_plain, module_fits}
use Rattle.sound.proofs.Values.BlockVariables.{variable_in, words_value}

-- ---- begin

mark_filled : (T : Table) (a : ℕ) → a < locations → begin T 1 (mark_word a) ≡ 65535
unfolding begin fill within mark_word
mark_filled T a l =
    rw (le-leb plain_words (plain_words + a / 16) (omega arith), lt-ltb (plain_words + a / 16) (plain_words + mark_words) (omega arith)) (unfold both in refl)

pub begin_set : (T : Table) → AllSet (begin T 1)
begin_set T a l = full_marked (begin T 1) a (mark_filled T a l)

-- ---- no failure 31

module _ (T : Table) (m page : Memory) (x : Context) (set : AllSet m) where
  no_false : {b : Bool} → b ≡ true → b ≡ false → ⊥
  no_false e h = no_true (sym h ∙ e)

  -- a selected variable lies in an area
  selected_set : (a i τ : ℕ) → Selects T m page x a i τ → all_marked m i (words_of T τ) ≡ true
  unfolding fits
  selected_set a i τ y =
      let f = place_fits T m page x a i τ y in
      let b : i < locations = ltb-true _ _ (both_l _ _ f) in
      let c : i % 256 + words_of T τ ≤ 256 = leb-true _ _ (both_r _ _ f) in
      each_all m i (words_of T τ) (λ k l. set (i + k) (omega arith))

  node_set : (f n : ℕ) → NodeFails T m page x f n → f ≡ 31 → ⊥
  node_set _ n (result e y w q r) z = omega arith
  node_set _ n (inverted e y r) z = omega arith
  node_set _ n (divisor e y w q r) z = omega arith
  node_set _ n (index e y t w h) z = omega arith
  node_set _ n (device e y h) z = omega arith
  node_set _ n (transferred e y h) z = omega arith
  node_set _ n (unset {a = a} {i = i} {τ = τ} e y h) z = no_false (selected_set a i τ y) h
  node_set f n (in_record {a = a} e h) z = node_set f a h z
  node_set f n (in_array {a = a} e h) z = node_set f a h z
  node_set f n (in_index {k = k} e y h) z = node_set f k h z
  node_set f n (in_variable {a = a} e h) z = node_set f a h z
  node_set f n (in_unary {a = a} e h) z = node_set f a h z
  node_set f n (in_transfer {a = a} e h) z = node_set f a h z
  node_set f n (in_left {a = a} e h) z = node_set f a h z
  node_set f n (in_right {b = b} e y h) z = node_set f b h z

  arguments_set : (f k v i : ℕ) → ArgumentsFail T m page x f k v i → f ≡ 31 → ⊥
  arguments_set f _ v i (this_argument h) z = node_set f _ h z
  arguments_set f _ v i (later_argument {k = k} e h) z = arguments_set f k (v + 1) (i + 1) h z

  guards_set : (f i : ℕ) → GuardsFail T m page x f i → f ≡ 31 → ⊥
  guards_set f i (this_guard {g = g} e h) z = node_set f g h z
  guards_set f i (later_guard {l = l} e y u h) z = guards_set f l h z

  reference_set : (a i τ : ℕ) → Selects T m page x a i τ → marked m i ≡ false → ⊥
  reference_set a i τ y h = no_false (set i (place_area T m page x a i τ y)) h

  pub statement_set : (f : ℕ) (S : Statement) → StatementFails T m page x f S → f ≡ 31 → ⊥
  statement_set f _ (target h) z = node_set f _ h z
  statement_set f _ (source y h) z = node_set f _ h z
  statement_set f _ (local_argument h) z = arguments_set f _ _ _ h z
  statement_set _ _ (local_space e h) z = omega arith
  statement_set _ _ (local_area e h) z = omega arith
  statement_set f _ (callee h) z = node_set f _ h z
  statement_set _ _ (callee_unset {a = a} {i = i} {τ = τ} y h) z = reference_set a i τ y h
  statement_set _ _ (callee_empty y u) z = omega arith
  statement_set f _ (call_argument y u s h) z = arguments_set f _ _ _ h z
  statement_set _ _ (call_area y u s e h) z = omega arith
  statement_set f _ (createe h) z = node_set f _ h z
  statement_set _ _ (limit y e) z = omega arith
  statement_set f _ (startee h) z = node_set f _ h z
  statement_set _ _ (startee_unset {a = a} {i = i} {τ = τ} y h) z = reference_set a i τ y h
  statement_set _ _ (startee_empty y u) z = omega arith
  statement_set _ _ (started_twice y u n) z = omega arith
  statement_set f _ (start_argument y u s t h) z = arguments_set f _ _ _ h z
  statement_set f _ (guard h) z = guards_set f _ h z
  statement_set f _ (address h) z = node_set f _ h z
  statement_set f _ (datum y h) z = node_set f _ h z
  statement_set _ _ (conditions.location y w h) z = omega arith

-- nor a row for it
pub row_set : (T : Table) (m page : Memory) (p n : ℕ) → AllSet m → Row T m page p n → n ≡ 31 → ⊥
row_set T m page p _ set (row0 h) z = omega arith
row_set T m page p _ set (row1 h) z = omega arith
row_set T m page p _ set (row2 h) z = omega arith
row_set T m page p _ set (row3 h) z = omega arith
row_set T m page p n set (row16 h) z = statement_set T m page (context_of m p) set n _ h.fails z

-- ---- no look 32

-- the words of module variables lie in their area
visible_in : (T : Table) → Accepted T → (m : Memory) → Ruled T m → (p v k : ℕ) → visible T m p v k ≡ true → location p (offset_of T (m (module_at p)) v + k) < locations
unfolding visible belongs
visible_in T ok m h p v k e =
    let c = in_created m p (both_l _ _ e) in
    let l = c.most in
    let u = h.most in
    let x = h.process p c.least c.most in
    let there = block_there T ok m p x in
    let kind = block-kind T ok m p x in
    let w = both_r _ _ (both_l _ _ (both_r _ _ (both_r _ _ e))) in
    let from = within-from (first_var T (m (module_at p))) (vars T (m (module_at p))) v w in
    let to = within_to (first_var T (m (module_at p))) (vars T (m (module_at p))) v w in
    let is : first_var T (m (module_at p)) + (v - first_var T (m (module_at p))) ≡ v = omega arith in
    let i : v - first_var T (m (module_at p)) < vars T (m (module_at p)) = omega arith in
    let a = rw is at (variable_in T (m (module_at p)) (v - first_var T (m (module_at p))) i) in
    let b = words_value T v (rw is at (module_plain T ok (m (module_at p)) there kind (v - first_var T (m (module_at p))) i)) in
    let f = module_fits T ok (m (module_at p)) there kind in
    let g = ltb-true k (words_of T (var_type T v)) (both_r _ _ (both_r _ _ (both_r _ _ e))) in
    let o = location_end p (offset_of T (m (module_at p)) v + k) 1 (omega arith) (omega arith) in
    omega arith

pub look_set : (T : Table) → Accepted T → (m : Memory) → Ruled T m → AllSet m → (p v k : ℕ) → look T m p v k ≡ 32 → ⊥
unfolding look word_there
look_set T ok m h set p v k e =
    cases (visible T m p v k)
    (λ z. let w = rw (z, set (location p (offset_of T (m (module_at p)) v + k)) (visible_in T ok m h p v k z)) at e in omega arith)
    (λ z. let w = rw z at e in omega arith)

-- ---- steps one after the other

-- what holds of a step as it was seen
abbrev pub NumberedIn : Seen → Type 0
NumberedIn e = Numbered (memory_of e.before) (memory_of e.after)

pub number_kept : (s : List ℕ) (es fs : List Seen) → Threaded s (es ++ fs) → Every NumberedIn (es ++ fs) → Numbered (memory_of s) (memory_of (finally s es))
unfolding Threaded Every finally
number_kept s [] fs t h = numbered (memory_of s)
number_kept s (e ∷ es) fs t h =
    let a : Numbered (memory_of s) (memory_of e.after) = rw t.0 at h.0 in
    numbered_on _ _ _ a (number_kept e.after es fs t.1 h.1)
