-- A call that is made enters its procedure: each parameter gets its argument, each local is 0 (11.3, 12.1). Assumes nothing.
use Prim.Native.Nat.{ℕ, zero, suc, ◌+◌, ◌-◌, ◌≤◌, ◌<◌}
use mathlib.Core.Path.{◌≡◌, refl, sym, ◌∙◌}
use mathlib.Core.List.{List, [], ◌∷◌, ◌++◌}
use native.Mathlib.Omega.{arith}
use native.Mathlib.Nat.{not-suc-le-zero, add-zero}
use lib.Dec.{ltb}
use lib.ListN.{length, get_or, length-append}
use borrow.Author.Tests.{ltb-true, ltb-false}
use Rattle.basics.specs.Cases.{cases}
use Rattle.table.specs.Table.{Table}
use Rattle.table.specs.Entries.{block_count, var_mode, var_type, first_var, params, vars}
use Rattle.types.specs.Types.{NodeType, numbered}
use Rattle.types.specs.Match.{equal, matching, is_equal}
use Rattle.sizes.specs.Sizes.{sum_below, words_of}
use Rattle.sizes.specs.Kept.{words_in}
use Rattle.sizes.proofs.Strings.{equal_words}
use Rattle.numbers.proofs.BlockPromise.{params_vars, mode_parameter}
use Rattle.machine.specs.Memory.{Memory, store, words_at}
use Rattle.machine.specs.Layout.{location, link_at, top_at, caller_frame, called_block}
use Rattle.machine.specs.Variables.{first_words, frame_words, offset_of}
use Rattle.machine.specs.Context.{Context, context_of}
use Rattle.machine.specs.Texts.{fit}
use Rattle.machine.specs.Calls.{frame, pushed, frame_marked}
use Rattle.machine.proofs.Memories.{store_at}
use Rattle.machine.proofs.TextLaws.{fit_long}
use Rattle.verdict.specs.Accepted.{Accepted}
use Rattle.sound.specs.Conditions.{Gives}
use Rattle.sound.specs.Carried.{Passes, no_more, by_value, by_fit, by_variable, ArgumentsPass}
use Rattle.sound.specs.OpenCalls.{variable_at, Gets, stores, fits, binds, Enters}
use Rattle.sound.proofs.RuleKept.Marks.{frame_marks, marks_area}
use Rattle.sound.proofs.Memory.Writes.{location_add}
use Rattle.sound.proofs.RuleKept.Push.{frame_of, frame_length, frame_argument, frame_zero}
use Rattle.sound.proofs.RuleKept.Position.{stand_area}
use Rattle.sound.proofs.Evaluation.Arguments.{words_from, words_first, Stands, stands_words, stands_front, stands_back}
use Rattle.sound.proofs.Evaluation.OperandSizes.{gives_long}
use Rattle.sound.proofs.Values.BlockVariables.{begins_at, begins_up, variable_in, words_value, words_var}

-- ---- the words that arguments pass

-- those of a value parameter, and behind them those of the next ones
value_back : (T : Table) (v j : ℕ) (us : List ℕ) → var_mode T v ≡ 1 → length us ≡ words_of T (var_type T v) → words_from T v (suc j) ≡ length us + words_from T (v + 1) j
value_back T v j us e w =
    let b = words_first T v j in
    let c = words_value T v (λ z. omega arith) in
    omega arith

module _ (T : Table) (m page : Memory) (x : Context) where
  -- a value of an equal type has the words of its parameter
  value_words : (v n : ℕ) (κ : NodeType) (us : List ℕ) → Gives T m page x n κ us → matching T κ (numbered (var_type T v)) ≡ equal → length us ≡ words_of T (var_type T v)
  unfolding words_in is_equal
  value_words v n κ us y h = gives_long T m page x n κ us y ∙ equal_words T κ (numbered (var_type T v)) (rw h refl)

  pub passes_length : (k v i : ℕ) (ws : List ℕ) → Passes T m page x k v i ws → length ws ≡ words_from T v k
  unfolding sum_below
  passes_length _ v i _ no_more = refl
  passes_length _ v i _ (by_value {k = k} {κ = κ} {us = us} {ws = ws} e y h p) =
      let a = passes_length k (v + 1) (i + 1) ws p in
      let b = value_back T v k us e (value_words v _ κ us y h) in
      let c = length-append us ws in
      omega arith
  passes_length _ v i _ (by_fit {k = k} {us = us} {ws = ws} e y h p) =
      let w : ℕ = words_of T (var_type T v) in
      let a = passes_length k (v + 1) (i + 1) ws p in
      let b = value_back T v k (fit w us) e (fit_long w us) in
      let c = length-append (fit w us) ws in
      omega arith
  passes_length _ v i _ (by_variable {k = k} {ws = ws} e y p) =
      let a = passes_length k (v + 1) (i + 1) ws p in
      let c = words_var T v e in
      let d = words_first T v k in
      omega arith

module _ (T : Table) (m page : Memory) (p n : ℕ) (s : Memory) where
  -- the words of a value parameter stand where it begins
  front_words : (v a : ℕ) (us ws : List ℕ) → length us ≡ words_of T (var_type T v) → Stands s a (us ++ ws) → words_at s a (words_of T (var_type T v)) ≡ us
  front_words v a us ws w h = rw (← w) (stands_words us s a (stands_front s a us ws h))

  -- the parameters behind one of c words
  later : (v i a j c : ℕ) → words_from T v (suc j) ≡ c + words_from T (v + 1) j
      → Gets T m page p n s (a + c + words_from T (v + 1) j) (v + 1 + j) (i + 1 + j) → Gets T m page p n s (a + words_from T v (suc j)) (v + suc j) (i + suc j)
  later v i a j c e g =
      let x : v + suc j ≡ v + 1 + j = omega arith in
      let z : i + suc j ≡ i + 1 + j = omega arith in
      let f : a + words_from T v (suc j) ≡ a + c + words_from T (v + 1) j = omega arith in
      rw (x, z, f) g

  -- where they stand, each parameter gets its argument
  passes_get : (k v i a j : ℕ) (ws : List ℕ) → Passes T m page (context_of m p) k v i ws → Stands s a ws → j < k
      → Gets T m page p n s (a + words_from T v j) (v + j) (i + j)
  unfolding sum_below
  passes_get _ v i a j _ no_more h l = absurd (not-suc-le-zero l)
  passes_get _ v i a zero _ (by_value {κ = κ} {us = us} {ws = ws} e y t q) h l =
      rw (add-zero a, add-zero v, add-zero i) (stores e y t (front_words v a us ws (value_words T m page (context_of m p) v _ κ us y t) h))
  passes_get _ v i a (suc j) _ (by_value {k = k} {κ = κ} {us = us} {ws = ws} e y t q) h l =
      later v i a j (length us) (value_back T v j us e (value_words T m page (context_of m p) v _ κ us y t))
      (passes_get k (v + 1) (i + 1) (a + length us) j ws q (stands_back s a us ws h) (omega arith))
  passes_get _ v i a zero _ (by_fit {us = us} {ws = ws} e y t q) h l =
      let w : ℕ = words_of T (var_type T v) in
      rw (add-zero a, add-zero v, add-zero i) (fits e y t (front_words v a (fit w us) ws (fit_long w us) h))
  passes_get _ v i a (suc j) _ (by_fit {k = k} {us = us} {ws = ws} e y t q) h l =
      let w : ℕ = words_of T (var_type T v) in
      later v i a j (length (fit w us)) (value_back T v j (fit w us) e (fit_long w us))
      (passes_get k (v + 1) (i + 1) (a + length (fit w us)) j ws q (stands_back s a (fit w us) ws h) (omega arith))
  passes_get _ v i a zero _ (by_variable {k = k} {a = b} {ws = ws} e y q) h l =
      let w : s (a + 0) ≡ b = h.at 0 (omega arith) in
      let u : s a ≡ b = rw add-zero at w in
      rw (add-zero a, add-zero v, add-zero i) (binds e (rw u y))
  passes_get _ v i a (suc j) _ (by_variable {k = k} {a = b} {ws = ws} e y q) h l =
      let c = words_first T v j in
      let d = words_var T v e in
      later v i a j 1 (omega arith) (passes_get k (v + 1) (i + 1) (a + 1) j ws q (stands_back s a (b ∷ []) ws h) (omega arith))

-- ---- the words of the new frame

pub frame_long : (T : Table) (m page : Memory) (x : Context) (q : ℕ) (ws : List ℕ) → length ws ≤ frame_words T q → length (frame T m page x q ws) ≡ 4 + frame_words T q
unfolding frame frame_of
frame_long T m page x q ws l = let e = frame_length x.frame x.statement x.works q ws (frame_words T q - length ws) in omega (arith, e)

module _ (T : Table) (m page : Memory) (p : ℕ) (some : 1 ≤ p) (most : p ≤ 64) (s : Memory) (q r : ℕ) (ws : List ℕ)
    (short : length ws ≤ frame_words T q) (room : m (top_at p) + 4 + frame_words T q ≤ 256) where
  abbrev entered : Memory
  entered = frame_marked T m page (context_of m p) (pushed T m page (context_of m p) s q r ws) q ws

  abbrev words : List ℕ
  words = frame_of (context_of m p).frame (context_of m p).statement (context_of m p).works q ws (frame_words T q - length ws)

  pushed_word : (j : ℕ) → j < 4 + frame_words T q → pushed T m page (context_of m p) s q r ws (location p (m (top_at p) + j)) ≡ get_or words j 0
  unfolding pushed context_of frame frame_of
  pushed_word j l =
      let e = frame_length (context_of m p).frame (context_of m p).statement (context_of m p).works q ws (frame_words T q - length ws) in
      stand_area (store s (location p (m (top_at p))) words) p _ _ _ _ _ some p (m (top_at p) + j) some most (omega arith)
      ∙ rw (← location_add p (m (top_at p)) j) (store_at s (location p (m (top_at p))) words j (omega arith))

  frame_word : (j : ℕ) → j < 4 + frame_words T q → entered (location p (m (top_at p) + j)) ≡ get_or words j 0
  frame_word j l = marks_area _ _ (frame_marks T m page (context_of m p) _ q ws) p (m (top_at p) + j) some most (omega arith) ∙ pushed_word j l

  pub entered_caller : caller_frame entered p (m (top_at p)) ≡ (context_of m p).frame
  unfolding link_at frame_of
  entered_caller = frame_word 0 (omega arith)

  pub entered_block : called_block entered p (m (top_at p)) ≡ q
  unfolding link_at frame_of
  entered_block = frame_word 3 (omega arith)

  four_on : (j : ℕ) → m (top_at p) + 4 + j ≡ m (top_at p) + (4 + j)
  four_on j = omega arith

  entered_argument : (j : ℕ) → j < length ws → entered (location p (m (top_at p) + 4) + j) ≡ get_or ws j 0
  entered_argument j l =
      rw (location_add p (m (top_at p) + 4) j, four_on j)
      (frame_word (4 + j) (omega arith) ∙ frame_argument (context_of m p).frame (context_of m p).statement (context_of m p).works q ws (frame_words T q - length ws) j l)

  entered_zero : (j : ℕ) → length ws ≤ j → j < frame_words T q → entered (location p (m (top_at p) + 4) + j) ≡ 0
  entered_zero j l h =
      rw (location_add p (m (top_at p) + 4) j, four_on j)
      (frame_word (4 + j) (omega arith) ∙ frame_zero (context_of m p).frame (context_of m p).statement (context_of m p).works q ws (frame_words T q - length ws) j l (omega arith))

-- ---- the call

module _ (T : Table) (acc : Accepted T) (m page : Memory) (p q c d : ℕ) (ws : List ℕ) (there : q < block_count T) (h : ArgumentsPass T m page (context_of m p) q c d ws) where
  passed_length : length ws ≡ first_words T q (params T q)
  unfolding first_words
  passed_length = rw (← h.each) (passes_length T m page (context_of m p) d (first_var T q) c ws h.words)

  pub passed_short : length ws ≤ frame_words T q
  unfolding frame_words
  passed_short = let e = passed_length in let u = begins_up T q (params T q) (vars T q) (params_vars T acc.numbers q there) in omega arith

  module _ (n : ℕ) (some : 1 ≤ p) (most : p ≤ 64) (s : Memory) (r : ℕ) (room : m (top_at p) + 4 + frame_words T q ≤ 256) where
    -- where variable v stands
    variable_is : (v : ℕ) → variable_at T m page p n s (m (top_at p)) q v ≡ location p (m (top_at p) + 4) + offset_of T q v
    variable_is v = sym (location_add p (m (top_at p) + 4) (offset_of T q v))

    abbrev state : Memory
    state = frame_marked T m page (context_of m p) (pushed T m page (context_of m p) s q r ws) q ws

    local_zero : (i k : ℕ) → i < vars T q → var_mode T (first_var T q + i) ≡ 0 → k < words_of T (var_type T (first_var T q + i))
        → state (location p (m (top_at p) + 4) + (offset_of T q (first_var T q + i) + k)) ≡ 0
    local_zero i k l e g =
        let u = variable_in T q i l in
        let w = words_value T (first_var T q + i) (λ z. omega arith) in
        let o = begins_at T q i in
        let f = passed_length in
        let over : params T q ≤ i = cases (ltb i (params T q)) (λ z. let y = (mode_parameter T acc.numbers q there i (ltb-true i (params T q) z)).0 in absurd (omega arith)) (λ z. ltb-false i (params T q) z) in
        let t = begins_up T q (params T q) i over in
        entered_zero T m page p some most s q r ws passed_short room (offset_of T q (first_var T q + i) + k) (omega arith) (omega arith)

    local_at : (i v k : ℕ) → v ≡ first_var T q + i → i < vars T q → var_mode T v ≡ 0 → k < words_of T (var_type T v)
        → state (variable_at T m page p n state (m (top_at p)) q v + k) ≡ 0
    local_at i v k z l e g =
        let a : location p (m (top_at p) + 4) + offset_of T q v + k ≡ location p (m (top_at p) + 4) + (offset_of T q v + k) = omega arith in
        rw (variable_is v, a, z) (local_zero i k l (rw z at e) (rw z at g))

    -- THE CALL ENTERS ITS PROCEDURE
    pub call_enters : Enters T m page p n state (m (top_at p)) q c
    unfolding first_words
    call_enters =
        record {
          parameters = λ i l.
              rw (variable_is (first_var T q + i), begins_at T q i)
              (passes_get T m page p n state d (first_var T q) c (location p (m (top_at p) + 4)) i ws h.words
              (record { at = entered_argument T m page p some most s q r ws passed_short room }) (let e = h.each in omega arith));
          locals = λ v k o e l. let a = o.least in let b = o.most in local_at (v - first_var T q) v k (omega arith) (omega arith) e l;
        }
