-- The statements: the rules say when one fails, waits or ends the process's own block, and what one that is carried out does. Assumes nothing.
use Prim.Native.Nat.{ℕ, zero, suc, ◌+◌}
use mathlib.Core.Path.{◌≡◌, refl, sym, ap, ◌∙◌}
use mathlib.Core.Bool.{true, false, not}
use mathlib.Core.Logic.{◌⊎◌, inl, inr}
use mathlib.Core.List.{List, [], ◌∷◌, ◌++◌}
use native.Mathlib.Omega.{arith}
use lib.Dec.{eqb}
use borrow.Author.Tests.{eqb-true, eqb-false, eq-eqb, ne_eqb, ltb-true, lt-ltb, not-true, not-false}
use Rattle.basics.specs.Choice.{pick, both}
use Rattle.basics.specs.Cases.{cases}
use Rattle.basics.proofs.Bools.{no_true, both_l, both_r, both_i, both_false_l, both_false_r}
use Rattle.table.specs.Table.{Table}
use Rattle.types.specs.Match.{Match, equal, fitted, unfit}
use Rattle.types.proofs.Matching.{is-equal}
use Rattle.table.specs.Entries.{var_mode, var_type, arg_node, first_var, params, stmt_count}
use Rattle.sizes.specs.Sizes.{words_of}
use Rattle.machine.specs.Memory.{Memory, update}
use Rattle.machine.specs.Layout.{status_at, statement_at, holder_at, depth_at, call_statement}
use Rattle.machine.specs.Marks.{marked}
use Rattle.machine.specs.Texts.{fit}
use Rattle.machine.specs.Outcomes.{Outcome, ok, fail, stuck, and_then, word_of}
use Rattle.machine.specs.Entries.{process_type, type_at, Opener, waits, repeats, Statement, skip, assign, local_call, process_call, create, start, opener, arm, end_arms, write, block_end, no_statement, stmt_at}
use Rattle.machine.specs.Context.{Context}
use Rattle.machine.specs.Space.{space_full}
use Rattle.machine.specs.Operands.{operand}
use Rattle.machine.specs.Calls.{passed, value_argument, var_argument, argument, argument_words, arguments, top_after, pushed, frame_marked, call, returns, return}
use Rattle.machine.specs.Processes.{on_module, on_process, on_reference}
use Rattle.machine.specs.Statements.{Effect, effect, on_arms, on_opener, Choice, enters, skips, end_of, go_to, go_on, wait, moved, do_assign, do_local_call, can_serve, do_process_call, do_create, do_start, choose, chosen, do_opener, do_end, do_write, do_block_end, perform}
use Rattle.machine.proofs.Outcomes.{g_test, g_need, g_where, g_place, g_word, g_module}
use Rattle.sound.specs.Conditions.{Selects, Yields, NodeFails, ArgumentsFail, this_argument, later_argument, GuardsFail, this_guard, later_guard, GuardsFalse, none, more, AreaFull, SpaceFull, Refers, Empty, Serves, StatementFails, target, source, local_argument, local_space, local_area, callee, callee_unset, callee_empty, call_argument, call_area, createe, limit, startee, startee_unset, startee_empty, started_twice, start_argument, guard, address, datum, location, StatementWaits, blocked, busy, StatementEnds, own_block}
use Rattle.sound.specs.Carried.{Inside, next_arm, last_end, LeadsTo, the_end, past_arm, Passes, no_more, by_value, by_fit, by_variable, ArgumentsPass, FirstTrue, this_arm, later_arm, Carries, assigns, calls_local, calls_process, creates, starts, passes, leaves, again, writes, returns_local, returns_process}
use Rattle.sound.proofs.Rows.OutcomeOrStuck.{Near, same, lost, n_fails, n_then, n_need, n_pass, n_where, n_place_fails, n_place, n_typed_fails, n_word_fails, n_word, n_pick_true, n_pick_false}
use Rattle.sound.proofs.Rows.NodeFailures.{g_gives, n_gives, node_fails, fails_near}

-- ---- arms

module _ {B : Type 0} (P : Outcome B → Type 0) (none-there : P stuck) where
  g_arms : (S : Statement) (F : ℕ → ℕ → Outcome B) (G : ℕ → Outcome B) → ((g l : ℕ) → S ≡ arm g l → P (F g l)) → ((l : ℕ) → S ≡ end_arms l → P (G l)) → P (on_arms S F G)
  unfolding on_arms
  g_arms skip F G f g = none-there
  g_arms (assign a b) F G f g = none-there
  g_arms (local_call q c d) F G f g = none-there
  g_arms (process_call a q c d) F G f g = none-there
  g_arms (create a) F G f g = none-there
  g_arms (start a c d) F G f g = none-there
  g_arms (opener k) F G f g = none-there
  g_arms (arm a l) F G f g = f a l refl
  g_arms (end_arms l) F G f g = g l refl
  g_arms (write a b) F G f g = none-there
  g_arms block_end F G f g = none-there
  g_arms no_statement F G f g = none-there

  g_opener : (S : Statement) (F : Opener → Outcome B) → ((k : Opener) → S ≡ opener k → P (F k)) → P (on_opener S F)
  unfolding on_opener
  g_opener skip F f = none-there
  g_opener (assign a b) F f = none-there
  g_opener (local_call q c d) F f = none-there
  g_opener (process_call a q c d) F f = none-there
  g_opener (create a) F f = none-there
  g_opener (start a c d) F f = none-there
  g_opener (opener k) F f = f k refl
  g_opener (arm a l) F f = none-there
  g_opener (end_arms l) F f = none-there
  g_opener (write a b) F f = none-there
  g_opener block_end F f = none-there
  g_opener no_statement F f = none-there

  g_end : (T : Table) (n i : ℕ) (F : ℕ → ℕ → Outcome B) → ((j o : ℕ) → LeadsTo T i j o → P (F j o)) → P (end_of T n i F)
  unfolding end_of
  g_end T zero i F f = none-there
  g_end T (suc n) i F f = g_arms (stmt_at T i) _ _ (λ g l e. g_need P none-there _ _ (g_end T n l F (λ j o h. f j o (past_arm e h)))) (λ l e. f i l (the_end e))

n_arm : {B : Type 0} (R : Outcome B) (S : Statement) (F : ℕ → ℕ → Outcome B) (G : ℕ → Outcome B) (g l : ℕ) → S ≡ arm g l → Near R (F g l) → Near R (on_arms S F G)
unfolding on_arms
n_arm R S F G g l e h = rw e h

n_end : {B : Type 0} (R : Outcome B) (S : Statement) (F : ℕ → ℕ → Outcome B) (G : ℕ → Outcome B) (l : ℕ) → S ≡ end_arms l → Near R (G l) → Near R (on_arms S F G)
unfolding on_arms
n_end R S F G l e h = rw e h

n_opener : {B : Type 0} (R : Outcome B) (S : Statement) (F : Opener → Outcome B) (k : Opener) → S ≡ opener k → Near R (F k) → Near R (on_opener S F)
unfolding on_opener
n_opener R S F k e h = rw e h

n_leads : {B : Type 0} (R : Outcome B) (T : Table) (n i j o : ℕ) (F : ℕ → ℕ → Outcome B) → LeadsTo T i j o → Near R (F j o) → Near R (end_of T n i F)
unfolding end_of
n_leads R T zero i j o F l h = lost
n_leads R T (suc n) i _ o F (the_end e) h = n_end R (stmt_at T i) _ _ o e h
n_leads R T (suc n) i j o F (past_arm {g = g} {l = l} e k) h = n_arm R (stmt_at T i) _ _ g l e (n_need R _ _ (n_leads R T n l j o F k h))

-- a result meets G, a failure F
data Got {A : Type 0} (G : A → Type 0) (F : ℕ → Type 0) : Outcome A → Type 0 where
  is_ok : {y : A} → G y → Got G F (ok y)
  is_fail : {f : ℕ} → F f → Got G F (fail f)
  is_stuck : Got G F stuck

g_got : {A B : Type 0} (P : Outcome B → Type 0) → P stuck → (G : A → Type 0) (F : ℕ → Type 0) (o : Outcome A) (k : A → Outcome B) → Got G F o
    → ((f : ℕ) → F f → P (fail f)) → ((y : A) → o ≡ ok y → G y → P (k y)) → P (and_then o k)
unfolding and_then
g_got P s G F _ k (is_ok {y = y} h) f g = g y refl h
g_got P s G F _ k (is_fail {f = n} h) f g = f n h
g_got P s G F _ k is_stuck f g = s

passed_got : (G : List ℕ → Type 0) (F : ℕ → Type 0) (n : ℕ) (us : List ℕ) (k : Match) → (k ≡ equal → G us) → (k ≡ fitted → G (fit n us)) → Got G F (passed n us k)
unfolding passed
passed_got G F n us equal f g = is_ok (f refl)
passed_got G F n us fitted f g = is_ok (g refl)
passed_got G F n us unfit f g = is_stuck

module _ (T : Table) (m page : Memory) (x : Context) where
  -- ---- arguments

  argument_got : (v i : ℕ)
      → Got (λ us. (k : ℕ) (ws : List ℕ) → Passes T m page x k (v + 1) (i + 1) ws → Passes T m page x (suc k) v i (us ++ ws)) (λ f. NodeFails T m page x f (arg_node T i))
      (argument T m page x v i)
  unfolding argument value_argument var_argument
  argument_got v i =
      g_need (Got _ _) is_stuck _ _
      (cases (eqb (var_mode T v) 1)
      (λ e. rw e (g_gives T m page x (arg_node T i) (operand T m page x (arg_node T i)) _ (Got _ _) is_stuck (λ _ q. q) (λ f q. is_fail (node_fails T m page x _ f q))
      (λ κ us q. passed_got _ _ _ us _ (λ h k ws p. by_value (eqb-true _ 1 e) q h p) (λ h k ws p. by_fit (eqb-true _ 1 e) q h p))))
      (λ e. rw e (g_test (Got _ _) is_stuck _ _ (λ u.
      g_place (Got _ _) is_stuck (operand T m page x (arg_node T i)) _ (λ f q. is_fail (node_fails T m page x _ f q))
      (λ a σ q. g_test (Got _ _) is_stuck _ _ (λ h. is_ok (λ k ws p. by_variable (eqb-true _ 2 u) (rw (eqb-true _ σ h) q) p)))))))

  words_got : (k v i : ℕ) → Got (Passes T m page x k v i) (λ f. ArgumentsFail T m page x f k v i) (argument_words T m page x k v i)
  unfolding argument_words
  words_got zero v i = is_ok no_more
  words_got (suc k) v i =
      g_got (Got _ _) is_stuck _ _ _ _ (argument_got v i) (λ f h. is_fail (this_argument h))
      (λ us e p. g_got (Got _ _) is_stuck _ _ _ _ (words_got k (v + 1) (i + 1)) (λ f h. is_fail (later_argument e h)) (λ ws q h. is_ok (p k ws h)))

  -- the arguments are passed, or one fails
  arguments_got : (b c d : ℕ) → Got (ArgumentsPass T m page x b c d) (λ f. ArgumentsFail T m page x f d (first_var T b) c) (arguments T m page x b c d)
  unfolding arguments
  arguments_got b c d = g_test (Got _ _) is_stuck _ _ (λ e. go (eqb-true _ _ e) _ (words_got d (first_var T b) c))
    where
      go : d ≡ params T b → (o : Outcome (List ℕ)) → Got (Passes T m page x d (first_var T b) c) (λ f. ArgumentsFail T m page x f d (first_var T b) c) o
          → Got (ArgumentsPass T m page x b c d) (λ f. ArgumentsFail T m page x f d (first_var T b) c) o
      go e _ (is_ok h) = is_ok (record { each = e; words = h })
      go e _ (is_fail h) = is_fail h
      go e _ is_stuck = is_stuck

  argument_near : (f v i : ℕ) → NodeFails T m page x f (arg_node T i) → Near (fail f) (argument T m page x v i)
  unfolding argument value_argument var_argument
  argument_near f v i h =
      n_need (fail f) _ _
      (cases (eqb (var_mode T v) 1)
      (λ e. rw e (n_typed_fails (fail f) f (operand T m page x (arg_node T i)) _ refl (fails_near T m page x f _ h)))
      (λ e. rw e (n_need (fail f) _ _ (n_place_fails (fail f) f (operand T m page x (arg_node T i)) _ refl (fails_near T m page x f _ h)))))

  words_near : (f k v i : ℕ) → ArgumentsFail T m page x f k v i → Near (fail f) (argument_words T m page x k v i)
  unfolding argument_words
  words_near f _ v i (this_argument h) = n_fails (fail f) f (argument T m page x v i) _ refl (argument_near f v i h)
  words_near f _ v i (later_argument {k = k} {ws = ws} e h) =
      n_then (fail f) ws (argument T m page x v i) _ (same e)
      (n_fails (fail f) f (argument_words T m page x k (v + 1) (i + 1)) _ refl (words_near f k (v + 1) (i + 1) h))

  arguments_near : (f b c d : ℕ) → ArgumentsFail T m page x f d (first_var T b) c → Near (fail f) (arguments T m page x b c d)
  unfolding arguments
  arguments_near f b c d h = n_need (fail f) _ _ (words_near f d (first_var T b) c h)

  passes_near : (k v i : ℕ) (ws : List ℕ) → Passes T m page x k v i ws → Near (ok ws) (argument_words T m page x k v i)
  unfolding argument_words argument value_argument var_argument passed
  passes_near _ v i _ no_more = same refl
  passes_near _ v i _ (by_value {k = k} {κ = κ} {us = us} {ws = ws} e y h p) =
      n_then _ us (argument T m page x v i) _
      (n_need _ _ _ (rw e (n_gives T m page x (arg_node T i) (operand T m page x (arg_node T i)) _ _ κ us (λ _ q. same q) y (rw h (same refl)))))
      (n_then _ ws (argument_words T m page x k (v + 1) (i + 1)) _ (passes_near k (v + 1) (i + 1) ws p) (same refl))
  passes_near _ v i _ (by_fit {k = k} {κ = κ} {us = us} {ws = ws} e y h p) =
      n_then _ (fit (words_of T (var_type T v)) us) (argument T m page x v i) _
      (n_need _ _ _ (rw e (n_gives T m page x (arg_node T i) (operand T m page x (arg_node T i)) _ _ κ us (λ _ q. same q) y (rw h (same refl)))))
      (n_then _ ws (argument_words T m page x k (v + 1) (i + 1)) _ (passes_near k (v + 1) (i + 1) ws p) (same refl))
  passes_near _ v i _ (by_variable {k = k} {a = a} {ws = ws} e y p) =
      n_then _ (a ∷ []) (argument T m page x v i) _
      (n_need _ _ _ (rw e (n_need _ _ _ (n_place _ a _ (operand T m page x (arg_node T i)) _ (same y) (n_need _ _ _ (same refl))))))
      (n_then _ ws (argument_words T m page x k (v + 1) (i + 1)) _ (passes_near k (v + 1) (i + 1) ws p) (same refl))

  passed_near : (b c d : ℕ) (ws : List ℕ) → ArgumentsPass T m page x b c d ws → Near (ok ws) (arguments T m page x b c d)
  unfolding arguments
  passed_near b c d ws h = n_need _ _ _ (passes_near d (first_var T b) c ws h.words)

  -- ---- guards

  data Chosen (i : ℕ) : Outcome Choice → Type 0 where
    failing : {f : ℕ} → GuardsFail T m page x f i → Chosen i (fail f)
    entered : {j : ℕ} → FirstTrue T m page x i j → Chosen i (ok (enters j))
    skipped : {j o : ℕ} → GuardsFalse T m page x i → LeadsTo T i j o → Chosen i (ok (skips j))
    astray : Chosen i stuck

  chosen_later : (i g l τ : ℕ) (ws : List ℕ) (o : Outcome Choice) → stmt_at T i ≡ arm g l → Yields T m page x g τ ws → word_of ws ≡ 0 → Chosen l o → Chosen i o
  chosen_later i g l τ ws _ e y z (failing h) = failing (later_guard e y z h)
  chosen_later i g l τ ws _ e y z (entered h) = entered (later_arm e y z h)
  chosen_later i g l τ ws _ e y z (skipped h k) = skipped (more e y z h) (past_arm e k)
  chosen_later i g l τ ws _ e y z astray = astray

  choose_view : (n i : ℕ) → Chosen i (choose T m page x n i)
  unfolding choose
  choose_view zero i = astray
  choose_view (suc n) i =
      g_arms (Chosen i) astray (stmt_at T i) _ _
      (λ g l e. g_word (Chosen i) astray (operand T m page x g) 1 _ (λ f q. failing (this_guard e (node_fails T m page x g f q)))
      (λ τ ws q. cases (eqb (word_of ws) 0)
      (λ z. rw z (g_need (Chosen i) astray _ _ (chosen_later i g l τ ws _ e q (eqb-true _ 0 z) (choose_view n l))))
      (λ z. rw z (entered (this_arm e q (eqb-false _ 0 z))))))
      (λ l e. skipped (none e) (the_end e))

  guards_near : (f i : ℕ) → GuardsFail T m page x f i → (n : ℕ) → Near (fail f) (choose T m page x n i)
  unfolding choose
  guards_near f i h zero = lost
  guards_near f i (this_guard {g = g} {l = l} e h) (suc n) =
      n_arm (fail f) (stmt_at T i) _ _ g l e (n_word_fails (fail f) f (operand T m page x g) 1 _ refl (fails_near T m page x f g h))
  guards_near f i (later_guard {g = g} {l = l} {τ = τ} {ws = ws} e y z h) (suc n) =
      n_arm (fail f) (stmt_at T i) _ _ g l e
      (n_word (fail f) τ ws (operand T m page x g) 1 _ (same y)
      (rw (eq-eqb (word_of ws) 0 z) (n_need (fail f) _ _ (guards_near f l h n))))

  -- the end that false guards lead to
  last_of : (i : ℕ) → GuardsFalse T m page x i → ℕ
  last_of i (none e) = i
  last_of i (more {l = l} e y z h) = last_of l h

  false_near : (i : ℕ) (h : GuardsFalse T m page x i) (n : ℕ) → Near (ok (skips (last_of i h))) (choose T m page x n i)
  unfolding choose last_of
  false_near i h zero = lost
  false_near i (none {l = l} e) (suc n) = n_end _ (stmt_at T i) _ _ l e (same refl)
  false_near i (more {g = g} {l = l} {τ = τ} {ws = ws} e y z h) (suc n) =
      n_arm _ (stmt_at T i) _ _ g l e
      (n_word _ τ ws (operand T m page x g) 1 _ (same y)
      (rw (eq-eqb (word_of ws) 0 z) (n_need _ _ _ (false_near l h n))))

  -- it is the one that the links lead to
  last-is : (i j o : ℕ) (h : GuardsFalse T m page x i) → LeadsTo T i j o → last_of i h ≡ j
  unfolding last_of
  last-is i _ o (none e) (the_end u) = refl
  last-is i j o (none e) (past_arm u k) = let z : ◌≡◌ {A = ℕ} 0 1 = cc in absurd (omega arith)
  last-is i _ o (more e y z h) (the_end u) = let z : ◌≡◌ {A = ℕ} 0 1 = cc in absurd (omega arith)
  last-is i j o (more {l = l} e y z h) (past_arm {l = n} u k) = let q : n ≡ l = cc in last-is l j o h (rw q at k)

  first_near : (i j : ℕ) → FirstTrue T m page x i j → (n : ℕ) → Near (ok (enters j)) (choose T m page x n i)
  unfolding choose
  first_near i j h zero = lost
  first_near i _ (this_arm {g = g} {l = l} {τ = τ} {ws = ws} e y z) (suc n) =
      n_arm _ (stmt_at T i) _ _ g l e (n_word _ τ ws (operand T m page x g) 1 _ (same y) (rw (ne_eqb (word_of ws) 0 z) (same refl)))
  first_near i j (later_arm {g = g} {l = l} {τ = τ} {ws = ws} e y z h) (suc n) =
      n_arm _ (stmt_at T i) _ _ g l e
      (n_word _ τ ws (operand T m page x g) 1 _ (same y)
      (rw (eq-eqb (word_of ws) 0 z) (n_need _ _ _ (first_near l j h n))))

  -- ---- what a statement comes to

  -- the state that a waiting statement leaves: a blocked when or cycle gives up the variables worked on
  pub data Leaves : Statement → Memory → Type 0 where
    gives : {k : Opener} → waits k ≡ true → GuardsFalse T m page x (x.statement + 1) → Leaves (opener k) (update m (holder_at x.works) 0)
    keeps : {a q c d : ℕ} → Leaves (process_call a q c d) m

  pub data Reports (S : Statement) : Outcome Effect → Type 0 where
    went : {s d : Memory} → Carries T m page x S s d → Reports S (ok (effect 0 s d))
    waited : {s : Memory} → StatementWaits T m page x S → Leaves S s → Reports S (ok (effect 1 s page))
    ended : StatementEnds T m page x S → Reports S (ok (effect 2 (update (update m (status_at x.process) 3) (holder_at x.process) 0) page))
    failed : {f : ℕ} → StatementFails T m page x f S → Reports S (fail f)
    strays : Reports S stuck

  goto_reports : (S : Statement) (s : Memory) (c : ℕ) → Carries T m page x S (update s (statement_at x.process) c) page → Reports S (go_to T m page x s c)
  unfolding go_to
  goto_reports S s c h = went h

  goon_reports : (S : Statement) (s : Memory) → Carries T m page x S (update s (statement_at x.process) (x.statement + 1)) page → Reports S (go_on T m page x s)
  unfolding go_on
  goon_reports S s h = goto_reports S s _ h

  abbrev Moves : Statement → Outcome Memory → Type 0
  Moves S o = Reports S (moved T m page x o)

  call_reports : (S : Statement) (s : Memory) (q r : ℕ) (ws : List ℕ) → (AreaFull T m page x q → StatementFails T m page x 22 S)
      → ((AreaFull T m page x q → ⊥) → Carries T m page x S (frame_marked T m page x (pushed T m page x s q r ws) q ws) page) → Moves S (call T m page x s q r ws)
  unfolding moved and_then call top_after
  call_reports S s q r ws f g =
      g_need (Moves S) strays _ _
      (g_where (Moves S) strays _ 22 _ (λ e. failed (f (ltb-true _ _ e)))
      (λ e. g_need (Moves S) strays _ _ (went (g (λ h. no_true (sym e ∙ lt-ltb 256 _ h))))))

  -- the end of a call that statement U made
  returns_reports : (m (depth_at x.process) ≡ 0 → ⊥) → (U : Statement) → stmt_at T (call_statement m x.process x.frame) ≡ U
      → Moves block_end (returns T m page x (call_statement m x.process x.frame) U)
  unfolding moved returns and_then
  returns_reports n skip e = strays
  returns_reports n (assign a b) e = strays
  returns_reports n (local_call q i d) e = went (returns_local n e)
  returns_reports n (process_call a q i d) e = went (returns_process n e)
  returns_reports n (create a) e = strays
  returns_reports n (start a i d) e = strays
  returns_reports n (opener k) e = strays
  returns_reports n (arm g l) e = strays
  returns_reports n (end_arms l) e = strays
  returns_reports n (write a b) e = strays
  returns_reports n block_end e = strays
  returns_reports n no_statement e = strays

  -- a process that cannot serve is unstarted or held
  not_free : (r : ℕ) → can_serve m r ≡ false → (m (status_at r) ≡ 1) ⊎ (m (holder_at r) ≡ 0 → ⊥)
  unfolding can_serve both
  not_free r e =
      cases (eqb (m (status_at r)) 1)
      (λ h. inl (eqb-true _ 1 h))
      (λ h. inr (eqb-false _ 0 (rw h at e)))

  serves : (r : ℕ) → can_serve m r ≡ true → Serves T m page x r
  unfolding can_serve
  serves r e = record {
    started = λ h. no_true (sym (ap (λ (n : ℕ). not (eqb n 1)) h) ∙ both_l _ _ e);
    unheld = eqb-true _ 0 (both_r _ _ e);
  }

  assign_reports : (a b : ℕ) → Reports (assign a b) (do_assign T m page x a b)
  unfolding do_assign
  assign_reports a b =
      g_place (Reports _) strays (operand T m page x a) _ (λ f e. failed (target (node_fails T m page x a f e)))
      (λ i τ y. g_gives T m page x b (operand T m page x b) _ (Reports _) strays (λ _ e. e) (λ f e. failed (source y (node_fails T m page x b f e)))
      (λ κ ws e. g_test (Reports _) strays _ _ (λ h. goon_reports _ _ (assigns y e (is-equal _ h)))))

  -- a test of what a module reserves says what the rule does
  space_is : (q : ℕ) → space_full T m x q ≡ true → SpaceFull T m page x q
  unfolding space_full
  space_is q e = record { own = eqb-true _ _ (both_l _ _ e); above = ltb-true _ _ (both_r _ _ e) }

  is_space : (q : ℕ) → SpaceFull T m page x q → space_full T m x q ≡ true
  unfolding space_full
  is_space q h = both_i _ _ (eq-eqb _ _ h.own) (lt-ltb _ _ h.above)

  space_free : (q : ℕ) → space_full T m x q ≡ false → SpaceFull T m page x q → ⊥
  space_free q e h = no_true (sym e ∙ is_space q h)

  free_space : (q : ℕ) → (SpaceFull T m page x q → ⊥) → space_full T m x q ≡ false
  free_space q n = cases (space_full T m x q) (λ e. absurd (n (space_is q e))) (λ e. e)

  local_reports : (q c d : ℕ) → Reports (local_call q c d) (do_local_call T m page x q c d)
  unfolding do_local_call
  local_reports q c d =
      g_need (Reports _) strays _ _
      (g_got (Reports _) strays _ _ _ _ (arguments_got q c d) (λ f h. failed (local_argument h))
      (λ ws e p. g_where (Reports _) strays _ 22 _ (λ o. failed (local_space e (space_is q o)))
      (λ o. call_reports _ m q x.works ws (λ h. local_area e h) (λ n. calls_local p (space_free q o) n))))

  -- a reference is unmarked, or empty, or names a process
  reference_reports : (S : Statement) (i μ : ℕ) (k : ℕ → Outcome Effect) → (marked m i ≡ false → StatementFails T m page x 31 S) → (Empty T m page x i → StatementFails T m page x 19 S)
      → (Refers T m page x i → Reports S (k (m i))) → Reports S (on_reference m i μ k)
  unfolding on_reference
  reference_reports S i μ k f g h =
      g_where (Reports S) strays _ 31 _ (λ u. failed (f (not-true _ u)))
      (λ u. g_where (Reports S) strays _ 19 _ (λ z. failed (g (record { set = not-false _ u; none = eqb-true _ 0 z })))
      (λ z. g_need (Reports S) strays _ _ (h (record { set = not-false _ u; some = eqb-false _ 0 z }))))

  process_reports : (a q c d : ℕ) → Reports (process_call a q c d) (do_process_call T m page x a q c d)
  unfolding do_process_call on_process wait
  process_reports a q c d =
      g_place (Reports _) strays (operand T m page x a) _ (λ f e. failed (callee (node_fails T m page x a f e)))
      (λ i τ y. g_module (Reports _) strays (type_at T τ) _ (λ μ t. g_test (Reports _) strays _ _ (λ o.
      reference_reports _ i μ _ (λ z. callee_unset y z) (λ z. callee_empty y z)
      (λ z. cases (can_serve m (m i))
      (λ e. rw e (g_got (Reports _) strays _ _ _ _ (arguments_got q c d) (λ f h. failed (call_argument y z (serves (m i) e) h))
      (λ ws u p. call_reports _ _ q (m i) ws (λ h. call_area y z (serves (m i) e) u h)
      (λ n. calls_process y (t ∙ ap process_type (sym (eqb-true _ μ (both_r _ _ o)))) z (serves (m i) e) p n))))
      (λ e. rw e (waited (busy y z (not_free (m i) e)) keeps))))))

  create_reports : (a : ℕ) → Reports (create a) (do_create T m page x a)
  unfolding do_create on_process
  create_reports a =
      g_place (Reports _) strays (operand T m page x a) _ (λ f e. failed (createe (node_fails T m page x a f e)))
      (λ i τ y. g_module (Reports _) strays (type_at T τ) _ (λ μ t.
      g_where (Reports _) strays _ 24 _ (λ z. failed (limit y (eqb-true _ 64 z))) (λ z. goon_reports _ _ (creates y t (eqb-false _ 64 z)))))

  start_reports : (a c d : ℕ) → Reports (start a c d) (do_start T m page x a c d)
  unfolding do_start on_process
  start_reports a c d =
      g_place (Reports _) strays (operand T m page x a) _ (λ f e. failed (startee (node_fails T m page x a f e)))
      (λ i τ y. g_module (Reports _) strays (type_at T τ) _ (λ μ t.
      reference_reports _ i μ _ (λ z. startee_unset y z) (λ z. startee_empty y z)
      (λ z. g_where (Reports _) strays _ 20 _ (λ h. failed (started_twice y z (eqb-false _ 1 (not-true _ h))))
      (λ h. let b = eqb-true _ 1 (not-false _ h) in
      g_got (Reports _) strays _ _ _ _ (arguments_got μ c d) (λ f u. failed (start_argument y z b t u))
      (λ ws u p. g_need (Reports _) strays _ _ (goon_reports _ _ (starts y t z b p)))))))

  chosen_reports : (k : Opener) (o : Outcome Choice) → Chosen (x.statement + 1) o → Reports (opener k) (and_then o (chosen T m page x k))
  unfolding and_then chosen wait
  chosen_reports k _ (failing h) = failed (guard h)
  chosen_reports k _ (entered h) = goto_reports _ _ _ (Carries.enters h)
  chosen_reports k _ (skipped h l) =
      cases (waits k)
      (λ e. rw e (waited (blocked e h) (gives e h)))
      (λ e. rw e (goto_reports _ _ _ (passes e h l)))
  chosen_reports k _ astray = strays

  opener_reports : (k : Opener) → Reports (opener k) (do_opener T m page x k)
  unfolding do_opener
  opener_reports k = g_arms (Reports _) strays (stmt_at T (x.statement + 1)) _ _ (λ g l e. chosen_reports k _ (choose_view _ _)) (λ l e. strays)

  end_reports : (S : Statement) → Inside S → Reports S (do_end T m page x)
  unfolding do_end
  end_reports S n =
      g_end (Reports S) strays T (stmt_count T) x.statement _
      (λ j o h. g_opener (Reports S) strays (stmt_at T o) _
      (λ k e. cases (repeats k) (λ u. rw u (goto_reports S _ _ (again n h e u))) (λ u. rw u (goto_reports S _ _ (leaves n h e u)))))

  write_reports : (a b : ℕ) → Reports (write a b) (do_write T m page x a b)
  unfolding do_write
  write_reports a b =
      g_word (Reports _) strays (operand T m page x a) 0 _ (λ f e. failed (address (node_fails T m page x a f e)))
      (λ τ us y. g_word (Reports _) strays (operand T m page x b) 0 _ (λ f e. failed (datum y (node_fails T m page x b f e)))
      (λ σ vs w. g_where (Reports _) strays _ 21 _ (λ h. failed (location y w (not-true _ h))) (λ h. went (writes y w (not-false _ h)))))

  block_reports : Reports block_end (do_block_end T m page x)
  unfolding do_block_end return
  block_reports =
      cases (eqb (m (depth_at x.process)) 0)
      (λ e. rw e (ended (own_block (eqb-true _ 0 e))))
      (λ e. rw e (returns_reports (eqb-false _ 0 e) _ refl))

  -- WHAT A STATEMENT COMES TO has its rule
  pub reports : (S : Statement) → Reports S (perform T m page x S)
  unfolding perform
  reports skip = goon_reports _ _ Carries.skips
  reports (assign a b) = assign_reports a b
  reports (local_call q c d) = local_reports q c d
  reports (process_call a q c d) = process_reports a q c d
  reports (create a) = create_reports a
  reports (start a c d) = start_reports a c d
  reports (opener k) = opener_reports k
  reports (arm g l) = end_reports _ next_arm
  reports (end_arms l) = end_reports _ last_end
  reports (write a b) = write_reports a b
  reports block_end = block_reports
  reports no_statement = strays

  -- ---- a rule that holds says what the statement comes to, where it is not stuck

  serves_free : (r : ℕ) → Serves T m page x r → can_serve m r ≡ true
  unfolding can_serve
  serves_free r h = both_i _ _ (rw (ne_eqb _ 1 h.started)) (eq-eqb _ 0 h.unheld)

  busy_free : (r : ℕ) → (m (status_at r) ≡ 1) ⊎ (m (holder_at r) ≡ 0 → ⊥) → can_serve m r ≡ false
  unfolding can_serve
  busy_free r (inl e) = both_false_l _ _ (rw (eq-eqb _ 1 e))
  busy_free r (inr n) = both_false_r _ _ (ne_eqb _ 0 n)

  area_near : (s : Memory) (q r : ℕ) (ws : List ℕ) → AreaFull T m page x q → Near (fail 22) (moved T m page x (call T m page x s q r ws))
  unfolding moved call top_after
  area_near s q r ws h =
      n_fails (fail 22) 22 (call T m page x s q r ws) _ refl
      (n_need (fail 22) _ _ (n_where (fail 22) _ 22 _ refl (lt-ltb 256 _ h)))

  room_near : (s : Memory) (q r : ℕ) (ws : List ℕ) → (AreaFull T m page x q → ⊥) → Near (ok (effect 0 (frame_marked T m page x (pushed T m page x s q r ws) q ws) page)) (moved T m page x (call T m page x s q r ws))
  unfolding moved call top_after
  room_near s q r ws n =
      n_then _ (frame_marked T m page x (pushed T m page x s q r ws) q ws) (call T m page x s q r ws) _
      (n_need _ _ _ (n_pass _ _ 22 _ (cases _ (λ e. absurd (n (ltb-true 256 _ e))) (λ e. e)) (n_need _ _ _ (same refl))))
      (same refl)

  -- the reference of a call or start, in a variable of a process type
  module _ (R : Outcome Effect) (a i τ : ℕ) (y : Selects T m page x a i τ) where
    n_process : (k : ℕ → ℕ → Outcome Effect) → ((μ : ℕ) → type_at T τ ≡ process_type μ → Near R (k i μ)) → Near R (on_process T (operand T m page x a) k)
    unfolding on_process
    n_process k h = n_place R i τ (operand T m page x a) _ (same y) (g_module (Near R) lost (type_at T τ) _ h)

    n_known : (k : ℕ → ℕ → Outcome Effect) (μ : ℕ) → type_at T τ ≡ process_type μ → Near R (k i μ) → Near R (on_process T (operand T m page x a) k)
    unfolding on_process on_module
    n_known k μ t h = n_place R i τ (operand T m page x a) _ (same y) (rw t h)

    n_unset : (μ : ℕ) (k : ℕ → Outcome Effect) → R ≡ fail 31 → marked m i ≡ false → Near R (on_reference m i μ k)
    unfolding on_reference
    n_unset μ k e z = n_where R _ 31 _ e (rw z)

    n_empty : (μ : ℕ) (k : ℕ → Outcome Effect) → R ≡ fail 19 → Empty T m page x i → Near R (on_reference m i μ k)
    unfolding on_reference
    n_empty μ k e z = n_pass R _ 31 _ (rw z.set) (n_where R _ 19 _ e (eq-eqb _ 0 z.none))

    n_reference : (μ : ℕ) (k : ℕ → Outcome Effect) → Refers T m page x i → Near R (k (m i)) → Near R (on_reference m i μ k)
    unfolding on_reference
    n_reference μ k z h = n_pass R _ 31 _ (rw z.set) (n_pass R _ 19 _ (ne_eqb _ 0 z.some) (n_need R _ _ h))

  n_process_fails : (f a : ℕ) (k : ℕ → ℕ → Outcome Effect) → NodeFails T m page x f a → Near (fail f) (on_process T (operand T m page x a) k)
  unfolding on_process
  n_process_fails f a k h = n_place_fails (fail f) f (operand T m page x a) _ refl (fails_near T m page x f a h)

  pub statement_near : (f : ℕ) (S : Statement) → StatementFails T m page x f S → Near (fail f) (perform T m page x S)
  unfolding perform do_assign do_local_call do_process_call do_create do_start do_opener do_write
  statement_near f _ (target {a = a} h) = n_place_fails (fail f) f (operand T m page x a) _ refl (fails_near T m page x f a h)
  statement_near f _ (source {a = a} {b = b} {i = i} {τ = τ} y h) =
      n_place (fail f) i τ (operand T m page x a) _ (same y) (n_typed_fails (fail f) f (operand T m page x b) _ refl (fails_near T m page x f b h))
  statement_near f _ (local_argument {q = q} {c = c} {d = d} h) =
      n_need (fail f) _ _ (n_fails (fail f) f (arguments T m page x q c d) _ refl (arguments_near f q c d h))
  statement_near _ _ (local_space {q = q} {c = c} {d = d} {ws = ws} e h) =
      n_need (fail 22) _ _ (n_then (fail 22) ws (arguments T m page x q c d) _ (same e) (n_where (fail 22) _ 22 _ refl (is_space q h)))
  statement_near _ _ (local_area {q = q} {c = c} {d = d} {ws = ws} e h) =
      n_need (fail 22) _ _ (n_then (fail 22) ws (arguments T m page x q c d) _ (same e)
      (g_where (Near (fail 22)) lost _ 22 _ (λ o. same refl) (λ o. area_near _ q _ ws h)))
  statement_near f _ (callee {a = a} h) = n_process_fails f a _ h
  statement_near _ _ (callee_unset {a = a} {i = i} {τ = τ} y z) =
      n_process (fail 31) a i τ y _ (λ μ t. n_need (fail 31) _ _ (n_unset (fail 31) a i τ y μ _ refl z))
  statement_near _ _ (callee_empty {a = a} {i = i} {τ = τ} y z) =
      n_process (fail 19) a i τ y _ (λ μ t. n_need (fail 19) _ _ (n_empty (fail 19) a i τ y μ _ refl z))
  statement_near f _ (call_argument {a = a} {q = q} {c = c} {d = d} {i = i} {τ = τ} y z s h) =
      n_process (fail f) a i τ y _ (λ μ t. n_need (fail f) _ _ (n_reference (fail f) a i τ y μ _ z
      (rw (serves_free (m i) s) (n_fails (fail f) f (arguments T m page x q c d) _ refl (arguments_near f q c d h)))))
  statement_near _ _ (call_area {a = a} {q = q} {c = c} {d = d} {i = i} {τ = τ} {ws = ws} y z s e h) =
      n_process (fail 22) a i τ y _ (λ μ t. n_need (fail 22) _ _ (n_reference (fail 22) a i τ y μ _ z
      (rw (serves_free (m i) s) (n_then (fail 22) ws (arguments T m page x q c d) _ (same e) (area_near _ q _ ws h)))))
  statement_near f _ (createe {a = a} h) = n_process_fails f a _ h
  statement_near _ _ (limit {a = a} {i = i} {τ = τ} y e) =
      n_process (fail 24) a i τ y _ (λ μ t. n_where (fail 24) _ 24 _ refl (eq-eqb _ 64 e))
  statement_near f _ (startee {a = a} h) = n_process_fails f a _ h
  statement_near _ _ (startee_unset {a = a} {i = i} {τ = τ} y z) = n_process (fail 31) a i τ y _ (λ μ t. n_unset (fail 31) a i τ y μ _ refl z)
  statement_near _ _ (startee_empty {a = a} {i = i} {τ = τ} y z) = n_process (fail 19) a i τ y _ (λ μ t. n_empty (fail 19) a i τ y μ _ refl z)
  statement_near _ _ (started_twice {a = a} {i = i} {τ = τ} y z n) =
      n_process (fail 20) a i τ y _ (λ μ t. n_reference (fail 20) a i τ y μ _ z (n_where (fail 20) _ 20 _ refl (rw (ne_eqb _ 1 n))))
  statement_near f _ (start_argument {a = a} {c = c} {d = d} {i = i} {τ = τ} {μ = μ} y z s u h) =
      n_known (fail f) a i τ y _ μ u (n_reference (fail f) a i τ y μ _ z (n_pass (fail f) _ 20 _ (rw (eq-eqb _ 1 s))
      (n_fails (fail f) f (arguments T m page x μ c d) _ refl (arguments_near f μ c d h))))
  statement_near f _ (guard h) =
      g_arms (Near (fail f)) lost (stmt_at T (x.statement + 1)) _ _ (λ g l e. n_fails (fail f) f _ _ refl (guards_near f _ h (stmt_count T))) (λ l e. lost)
  statement_near f _ (address {a = a} h) = n_word_fails (fail f) f (operand T m page x a) 0 _ refl (fails_near T m page x f a h)
  statement_near f _ (datum {a = a} {b = b} {τ = τ} {us = us} y h) =
      n_word (fail f) τ us (operand T m page x a) 0 _ (same y) (n_word_fails (fail f) f (operand T m page x b) 0 _ refl (fails_near T m page x f b h))
  statement_near _ _ (location {a = a} {b = b} {τ = τ} {σ = σ} {us = us} {vs = vs} y w h) =
      n_word (fail 21) τ us (operand T m page x a) 0 _ (same y)
      (n_word (fail 21) σ vs (operand T m page x b) 0 _ (same w) (n_where (fail 21) _ 21 _ refl (rw h)))

  inside_near : (R : Outcome Effect) (S : Statement) (j o : ℕ) (k : Opener) → Inside S → LeadsTo T x.statement j o → stmt_at T o ≡ opener k
      → (Near R (pick (repeats k) (go_to T m page x m o) (go_to T m page x m (j + 1)))) → Near R (perform T m page x S)
  unfolding perform do_end
  inside_near R _ j o k next_arm l e h = n_leads R T _ _ j o _ l (n_opener R (stmt_at T o) _ k e h)
  inside_near R _ j o k last_end l e h = n_leads R T _ _ j o _ l (n_opener R (stmt_at T o) _ k e h)

  -- a statement that is carried out
  pub carries_near : (S : Statement) (s d : Memory) → Carries T m page x S s d → Near (ok (effect 0 s d)) (perform T m page x S)
  unfolding perform go_to go_on do_assign do_local_call do_process_call do_create do_start do_opener chosen do_write do_block_end moved and_then return returns
  carries_near _ _ _ Carries.skips = same refl
  carries_near _ _ _ (assigns {a = a} {b = b} {i = i} {τ = τ} {κ = κ} {ws = ws} y w h) =
      n_place _ i τ (operand T m page x a) _ (same y) (n_gives T m page x b (operand T m page x b) _ _ κ ws (λ _ q. same q) w (n_need _ _ _ (same refl)))
  carries_near _ _ _ (calls_local {q = q} {c = c} {d = d} {ws = ws} p o n) =
      n_need _ _ _ (n_then _ ws (arguments T m page x q c d) _ (passed_near q c d ws p) (n_pass _ _ 22 _ (free_space q o) (room_near _ q _ ws n)))
  carries_near _ _ _ (calls_process {a = a} {q = q} {c = c} {d = d} {i = i} {τ = τ} {ws = ws} y t z s p n) =
      n_process _ a i τ y _ (λ μ u. n_need _ _ _ (n_reference _ a i τ y μ _ z
      (rw (serves_free (m i) s) (n_then _ ws (arguments T m page x q c d) _ (passed_near q c d ws p) (room_near _ q _ ws n)))))
  carries_near _ _ _ (creates {a = a} {i = i} {τ = τ} {μ = μ} y t n) = n_known _ a i τ y _ μ t (n_pass _ _ 24 _ (ne_eqb _ 64 n) (same refl))
  carries_near _ _ _ (starts {a = a} {c = c} {d = d} {i = i} {τ = τ} {μ = μ} {ws = ws} y t z s p) =
      n_known _ a i τ y _ μ t (n_reference _ a i τ y μ _ z (n_pass _ _ 20 _ (rw (eq-eqb _ 1 s))
      (n_then _ ws (arguments T m page x μ c d) _ (passed_near μ c d ws p) (n_need _ _ _ (same refl)))))
  carries_near _ _ _ (Carries.enters {j = j} h) =
      g_arms (Near _) lost (stmt_at T (x.statement + 1)) _ _ (λ g l e. n_then _ (enters j) _ _ (first_near _ j h (stmt_count T)) (same refl)) (λ l e. lost)
  carries_near _ _ _ (passes {j = j} {o = o} w h k) =
      g_arms (Near _) lost (stmt_at T (x.statement + 1)) _ _
      (λ g l e. n_then _ (skips (last_of _ h)) _ _ (false_near _ h (stmt_count T)) (rw (w, last-is _ j o h k) (same refl)))
      (λ l e. lost)
  carries_near _ _ _ (leaves {j = j} {o = o} {k = k} n l e h) = inside_near _ _ j o k n l e (n_pick_false _ _ _ _ h (same refl))
  carries_near _ _ _ (again {j = j} {o = o} {k = k} n l e h) = inside_near _ _ j o k n l e (n_pick_true _ _ _ _ h (same refl))
  carries_near _ _ _ (writes {a = a} {b = b} {τ = τ} {σ = σ} {us = us} {vs = vs} y w h) =
      n_word _ τ us (operand T m page x a) 0 _ (same y)
      (n_word _ σ vs (operand T m page x b) 0 _ (same w) (n_pass _ _ 21 _ (rw h) (same refl)))
  carries_near _ _ _ (returns_local n e) = rw (ne_eqb _ 0 n, e) (same refl)
  carries_near _ _ _ (returns_process n e) = rw (ne_eqb _ 0 n, e) (same refl)

  -- an answer that a statement gives, with the state that it leaves
  pub record Replies (n : ℕ) (o : Outcome Effect) : Type 0 where
    pub state : Memory
    pub near : Near (ok (effect n state page)) o

  pub waits_near : (S : Statement) → StatementWaits T m page x S → Replies 1 (perform T m page x S)
  unfolding perform do_opener do_process_call chosen wait
  waits_near _ (blocked {k = k} e h) = record {
    state = update m (holder_at x.works) 0;
    near = g_arms (Near _) lost (stmt_at T (x.statement + 1)) _ _
        (λ g l u. n_then _ (skips (last_of _ h)) _ _ (false_near _ h (stmt_count T)) (rw e (same refl)))
        (λ l u. lost);
  }
  waits_near _ (busy {a = a} {i = i} {τ = τ} y z h) = record {
    state = m;
    near = n_process _ a i τ y _ (λ μ t. n_need _ _ _ (n_reference _ a i τ y μ _ z (rw (busy_free (m i) h) (same refl))));
  }

  pub ends_near : (S : Statement) → StatementEnds T m page x S → Replies 2 (perform T m page x S)
  unfolding perform do_block_end
  ends_near _ (own_block e) = record { state = update (update m (status_at x.process) 3) (holder_at x.process) 0; near = rw (eq-eqb _ 0 e) (same refl) }
