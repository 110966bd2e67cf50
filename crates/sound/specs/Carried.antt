-- Trusted: public promises are said with these definitions.
-- What a statement that is carried out does, kind by kind (9 to 13; 01, A step): row 0 of 'Step answers'. Each rule gives the state and the
-- device words that are left; words that it does not name stay as they were. Assumes nothing.
use Rattle.std.specs.Prelude.{ℕ, suc, ◌+◌, ◌≡◌, true, false, List, [], ◌∷◌, ◌++◌, length}
use Rattle.basics.specs.Choice.{pick}
use Rattle.table.specs.Table.{Table}
use Rattle.table.specs.Entries.{arg_node, var_mode, var_type, first_var, params, owner}
use Rattle.types.specs.Types.{NodeType, numbered}
use Rattle.types.specs.Match.{equal, fitted, matching}
use Rattle.sizes.specs.Sizes.{words_of}
use Rattle.words.specs.Numbers.{int_of}
use Rattle.words.specs.Devices.{is_device}
use Rattle.machine.specs.Memory.{Memory, update, store}
use Rattle.machine.specs.Layout.{location, status_at, statement_at, holder_at, depth_at, created_at, call_statement}
use Rattle.machine.specs.Marks.{mark, fresh}
use Rattle.machine.specs.Texts.{fit}
use Rattle.machine.specs.Outcomes.{word_of}
use Rattle.machine.specs.Entries.{process_type, type_at, Opener, waits, repeats, Statement, skip, assign, local_call, process_call, create, start, opener, arm, end_arms, write, block_end, stmt_at}
use Rattle.machine.specs.Context.{Context}
use Rattle.machine.specs.Operands.{device_word}
use Rattle.machine.specs.Calls.{pushed, frame_marked, popped}
use Rattle.machine.specs.Processes.{created, started}
use Rattle.sound.specs.Conditions.{Selects, Yields, Gives, GuardsFalse, AreaFull, SpaceFull, Refers, Serves}

-- a statement that is reached from inside the arm before it
pub data Inside : Statement → Type 0 where
  next_arm : {g l : ℕ} → Inside (arm g l)
  last_end : {l : ℕ} → Inside (end_arms l)

-- the links of the arms from i on lead to the end at j, whose opener is o
pub data LeadsTo (T : Table) : ℕ → ℕ → ℕ → Type 0 where
  the_end : {i o : ℕ} → stmt_at T i ≡ end_arms o → LeadsTo T i i o
  past_arm : {i j o g l : ℕ} → stmt_at T i ≡ arm g l → LeadsTo T l j o → LeadsTo T i j o

module _ (T : Table) (m page : Memory) (x : Context) where
  -- the words that k arguments from i on pass to the parameters from v on (11.3, 12.1): for a value parameter the words that its
  -- argument gives, filled or cut where its type is fitted (02, b), for a var parameter the location that its argument selects
  pub data Passes : ℕ → ℕ → ℕ → List ℕ → Type 0 where
    no_more : {v i : ℕ} → Passes 0 v i []
    by_value : {k v i : ℕ} {κ : NodeType} {us ws : List ℕ} → var_mode T v ≡ 1 → Gives T m page x (arg_node T i) κ us
        → matching T κ (numbered (var_type T v)) ≡ equal → Passes k (v + 1) (i + 1) ws → Passes (suc k) v i (us ++ ws)
    by_fit : {k v i : ℕ} {κ : NodeType} {us ws : List ℕ} → var_mode T v ≡ 1 → Gives T m page x (arg_node T i) κ us
        → matching T κ (numbered (var_type T v)) ≡ fitted → Passes k (v + 1) (i + 1) ws
        → Passes (suc k) v i (fit (words_of T (var_type T v)) us ++ ws)
    by_variable : {k v i a : ℕ} {ws : List ℕ} → var_mode T v ≡ 2 → Selects T m page x (arg_node T i) a (var_type T v)
        → Passes k (v + 1) (i + 1) ws → Passes (suc k) v i (a ∷ ws)

  -- d arguments from c on, one for each parameter of block b, pass the words ws
  pub record ArgumentsPass (b c d : ℕ) (ws : List ℕ) : Type 0 where
    pub each : d ≡ params T b
    pub words : Passes d (first_var T b) c ws

  -- of the arms from i on, arm j is the first whose guard is true (11.6)
  pub data FirstTrue : ℕ → ℕ → Type 0 where
    this_arm : {i g l τ : ℕ} {ws : List ℕ} → stmt_at T i ≡ arm g l → Yields T m page x g τ ws → (word_of ws ≡ 0 → ⊥) → FirstTrue i i
    later_arm : {i j g l τ : ℕ} {ws : List ℕ} → stmt_at T i ≡ arm g l → Yields T m page x g τ ws → word_of ws ≡ 0 → FirstTrue l j → FirstTrue i j

  -- state s, and the process goes on at statement c; with the statement after this one
  abbrev pub going_to : Memory → ℕ → Memory
  going_to s c = update s (statement_at x.process) c

  abbrev pub going_on : Memory → Memory
  going_on s = going_to s (x.statement + 1)

  -- the statement that made its innermost call
  abbrev pub caller : ℕ
  caller = call_statement m x.process x.frame

  -- STATEMENT S IS CARRIED OUT, and leaves this state and these device words
  pub data Carries : Statement → Memory → Memory → Type 0 where
    -- 11.1
    skips : Carries skip (going_on m) page
    -- 11.2: an assignment stores what b gives where a selects, and marks it
    assigns : {a b i τ : ℕ} {κ : NodeType} {ws : List ℕ} → Selects T m page x a i τ → Gives T m page x b κ ws → matching T (numbered τ) κ ≡ equal
        → Carries (assign a b) (going_on (mark (store m i ws) i (length ws))) page
    -- 11.3: a local call passes its arguments and enters the procedure; what it works on stays
    calls_local : {q c d : ℕ} {ws : List ℕ} → ArgumentsPass q c d ws → (SpaceFull T m page x q → ⊥) → (AreaFull T m page x q → ⊥)
        → Carries (local_call q c d) (frame_marked T m page x (pushed T m page x m q x.works ws) q ws) page
    -- 11.3, 13: a process call also holds the variables of the process that its variable refers to, and works on them
    calls_process : {a q c d i τ : ℕ} {ws : List ℕ} → Selects T m page x a i τ → type_at T τ ≡ process_type (owner T q) → Refers T m page x i
        → Serves T m page x (m i) → ArgumentsPass q c d ws → (AreaFull T m page x q → ⊥)
        → Carries (process_call a q c d) (frame_marked T m page x (pushed T m page x (update m (holder_at (m i)) x.process) q (m i) ws) q ws) page
    -- 11.4: create makes the next number a process of the module that the variable's type names, its area too, and the variable refer to it
    creates : {a i τ μ : ℕ} → Selects T m page x a i τ → type_at T τ ≡ process_type μ → (m created_at ≡ 64 → ⊥)
        → Carries (create a) (going_on (mark (fresh (update (created m (m created_at + 1) μ) i (m created_at + 1)) (location (m created_at + 1) 0) 256) i 1)) page
    -- 11.5: start passes its arguments to the process that the variable refers to, which stands at its first statement then
    starts : {a c d i τ μ : ℕ} {ws : List ℕ} → Selects T m page x a i τ → type_at T τ ≡ process_type μ → Refers T m page x i
        → m (status_at (m i)) ≡ 1 → ArgumentsPass μ c d ws → Carries (start a c d) (going_on (mark (started T m (m i) μ ws) (location (m i) 0) (length ws))) page
    -- 11.7 to 11.10: an opener enters the first arm whose guard is true; a when or cycle holds the variables worked on again
    enters : {k : Opener} {j : ℕ} → FirstTrue (x.statement + 1) j
        → Carries (opener k) (going_to (pick (waits k) (update m (holder_at x.works) x.process) m) (j + 1)) page
    -- 11.7, 11.8: an if or while passes its end where every guard is false
    passes : {k : Opener} {j o : ℕ} → waits k ≡ false → GuardsFalse T m page x (x.statement + 1) → LeadsTo T (x.statement + 1) j o
        → Carries (opener k) (going_to m (j + 1)) page
    -- 11.7 to 11.10: an arm or end that is reached from inside goes past the end (if, when) or back to the opener (while, cycle)
    leaves : {S : Statement} {j o : ℕ} {k : Opener} → Inside S → LeadsTo T x.statement j o → stmt_at T o ≡ opener k → repeats k ≡ false
        → Carries S (going_to m (j + 1)) page
    again : {S : Statement} {j o : ℕ} {k : Opener} → Inside S → LeadsTo T x.statement j o → stmt_at T o ≡ opener k → repeats k ≡ true
        → Carries S (going_to m o) page
    -- 12.3: write assigns the value to the device word that the address names
    writes : {a b τ σ : ℕ} {us vs : List ℕ} → Yields T m page x a τ us → Yields T m page x b σ vs → is_device (int_of (word_of us)) ≡ true
        → Carries (write a b) (going_on m) (update page (device_word (word_of us)) (word_of vs))
    -- 12.2, 13: the end of a call goes back behind the call statement; a process call's end gives up the variables worked on, a local
    -- call's none
    returns_local : {q c d : ℕ} → (m (depth_at x.process) ≡ 0 → ⊥) → stmt_at T caller ≡ local_call q c d
        → Carries block_end (popped T m page x m caller) page
    returns_process : {a q c d : ℕ} → (m (depth_at x.process) ≡ 0 → ⊥) → stmt_at T caller ≡ process_call a q c d
        → Carries block_end (popped T m page x (update m (holder_at x.works) 0) caller) page
