-- Inner: for code and proofs only; no public promise is said with these definitions.
-- What evaluation claims: Claims, with the words of values below 65,536, and the outcomes of variables and of expressions apart. Assumes nothing.
use Rattle.std.specs.Prelude.{ℕ, suc, ◌+◌, ◌≤◌, ◌<◌, ◌≡◌, true, false, List, [], ◌∷◌, ◌++◌, length, get_or}
use Rattle.table.specs.Table.{Table}
use Rattle.table.specs.Entries.{type_count, block_count, type_kind, type_p, var_mode, var_type, block_kind, owner, first_var, params, arg_node, node_kind, node_p, node_q, stmt_kind, stmt_a, stmt_b, stmt_c, stmt_d}
use Rattle.types.specs.Types.{type_of, NodeType, numbered, string, type_of_node}
use Rattle.machine.specs.Memory.{Memory, update, store}
use Rattle.machine.specs.Layout.{location, status_at, statement_at, frame_at, works_at, holder_at, depth_at, created_at}
use Rattle.machine.specs.Outcomes.{Outcome, ok, fail, Operand, place, value, text, is_failure}
use Rattle.machine.specs.Variables.{frame_words, belongs, fits}
use Rattle.machine.specs.Processes.{refers, created, started}
use Rattle.machine.specs.Values.{holds}
use Rattle.machine.specs.Context.{context_of, block_of}
use Rattle.machine.specs.Operands.{device_word}
use Rattle.machine.specs.Marks.{mark, fresh}
use Rattle.machine.specs.Calls.{top_after, pushed, frame_marked, return}
use Rattle.machine.specs.Statements.{Effect, effect}
use Rattle.machine.specs.Rule.{lives}
use Rattle.machine.specs.Rule as state
use Rattle.machine.specs.Entries.{local_call, process_call, stmt_at}
use Rattle.words.specs.Numbers.{int_of}
use Rattle.words.specs.Devices.{is_device}
use Rattle.sound.specs.Claims.{IsValue, IsText}
use Rattle.sound.specs.Answers.{Small}

-- each number of the list is a word
pub record SmallWords (ws : List ℕ) : Type 0 where
  pub words : (i : ℕ) → get_or ws i 0 < 65536

-- at a stands a live variable of type τ for the calls of process p, or such a part of one; it lies in one area and holds a value of its type
pub record Live (T : Table) (m : Memory) (p τ a : ℕ) : Type 0 where
  pub type : τ < 3 + type_count T
  pub alive : lives T m p (m (depth_at p)) (m (frame_at p)) (m (works_at p)) τ a ≡ true
  pub inside : fits T a τ ≡ true
  pub value : holds T m τ a ≡ true

-- a variable comes to a live place, or to a listed failure
pub data GoodPlace (T : Table) (m : Memory) (p τ : ℕ) : Outcome Operand → Type 0 where
  at_place : (a : ℕ) → Live T m p τ a → GoodPlace T m p τ (ok (place a τ))
  no_place : (n : ℕ) → is_failure n ≡ true → GoodPlace T m p τ (fail n)

-- an expression comes to a value, a string constant to a text, or to a listed failure
pub data GoodValue (T : Table) (m : Memory) : NodeType → Outcome Operand → Type 0 where
  a_value : {τ : ℕ} (ws : List ℕ) → IsValue T m τ ws → SmallWords ws → GoodValue T m (numbered τ) (ok (value τ ws))
  a_text : {k : ℕ} (ws : List ℕ) → IsText k ws → GoodValue T m (string k) (ok (text ws))
  no_value : {κ : NodeType} (n : ℕ) → is_failure n ≡ true → GoodValue T m κ (fail n)

-- what node n comes to, by its sort
pub record GoodNode (T : Table) (m : Memory) (p n : ℕ) (o : Outcome Operand) : Type 0 where
  pub variable : 1 ≤ node_kind T n → node_kind T n ≤ 3 → GoodPlace T m p (type_of T n) o
  pub expression : (1 ≤ node_kind T n → 4 ≤ node_kind T n) → GoodValue T m (type_of_node T n) o

-- which nodes are in the scope of block b: with a node its operands are, and a whole variable is the owner's or the block's
pub record Scoping (T : Table) (b : ℕ) (scope : ℕ → Type 0) : Type 0 where
  pub whole : (n : ℕ) → scope n → node_kind T n ≡ 1 → belongs T (owner T b) (node_p T n) ≡ false → belongs T b (node_p T n) ≡ true
  pub first : (n : ℕ) → scope n → 2 ≤ node_kind T n → node_kind T n ≤ 7 → scope (node_p T n)
  pub index : (n : ℕ) → scope n → node_kind T n ≡ 3 → scope (node_q T n)
  pub second : (n : ℕ) → scope n → node_kind T n ≡ 6 → scope (node_q T n)

-- the words of k arguments for the parameters from v on, one after the other: a value of the parameter's type, or the location of a live
-- variable of it
pub data ParameterWords (T : Table) (m : Memory) (p : ℕ) : ℕ → ℕ → List ℕ → Type 0 where
  unbound : {v : ℕ} → ParameterWords T m p 0 v []
  by_value : {k v : ℕ} (us : List ℕ) {ws : List ℕ} → (var_mode T v ≡ 2 → ⊥) → IsValue T m (var_type T v) us → SmallWords us → ParameterWords T m p k (v + 1) ws → ParameterWords T m p (suc k) v (us ++ ws)
  by_place : {k v : ℕ} (a : ℕ) {ws : List ℕ} → var_mode T v ≡ 2 → Live T m p (var_type T v) a → ParameterWords T m p k (v + 1) ws → ParameterWords T m p (suc k) v (a ∷ ws)

-- what the arguments of a call come to
pub data GoodArguments (T : Table) (m : Memory) (p k v : ℕ) : Outcome (List ℕ) → Type 0 where
  the_words : (ws : List ℕ) → ParameterWords T m p k v ws → GoodArguments T m p k v (ok ws)
  no_words : (n : ℕ) → is_failure n ≡ true → GoodArguments T m p k v (fail n)

-- the statement of process p calls procedure q, and a frame of q with the argument words ws fits the area of p
pub record Pushable (T : Table) (m page : Memory) (p q : ℕ) (ws : List ℕ) : Type 0 where
  pub there : q < block_count T
  pub procedure : block_kind T q ≡ 2
  pub bound : ParameterWords T m p (params T q) (first_var T q) ws
  pub long : length ws ≤ frame_words T q
  pub room : top_after T m page (context_of m p) q ≤ 256
  pub deep : m (depth_at p) < 64
  pub calling : state.calls q (stmt_at T (m (statement_at p))) ≡ true

-- process p stands at no when or cycle
abbrev pub CannotWait : Table → Memory → ℕ → Type 0
CannotWait T m p = state.may_wait (stmt_at T (m (statement_at p))) ≡ false

-- what the statement of a started process p comes to: one constructor for each way to go on, or a listed failure
pub data Performed (T : Table) (m page : Memory) (p : ℕ) : Outcome Effect → Type 0 where
  -- it goes on at another statement of its block, and holds the variables that it works on, or gives them up and waits
  goes : (c : ℕ) → CannotWait T m p → state.lies_in T (block_of m p) c ≡ true → Performed T m page p (ok (effect 0 (update m (statement_at p) c) page))
  holds-on : (c : ℕ) → state.lies_in T (block_of m p) c ≡ true → Performed T m page p (ok (effect 0 (update (update m (holder_at (m (works_at p))) p) (statement_at p) c) page))
  gives_up : state.may_wait (stmt_at T (m (statement_at p))) ≡ true → Performed T m page p (ok (effect 1 (update m (holder_at (m (works_at p))) 0) page))
  -- an assignment
  assigns : (τ a : ℕ) (ws : List ℕ) → CannotWait T m p → state.lies_in T (block_of m p) (m (statement_at p) + 1) ≡ true → Live T m p τ a → IsValue T m τ ws → SmallWords ws
      → Performed T m page p (ok (effect 0 (update (mark (store m a ws) a (length ws)) (statement_at p) (m (statement_at p) + 1)) page))
  -- a local call; a process call that is served, or waits
  calls : (q : ℕ) (ws : List ℕ) {c n : ℕ} → stmt_at T (m (statement_at p)) ≡ local_call q c n → owner T q ≡ owner T (block_of m p) → Pushable T m page p q ws
      → Performed T m page p (ok (effect 0 (frame_marked T m page (context_of m p) (pushed T m page (context_of m p) m q (m (works_at p)) ws) q ws) page))
  serves : (r q : ℕ) (ws : List ℕ) {i c n : ℕ} → stmt_at T (m (statement_at p)) ≡ process_call i q c n → refers m (owner T q) r ≡ true → (m (status_at r) ≡ 1 → ⊥) → m (holder_at r) ≡ 0 → Pushable T m page p q ws
      → Performed T m page p (ok (effect 0 (frame_marked T m page (context_of m p) (pushed T m page (context_of m p) (update m (holder_at r) p) q r ws) q ws) page))
  waits : Performed T m page p (ok (effect 1 m page))
  -- a creation, a start, a write
  creates : (τ a : ℕ) → CannotWait T m p → state.lies_in T (block_of m p) (m (statement_at p) + 1) ≡ true → Live T m p τ a → type_kind T τ ≡ 3 → m created_at < 64
      → Performed T m page p (ok (effect 0 (update (mark (fresh (update (created m (m created_at + 1) (type_p T τ)) a (m created_at + 1)) (location (m created_at + 1) 0) 256) a 1) (statement_at p) (m (statement_at p) + 1)) page))
  starts : (r μ : ℕ) (ws : List ℕ) → CannotWait T m p → state.lies_in T (block_of m p) (m (statement_at p) + 1) ≡ true → refers m μ r ≡ true → m (status_at r) ≡ 1 → μ < block_count T → block_kind T μ ≡ 1
      → ParameterWords T m p (params T μ) (first_var T μ) ws → length ws ≤ 256
      → Performed T m page p (ok (effect 0 (update (mark (started T m r μ ws) (location r 0) (length ws)) (statement_at p) (m (statement_at p) + 1)) page))
  writes : (a v : ℕ) → CannotWait T m p → state.lies_in T (block_of m p) (m (statement_at p) + 1) ≡ true → a < 65536 → v < 65536 → is_device (int_of a) ≡ true
      → Performed T m page p (ok (effect 0 (update m (statement_at p) (m (statement_at p) + 1)) (update page (device_word a) v)))
  -- the end of its own block, and of a call
  ends : CannotWait T m p → m (depth_at p) ≡ 0 → Performed T m page p (ok (effect 2 (update (update m (status_at p) 3) (holder_at p) 0) page))
  returns : (n : Memory) → CannotWait T m p → (m (depth_at p) ≡ 0 → ⊥) → return T m page (context_of m p) ≡ ok n → Small n → Performed T m page p (ok (effect 0 n page))
  fails : (n : ℕ) → is_failure n ≡ true → Performed T m page p (fail n)

-- what the statements of block b use is in scope, by their kinds
pub record Scoped (T : Table) (b : ℕ) (scope : ℕ → Type 0) : Type 0 where
  pub nodes : Scoping T b scope
  pub assigned : (i : ℕ) → state.lies_in T b i ≡ true → stmt_kind T i ≡ 1 → scope (stmt_a T i)
  pub assigned_value : (i : ℕ) → state.lies_in T b i ≡ true → stmt_kind T i ≡ 1 → scope (stmt_b T i)
  pub local_owner : (i : ℕ) → state.lies_in T b i ≡ true → stmt_kind T i ≡ 2 → owner T (stmt_a T i) ≡ owner T b
  pub local_argument : (i : ℕ) → state.lies_in T b i ≡ true → stmt_kind T i ≡ 2 → (k : ℕ) → k < stmt_d T i → scope (arg_node T (stmt_c T i + k))
  pub called_variable : (i : ℕ) → state.lies_in T b i ≡ true → stmt_kind T i ≡ 3 → scope (stmt_a T i)
  pub called_argument : (i : ℕ) → state.lies_in T b i ≡ true → stmt_kind T i ≡ 3 → (k : ℕ) → k < stmt_d T i → scope (arg_node T (stmt_c T i + k))
  pub created_variable : (i : ℕ) → state.lies_in T b i ≡ true → stmt_kind T i ≡ 4 → scope (stmt_a T i)
  pub started_variable : (i : ℕ) → state.lies_in T b i ≡ true → stmt_kind T i ≡ 5 → scope (stmt_a T i)
  pub started_argument : (i : ℕ) → state.lies_in T b i ≡ true → stmt_kind T i ≡ 5 → (k : ℕ) → k < stmt_d T i → scope (arg_node T (stmt_c T i + k))
  pub guard : (i : ℕ) → state.lies_in T b i ≡ true → stmt_kind T i ≡ 10 → scope (stmt_a T i)
  pub written_address : (i : ℕ) → state.lies_in T b i ≡ true → stmt_kind T i ≡ 12 → scope (stmt_a T i)
  pub written_value : (i : ℕ) → state.lies_in T b i ≡ true → stmt_kind T i ≡ 12 → scope (stmt_b T i)
