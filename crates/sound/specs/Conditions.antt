-- Trusted: public promises are said with these definitions.
-- When a statement fails, waits or ends its process's own block, said by rules (01, Step answers). The rules of failures say where each
-- failure arises, and which operand's failure is met first; that an operand has a value or a place is said by the evaluation.
-- Assumes nothing.
use Rattle.std.specs.Prelude.{ℕ, suc, ◌+◌, ◌<◌, ◌≡◌, true, false, ◌⊎◌, List, length, ℤ, pos, negsuc, neg_ℤ, ◌+ℤ◌, ◌-ℤ◌, ◌*ℤ◌}
use Rattle.std.specs.Int.Signed.{quot_z, rem_z}
use Rattle.words.specs.Numbers.{int_of, between_z}
use Rattle.words.specs.Types.{in_type}
use Rattle.words.specs.Devices.{is_device}
use Rattle.table.specs.Table.{Table}
use Rattle.table.specs.Entries.{arg_node, first_var}
use Rattle.machine.specs.Memory.{Memory}
use Rattle.machine.specs.Layout.{status_at, module_at, top_at, holder_at, depth_at, created_at}
use Rattle.machine.specs.Marks.{marked, all_marked}
use Rattle.types.specs.Types.{NodeType, numbered, string}
use Rattle.machine.specs.Outcomes.{ok, place, value, text, word_of}
use Rattle.machine.specs.Entries.{array_type, process_type, type_at, Unary, minus, val, Binary, add, subtract, multiply, divide, modulus, field, element, retrieve, unary, binary, transfer, node_at}
use Rattle.machine.specs.Entries.{Opener, waits, Statement, assign, local_call, process_call, create, start, opener, arm, end_arms, write, block_end, stmt_at}
use Rattle.sizes.specs.Sizes.{words_of}
use Rattle.machine.specs.Variables.{frame_words}
use Rattle.machine.specs.Context.{Context}
use Rattle.machine.specs.Space.{reserve, own_after}
use Rattle.machine.specs.Operands.{operand, outside}
use Rattle.machine.specs.Calls.{argument, arguments}

-- ---- operators

-- z is no integer from -32768 to 32767
abbrev pub OutOfRange : ℤ → Type 0
OutOfRange z = between_z (negsuc 32767) (pos 32767) z ≡ false

-- z is the result of an integer operator at the words u and v, whatever its range
pub data Exact : Binary → ℕ → ℕ → ℤ → Type 0 where
  sum : {u v : ℕ} → Exact add u v (int_of u +ℤ int_of v)
  difference : {u v : ℕ} → Exact subtract u v (int_of u -ℤ int_of v)
  product : {u v : ℕ} → Exact multiply u v (int_of u *ℤ int_of v)
  quotient : {u v : ℕ} → (v ≡ 0 → ⊥) → Exact divide u v (quot_z (int_of u) (int_of v))
  remainder : {u v : ℕ} → (v ≡ 0 → ⊥) → Exact modulus u v (rem_z (int_of u) (int_of v))

-- an operator that has a divisor
pub data Divides : Binary → Type 0 where
  by_divide : Divides divide
  by_modulus : Divides modulus

module _ (T : Table) (m page : Memory) (x : Context) where
  -- node n selects the location a of type τ; it yields the value ws of type τ
  abbrev pub Selects : ℕ → ℕ → ℕ → Type 0
  Selects n a τ = operand T m page x n ≡ ok (place a τ)

  abbrev pub Yields : ℕ → ℕ → List ℕ → Type 0
  Yields n τ ws = operand T m page x n ≡ ok (value τ ws)

  -- it gives the words ws of type κ: those of a value, or the characters of a string constant (02, b)
  pub data Gives : ℕ → NodeType → List ℕ → Type 0 where
    a_value : {n τ : ℕ} {ws : List ℕ} → Yields n τ ws → Gives n (numbered τ) ws
    a_text : {n : ℕ} {ws : List ℕ} → operand T m page x n ≡ ok (text ws) → Gives n (string (length ws)) ws

  -- ---- THE FIRST FAILURE met at a node is f
  pub data NodeFails : ℕ → ℕ → Type 0 where
    -- 16: integer result out of range
    result : {o : Binary} {n a b τ σ : ℕ} {us vs : List ℕ} {z : ℤ} → node_at T n ≡ binary o a b → Yields a τ us → Yields b σ vs
        → Exact o (word_of us) (word_of vs) z → OutOfRange z → NodeFails 16 n
    inverted : {n a τ : ℕ} {us : List ℕ} → node_at T n ≡ unary minus a → Yields a τ us → OutOfRange (neg_ℤ (int_of (word_of us))) → NodeFails 16 n
    -- 17: divisor 0
    divisor : {o : Binary} {n a b τ σ : ℕ} {us vs : List ℕ} → node_at T n ≡ binary o a b → Yields a τ us → Yields b σ vs
        → Divides o → word_of vs ≡ 0 → NodeFails 17 n
    -- 18: index out of range
    index : {n a k l τ ι σ low high ρ : ℕ} {ws : List ℕ} → node_at T n ≡ element a k → Selects a l τ → type_at T τ ≡ array_type ι σ low high
        → Yields k ρ ws → outside low high (word_of ws) ≡ true → NodeFails 18 n
    -- 21: device address odd or outside -8192..-2
    device : {n a τ : ℕ} {us : List ℕ} → node_at T n ≡ unary val a → Yields a τ us → is_device (int_of (word_of us)) ≡ false → NodeFails 21 n
    -- 23: transferred word is no value of the type
    transferred : {n a τ σ : ℕ} {us : List ℕ} → node_at T n ≡ transfer a τ → Yields a σ us → in_type τ (word_of us) ≡ false → NodeFails 23 n
    -- 31: a word of the variable that is retrieved is unmarked
    unset : {n a i τ : ℕ} → node_at T n ≡ retrieve a → Selects a i τ → all_marked m i (words_of T τ) ≡ false → NodeFails 31 n
    -- an operand's failure is met first: the record of a field; the array variable before its index; the variable of a value
    in_record : {f n a i : ℕ} → node_at T n ≡ field a i → NodeFails f a → NodeFails f n
    in_array : {f n a k : ℕ} → node_at T n ≡ element a k → NodeFails f a → NodeFails f n
    in_index : {f n a k l τ : ℕ} → node_at T n ≡ element a k → Selects a l τ → NodeFails f k → NodeFails f n
    in_variable : {f n a : ℕ} → node_at T n ≡ retrieve a → NodeFails f a → NodeFails f n
    -- the left operand before the right
    in_unary : {o : Unary} {f n a : ℕ} → node_at T n ≡ unary o a → NodeFails f a → NodeFails f n
    in_transfer : {f n a τ : ℕ} → node_at T n ≡ transfer a τ → NodeFails f a → NodeFails f n
    in_left : {o : Binary} {f n a b : ℕ} → node_at T n ≡ binary o a b → NodeFails f a → NodeFails f n
    in_right : {o : Binary} {f n a b : ℕ} {κ : NodeType} {us : List ℕ} → node_at T n ≡ binary o a b → Gives a κ us → NodeFails f b → NodeFails f n

  -- of k arguments from i on, for the parameters from v on: in the order written
  pub data ArgumentsFail : ℕ → ℕ → ℕ → ℕ → Type 0 where
    this_argument : {f k v i : ℕ} → NodeFails f (arg_node T i) → ArgumentsFail f (suc k) v i
    later_argument : {f k v i : ℕ} {ws : List ℕ} → argument T m page x v i ≡ ok ws → ArgumentsFail f k (v + 1) (i + 1) → ArgumentsFail f (suc k) v i

  -- of the guards of the arms from i on: in the order written, up to the first true one
  pub data GuardsFail : ℕ → ℕ → Type 0 where
    this_guard : {f i g l : ℕ} → stmt_at T i ≡ arm g l → NodeFails f g → GuardsFail f i
    later_guard : {f i g l τ : ℕ} {ws : List ℕ} → stmt_at T i ≡ arm g l → Yields g τ ws → word_of ws ≡ 0 → GuardsFail f l → GuardsFail f i

  -- every guard of the arms from i on was evaluated and is false
  pub data GuardsFalse : ℕ → Type 0 where
    none : {i l : ℕ} → stmt_at T i ≡ end_arms l → GuardsFalse i
    more : {i g l τ : ℕ} {ws : List ℕ} → stmt_at T i ≡ arm g l → Yields g τ ws → word_of ws ≡ 0 → GuardsFalse l → GuardsFalse i

  -- the process's area has no room for a call of procedure q
  abbrev pub AreaFull : ℕ → Type 0
  AreaFull q = 256 < m (top_at x.process) + 4 + frame_words T q

  -- the process works on its own variables, and with a call of procedure q its own calls pass what its module reserves (13; 02, i)
  pub record SpaceFull (q : ℕ) : Type 0 where
    pub own : x.works ≡ x.process
    pub above : reserve T (m (module_at x.process)) < own_after T m x q

  -- the process variable at location i has a value, which names a process; which is empty
  pub record Refers (i : ℕ) : Type 0 where
    pub set : marked m i ≡ true
    pub some : m i ≡ 0 → ⊥

  pub record Empty (i : ℕ) : Type 0 where
    pub set : marked m i ≡ true
    pub none : m i ≡ 0

  -- process r can serve a call: it is started and nobody holds its variables
  pub record Serves (r : ℕ) : Type 0 where
    pub started : m (status_at r) ≡ 1 → ⊥
    pub unheld : m (holder_at r) ≡ 0

  -- ---- THE FIRST FAILURE met in carrying out a statement is f
  pub data StatementFails : ℕ → Statement → Type 0 where
    -- an assignment selects, evaluates
    target : {f a b : ℕ} → NodeFails f a → StatementFails f (assign a b)
    source : {f a b i τ : ℕ} → Selects a i τ → NodeFails f b → StatementFails f (assign a b)
    -- a local call evaluates arguments, then tests what the process's module reserves, while it works on its own variables, and the area (22)
    local_argument : {f q c d : ℕ} → ArgumentsFail f d (first_var T q) c → StatementFails f (local_call q c d)
    local_space : {q c d : ℕ} {ws : List ℕ} → arguments T m page x q c d ≡ ok ws → SpaceFull q → StatementFails 22 (local_call q c d)
    local_area : {q c d : ℕ} {ws : List ℕ} → arguments T m page x q c d ≡ ok ws → AreaFull q → StatementFails 22 (local_call q c d)
    -- a process call tests its reference (31, then 19), waits, evaluates arguments, tests the area (22)
    callee : {f a q c d : ℕ} → NodeFails f a → StatementFails f (process_call a q c d)
    callee_unset : {a q c d i τ : ℕ} → Selects a i τ → marked m i ≡ false → StatementFails 31 (process_call a q c d)
    callee_empty : {a q c d i τ : ℕ} → Selects a i τ → Empty i → StatementFails 19 (process_call a q c d)
    call_argument : {f a q c d i τ : ℕ} → Selects a i τ → Refers i → Serves (m i) → ArgumentsFail f d (first_var T q) c
        → StatementFails f (process_call a q c d)
    call_area : {a q c d i τ : ℕ} {ws : List ℕ} → Selects a i τ → Refers i → Serves (m i) → arguments T m page x q c d ≡ ok ws → AreaFull q
        → StatementFails 22 (process_call a q c d)
    -- create selects its variable, tests the limit (24)
    createe : {f a : ℕ} → NodeFails f a → StatementFails f (create a)
    limit : {a i τ : ℕ} → Selects a i τ → m created_at ≡ 64 → StatementFails 24 (create a)
    -- start tests its reference (31, then 19, then 20), then arguments
    startee : {f a c d : ℕ} → NodeFails f a → StatementFails f (start a c d)
    startee_unset : {a c d i τ : ℕ} → Selects a i τ → marked m i ≡ false → StatementFails 31 (start a c d)
    startee_empty : {a c d i τ : ℕ} → Selects a i τ → Empty i → StatementFails 19 (start a c d)
    started_twice : {a c d i τ : ℕ} → Selects a i τ → Refers i → (m (status_at (m i)) ≡ 1 → ⊥) → StatementFails 20 (start a c d)
    start_argument : {f a c d i τ μ : ℕ} → Selects a i τ → Refers i → m (status_at (m i)) ≡ 1 → type_at T τ ≡ process_type μ
        → ArgumentsFail f d (first_var T μ) c → StatementFails f (start a c d)
    -- an opener tries its guards
    guard : {f : ℕ} {k : Opener} → GuardsFail f (x.statement + 1) → StatementFails f (opener k)
    -- write evaluates address, then value, then tests the address (21)
    address : {f a b : ℕ} → NodeFails f a → StatementFails f (write a b)
    datum : {f a b τ : ℕ} {us : List ℕ} → Yields a τ us → NodeFails f b → StatementFails f (write a b)
    location : {a b τ σ : ℕ} {us vs : List ℕ} → Yields a τ us → Yields b σ vs → is_device (int_of (word_of us)) ≡ false → StatementFails 21 (write a b)

  -- a statement waits: every guard of a when or cycle is false; a process call's target is unstarted or held
  pub data StatementWaits : Statement → Type 0 where
    blocked : {k : Opener} → waits k ≡ true → GuardsFalse (x.statement + 1) → StatementWaits (opener k)
    busy : {a q c d i τ : ℕ} → Selects a i τ → Refers i → (m (status_at (m i)) ≡ 1) ⊎ (m (holder_at (m i)) ≡ 0 → ⊥)
        → StatementWaits (process_call a q c d)

  -- a statement ends the process's own block
  pub data StatementEnds : Statement → Type 0 where
    own_block : m (depth_at x.process) ≡ 0 → StatementEnds block_end
