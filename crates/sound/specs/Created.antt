-- Trusted: public promises are said with these definitions.
-- The processes created (11.4; 01, A run, for demand 3): process 1, and one more for each create carried out, of the module that its
-- variable's type names. Each stays one, of its module. Assumes nothing.
use Rattle.std.specs.Prelude.{ℕ, ◌+◌, ◌≤◌, ◌<◌, ◌≡◌, Bool, true, false, List, [], ◌∷◌, eqb}
use Rattle.basics.specs.Choice.{pick, both}
use Rattle.table.specs.Table.{Table}
use Rattle.machine.specs.Memory.{Memory, memory_of}
use Rattle.machine.specs.Layout.{status_at, module_at, created_at, failure_at}
use Rattle.machine.specs.Entries.{process_type, type_at, Statement, skip, assign, local_call, process_call, create, start, opener, arm, end_arms, write, block_end, no_statement, stmt_at}
use Rattle.machine.specs.Context.{context_of}
use Rattle.sound.specs.InUse.{Created}
use Rattle.sound.specs.Conditions.{Selects}
use Rattle.sound.specs.Rows.{next}
use Rattle.sound.specs.Histories.{Seen}

-- ---- creates carried out

unfoldable pub is_create : Statement → Bool
is_create skip = false
is_create (assign a b) = false
is_create (local_call q c d) = false
is_create (process_call a q c d) = false
is_create (create a) = true
is_create (start a c d) = false
is_create (opener k) = false
is_create (arm g l) = false
is_create (end_arms l) = false
is_create (write a b) = false
is_create block_end = false
is_create no_statement = false

-- a step of process p, from state m, that answers n carries out a create: its statement is one, and was carried out (answer 0)
unfoldable pub creates_one : Table → Memory → ℕ → ℕ → Bool
creates_one T m p n = both (eqb n 0) (is_create (stmt_at T (context_of m p).statement))

-- how many of the steps do
unfoldable pub creations : Table → List Seen → ℕ
creations T [] = 0
creations T (e ∷ es) = pick (creates_one T (memory_of e.before) e.process e.answer) 1 0 + creations T es

-- ---- what a step does

-- in state s process r is the last that is created; it is of module μ and not started, and the variable at location i refers to it
pub record NewProcess (s : Memory) (r μ i : ℕ) : Type 0 where
  pub last : s created_at ≡ r
  pub block : s (module_at r) ≡ μ
  pub unstarted : s (status_at r) ≡ 1
  pub named : s i ≡ r

-- from state m to a later one, s: a process created in m is one in s, of the same module, and its status (1 created, 2 started, 3 ended)
-- does not fall
pub record ProcessesKept (m s : Memory) : Type 0 where
  pub created : (r : ℕ) → Created m r → Created s r
  pub block : (r : ℕ) → Created m r → s (module_at r) ≡ m (module_at r)
  pub status : (r : ℕ) → Created m r → m (status_at r) ≤ s (status_at r)

-- a step of process p that answers n and leaves state s, from state m
module _ (T : Table) (m page : Memory) (p n : ℕ) (s : Memory) where
  pub data Creating : Type 0 where
    -- it carries out no create, and as many processes are created as before
    same : creates_one T m p n ≡ false → s created_at ≡ m created_at → Creating
    -- it carries out a create of variable a, at location i, of a process type of module μ: the next number is a process of μ
    creates : (a i τ μ : ℕ) → creates_one T m p n ≡ true → next T m page p ≡ create a → Selects T m page (context_of m p) a i τ
        → type_at T τ ≡ process_type μ → NewProcess s (m created_at + 1) μ i → Creating

  pub record CreatedKept : Type 0 where
    pub creating : Creating
    pub kept : ProcessesKept m s
    -- a step that does not fail leaves the failure mark as it was
    pub mark : n < 16 → s failure_at ≡ m failure_at
