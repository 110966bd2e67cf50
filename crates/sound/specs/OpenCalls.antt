-- Trusted: public promises are said with these definitions.
-- The calls of a process that have not ended: which steps make and end them, and what their parameters get (11.3, 12, 13; 01, A run, for
-- demand 3). Assumes nothing.
use Rattle.std.specs.Prelude.{ℕ, zero, suc, ◌+◌, ◌<◌, ◌≡◌, List, [], ◌∷◌, length, eqb}
use Rattle.basics.specs.Choice.{pick, both, between}
use Rattle.table.specs.Table.{Table}
use Rattle.table.specs.Entries.{arg_node, var_mode, var_type, first_var, params}
use Rattle.types.specs.Types.{NodeType, numbered}
use Rattle.types.specs.Match.{equal, fitted, matching}
use Rattle.machine.specs.Texts.{fit}
use Rattle.sizes.specs.Sizes.{words_of}
use Rattle.machine.specs.Memory.{Memory, memory_of, words_at}
use Rattle.machine.specs.Layout.{location, status_at, frame_at, top_at, depth_at, created_at, caller_frame, called_block}
use Rattle.machine.specs.Entries.{Statement, skip, assign, local_call, process_call, create, start, opener, arm, end_arms, write, block_end, no_statement, stmt_at}
use Rattle.machine.specs.Variables.{offset_of}
use Rattle.machine.specs.Context.{context_of}
use Rattle.sound.specs.InUse.{VariableOf, CallAt}
use Rattle.sound.specs.Conditions.{Selects, Gives}
use Rattle.sound.specs.Rows.{next}
use Rattle.sound.specs.Histories.{Seen}

-- a call that has not ended: its procedure, and where its frame begins in the area of the process that made it
pub record OpenCall : Type 0 where
  pub procedure : ℕ
  pub frame : ℕ

-- ---- as a state has them

-- d calls of process p, the innermost with its frame at f, by the links
unfoldable pub calls_from : Memory → ℕ → ℕ → ℕ → List OpenCall
calls_from m p zero f = []
calls_from m p (suc d) f = record { procedure = called_block m p f; frame = f } ∷ calls_from m p d (caller_frame m p f)

-- the calls of process p, innermost first; a process that is not started or has ended has none
unfoldable pub open_calls : Memory → ℕ → List OpenCall
open_calls m p =
    pick (both (between 1 (m created_at) p) (eqb (m (status_at p)) 2)) (calls_from m p (m (depth_at p)) (m (frame_at p))) []

-- call c is one of the calls cs, and d of them stand outside it
pub data Among (c : OpenCall) : ℕ → List OpenCall → Type 0 where
  innermost : {cs : List OpenCall} → Among c (length cs) (c ∷ cs)
  outside : {d : ℕ} {b : OpenCall} {cs : List OpenCall} → Among c d cs → Among c d (b ∷ cs)

-- the variables in use (InUse) are those of these calls: process p has a call with its frame at f, and d calls outside it, exactly if it is
-- one of them
pub record CallsListed (T : Table) (m : Memory) : Type 0 where
  pub listed : (p d f : ℕ) → CallAt T m p d f → Among (record { procedure = called_block m p f; frame = f }) d (open_calls m p)
  pub in_use : (p d q f : ℕ) → Among (record { procedure = q; frame = f }) d (open_calls m p) → CallAt T m p d f × (called_block m p f ≡ q)

-- ---- as a run has made them

unfoldable pub outer : List OpenCall → List OpenCall
outer [] = []
outer (c ∷ cs) = cs

-- what carrying out a statement does to the calls cs of its process, whose first free word is at top: a call is one more, the end of
-- a block ends the innermost
unfoldable pub calls_by : ℕ → Statement → List OpenCall → List OpenCall
calls_by top skip cs = cs
calls_by top (assign a b) cs = cs
calls_by top (local_call q c d) cs = record { procedure = q; frame = top } ∷ cs
calls_by top (process_call a q c d) cs = record { procedure = q; frame = top } ∷ cs
calls_by top (create a) cs = cs
calls_by top (start a c d) cs = cs
calls_by top (opener k) cs = cs
calls_by top (arm g l) cs = cs
calls_by top (end_arms l) cs = cs
calls_by top (write a b) cs = cs
calls_by top block_end cs = outer cs
calls_by top no_statement cs = cs

-- the calls of process r after a step of process p, from state m, that answers n: only a statement of r that is carried out (0) changes them
unfoldable pub calls_after : Table → Memory → ℕ → ℕ → ℕ → List OpenCall → List OpenCall
calls_after T m p n r cs = pick (both (eqb n 0) (eqb r p)) (calls_by (m (top_at p)) (stmt_at T (context_of m p).statement) cs) cs

-- those that the steps made and no later one of them ended, where there were cs before
unfoldable pub calls_made : Table → ℕ → List OpenCall → List Seen → List OpenCall
calls_made T r cs [] = cs
calls_made T r cs (e ∷ es) = calls_made T r (calls_after T (memory_of e.before) e.process e.answer r cs) es

-- ---- what a step does: process p, from state m, answers n and leaves state s

module _ (T : Table) (m page : Memory) (p n : ℕ) (s : Memory) where
  -- variable v of the call of procedure q with its frame at f
  abbrev pub variable_at : ℕ → ℕ → ℕ → ℕ
  variable_at f q v = location p (f + 4 + offset_of T q v)

  -- parameter v, whose words begin at location a, gets what argument i gives, filled or cut where its type is fitted (02, b), or is bound to
  -- the location that it selects, at the call (11.3, 12.1)
  pub data Gets (a v i : ℕ) : Type 0 where
    stores : {κ : NodeType} {ws : List ℕ} → var_mode T v ≡ 1 → Gives T m page (context_of m p) (arg_node T i) κ ws
        → matching T κ (numbered (var_type T v)) ≡ equal → words_at s a (words_of T (var_type T v)) ≡ ws → Gets a v i
    fits : {κ : NodeType} {ws : List ℕ} → var_mode T v ≡ 1 → Gives T m page (context_of m p) (arg_node T i) κ ws
        → matching T κ (numbered (var_type T v)) ≡ fitted → words_at s a (words_of T (var_type T v)) ≡ fit (words_of T (var_type T v)) ws → Gets a v i
    binds : var_mode T v ≡ 2 → Selects T m page (context_of m p) (arg_node T i) (s a) (var_type T v) → Gets a v i

  -- the call of procedure q with its frame at f: each parameter gets its argument, from c on; each local is 0
  pub record Enters (f q c : ℕ) : Type 0 where
    pub parameters : (i : ℕ) → i < params T q → Gets (variable_at f q (first_var T q + i)) (first_var T q + i) (c + i)
    pub locals : (v k : ℕ) → VariableOf T q v → var_mode T v ≡ 0 → k < words_of T (var_type T v) → s (variable_at f q v + k) ≡ 0

  pub record CallsKept : Type 0 where
    -- the calls of each process are those that the step makes of them
    pub calls : (r : ℕ) → open_calls s r ≡ calls_after T m p n r (open_calls m r)
    -- a call that is made enters its procedure
    pub local : (q c d : ℕ) → n ≡ 0 → next T m page p ≡ local_call q c d → Enters (m (top_at p)) q c
    pub process : (a q c d : ℕ) → n ≡ 0 → next T m page p ≡ process_call a q c d → Enters (m (top_at p)) q c
