-- Trusted: public promises are said with these definitions.
-- What users may rely on of the space that a module reserves (13; 02, i). Assumes nothing.
use Rattle.std.specs.Prelude.{ℕ, ◌≡◌, true}
use Rattle.table.specs.Table.{Table}
use Rattle.table.specs.Entries.{space}
use Rattle.machine.specs.Memory.{Memory}
use Rattle.machine.specs.Layout.{status_at, module_at, statement_at}
use Rattle.machine.specs.Entries.{local_call, stmt_at}
use Rattle.machine.specs.Context.{context_of}
use Rattle.machine.specs.Space.{is_procedure_of}
use Rattle.machine.specs.Rule.{lies_in, rule}
use Rattle.sound.specs.InUse.{Created}
use Rattle.sound.specs.Conditions.{AreaFull, SpaceFull}

-- a local call in block b calls procedure q
pub record HasCall (T : Table) (b q : ℕ) : Type 0 where
  pub statement : ℕ
  pub first : ℕ
  pub count : ℕ
  pub lies : lies_in T b statement ≡ true
  pub is : stmt_at T statement ≡ local_call q first count

-- block b calls procedure q, itself or by procedures that it calls
pub data LeadsToCall (T : Table) : ℕ → ℕ → Type 0 where
  at_once : {b q : ℕ} → HasCall T b q → LeadsToCall T b q
  by : {b c q : ℕ} → HasCall T b c → LeadsToCall T c q → LeadsToCall T b q

-- no procedure of module μ calls itself, at once or by others
abbrev pub NoRecursion : Table → ℕ → Type 0
NoRecursion T μ = (q : ℕ) → is_procedure_of T μ q ≡ true → LeadsToCall T q q → ⊥

-- started process p stands at a local call of procedure q
pub record AtCall (T : Table) (m : Memory) (p q : ℕ) : Type 0 where
  pub created : Created m p
  pub started : m (status_at p) ≡ 2
  pub first : ℕ
  pub count : ℕ
  pub is : stmt_at T (m (statement_at p)) ≡ local_call q first count

-- in a state that meets the rule
pub record SpaceUse (T : Table) : Type 0 where
  -- without recursion the reserve is never the reason of a 22
  pub enough : (m page : Memory) (p q : ℕ) → rule T m ≡ true → AtCall T m p q → NoRecursion T (m (module_at p))
      → SpaceFull T m page (context_of m p) q → ⊥
  -- with a space of 510 the 256 words of the area decide alone
  pub all : (m page : Memory) (p q : ℕ) → rule T m ≡ true → AtCall T m p q → space T (m (module_at p)) ≡ 510
      → SpaceFull T m page (context_of m p) q → AreaFull T m page (context_of m p) q
