-- A statement that is not stuck exists, and does what its kind says. Assumes nothing.
use Prim.Native.Nat.{ℕ, ◌-◌, ◌<◌}
use mathlib.Core.Path.{◌≡◌, refl, ◌∙◌}
use mathlib.Core.Bool.{Bool, true, false}
use mathlib.Core.List.{List}
use native.Mathlib.Omega.{arith}
use borrow.Author.Tests.{eqb-true, ltb-true, lt-ltb}
use lib.ListN.{length}
use lib.Dec.{eqb, ltb}
use mir.Val.{Fits}
use mir.Syntax.{w8}
use Rattle.basics.specs.Choice.{pick, between}
use Rattle.basics.proofs.Bools.{either_case}
use Rattle.table.specs.Table.{Table}
use Rattle.table.specs.Entries.{stmt_count, stmt_kind, stmt_a, stmt_b, stmt_c, stmt_d, stmt_link}
use Rattle.machine.specs.Memory.{Memory, memory_of, update}
use Rattle.machine.specs.Layout.{failure_at, page_words, page_size}
use Rattle.machine.specs.Lent.{Changed, Becomes}
use Rattle.machine.specs.Outcomes.{ok, fail, stuck, is_failure}
use Rattle.machine.specs.Entries.{Statement, if, while, when, cycle, no_statement, statement_of, stmt_at}
use Rattle.machine.specs.Context.{Context}
use Rattle.machine.specs.Statements.{effect, go_on, do_assign, do_local_call, do_process_call, do_create, do_start, do_opener, do_end, do_write, do_block_end, perform}
use Rattle.machine.specs.Step.{settled}
use Rattle.machine.proofs.Tests.{range_high}
use Rattle.effects.specs.Effects.{statement_step, Stepped}

there : (b : Bool) (T : Table) (m page : Memory) (x : Context) (y : Statement)
    → (perform T m page x (pick b y no_statement) ≡ stuck → ⊥) → b ≡ true
unfolding perform
there true T m page x y g = refl
there false T m page x y g = absurd (g refl)

module _ (T : Table) (m page : Memory) (x : Context) (g : perform T m page x (stmt_at T x.statement) ≡ stuck → ⊥) where
  pub statement_there : x.statement < stmt_count T
  unfolding stmt_at
  statement_there = ltb-true x.statement (stmt_count T) (there (ltb x.statement (stmt_count T)) T m page x _ g)

  of_kind : perform T m page x (stmt_at T x.statement)
      ≡ perform T m page x (statement_of (stmt_kind T x.statement) (stmt_a T x.statement) (stmt_b T x.statement) (stmt_c T x.statement) (stmt_d T x.statement) (stmt_link T x.statement))
  unfolding stmt_at
  of_kind = rw (lt-ltb x.statement (stmt_count T) statement_there)

  pub performs_skip : stmt_kind T x.statement ≡ 0 → perform T m page x (stmt_at T x.statement) ≡ go_on T m page x m
  unfolding statement_of perform
  performs_skip e = of_kind ∙ rw (e)

  pub performs_assign : stmt_kind T x.statement ≡ 1
      → perform T m page x (stmt_at T x.statement) ≡ do_assign T m page x (stmt_a T x.statement) (stmt_b T x.statement)
  unfolding statement_of perform
  performs_assign e = of_kind ∙ rw (e)

  pub performs_local : stmt_kind T x.statement ≡ 2
      → perform T m page x (stmt_at T x.statement) ≡ do_local_call T m page x (stmt_a T x.statement) (stmt_c T x.statement) (stmt_d T x.statement)
  unfolding statement_of perform
  performs_local e = of_kind ∙ rw (e)

  pub performs_process : stmt_kind T x.statement ≡ 3
      → perform T m page x (stmt_at T x.statement)
      ≡ do_process_call T m page x (stmt_a T x.statement) (stmt_b T x.statement) (stmt_c T x.statement) (stmt_d T x.statement)
  unfolding statement_of perform
  performs_process e = of_kind ∙ rw (e)

  pub performs_create : stmt_kind T x.statement ≡ 4
      → perform T m page x (stmt_at T x.statement) ≡ do_create T m page x (stmt_a T x.statement)
  unfolding statement_of perform
  performs_create e = of_kind ∙ rw (e)

  pub performs_start : stmt_kind T x.statement ≡ 5
      → perform T m page x (stmt_at T x.statement) ≡ do_start T m page x (stmt_a T x.statement) (stmt_c T x.statement) (stmt_d T x.statement)
  unfolding statement_of perform
  performs_start e = of_kind ∙ rw (e)

  pub performs_if : stmt_kind T x.statement ≡ 6 → perform T m page x (stmt_at T x.statement) ≡ do_opener T m page x if
  unfolding statement_of perform
  performs_if e = of_kind ∙ rw (e)

  pub performs_while : stmt_kind T x.statement ≡ 7 → perform T m page x (stmt_at T x.statement) ≡ do_opener T m page x while
  unfolding statement_of perform
  performs_while e = of_kind ∙ rw (e)

  pub performs_when : stmt_kind T x.statement ≡ 8 → perform T m page x (stmt_at T x.statement) ≡ do_opener T m page x when
  unfolding statement_of perform
  performs_when e = of_kind ∙ rw (e)

  pub performs_cycle : stmt_kind T x.statement ≡ 9 → perform T m page x (stmt_at T x.statement) ≡ do_opener T m page x cycle
  unfolding statement_of perform
  performs_cycle e = of_kind ∙ rw (e)

  pub performs_arm : stmt_kind T x.statement ≡ 10 → perform T m page x (stmt_at T x.statement) ≡ do_end T m page x
  unfolding statement_of perform
  performs_arm e = of_kind ∙ rw (e)

  pub performs_end : stmt_kind T x.statement ≡ 11 → perform T m page x (stmt_at T x.statement) ≡ do_end T m page x
  unfolding statement_of perform
  performs_end e = of_kind ∙ rw (e)

  pub performs_write : stmt_kind T x.statement ≡ 12
      → perform T m page x (stmt_at T x.statement) ≡ do_write T m page x (stmt_a T x.statement) (stmt_b T x.statement)
  unfolding statement_of perform
  performs_write e = of_kind ∙ rw (e)

  pub performs_block_end : stmt_kind T x.statement ≡ 13 → perform T m page x (stmt_at T x.statement) ≡ do_block_end T m page x
  unfolding statement_of perform
  performs_block_end e = of_kind ∙ rw (e)

-- what a statement has left, as a step
module _ (T : Table) (s d s1 d1 : List ℕ) (x : Context) where
  pub stepped : (a : ℕ) (m page : Memory)
      → perform T (memory_of s) (memory_of d) x (stmt_at T x.statement) ≡ ok (effect a m page)
      → Becomes s1 m → Changed page_words d1 page → Stepped a s1 d1 (statement_step T (memory_of s) (memory_of d) x)
  unfolding statement_step settled
  stepped a m page e i j =
      record {
        long = i.long;
        wide = j.long;
        is = rw (e, i.is, j.is);
      }

  pub stepped_fail : (n r : ℕ) → perform T (memory_of s) (memory_of d) x (stmt_at T x.statement) ≡ fail n
      → r ≡ n → Becomes s1 (update (memory_of s) failure_at n) → length d ≡ page_size
      → Stepped r s1 d (statement_step T (memory_of s) (memory_of d) x)
  unfolding statement_step settled
  stepped_fail n r e k i j =
      record {
        long = i.long;
        wide = j;
        is = rw (e, k, i.is);
      }

pub marked : (n r v : ℕ) (s s1 : List ℕ) → r ≡ n → v ≡ r → Becomes s1 (update (memory_of s) failure_at v)
    → Becomes s1 (update (memory_of s) failure_at n)
marked n r v s s1 e k i = rw (k, e) at i

-- ---- the laws of `fail_by`
failure_small : (n : ℕ) → is_failure n ≡ true → n < 256
unfolding is_failure
failure_small n e =
    either_case (between 16 24 n) (eqb n 31) e
    (λ h. let q = range_high 16 24 n h in omega arith)
    (λ h. let q = eqb-true n 31 h in omega arith)

pub failure_fits : (r v : ℕ) → v ≡ r - 65536 → is_failure (r - 65536) ≡ true → Fits w8 v
failure_fits r v h e = let l = failure_small (r - 65536) e in record { fits = omega arith }
