-- What a table that escapes refusal 4 promises of blocks and their variables. Assumes nothing.
use Prim.Native.Nat.{ℕ, ◌+◌, ◌≤◌, ◌<◌}
use mathlib.Core.Path.{◌≡◌, refl}
use mathlib.Core.Bool.{true}
use native.Mathlib.Omega.{arith}
use lib.Dec.{eqb}
use borrow.Author.Tests.{eqb-true, eqb-false, leb-true, ltb-true, lt-ltb, le-ltb, ne_eqb}
use Rattle.basics.specs.Cases.{cases}
use Rattle.basics.specs.Chain.{always}
use Rattle.basics.proofs.Bools.{both_l, both_r, between_true, all-at}
use Rattle.basics.proofs.Takes.{there, apart}
use Rattle.table.specs.Table.{Table}
use Rattle.table.specs.Entries.{var_mode, block_kind, owner, first_var, params, vars, first_stmt, var_count, block_count, stmt_count}
use Rattle.numbers.specs.Blocks.{variables_taken, program_placed, owner_ranged, mode_placed, variables_placed, block_placed, block_ranged}
use Rattle.numbers.specs.Ranges.{in_range}
use Rattle.numbers.proofs.Parts.{variables-taken, some_block, block_row}

module _ (T : Table) (h : in_range T ≡ true) where
  pub program_there : 0 < block_count T
  program_there = omega (arith, some_block T h)

  -- variables of two blocks are apart
  pub vars_apart : (b c : ℕ) → b < c → c < block_count T → first_var T b + vars T b ≤ first_var T c
  unfolding variables_taken always
  vars_apart b c l g = apart always (first_var T) (vars T) (block_count T) (var_count T) (variables-taken T h) b c l g refl refl

  module _ (b : ℕ) (l : b < block_count T) where
    placed : block_placed T b ≡ true
    unfolding block_ranged
    placed = both_l _ _ (block_row T h b l)

    program_row : program_placed T b ≡ true
    unfolding block_placed
    program_row = both_l _ _ placed

    owner_row : owner_ranged T b ≡ true
    unfolding block_placed
    owner_row = both_r _ _ placed

    variables_row : variables_placed T b ≡ true
    unfolding block_ranged
    variables_row = both_r _ _ (both_r _ _ (both_r _ _ (block_row T h b l)))

    pub no_program : (b ≡ 0 → ⊥) → 1 ≤ block_kind T b
    unfolding program_placed
    no_program n = leb-true 1 (block_kind T b) (rw (ne_eqb b 0 n) at program_row)

    pub owner_procedure : block_kind T b ≡ 2 → (owner T b < block_count T) × (block_kind T (owner T b) ≤ 1)
    unfolding owner_ranged
    owner_procedure e = let r = rw e at owner_row in (ltb-true (owner T b) (block_count T) (both_l _ _ r), leb-true (block_kind T (owner T b)) 1 (both_r _ _ r))

    pub owner_self : (block_kind T b ≡ 2 → ⊥) → owner T b ≡ b
    unfolding owner_ranged
    owner_self n = eqb-true (owner T b) b (rw (ne_eqb (block_kind T b) 2 n) at owner_row)

    pub owner_there : owner T b < block_count T
    owner_there =
        cases (eqb (block_kind T b) 2)
        (λ q. (owner_procedure (eqb-true (block_kind T b) 2 q)).0)
        (λ q. let e : owner T b ≡ b = owner_self (eqb-false (block_kind T b) 2 q) in omega arith)

    -- it is a module, or block 0
    pub owner_module : block_kind T (owner T b) ≡ 2 → ⊥
    owner_module e =
        cases (eqb (block_kind T b) 2)
        (λ q. omega (arith, (owner_procedure (eqb-true (block_kind T b) 2 q)).1))
        (λ q. let n = eqb-false (block_kind T b) 2 q in n (rw (owner_self n) at e))

    pub first-stmt : first_stmt T b < stmt_count T
    unfolding block_ranged
    first-stmt = ltb-true (first_stmt T b) (stmt_count T) (both_l _ _ (both_r _ _ (block_row T h b l)))

    pub params_vars : params T b ≤ vars T b
    unfolding variables_placed
    params_vars = leb-true (params T b) (vars T b) (both_l _ _ variables_row)

    pub vars_there : first_var T b + vars T b ≤ var_count T
    unfolding variables_taken always
    vars_there = there always (first_var T) (vars T) (block_count T) (var_count T) (variables-taken T h) b l refl

    mode_row : (j : ℕ) → j < vars T b → mode_placed T b j ≡ true
    unfolding variables_placed
    mode_row j g = all-at (vars T b) (mode_placed T b) (both_r _ _ variables_row) j g

    pub mode_parameter : (j : ℕ) → j < params T b → (1 ≤ var_mode T (first_var T b + j)) × (var_mode T (first_var T b + j) ≤ 2)
    unfolding mode_placed
    mode_parameter j g =
        let m : j < vars T b = omega (arith, params_vars) in
        between_true 1 2 (var_mode T (first_var T b + j)) (rw (lt-ltb j (params T b) g) at (mode_row j m))

    pub mode_local : (j : ℕ) → params T b ≤ j → j < vars T b → var_mode T (first_var T b + j) ≡ 0
    unfolding mode_placed
    mode_local j p g = eqb-true (var_mode T (first_var T b + j)) 0 (rw (le-ltb j (params T b) p) at (mode_row j g))

  -- block 0
  pub program_kind : block_kind T 0 ≡ 0
  unfolding program_placed
  program_kind = eqb-true (block_kind T 0) 0 (both_l _ _ (program_row 0 program_there))

  pub program_params : params T 0 ≡ 0
  unfolding program_placed
  program_params = eqb-true (params T 0) 0 (both_r _ _ (program_row 0 program_there))
