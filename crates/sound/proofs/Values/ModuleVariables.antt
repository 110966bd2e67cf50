-- The variables of a module, and of block 0, have all their words in their area. Assumes nothing.
use Prim.Native.Nat.{ℕ, ◌+◌, ◌≤◌, ◌<◌}
use mathlib.Core.Path.{◌≡◌}
use native.Mathlib.Omega.{arith}
use lib.Dec.{eqb, ltb}
use borrow.Author.Tests.{eqb-true, eqb-false, ltb-true, ltb-false}
use Rattle.basics.specs.Cases.{cases}
use Rattle.table.specs.Table.{Table}
use Rattle.table.specs.Entries.{block_count, var_mode, var_type, block_kind, first_var, params, vars}
use Rattle.sizes.specs.Sizes.{words_of, var_offset, module_words}
use Rattle.sizes.proofs.Sums.{sum_same}
use Rattle.sizes.proofs.Promise.{module_most}
use Rattle.numbers.proofs.BlockPromise.{mode_local, no_program, program_params}
use Rattle.typing.proofs.Promise.{module_param}
use Rattle.machine.specs.Variables.{var_words, first_words, frame_words}
use Rattle.verdict.specs.Accepted.{Accepted}
use Rattle.sound.proofs.Values.BlockVariables.{words_value}

module _ (T : Table) (ok : Accepted T) (b : ℕ) (l : b < block_count T) (k : block_kind T b ≤ 1) where
  pub module_plain : (i : ℕ) → i < vars T b → var_mode T (first_var T b + i) ≡ 2 → ⊥
  module_plain i g e =
      cases (ltb i (params T b))
      (λ q. let h = ltb-true i (params T b) q in
      cases (eqb b 0)
      (λ z. let x : params T b ≡ 0 = rw (eqb-true b 0 z) (program_params T ok.numbers) in omega arith)
      (λ z. let x = no_program T ok.numbers b l (eqb-false b 0 z) in let y = module_param T ok.types b l (omega arith) i h in omega arith))
      (λ q. let h = ltb-false i (params T b) q in let y = mode_local T ok.numbers b l i h g in omega arith)

  pub module_variables : frame_words T b ≡ module_words T b
  unfolding frame_words module_words first_words var_offset
  module_variables = sum_same (λ i. var_words T (first_var T b + i)) (λ i. words_of T (var_type T (first_var T b + i))) (vars T b) (λ i g. words_value T (first_var T b + i) (module_plain i g))

  pub module_fits : frame_words T b ≤ 256
  module_fits = rw module_variables (module_most T ok.sizes b l k)
