use native.Mathlib.Omega.{arith}
use Rattle.states.proofs.Looking.{belongs_last}
use Rattle.states.proofs.belongs_to.Goals as goal

pub returns-then-first-v : goal.returns-then-first-v
returns-then-first-v c = (
  belongs_last _ _ _ _ c.variables.ensures.is c.if-v-variables.false _ c.first_var-first.ensures.is _ c.block_vars.ensures.is c.if-first-v.true,
  λ e. omega (arith, c.variables.ensures.small, c.if-v-variables.false),
)
