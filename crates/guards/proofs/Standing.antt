-- What a statement is carried out with serves each function that takes a part of it. Assumes nothing.
use Prim.Native.Nat.{ℕ, ◌<◌}
use mathlib.Core.Path.{refl}
use mathlib.Core.List.{List}
use native.Mathlib.Omega.{arith}
use Rattle.code.specs.Code.{decoded}
use Rattle.machine.specs.Memory.{memory_of}
use Rattle.machine.specs.Lent.{Changed, State}
use Rattle.machine.specs.Layout.{page_words}
use Rattle.operands.specs.declared.Context.{Context}
use Rattle.operands.specs.Ready.{context_in}
use Rattle.effects.specs.Effects.{Standing}
use Rattle.effects.proofs.Carrying.{statement_there}

module _ (t m p : List ℕ) (x : Context) (h : Standing t m p x) where
  pub stands_lent : State m
  stands_lent = record { long = h.ready.state }

  pub stands_page : Changed page_words p (memory_of p)
  stands_page = record { long = h.ready.page; is = refl }

  pub stands_small : x.statement < 65535
  unfolding context_in
  stands_small =
      let b = statement_there (decoded t) (memory_of m) (memory_of p) (context_in x) h.unstuck in let s = h.statements in omega arith
