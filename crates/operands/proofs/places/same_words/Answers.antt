use Rattle.std.proofs.Common.{rules, ◌+◌, ◌∙◌, refl, ℕ, Bool}
use lib.Dec.{eqb}
use borrow.Author.Tests.{tests}
use Rattle.machine.specs.Memory.{memory_of}
use Rattle.basics.proofs.Ranges.{all_of}
use Rattle.operands.proofs.Standing.{same_is}
use Rattle.operands.proofs.places.same_words.Goals as goal

pub returns : goal.returns
returns c =
    let m = memory_of c.args.state.now in
    let p : ℕ → Bool = λ i. eqb (m (c.args.a + i)) (m (c.args.b + i)) in
    all_of _ _ _ _ p c.all.ensures.ran (cc) (λ x q k. search (rules, tests)) (λ x q k. search (rules, tests)) ∙ same_is m m c.args.a c.args.b c.args.n p (λ i. refl)
