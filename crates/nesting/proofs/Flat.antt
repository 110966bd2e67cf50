-- The laws of the answers, in the form that `search` takes. Assumes nothing.
use mathlib.Core.Path.{◌≡◌, refl, sym, ap, ◌∙◌}
use mathlib.Core.Bool.{Bool, true, false}
use mathlib.Core.Logic.{◌⊎◌, inl, inr}
use Prim.Native.Nat.{ℕ, zero, suc, ◌+◌, ◌-◌, ◌*◌, ◌<◌, ◌≤◌}
use native.Mathlib.Numerals.{add-one}
use native.Mathlib.Omega.{arith}
use lib.Dec.{eqb}
use borrow.Author.Tests.{le-leb, lt-leb, lt-ltb, le-ltb, eq-eqb, ne_eqb}
use Rattle.std.specs.Prelude.{Option, None, Some}
use Rattle.basics.specs.Choice.{pick}
use Rattle.basics.specs.Loops.{Chain}
use Rattle.table.specs.Table.{Table}
use Rattle.table.specs.Entries.{block_count, first_stmt, stmt_count, stmt_kind, stmt_link}
use Rattle.nesting.specs.Nest.{class_of, class, stmt_end, body_from, arm_end, arms_from, closed, body_end, arms_end, block_end, block_ok, after_block, nested}
use Rattle.nesting.specs.Grammar.{StatementSpan, Arm}
use Rattle.nesting.specs.Ends.{number_of, answer, ClassIs, BodyEnds, ArmsEnds, ArmEnds, StmtEnds, BodyRest, ArmsRest}
use Rattle.nesting.specs.declared.Class.{Class}
use Rattle.nesting.specs.declared.Class.TheVariants as class
use Rattle.basics.proofs.Chains.{chain_none, chain_more, chain_fail, chain_all}
use Rattle.table.specs.Reading.{Field}
use Rattle.nesting.proofs.Grammar.{within, stmt_is, arm_is, arms_sound, body_sound, stmt_up, stmt_in, arm_up, arm_in}

-- what an answer says of its number
answer_some : (n k : ℕ) → Some k ≡ answer n → n ≡ k
answer_some zero k e = cc
answer_some (suc n) k e = cc

answer_above : (n k : ℕ) → Some k ≡ answer n → k ≡ 0 → ⊥
answer_above zero k e z = cc
answer_above (suc n) k e z = let q = answer_some (suc n) k e in omega arith

answer_none : (n : ℕ) → None ≡ answer n → n ≡ 0
answer_none zero e = refl
answer_none (suc n) e = cc

answer_next : (i : ℕ) → Some (i + 1) ≡ answer (i + 1)
answer_next i = rw (add-one i)

no_choice : (b : Bool) → None ≡ answer (pick b 0 0)
no_choice true = refl
no_choice false = refl

-- two classes have two numbers
abbrev numbered : ℕ → Class
numbered zero = class.Simple
numbered (suc zero) = class.Opener
numbered (suc (suc zero)) = class.Arm
numbered (suc (suc (suc zero))) = class.End
numbered (suc (suc (suc (suc zero)))) = class.BlockEnd
numbered (suc (suc (suc (suc (suc n))))) = class.Missing

again : (c : Class) → numbered (number_of c) ≡ c
again class.Simple = refl
again class.Opener = refl
again class.Arm = refl
again class.End = refl
again class.BlockEnd = refl
again class.Missing = refl

apart : (c d : Class) → (c ≡ d → ⊥) → number_of c ≡ number_of d → ⊥
apart c d e z = e (sym (again c) ∙ ap numbered z ∙ again d)

module _ (T : Table) (i : ℕ) where
  pub stmt_simple : ClassIs T i class.Simple → StmtEnds T i (Some (i + 1))
  unfolding stmt_end
  stmt_simple k = record { is = λ f h. rw (← k.is) (answer_next i) }

  pub stmt_group : (r : Option ℕ) → ClassIs T i class.Opener → ArmsEnds T i (i + 1) r → StmtEnds T i r
  unfolding stmt_end
  stmt_group r k a = record { is = λ f h. rw (← k.is) (a.is f (omega (arith, within T i (omega (arith, k.is))))) }

  pub stmt_none : (c : Class) → ClassIs T i c → (c ≡ class.Simple → ⊥) → (c ≡ class.Opener → ⊥) → StmtEnds T i None
  unfolding stmt_end
  stmt_none c k e g = record { is = λ f h. rw (← k.is, ne_eqb (number_of c) 0 (apart c class.Simple e), ne_eqb (number_of c) 1 (apart c class.Opener g)) }

  pub arm_not : (c : Class) → ClassIs T i c → (c ≡ class.Arm → ⊥) → ArmEnds T i None
  unfolding arm_end
  arm_not c k e = record { is = λ f h. rw (← k.is, ne_eqb (number_of c) 2 (apart c class.Arm e)) }

  module _ (k : ClassIs T i class.Arm) where
    body_fits : (f : ℕ) → stmt_count T - i ≤ f → stmt_count T - (i + 1) < f
    body_fits f h = omega (arith, within T i (omega (arith, k.is)))

    pub arm_empty : BodyEnds T (i + 1) None → ArmEnds T i None
    unfolding arm_end
    arm_empty b = record { is = λ f h. rw (← k.is, answer_none _ (b.is f (body_fits f h))) (no_choice (eqb (stmt_link T i) 0)) }

    module _ (j l : ℕ) (b : BodyEnds T (i + 1) (Some j)) (m : l ≡ stmt_link T i) where
      pub arm_linked : l ≡ j → ArmEnds T i (Some j)
      unfolding arm_end
      arm_linked e = record {
        is = λ f h. let g = b.is f (body_fits f h) in let q = answer_some (body_end f T (i + 1)) j g in rw (← k.is, ← m, q, eq-eqb l j e) (rw q at g);
      }

      pub arm_unlinked : (l ≡ j → ⊥) → ArmEnds T i None
      unfolding arm_end
      arm_unlinked e = record { is = λ f h. rw (← k.is, ← m, answer_some (body_end f T (i + 1)) j (b.is f (body_fits f h)), ne_eqb l j e) }

module _ (T : Table) (i : ℕ) where
  body_none : StmtEnds T i None → BodyEnds T i None
  unfolding body_end body_from
  body_none s = record { is = λ f h. go f h }
    where
      go : (f : ℕ) → stmt_count T - i < f → None ≡ answer (body_end f T i)
      go zero h = refl
      go (suc f) h = rw (answer_none _ (s.is f (omega arith)))

  module _ (j : ℕ) (s : StmtEnds T i (Some j)) where
    stmt_at : (f : ℕ) → stmt_count T - i ≤ f → stmt_end T i (arms_end f T i (i + 1)) ≡ j
    stmt_at f h = answer_some _ j (s.is f h)

    stmt_above : j ≡ 0 → ⊥
    stmt_above = answer_above _ j (s.is (stmt_count T) (omega arith))

    stmt_of : StatementSpan T i j
    stmt_of =
        let g = stmt_at (stmt_count T) (omega arith) in
        rw g at (stmt_is T i (arms_end (stmt_count T) T i (i + 1)) (λ x. stmt_above (sym g ∙ x)) (arms_sound T (stmt_count T) i (i + 1)))

    stmt_moves : i < j
    stmt_moves = stmt_up T stmt_of

    stmt_inside : i < stmt_count T
    stmt_inside = stmt_in T stmt_of

    body_stop : 2 ≤ class T j → BodyEnds T i (Some j)
    unfolding body_end body_from
    body_stop e = record { is = λ f h. go f h }
      where
        go : (f : ℕ) → stmt_count T - i < f → Some j ≡ answer (body_end f T i)
        go zero h = absurd (omega arith)
        go (suc f) h = let g = stmt_at f (omega arith) in rw (g, ne_eqb j 0 stmt_above, le-leb 2 (class T j) e) (rw g at (s.is f (omega arith)))

    body_goes : (r : Option ℕ) → class T j < 2 → BodyEnds T j r → BodyEnds T i r
    unfolding body_end body_from
    body_goes r e b = record { is = λ f h. go f h }
      where
        go : (f : ℕ) → stmt_count T - i < f → r ≡ answer (body_end f T i)
        go zero h = absurd (omega arith)
        go (suc f) h = rw (stmt_at f (omega arith), ne_eqb j 0 stmt_above, lt-leb 2 (class T j) e) (b.is f (omega (arith, stmt_moves, stmt_inside)))

  module _ (o : ℕ) where
    arms_none : ArmEnds T i None → ArmsEnds T o i None
    unfolding arms_end arms_from
    arms_none s = record { is = λ f h. go f h }
      where
        go : (f : ℕ) → stmt_count T - i < f → None ≡ answer (arms_end f T o i)
        go zero h = refl
        go (suc f) h = rw (answer_none _ (s.is f (omega arith)))

  module _ (j : ℕ) (s : ArmEnds T i (Some j)) where
    arm_at : (f : ℕ) → stmt_count T - i ≤ f → arm_end T i (body_end f T (i + 1)) ≡ j
    arm_at f h = answer_some _ j (s.is f h)

    arm_above : j ≡ 0 → ⊥
    arm_above = answer_above _ j (s.is (stmt_count T) (omega arith))

    arm_of : Arm T i j
    arm_of =
        let g = arm_at (stmt_count T) (omega arith) in
        rw g at (arm_is T i (body_end (stmt_count T) T (i + 1)) (λ x. arm_above (sym g ∙ x)) (body_sound T (stmt_count T) (i + 1)))

    arm_moves : i < j
    arm_moves = arm_up T arm_of

    arm_inside : i < stmt_count T
    arm_inside = arm_in T arm_of

    module _ (o : ℕ) where
      arms_close : (r : Option ℕ) → class T j ≡ 3 → r ≡ answer (closed T o j) → ArmsEnds T o i r
      unfolding arms_end arms_from
      arms_close r e q = record { is = λ f h. go f h }
        where
          go : (f : ℕ) → stmt_count T - i < f → r ≡ answer (arms_end f T o i)
          go zero h = absurd (omega arith)
          go (suc f) h = rw (arm_at f (omega arith), ne_eqb j 0 arm_above, e) q

      arms_next : (r : Option ℕ) → (class T j ≡ 3 → ⊥) → ArmsEnds T o j r → ArmsEnds T o i r
      unfolding arms_end arms_from
      arms_next r e b = record { is = λ f h. go f h }
        where
          go : (f : ℕ) → stmt_count T - i < f → r ≡ answer (arms_end f T o i)
          go zero h = absurd (omega arith)
          go (suc f) h = rw (arm_at f (omega arith), ne_eqb j 0 arm_above, ne_eqb (class T j) 3 e) (b.is f (omega (arith, arm_moves, arm_inside)))

-- what a call asks: a number is low, a measure falls
module _ (T : Table) (i : ℕ) where
  module _ (m : ℕ) (g : 2 * (stmt_count T - i) ≡ m) where
    pub falls_stmt_arms : ClassIs T i class.Opener → 2 * (stmt_count T - (i + 1)) + 1 < m
    falls_stmt_arms k = let h = within T i (omega (arith, k.is)) in omega arith

    pub falls_arm_body : ClassIs T i class.Arm → 2 * (stmt_count T - (i + 1)) + 1 < m
    falls_arm_body k = let h = within T i (omega (arith, k.is)) in omega arith

-- the class of a statement
module _ (T : Table) (i n : ℕ) (h : Field (stmt_count T) n) where
  pub class_known : (k : ℕ) (r : Class) → i < n → k ≡ stmt_kind T i → number_of r ≡ class_of k → ClassIs T i r
  unfolding class
  class_known k r l e g = record { is = rw (← h.is, lt-ltb i n l, ← e) g; small = λ q. omega (arith, h.small) }

  pub class_missing : n ≤ i → ClassIs T i class.Missing
  unfolding class
  class_missing l = record { is = rw (← h.is, le-ltb i n l); small = λ q. absurd (omega arith) }

-- the loop over a body
module _ (T : Table) (i : ℕ) where
  module _ (j : ℕ) (g : BodyRest T i j) where
    pub body_fails : StmtEnds T j None → BodyEnds T i None
    body_fails s = g.goes None (body_none T j s)

    module _ (k : ℕ) (s : StmtEnds T j (Some k)) where
      pub body_stops : (c : Class) → ClassIs T k c → (c ≡ class.Arm) ⊎ (c ≡ class.End) ⊎ (c ≡ class.BlockEnd) ⊎ (c ≡ class.Missing) → BodyEnds T i (Some k)
      body_stops c h e = g.goes (Some k) (body_stop T j k s (high e))
        where
          at : (d : Class) → c ≡ d → number_of d ≡ class T k
          at d q = let z : ClassIs T k d = rw q at h in z.is

          high : (c ≡ class.Arm) ⊎ (c ≡ class.End) ⊎ (c ≡ class.BlockEnd) ⊎ (c ≡ class.Missing) → 2 ≤ class T k
          high (inl q) = omega (arith, at class.Arm q)
          high (inr (inl q)) = omega (arith, at class.End q)
          high (inr (inr (inl q))) = omega (arith, at class.BlockEnd q)
          high (inr (inr (inr q))) = omega (arith, at class.Missing q)

      pub body_more : (c : Class) → ClassIs T k c → (c ≡ class.Simple) ⊎ (c ≡ class.Opener) → BodyRest T i k
      body_more c h e = record { up = omega (arith, g.up, stmt_moves T j k s); goes = λ r b. g.goes r (body_goes T j k s r (low e) b) }
        where
          low : (c ≡ class.Simple) ⊎ (c ≡ class.Opener) → class T k < 2
          low (inl q) = let z : ClassIs T k class.Simple = rw q at h in omega (arith, z.is)
          low (inr q) = let z : ClassIs T k class.Opener = rw q at h in omega (arith, z.is)

pub body_less : (T : Table) (j k : ℕ) → StmtEnds T j (Some k) → stmt_count T - k < stmt_count T - j
body_less T j k s = omega (arith, stmt_moves T j k s, stmt_inside T j k s)

-- the loop over arms
module _ (T : Table) (o i : ℕ) where
  module _ (j : ℕ) (g : ArmsRest T o i j) where
    pub arms_fail : ArmEnds T j None → ArmsEnds T o i None
    arms_fail s = g.goes None (arms_none T j o s)

    module _ (k : ℕ) (s : ArmEnds T j (Some k)) where
      pub arms_stop : (r : Option ℕ) → ClassIs T k class.End → r ≡ answer (closed T o k) → ArmsEnds T o i r
      arms_stop r h q = g.goes r (arms_close T j k s o r (sym h.is) q)

      pub arms_more : (c : Class) → ClassIs T k c → (c ≡ class.End → ⊥) → ArmsRest T o i k
      arms_more c h e = record { up = omega (arith, g.up, arm_moves T j k s); goes = λ r b. g.goes r (arms_next T j k s o r (λ z. apart c class.End e (h.is ∙ z)) b) }

pub arms_less : (T : Table) (j k : ℕ) → ArmEnds T j (Some k) → stmt_count T - k < stmt_count T - j
arms_less T j k s = omega (arith, arm_moves T j k s, arm_inside T j k s)

-- a block
module _ (T : Table) (b j v : ℕ) (l : v ≡ first_stmt T b) where
  pub block_apart : (v ≡ j → ⊥) → None ≡ answer (block_end T b j)
  unfolding block_end
  block_apart e = rw (← l, ne_eqb v j e)

  module _ (e : v ≡ j) where
    pub block_empty : BodyEnds T j None → None ≡ answer (block_end T b j)
    unfolding block_end
    block_empty q = rw (← l, eq-eqb v j e, answer_none _ (q.is (stmt_count T + 1) (omega arith)))

    pub block_done : (x : ℕ) → BodyEnds T j (Some x) → (r : Option ℕ) → r ≡ answer (after_block T b x) → r ≡ answer (block_end T b j)
    unfolding block_end
    block_done x q r g =
        let s = q.is (stmt_count T + 1) (omega arith) in
        rw (← l, eq-eqb v j e, answer_some (body_end (stmt_count T + 1) T j) x s, ne_eqb x 0 (answer_above _ x s)) g

-- the loop over the blocks
module _ (T : Table) (b j : ℕ) (c : Chain (block_end T) (block_ok T) b j) where
  pub blocks_more : (e : ℕ) → Some e ≡ answer (block_end T b j) → Chain (block_end T) (block_ok T) (b + 1) e
  unfolding block_ok
  blocks_more e l =
      let q = answer_some (block_end T b j) e l in
      chain_more (block_end T) (block_ok T) b j c e (rw q (lt-ltb 0 e (let u = answer_above (block_end T b j) e l in omega arith))) (sym q)

  pub blocks_fail : (n : ℕ) → None ≡ answer (block_end T b j) → n ≡ block_count T → b < n → false ≡ nested T
  unfolding nested block_ok
  blocks_fail n l g h = rw (← g) (chain_fail (block_end T) (block_ok T) b j c n (stmt_count T) h (rw (answer_none (block_end T b j) l)))

  pub blocks_all : (n v : ℕ) → n ≡ block_count T → b ≤ n → n ≤ b → v ≡ stmt_count T → eqb j v ≡ nested T
  unfolding nested
  blocks_all n v g h m e = rw (← g, e) (chain_all (block_end T) (block_ok T) b j c n (stmt_count T) h m)

pub blocks_none : (T : Table) → Chain (block_end T) (block_ok T) 0 0
blocks_none T = chain_none (block_end T) (block_ok T)

pub ruleset statements = (stmt_simple, stmt_group, falls_stmt_arms)

pub ruleset arms = (arm_empty, arm_linked, arm_unlinked, falls_arm_body)

pub ruleset blocks = (block_apart, block_empty, block_done)

pub ruleset rounds = (blocks_more, blocks_fail, blocks_all)
