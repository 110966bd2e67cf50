-- The marks of the modules that process types name. Assumes nothing.
use Prim.Native.Nat.{ℕ, ◌+◌, ◌≤◌, ◌<◌, min}
use mathlib.Core.Path.{◌≡◌, ap, ◌∙◌}
use mathlib.Core.List.{List}
use lib.ListN.{length, get_or, replicate, length-replicate, get_or-replicate}
use lib.Dec.{eqb, leb}
use borrow.Author.Tests.{leb-true, leb-false, le-leb, lt-leb}
use native.Mathlib.Omega.{arith}
use Rattle.basics.specs.Cases.{cases}
use Rattle.basics.specs.Marks.{occurs, gather}
use Rattle.basics.specs.Loops.{with_mark, MarksOf}
use Rattle.basics.proofs.Marking.{length_marked, seen_zeros, seen_more, gather_more}
use Rattle.table.specs.Table.{Table}
use Rattle.table.specs.Entries.{type_kind, type_p, type_count, block_count}
use Rattle.numbers.specs.Declarations.{module_of, named_modules, named_once}
use Rattle.numbers.specs.Marking.{Clear, ModuleMarks, module_marked}

-- an array of zeros that is long enough
pub clear_zeros : (T : Table) (n : ℕ) → block_count T ≤ n → Clear T (replicate n 0)
clear_zeros T n h =
    record {
      long = rw (length-replicate {A = ℕ} n 0) h;
      clear = λ j l. get_or-replicate {A = ℕ} n j 0 0 (rw (length-replicate {A = ℕ} n 0) at l);
    }

pub named_none : (T : Table) (l : List ℕ) → Clear T l → ModuleMarks T 0 l
unfolding gather
named_none T l c = record { long = c.long; seen = seen_zeros l c.clear }

module _ (T : Table) (i : ℕ) (l : List ℕ) (h : ModuleMarks T i l) where
  module _ (r : List ℕ) (e : r ≡ module_marked T i l) where
    pub same_long : length r ≡ length l
    unfolding module_marked
    same_long =
        cases (eqb (type_kind T (3 + i)) 3)
        (λ q. let g : r ≡ with_mark (type_p T (3 + i)) l = rw q at e in ap length g ∙ length_marked (type_p T (3 + i)) l)
        (λ q. let g : r ≡ l = rw q at e in ap length g)

    seen_next : MarksOf (gather (module_of T) (i + 1)) r
    unfolding module_marked module_of
    seen_next =
        cases (eqb (type_kind T (3 + i)) 3)
        (λ q. rw (gather_more (module_of T) i, e, q) (seen_more (type_p T (3 + i)) (gather (module_of T) i) l h.seen))
        (λ q. rw (gather_more (module_of T) i, e, q) h.seen)

    pub named_more : ModuleMarks T (i + 1) r
    named_more = record { long = omega (arith, same_long, h.long); seen = seen_next }

  pub named_all : (n m : ℕ) → n ≡ m → i ≤ n → n ≤ i → ModuleMarks T m l
  named_all n m e g k = let q : i ≡ m = omega arith in rw (← q) h

pub long_more : (l r l₀ : List ℕ) (T : Table) (i : ℕ) → ModuleMarks T i l → r ≡ module_marked T i l → length l ≡ length l₀ → length r ≡ length l₀
long_more l r l₀ T i h e g = same_long T i l h r e ∙ g

-- a block's mark
module _ (T : Table) (l : List ℕ) (h : ModuleMarks T (type_count T) l) (b : ℕ) (k : b < block_count T) where
  pub mark_room : b < length l
  mark_room = omega (arith, h.long)

  pub mark_once : leb (get_or l b 0) 1 ≡ named_once T b
  unfolding named_once named_modules
  mark_once =
      let e : get_or l b 0 ≡ min (occurs b (gather (module_of T) (type_count T))) 2 = h.seen.marks b mark_room in
      cases (leb (occurs b (gather (module_of T) (type_count T))) 1)
      (λ q. rw q (le-leb (get_or l b 0) 1 (omega (arith, e, leb-true (occurs b (gather (module_of T) (type_count T))) 1 q))))
      (λ q. rw q (lt-leb (get_or l b 0) 1 (omega (arith, e, leb-false (occurs b (gather (module_of T) (type_count T))) 1 q))))

pub ruleset marking = (named_none, named_more, named_all, long_more, mark_room)
