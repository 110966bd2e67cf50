use borrow.Author.Rules.{rules}
use Rattle.values.proofs.Values.{fieldwalks, elementwalks}
use Rattle.values.proofs.Heading.{values}
use Rattle.values.proofs.holding.+hold.Goals.{fields_hold-then-x-f-via-then-x-f, fields_hold-then-x-f-via-else-x-f+then-not-value_holds}
use Rattle.values.proofs.holding.+hold.Goals as goal

pub elements_hold-loop-i-preserved : goal.elements_hold-loop-i-preserved
elements_hold-loop-i-preserved t c = search elementwalks

pub fields_hold-loop-i-init : goal.fields_hold-loop-i-init
fields_hold-loop-i-init t c = search fieldwalks

pub fields_hold-returns-then-x-f : goal.fields_hold-returns-then-x-f
fields_hold-returns-then-x-f t c = elim c.then-x-f.branch [
  | fields_hold-then-x-f-via-then-x-f w ↦ search fieldwalks
  | fields_hold-then-x-f-via-else-x-f+then-not-value_holds w ↦ search fieldwalks
]

pub fields_hold-loop-i-preserved : goal.fields_hold-loop-i-preserved
fields_hold-loop-i-preserved t c = search fieldwalks

pub value_holds-fields_hold-requires : goal.value_holds-fields_hold-requires
value_holds-fields_hold-requires t c = search (values, rules)

pub value_holds-elements_hold-requires : goal.value_holds-elements_hold-requires
value_holds-elements_hold-requires t c = search (values, rules)
