use Rattle.std.proofs.Common.{◌+◌, ◌*◌}
use Rattle.code.specs.Code.{decoded}
use Rattle.machine.specs.Memory.{memory_of}
use Rattle.values.specs.Walks.{FieldsTo, ElementsTo}
use Rattle.values.proofs.holding.+hold.Given as goal

-- the type number falls: a part has a lower number than the type that it is a part of
abbrev pub decreases-elements_hold : goal.decreases-elements_hold
decreases-elements_hold l = 2 * l.x

abbrev pub decreases-fields_hold : goal.decreases-fields_hold
decreases-fields_hold l = 2 * l.x

abbrev pub decreases-value_holds : goal.decreases-value_holds
decreases-value_holds l = 2 * l.x + 1

abbrev pub invariant-elements_hold-loop-i : goal.invariant-elements_hold-loop-i
invariant-elements_hold-loop-i l = ElementsTo (decoded l.c) (memory_of l.state) l.x l.a l.i l.at

abbrev pub invariant-fields_hold-loop-i : goal.invariant-fields_hold-loop-i
invariant-fields_hold-loop-i l = FieldsTo (decoded l.c) (memory_of l.state) l.x l.a l.i l.at
