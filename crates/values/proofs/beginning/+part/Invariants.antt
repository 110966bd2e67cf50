use Rattle.std.proofs.Common.{◌+◌, ◌*◌}
use Rattle.code.specs.Code.{decoded}
use Rattle.sizes.specs.Sizes.{offset_in}
use Rattle.values.specs.Walks.{Sought, field_i_begins}
use Rattle.values.proofs.beginning.+part.Given as goal

-- the type number falls: a part has a lower number than the type that it is a part of
abbrev pub decreases-part_begins : goal.decreases-part_begins
decreases-part_begins l = 3 * l.x + 2

abbrev pub decreases-part_of_element : goal.decreases-part_of_element
decreases-part_of_element l = 3 * l.x

abbrev pub decreases-part_of_field : goal.decreases-part_of_field
decreases-part_of_field l = 3 * l.x

abbrev pub decreases-part_of_fields : goal.decreases-part_of_fields
decreases-part_of_fields l = 3 * l.x + 1

abbrev pub invariant-part_of_fields-loop-i : goal.invariant-part_of_fields-loop-i
invariant-part_of_fields-loop-i l = Sought (offset_in (decoded l.c) l.x) (field_i_begins (decoded l.c) l.y l.x l.k) l.i l.at
