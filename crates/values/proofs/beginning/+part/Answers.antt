use Rattle.values.proofs.Parts.{fieldsearches}
use Rattle.values.proofs.beginning.+part.Goals as goal

pub part_of_fields-loop-i-init : goal.part_of_fields-loop-i-init
part_of_fields-loop-i-init t c = search fieldsearches

pub part_of_fields-loop-i-preserved : goal.part_of_fields-loop-i-preserved
part_of_fields-loop-i-preserved t c = search fieldsearches
