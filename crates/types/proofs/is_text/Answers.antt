use Rattle.types.proofs.Matching.{matchings}
use Rattle.types.proofs.is_text.Goals as goal

pub returns-else-is_string : goal.returns-else-is_string
returns-else-is_string c = search matchings
