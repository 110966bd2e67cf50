use Rattle.types.proofs.Matching.{matchings}
use Rattle.types.proofs.same_number.Goals as goal

pub returns-then-not-is_string : goal.returns-then-not-is_string
returns-then-not-is_string c = search matchings
