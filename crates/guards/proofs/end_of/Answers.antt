use Rattle.guards.proofs.Linking.{links}
use Rattle.guards.proofs.end_of.Goals as goal

pub loop-j-smaller : goal.loop-j-smaller
loop-j-smaller c = search links

pub returns : goal.returns
returns c = search links
