use Rattle.guards.proofs.Choosing.{chooses}
use Rattle.guards.proofs.choose.Goals as goal

pub guard-v-requires-clause-evaluable : goal.guard-v-requires-clause-evaluable
guard-v-requires-clause-evaluable c = search chooses

pub guard-v-requires-clause-one_word : goal.guard-v-requires-clause-one_word
guard-v-requires-clause-one_word c = search chooses

pub guard-v-requires-clause-rowed : goal.guard-v-requires-clause-rowed
guard-v-requires-clause-rowed c = search chooses

pub returns-then-v-ne0 : goal.returns-then-v-ne0
returns-then-v-ne0 c = search chooses

pub loop-x-smaller : goal.loop-x-smaller
loop-x-smaller c = search chooses

pub returns : goal.returns
returns c = search chooses
