use native.Mathlib.Omega.{arith}
use Rattle.calls.proofs.Putting.{puts}
use Rattle.calls.proofs.arguments.put_words.Goals as goal

pub loop-j-init : goal.loop-j-init
loop-j-init c = search puts

pub overflow_add-a : goal.overflow_add-a
overflow_add-a c = omega arith

pub word_of-requires : goal.word_of-requires
word_of-requires c = search puts

pub put-count-requires : goal.put-count-requires
put-count-requires c = search puts

pub loop-j-preserved : goal.loop-j-preserved
loop-j-preserved c = search puts

pub shape_of-buffer : goal.shape_of-buffer
shape_of-buffer c = search puts

pub returns : goal.returns
returns c = search puts
