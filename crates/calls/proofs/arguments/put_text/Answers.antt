use native.Mathlib.Omega.{arith}
use Rattle.calls.proofs.Putting.{fills}
use Rattle.calls.proofs.arguments.put_text.Goals as goal

pub loop-j-init : goal.loop-j-init
loop-j-init c = search fills

pub text_word-w-requires : goal.text_word-w-requires
text_word-w-requires c = (search fills, omega arith)

pub put-count-requires : goal.put-count-requires
put-count-requires c = search fills

pub loop-j-preserved : goal.loop-j-preserved
loop-j-preserved c = search fills

pub shape_of-buffer : goal.shape_of-buffer
shape_of-buffer c = search fills

pub returns : goal.returns
returns c = search fills
