use Rattle.table.proofs.Numbers.{left_out, early_short, early_long, is_whole, rows-fit}
use Rattle.table.proofs.read_section.Goals as goal

pub returns-then-is_left_out : goal.returns-then-is_left_out
returns-then-is_left_out c = search left_out

pub returns-then-part-w : goal.returns-then-part-w
returns-then-part-w c = search early_short

pub overflow_mul-rows : goal.overflow_mul-rows
overflow_mul-rows c = search rows-fit

pub returns-then-part-w-2 : goal.returns-then-part-w-2
returns-then-part-w-2 c = search early_long

pub returns : goal.returns
returns c = search is_whole
