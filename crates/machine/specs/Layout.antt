-- Trusted: public promises are said with these definitions.
-- The layout of a state (01, The four calls: an area and a control record for each of 64 processes). First the areas, 256 words each,
-- then the control records, 20 words each, then a mark for each word of the areas (Marks). Assumes nothing.
use Rattle.std.specs.Prelude.{ℕ, ◌+◌, ◌-◌, ◌*◌}
use Rattle.machine.specs.Memory.{Memory}

-- the words of areas, which are the locations; those of areas and control records, and of marks; all of a state, and its size in bytes
abbrev pub locations : ℕ
locations = 16384

abbrev pub plain_words : ℕ
plain_words = 17664

abbrev pub mark_words : ℕ
mark_words = 1024

abbrev pub state_words : ℕ
state_words = 18688

abbrev pub state_size : ℕ
state_size = 37376

-- the words of a device page, and its size in bytes
abbrev pub page_words : ℕ
page_words = 4096

abbrev pub page_size : ℕ
page_size = 8192

-- word k of the area of process p
unfoldable pub location : ℕ → ℕ → ℕ
location p k = (p - 1) * 256 + k

-- word k of the control record of process p
unfoldable pub record_at : ℕ → ℕ → ℕ
record_at p k = 16384 + (p - 1) * 20 + k

-- 0 not created, 1 created, 2 started, 3 ended
abbrev pub status_at : ℕ → ℕ
status_at p = record_at p 0

-- its block: 0 for process 1, else a process module
abbrev pub module_at : ℕ → ℕ
module_at p = record_at p 1

-- the next statement
abbrev pub statement_at : ℕ → ℕ
statement_at p = record_at p 2

-- where the frame of its innermost call begins in its area
abbrev pub frame_at : ℕ → ℕ
frame_at p = record_at p 3

-- the first free word of its area
abbrev pub top_at : ℕ → ℕ
top_at p = record_at p 4

-- the process whose variables it works on
abbrev pub works_at : ℕ → ℕ
works_at p = record_at p 5

-- the process that holds its variables, 0 for none
abbrev pub holder_at : ℕ → ℕ
holder_at p = record_at p 6

-- the number of its calls that have not ended
abbrev pub depth_at : ℕ → ℕ
depth_at p = record_at p 7

-- in the record of process 1: how many processes are created
abbrev pub created_at : ℕ
created_at = record_at 1 8

-- in the record of process 1: 0, or the number by which the run failed
abbrev pub failure_at : ℕ
failure_at = record_at 1 9

-- in the record of process 1: the number that the run was begun with (02, g). 0: a variable has no value before it is given one; 1: it
-- begins as 0
abbrev pub number_at : ℕ
number_at = record_at 1 10

-- a frame is four words, then the variables of its procedure. Word k of the frame that begins at f in the area of process p:
-- 0 the caller's frame, 1 the call statement, 2 the process that the caller worked on, 3 the procedure
unfoldable pub link_at : ℕ → ℕ → ℕ → ℕ
link_at p f k = location p (f + k)

abbrev pub caller_frame : Memory → ℕ → ℕ → ℕ
caller_frame m p f = m (link_at p f 0)

abbrev pub call_statement : Memory → ℕ → ℕ → ℕ
call_statement m p f = m (link_at p f 1)

abbrev pub caller_works : Memory → ℕ → ℕ → ℕ
caller_works m p f = m (link_at p f 2)

abbrev pub called_block : Memory → ℕ → ℕ → ℕ
called_block m p f = m (link_at p f 3)
