-- What the runs of programs come to, by computation. Assumes nothing.
use Prim.Native.Nat.{ℕ}
use mathlib.Core.Bool.{Bool}
use mathlib.Core.List.{List, []}
use Rattle.basics.specs.Choice
use Rattle.basics.specs.Course
use Rattle.words.specs.Numbers
use Rattle.words.specs.Operators
use Rattle.words.specs.Types as Standard
use Rattle.words.specs.Devices
use Rattle.table.specs.Table.{Table}
use Rattle.table.specs.Entries as table
use Rattle.types.specs.Types as nodes
use Rattle.types.specs.Match as types
use Rattle.sizes.specs.Sizes
use Rattle.machine.specs.Memory
use Rattle.machine.specs.Layout
use Rattle.machine.specs.Marks
use Rattle.machine.specs.Texts
use Rattle.machine.specs.Outcomes
use Rattle.machine.specs.Entries
use Rattle.machine.specs.Variables
use Rattle.machine.specs.Context
use Rattle.machine.specs.Space
use Rattle.machine.specs.Operands
use Rattle.machine.specs.Calls
use Rattle.machine.specs.Processes
use Rattle.machine.specs.Statements
use Rattle.machine.specs.Step
use Rattle.machine.specs.Run
use Rattle.machine.specs.Values
use Rattle.machine.specs.Rule
use Rattle.machine.specs.Public

-- ---- runs

-- a run of a schedule from begin with a number, over a page; unfolding it unfolds the whole definition
unfoldable pub run_with : ℕ → Table → Memory.Memory → List ℕ → Run.Run
unfolding Choice.both Choice.either Choice.all_below Course.upto Course.course table.declared types.offset types.span types.elements types.is_string nodes.number_of nodes.evened types.is_text types.characters types.same_number types.matching types.is_equal Texts.fit Texts.text_at Sizes.sum_below Sizes.fields_words Sizes.type_words Sizes.words_of Sizes.part_words Sizes.offset_in Sizes.var_offset Sizes.module_words Numbers.between_z Operators.ranged Operators.add_w Operators.sub_w Operators.neg_w Operators.mul_w Operators.div_w Operators.mod_w Operators.lt_w Operators.le_w Operators.not_b Operators.and_b Operators.or_b Standard.lowest Standard.highest Standard.in_type Standard.transfer_w Devices.is_device Devices.position_of Memory.update Memory.within Memory.store Memory.clear Memory.words_at Memory.zeros Layout.location Layout.record_at Layout.link_at Outcomes.is_failure Outcomes.and_then Outcomes.need Outcomes.fail_where Outcomes.placed Outcomes.valued Outcomes.typed_words Outcomes.on_place Outcomes.on_value Outcomes.on_typed Outcomes.word_of Outcomes.on_word Entries.type_at Entries.unary_at Entries.binary_at Entries.node_of Entries.node_at Entries.waits Entries.repeats Entries.statement_of Entries.stmt_at Variables.var_words Variables.first_words Variables.frame_words Variables.offset_of Variables.belongs Variables.is_module Variables.is_procedure Variables.known_type Variables.known_at Variables.type_exists Variables.fits Context.block_of Context.context_of Context.contextual Operands.one_word Operands.truth Operands.given Operands.same Operands.device_word Operands.unary_value Operands.ordered Operands.integral Operands.logical Operands.binary_value Operands.on_record Operands.on_array Operands.outside Operands.place_at Operands.field_place Operands.element_place Operands.module_variable Operands.frame_variable Operands.whole_place Operands.node_operand Operands.operand_at Operands.operand Space.call_words Space.is_procedure_of Space.each_once Space.reserve Space.own_words Space.own_after Space.space_full Calls.standing Calls.passed Calls.value_argument Calls.var_argument Calls.argument Calls.argument_words Calls.arguments Calls.frame Calls.top_after Calls.pushed Calls.call Calls.popped Calls.returns Calls.return Processes.on_module Processes.on_process Processes.refers Processes.on_reference Processes.created Processes.started Statements.on_arms Statements.on_opener Statements.end_of Statements.go_to Statements.go_on Statements.wait Statements.moved Statements.do_assign Statements.do_local_call Statements.can_serve Statements.do_process_call Statements.do_create Statements.do_start Statements.choose Statements.chosen Statements.do_opener Statements.do_end Statements.do_write Statements.do_block_end Statements.perform Step.settled Choice.between Step.answers_only Step.performs Step.proceeds Step.exists Step.turn Step.step Run.initial_state Run.begin Marks.bit_of Marks.put_bit Marks.mark_word Marks.marked Marks.set_mark Marks.set_marks Marks.all_marked Memory.fill Operands.retrieved Calls.frame_marked Rule.run_ok Public.word_there Run.on_done Run.before Run.run Values.some_below Values.type_holds Values.holds_at Values.nowhere Values.holds Values.part_in Values.part_at Values.part Values.part_of_variable Values.part_of_block table.stmt_limit Rule.lies_in Rule.calls Rule.is_created Rule.owns Rule.lives Rule.worked Rule.holds_on Rule.works_by Rule.may_wait Rule.module_holds Rule.modules_hold Rule.frame_holds Rule.frames_hold Rule.frame_ok Rule.chain Rule.module_ok Rule.started_ok Rule.process_ok Rule.failure_ok Rule.rule Public.visible Public.look
run_with number T page schedule = Run.run T schedule (Run.begin T number) page

-- with variables that begin as 0
unfoldable pub run_on : Table → Memory.Memory → List ℕ → Run.Run
unfolding run_with
run_on T page schedule = run_with 1 T page schedule

unfoldable pub answers_of : Run.Run → List ℕ
answers_of (Run.ran l m page) = l
answers_of Run.stuck = []

unfoldable pub state_of : Run.Run → Memory.Memory
state_of (Run.ran l m page) = m
state_of Run.stuck = Memory.zeros

unfoldable pub page_of : Run.Run → Memory.Memory
page_of (Run.ran l m page) = page
page_of Run.stuck = Memory.zeros

-- the answers of a run from begin over zeroed device words; a run that is stuck has none
unfoldable pub answers : Table → List ℕ → List ℕ
unfolding run_on answers_of
answers T schedule = answers_of (run_on T Memory.zeros schedule)

-- the device word that such a run leaves at an address, where d is 8,192 more than it, halved
unfoldable pub device : Table → List ℕ → ℕ → ℕ
unfolding run_on page_of
device T schedule d = page_of (run_on T Memory.zeros schedule) d

-- what look gives after such a run
unfoldable pub looks : Table → List ℕ → ℕ → ℕ → ℕ → ℕ
unfolding run_on state_of
looks T schedule p v k = Public.look T (state_of (run_on T Memory.zeros schedule)) p v k

-- the state that such a run leaves meets its rule
unfoldable pub keeps : Table → List ℕ → Bool
unfolding run_on state_of
keeps T schedule = Rule.rule T (state_of (run_on T Memory.zeros schedule))

-- of a run from begin with 0: its answers, and what look gives after it (02, g)
unfoldable pub answers_unset : Table → List ℕ → List ℕ
unfolding run_with answers_of
answers_unset T schedule = answers_of (run_with 0 T Memory.zeros schedule)

unfoldable pub looks_unset : Table → List ℕ → ℕ → ℕ → ℕ → ℕ
unfolding run_with state_of
looks_unset T schedule p v k = Public.look T (state_of (run_with 0 T Memory.zeros schedule)) p v k
