-- The verdict at small tables: the example of 01, and one or two for each refusal. Assumes nothing.
use mathlib.Core.Path.{◌≡◌, refl}
use mathlib.Core.List.{List, [], ◌∷◌, ◌++◌}
use Prim.Native.Nat.{ℕ}
use Rattle.basics.specs.Choice as basicsChoice
use Rattle.basics.specs.Course as basicsCourse
use Rattle.basics.specs.Chain as basicsChain
use Rattle.basics.specs.Marks as basicsMarks
use Rattle.basics.specs.Loops as basicsLoops
use Rattle.table.specs.Bytes as tableBytes
use Rattle.table.specs.Empty as tableEmpty
use Rattle.table.specs.Table as tableTable
use Rattle.table.specs.Entries as tableEntries
use Rattle.table.specs.Kinds as tableKinds
use Rattle.types.specs.Types as typesTypes
use Rattle.types.specs.Match as typesMatch
use Rattle.entries.specs.Known as entriesKnown
use Rattle.numbers.specs.Sorts as numbersSorts
use Rattle.numbers.specs.Declarations as numbersDeclarations
use Rattle.numbers.specs.Blocks as numbersBlocks
use Rattle.numbers.specs.Operands as numbersOperands
use Rattle.numbers.specs.Ranges as numbersRanges
use Rattle.numbers.specs.Marking as numbersMarking
use Rattle.uses.specs.Uses as usesUses
use Rattle.nesting.specs.Nest as nestingNest
use Rattle.nesting.specs.Blocks as nestingBlocks
use Rattle.sizes.specs.Sizes as sizesSizes
use Rattle.sizes.specs.Kept as sizesKept
use Rattle.scopes.specs.Scopes as scopesScopes
use Rattle.typing.specs.Typing as typingTyping
use Rattle.typing.specs.Parts as typingParts
use Rattle.verdict.specs.Verdict.{judged_late, judged_uses, judged, judged_bytes, verdict}

-- the seven sections of a table, each with its count
abbrev table : List ℕ → List ℕ → List ℕ → List ℕ → List ℕ → List ℕ → List ℕ → List ℕ
table types fields variables blocks arguments nodes statements =
    types ++ (fields ++ (variables ++ (blocks ++ (arguments ++ (nodes ++ statements)))))

abbrev none : List ℕ
none = 0 ∷ []

-- a block: kind, owner, first variable, parameters, variables, first statement, space
abbrev block : ℕ → ℕ → ℕ → ℕ → ℕ → ℕ → List ℕ
block kind owner first vars stmt space = kind ∷ owner ∷ first ∷ 0 ∷ vars ∷ stmt ∷ space ∷ 0 ∷ []

-- the program alone, with no variables
abbrev program : List ℕ
program = 1 ∷ block 0 0 0 0 0 0

-- a statement: kind, a, b and link
abbrev stmt : ℕ → ℕ → ℕ → ℕ → List ℕ
stmt kind a b link = kind ∷ a ∷ b ∷ 0 ∷ 0 ∷ link ∷ []

-- skip, and the end of block 0
abbrev skips : List ℕ
skips = 2 ∷ stmt 0 0 0 0 ++ stmt 13 0 0 0

-- a program with one type
abbrev typed : List ℕ → List ℕ
typed row = table (1 ∷ row) none none program none none skips

-- a program with one guard: if, arm, skip, end
abbrev guarded : List ℕ → List ℕ
guarded node =
    table none none none program none (1 ∷ node) (5 ∷ stmt 6 0 0 0 ++ (stmt 10 0 0 3 ++ (stmt 0 0 0 0 ++ (stmt 11 0 0 0 ++ stmt 13 0 0 0))))

-- block 0, and a process module that owns the only variable; block 0 assigns 1 to it
abbrev assigned : List ℕ
assigned =
    table none none (1 ∷ 0 ∷ 0 ∷ []) (2 ∷ block 0 0 0 0 0 0 ++ block 1 1 0 1 2 0) none
    (2 ∷ (1 ∷ 0 ∷ 0 ∷ 0 ∷ 0 ∷ []) ++ (0 ∷ 0 ∷ 0 ∷ 1 ∷ 0 ∷ []))
    (4 ∷ stmt 1 0 1 0 ++ (stmt 13 0 0 0 ++ (stmt 0 0 0 0 ++ stmt 13 1 0 0)))

-- a program with string constants, from first characters on of so many, that tests whether both are equal; its eighth section
abbrev titled : List ℕ → List ℕ → List ℕ → List ℕ
titled left right characters =
    table none none none program none (3 ∷ left ++ (right ++ (6 ∷ 0 ∷ 1 ∷ 1 ∷ 0 ∷ [])))
    (5 ∷ stmt 6 0 0 0 ++ (stmt 10 2 0 3 ++ (stmt 0 0 0 0 ++ (stmt 11 0 0 0 ++ stmt 13 0 0 0))))
    ++ characters

-- a string node: first character, length, v
abbrev text : ℕ → ℕ → ℕ → List ℕ
text first length v = 8 ∷ first ∷ length ∷ v ∷ 0 ∷ []

pub examples :
    -- the listing example of 01: accepted; its sections end early; bytes are left over; zero bytes are read as it
    (verdict 1 (table none none none program none none skips) ≡ 0)
    × (verdict 1 (table none none none program none none (2 ∷ stmt 0 0 0 0)) ≡ 2)
    × (verdict 1 (table none none none program none none (skips ++ (0 ∷ 0 ∷ []))) ≡ 2)
    × (verdict 1 [] ≡ 0)
    -- a skip with an operand; a space that is odd; a constant that nothing uses; a block with no statement but its end
    × (verdict 1 (table none none none program none none (2 ∷ stmt 0 1 0 0 ++ stmt 13 0 0 0)) ≡ 3)
    × (verdict 1 (table none none none (1 ∷ block 0 0 0 0 0 1) none none skips) ≡ 4)
    × (verdict 1 (table none none none program none (1 ∷ 0 ∷ 0 ∷ 0 ∷ 0 ∷ 0 ∷ []) skips) ≡ 5)
    × (verdict 1 (table none none none program none none (1 ∷ stmt 13 0 0 0)) ≡ 6)
    -- an array of integers 1..200, 1..201, and 2..1; three characters
    × (verdict 1 (typed (2 ∷ 0 ∷ 0 ∷ 1 ∷ 0 ∷ 200 ∷ 0 ∷ [])) ≡ 0)
    × (verdict 1 (typed (2 ∷ 0 ∷ 0 ∷ 1 ∷ 0 ∷ 201 ∷ 0 ∷ [])) ≡ 7)
    × (verdict 1 (typed (2 ∷ 0 ∷ 0 ∷ 2 ∷ 0 ∷ 1 ∷ 0 ∷ [])) ≡ 7)
    × (verdict 1 (typed (2 ∷ 0 ∷ 2 ∷ 1 ∷ 0 ∷ 3 ∷ 0 ∷ [])) ≡ 7)
    -- a variable of another module; a guard that is true, one that is 1
    × (verdict 1 assigned ≡ 8)
    × (verdict 1 (guarded (0 ∷ 1 ∷ 0 ∷ 1 ∷ 0 ∷ [])) ≡ 0)
    × (verdict 1 (guarded (0 ∷ 0 ∷ 0 ∷ 1 ∷ 0 ∷ [])) ≡ 9)
    -- an eighth section of no characters; one that ends early; one of a character that nothing takes (02, b)
    × (verdict 1 (table none none none program none none (skips ++ (0 ∷ []))) ≡ 0)
    × (verdict 1 (table none none none program none none (skips ++ (2 ∷ 97 ∷ []))) ≡ 2)
    × (verdict 1 (table none none none program none none (skips ++ (1 ∷ 97 ∷ []))) ≡ 4)
    -- two strings: of one length, an odd one made even; of two lengths; out of order; empty; with v; with characters left; with character 128
    × (verdict 1 (titled (text 0 1 0) (text 1 2 0) (3 ∷ 97 ∷ 98 ∷ 0 ∷ [])) ≡ 0)
    × (verdict 1 (titled (text 0 2 0) (text 2 3 0) (5 ∷ 97 ∷ 98 ∷ 97 ∷ 98 ∷ 99 ∷ [])) ≡ 9)
    × (verdict 1 (titled (text 1 1 0) (text 0 1 0) (2 ∷ 97 ∷ 98 ∷ [])) ≡ 4)
    × (verdict 1 (titled (text 0 0 0) (text 0 1 0) (1 ∷ 97 ∷ [])) ≡ 4)
    × (verdict 1 (titled (text 0 1 1) (text 1 1 0) (2 ∷ 97 ∷ 98 ∷ [])) ≡ 3)
    × (verdict 1 (titled (text 0 1 0) (text 1 1 0) (3 ∷ 97 ∷ 98 ∷ 99 ∷ [])) ≡ 4)
    × (verdict 1 (titled (text 0 1 0) (text 1 1 0) (2 ∷ 97 ∷ 128 ∷ [])) ≡ 9)
unfolding basicsChoice.both basicsChoice.either basicsChoice.between basicsChoice.all_below basicsCourse.upto basicsCourse.course basicsChain.free basicsChain.carried basicsChain.chained basicsChain.step_take basicsChain.test_take basicsChain.taken basicsChain.always basicsMarks.occurs basicsMarks.gather basicsLoops.with_mark tableBytes.shorts tableBytes.words tableBytes.row_size tableBytes.field_at tableBytes.field_width tableBytes.rows_end tableBytes.rows_fit tableBytes.is_left_out tableBytes.section_end tableBytes.section_fits tableBytes.whole tableBytes.begins tableTable.count_at tableTable.cell_at tableTable.table_at tableEmpty.field tableEmpty.fields_of tableEmpty.listing tableEmpty.bytes_read tableEntries.declared typesTypes.field_of typesTypes.element_of typesTypes.unary_type typesTypes.binary_type typesTypes.operand_type typesTypes.node_type typesTypes.type_of typesMatch.offset typesMatch.span typesMatch.elements typesMatch.is_string typesTypes.evened typesTypes.type_of_node typesMatch.is_text typesMatch.characters typesMatch.same_number typesMatch.matching typesMatch.is_equal typesMatch.is_fit tableKinds.variable_kind tableKinds.expression_kind tableKinds.rows tableKinds.row_of tableKinds.held tableKinds.each_field tableKinds.names tableKinds.is_call entriesKnown.field_known entriesKnown.entry_known entriesKnown.section_known entriesKnown.known numbersSorts.nameable numbersSorts.limit numbersSorts.field_ranged numbersSorts.entry_ranged numbersDeclarations.is_record numbersDeclarations.record_first numbersDeclarations.record_count numbersDeclarations.fields_taken numbersDeclarations.field_below numbersDeclarations.record_ranged numbersDeclarations.type_ranged numbersDeclarations.module_of numbersDeclarations.named_modules numbersDeclarations.named_once numbersDeclarations.modules_once numbersBlocks.variables_taken numbersBlocks.program_placed numbersBlocks.owner_ranged numbersBlocks.space_ranged numbersBlocks.mode_placed numbersBlocks.variables_placed numbersBlocks.block_placed numbersBlocks.block_ranged numbersOperands.place_ranged numbersOperands.node_ranged numbersOperands.is_string_node numbersOperands.string_first numbersOperands.string_count numbersOperands.characters_taken numbersOperands.call_first numbersOperands.call_count numbersOperands.arguments_taken numbersRanges.in_order numbersRanges.types_ranged numbersRanges.declarations_ranged numbersRanges.operands_ranged numbersRanges.in_range numbersMarking.module_marked usesUses.field_uses usesUses.entry_uses usesUses.section_uses usesUses.uses usesUses.once usesUses.used_once nestingNest.class_of nestingNest.class nestingNest.stmt_end nestingNest.body_from nestingNest.arm_end nestingNest.closed nestingNest.arms_from nestingNest.after_block nestingNest.block_end nestingNest.block_ok nestingNest.nested nestingNest.block_step nestingBlocks.stmt_block tableEntries.stmt_limit nestingNest.body_end nestingNest.arms_end sizesSizes.sum_below sizesSizes.fields_words sizesSizes.type_words sizesSizes.words_of sizesSizes.part_words sizesSizes.offset_in typesMatch.in_standard sizesSizes.bounds_ok sizesSizes.even_string sizesSizes.type_ok sizesSizes.type_sized sizesSizes.types_sized sizesSizes.var_offset sizesSizes.module_words sizesSizes.block_sized sizesSizes.blocks_sized sizesSizes.sized sizesKept.kept scopesScopes.of_block scopesScopes.in_scope scopesScopes.field_scoped scopesScopes.node_scope scopesScopes.node_scoped scopesScopes.argument_scoped scopesScopes.arguments_scoped scopesScopes.stays_in scopesScopes.stmt_scoped scopesScopes.scoped typingTyping.element_typed typingTyping.unary_typed typingTyping.alike_typed typingTyping.binary_typed typingTyping.node_typed typingTyping.argument_typed typingTyping.parameter_typed typingTyping.arguments_typed typingTyping.process_call_typed typingTyping.start_typed typingTyping.call_typed typingTyping.write_typed typingTyping.stmt_typed typingTyping.simple typingTyping.param_simple typingTyping.params_simple typingTyping.character_typed typingTyping.typed typingParts.parameter_in judged_late judged_uses judged judged_bytes verdict
examples = (refl, refl, refl, refl, refl, refl, refl, refl, refl, refl, refl, refl, refl, refl, refl, refl, refl, refl, refl, refl, refl, refl, refl, refl, refl)
