-- The readings of 02 (a) at small texts: longest first, numerals (6.1), constants (6.2, 6.3), comments and lines. Assumes nothing.
use Prim.Native.Nat.{ℕ}
use mathlib.Core.Path.{◌≡◌, refl}
use mathlib.Core.List.{[], ◌∷◌}
use Rattle.basics.specs.Choice.{both, either, between}
use Rattle.symbols.specs.Characters.{graphic, letter, digit, octal_digit, in_name, in_comment, plain_graphic, small}
use Rattle.symbols.specs.Runs.{span_length, new_lines}
use Rattle.symbols.specs.Constants.{signed, numeral_length, character_length, characters_length, constant_length}
use Rattle.symbols.specs.Vocabulary.{name_length, special_symbols, begins_with, longest, special_length, word_symbols, same_bytes, among, is_word}
use Rattle.symbols.specs.Symbols.{or_else, symbol_length, name_kind, constant_kind, symbol_kind, comment_length, Symbol, fault, found, more, symbols_from, symbols_of}

abbrev at : ℕ → ℕ → ℕ → ℕ → Symbol
at kind line place size = record { kind = kind; line = line; place = place; size = size }

-- 1..5    ...    #178    #8    12#7
pub numbers_and_signs :
    (symbols_of (49 ∷ 46 ∷ 46 ∷ 53 ∷ []) ≡ found (at 4 1 0 1 ∷ at 1 1 1 2 ∷ at 4 1 3 1 ∷ []))
    × (symbols_of (46 ∷ 46 ∷ 46 ∷ []) ≡ found (at 1 1 0 2 ∷ at 1 1 2 1 ∷ []))
    × (symbols_of (35 ∷ 49 ∷ 55 ∷ 56 ∷ []) ≡ found (at 4 1 0 3 ∷ at 4 1 3 1 ∷ []))
    × (symbols_of (35 ∷ 56 ∷ []) ≡ fault)
    × (symbols_of (49 ∷ 50 ∷ 35 ∷ 55 ∷ []) ≡ found (at 4 1 0 2 ∷ at 4 1 2 2 ∷ []))
unfolding symbols_of symbols_from more comment_length symbol_kind constant_kind name_kind symbol_length or_else is_word among same_bytes word_symbols special_length longest begins_with special_symbols name_length constant_length characters_length character_length numeral_length signed new_lines span_length small plain_graphic in_comment in_name octal_digit digit letter graphic between both either
numbers_and_signs = (refl, refl, refl, refl, refl)

-- Mod x<>y2
pub words_and_names :
    (symbols_of (77 ∷ 111 ∷ 100 ∷ 32 ∷ 120 ∷ 60 ∷ 62 ∷ 121 ∷ 50 ∷ []) ≡ found (at 2 1 0 3 ∷ at 3 1 4 1 ∷ at 1 1 5 2 ∷ at 3 1 7 2 ∷ []))
unfolding symbols_of symbols_from more comment_length symbol_kind constant_kind name_kind symbol_length or_else is_word among same_bytes word_symbols special_length longest begins_with special_symbols name_length constant_length characters_length character_length numeral_length signed new_lines span_length small plain_graphic in_comment in_name octal_digit digit letter graphic between both either
words_and_names = refl

-- '@105'    '@10a'    '@#18'    'A''"'    ''    'a    '@'
pub quoted_constants :
    (symbols_of (39 ∷ 64 ∷ 49 ∷ 48 ∷ 53 ∷ 39 ∷ []) ≡ found (at 5 1 0 6 ∷ []))
    × (symbols_of (39 ∷ 64 ∷ 49 ∷ 48 ∷ 97 ∷ 39 ∷ []) ≡ found (at 6 1 0 6 ∷ []))
    × (symbols_of (39 ∷ 64 ∷ 35 ∷ 49 ∷ 56 ∷ 39 ∷ []) ≡ found (at 6 1 0 6 ∷ []))
    × (symbols_of (39 ∷ 65 ∷ 39 ∷ 39 ∷ 34 ∷ 39 ∷ []) ≡ found (at 5 1 0 3 ∷ at 5 1 3 3 ∷ []))
    × (symbols_of (39 ∷ 39 ∷ []) ≡ fault)
    × (symbols_of (39 ∷ 97 ∷ []) ≡ fault)
    × (symbols_of (39 ∷ 64 ∷ 39 ∷ []) ≡ fault)
unfolding symbols_of symbols_from more comment_length symbol_kind constant_kind name_kind symbol_length or_else is_word among same_bytes word_symbols special_length longest begins_with special_symbols name_length constant_length characters_length character_length numeral_length signed new_lines span_length small plain_graphic in_comment in_name octal_digit digit letter graphic between both either
quoted_constants = (refl, refl, refl, refl, refl, refl, refl)

-- ""    "a    "a\n"\nx    a\tb    (nothing)
pub passed_and_refused :
    (symbols_of (34 ∷ 34 ∷ []) ≡ found [])
    × (symbols_of (34 ∷ 97 ∷ []) ≡ fault)
    × (symbols_of (34 ∷ 97 ∷ 10 ∷ 34 ∷ 10 ∷ 120 ∷ []) ≡ found (at 3 3 5 1 ∷ []))
    × (symbols_of (97 ∷ 9 ∷ 98 ∷ []) ≡ fault)
    × (symbols_of [] ≡ found [])
unfolding symbols_of symbols_from more comment_length symbol_kind constant_kind name_kind symbol_length or_else is_word among same_bytes word_symbols special_length longest begins_with special_symbols name_length constant_length characters_length character_length numeral_length signed new_lines span_length small plain_graphic in_comment in_name octal_digit digit letter graphic between both either
passed_and_refused = (refl, refl, refl, refl, refl)
