use Rattle.std.proofs.Common.{◌≡◌, ◌+◌, ◌*◌, min}
use Rattle.code.specs.Code.{decoded}
use Rattle.sizes.specs.Sizes.{offset_in}
use Rattle.sizes.proofs.+fields_words_words.Given as goal

-- the type number falls: a part has a lower number than the type that it is a part of
abbrev pub decreases-fields_words : goal.decreases-fields_words
decreases-fields_words l = 2 * l.n

abbrev pub decreases-words : goal.decreases-words
decreases-words l = 2 * l.n + 1

abbrev pub invariant-fields_words-loop-i : goal.invariant-fields_words-loop-i
invariant-fields_words-loop-i l = l.sum ≡ min (offset_in (decoded l.c) l.n l.i) 201
