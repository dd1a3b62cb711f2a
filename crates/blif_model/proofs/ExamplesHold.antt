-- The worked examples hold.
use Rattle.std.proofs.Common.{refl}
use Rattle.blif_model.specs.Examples.{LinesAreJoined, BackslashIsPart, NamesInOrder, UnknownWord, ModelBehindInputs, RowWithoutTable, RowOfAnotherOutput, LatchOfOneWord, LatchOfALevel, LatchesOfTwoClocks, InputTwice, BackslashAtTheEnd, LineBehindTheEnd}

pub lines_are_joined : LinesAreJoined
lines_are_joined = refl

pub backslash_is_part : BackslashIsPart
backslash_is_part = refl

pub names_in_order : NamesInOrder
names_in_order = refl

pub unknown_word : UnknownWord
unknown_word = refl

pub model_behind_inputs : ModelBehindInputs
model_behind_inputs = refl

pub row_without_table : RowWithoutTable
row_without_table = refl

pub row_of_another_output : RowOfAnotherOutput
row_of_another_output = refl

pub latch_of_one_word : LatchOfOneWord
latch_of_one_word = refl

pub latch_of_a_level : LatchOfALevel
latch_of_a_level = refl

pub latches_of_two_clocks : LatchesOfTwoClocks
latches_of_two_clocks = refl

pub input_twice : InputTwice
input_twice = refl

pub backslash_at_the_end : BackslashAtTheEnd
backslash_at_the_end = refl

pub line_behind_the_end : LineBehindTheEnd
line_behind_the_end = refl

pub ruleset examples = (lines_are_joined, backslash_is_part, names_in_order, unknown_word, model_behind_inputs, row_without_table, row_of_another_output, latch_of_one_word, latch_of_a_level, latches_of_two_clocks, input_twice, backslash_at_the_end, line_behind_the_end)
