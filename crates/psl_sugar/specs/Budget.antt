-- What a builder answers: the tree that was asked for, or that it has more than 4,096 constructors,
-- or that memory was refused.
use Rattle.std.specs.Prelude.{◌≡◌, ◌<◌, Result, Ok, Err}
use Rattle.psl_tree.specs.declared.counts.TheConstants.{MOST_CONSTRUCTORS}
use Rattle.psl_tree.specs.Trees.{Boolean, Sequence, Formula}
use Rattle.psl_tree.specs.Counts.{boolean_size, sequence_size, formula_size}
use Rattle.psl_sugar.specs.declared.fault.SugarFault.{SugarFault}
use Rattle.psl_sugar.specs.declared.fault.SugarFault.TheVariants.{TooLarge}

abbrev pub GivesBoolean : Result Boolean SugarFault → Boolean → Type 0
GivesBoolean (Ok new) wanted = new ≡ wanted
GivesBoolean (Err fault) wanted = fault ≡ TooLarge → MOST_CONSTRUCTORS < boolean_size wanted

abbrev pub GivesSequence : Result Sequence SugarFault → Sequence → Type 0
GivesSequence (Ok new) wanted = new ≡ wanted
GivesSequence (Err fault) wanted = fault ≡ TooLarge → MOST_CONSTRUCTORS < sequence_size wanted

abbrev pub GivesFormula : Result Formula SugarFault → Formula → Type 0
GivesFormula (Ok new) wanted = new ≡ wanted
GivesFormula (Err fault) wanted = fault ≡ TooLarge → MOST_CONSTRUCTORS < formula_size wanted
