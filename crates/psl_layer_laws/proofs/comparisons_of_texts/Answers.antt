use Rattle.psl_layer_laws.proofs.Compared.{texts_compare_numbers}
use Rattle.psl_layer_laws.proofs.comparisons_of_texts.Goals as goal

pub returns : goal.returns
returns c = texts_compare_numbers
