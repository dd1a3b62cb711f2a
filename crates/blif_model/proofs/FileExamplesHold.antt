-- The worked examples of texts with several models hold, by computing.
use Rattle.std.proofs.Common.{refl}
use Rattle.blif_model.specs.FileExamples.{FurtherWithoutName, NoTitle, PlacedBehindTheEnd, RowBehindPlacement, TwiceNamed, TwoModels}

pub two_models : TwoModels
two_models = refl

pub no_title : NoTitle
no_title = refl

pub twice_named : TwiceNamed
twice_named = refl

pub placed_behind_the_end : PlacedBehindTheEnd
placed_behind_the_end = refl

pub further_without_name : FurtherWithoutName
further_without_name = refl

pub row_behind_placement : RowBehindPlacement
row_behind_placement = refl

pub ruleset file_examples = (two_models, no_title, twice_named, placed_behind_the_end, further_without_name, row_behind_placement)
