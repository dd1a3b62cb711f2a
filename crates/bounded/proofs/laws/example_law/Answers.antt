use Rattle.std.proofs.Common.{refl}
use Rattle.gates_covers.specs.Greedy.{all_rows, fits_one, opposite, rows_asking}
use Rattle.gates_covers.specs.Points.{points}
use Rattle.bounded.specs.Searches.{asked_of, search_frame}
use Rattle.bounded.proofs.laws.example_law.Goals as goal

pub returns : goal.returns
unfolding asked_of search_frame opposite all_rows rows_asking fits_one points
returns c = record { variables = refl; words = refl; run = refl }
