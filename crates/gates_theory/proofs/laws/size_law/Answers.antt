use Rattle.gates_theory.proofs.Sizes.{unrolled-words, distinct-words}
use Rattle.gates_theory.proofs.Within.{unrolled-within, distinct-all_within}
use Rattle.gates_theory.proofs.laws.size_law.Goals as goal

pub returns : goal.returns
returns c = record {
  unrolled = λ circuit positions sound. (unrolled-words circuit positions sound, unrolled-within circuit positions sound);
  distinct = λ circuit variables positions sound fits.
      (distinct-words circuit variables positions, distinct-all_within circuit variables positions sound fits);
}
