-- The dual of the automaton of a formula is the automaton of the negation.
use Rattle.std.proofs.Common.{◌≡◌, sym, ap, ◌∙◌}
use Rattle.psl_tree.specs.Trees.{Formula, Not}
use Rattle.alternating_theory.specs.Built.{unmerged, built}
use Rattle.alternating_theory.specs.Construction.{HasNoClock, part_of}
use Rattle.alternating_theory.specs.Dual.{opposite_automaton}
use Rattle.alternating_theory.specs.Merged.{merged}
use Rattle.alternating_theory.specs.Obligations.{Automaton}
use Rattle.alternating_theory.proofs.Built.{unmerged-names}
use Rattle.alternating_theory.proofs.Classes.{pass_opposite}
use Rattle.alternating_theory.proofs.Duals.{finished-opposite}

pub opposite_built : (f : Formula) → HasNoClock f → opposite_automaton (built f) ≡ built (Not f)
opposite_built f h = sym (pass_opposite (unmerged f) (unmerged-names f h)) ∙ ap (λ (a : Automaton). merged a) (sym (finished-opposite (part_of 0 f)))
