-- What meets obligations, by bits and by lists.
use Rattle.std.proofs.Common.{◌≡◌, sym, ◌∙◌, ℕ, ◌<◌, Bool as Truth, List, length}
use Rattle.std.specs.Prelude.{All, slice_index_or}
use Rattle.alternating_theory.specs.Obligations.{Automaton}
use Rattle.alternating_theory.proofs.MetLaws.{met-same}
use Rattle.psl_tree.specs.declared.letter.Letter.{Letter}
use Rattle.run_terms.specs.Automata.{IsSound}
use Rattle.joint_theory.specs.States.{delta_of, AreMet}

-- only the values of obligations count
pub met-alike : (automaton : Automaton) (letter : Letter) (numbers : List ℕ) (values others : ℕ → Truth) → IsSound automaton
    → All (λ number. number < length automaton.obligations) numbers
    → ((number : ℕ) → number < length automaton.obligations → values number ≡ others number)
    → AreMet automaton letter values numbers → AreMet automaton letter others numbers
met-alike automaton letter numbers values others sound within same are place other low =
    let number = slice_index_or numbers place other in
    sym (met-same 0 (length automaton.obligations) (delta_of automaton number) (sound.owed number (within place other low)) letter values others
    (λ each _ below. same each below)) ∙ are place other low
