-- Nodes only become more while obligations are asked.
use Rattle.std.proofs.Common.{ℕ, suc, ℤ, List, [], ◌∷◌, fold, length}
use Rattle.std.specs.List.{range_with_len}
use Rattle.alternating_theory.specs.Obligations.{Automaton, obligation_at}
use Rattle.gates_letters.specs.Extending.{Extends, extends-same}
use Rattle.gates_letters.proofs.Growing.{PartExtends, extends-combination, extends-then}
use Rattle.gates_nodes.specs.declared.node.Node.{Node}
use Rattle.bounded.specs.Extending.{extends-served}
use Rattle.bounded.specs.Obligations.{Asked, literals_before, obligation_built, served, with_obligation, with_place, with_places}
use Rattle.bounded.specs.Searches.{asked_of, before_places, literals_of, placed_nodes}
use Rattle.netlist.specs.Design.{Design}

module _ (a : Automaton) (n before : ℕ) where
  pub extends-obligation : (frames : ℕ → List ℤ) (p q : ℕ) → PartExtends (obligation_built a frames n before p q)
  extends-obligation frames p q nodes =
      extends-combination 0 (literals_before frames p) (frames p) (served a n before p q) (λ r. extends-served a n before p q r) (obligation_at a.obligations q).delta nodes

pub extends-fold : (step : Asked → ℕ → Asked) → ((now : Asked) (x : ℕ) → Extends now.nodes (step now x).nodes) → (xs : List ℕ) (now : Asked) → Extends now.nodes (fold step now xs).nodes
extends-fold step extends [] now = extends-same now.nodes
extends-fold step extends (x ∷ xs) now =
    extends-then now.nodes (step now x).nodes (fold step (step now x) xs).nodes (extends now x) (extends-fold step extends xs (step now x))

module _ (a : Automaton) (frames : ℕ → List ℤ) (n before : ℕ) where
  pub extends-with_obligation : (p : ℕ) (now : Asked) (q : ℕ) → Extends now.nodes (with_obligation a frames n before p now q).nodes
  extends-with_obligation p now q = extends-obligation a n before frames p q now.nodes

  pub extends-with_place : (now : Asked) (p : ℕ) → Extends now.nodes (with_place a frames n before now p).nodes
  extends-with_place now p = extends-fold (with_obligation a frames n before p) (extends-with_obligation p) (range_with_len 0 (length a.obligations)) now

  pub extends-with_places : (nodes : List Node) → Extends nodes (with_places a frames n before nodes).nodes
  extends-with_places nodes = extends-fold (with_place a frames n before) extends-with_place (range_with_len 0 (suc n)) (record { nodes = nodes; clauses = [] })

-- so the nodes of frames and the bits of places stay in those of a search
pub extends-asked : (d : Design) (a : Automaton) (n : ℕ) → Extends (placed_nodes d a n) (asked_of d a n).nodes
unfolding asked_of
extends-asked d a n = extends-with_places a (literals_of d a) n (before_places d a n) (placed_nodes d a n)
