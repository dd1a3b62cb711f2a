-- Nodes stay while the literals that serve an obligation are made behind them.
use Rattle.std.specs.Prelude.{◌||◌, ℕ, suc, ℤ, neg_ℤ, Bool, true, false, cond, nat_lt, List, [], ◌∷◌, length}
use Rattle.std.proofs.Math.Nat.{le_trans}
use Rattle.alternating_theory.specs.Obligations.{Automaton, obligation_at}
use Rattle.gates_builder.specs.Adding.{Making, with_nodes}
use Rattle.gates_letters.specs.Extending.{Extends, extends-same}
use Rattle.gates_letters.proofs.Growing.{PartExtends, extends-conjoined, extends-either, extends-joined, extends-then, more-extends}
use Rattle.gates_nodes.specs.declared.node.Node.{Node}
use Rattle.gates_nodes.specs.Folding.{conjoined, either}
use Rattle.gates_nodes.specs.Nodes.{no}
use Rattle.bounded.specs.Obligations.{digit_exceeds, exceeds, falls, not_less, served, unless_exceeded}
use Rattle.bounded.specs.Places.{number_at, owed_at}
use Rattle.bounded.specs.Serving.{HasPlaces, served_if}

pub extends-not_less : (exceeded first second : ℤ) → PartExtends (not_less exceeded first second)
extends-not_less exceeded first second nodes =
    let part = either 0 nodes first (neg_ℤ second) in
    extends-then nodes part.nodes (conjoined 0 part.nodes exceeded part.output).nodes (extends-either 0 nodes first (neg_ℤ second)) (extends-conjoined 0 part.nodes exceeded part.output)

pub extends-digit : (exceeded first second : ℤ) → PartExtends (digit_exceeds exceeded first second)
extends-digit exceeded first second nodes =
    extends-joined 0 (either 0) (λ others. conjoined 0 others first (neg_ℤ second)) (not_less exceeded first second) (extends-either 0)
    (λ others. extends-conjoined 0 others first (neg_ℤ second)) (extends-not_less exceeded first second) nodes

pub extends-exceeds : (firsts seconds : List ℤ) (equal : ℤ) → PartExtends (exceeds equal firsts seconds)
extends-exceeds [] seconds equal nodes = extends-same nodes
extends-exceeds (first ∷ firsts) [] equal nodes = extends-same nodes
extends-exceeds (first ∷ firsts) (second ∷ seconds) equal nodes =
    let part = digit_exceeds equal first second nodes in
    extends-then nodes part.nodes (exceeds part.output firsts seconds part.nodes).nodes (extends-digit equal first second nodes) (extends-exceeds firsts seconds part.output part.nodes)

module _ (a : Automaton) (n before : ℕ) where
  pub extends-served : (p q r : ℕ) → PartExtends (served a n before p q r)
  extends-served p q r nodes = by ((obligation_at a.obligations q).accepting || (obligation_at a.obligations r).accepting)
    where
      by : (b : Bool) → Extends nodes (cond b (record { nodes = nodes; output = owed_at a before (suc p) r })
          (unless_exceeded (owed_at a before (suc p) r) (exceeds (falls n p) (number_at a before (suc p) r) (number_at a before p q) nodes))).nodes
      by true = extends-same nodes
      by false =
          let part = exceeds (falls n p) (number_at a before (suc p) r) (number_at a before p q) nodes in
          extends-then nodes part.nodes (unless_exceeded (owed_at a before (suc p) r) part).nodes
          (extends-exceeds (number_at a before (suc p) r) (number_at a before p q) (falls n p) nodes) (extends-conjoined 0 part.nodes (owed_at a before (suc p) r) (neg_ℤ part.output))

  pub extends-served_if : (p q r : ℕ) → PartExtends (served_if a n before p q r)
  extends-served_if p q r nodes = by (nat_lt r (length a.obligations))
    where
      by : (b : Bool) → Extends nodes (cond b (served a n before p q r nodes) (record { nodes = nodes; output = no 0 })).nodes
      by true = extends-served p q r nodes
      by false = extends-same nodes

  pub has-still : (making : Making) (nodes : List Node) → HasPlaces a n before making → Extends making.nodes nodes → HasPlaces a n before (with_nodes making nodes)
  has-still making nodes has extends = record { given = has.given; many = le_trans has.many (more-extends 0 making.nodes nodes extends) }
