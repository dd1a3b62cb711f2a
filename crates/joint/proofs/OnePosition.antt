-- Circuits of one position: how many gates they have where there are too many, and that they are sound.
use Rattle.std.proofs.Common.{◌≡◌, ℕ, ◌<◌, ◌≤◌, List, [], length, replicate, None, Err, sym, ap, ◌∙◌, subst, arith}
use Rattle.std.proofs.lemmas.List.{length-replicate}
use Rattle.gates_theory.specs.declared.circuit.Circuit.{Circuit}
use Rattle.gates_theory.specs.declared.circuit.Gate.{Gate}
use Rattle.gates_theory.specs.declared.circuit.Gate.TheVariants.{Free}
use Rattle.gates_theory.specs.Circuits.{IsSound}
use Rattle.gates_theory.specs.Relations.{circuit_of, variables_of, IsClosed, Relation}
use Rattle.gates_theory.specs.Terms.{Term, built_all}
use Rattle.gates_theory.proofs.Chains.{relation-sound}
use Rattle.clauses.specs.declared.flat.CnfFault.{CnfFault}
use Rattle.clauses.specs.declared.flat.TheConstants.{MOST_VARIABLES}
use Rattle.run_gates.specs.Building.{kept_all, BuildsAll, Holding}
use Rattle.run_terms.specs.Sizes.{terms_size}
use Rattle.run_terms.proofs.FormulaSizes.{gates-length}
use Rattle.joint.proofs.Circuits.{all-length}

-- the gates of terms behind free ones, where the numbers of these and the terms are written in another way
pub terms-large : (count many : ℕ) (terms others : List Term) (free new : List Gate) (none held : Holding) (fault : CnfFault) → many ≡ count → terms ≡ others
    → free ≡ replicate count Free → none ≡ record { guard = None; literals = [] } → BuildsAll free new none held terms (Err fault) → fault ≡ CnfFault.TooLarge
    → MOST_VARIABLES < length (built_all (replicate many Free) others).gates
terms-large count many terms others free new none held fault same also free_is none_is failed too =
    let some = ap length free_is ∙ length-replicate count Free in
    let kept = ap (λ (h : Holding). terms_size (kept_all h.guard terms)) none_is in
    omega (arith, failed.large too, some, kept, ap terms_size also, all-length (replicate many Free) others, length-replicate many Free)

-- the circuit of a relation
module _ (relation : Relation) (closed : IsClosed relation) (circuit : Circuit) (is : circuit ≡ circuit_of relation) where
  pub alone-sound : IsSound circuit
  alone-sound = subst IsSound (sym is) (relation-sound relation closed)

  pub alone-wide : variables_of relation ≤ length circuit.gates
  alone-wide = omega (arith, gates-length relation closed, ap (λ (c : Circuit). length c.gates) is)
